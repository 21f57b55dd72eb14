use Rattle.std.proofs.Common.{◌≡◌, ℕ, ◌*◌, ◌%◌, ◌^◌, ◌<◌, ◌≤◌, get_or, ap, ◌∙◌, mod-eq_of_lt, arith, rules}
use lib.Pow.{pow-lt}
use borrow.Author.Tests.{tests}
use Rattle.std.proofs.lemmas.Nat.{one_shl}
use Rattle.code.proofs.FromFn.{each_made}
use Rattle.code.proofs.matrix.columns.Goals as goal

-- 1 << j is 2^j, an element
unit : (m j : ℕ) → j < m → m ≤ 10 → (1 * 2 ^ j) % 2 ^ 32 % 2 ^ m ≡ 2 ^ j
unit m j h k = ap (λ (x : ℕ). x % 2 ^ m) (one_shl j 32 (omega arith)) ∙ mod-eq_of_lt (pow-lt h)

pub returns : goal.returns
returns g c = λ j h.
    let f = g.F.Arithmetic in
    let narrow = g.met.F.Arithmetic.field.narrow in
    let made : get_or c.from_fn.result j 0 ≡ f.prod (c.args.a % 2 ^ f.bits) ((1 * 2 ^ j) % 2 ^ 32 % 2 ^ f.bits) = each_made _ _ (λ k y. y ≡ f.prod (c.args.a % 2 ^ f.bits) ((1 * 2 ^ k) % 2 ^ 32 % 2 ^ f.bits)) c.from_fn.result (λ k y q called. search (rules, tests)) 10 j c.from_fn.ensures.items.each (omega arith) in
    made ∙ ap (f.prod (c.args.a % 2 ^ f.bits)) (unit f.bits j h narrow)
