use Rattle.std.proofs.Common.{◌≡◌, ℕ, ◌-◌, ◌*◌, ◌%◌, ◌^◌, ◌<◌, ◌≤◌, ap, ap₂, ◌∙◌, mod-eq_of_lt, arith}
use lib.Pow.{pow-lt, pow_mono}
use Rattle.galois.proofs.Laws.{alpha_to_width}
use Rattle.galois.proofs.Powers.{two_lt}
use Rattle.field.proofs.alpha.alpha_to_width.Goals as goal

pub returns : goal.returns
returns g c =
    let m = g.F.Arithmetic.bits in
    let t = g.met.F.PolynomialField.generates in
    let wide = t.wide in
    let narrow : 2 ^ m ≤ 2 ^ 10 = pow_mono t.narrow in
    let low : 2 ^ (m - 1) < 2 ^ m = pow-lt (omega arith) in
    let top : 1 * 2 ^ (c.width.result - 1) % 2 ^ 32 % 2 ^ m ≡ 2 ^ (m - 1) =
    rw c.width.ensures (ap (λ (x : ℕ). x % 2 ^ m) (mod-eq_of_lt (omega arith)) ∙ ap (λ (x : ℕ). x % 2 ^ m) (omega arith) ∙ mod-eq_of_lt low) in
    c.product.ensures
    ∙ ap₂ g.F.Arithmetic.prod (mod-eq_of_lt (two_lt g.met.F.Arithmetic.field)) top
    ∙ g.met.F.PolynomialField.reduces 2 (2 ^ (m - 1)) ∙ alpha_to_width m g.F.PolynomialField.poly t
