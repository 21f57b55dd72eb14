use Rattle.std.proofs.Common.{◌≡◌, ℕ, ◌<◌, get_or, arith, rules}
use borrow.Author.Tests.{tests}
use Rattle.layout.proofs.losses.LossList.parity.Goals as goal
use Rattle.layout.proofs.losses.LossList.parity.Goals.{After-from_fn}

identity : (c : After-from_fn) (s : ℕ) → s < 32 → get_or c.from_fn.result s 0 ≡ s
identity c s h = let (p, q, called) = c.from_fn.ensures.items.at s 0 h in search (rules, tests)

pub invariant_of-result : goal.invariant_of-result
invariant_of-result c = record { few = omega arith; ascends = λ i j lt le. let a = identity c.before i (omega arith) in let b = identity c.before j (omega arith) in omega arith }
