-- A format with its rows and its columns exchanged is refused just the same.
use Rattle.std.proofs.Common.{◌≡◌, ℕ, arith}
use Rattle.std.proofs.lemmas.Grind.{common_steps}
use Rattle.store.specs.Grids.{format_refusal}

pub exchanged : (k r c n : ℕ) → format_refusal k c r n ≡ format_refusal k r c n
exchanged k r c n = grind (arith, common_steps)
