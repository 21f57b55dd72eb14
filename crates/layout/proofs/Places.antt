-- The places of equal parts in a run of M parts of P words.
use Rattle.std.proofs.Common.{◌≡◌, ℕ, ◌+◌, ◌*◌, ◌<◌, ◌≤◌, sym, ◌∙◌, ap₂, mul-le-mul_right, add-mul, arith}

-- part i ends within the run
pub part_ends : (i m p : ℕ) {M P n : ℕ} → m ≡ M → p ≡ P → n ≡ M * P → i < m → i * p + p ≤ n
part_ends i m p {M} {P} {n} em ep en lt =
    let h : (i + 1) * p ≤ m * p = mul-le-mul_right p (omega arith) in
    let e : m * p ≡ n = ap₂ ◌*◌ em ep ∙ sym en in
    omega (arith, h, e, add-mul i 1 p)
