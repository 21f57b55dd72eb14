-- The tables of powers and logarithms that a width and a polynomial give.
use Rattle.std.specs.Prelude.{ℕ, zero, suc, ◌-◌, ◌^◌, List, [], ◌∷◌, set, replicate}
use Rattle.galois.specs.Field.{double}

-- x, α·x, .., n of them
unfoldable pub powers_from : ℕ → ℕ → ℕ → ℕ → List ℕ
powers_from m p zero x = []
powers_from m p (suc n) x = x ∷ powers_from m p n (double m p x)

unfoldable pub powers : ℕ → ℕ → List ℕ
powers m p = powers_from m p (2 ^ m - 1) 1

-- the table with i, i + 1, .. entered at the elements of the list
unfoldable pub entered : List ℕ → ℕ → List ℕ → List ℕ
entered [] i table = table
entered (x ∷ xs) i table = entered xs (suc i) (set table x i)

unfoldable pub logarithms : ℕ → ℕ → List ℕ
logarithms m p = entered (powers m p) 0 (replicate (2 ^ m) 0)
