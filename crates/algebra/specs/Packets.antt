-- Packets as rows over an XOR group, and the action of the field on them.
use Rattle.std.specs.Prelude.{ℕ, zero, suc, ◌^◌, ◌<◌}
use Rattle.std.proofs.Math.Decide.{dec_lt}
use Rattle.std.specs.Int.Bits.{bit_xor, xor_assoc, xor_self, xor_zero_l}
use Rattle.std.proofs.lemmas.Nat.{xor_comm}
use Rattle.algebra.specs.Code.{bit}
use Rattle.algebra.specs.Laws.{Xor, Ops, sum}

-- words under the exclusive or
abbrev pub words : Xor ℕ
words = record { none = 0; ◌⊞◌ = bit_xor; assoc = xor_assoc; comm = xor_comm; self = xor_self; nil = xor_zero_l }

-- r if the bit b is set
unfoldable pub pick : {R : Type 0} → Xor R → ℕ → R → R
pick G zero r = G.none
pick G (suc b) r = r

-- m rows of R
abbrev pub Rows : ℕ → Type 0 → Type 0
Rows m R = (j : ℕ) → j < m → R

-- the sum of rows, row by row
abbrev pub rows_xor : {R : Type 0} (m : ℕ) → Xor R → Xor (Rows m R)
rows_xor m G = record {
  none = λ j h. G.none;
  ◌⊞◌ = λ p q j h. G.◌⊞◌ (p j h) (q j h);
  assoc = λ p q r i j h. G.assoc (p j h) (q j h) (r j h) i;
  comm = λ p q i j h. G.comm (p j h) (q j h) i;
  self = λ p i j h. G.self (p j h) i;
  nil = λ p i j h. G.nil (p j h) i;
}

-- row j, and nothing past the last
unfoldable pub row : {R : Type 0} → Xor R → (m : ℕ) → Rows m R → ℕ → R
row G m p j = elim (dec_lt j m) [ yes h ↦ p j h | no h ↦ G.none ]

-- row i of a times the rows f: the sum of the rows j for which bit i of a times 2 ^ j is 1
unfoldable pub mixed : {R : Type 0} → Xor R → ℕ → (ℕ → ℕ → ℕ) → ℕ → (ℕ → R) → ℕ → R
mixed G m prod a f i = sum G m (λ j. pick G (bit i (prod a (2 ^ j))) (f j))

-- a times the rows p
unfoldable pub act : {R : Type 0} → Xor R → (m : ℕ) → (ℕ → ℕ → ℕ) → ℕ → Rows m R → Rows m R
act G m prod a p i h = mixed G m prod a (row G m p) i

-- the field's operations and its action on rows
abbrev pub ops : {R : Type 0} → Xor R → (m : ℕ) → (ℕ → ℕ → ℕ) → (ℕ → ℕ) → Ops ℕ (Rows m R)
ops G m prod inv = record { ◌·◌ = act G m prod; ◌⊕◌ = bit_xor; ◌⊗◌ = prod; one = 1; inv = inv }

-- the elements of the field
abbrev pub Ok : ℕ → ℕ → Type 0
Ok m a = a < 2 ^ m

-- its nonzero elements
abbrev pub Nz : ℕ → ℕ → Type 0
Nz m a = (0 < a) × (a < 2 ^ m)
