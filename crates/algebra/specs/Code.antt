-- The erasure code, over numbers.
use Rattle.std.specs.Prelude.{◌≡◌, ℕ, zero, suc, ◌-◌, ◌*◌, ◌/◌, ◌%◌, ◌^◌, ◌<◌, ◌≤◌, Bool, true, false, cond, ◌==◌, bit_xor}
use Rattle.galois.specs.Field.{FieldLaws, power}

-- the exclusive or of f 0 .. f (n - 1)
unfoldable pub xors : ℕ → (ℕ → ℕ) → ℕ
xors zero f = 0
xors (suc n) f = bit_xor (xors n f) (f n)

-- bit i of a number
unfoldable pub bit : ℕ → ℕ → ℕ
bit i a = a / 2 ^ i % 2

-- a packet gives the word at a row and a place in the row
abbrev pub Packet : Type 0
Packet = ℕ → ℕ → ℕ

-- a block gives the packet at a position
abbrev pub Block : Type 0
Block = ℕ → Packet

-- a code: packets of `rows` rows of `words` words, `positions` of them in a block, `parity` of which are parity, and the field's product
pub record Code : Type 0 where
  pub rows : ℕ
  pub words : ℕ
  pub positions : ℕ
  pub parity : ℕ
  pub product : ℕ → ℕ → ℕ

-- the matrix of a, times a packet: row i is the exclusive or of the rows j for which bit i of a·α^j is 1
unfoldable pub scaled : Code → ℕ → Packet → Packet
scaled C a p i c = xors C.rows (λ j. bit i (C.product a (power C.product 2 j)) * p j c)

-- sum number μ of a block
unfoldable pub syndrome : Code → Block → ℕ → Packet
syndrome C b μ i c = xors C.positions (λ q. scaled C (power C.product 2 (μ * q)) (b q) i c)

-- two packets are equal within the rows and words of the code
abbrev pub SamePacket : Code → Packet → Packet → Type 0
SamePacket C p q = (i c : ℕ) → i < C.rows → c < C.words → p i c ≡ q i c

-- a packet is zero within the rows and words of the code
abbrev pub ZeroPacket : Code → Packet → Type 0
ZeroPacket C p = (i c : ℕ) → i < C.rows → c < C.words → p i c ≡ 0

-- two blocks have the same packets at the positions of the code
abbrev pub SameBlock : Code → Block → Block → Type 0
SameBlock C b d = (q : ℕ) → q < C.positions → SamePacket C (b q) (d q)

-- the words of a packet have 32 bits
abbrev pub Words32 : Code → Packet → Type 0
Words32 C p = (i c : ℕ) → i < C.rows → c < C.words → p i c < 2 ^ 32

-- a codeword: a block of words of 32 bits whose sums 0 .. parity - 1 are zero
pub record Codeword (C : Code) (b : Block) : Type 0 where
  pub words : (q : ℕ) → q < C.positions → Words32 C (b q)
  pub sums : (μ : ℕ) → μ < C.parity → ZeroPacket C (syndrome C b μ)

-- how many of the positions below n are marked
unfoldable pub count : (ℕ → Bool) → ℕ → ℕ
count marked zero = 0
count marked (suc n) = cond (marked n) (suc (count marked n)) (count marked n)

-- q is one of p 0 .. p (t - 1)
unfoldable pub among : (ℕ → ℕ) → ℕ → ℕ → Bool
among p zero q = false
among p (suc t) q = cond (q == p t) true (among p t q)

-- two blocks have the same packets at the marked positions
abbrev pub AgreeAt : Code → (ℕ → Bool) → Block → Block → Type 0
AgreeAt C held b d = (q : ℕ) → q < C.positions → held q ≡ true → SamePacket C (b q) (d q)

-- what a code needs: the laws of a field, no more positions than nonzero elements, fewer parity packets than positions, and a word in each row
pub record Proper (C : Code) (inv : ℕ → ℕ) : Type 0 where
  pub field : FieldLaws C.rows C.product inv
  pub short : C.positions ≤ 2 ^ C.rows - 1
  pub some : C.parity < C.positions
  pub filled : 0 < C.words
