-- What a board's answers depend on, besides what it is asked. A board is an unused receiver over an arithmetic and a store.
use Rattle.std.specs.Prelude.{ℕ}
use Rattle.galois.specs.Field.{product}
use Rattle.field.specs.declared.Arithmetic
use Rattle.field.specs.Equal.{EqualProducts}
use Rattle.store.specs.declared.SlotStore

-- the width and the product of its arithmetic, and the capacity of its store, in words
pub record Board : Type 0 where
  pub bits : ℕ
  pub product : ℕ → ℕ → ℕ
  pub capacity : ℕ

-- a board of an arithmetic and a store; one of either octet and a store
abbrev pub board : {F S : Type 0} → Arithmetic.Ghosts F → SlotStore.Ghosts S → S → Board
board f t store = record { bits = f.bits; product = f.prod; capacity = t.capacity store }

abbrev pub octet_board : {S : Type 0} → SlotStore.Ghosts S → S → Board
octet_board t store = record { bits = 8; product = product 8 0x11D; capacity = t.capacity store }

-- the widths of two boards are equal, and the products of all elements
abbrev pub SameProduct : Board → Board → Type 0
SameProduct P Q = EqualProducts P.bits P.product Q.bits Q.product
