-- What a receiver stands for.
use Rattle.std.specs.Prelude.{◌≡◌, ℕ, List, Option, Result}
use Rattle.refusal.specs.declared.Refusal.{Refusal}
use Rattle.layout.specs.declared.shape.Shape.{Shape}
use Rattle.store.specs.Grids.{Grid, after_get}
use Rattle.field.specs.declared.Arithmetic
use Rattle.store.specs.declared.SlotStore
use Rattle.receiver.specs.declared.Receiver.{Receiver}

-- the shape, once one is set; how many words the store has; what its slots hold
pub record Meaning : Type 0 where
  pub shape : Option Shape
  pub capacity : ℕ
  pub grid : Grid

-- what a receiver means
abbrev pub means : {F S : Type 0} {f : Arithmetic.Ghosts F} {t : SlotStore.Ghosts S} → Receiver F S f t → Meaning
means {t} r = record { shape = r.shape; capacity = t.capacity r.store; grid = t.grid r.store }

-- a store whose lock was shut is shut still
abbrev pub StaysShut : {F S : Type 0} {f : Arithmetic.Ghosts F} {t : SlotStore.Ghosts S} → Receiver F S f t → Receiver F S f t → Type 0
StaysShut {t} before after = t.lock before.store ≡ 0 → t.lock after.store ≡ 0

-- the run after a packet was to be fetched into it
abbrev pub after_fetch : {F S : Type 0} {f : Arithmetic.Ghosts F} {t : SlotStore.Ghosts S} → Receiver F S f t → Result (Unit {0}) Refusal → ℕ → ℕ → List ℕ → List ℕ
after_fetch {t} r answer block position run = after_get answer (t.grid r.store) block position run
