-- Words of NOR flash, and what the calls of the NOR store leave in them. Word 0 is the lock.
use Rattle.std.specs.Prelude.{◌≡◌, refl, ℕ, zero, suc, ◌+◌, ◌-◌, Bool, true, List, ◌∷◌, length, drop, replicate, Ok, Err, Result, ◌==◌, slice_index, slice_set}
use Rattle.std.specs.List.{list_all}
use Rattle.refusal.specs.declared.Refusal.{Refusal}
use Rattle.store.specs.declared.nor.NorStore.{NorStore}
use Rattle.store.specs.declared.slots.Format.{Format}
use Rattle.store.specs.Grids.{Grid}
use Rattle.store.specs.Layout.{grid_in, slot_put}

-- word 0; an empty run counts as shut
abbrev pub lock_of : List ℕ → ℕ
lock_of ws = slice_index ws 0

-- every word is erased
abbrev pub erased : List ℕ → Bool
erased xs = list_all (λ x. x == 4294967295) xs

-- a slot is empty when its mark and its packet are erased
abbrev pub nor_grid : Format → List ℕ → Grid
nor_grid f ws = grid_in erased f (drop 1 ws)

abbrev pub capacity_of : NorStore → ℕ
capacity_of s = length s.words.now - 1

abbrev pub grid_of : NorStore → Grid
grid_of s = nor_grid s.format s.words.now

pub erased_blank : (n : ℕ) → erased (4294967295 ∷ replicate n 4294967295) ≡ true
erased_blank zero = refl
erased_blank (suc n) = erased_blank n

-- all but the lock erased, and the lock shut; a refusal only shuts the lock
abbrev pub run_after_format : Result (Unit {0}) Refusal → List ℕ → List ℕ
run_after_format (Ok u) ws = 0 ∷ replicate (length ws - 1) 4294967295
run_after_format (Err e) ws = slice_set ws 0 0

-- the mark 0 and the packet in their slot, all else as it was, and the lock shut
abbrev pub run_after_put : Result (Unit {0}) Refusal → List ℕ → ℕ → List ℕ → List ℕ
run_after_put (Ok u) ws at packet = slice_set (slot_put ws (1 + at) (0 ∷ packet)) 0 0
run_after_put (Err e) ws at packet = slice_set ws 0 0
