-- A packet frame: what its slot holds then.
use Rattle.std.proofs.Common.{◌≡◌, ℕ, Bool, true, List, is_some, Some, None, Decides, Option, sym, ap, subst, arith, rules}
use Rattle.std.proofs.lemmas.Slice.Eq.{compares_Decides}
use Rattle.std.proofs.lemmas.Bool.Decides.{same_from_decides}
use Rattle.store.specs.Grids.{Grid, get_refusal, packet_or}
use Rattle.receiver.specs.Calls.{same_words, slot_holds}

pub same_decides : (xs ys : List ℕ) → Decides (same_words xs ys) (xs ≡ ys)
same_decides = compares_Decides same_words (search rules)

-- a slot that holds just these words
pub slot_held : (o : Option (List ℕ)) (ws : List ℕ) → true ≡ slot_holds o ws → o ≡ Some ws
slot_held None ws e = let q : ◌≡◌ {A = ℕ} 0 1 = cc in absurd (omega arith)
slot_held (Some held) ws e = ap Some ((same_decides held ws).0 (sym e))

-- what a slot holds, by a copy of it
compared_slot : (o : Option (List ℕ)) (run after ws : List ℕ) (r : Bool) → is_some o ≡ true → after ≡ packet_or o run → Decides r (after ≡ ws) → r ≡ slot_holds o ws
compared_slot None run after ws r e f d = let q : ◌≡◌ {A = ℕ} 0 1 = cc in absurd (omega arith)
compared_slot (Some held) run after ws r e f d = same_from_decides r (same_words held ws) (subst (λ (v : List ℕ). Decides r (v ≡ ws)) f d) (same_decides held ws)

pub compared : (g : Grid) (i j : ℕ) (run after ws : List ℕ) (r : Bool) → None ≡ get_refusal g i j run → after ≡ packet_or (g.slots i j) run → Decides r (after ≡ ws) → r ≡ slot_holds (g.slots i j) ws
compared g i j run after ws r e = compared_slot (g.slots i j) run after ws r (grind (arith, e))
