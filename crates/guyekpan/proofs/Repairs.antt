-- A repair on the words that a host's strings spell.
use Rattle.std.proofs.Common.{◌≡◌, ℕ, ◌+◌, ◌<◌, true, false, List, get_or, None, Ok, Err, Option, Result, inl, inr, sym, refl, ap, ◌∙◌, subst, arith}
use Rattle.std.proofs.lemmas.List.{get_or-take}
use Rattle.algebra.proofs.Marks.{true_false}
use Rattle.std.specs.Prelude.{IfOk}
use Rattle.std.specs.Result.{is_ok}
use Rattle.algebra.specs.Code.{Code}
use Rattle.refusal.specs.declared.Refusal.{Refusal}
use Rattle.refusal.specs.Numbers.{said}
use Rattle.layout.specs.declared.shape.Dimensions.{Dimensions}
use Rattle.layout.specs.declared.shape.Shape.{Shape}
use Rattle.layout.specs.declared.losses.LossList.{LossList}
use Rattle.layout.specs.Sizes.{parity_of, Packets, LostBelow}
use Rattle.layout.specs.Blocks.{code_of, ZeroRun}
use Rattle.layout.specs.Checks.{CheckedFirst, at_width}
use Rattle.layout.specs.Made.{dimensions_of, Listed}
use Rattle.layout.proofs.Passes.{passed, pass_both, width_ok, run_ok, losses_ok}
use Rattle.code.specs.Calls.{repair_refusal, Repaired, ContradictoryRun, Restored}
use Rattle.guyekpan.specs.Bytes.{words_of, positions_of}
use Rattle.guyekpan.specs.Host.{octet, host_check_refusal, Positions, HostAttempted, HostRepaired}

lost_below : (s : Shape) (xs : List ℕ) (l : LossList) → Listed s xs l → LostBelow l s.positions
lost_below s xs l listed k lt =
    let here = listed.len in
    let below = listed.order.1 k (omega arith) in
    subst (λ z. z < s.positions) (sym (sym (get_or-take l.len l.at k 0 lt) ∙ ap (λ ys. get_or ys k 0) listed.at)) below

module _ (s : Shape) (l : LossList) (block losses work work' : List ℕ) (eight : s.rows ≡ 8)
    (checked : host_check_refusal (dimensions_of s) block work ≡ None) (positions : Positions s.positions losses) (listed : Listed s (positions_of losses) l) (cleared : ZeroRun work')
    (xs ws : List ℕ) (spell : xs ≡ words_of block) (whole : Packets s s.positions xs) (room : Packets s (parity_of s + 1) ws) where
  abbrev d : Dimensions
  d = dimensions_of s

  abbrev C : Code
  C = code_of s octet

  -- what the checks of a repair refuse, and here they refuse nothing
  abbrev check : Option (ℕ × List ℕ)
  check = at_width 8 s (repair_refusal s xs l ws)

  unrefused : check ≡ None
  unrefused =
      pass_both _ _ (width_ok 8 s eight)
      (pass_both _ _ (pass_both _ _ (run_ok s s.positions xs 0 whole) (run_ok s (parity_of s + 1) ws 1 room))
      (losses_ok s l (lost_below s (positions_of losses) l listed) (let few = listed.enough in let len = listed.len in omega arith)))

  attempted : (block' : List ℕ) (r : Result (Unit {0}) Refusal) → Restored C l (words_of block) (words_of block') r → HostAttempted d losses block block' work work' r
  attempted block' r restored = record {
    shape = s;
    of = refl;
    passed = checked;
    positions = positions;
    list = l;
    listed = listed;
    restored = restored;
    cleared = cleared;
  }

  pub repaired : (xs' block' : List ℕ) (r : Result (Unit {0}) Refusal) → words_of block' ≡ xs' → is_ok r ≡ true → IfOk r (λ u. Repaired C l xs xs')
      → HostRepaired d losses block block' work work' r
  repaired xs' block' (Ok u) back ok a = attempted block' (Ok u) (rw (spell, ← back) at a)
  repaired xs' block' (Err e) back ok a = absurd (true_false false ok refl)

  pub unrepaired : (r : Result (Unit {0}) Refusal) → is_ok r ≡ false → CheckedFirst check (ContradictoryRun C l xs) r → HostRepaired d losses block block work work' r
  unrepaired (Ok u) not a = absurd (true_false true refl not)
  unrepaired (Err e) not a = elim a [
    | inl refused ↦ passed check (said e) unrefused (sym refused)
    | inr tried ↦ (refl, inr (attempted block (Err e) (rw spell at tried.1, refl)))
  ]
