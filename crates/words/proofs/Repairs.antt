-- A repair over words: its lost positions, then its runs, then the repair of the block.
use Rattle.std.proofs.Common.{◌≡◌, ℕ, ◌<◌, List, get_or, Some, None, Ok, Err, Option, Result, inl, inr, sym, refl, ap, ◌∙◌, subst, arith}
use Rattle.std.proofs.lemmas.List.{get_or-take}
use Rattle.std.specs.Prelude.{IfOk, IfErr}
use Rattle.refusal.specs.declared.Refusal.{Refusal}
use Rattle.refusal.specs.Numbers.{said, or_else}
use Rattle.layout.specs.declared.shape.Dimensions.{Dimensions}
use Rattle.layout.specs.declared.shape.Shape.{Shape}
use Rattle.layout.specs.declared.losses.LossList.{LossList}
use Rattle.layout.specs.Sizes.{LostBelow}
use Rattle.layout.specs.Blocks.{code_of}
use Rattle.layout.specs.Checks.{CheckedFirst, Cleared, at_width, loss_refusal}
use Rattle.layout.specs.Made.{dimensions_of, Listed, LossesRefused}
use Rattle.layout.proofs.Passes.{width_ok, losses_ok}
use Rattle.code.specs.Calls.{check_refusal, repair_refusal, Repaired, ContradictoryRun}
use Rattle.words.specs.Words.{octet, runs_refusal, ListTaken, WordsRepaired}

lost_below : (s : Shape) (xs : List ℕ) (l : LossList) → Listed s xs l → LostBelow l s.positions
lost_below s xs l listed k lt =
    let here = listed.len in
    let below = listed.order.1 k (omega arith) in
    subst (λ z. z < s.positions) (sym (sym (get_or-take l.len l.at k 0 lt) ∙ ap (λ ys. get_or ys k 0) listed.at)) below

then_nothing : (a : Option (ℕ × List ℕ)) → or_else a None ≡ a
then_nothing (Some e) = refl
then_nothing None = refl

module _ (d : Dimensions) (s : Shape) (of : dimensions_of s ≡ d) (lost block work : List ℕ) where
  -- the list is refused
  pub list_refused : (e : Refusal) → LossesRefused s lost (said e) → WordsRepaired d lost block block work work (Err e)
  list_refused e losses = inl (record { why = inr (inl (record { shape = s; of = of; losses = losses })); same_block = refl; same_work = refl })

module _ (s : Shape) (l : LossList) (lost block block' work work' : List ℕ) (eight : s.rows ≡ 8) (listed : Listed s lost l) where
  abbrev d : Dimensions
  d = dimensions_of s

  taken : ListTaken d lost l
  taken = record { shape = s; of = refl; losses = listed }

  -- the checks of a repair, and here the runs alone can be refused
  abbrev check : Option (ℕ × List ℕ)
  check = at_width 8 s (repair_refusal s block l work)

  list_passes : loss_refusal s l ≡ None
  list_passes = losses_ok s l (lost_below s lost l listed) (let few = listed.enough in let len = listed.len in omega arith)

  runs : check ≡ runs_refusal d block work
  runs =
      ap (λ u. or_else u (repair_refusal s block l work)) (width_ok 8 s eight)
      ∙ (ap (λ u. or_else (check_refusal s block work) u) list_passes ∙ then_nothing (check_refusal s block work))

  tried : (r : Result (Unit {0}) Refusal) → IfOk r (λ u. Repaired (code_of s octet) l block block')
      → CheckedFirst check (ContradictoryRun (code_of s octet) l block) r → IfErr r (λ e. block' ≡ block) → Cleared check work work'
      → WordsRepaired d lost block block' work work' r
  tried (Ok u) repaired passed left cleared = record {
    list = l;
    taken = taken;
    passed = sym runs ∙ passed;
    restored = repaired;
    cleared = cleared.0 passed;
  }
  tried (Err e) repaired answer left cleared = elim answer [
    | inl refused ↦ inl (record {
      why = inr (inr (record { list = l; taken = taken; run = sym runs ∙ refused }));
      same_block = left;
      same_work = cleared.1 (said e) refused;
    })
    | inr late ↦ inr (record {
      list = l;
      taken = taken;
      passed = sym runs ∙ late.0;
      restored = (late.1, left);
      cleared = cleared.0 late.0;
    })
  ]

-- the list is taken, and the block call answers
pub repaired : (d : Dimensions) (s : Shape) (l : LossList) (lost block block' work work' : List ℕ) (r : Result (Unit {0}) Refusal)
    → dimensions_of s ≡ d → s.rows ≡ 8 → Listed s lost l → IfOk r (λ u. Repaired (code_of s octet) l block block')
    → CheckedFirst (at_width 8 s (repair_refusal s block l work)) (ContradictoryRun (code_of s octet) l block) r
    → IfErr r (λ e. block' ≡ block) → Cleared (at_width 8 s (repair_refusal s block l work)) work work'
    → WordsRepaired d lost block block' work work' r
repaired d s l lost block block' work work' r of eight listed done answer left cleared =
    subst (λ d. WordsRepaired d lost block block' work work' r) of (tried s l lost block block' work work' eight listed r done answer left cleared)
