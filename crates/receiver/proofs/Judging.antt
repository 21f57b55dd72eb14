-- How many codewords agree with what a block holds, and what a repair answers by it.
use Rattle.std.proofs.Common.{Option, ◌≡◌, ℕ, ◌+◌, ◌*◌, ◌^◌, ◌<◌, true, not, List, [], is_some, Some, None, Ok, Err, Result, sym, refl, ap, ◌∙◌, subst, subst₂, inr, arith}
use Rattle.std.specs.Prelude.{IfOk, IfErr}
use Rattle.std.proofs.lemmas.Option.{none-some}
use Rattle.refusal.specs.declared.Refusal.TheVariants.{Contradictory, TooFew}
use Rattle.refusal.specs.declared.Refusal.{Refusal}
use Rattle.refusal.specs.Numbers.{said, refused_with}
use Rattle.galois.specs.Field.{FieldLaws}
use Rattle.algebra.specs.Code.{Code, Block, AgreeAt, Words32, count, among}
use Rattle.algebra.proofs.Marks.{count_ext, count_not, count_among}
use Rattle.layout.specs.declared.shape.Shape.{Shape}
use Rattle.layout.specs.declared.losses.LossList.{LossList}
use Rattle.layout.specs.Sizes.{parity_of, lost}
use Rattle.layout.specs.Checks.{CheckedFirst, run_refusal}
use Rattle.layout.specs.Blocks.{code_of, packet_in}
use Rattle.store.specs.Grids.{Grid, packet_or}
use Rattle.code.specs.Lost.{Contradicts, Contradicted}
use Rattle.code.proofs.Fitting.{fits_several}
use Rattle.receiver.specs.declared.Whole.{Whole}
use Rattle.receiver.specs.Sound.{Fitted}
use Rattle.receiver.specs.Meaning.{Meaning}
use Rattle.receiver.specs.Calls.{count_refusal, held_in}
use Rattle.receiver.specs.Blocks.{block_of, Missing, missing_in, Agrees}
use Rattle.receiver.specs.Repairs.{few_refusal, repair_refusal, Completes, MadeWhole, Conflicts, OneFits, SeveralFit, NoneFits, NoneFitsAt, Judged}
use Rattle.receiver.specs.Steps.{Lacks, Mended, ContradictsHeld}
use Rattle.receiver.proofs.Completing.{held_from, agree_off, agree_held}
use Rattle.receiver.proofs.Reading.{same_read}

-- the held and the missing positions are all positions
pub all_positions : (s : Shape) (g : Grid) (i : ℕ) (l : LossList) → Missing s g i l → count (held_in g i) s.positions + l.len ≡ s.positions
all_positions s g i l M =
    let missing : count (among (lost l) l.len) s.positions ≡ l.len = count_among (lost l) s.positions l.len l.ascends M.below in
    let same = count_ext (among (lost l) l.len) (λ q. not (held_in g i q)) s.positions M.same in
    let all = count_not (held_in g i) s.positions in
    omega arith

module _ (C : Code) (g : Grid) (i : ℕ) where
  -- a completed block: one codeword agrees
  pub completed_one : (h : Grid) → Completes C g i h → OneFits C g i
  completed_one h c = record {
    it = block_of C h i;
    codeword = c.codeword;
    agrees = λ q ws m e. same_read C _ _ (c.kept q ws e);
    only = c.only;
  }

  one_several : {A : Type 0} → OneFits C g i → SeveralFit C g i → A
  one_several o v = absurd (v.differ (λ q h j c p r.
      o.only v.one v.codeword_one v.agrees_one q h j c p r ∙ sym (o.only v.other v.codeword_other v.agrees_other q h j c p r)))

  one_none : {A : Type 0} → OneFits C g i → NoneFits C g i → A
  one_none o n = absurd (n o.it o.codeword o.agrees)

  several_none : {A : Type 0} → SeveralFit C g i → NoneFits C g i → A
  several_none v n = absurd (n v.one v.codeword_one v.agrees_one)

  apart : {A : Type 0} {e : ℕ × List ℕ} → None ≡ Some e → A
  apart {e} q = absurd (none-some e q)

  -- how many codewords agree decides the answer
  module _ (r : Result Whole Refusal) where
    pub judged_whole : OneFits C g i → refused_with r ≡ None → Judged C g i r
    judged_whole o e = record {
      whole = λ _. e;
      is_whole = λ _. o;
      few = λ v. one_several o v;
      is_few = λ f. apart (sym e ∙ f);
      contradictory = λ n. one_none o n;
      is_contradictory = λ sum word f. apart (sym e ∙ f);
    }

    pub judged_few : SeveralFit C g i → refused_with r ≡ Some (said TooFew) → Judged C g i r
    judged_few v e = record {
      whole = λ o. one_several o v;
      is_whole = λ f. apart (sym f ∙ e);
      few = λ _. e;
      is_few = λ _. v;
      contradictory = λ n. several_none v n;
      is_contradictory = λ sum word f. let q : ◌≡◌ {A = ℕ} 7 8 = grind (arith, e, f) in absurd (omega arith);
    }

    pub judged_none : (sum word : ℕ) → NoneFitsAt C g i sum word → refused_with r ≡ Some (said (Contradictory sum word)) → Judged C g i r
    judged_none sum word n e = record {
      whole = λ o. one_none o n.none;
      is_whole = λ f. apart (sym f ∙ e);
      few = λ v. several_none v n.none;
      is_few = λ f. let q : ◌≡◌ {A = ℕ} 7 8 = grind (arith, e, f) in absurd (omega arith);
      contradictory = λ _. (sum, word, e);
      is_contradictory = λ a b f.
          let first : sum ≡ a = grind (arith, e, f) in
          let second : word ≡ b = grind (arith, e, f) in
          subst₂ (λ a b. NoneFitsAt C g i a b) first second n;
    }

module _ (s : Shape) (prod : ℕ → ℕ → ℕ) (g : Grid) (i : ℕ) where
  abbrev C : Code
  C = code_of s prod

  -- fewer than k positions are held: several agree
  pub few_several : (inv : ℕ → ℕ) → FieldLaws s.rows prod inv → Fitted s g → count (held_in g i) s.positions < s.sources → SeveralFit C g i
  few_several inv laws F lt =
      let agrees : (d : Block) → AgreeAt C (held_in g i) d (block_of C g i) → Agrees C g i d =
      λ d a q ws m e j c p r. a q m (ap is_some e) j c p r ∙ same_read C _ _ e j c p r in
      let words : (q : ℕ) → q < s.positions → held_in g i q ≡ true → Words32 C (block_of C g i q) = λ q m e j c p r.
      let o = held_from (g.slots i q) (sym (ap not e)) in subst (λ v. packet_in s.words (packet_or v []) j c < 2 ^ 32) (sym o.1) ((F.packets i q o.0 o.1).words (j * s.words + c)) in
      let v = fits_several s (count (held_in g i) s.positions) lt prod inv laws (held_in g i) refl (block_of C g i) words in
      record {
        one = v.0;
        other = v.1;
        codeword_one = v.2;
        codeword_other = v.3;
        agrees_one = agrees v.0 v.4;
        agrees_other = agrees v.1 v.5;
        differ = v.6;
      }

  -- contradictory packets: none agrees
  pub none_fits : (l : LossList) → Missing s g i l → (sum word : ℕ) → Contradicted C l (block_of C g i) sum word → NoneFitsAt C g i sum word
  none_fits l M sum word found =
      let missing : missing_in C g i ≡ l.len = let k = all_positions s g i l M in omega arith in
      record {
        none = λ d is a. found.none d is (agree_off s prod l g i M d a);
        d = found.d;
        solved = record {
          agrees = agree_held s prod l g i M found.d found.solved.agrees;
          zero = λ μ lt. found.solved.zero μ (rw missing at lt);
          only = λ d a z. found.solved.only d (agree_off s prod l g i M d a) (λ μ lt. z μ (rw missing lt));
        };
        sum_lt = found.sum_lt;
        word_lt = found.word_lt;
        lower = found.lower;
        before = found.before;
        here = found.here;
      }

  pub conflicting : (l : LossList) → Missing s g i l → (e : Refusal) → ContradictsHeld C l g i e → Contradicts (NoneFitsAt C g i) e
  conflicting l M e n = record { sum = n.sum; word = n.word; refusal = n.refusal; fact = none_fits l M n.sum n.word n.fact }

-- the checks of a repair pass
pub repair_passes : (m : Meaning) (s : Shape) (i : ℕ) (work : List ℕ) → m.shape ≡ Some s → None ≡ count_refusal m i → None ≡ run_refusal s (parity_of s + 1) work 0 → few_refusal s m.grid i ≡ None
    → repair_refusal m i work ≡ None
repair_passes m s i work is block run few = grind (arith, is, block, run, few)

-- what is mended
module _ (s : Shape) (prod : ℕ → ℕ → ℕ) (l : LossList) (m : Meaning) (i : ℕ) (is : m.shape ≡ Some s) (A : Lacks s m.grid i l) (after : Meaning)
    (shape : after.shape ≡ m.shape) (capacity : after.capacity ≡ m.capacity) where
  pub mended_whole : (r : Result Whole Refusal) → Mended s prod l m.grid i r after.grid → IfOk r (λ w. MadeWhole prod m i w.restored after)
  mended_whole (Ok w) d = record {
    s = s;
    shape_is = is;
    number = ap (λ n. count (held_in m.grid i) s.positions + n) d.0 ∙ all_positions s m.grid i l A.missing;
    shape_same = shape;
    capacity_same = capacity;
    completes = d.1;
  }
  mended_whole (Err e) d = tt

  pub mended_answer : (check : Option (ℕ × List ℕ)) → check ≡ None → (r : Result Whole Refusal) → Mended s prod l m.grid i r after.grid → CheckedFirst check (Conflicts prod m i) r
  mended_answer check pass (Ok w) d = pass
  mended_answer check pass (Err e) d = inr (pass, record { s = s; shape_is = is; contradicts = conflicting s prod m.grid i l A.missing e d.0 })

  pub mended_left : (r : Result Whole Refusal) → Mended s prod l m.grid i r after.grid → IfErr r (λ e. after ≡ m)
  mended_left (Ok w) d = tt
  mended_left (Err e) d = λ z. record { shape = shape z; capacity = capacity z; grid = d.1 z }

pub mended_judged : (s : Shape) (prod : ℕ → ℕ → ℕ) (l : LossList) (g : Grid) (i : ℕ) → Lacks s g i l → (r : Result Whole Refusal) (h : Grid) → Mended s prod l g i r h → Judged (code_of s prod) g i r
mended_judged s prod l g i A (Ok w) h d = judged_whole (code_of s prod) g i (Ok w) (completed_one (code_of s prod) g i h d.1) refl
mended_judged s prod l g i A (Err e) h d =
    let n = conflicting s prod g i l A.missing e d.0 in
    judged_none (code_of s prod) g i (Err e) n.sum n.word n.fact (ap (λ f. Some (said f)) n.refusal)

-- too few are held: several codewords agree
pub few_judged : (s : Shape) (prod : ℕ → ℕ → ℕ) (inv : ℕ → ℕ) (g : Grid) (i : ℕ) → FieldLaws s.rows prod inv → Fitted s g → (e : Refusal) → few_refusal s g i ≡ Some (said e)
    → Judged (code_of s prod) g i (Err e)
few_judged s prod inv g i laws F e f =
    let lt : count (held_in g i) s.positions < s.sources = grind (arith, f) in
    judged_few (code_of s prod) g i (Err e) (few_several s prod g i inv laws F lt) (grind (arith, f))
