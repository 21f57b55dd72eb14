-- From the runs of two unused receivers to what their transcripts show.
use Rattle.std.proofs.Common.{◌≡◌, ℕ, ◌<◌, true, List, [], ◌∷◌, ◌++◌, None, Some, Option, subst, ap, sym, refl, ◌∙◌, one-mul, arith}
use Rattle.std.specs.List.{Contains}
use Rattle.std.proofs.lemmas.Bool.{true≢false}
use Rattle.std.proofs.lemmas.Option.{same_Some}
use Rattle.galois.specs.Field.{FieldLaws}
use Rattle.layout.specs.declared.shape.Shape.{Shape}
use Rattle.layout.specs.Made.{dimensions_of}
use Rattle.layout.specs.Sizes.{Packets}
use Rattle.layout.specs.Blocks.{code_of}
use Rattle.receiver.specs.Meaning.{Meaning}
use Rattle.receiver.specs.Sound.{Sound}
use Rattle.code.specs.Codewords.{One}
use Rattle.history.specs.declared.call.Call.{Call}
use Rattle.history.specs.declared.call.Call.TheVariants.{Take, Repair, Fetch, Count}
use Rattle.history.specs.Turns.{Turn}
use Rattle.history.specs.Ledger.{Ledger, opened, ledger, Accepted, acceptance}
use Rattle.history.specs.Boards.{Board}
use Rattle.history.specs.Law.{Agrees, CallLaw, History, TwoBoards}
use Rattle.history.specs.Steps.{Makes, AllSteps}
use Rattle.history.proofs.Linked.{present, Linked, linked_blank, one_whole}
use Rattle.history.proofs.Keeping.{run_splits}
use Rattle.history.proofs.Lawful.{repair_law, fetch_law, count_law}
use Rattle.history.proofs.Taking.{take_law}
use Rattle.code.proofs.Products.{same_codeword}
use Rattle.history.proofs.Joint.{recovers}
use Rattle.history.proofs.Same.{same_answers}

-- the transcript of an unused receiver that is such a board
pub record Started (P : Board) (ts : List Turn) : Type 0 where
  pub m : Meaning
  pub end : Meaning
  pub no_shape : m.shape ≡ None
  pub capacity_is : m.capacity ≡ P.capacity
  pub ran : AllSteps P.bits P.product m ts end
  pub sound : Sound P.bits end.shape end.grid

-- the store fits the shape at every point of the run
run_sound : (P : Board) (m : Meaning) (ts : List Turn) (end : Meaning) → Sound P.bits end.shape end.grid → AllSteps P.bits P.product m ts end → Sound P.bits m.shape m.grid
run_sound P m [] end sound R = subst (λ (n : Meaning). Sound P.bits n.shape n.grid) R sound
run_sound P m (t ∷ ts) end sound R = R.1.sound

module _ (P : Board) where
  call_law : (l : Ledger) (m : Meaning) → Linked P l m → Sound P.bits m.shape m.grid → (t : Turn) (call : Call) (after : Meaning) → Makes P.bits P.product m t call after → CallLaw P l t call
  call_law l m L sound t Take after M = take_law P l m L sound t after M
  call_law l m L sound t (Repair i) after M = repair_law P l m L sound t i after M
  call_law l m L sound t (Fetch i j) after M = fetch_law P l m L sound t i j after M
  call_law l m L sound t (Count i) after M = count_law P l m L sound t i after M

  -- exactly one codeword agrees with a block that is whole
  whole_law : (l : Ledger) (m : Meaning) → Linked P l m → (i : ℕ) → l.whole i ≡ true
      → (s : Shape) × (l.shape ≡ Some (dimensions_of s)) × (i < s.blocks) × One (code_of s P.product) (Agrees P l s i)
  whole_law l m L i w = from m.shape refl
    where
      from : (o : Option Shape) → m.shape ≡ o → (s : Shape) × (l.shape ≡ Some (dimensions_of s)) × (i < s.blocks) × One (code_of s P.product) (Agrees P l s i)
      from None e = absurd (true≢false (sym w ∙ (L.blank e).0 i))
      from (Some s) e = let K = L.kept s e in (s, L.shape_is ∙ ap present e, (K.full i w).inside, one_whole P s l m.grid K i w)

  -- what was accepted is a packet of the shape, the only one of its place
  accepted_law : (l : Ledger) (m : Meaning) → Linked P l m → Sound P.bits m.shape m.grid → (i j : ℕ) (ws : List ℕ) → Accepted l i j ws
      → (s : Shape) × (l.shape ≡ Some (dimensions_of s)) × (i < s.blocks) × (j < s.positions) × Packets s 1 ws × ((vs : List ℕ) → Accepted l i j vs → vs ≡ ws)
  accepted_law l m L sound i j ws h = from m.shape refl
    where
      from : (o : Option Shape) → m.shape ≡ o
          → (s : Shape) × (l.shape ≡ Some (dimensions_of s)) × (i < s.blocks) × (j < s.positions) × Packets s 1 ws × ((vs : List ℕ) → Accepted l i j vs → vs ≡ ws)
      from None e = let none = subst (λ accepted. Contains accepted (acceptance i j ws)) (L.blank e).1 h in absurd (omega (arith, none.1))
      from (Some s) e =
          let K = L.kept s e in
          let k = K.held i j ws h in (
            s,
            L.shape_is ∙ ap present e,
            k.1,
            k.2,
            ((sound s e).1.packets i j ws k.0).long ∙ sym (one-mul _),
            λ vs h'. same_Some vs ws (sym (K.held i j vs h').0 ∙ k.0),
          )

  module _ (ts : List Turn) (R : Started P ts) where
    -- the receiver at a point of the run, with the ledger of the turns before it
    cut_at : (past future : List Turn) → ts ≡ past ++ future → (n : Meaning) × Linked P (ledger past) n × AllSteps P.bits P.product n future R.end
    cut_at past future is =
        run_splits P (opened None) R.m past future R.end (linked_blank P R.m R.no_shape R.capacity_is)
        (subst (λ us. AllSteps P.bits P.product R.m us R.end) is R.ran)

    pub history : History P ts
    history = record {
      answers = λ past t future is.
          let cut = cut_at past (t ∷ future) is in
          let step = cut.2.1 in
          call_law (ledger past) cut.0 cut.1 step.sound t t.call cut.2.0 step.makes;
      accepted = λ past future is i j ws h.
          let cut = cut_at past future is in
          accepted_law (ledger past) cut.0 cut.1 (run_sound P cut.0 future R.end R.sound cut.2) i j ws h;
      whole = λ past future is i w. let cut = cut_at past future is in whole_law (ledger past) cut.0 cut.1 i w;
    }

pub boards : (P Q : Board) (inv inv' : ℕ → ℕ) → FieldLaws P.bits P.product inv → FieldLaws Q.bits Q.product inv' → (ts us : List Turn) → Started P ts → Started Q us → TwoBoards P ts Q us
boards P Q inv inv' laws laws' ts us R S =
    let H = history P ts R in
    let H' = history Q us S in
    record {
      first = H;
      second = H';
      together = λ same. record {
        recover = λ past past' t t' future future' is is' s i c w E E'. (
          recovers P inv laws ts H past t future is s i c w E,
          recovers Q inv' laws' us H' past' t' future' is' s i c (same_codeword P.bits P.product Q.product inv laws same.products s c w) E',
        );
        same = λ capacity. same_answers P Q inv inv' laws laws' same capacity ts us H H';
      };
    }
