-- The law of a call leaves one answer and one run: what the ledger tells is all that a board can tell.
use Rattle.std.proofs.Common.{◌≡◌, ℕ, ◌-◌, ◌*◌, ◌^◌, ◌<◌, List, [], ◌∷◌, ◌++◌, length, Some, None, Option, sym, refl, ap, ◌∙◌, subst, inl, inr, ◌≢◌, append_assoc, arith}
use Rattle.std.proofs.lemmas.Bool.{cases_Bool, MatchBool-at_true, MatchBool-at_false}
use Rattle.std.proofs.lemmas.List.{ext_get_or}
use Rattle.std.proofs.lemmas.Option.{none-some}
use Rattle.refusal.specs.declared.Refusal.TheVariants.{BadFrame, Contradictory, NoShape, OtherPacket, SlotEmpty, TooFew}
use Rattle.refusal.specs.Numbers.{said, or_else}
use Rattle.galois.specs.Field.{FieldLaws}
use Rattle.algebra.specs.Code.{Block, Codeword, syndrome}
use Rattle.layout.specs.declared.shape.Dimensions.{Dimensions}
use Rattle.layout.specs.declared.shape.Shape.{Shape}
use Rattle.layout.specs.Made.{shape_refusal}
use Rattle.layout.specs.Blocks.{code_of, ZeroRun}
use Rattle.frame.specs.Frames.{Sight, shape, packet, refused, parse}
use Rattle.store.specs.Grids.{format_refusal}
use Rattle.history.specs.declared.call.Call.{Call}
use Rattle.history.specs.declared.call.Call.TheVariants.{Take, Repair, Fetch, Count}
use Rattle.history.specs.declared.call.Answer.{Answer}
use Rattle.history.specs.declared.call.Answer.TheVariants.{Shaped, Known, Whole, Held}
use Rattle.history.specs.Turns.{Turn, refusal_in, Answers, Refuses, Checked, asked}
use Rattle.history.specs.Ledger.{Ledger, ledger, has}
use Rattle.history.specs.Boards.{Board, SameProduct}
use Rattle.history.specs.Law.{InShape, Agrees, held, IsThere, TakenAt, Repaired, FetchedAt, ShapeTaken, TakeLaw, CallLaw, History}
use Rattle.history.proofs.Shapes.{same_shape}
use Rattle.history.proofs.Present.{present_or_not}
use Rattle.code.proofs.Agreeing.{Moves, one_moved, several_moved, none_moved}
use Rattle.code.proofs.Products.{same_codeword, same_syndrome}
use Rattle.history.proofs.Answered.{refused_only}
use Rattle.code.proofs.Contradicting.{contradiction_only}
use Rattle.history.proofs.Linked.{match_from}

-- runs of zeros of one length are equal
zero_same : (xs ys : List ℕ) → length xs ≡ length ys → ZeroRun xs → ZeroRun ys → xs ≡ ys
zero_same xs ys long x y = ext_get_or 0 xs ys long (λ k _. x k ∙ sym (y k))

-- what receivers with equal products have in common
pub record Alike (P Q : Board) : Type 0 where
  pub width : P.bits ≡ Q.bits
  pub there : (s : Shape) (c : Block) → Codeword (code_of s P.product) c → Codeword (code_of s Q.product) c
  pub back : (s : Shape) (c : Block) → Codeword (code_of s Q.product) c → Codeword (code_of s P.product) c
  pub sums : (s : Shape) (b : Block) (μ r c : ℕ) → syndrome (code_of s P.product) b μ r c ≡ syndrome (code_of s Q.product) b μ r c

alike : (P Q : Board) (inv inv' : ℕ → ℕ) → FieldLaws P.bits P.product inv → FieldLaws Q.bits Q.product inv' → SameProduct P Q → Alike P Q
alike P Q inv inv' laws laws' same = record {
  width = same.width;
  there = same_codeword P.bits P.product Q.product inv laws same.products;
  back = same_codeword Q.bits Q.product P.product inv' laws' (λ a b la lb.
      sym (same.products a b (subst (λ m. a < 2 ^ m) (sym same.width) la) (subst (λ m. b < 2 ^ m) (sym same.width) lb)));
  sums = same_syndrome P.bits P.product Q.product inv laws same.products;
}

alike_back : (P Q : Board) → Alike P Q → Alike Q P
alike_back P Q E = record { width = sym E.width; there = E.back; back = E.there; sums = λ s b μ r c. sym (E.sums s b μ r c) }

module _ (P Q : Board) (E : Alike P Q) (l : Ledger) (s : Shape) (i : ℕ) where
  moves : Moves s P.product (Agrees P l s i) Q.product (Agrees Q l s i)
  moves c w a = (E.there s c w, a)

  moves_back : Moves s Q.product (Agrees Q l s i) P.product (Agrees P l s i)
  moves_back c w a = (E.back s c w, a)

  -- what is there for one is there for the other
  there : (j : ℕ) (ws : List ℕ) → IsThere P l s i j ws → IsThere Q l s i j ws
  there j ws h = elim (cases_Bool (l.whole i)) [
    | inl w ↦
        let u = MatchBool-at_true _ _ w h in
        let o = one_moved s P.product Q.product (Agrees P l s i) (Agrees Q l s i) moves moves_back u.1 in
        match_from (l.whole i) _ _ (λ _. (u.0, o, u.2)) (λ f. absurd (let z = sym w ∙ f in cc))
    | inr f ↦ match_from (l.whole i) _ _ (λ w. absurd (let z = sym w ∙ f in cc)) (λ _. MatchBool-at_false _ _ f h)
  ]

-- an answer that says whole, or 8, is not 7
not_few : (a : Answer) (n : ℕ) → a ≡ Whole n → refusal_in a ≢ Some (said TooFew)
not_few a n e f = none-some _ (sym (ap refusal_in e) ∙ f)

not_seven : (a : Answer) (sum word : ℕ) → refusal_in a ≡ Some (said (Contradictory sum word)) → refusal_in a ≢ Some (said TooFew)
not_seven a sum word e f = let z = sym f ∙ e in let q : ◌≡◌ {A = ℕ} 7 8 = grind (arith, z) in omega arith

-- one call, to two receivers with the same ledger
module _ (P Q : Board) (E : Alike P Q) (capacity : P.capacity ≡ Q.capacity) (l : Ledger) (call : Call) (before : List ℕ) where
  module _ (answer answer' : Answer) (after after' : List ℕ) where
    abbrev t : Turn
    t = record { call = call; before = before; answer = answer; after = after }

    abbrev t' : Turn
    t' = record { call = call; before = before; answer = answer'; after = after' }

    abbrev Same : Type 0
    Same = (answer ≡ answer') × (after ≡ after')

    same_refusal : (e : ℕ × List ℕ) → Refuses t e → Refuses t' e → Same
    same_refusal e r r' = (refused_only answer answer' e r.0 r'.0, r.1 ∙ sym r'.1)

    same_checked : (check : Option (ℕ × List ℕ)) (Law Law' : Type 0) → (Law → Law' → Same) → Checked t check Law → Checked t' check Law' → Same
    same_checked (Some e) Law Law' h r r' = same_refusal e r r'
    same_checked None Law Law' h it it' = h it it'

    same_in_shape : (o : Option Dimensions) (Law Law' : Shape → Type 0) → ((s : Shape) → Law s → Law' s → Same) → InShape P t o Law → InShape Q t' o Law' → Same
    same_in_shape None Law Law' h r r' = same_refusal (said NoShape) r r'
    same_in_shape (Some d) Law Law' h (s, dims, rows, it) (s', dims', rows', it') =
        h s it (subst Law' (same_shape s' s (dims' ∙ sym dims)) it')

    same_answered : (a : Answer) → Answers t a → Answers t' a → Same
    same_answered a r r' = (r.0 ∙ sym r'.0, r.1 ∙ sym r'.1)

    module _ (s : Shape) (i : ℕ) where
      same_taken : (j : ℕ) (ws : List ℕ) → TakenAt P l s i j ws t → TakenAt Q l s i j ws t' → Same
      same_taken j ws T T' = (by_answer, T.kept ∙ sym T'.kept)
        where
          by_answer : answer ≡ answer'
          by_answer = elim T.other [
            | inl e ↦ e ∙ sym (T'.fresh.1 (T.fresh.0 e))
            | inr o ↦ elim o [
              | inl e ↦ e ∙ sym (T'.known.1 (there P Q E l s i j ws (T.known.0 e)))
              | inr e ↦ elim T'.other [
                | inl e' ↦ T.fresh.1 (T'.fresh.0 e') ∙ sym e'
                | inr o' ↦ elim o' [
                  | inl e' ↦ T.known.1 (there Q P (alike_back P Q E) l s i j ws (T'.known.0 e')) ∙ sym e'
                  | inr e' ↦ refused_only answer answer' (said OtherPacket) e e'
                ]
              ]
            ]
          ]

      same_fetched : (j : ℕ) → FetchedAt P l s i j t → FetchedAt Q l s i j t' → Same
      same_fetched j F F' = elim (cases_Bool (has l i j)) [
        | inl h ↦ let d = F.done h in (d.0 ∙ sym (F'.done h).0, F'.only after (there P Q E l s i j after d.1))
        | inr n ↦ same_refusal (said SlotEmpty) (F.empty n) (F'.empty n)
      ]

      same_repaired : Repaired P l s i t → Repaired Q l s i t' → Same
      same_repaired R R' = elim R.other [
        | inl w ↦
            let w' = R'.whole.1 (one_moved s P.product Q.product (Agrees P l s i) (Agrees Q l s i) (moves P Q E l s i) (moves_back P Q E l s i) (R.whole.0 w)) in
            let number : w.0 ≡ w'.0 = let a = R.number w in let b = R'.number w' in omega arith in
            (w.1 ∙ ap Whole number ∙ sym w'.1, zero_same after after' long (R.cleared (not_few answer w.0 w.1)) (R'.cleared (not_few answer' w'.0 w'.1)))
        | inr o ↦ elim o [
          | inl e ↦
              let e' = R'.few.1 (several_moved s P.product Q.product (Agrees P l s i) (Agrees Q l s i) (moves P Q E l s i) (moves_back P Q E l s i) (R.few.0 e)) in
              (refused_only answer answer' (said TooFew) e e', R.kept e ∙ sym (R'.kept e'))
          | inr x ↦
              let x' = R'.contradictory.1 (none_moved s P.product Q.product (Agrees P l s i) (Agrees Q l s i) (moves P Q E l s i) (moves_back P Q E l s i) (R.contradictory.0 x)) in
              let (sum, word) = contradiction_only s P.product Q.product (Agrees P l s i) (s.positions - held P l s i) x.0 x.1 x'.0 x'.1
              (E.sums s) (R.values x) (R'.values x') in
              let e' : refusal_in answer' ≡ Some (said (Contradictory x.0 x.1)) = x'.2 ∙ ap (λ a. Some (said (Contradictory a x'.1))) (sym sum) ∙ ap (λ b. Some (said (Contradictory x.0 b))) (sym word) in (
                refused_only answer answer' (said (Contradictory x.0 x.1)) x.2 e',
                zero_same after after' long (R.cleared (not_seven answer x.0 x.1 x.2)) (R'.cleared (not_seven answer' x'.0 x'.1 x'.2)),
              )
        ]
      ]
        where
          long : length after ≡ length after'
          long = R.long ∙ sym R'.long

    same_shaped : (d : Dimensions) → ShapeTaken P l d t → ShapeTaken Q l d t' → Same
    same_shaped d T T' = elim (present_or_not l.shape d) [
      | inl e ↦ same_answered Known (T.again e) (T'.again e)
      | inr n ↦
          same_checked _ _ _ (same_answered Shaped) (T.other n)
          (subst (λ n. Checked t' (or_else (shape_refusal n d) (format_refusal P.capacity d.blocks d.positions (d.rows * d.words))) (Answers t' Shaped)) (sym E.width)
          (subst (λ n. Checked t' (or_else (shape_refusal Q.bits d) (format_refusal n d.blocks d.positions (d.rows * d.words))) (Answers t' Shaped)) (sym capacity) (T'.other n)))
    ]

    same_sight : (f : Sight) → TakeLaw P l t f → TakeLaw Q l t' f → Same
    same_sight (refused e) T T' = same_refusal (said BadFrame) T T'
    same_sight (shape d) T T' = same_shaped d T T'
    same_sight (packet i j ws) T T' = same_in_shape l.shape _ _ (λ s. same_checked _ _ _ (same_taken s i j ws)) T T'

    same_call : (c : Call) → CallLaw P l t c → CallLaw Q l t' c → Same
    same_call Take T T' = same_sight (parse before) T T'
    same_call (Repair i) T T' = same_in_shape l.shape _ _ (λ s. same_checked _ _ _ (same_repaired s i)) T T'
    same_call (Fetch i j) T T' = same_in_shape l.shape _ _ (λ s. same_checked _ _ _ (same_fetched s i j)) T T'
    same_call (Count i) T T' = same_in_shape l.shape _ _ (λ s. same_checked _ _ _ (same_answered (Held (held P l s i)))) T T'

module _ (P Q : Board) (E : Alike P Q) (capacity : P.capacity ≡ Q.capacity) where
  same_turn : (l : Ledger) (t u : Turn) → t.call ≡ u.call → t.before ≡ u.before → CallLaw P l t t.call → CallLaw Q l u u.call → t ≡ u
  same_turn l t u call before T U =
      let v : Turn = record { call = t.call; before = t.before; answer = u.answer; after = u.after } in
      let is : u ≡ v = λ z. record { call = sym call z; before = sym before z; answer = u.answer; after = u.after } in
      let (answer, after) = same_call P Q E capacity l t.call t.before t.answer u.answer t.after u.after t.call T (subst (λ (w : Turn). CallLaw Q l w w.call) is U) in
      (λ z. record { call = t.call; before = t.before; answer = answer z; after = after z }) ∙ sym is

  -- turn after turn, behind turns that are the same
  same_turns : (ts us : List Turn) → History P ts → History Q us → (done past past' future future' : List Turn) → ts ≡ done ++ (past ++ future) → us ≡ done ++ (past' ++ future')
      → asked past ≡ asked past' → past ≡ past'
  same_turns ts us H H' done [] [] future future' e e' q = refl
  same_turns ts us H H' done [] (u ∷ past') future future' e e' q = absurd (cc)
  same_turns ts us H H' done (t ∷ past) [] future future' e e' q = absurd (cc)
  same_turns ts us H H' done (t ∷ past) (u ∷ past') future future' e e' q =
      let head : (t.call, t.before) ≡ (u.call, u.before) = cc in
      let rest : asked past ≡ asked past' = cc in
      let this : t ≡ u = same_turn (ledger done) t u (ap (λ (p : Call × List ℕ). p.0) head) (ap (λ (p : Call × List ℕ). p.1) head) (H.answers done t (past ++ future) e) (H'.answers done u (past' ++ future') e') in
      let on : (v : Turn) (vs : List Turn) → done ++ v ∷ vs ≡ (done ++ v ∷ []) ++ vs = λ v vs. sym (append_assoc done (v ∷ []) vs) in
      let tail = same_turns ts us H H' (done ++ t ∷ []) past past' future future' (e ∙ on t (past ++ future))
      (e' ∙ ap (λ v. done ++ v ∷ (past' ++ future')) (sym this) ∙ on t (past' ++ future')) rest in
      λ z. this z ∷ tail z

pub same_answers : (P Q : Board) (inv inv' : ℕ → ℕ) → FieldLaws P.bits P.product inv → FieldLaws Q.bits Q.product inv' → SameProduct P Q → P.capacity ≡ Q.capacity
    → (ts us : List Turn) → History P ts → History Q us → (past past' future future' : List Turn) → ts ≡ past ++ future → us ≡ past' ++ future' → asked past ≡ asked past' → past ≡ past'
same_answers P Q inv inv' laws laws' same capacity ts us H H' = same_turns P Q (alike P Q inv inv' laws laws' same) capacity ts us H H' []
