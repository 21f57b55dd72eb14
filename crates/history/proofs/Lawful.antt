-- From a ledger and a receiver that are linked to the laws of repairs, fetches and counts.
use Rattle.std.proofs.Common.{◌≡◌, ℕ, ◌+◌, ◌-◌, ◌<◌, ◌⊎◌, List, Some, None, Ok, Err, Option, Result, sym, refl, ap, ◌∙◌, subst, inl, inr, arith}
use Rattle.std.proofs.lemmas.Bool.{cases_Bool}
use Rattle.std.proofs.lemmas.Option.{none-some, same_Some}
use Rattle.refusal.specs.declared.Refusal.TheVariants.{Contradictory, NoShape, SlotEmpty, TooFew}
use Rattle.refusal.specs.declared.Refusal.{Refusal}
use Rattle.refusal.specs.Numbers.{said, refused_with, or_else}
use Rattle.algebra.specs.Code.{count}
use Rattle.layout.specs.declared.shape.Shape.{Shape}
use Rattle.layout.specs.Sizes.{parity_of}
use Rattle.layout.specs.Checks.{run_refusal}
use Rattle.layout.specs.Blocks.{code_of, ZeroRun}
use Rattle.store.specs.Grids.{after_get, packet_or}
use Rattle.receiver.specs.declared.Whole.{Whole as Completed}
use Rattle.receiver.specs.Meaning.{Meaning}
use Rattle.receiver.specs.Sound.{Sound}
use Rattle.receiver.specs.Calls.{held_in, block_refusal, place_refusal, length_refusal, empty_refusal, fetch_refusal, count_refusal, Counted}
use Rattle.code.specs.Codewords.{Contradiction}
use Rattle.receiver.specs.Blocks.{missing_in, Agrees as GridAgrees}
use Rattle.receiver.specs.Repairs.{repair_refusal, Judged}
use Rattle.history.specs.Steps.{AfterRepair}
use Rattle.history.specs.declared.call.Answer.TheVariants.{Whole, Fetched, Held}
use Rattle.history.specs.Turns.{Turn, refusal_in, Answers, Refuses, Checked}
use Rattle.history.specs.Ledger.{Ledger}
use Rattle.history.specs.Boards.{Board}
use Rattle.history.specs.Law.{InShape, Agrees, held, Repaired, FetchedAt}
use Rattle.history.specs.Steps.{repaired, fetched, counted, Repairs, Fetches, Counts}
use Rattle.code.proofs.Agreeing.{one_moved, several_moved, none_moved, contradiction_moved}
use Rattle.history.proofs.Linked.{Kept, Linked, by_shape, to_slots, to_ledger, agree_slots, agree_ledger, one_whole, slot_from, no_slot, count_held, slot_there, there_slot}

-- What an answer tells of what the receiver returned

refusal_repaired : (r : Result Completed Refusal) → refusal_in (repaired r) ≡ refused_with r
refusal_repaired (Ok w) = refl
refusal_repaired (Err e) = refl

whole_repaired : (r : Result Completed Refusal) → refused_with r ≡ None → (n : ℕ) × (repaired r ≡ Whole n)
whole_repaired (Ok w) e = (w.restored, refl)
whole_repaired (Err f) e = absurd (none-some _ (sym e))

repaired_whole : (r : Result Completed Refusal) (n : ℕ) → repaired r ≡ Whole n → refused_with r ≡ None
repaired_whole (Ok w) n e = refl
repaired_whole (Err f) n e = absurd (cc)

refusal_fetched : (r : Result (Unit {0}) Refusal) → refusal_in (fetched r) ≡ refused_with r
refusal_fetched (Ok u) = refl
refusal_fetched (Err e) = refl

refusal_counted : (r : Result ℕ Refusal) → refusal_in (counted r) ≡ refused_with r
refusal_counted (Ok n) = refl
refusal_counted (Err e) = refl

fetched_ok : (r : Result (Unit {0}) Refusal) → refused_with r ≡ None → r ≡ Ok tt
fetched_ok (Ok u) e = refl
fetched_ok (Err f) e = absurd (none-some _ (sym e))

counted_ok : (r : Result ℕ Refusal) → refused_with r ≡ None → (n : ℕ) × (r ≡ Ok n)
counted_ok (Ok n) e = (n, refl)
counted_ok (Err f) e = absurd (none-some _ (sym e))

-- a refused fetch leaves its run
fetch_left : (r : Result (Unit {0}) Refusal) (m : Meaning) (i j : ℕ) (run : List ℕ) (e : ℕ × List ℕ) → refused_with r ≡ Some e → after_get r m.grid i j run ≡ run
fetch_left (Ok u) m i j run e q = absurd (none-some e q)
fetch_left (Err f) m i j run e q = refl

-- a law by what a check says, and by whether a shape is set
pub checked : (t : Turn) (check : Option (ℕ × List ℕ)) (Law : Type 0) → ((e : ℕ × List ℕ) → check ≡ Some e → Refuses t e) → (check ≡ None → Law) → Checked t check Law
checked t (Some e) Law refuses law = refuses e refl
checked t None Law refuses law = law refl

pub in_shape : (P : Board) (l : Ledger) (m : Meaning) (t : Turn) (Law : Shape → Type 0) → Linked P l m → Sound P.bits m.shape m.grid → (m.shape ≡ None → Refuses t (said NoShape))
    → ((s : Shape) → m.shape ≡ Some s → Law s) → InShape P t l.shape Law
in_shape P l m t Law L sound without within =
    by_shape P l m (λ o. InShape P t o Law) L without (λ s is. (s, refl, (sound s is).0, within s is))

-- The receiver's checks are those of the law, and then that of the slots

fetch_refused : (m : Meaning) (s : Shape) (i j : ℕ) (run : List ℕ) (e : ℕ × List ℕ) → m.shape ≡ Some s → or_else (place_refusal s i j) (length_refusal s run) ≡ Some e
    → fetch_refusal m i j run ≡ Some e
fetch_refused m s i j run e is q = grind (arith, is, q)

fetch_passes : (m : Meaning) (s : Shape) (i j : ℕ) (run : List ℕ) → m.shape ≡ Some s → or_else (place_refusal s i j) (length_refusal s run) ≡ None
    → fetch_refusal m i j run ≡ empty_refusal (m.grid.slots i j)
fetch_passes m s i j run is q = grind (arith, is, q)

repair_refused : (m : Meaning) (s : Shape) (i : ℕ) (work : List ℕ) (e : ℕ × List ℕ) → m.shape ≡ Some s → or_else (block_refusal s i) (run_refusal s (parity_of s + 1) work 0) ≡ Some e
    → repair_refusal m i work ≡ Some e
repair_refused m s i work e is q = grind (arith, is, q)

-- a repair that passes them is refused before its work with 7 alone
repair_few : (m : Meaning) (s : Shape) (i : ℕ) (work : List ℕ) (e : ℕ × List ℕ) → m.shape ≡ Some s → or_else (block_refusal s i) (run_refusal s (parity_of s + 1) work 0) ≡ None
    → repair_refusal m i work ≡ Some e → e ≡ said TooFew
repair_few m s i work e is q r = grind (arith, is, q, r)

seven_eight : {A : Type 0} {sum word : ℕ} → ◌≡◌ {A = Option (ℕ × List ℕ)} (Some (said TooFew)) (Some (said (Contradictory sum word))) → A
seven_eight e = let q : ◌≡◌ {A = ℕ} 7 8 = grind (arith, e) in absurd (omega arith)

-- What a repair that passes its checks answers, with what it leaves in its run
pub record Wholly (s : Shape) (n : ℕ) (had : ℕ) (t : Turn) : Type 0 where
  pub answer : t.answer ≡ Whole n
  pub number : n + had ≡ s.positions
  pub cleared : ZeroRun t.after

pub record Fewly (t : Turn) : Type 0 where
  pub answer : refusal_in t.answer ≡ Some (said TooFew)
  pub kept : t.after ≡ t.before

pub record Wrongly (sum word : ℕ) (t : Turn) : Type 0 where
  pub answer : refusal_in t.answer ≡ Some (said (Contradictory sum word))
  pub cleared : ZeroRun t.after

abbrev Outcome : Shape → ℕ → Turn → Type 0
Outcome s had t = ((n : ℕ) × Wholly s n had t) ⊎ (Fewly t ⊎ ((sum word : ℕ) × Wrongly sum word t))

module _ (P : Board) (l : Ledger) (m : Meaning) (L : Linked P l m) (sound : Sound P.bits m.shape m.grid) (t : Turn) where
  module _ (i : ℕ) (after : Meaning) (R : Repairs P.product m i t after) where
    module _ (s : Shape) (is : m.shape ≡ Some s) (pass : or_else (block_refusal s i) (run_refusal s (parity_of s + 1) t.before 0) ≡ None) where
      abbrev K : Kept P s l m.grid
      K = L.kept s is

      answer_refusal : refusal_in t.answer ≡ refused_with R.said
      answer_refusal = ap refusal_in R.answer_is ∙ refusal_repaired R.said

      outcome : Outcome s (held P l s i) t
      outcome = by R.said refl R.changed
        where
          by : (r : Result Completed Refusal) → R.said ≡ r → AfterRepair P.product m i t.before t.after r after → Outcome s (held P l s i) t
          by (Ok w) e A =
              let same : A.whole.s ≡ s = same_Some _ _ (sym A.whole.shape_is ∙ is) in
              let number : count (held_in m.grid i) s.positions + w.restored ≡ s.positions = subst (λ (u : Shape). count (held_in m.grid i) u.positions + w.restored ≡ u.positions) same A.whole.number in
              let had = count_held P s l m.grid K i in
              inl (w.restored, record { answer = R.answer_is ∙ ap repaired e; number = omega arith; cleared = A.cleared.0 A.answer })
          by (Err f) e A = elim A.answer [
            | inl u ↦ inr (inl (record { answer = answer_refusal ∙ ap refused_with e ∙ ap Some (repair_few m s i t.before (said f) is pass u); kept = A.cleared.1 (said f) u }))
            | inr u ↦
                let n = u.1.contradicts in
                inr (inr (n.sum, n.word, record { answer = answer_refusal ∙ ap refused_with e ∙ ap (λ r. Some (said r)) n.refusal; cleared = A.cleared.0 u.0 }))
          ]

      judged : Judged (code_of s P.product) m.grid i R.said
      judged = R.judged s is (grind (arith, pass)) (grind (arith, pass))

      -- a block that is contradictory is not whole
      moved : (sum word : ℕ) → Contradiction (code_of s P.product) (GridAgrees (code_of s P.product) m.grid i) (missing_in (code_of s P.product) m.grid i) sum word
          → Contradiction (code_of s P.product) (Agrees P l s i) (s.positions - held P l s i) sum word
      moved sum word x = elim (cases_Bool (l.whole i)) [
        | inl w ↦
            let o = one_whole P s l m.grid K i w in
            let u = to_slots P s l m.grid K i o.it o.codeword o.agrees in
            absurd (x.none o.it u.0 u.1)
        | inr f ↦
            subst (λ n. Contradiction (code_of s P.product) (Agrees P l s i) (s.positions - n) sum word) (count_held P s l m.grid K i)
            (contradiction_moved s P.product (GridAgrees (code_of s P.product) m.grid i) (Agrees P l s i) (agree_ledger P s l m.grid K i) (agree_slots P s l m.grid K i f) _ sum word x)
      ]

      pub repaired_law : Repaired P l s i t
      repaired_law =
          let J = judged in
          let q = answer_refusal in
          let p = P.product in
          let A = Agrees P l s i in
          let B = GridAgrees (code_of s p) m.grid i in
          let there = to_slots P s l m.grid K i in
          let back = to_ledger P s l m.grid K i in
          record {
            whole = (
              (λ w. one_moved s p p B A back there (J.is_whole (repaired_whole R.said w.0 (sym R.answer_is ∙ w.1)))),
              λ o. let w = whole_repaired R.said (J.whole (one_moved s p p A B there back o)) in (w.0, R.answer_is ∙ w.1),
            );
            few = ((λ e. several_moved s p p B A back there (J.is_few (sym q ∙ e))), λ v. q ∙ J.few (several_moved s p p A B there back v));
            contradictory = (
              (λ e. none_moved s p p B A back there (J.is_contradictory e.0 e.1 (sym q ∙ e.2)).none),
              λ v. let f = J.contradictory (none_moved s p p A B there back v) in (f.0, f.1, q ∙ f.2),
            );
            other = elim outcome [
              | inl w ↦ inl (w.0, w.1.answer)
              | inr o ↦ elim o [ inl f ↦ inr (inl f.answer) | inr x ↦ inr (inr (x.0, x.1, x.2.answer)) ]
            ];
            number = λ (n, e). elim outcome [
              | inl w ↦ let z : w.0 ≡ n = cc (w.1.answer, e) in subst (λ n. n + held P l s i ≡ s.positions) z w.1.number
              | inr o ↦ elim o [
                | inl f ↦ absurd (none-some _ (sym (ap refusal_in e) ∙ f.answer))
                | inr x ↦ absurd (none-some _ (sym (ap refusal_in e) ∙ x.2.answer))
              ]
            ];
            values = λ (sum, word, e). moved sum word (J.is_contradictory sum word (sym q ∙ e));
            long = R.same_length;
            kept = λ e. elim outcome [
              | inl w ↦ absurd (none-some _ (sym (ap refusal_in w.1.answer) ∙ e))
              | inr o ↦ elim o [ inl f ↦ f.kept | inr x ↦ seven_eight (sym e ∙ x.2.answer) ]
            ];
            cleared = λ n. elim outcome [
              | inl w ↦ w.1.cleared
              | inr o ↦ elim o [ inl f ↦ absurd (n f.answer) | inr x ↦ x.2.cleared ]
            ];
          }

    -- a repair that is refused before its work
    repair_left : (e : ℕ × List ℕ) → repair_refusal m i t.before ≡ Some e → Refuses t e
    repair_left e q = by R.said refl R.changed
      where
        by : (r : Result Completed Refusal) → R.said ≡ r → AfterRepair P.product m i t.before t.after r after → Refuses t e
        by (Ok w) is A = absurd (none-some e (sym A.answer ∙ q))
        by (Err f) is A = elim A.answer [
          | inl u ↦ (ap refusal_in R.answer_is ∙ refusal_repaired R.said ∙ ap refused_with is ∙ sym u ∙ q, A.cleared.1 e q)
          | inr u ↦ absurd (none-some e (sym u.0 ∙ q))
        ]

    pub repair_law : InShape P t l.shape (λ s. Checked t (or_else (block_refusal s i) (run_refusal s (parity_of s + 1) t.before 0)) (Repaired P l s i t))
    repair_law =
        in_shape P l m t _ L sound (λ is. repair_left (said NoShape) (grind (arith, is)))
        (λ s is. checked t _ _ (λ e q. repair_left e (repair_refused m s i t.before e is q)) (repaired_law s is))

  pub fetch_law : (i j : ℕ) (after : Meaning) → Fetches m i j t after
      → InShape P t l.shape (λ s. Checked t (or_else (place_refusal s i j) (length_refusal s t.before)) (FetchedAt P l s i j t))
  fetch_law i j after F =
      let refuses : (e : ℕ × List ℕ) → fetch_refusal m i j t.before ≡ Some e → Refuses t e = λ e q. (
        ap refusal_in F.answer_is ∙ refusal_fetched F.said ∙ F.refusal ∙ q,
        F.copied ∙ fetch_left F.said m i j t.before e (F.refusal ∙ q),
      ) in
      in_shape P l m t _ L sound (λ is. refuses (said NoShape) (grind (arith, is)))
      (λ s is. checked t _ _ (λ e q. refuses e (fetch_refused m s i j t.before e is q)) (λ q.
      let K = L.kept s is in
      let column : j < s.positions = grind (arith, q) in
      let by_slot = fetch_passes m s i j t.before is q in
      let given : (ws : List ℕ) → m.grid.slots i j ≡ Some ws → (t.answer ≡ Fetched) × (t.after ≡ ws) = λ ws e.
      let ok = fetched_ok F.said (F.refusal ∙ by_slot ∙ ap empty_refusal e) in
      (F.answer_is ∙ ap fetched ok, F.copied ∙ ap (λ r. after_get r m.grid i j t.before) ok ∙ ap (λ o. packet_or o t.before) e) in
      record {
        done = λ h.
            let slot = slot_from P s l m.grid K i j column h in
            let (answered, copied) = given slot.0 slot.1 in
            (answered, slot_there P s l m.grid K i (sound s is).1 j column t.after (slot.1 ∙ ap Some (sym copied)));
        only = λ ws h. sym (given ws (there_slot P s l m.grid K i (sound s is).1 j column ws h)).1;
        empty = λ n. refuses (said SlotEmpty) (by_slot ∙ ap empty_refusal (no_slot P s l m.grid K i j column n));
      }))

  pub count_law : (i : ℕ) (after : Meaning) → Counts m i t after → InShape P t l.shape (λ s. Checked t (block_refusal s i) (Answers t (Held (held P l s i))))
  count_law i after C =
      let refuses : (e : ℕ × List ℕ) → count_refusal m i ≡ Some e → Refuses t e = λ e q. (ap refusal_in C.answer_is ∙ refusal_counted C.said ∙ C.refusal ∙ q, C.same_run) in
      in_shape P l m t (λ s. Checked t (block_refusal s i) (Answers t (Held (held P l s i)))) L sound (λ is. refuses (said NoShape) (grind (arith, is)))
      (λ s is. checked t (block_refusal s i) _ (λ e q. refuses e (grind (arith, is, q))) (λ q.
      let pass : count_refusal m i ≡ None = grind (arith, is, q) in
      let ok = counted_ok C.said (C.refusal ∙ pass) in
      let number = subst (Counted m i) ok.1 C.number in
      (C.answer_is ∙ ap counted ok.1 ∙ ap Held (number s is ∙ count_held P s l m.grid (L.kept s is) i), C.same_run)))
