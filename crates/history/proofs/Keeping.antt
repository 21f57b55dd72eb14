-- Every call keeps a ledger and a receiver linked.
use Rattle.std.proofs.Common.{◌≡◌, ℕ, ◌<◌, true, ◌||◌, ◌⊎◌, List, [], ◌∷◌, ◌++◌, Some, None, Ok, Err, Option, Result, sym, refl, ap, ◌∙◌, subst, inl, inr, arith}
use Rattle.std.specs.List.{Contains}
use Rattle.std.proofs.lemmas.Bool.{MatchBool-at_true, MatchBool-at_false, cases_Bool, cases_eq, eq-eqb, ne_eqb, or_left, false≢true, true≢false}
use Rattle.std.proofs.lemmas.Option.{none-some, same_Some}
use Rattle.refusal.specs.declared.Refusal.TheVariants.{NoShape}
use Rattle.refusal.specs.declared.Refusal.{Refusal}
use Rattle.refusal.specs.Numbers.{said, refused_with}
use Rattle.algebra.specs.Code.{Block, Codeword, SameBlock}
use Rattle.layout.specs.declared.shape.Dimensions.{Dimensions}
use Rattle.layout.specs.declared.shape.Shape.{Shape}
use Rattle.layout.specs.Blocks.{code_of, packet_in}
use Rattle.frame.specs.Frames.{Sight, shape, packet, refused, parse}
use Rattle.store.specs.Grids.{Grid, packet_or}
use Rattle.receiver.specs.declared.Taken.{Taken}
use Rattle.receiver.specs.declared.Taken.TheVariants.{Shaped as shape_set, Fresh as packet_put, Known as packet_held}
use Rattle.receiver.specs.declared.Whole.{Whole as Completed}
use Rattle.receiver.specs.Meaning.{Meaning}
use Rattle.receiver.specs.Sound.{Sound}
use Rattle.receiver.specs.Calls.{is_set, Starts, Started, TookShape, Keeps, Knows, take_refusal, Took}
use Rattle.receiver.specs.Repairs.{repair_refusal, Completes, MadeWhole}
use Rattle.history.specs.Steps.{AfterRepair}
use Rattle.history.specs.declared.call.Call.{Call}
use Rattle.history.specs.declared.call.Call.TheVariants.{Take, Repair, Fetch, Count}
use Rattle.history.specs.Turns.{Turn}
use Rattle.history.specs.Ledger.{Acceptance, Ledger, opened, acceptance, accepting, completing, after_frame, after_call, continued}
use Rattle.history.specs.Boards.{Board}
use Rattle.history.specs.Law.{Agrees}
use Rattle.history.specs.Steps.{taken, repaired, Makes, AllSteps}
use Rattle.history.proofs.Ledgers.{contains_cases, contains_here, contains_more}
use Rattle.history.proofs.Linked.{present, Full, Kept, Linked, to_slots}

-- a place is this one or another
same_place : (a q i j : ℕ) → ((a ≡ i) × (q ≡ j)) ⊎ (a ≡ i → q ≡ j → ⊥)
same_place a q i j = elim (cases_eq a i) [
  | inl e ↦ elim (cases_eq q j) [ inl f ↦ inl (e, f) | inr n ↦ inr (λ _ f. n f) ]
  | inr n ↦ inr (λ e _. n e)
]

-- a repair that passes its checks is of a block of the shape
repair_inside : (m : Meaning) (s : Shape) (i : ℕ) (work : List ℕ) → m.shape ≡ Some s → repair_refusal m i work ≡ None → i < s.blocks
repair_inside m s i work is pass = grind (arith, is, pass)

-- a packet is taken only while a shape is set
shape_there : (bits : ℕ) (m : Meaning) (i j : ℕ) (ws : List ℕ) → None ≡ take_refusal bits m (packet i j ws) → m.shape ≡ None → ⊥
shape_there bits m i j ws q e = none-some (said NoShape) (q ∙ ap (λ o. take_refusal bits (record m { shape = o }) (packet i j ws)) e)

module _ (P : Board) where
  -- a full block stays full if its slots do, and the codewords that agree
  full_moved : (s : Shape) (l l' : Ledger) (g h : Grid) (i : ℕ) → ((j : ℕ) → h.slots i j ≡ g.slots i j) → ((c : Block) → Agrees P l' s i c → Agrees P l s i c)
      → Full P s l g i → Full P s l' h i
  full_moved s l l' g h i e fewer F =
      let row : g.slots i ≡ h.slots i = λ z j. sym (e j) z in
      let read : (ℕ → Option (List ℕ)) → Block = λ slots q. packet_in s.words (packet_or (slots q) []) in
      record {
        inside = F.inside;
        filled = λ j lt. let f = F.filled j lt in (f.0, e j ∙ f.1);
        codeword = subst (λ slots. Codeword (code_of s P.product) (read slots)) row F.codeword;
        only = λ c w a. subst (λ slots. SameBlock (code_of s P.product) c (read slots)) row (F.only c w (fewer c a));
      }

  module _ (l : Ledger) (m : Meaning) (L : Linked P l m) where
    stays : (after : Meaning) → after ≡ m → Linked P l after
    stays after e = subst (Linked P l) (sym e) L

    -- a shape is set
    begins : (d : Dimensions) (after : Meaning) → Starts m d after → Linked P (opened (Some d)) after
    begins d after S = record {
      capacity_is = S.capacity_same ∙ L.capacity_is;
      shape_is = ap Some (sym S.dimensions) ∙ sym (ap present S.shape_is);
      blank = λ _. ((λ i. refl), refl);
      kept = λ s e. record {
        held = λ i j ws h. absurd (omega (arith, h.1));
        found = λ i j ws _ f. absurd (none-some ws (sym (S.emptied.empty i j) ∙ f));
        full = λ i f. absurd (false≢true f);
      };
    }

    module _ (sound : Sound P.bits m.shape m.grid) (i j : ℕ) (ws : List ℕ) (some : m.shape ≡ None → ⊥) where
      abbrev next : Ledger
      next = accepting l (acceptance i j ws)

      -- with one packet more accepted fewer blocks agree
      fewer : (s : Shape) (a : ℕ) (c : Block) → Agrees P next s a c → Agrees P l s a c
      fewer s a c u q vs h = u q vs (contains_more (acceptance i j ws) (acceptance a q vs) l.accepted h)

      -- a packet is put
      keeps : (after : Meaning) → Keeps m i j ws after → Linked P next after
      keeps after D = record {
        capacity_is = D.capacity_same ∙ L.capacity_is;
        shape_is = L.shape_is ∙ ap present (sym D.shape_same);
        blank = λ e. absurd (some (sym D.shape_same ∙ e));
        kept = λ s e.
            let is = sym D.shape_same ∙ e in
            let K = L.kept s is in
            let F = (sound s is).1 in
            let row : i < s.blocks = subst (λ n. i < n) F.rows D.row_inside in
            let column : j < s.positions = subst (λ n. j < n) F.columns D.column_inside in
            let other : (a q : ℕ) → (a ≡ i → q ≡ j → ⊥) → after.grid.slots a q ≡ m.grid.slots a q = λ a q n. D.filled.others a q n in
            record {
              held = λ a q vs h. elim (contains_cases (acceptance i j ws) (acceptance a q vs) l.accepted h) [
                | inl p ↦
                    let Q : Acceptance → Type 0 = λ (x : Acceptance). (after.grid.slots x.block x.position ≡ Some x.payload) × (x.block < s.blocks) × (x.position < s.positions) in
                    subst Q p (D.filled.here, row, column)
                | inr r ↦
                    let k = K.held a q vs r in
                    let apart : a ≡ i → q ≡ j → ⊥ = λ x y. none-some vs (sym D.was_empty ∙ sym (ap (λ u. m.grid.slots u q) x ∙ ap (m.grid.slots i) y) ∙ k.0) in
                    (other a q apart ∙ k.0, k.1, k.2)
              ];
              found = λ a q vs w f. elim (same_place a q i j) [
                | inl t ↦
                    let here : Some ws ≡ Some vs = sym D.filled.here ∙ sym (ap (λ u. after.grid.slots u q) t.0 ∙ ap (after.grid.slots i) t.1) ∙ f in
                    let is : acceptance i j ws ≡ acceptance a q vs = λ z. acceptance (sym t.0 z) (sym t.1 z) (same_Some ws vs here z) in
                    subst (λ x. Contains (acceptance i j ws ∷ l.accepted) x) is (contains_here (acceptance i j ws) l.accepted)
                | inr n ↦ contains_more (acceptance i j ws) (acceptance a q vs) l.accepted (K.found a q vs w (sym (other a q n) ∙ f))
              ];
              full = λ a w.
                  let G = K.full a w in
                  let apart : a ≡ i → ⊥ = λ x. let f = G.filled j column in none-some f.0 (sym D.was_empty ∙ ap (λ u. m.grid.slots u j) (sym x) ∙ f.1) in
                  full_moved s l next m.grid after.grid a (λ q. other a q (λ x _. apart x)) (fewer s a) G;
            };
      }

      -- a packet that is held is accepted
      knows : (after : Meaning) → Knows m i j ws after → Linked P next m
      knows after D = record {
        capacity_is = L.capacity_is;
        shape_is = L.shape_is;
        blank = λ e. absurd (some e);
        kept = λ s e.
            let K = L.kept s e in
            let F = (sound s e).1 in
            let row : i < s.blocks = subst (λ n. i < n) F.rows D.row_inside in
            let column : j < s.positions = subst (λ n. j < n) F.columns D.column_inside in
            record {
              held = λ a q vs h. elim (contains_cases (acceptance i j ws) (acceptance a q vs) l.accepted h) [
                | inl p ↦
                    let Q : Acceptance → Type 0 = λ (x : Acceptance). (m.grid.slots x.block x.position ≡ Some x.payload) × (x.block < s.blocks) × (x.position < s.positions) in
                    subst Q p (D.held, row, column)
                | inr r ↦ K.held a q vs r
              ];
              found = λ a q vs w f. contains_more (acceptance i j ws) (acceptance a q vs) l.accepted (K.found a q vs w f);
              full = λ a w. full_moved s l next m.grid m.grid a (λ q. refl) (fewer s a) (K.full a w);
            };
      }

    -- a shape's frame
    shaped : (d : Dimensions) (r : Result Taken Refusal) (after : Meaning) → Started m d r after → Linked P (after_frame l (shape d) (taken r)) after
    shaped d (Ok shape_set) after S = begins d after S
    shaped d (Ok packet_put) after S = absurd S
    shaped d (Ok packet_held) after S = absurd S
    shaped d (Err e) after S = stays after S

    shape_taken : (d : Dimensions) (r : Result Taken Refusal) (after : Meaning) → TookShape m d r after → Linked P (after_frame l (shape d) (taken r)) after
    shape_taken d r after T = elim (cases_Bool (is_set m.shape d)) [
      | inl e ↦
          let (known, same) = MatchBool-at_true _ _ e T in
          subst (λ r. Linked P (after_frame l (shape d) (taken r)) after) (sym known) (stays after same)
      | inr e ↦ shaped d r after (MatchBool-at_false _ _ e T)
    ]

    -- a frame
    takes : Sound P.bits m.shape m.grid → (f : Sight) (r : Result Taken Refusal) (after : Meaning) → refused_with r ≡ take_refusal P.bits m f → Took m f r after → Linked P (after_frame l f (taken r)) after
    takes sound (shape d) r after q T = shape_taken d r after T
    takes sound (packet i j ws) (Ok shape_set) after q T = absurd T
    takes sound (packet i j ws) (Ok packet_put) after q T = keeps sound i j ws (shape_there P.bits m i j ws q) after T
    takes sound (packet i j ws) (Ok packet_held) after q T = subst (Linked P (accepting l (acceptance i j ws))) (sym T.same) (knows sound i j ws (shape_there P.bits m i j ws q) after T)
    takes sound (packet i j ws) (Err e) after q T = stays after T
    takes sound (refused e) (Ok t) after q T = absurd T
    takes sound (refused e) (Err f) after q T = stays after T

    -- another block is whole after a repair of block i if it was before
    still_whole : (i a : ℕ) → (a ≡ i → ⊥) → (completing l i).whole a ≡ l.whole a
    still_whole i a n = ap (λ b. b || l.whole a) (ne_eqb a i n)

    now_whole : (i a : ℕ) → a ≡ i → (completing l i).whole a ≡ true
    now_whole i a e = or_left _ _ (eq-eqb a i e)

    -- a block is completed
    completed : (s : Shape) (i : ℕ) (h : Grid) → i < s.blocks → Kept P s l m.grid → Completes (code_of s P.product) m.grid i h → Kept P s (completing l i) h
    completed s i h inside K D = record {
      held = λ a q vs f.
          let k = K.held a q vs f in (
            elim (cases_eq a i) [
              | inl x ↦ subst (λ u. h.slots u q ≡ Some vs) (sym x) (D.kept q vs (subst (λ u. m.grid.slots u q ≡ Some vs) x k.0))
              | inr n ↦ D.others a q (λ x _. n x) ∙ k.0
            ],
            k.1,
            k.2,
          );
      found = λ a q vs w f. elim (cases_eq a i) [
        | inl x ↦ absurd (true≢false (sym (now_whole i a x) ∙ w))
        | inr n ↦ K.found a q vs (sym (still_whole i a n) ∙ w) (sym (D.others a q (λ x _. n x)) ∙ f)
      ];
      full = λ a w. elim (cases_eq a i) [
        | inl x ↦ subst (Full P s (completing l i) h) (sym x) (record {
          inside = inside;
          filled = λ q lt. let f = D.filled q lt in (f.0, f.1);
          codeword = D.codeword;
          only = λ c v a. D.only c v (to_slots P s l m.grid K i c v a).1;
        })
        | inr n ↦ full_moved s l (completing l i) m.grid h a (λ q. D.others a q (λ x _. n x)) (λ c u. u) (K.full a (sym (still_whole i a n) ∙ w))
      ];
    }

    -- a repair that makes a block whole
    restores : (i n : ℕ) (work : List ℕ) (after : Meaning) → repair_refusal m i work ≡ None → MadeWhole P.product m i n after → Linked P (completing l i) after
    restores i n work after pass R = record {
      capacity_is = R.capacity_same ∙ L.capacity_is;
      shape_is = L.shape_is ∙ ap present (sym R.shape_same);
      blank = λ e. absurd (none-some R.s (sym e ∙ R.shape_same ∙ R.shape_is));
      kept = λ s e.
          let same : R.s ≡ s = same_Some _ _ (sym R.shape_is ∙ sym R.shape_same ∙ e) in
          subst (λ (t : Shape). Kept P t (completing l i) after.grid) same
          (completed R.s i after.grid (repair_inside m R.s i work R.shape_is pass) (L.kept R.s R.shape_is) R.completes);
    }

    -- a call
    makes_linked : (t : Turn) (call : Call) (after : Meaning) → Sound P.bits m.shape m.grid → Makes P.bits P.product m t call after
        → Linked P (after_call l call t.before t.answer) after
    makes_linked t Take after sound T =
        subst (λ a. Linked P (after_frame l (parse t.before) a) after) (sym T.answer_is) (takes sound (parse t.before) T.said after T.refusal T.took)
    makes_linked t (Repair i) after sound R =
        let Q : Result Completed Refusal → Type 0 =
        λ r. AfterRepair P.product m i t.before t.after r after → Linked P (after_call l (Repair i) t.before (repaired r)) after in
        let by_said : Q R.said = elim R.said as Q [
          | Ok w ↦ λ c. restores i w.restored t.before after c.answer c.whole
          | Err e ↦ λ c. stays after c.left
        ] in
        subst (λ a. Linked P (after_call l (Repair i) t.before a) after) (sym R.answer_is) (by_said R.changed)
    makes_linked t (Fetch i j) after sound F = stays after F.same
    makes_linked t (Count i) after sound C = stays after C.same

  -- a run up to a point, and from there on
  pub run_splits : (l : Ledger) (m : Meaning) (past future : List Turn) (end : Meaning) → Linked P l m → AllSteps P.bits P.product m (past ++ future) end
      → (n : Meaning) × Linked P (continued l past) n × AllSteps P.bits P.product n future end
  unfolding continued
  run_splits l m [] future end L R = (m, L, R)
  run_splits l m (t ∷ past) future end L R =
      run_splits (after_call l t.call t.before t.answer) R.0 past future end (makes_linked l m L t t.call R.0 R.1.sound R.1.makes) R.2
