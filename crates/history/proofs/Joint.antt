-- Enough packets of a codeword are recovered as that codeword, by what a transcript shows, with no receiver in sight.
use Rattle.std.proofs.Common.{◌≡◌, ℕ, ◌+◌, ◌-◌, ◌<◌, ◌≤◌, true, List, ◌∷◌, ◌++◌, None, Some, Option, sym, refl, ap, ◌∙◌, subst, append_assoc, arith}
use Rattle.std.proofs.lemmas.Bool.{eq-eqb, or_left, MatchBool-at_true}
use Rattle.galois.specs.Field.{FieldLaws}
use Rattle.algebra.specs.Code.{Block, Codeword, SamePacket, SameBlock, count}
use Rattle.algebra.proofs.Fits.{at_most_one}
use Rattle.layout.specs.declared.shape.Dimensions.{Dimensions}
use Rattle.layout.specs.declared.shape.Shape.{Shape}
use Rattle.layout.specs.Sizes.{parity_of, Packets}
use Rattle.layout.specs.Made.{dimensions_of}
use Rattle.layout.specs.Blocks.{code_of}
use Rattle.code.proofs.Fitting.{proper}
use Rattle.history.specs.declared.call.Call.TheVariants.{Repair, Fetch}
use Rattle.history.specs.declared.call.Answer.TheVariants.{Whole}
use Rattle.history.specs.Turns.{Turn, Checked}
use Rattle.history.specs.Ledger.{Ledger, opened, after_call, continued, ledger, any_accepted}
use Rattle.history.specs.Boards.{Board}
use Rattle.history.specs.Law.{InShape, Agrees, Repaired, FetchedAt, CallLaw, History, RepairsEnough, Recovers}
use Rattle.history.proofs.Ledgers.{Grown, grown, grown_completing, any_is_accepted, has_whole, continued_append, continued_after}
use Rattle.history.proofs.Shapes.{same_shape}

-- two blocks that agree with a ledger have the same packets where one has any_accepted
agree_accepted : (P : Board) (l : Ledger) (s : Shape) (i : ℕ) (x c : Block) → Agrees P l s i x → Agrees P l s i c → (j : ℕ) → any_accepted l i j ≡ true
    → SamePacket (code_of s P.product) (x j) (c j)
agree_accepted P l s i x c a a' j t r p lr lp = let h = any_is_accepted l i j t in a j h.0 h.1 r p lr lp ∙ sym (a' j h.0 h.1 r p lr lp)

-- The law of a call in a shape that is set, after checks that pass

pub of_shape : (P : Board) (t : Turn) (o : Option Dimensions) (s : Shape) (Law : Shape → Type 0) → o ≡ Some (dimensions_of s) → InShape P t o Law → (s.rows ≡ P.bits) × Law s
of_shape P t o s Law e law =
    let (u, dims, rows, it) = subst (λ o. InShape P t o Law) e law in
    let is : u ≡ s = same_shape u s dims in
    (ap (λ (v : Shape). v.rows) (sym is) ∙ rows, subst Law is it)

pub passed : (t : Turn) (check : Option (ℕ × List ℕ)) (Law : Type 0) → check ≡ None → Checked t check Law → Law
passed t check Law e law = subst (λ c. Checked t c Law) e law

module _ (P : Board) (inv : ℕ → ℕ) (laws : FieldLaws P.bits P.product inv) where
  repair_judged : (l : Ledger) (t : Turn) (s : Shape) (i : ℕ) → l.shape ≡ Some (dimensions_of s) → i < s.blocks → t.call ≡ Repair i → Packets s (parity_of s + 1) t.before → CallLaw P l t t.call
      → (s.rows ≡ P.bits) × Repaired P l s i t
  repair_judged l t s i e inside call right law =
      let (rows, it) = of_shape P t l.shape s _ e (subst (CallLaw P l t) call law) in
      (rows, passed t _ _ (grind (arith, inside, right)) it)

  fetch_given : (l : Ledger) (t : Turn) (s : Shape) (i j : ℕ) → l.shape ≡ Some (dimensions_of s) → i < s.blocks → j < s.positions → t.call ≡ Fetch i j → Packets s 1 t.before → CallLaw P l t t.call
      → FetchedAt P l s i j t
  fetch_given l t s i j e block position call right law =
      let (rows, it) = of_shape P t l.shape s _ e (subst (CallLaw P l t) call law) in
      passed t _ _ (grind (arith, block, position, right)) it

  -- enough packets of a codeword: no other agrees
  enough_only : (l : Ledger) (s : Shape) (i : ℕ) (c : Block) → s.rows ≡ P.bits → Agrees P l s i c → s.sources ≤ count (any_accepted l i) s.positions → Codeword (code_of s P.product) c
      → (x : Block) → Codeword (code_of s P.product) x → Agrees P l s i x → SameBlock (code_of s P.product) x c
  enough_only l s i c rows agrees enough w x v a =
      let of_rows : FieldLaws s.rows P.product inv = subst (λ m. FieldLaws m P.product inv) (sym rows) laws in
      let many : s.positions - parity_of s ≤ count (any_accepted l i) s.positions = let k = s.counts in omega arith in
      at_most_one (code_of s P.product) inv (proper s P.product inv of_rows) (any_accepted l i) many x c v w (λ j lt t. agree_accepted P l s i x c a agrees j t)

  pub recovers : (ts : List Turn) → History P ts → (past : List Turn) (t : Turn) (future : List Turn) → ts ≡ past ++ t ∷ future
      → (s : Shape) (i : ℕ) (c : Block) → Codeword (code_of s P.product) c → RepairsEnough P s i c past t → Recovers P s i c t future
  recovers ts H past t future is s i c w E =
      let l = ledger past in
      let (rows, J) = repair_judged l t s i E.shape_is E.inside E.call E.right (H.answers past t future is) in
      let only = enough_only l s i c rows E.agrees E.enough w in
      let whole = J.whole.1 (record { it = c; codeword = w; agrees = E.agrees; only = only }) in
      let l' = after_call l t.call t.before t.answer in
      let (entered, one) = whole_entered l t whole.0 E.call whole.1 in
      record {
        whole = whole;
        fetches = λ between f rest future_is none j call lt right.
            let later = continued l' between in
            let G = grown l' between none in
            let now : ledger (past ++ t ∷ between) ≡ later = continued_append (opened None) past (t ∷ between) ∙ continued_after l t between in
            let split : ts ≡ (past ++ t ∷ between) ++ f ∷ rest = is ∙ ap (λ us. past ++ t ∷ us) future_is ∙ sym (append_assoc past (t ∷ between) (f ∷ rest)) in
            let law = subst (λ l. CallLaw P l f f.call) now (H.answers (past ++ t ∷ between) f rest split) in
            let shape_is : later.shape ≡ Some (dimensions_of s) = G.shape_same ∙ one.shape_same ∙ E.shape_is in
            let there = G.still i entered in
            let (answered, run) = (fetch_given later f s i j shape_is E.inside lt call right law).done (has_whole later i j there) in
            let u = MatchBool-at_true _ _ there run in
            let agrees : Agrees P l s i u.1.it = λ q ws a. u.1.agrees q ws (G.more i q ws (one.more i q ws a)) in
            let same = only u.1.it u.1.codeword agrees j lt in
            (answered, u.0, λ r p lr lp. sym (u.2 r p lr lp) ∙ same r p lr lp);
      }
    where
      -- a block that is called whole is entered
      whole_entered : (l : Ledger) (t : Turn) (n : ℕ) → t.call ≡ Repair i → t.answer ≡ Whole n
          → ((after_call l t.call t.before t.answer).whole i ≡ true) × Grown l (after_call l t.call t.before t.answer)
      whole_entered l t n call answer =
          let Q : Ledger → Type 0 = λ l'. (l'.whole i ≡ true) × Grown l l' in
          let at : after_call l (Repair i) t.before (Whole n) ≡ after_call l t.call t.before t.answer =
          λ z. after_call l (sym call z) t.before (sym answer z) in
          subst Q at (or_left _ _ (eq-eqb i i refl), grown_completing l i)
