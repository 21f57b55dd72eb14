-- What rebuild makes of the sums of a block: the lost packets of the codewords that agree with it, or none.
use Rattle.std.proofs.Common.{None, Option, refl, ◌≡◌, ℕ, ◌+◌, ◌*◌, ◌<◌, ◌≤◌, false, List, ◌++◌, Ok, Err, Result, sym, ap, ◌∙◌, subst, inl, inr, arith}
use Rattle.std.specs.Prelude.{IfOk}
use lib.Bits.{bit_xor}
use Rattle.refusal.specs.declared.Refusal.{Refusal}
use Rattle.refusal.specs.Numbers.{said}
use Rattle.algebra.specs.Code.{Code, Block, SamePacket, ZeroPacket, SameBlock, syndrome, among}
use Rattle.algebra.proofs.Marks.{two, among_find}
use Rattle.algebra.proofs.Words.{xors_ext, scaled_same}
use Rattle.algebra.proofs.Lost.{syndrome_split, put, put_at, put_off}
use Rattle.layout.specs.declared.losses.LossList.{LossList}
use Rattle.layout.specs.Sizes.{lost, LostBelow}
use Rattle.layout.specs.Blocks.{block_at, Run, size_of}
use Rattle.layout.specs.Checks.{CheckedFirst}
use Rattle.layout.proofs.Passes.{passed}
use Rattle.layout.proofs.Blocks.{row_lt, column_lt, place, words_pos}
use Rattle.code.specs.Sums.{SumsTo}
use Rattle.code.specs.Rebuilt.{lost_sum, Rebuilt, Unmatched, Solved}
use Rattle.code.specs.Lost.{Contradicts, AgreeOff, Contradicted, LostPackets, FoundLost}
use Rattle.code.proofs.Rebuilds.{xor_equal, equal_xor}
use Rattle.code.proofs.Joined.{joined_low}

-- blocks with the same packets have the same sums
pub syndrome_same : (C : Code) (b d : Block) → SameBlock C b d → (μ : ℕ) → SamePacket C (syndrome C b μ) (syndrome C d μ)
unfolding syndrome
syndrome_same C b d e μ i c h l = xors_ext C.positions _ _ (λ q k. scaled_same C _ (b q) (d q) (e q k) i c l)

-- the sums of packets at the lost positions depend on these alone
lost_sum_same : (C : Code) (l : LossList) (p p' : Block) → ((k : ℕ) → k < l.len → SamePacket C (p k) (p' k))
    → (μ i c : ℕ) → c < C.words → lost_sum C l p μ i c ≡ lost_sum C l p' μ i c
lost_sum_same C l p p' e μ i c h = xors_ext l.len _ _ (λ k m. scaled_same C _ (p k) (p' k) (e k m) i c h)

-- `sums` are the sums of z, which has the packets of b that are not lost, and zeros for the others
module _ (C : Code) (l : LossList) (below : LostBelow l C.positions) (few : l.len ≤ C.parity) (b z : Block)
    (same : (q : ℕ) → q < C.positions → among (lost l) l.len q ≡ false → SamePacket C (z q) (b q))
    (gone : (k : ℕ) → k < l.len → ZeroPacket C (z (lost l k)))
    (sums : List ℕ) (are : SumsTo C z C.positions sums) where
  -- the sums of a block that agrees with b
  sum_is : (d : Block) → AgreeOff C l d b → (μ : ℕ) → μ < C.parity
      → SamePacket C (syndrome C d μ) (λ i c. bit_xor (block_at C sums μ i c) (lost_sum C l (λ k. d (lost l k)) μ i c))
  unfolding syndrome
  sum_is d a μ h i c p q =
      syndrome_split C d z (lost l) l.len l.ascends below (λ r k f j m t u. same r k f j m t u ∙ sym (a r k f j m t u)) gone μ i c q
      ∙ ap (λ u. bit_xor u (lost_sum C l (λ k. d (lost l k)) μ i c)) (sym (are μ h i c p q))

  -- they are zero if and only if its lost packets have the sums
  zero_has : (d : Block) → AgreeOff C l d b → (μ : ℕ) → μ < C.parity → ZeroPacket C (syndrome C d μ)
      → SamePacket C (block_at C sums μ) (lost_sum C l (λ k. d (lost l k)) μ)
  zero_has d a μ h e i c p q = xor_equal _ _ (sym (sum_is d a μ h i c p q) ∙ e i c p q)

  has_zero : (d : Block) → AgreeOff C l d b → (μ : ℕ) → μ < C.parity → SamePacket C (block_at C sums μ) (lost_sum C l (λ k. d (lost l k)) μ)
      → ZeroPacket C (syndrome C d μ)
  has_zero d a μ h e i c p q = sum_is d a μ h i c p q ∙ equal_xor _ _ (e i c p q)

  pub lost_packets : (after : List ℕ) → Rebuilt C l sums after → LostPackets C l b after
  lost_packets after r = record {
    zero = λ d a here μ h. has_zero d a μ h (λ i c p q. r.all μ h i c p q ∙ lost_sum_same C l (block_at C after) (λ k. d (lost l k)) (λ k m j n t u. sym (here k m j n t u)) μ i c q);
    only = λ d a e k h. r.found.only (λ m. d (lost l m)) (λ μ m. zero_has d a μ (omega arith) (e μ (omega arith))) k h;
  }

  pub contradicted : 0 < size_of C → (sum word : ℕ) → Unmatched C l sums sum word → Contradicted C l b sum word
  contradicted some sum word u =
      let d : Block = put (lost l) l.len u.p b in
      let agrees : AgreeOff C l d b = λ q h g i c p r. ap (λ v. v i c) (put_off (lost l) u.p b l.len q g) in
      let at : (k : ℕ) → k < l.len → SamePacket C (u.p k) (d (lost l k)) = λ k h i c p r. sym (ap (λ v. v i c) (put_at (lost l) u.p b l.len k l.ascends h)) in
      let placed : (μ i c : ℕ) → c < C.words → lost_sum C l u.p μ i c ≡ lost_sum C l (λ k. d (lost l k)) μ i c = lost_sum_same C l u.p (λ k. d (lost l k)) at in
      let first : (μ : ℕ) → μ < l.len → ZeroPacket C (syndrome C d μ) = λ μ h. has_zero d agrees μ (omega arith) (λ i c p r. u.found.has μ h i c p r ∙ placed μ i c r) in
      let only : (o : Block) → AgreeOff C l o b → ((μ : ℕ) → μ < l.len → ZeroPacket C (syndrome C o μ)) → SameBlock C o d =
      λ o a e q h. elim (two (among (lost l) l.len q)) [
        | inl f ↦
            let m = among_find (lost l) l.len q f in
            subst (λ v. SamePacket C (o v) (d v)) m.2 (λ i c p r. u.found.only (λ k. o (lost l k)) (λ μ n. zero_has o a μ (omega arith) (e μ n)) m.0 m.1 i c p r ∙ at m.0 m.1 i c p r)
        | inr f ↦ λ i c p r. a q h f i c p r ∙ sym (agrees q h f i c p r)
      ] in
      let nonzero : (i c : ℕ) → i < C.rows → c < C.words → i * C.words + c ≡ word → syndrome C d sum i c ≡ 0 → ⊥ =
      λ i c p r e n. u.here i c p r e (xor_equal _ _ (sym (sum_is d agrees sum u.sum_lt i c p r) ∙ n) ∙ sym (placed sum i c r)) in
      record {
        none = λ o is agree.
            let i = row_lt C.rows C.words (words_pos C some) word u.word_lt in
            let c = column_lt C.words (words_pos C some) word in
            nonzero _ _ i c (place C.words word) (sym (syndrome_same C o d (only o agree (λ μ m. is.sums μ (omega arith))) sum _ _ i c) ∙ is.sums sum u.sum_lt _ _ i c);
        d = d;
        solved = record { agrees = agrees; zero = first; only = only };
        sum_lt = u.sum_lt;
        word_lt = u.word_lt;
        lower = λ μ h. let k = u.sum_lt in has_zero d agrees μ (omega arith) (λ i c p r. u.lower μ h i c p r ∙ placed μ i c r);
        before = λ i c p r h. sum_is d agrees sum u.sum_lt i c p r ∙ equal_xor _ _ (u.before i c p r h ∙ placed sum i c r);
        here = nonzero;
      }

  -- what a rebuild that passes its checks makes of the sums
  pub found_rebuilt : 0 < size_of C → (check : Option (ℕ × List ℕ)) → check ≡ None → (sums' : List ℕ) (r : Result (Unit {0}) Refusal)
      → IfOk r (λ u. Rebuilt C l sums sums') → CheckedFirst check (Contradicts (Unmatched C l sums)) r → FoundLost C l b sums' r
  found_rebuilt some check pass sums' (Ok u) a n = lost_packets sums' a
  found_rebuilt some check pass sums' (Err e) a (inl n) = passed check (said e) pass (sym n)
  found_rebuilt some check pass sums' (Err e) a (inr (z, n)) = record { sum = n.sum; word = n.word; refusal = n.refusal; fact = contradicted some _ _ n.fact }

  -- and the solver
  pub found_solved : 0 < size_of C → (sums' : List ℕ) (r : Result (Unit {0}) Refusal) → Solved C l sums sums' r → FoundLost C l b sums' r
  found_solved some sums' (Ok u) a = lost_packets sums' a
  found_solved some sums' (Err e) a = found_rebuilt some None refl sums' (Err e) tt (inr (refl, a.0))

-- what begins with the packets found still does with words behind them
pub found_joined : (C : Code) (l : LossList) → l.len ≤ C.parity → (b : Block) (sums scratch : List ℕ) → Run C C.parity sums
    → (r : Result (Unit {0}) Refusal) → FoundLost C l b sums r → FoundLost C l b (sums ++ scratch) r
found_joined C l few b sums scratch size (Err e) d = d
found_joined C l few b sums scratch size (Ok u) d = record {
  zero = λ o a here μ h. d.zero o a (λ k m i c p q. here k m i c p q ∙ joined_low C sums scratch size k i c (omega arith) p q) μ h;
  only = λ o a e k h i c p q. d.only o a e k h i c p q ∙ sym (joined_low C sums scratch size k i c (omega arith) p q);
}
