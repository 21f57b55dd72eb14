-- Parity packets are those that are found where all parity positions are lost.
use Rattle.std.proofs.Common.{◌≡◌, ℕ, ◌+◌, ◌-◌, ◌*◌, ◌^◌, ◌<◌, ◌≤◌, true, false, cond, ltb, List, ◌++◌, get_or, Ok, Err, Result, sym, refl, ap, ◌∙◌, subst, ap₂, add-mul, arith, length-append}
use native.Mathlib.Decide.{dec_lt}
use Rattle.refusal.specs.declared.Refusal.{Refusal}
use Rattle.algebra.specs.Code.{Block, among, Code}
use Rattle.algebra.proofs.Marks.{true_false, among_at, among_off}
use Rattle.layout.specs.declared.losses.LossList.{LossList}
use Rattle.layout.specs.Sizes.{lost, LostBelow}
use Rattle.layout.specs.Blocks.{block_at, ZeroRun, size_of, Run}
use Rattle.layout.proofs.Blocks.{same_runs, row_lt, column_lt, place, words_pos}
use Rattle.code.specs.Sums.{SumsTo}
use Rattle.code.specs.Rebuilt.{Solved}
use Rattle.code.proofs.Absorbs.{sums_zero}
use Rattle.code.specs.Lost.{AgreeOff, LostPackets}
use Rattle.code.specs.Calls.{Encoded}
use Rattle.code.specs.Held.{Reads, Summed, Filled}
use Rattle.code.proofs.Joined.{joined_low, joined_high}
use Rattle.code.proofs.Losing.{lost_packets}

-- the block with zeros for parity
unfoldable pub source_of : Code → List ℕ → Block
source_of C source q i c = cond (ltb q C.parity) 0 (block_at C source (q - C.parity) i c)

module _ (C : Code) (some : 0 < size_of C) (l : LossList) (count : l.len ≡ C.parity) (ids : (k : ℕ) → k < l.len → lost l k ≡ k)
    (sources : ℕ) (all : C.parity + sources ≡ C.positions) (source : List ℕ) (long : Run C sources source) where
  source_low : (q i c : ℕ) → q < C.parity → source_of C source q i c ≡ 0
  unfolding source_of
  source_low q i c h = let b : ltb q C.parity ≡ true = grind arith in ap (λ z. cond z 0 (block_at C source (q - C.parity) i c)) b

  source_high : (q i c : ℕ) → C.parity ≤ q → source_of C source q i c ≡ block_at C source (q - C.parity) i c
  unfolding source_of
  source_high q i c h = let b : ltb q C.parity ≡ false = grind arith in ap (λ z. cond z 0 (block_at C source (q - C.parity) i c)) b

  pub parity_below : LostBelow l C.positions
  parity_below k h = let a = ids k h in omega arith

  -- the positions that are not lost are the source positions
  held_high : (q : ℕ) → among (lost l) l.len q ≡ false → C.parity ≤ q
  held_high q f = elim (dec_lt q C.parity) [
    | yes h ↦ true_false (among (lost l) l.len q) (ap (among (lost l) l.len) (sym (ids q (omega arith))) ∙ among_at (lost l) l.len q (omega arith)) f
    | no h ↦ omega arith
  ]

  high_held : (j : ℕ) → among (lost l) l.len (C.parity + j) ≡ false
  high_held j = among_off (lost l) l.len (C.parity + j) (λ k h z. let a = ids k h in omega arith)

  -- the source packets, read one after another
  source_reads : Reads C l C.parity sources source (source_of C source)
  source_reads = record {
    held = λ j h f i c p r. let back : C.parity + j - C.parity ≡ j = omega arith in sym (source_high (C.parity + j) i c (omega arith) ∙ ap (λ k. block_at C source k i c) back);
    gone = λ j h f. true_false (among (lost l) l.len (C.parity + j)) f (high_held j);
  }

  pub source_sums : (e S : List ℕ) → ZeroRun e → Summed C l C.parity sources source e S → SumsTo C (source_of C source) C.positions S
  source_sums e S none summed =
      subst (λ n. SumsTo C (source_of C source) n S) all (summed (source_of C source) source_reads (sums_zero C (source_of C source) C.parity e none (λ q h i c _ _. source_low q i c h)))

  -- parity and source agree with the source
  joined_agrees : (parity : List ℕ) → Run C C.parity parity → AgreeOff C l (block_at C (parity ++ source)) (source_of C source)
  joined_agrees parity size q h f i c p r = joined_high C parity source size q i c (held_high q f) ∙ sym (source_high q i c (held_high q f))

  at_low : (parity : List ℕ) → Run C C.parity parity → (k i c : ℕ) → k < l.len → i < C.rows → c < C.words → block_at C (parity ++ source) (lost l k) i c ≡ block_at C parity k i c
  at_low parity size k i c h p r = ap (λ m. block_at C (parity ++ source) m i c) (ids k h) ∙ joined_low C parity source size k i c (omega arith) p r

  pub encoded : (S₁ : List ℕ) → LostPackets C l (source_of C source) S₁ → Run C C.parity S₁ → ((k : ℕ) → get_or S₁ k 0 < 2 ^ 32) → ((k : ℕ) → get_or source k 0 < 2 ^ 32) → Encoded C source S₁
  encoded S₁ found size fits fit = record {
    codeword = (
      length-append S₁ source ∙ (let sum : (C.parity + sources) * size_of C ≡ C.parity * size_of C + sources * size_of C = add-mul C.parity sources (size_of C) in
          ap₂ ◌+◌ size long ∙ sym sum ∙ ap (λ n. n * size_of C) all),
      record {
        words = λ q h i c p r. elim (dec_lt q C.parity) [
          | yes k ↦ rw (joined_low C S₁ source size q i c k p r) (fits (q * size_of C + (i * C.words + c)))
          | no k ↦ rw (joined_high C S₁ source size q i c (omega arith)) (fit ((q - C.parity) * size_of C + (i * C.words + c)))
        ];
        sums = found.zero (block_at C (S₁ ++ source)) (joined_agrees S₁ size) (λ k h i c p r. at_low S₁ size k i c h p r);
      },
    );
    only = λ other long-other is.
        same_runs C some C.parity other S₁ long-other size
        (λ q i c h p r. sym (at_low other long-other q i c (omega arith) p r) ∙ found.only (block_at C (other ++ source)) (joined_agrees other long-other) is.1.sums q (omega arith) i c p r);
  }

  -- what rebuild makes of the sums of the source packets: all sums are used, so none can contradict them
  pub filled : (S S₁ : List ℕ) → SumsTo C (source_of C source) C.positions S → Run C C.parity S₁ → ((k : ℕ) → get_or S₁ k 0 < 2 ^ 32) → ((k : ℕ) → get_or source k 0 < 2 ^ 32)
      → (r : Result (Unit {0}) Refusal) → Solved C l S S₁ r → Filled C source S₁ r
  filled S S₁ are size fits fit (Ok u) a =
      encoded S₁ (lost_packets C l parity_below (omega arith) (source_of C source) (source_of C source) (λ q h f i c p r. refl) (λ k h i c p r. source_low (lost l k) i c (let e = ids k h in omega arith)) S are S₁ a) size fits fit
  filled S S₁ are size fits fit (Err e) (a, z) =
      let u = a.fact in
      let i = row_lt C.rows C.words (words_pos C some) a.word u.word_lt in
      let c = column_lt C.words (words_pos C some) a.word in
      u.here _ _ i c (place C.words a.word) (u.found.has a.sum (let k = u.sum_lt in omega arith) _ _ i c)
