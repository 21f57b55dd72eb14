-- What the calls must make of a block: a codeword that agrees is the only one, and a first sum that is not zero contradicts.
use Rattle.std.proofs.Common.{◌≡◌, ℕ, ◌*◌, ◌+◌, ◌<◌, ◌≤◌, ◌↔◌, Bool, true, false, not, List, ◌++◌, sym, refl, ap, ◌∙◌, subst, inl, inr, arith}
use native.Mathlib.Decide.{dec_lt}
use Rattle.galois.specs.Field.{FieldLaws}
use Rattle.algebra.specs.Code.{Block, SamePacket, ZeroPacket, SameBlock, AgreeAt, syndrome, count, among}
use Rattle.algebra.specs.Laws.{vander}
use Rattle.algebra.specs.Loops.{Sys}
use Rattle.algebra.specs.Grids.{Grid, grid_xor, grid_ops, rows, nodes}
use Rattle.algebra.proofs.Fits.{at_most_one}
use Rattle.algebra.proofs.Loops.{solution}
use Rattle.algebra.proofs.Marks.{two, true_false, among_at, among_find, count_others}
use Rattle.algebra.proofs.Bridge.{grid_laws, rows_same, nodes_ok, nodes_apart, lost_system}
use Rattle.layout.specs.declared.shape.Shape.{Shape}
use Rattle.layout.specs.declared.losses.LossList.{LossList}
use Rattle.layout.specs.Sizes.{parity_of, packet_of, Packets, lost, LostBelow}
use Rattle.layout.specs.Blocks.{code_of, block_at}
use Rattle.layout.proofs.Blocks.{packet_pos, same_runs, row_lt, column_lt, place}
use Rattle.code.specs.Lost.{AgreeOff, Contradicted}
use Rattle.code.specs.Calls.{CodewordRun, Encoded, Repaired}
use Rattle.code.proofs.Fitting.{proper}
use Rattle.code.proofs.Joined.{joined_low, joined_high}
use Rattle.code.proofs.Losing.{syndrome_same}
use Rattle.code.proofs.Repairs.{left_of, left_gone, left_same}

not_true : (b : Bool) → not b ≡ true → b ≡ false
not_true true e = sym e
not_true false e = refl

module _ (s : Shape) (prod : ℕ → ℕ → ℕ) (inv : ℕ → ℕ) (laws : FieldLaws s.rows prod inv) where
  -- codewords that agree at no fewer positions than there are source packets are the same run
  same_codewords : (held : ℕ → Bool) → s.sources ≤ count held s.positions → (xs ys : List ℕ) → CodewordRun (code_of s prod) xs → CodewordRun (code_of s prod) ys
      → AgreeAt (code_of s prod) held (block_at (code_of s prod) xs) (block_at (code_of s prod) ys) → xs ≡ ys
  same_codewords held enough xs ys x y agree =
      let same = at_most_one (code_of s prod) inv (proper s prod inv laws) held (let k = s.counts in omega arith) (block_at (code_of s prod) xs) (block_at (code_of s prod) ys) x.1 y.1 agree in
      same_runs (code_of s prod) (packet_pos s) s.positions xs ys x.0 y.0 (λ q i c h p r. same q h i c p r)

  -- of the positions from t on, at least the source positions
  above : (q : ℕ) → among (λ k. k) (parity_of s) q ≡ false → parity_of s ≤ q
  above q e = elim (dec_lt q (parity_of s)) [
    | yes h ↦ true_false (among (λ k. k) (parity_of s) q) (among_at (λ k. k) (parity_of s) q h) e
    | no h ↦ omega arith
  ]

  pub encoded : (source parity : List ℕ) → Packets s (parity_of s) parity → CodewordRun (code_of s prod) (parity ++ source) → Encoded (code_of s prod) source parity
  encoded source parity size is = record {
    codeword = is;
    only = λ other long other-is.
        let k = s.counts in
        let enough = count_others (λ k. k) s.positions (parity_of s) (λ i j a b. a) (λ i a. omega arith) in
        let same : other ++ source ≡ parity ++ source = same_codewords (λ q. not (among (λ k. k) (parity_of s) q)) (omega arith) (other ++ source) (parity ++ source) other-is is (λ q h e i c p r.
        let le = above q (not_true _ e) in joined_high (code_of s prod) other source long q i c le ∙ sym (joined_high (code_of s prod) parity source size q i c le)) in
        same_runs (code_of s prod) (packet_pos s) (parity_of s) other parity long size
        (λ q i c h p r. sym (joined_low (code_of s prod) other source long q i c h p r) ∙ ap (λ xs. block_at (code_of s prod) xs q i c) same ∙ joined_low (code_of s prod) parity source size q i c h p r);
  }

  module _ (l : LossList) (below : LostBelow l s.positions) where
    pub repaired : l.len ≤ parity_of s → (before after : List ℕ) → CodewordRun (code_of s prod) after → AgreeOff (code_of s prod) l (block_at (code_of s prod) after) (block_at (code_of s prod) before) → Repaired (code_of s prod) l before after
    repaired few before after is agrees = record {
      codeword = is;
      agrees = agrees;
      only = λ other other-is agree.
          let enough = count_others (lost l) s.positions l.len l.ascends below in
          let k = s.counts in
          same_codewords (λ q. not (among (lost l) l.len q)) (omega arith) other after other-is is
          (λ q h e i c p r. agree q h (not_true _ e) i c p r ∙ sym (agrees q h (not_true _ e) i c p r));
    }

    -- as many sums are zero as packets are lost
    abbrev pub FirstZero : Block → Type 0
    FirstZero d = (μ : ℕ) → μ < l.len → ZeroPacket (code_of s prod) (syndrome (code_of s prod) d μ)

    -- the sums solve the lost packets in one way
    same_solved : (b d o : Block) → AgreeOff (code_of s prod) l d b → FirstZero d → AgreeOff (code_of s prod) l o b → FirstZero o → SameBlock (code_of s prod) o d
    same_solved b d o agree zero agree' zero' =
        let C = code_of s prod in
        let z = left_of l b in
        let S : ℕ → Grid C = λ μ. rows C (syndrome C z μ) in
        let only = (solution (grid_laws C laws) (nodes C (lost l)) (nodes_ok C laws (lost l)) l.len (nodes_apart C laws s.length (lost l) l.len l.ascends below) S).1 in
        let system : (x : Block) → AgreeOff (code_of s prod) l x b → FirstZero x ↔ Sys l.len S (vander (grid_xor C) (grid_ops C inv) (nodes C (lost l)) l.len (λ k. rows C (x (lost l k)))) =
        λ x a. lost_system C laws x z (lost l) l.len l.ascends below
        (λ q h e i c p r. left_same l b q e i c ∙ sym (a q h e i c p r)) (λ k h i c p r. left_gone l b (lost l k) (among_at (lost l) l.len k h) i c) in
        let at : (k : ℕ) → k < l.len → SamePacket C (o (lost l k)) (d (lost l k)) =
        λ k h. rows_same C _ _ (sym ((only _).0 ((system o agree').0 zero') k h) ∙ (only _).0 ((system d agree).0 zero) k h) in
        λ q h. elim (two (among (lost l) l.len q)) [
          | inl f ↦ let m = among_find (lost l) l.len q f in subst (λ v. SamePacket C (o v) (d v)) m.2 (at m.0 m.1)
          | inr f ↦ λ i c p r. agree' q h f i c p r ∙ sym (agree q h f i c p r)
        ]

    pub contradicted : (b d : Block) → AgreeOff (code_of s prod) l d b → (sum word : ℕ) → l.len ≤ sum → sum < parity_of s → word < packet_of s
        → ((μ : ℕ) → μ < sum → ZeroPacket (code_of s prod) (syndrome (code_of s prod) d μ))
        → ((i c : ℕ) → i < s.rows → c < s.words → i * s.words + c < word → syndrome (code_of s prod) d sum i c ≡ 0)
        → ((i c : ℕ) → i < s.rows → c < s.words → i * s.words + c ≡ word → syndrome (code_of s prod) d sum i c ≡ 0 → ⊥)
        → Contradicted (code_of s prod) l b sum word
    contradicted b d agree sum word le sum-lt word-lt lower before here =
        let C = code_of s prod in
        let zero : FirstZero d = λ μ h. lower μ (omega arith) in
        let only : (o : Block) → AgreeOff (code_of s prod) l o b → FirstZero o → SameBlock C o d = λ o a z. same_solved b d o agree zero a z in
        record {
          none = λ o is a.
              let i = row_lt s.rows s.words s.sizes.2 word word-lt in
              let c = column_lt s.words s.sizes.2 word in
              here _ _ i c (place s.words word) (sym (syndrome_same C o d (only o a (λ μ h. is.sums μ (omega arith))) sum _ _ i c) ∙ is.sums sum sum-lt _ _ i c);
          d = d;
          solved = record { agrees = agree; zero = zero; only = only };
          sum_lt = sum-lt;
          word_lt = word-lt;
          lower = lower;
          before = before;
          here = here;
        }
