-- The packets that are found complete the codewords that agree with the block.
use Rattle.std.proofs.Common.{◌≡◌, ℕ, ◌+◌, ◌*◌, ◌^◌, ◌<◌, true, false, cond, List, length, get_or, sym, ap, ◌∙◌, subst, inl, inr}
use Rattle.algebra.specs.Code.{Block, SamePacket, among, Code}
use Rattle.algebra.proofs.Marks.{two, among_find}
use Rattle.layout.specs.declared.losses.LossList.{LossList}
use Rattle.layout.specs.Sizes.{lost}
use Rattle.layout.specs.Blocks.{block_at, size_of, Run}
use Rattle.layout.proofs.Blocks.{same_runs}
use Rattle.code.specs.Lost.{AgreeOff, LostPackets}
use Rattle.code.specs.Calls.{Repaired}
use Rattle.code.specs.Written.{Written}

-- a block with its lost packets read as zero
abbrev pub left_of : LossList → Block → Block
left_of l b q i c = cond (among (lost l) l.len q) 0 (b q i c)

module _ (l : LossList) (b : Block) where
  pub left_gone : (q : ℕ) → among (lost l) l.len q ≡ true → (i c : ℕ) → left_of l b q i c ≡ 0
  left_gone q e i c = ap (λ t. cond t 0 (b q i c)) e

  pub left_same : (q : ℕ) → among (lost l) l.len q ≡ false → (i c : ℕ) → left_of l b q i c ≡ b q i c
  left_same q e i c = ap (λ t. cond t 0 (b q i c)) e

-- the block with the packets found written to it is the only codeword that agrees
pub repaired : (C : Code) → 0 < size_of C → (l : LossList) (block V after : List ℕ) → Run C C.positions block → length after ≡ length block → ((k : ℕ) → get_or after k 0 < 2 ^ 32)
    → LostPackets C l (block_at C block) V → Written C l l.len V block after → Repaired C l block after
repaired C some l block V after long same fits found w =
    let size : Run C C.positions after = same ∙ long in
    let agrees : AgreeOff C l (block_at C after) (block_at C block) = λ q h f i c p r. w.off q i c f p r in
    let here : (k : ℕ) → k < l.len → SamePacket C (block_at C after (lost l k)) (block_at C V k) = λ k h i c p r. w.at k i c h p r in
    record {
      codeword = (size, record { words = λ q _ i c _ _. fits (q * size_of C + (i * C.words + c)); sums = found.zero (block_at C after) agrees here });
      agrees = agrees;
      only = λ other is agree.
          same_runs C some C.positions other after is.0 size
          (λ q i c h p r. elim (two (among (lost l) l.len q)) [
            | inl f ↦
                let m = among_find (lost l) l.len q f in
                subst (λ v. block_at C other v i c ≡ block_at C after v i c) m.2
                (found.only (block_at C other) agree is.1.sums m.0 m.1 i c p r ∙ sym (here m.0 m.1 i c p r))
            | inr f ↦ agree q h f i c p r ∙ sym (agrees q h f i c p r)
          ]);
    }
