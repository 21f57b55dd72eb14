-- What the steps of the solver find are the packets at the lost positions.
use Rattle.std.proofs.Common.{◌≡◌, ℕ, ◌+◌, ◌*◌, ◌<◌, ◌≤◌, ◌↔◌, List, get_or, sym, ap, ◌∙◌, subst, ap₂, arith}
use mathlib.Core.Logic.Iff
use native.Mathlib.Decide.{dec_lt}
use lib.Bits.{bit_xor, xor_assoc, xor_self, xor_zero_l, xor_zero_r}
use Rattle.galois.specs.Field.{power}
use Rattle.galois.proofs.Powers.{two_lt, power_mul}
use Rattle.algebra.specs.Code.{Proper, Block, SamePacket, scaled, Code}
use Rattle.algebra.specs.Laws.{pow, vander}
use Rattle.algebra.specs.Loops.{Sys, Apart}
use Rattle.algebra.specs.Packets.{Nz}
use Rattle.algebra.specs.Grids.{Grid, grid_xor, grid_ops, rows, nodes}
use Rattle.algebra.proofs.Sums.{sum_ext, sys_right}
use Rattle.algebra.proofs.Words.{xors_ext, scaled_same}
use Rattle.algebra.proofs.Bridge.{same_rows, rows_same, nodes_apart, bridge_vander}
use Rattle.layout.specs.declared.losses.LossList.{LossList}
use Rattle.layout.specs.Sizes.{lost, LostBelow}
use Rattle.layout.specs.Blocks.{block_at, size_of}
use Rattle.layout.proofs.Entries.{word_lt}
use Rattle.code.specs.Sums.{ZeroSums, FirstAt}
use Rattle.code.specs.Solving.{locator_at, entry, Untouched, SameSolutions, sums_of}
use Rattle.code.specs.Found.{FoundAdded}
use Rattle.code.specs.Rebuilt.{lost_sum, Has, Found, Rebuilt, Unmatched}

-- words whose exclusive or is zero are equal
pub xor_equal : (a b : ℕ) → bit_xor a b ≡ 0 → a ≡ b
xor_equal a b e = sym (xor_zero_r a) ∙ ap (bit_xor a) (sym e) ∙ sym (xor_assoc a a b) ∙ ap (λ u. bit_xor u b) (xor_self a) ∙ xor_zero_l b

pub equal_xor : (a b : ℕ) → a ≡ b → bit_xor a b ≡ 0
equal_xor a b e = ap (λ u. bit_xor u b) e ∙ xor_self b

module _ (C : Code) (inv : ℕ → ℕ) (ok : Proper C inv) (l : LossList) (below : LostBelow l C.positions)
    (x : List ℕ) (at-nodes : (k : ℕ) → k < l.len → locator_at x k ≡ power C.product 2 (lost l k)) where
  -- the locators of the lost positions are apart
  pub lost_apart : Apart (grid_ops C inv) (Nz C.rows) (locator_at x) l.len
  lost_apart i n a b =
      subst (Nz C.rows) (sym (ap₂ bit_xor (at-nodes n b) (at-nodes i (omega arith))))
      (nodes_apart C ok.field ok.short (lost l) l.len l.ascends below i n a b)

  sums_nodes : (I : ℕ → Grid C) (μ : ℕ) → vander (grid_xor C) (grid_ops C inv) (nodes C (lost l)) l.len I μ ≡ sums_of C inv x l.len I μ
  unfolding vander
  sums_nodes I μ = sum_ext (grid_xor C) l.len _ _ (λ k h. ap (λ y. (grid_ops C inv).◌·◌ (pow (grid_ops C inv) y μ) (I k)) (sym (at-nodes k h)))

  module _ (S₀ S₁ V : List ℕ) (solved : SameSolutions C inv x l.len (sums_of C inv x l.len) (λ I. I) S₀ S₁)
      (kept : Untouched C l.len S₀ S₁) (added : FoundAdded C x l.len l.len S₁ V) where
    -- packets have the first sums if and only if they are those found
    has_iff : (p : Block) → Has C l S₀ p ↔ ((k : ℕ) → k < l.len → SamePacket C (block_at C S₁ k) (p k))
    has_iff p =
        let I : ℕ → Grid C = λ k. rows C (p k) in
        let sums : Has C l S₀ p ↔ Sys l.len (entry C S₀) (vander (grid_xor C) (grid_ops C inv) (nodes C (lost l)) l.len I) = (
          λ e μ h. same_rows C _ _ (e μ h) ∙ sym (bridge_vander C ok.field (lost l) l.len p μ),
          λ e μ h. rows_same C _ _ (e μ h ∙ bridge_vander C ok.field (lost l) l.len p μ),
        ) in
        Iff.trans sums (Iff.trans (sys_right l.len _ _ _ (λ μ _. sums_nodes I μ)) (Iff.trans (solved I) (λ e k h. rows_same C _ _ (e k h), λ e k h. same_rows C _ _ (e k h))))

    pub found : Found C l S₀ (block_at C V)
    found = record {
      has = (has_iff (block_at C V)).1 (λ k h i c a b. sym (added.packets k h i c a b));
      only = λ other e k h i c a b. sym (added.packets k h i c a b ∙ (has_iff other).0 e k h i c a b);
    }

    -- a sum behind has gained that of the packets found
    behind : (μ : ℕ) → l.len ≤ μ → μ < C.parity → SamePacket C (block_at C V μ) (λ i c. bit_xor (block_at C S₀ μ i c) (lost_sum C l (block_at C V) μ i c))
    behind μ h k i c a b =
        added.sums μ h k i c a b
        ∙ ap₂ bit_xor (kept μ h k i c a b)
        (xors_ext l.len _ _ (λ m y.
        ap (λ z. scaled C (power C.product z μ) (block_at C S₁ m) i c) (at-nodes m y) ∙ ap (λ z. scaled C z (block_at C S₁ m) i c) (power_mul ok.field 2 (lost l m) μ (two_lt ok.field))
        ∙ scaled_same C _ _ (block_at C V m) (λ j n p q. sym (added.packets m y j n p q)) i c b))

    -- the packets found have sum μ where it is zero behind
    matches : (end μ : ℕ) → end ≤ C.parity → ZeroSums C V l.len end → μ < end → SamePacket C (block_at C S₀ μ) (lost_sum C l (block_at C V) μ)
    matches end μ le z h = elim (dec_lt μ l.len) [
      | yes k ↦ found.has μ k
      | no k ↦ λ i c a b. xor_equal _ _ (sym (behind μ (omega arith) (omega arith) i c a b) ∙ z μ (i * C.words + c) (omega arith) h (word_lt C i c a b))
    ]

    pub rebuilt : ZeroSums C V l.len C.parity → Rebuilt C l S₀ V
    rebuilt z = record { found = found; all = λ μ h. matches C.parity μ (omega arith) z h; behind = z }

    pub unmatched : (μ j : ℕ) → FirstAt C V l.len μ j → Unmatched C l S₀ μ j
    unmatched μ j f = record {
      p = block_at C V;
      found = found;
      sum_lt = f.sum;
      word_lt = f.word;
      lower = λ ν h. matches μ ν (let k = f.sum in omega arith) f.before h;
      before = λ i c a b h. xor_equal _ _ (sym (behind μ f.from f.sum i c a b) ∙ f.left (i * C.words + c) h);
      here = λ i c a b e n. f.here (ap (λ k. get_or V (μ * size_of C + k) 0) (sym e) ∙ behind μ f.from f.sum i c a b ∙ equal_xor _ _ n);
    }
