-- Packets read from a run one after another.
use Rattle.std.proofs.Common.{◌≡◌, ℕ, ◌+◌, ◌*◌, ◌<◌, true, false, List, get_or, refl, sym, ap, ap₂, ◌∙◌, zero-add, add-zero, add-one, arith}
use lib.Bits.{bit_xor, xor_assoc, xor_zero_l, xor_zero_r}
use Rattle.galois.specs.Field.{FieldLaws, power}
use Rattle.galois.proofs.Powers.{two_lt, power_mul}
use Rattle.algebra.specs.Code.{Packet, Block, SamePacket, among, scaled, xors, Code}
use Rattle.algebra.proofs.Words.{scaled_same, scaled_zero}
use Rattle.algebra.proofs.Marks.{among_find}
use Rattle.layout.specs.declared.losses.LossList.{LossList}
use Rattle.layout.specs.Sizes.{lost}
use Rattle.layout.specs.Blocks.{block_at, packet_in, size_of}
use Rattle.code.specs.Sums.{Absorbed}
use Rattle.code.specs.Held.{Reads, RunAdded, Summed}
use Rattle.code.proofs.Selecting.{xors_add}
use Rattle.code.proofs.Repairs.{left_of, left_gone, left_same}

module _ (C : Code) (l : LossList) (first start : ℕ) (run e : List ℕ) where
  -- no packet yet
  pub run_none : RunAdded C l first start 0 run e e
  unfolding xors
  run_none = record { at = λ b r μ h k i c x y. sym (xor_zero_r _); below = λ μ h i c x y. refl }

  module _ (n : ℕ) (t : List ℕ) (d : RunAdded C l first start n run e t) where
    fewer : (b : Block) → Reads C l start (n + 1) run b → Reads C l start n run b
    fewer b r = record { held = λ j h. r.held j (omega arith); gone = λ j h. r.gone j (omega arith) }

    -- packet n is lost
    pub run_lost : among (lost l) l.len (start + n) ≡ true → RunAdded C l first start (n + 1) run e t
    unfolding xors
    run_lost f = record {
      at = λ b r μ h k i c x y.
          let term : ℕ → ℕ = λ j. scaled C (power C.product 2 (μ * (start + j))) (b (start + j)) i c in
          d.at b (fewer b r) μ h k i c x y
          ∙ ap (bit_xor (block_at C e μ i c))
          (sym (xor_zero_r _) ∙ ap (bit_xor (xors n term)) (sym (scaled_zero C (power C.product 2 (μ * (start + n))) (b (start + n)) (r.gone n (omega arith) f) i c y)) ∙ ap (λ m. xors m term) (sym (add-one n)));
      below = d.below;
    }

    -- packet n is held, and added
    pub run_held : {inv : ℕ → ℕ} → FieldLaws C.rows C.product inv → (p : Packet) (x : ℕ) (t' : List ℕ) → x ≡ power C.product 2 (start + n)
        → among (lost l) l.len (start + n) ≡ false → SamePacket C p (block_at C run n) → Absorbed C first C.parity x p t t' → RunAdded C l first start (n + 1) run e t'
    unfolding xors
    run_held K p x t' at f is w = record {
      at = λ b r μ h k i c a y.
          let q = start + n in
          let term : ℕ → ℕ = λ j. scaled C (power C.product 2 (μ * (start + j))) (b (start + j)) i c in
          let same : power C.product x μ ≡ power C.product 2 (μ * q) = ap (λ z. power C.product z μ) at ∙ power_mul K 2 q μ (two_lt K) in
          w.at μ h k i c a y
          ∙ ap₂ bit_xor (d.at b (fewer b r) μ h k i c a y)
          (ap (λ z. scaled C z p i c) same ∙ scaled_same C (power C.product 2 (μ * q)) p (b q) (λ i c h m. is i c h m ∙ r.held n (omega arith) f i c h m) i c y)
          ∙ xor_assoc (block_at C e μ i c) (xors n term) (term n)
          ∙ ap (bit_xor (block_at C e μ i c)) (ap (λ m. xors m term) (sym (add-one n)));
      below = λ μ h i c a y. w.below μ h i c a y ∙ d.below μ h i c a y;
    }

module _ (C : Code) (l : LossList) (start : ℕ) (run e t : List ℕ) where
  -- in all sums
  pub run_summed : (n : ℕ) → RunAdded C l 0 start n run e t → Summed C l start n run e t
  run_summed n d b r z μ h i c x y =
      let term : ℕ → ℕ = λ q. scaled C (power C.product 2 (μ * q)) (b q) i c in
      d.at b r μ (omega arith) h i c x y ∙ ap (λ u. bit_xor u (xors n (λ j. term (start + j)))) (z μ h i c x y) ∙ sym (xors_add start n term)

-- one packet, where nothing is lost
pub run_one : (C : Code) {inv : ℕ → ℕ} → FieldLaws C.rows C.product inv → (l : LossList) (first start : ℕ) (run e t : List ℕ) → l.len ≡ 0
    → RunAdded C l first start 1 run e t → Absorbed C first C.parity (power C.product 2 start) (packet_in C.words run) e t
unfolding xors
run_one C K l first start run e t none d =
    let p = packet_in C.words run in
    let first_is : (j i c : ℕ) → j < 1 → block_at C run j i c ≡ p i c = λ j i c h.
    let zero : j ≡ 0 = omega arith in
    ap (λ q. get_or run (q * size_of C + (i * C.words + c)) 0) zero ∙ ap (λ k. get_or run k 0) (omega arith) in
    let reads : Reads C l start 1 run (λ q. p) =
    record {
      held = λ j h f i c x y. first_is j i c h;
      gone = λ j h f. let m = among_find (lost l) l.len (start + j) f in let up = m.1 in absurd (omega arith);
    } in
    record {
      at = λ μ h k i c x y.
          d.at (λ q. p) reads μ h k i c x y
          ∙ ap (bit_xor (block_at C e μ i c)) (xor_zero_l _ ∙ ap (λ z. scaled C z p i c) (ap (λ q. power C.product 2 (μ * q)) (add-zero start) ∙ sym (power_mul K 2 start μ (two_lt K))));
      below = d.below;
      above = λ μ h k. absurd (omega arith);
    }

-- a block run, read with zeros for its lost packets
pub left_reads : (C : Code) (l : LossList) (n : ℕ) (run : List ℕ) → Reads C l 0 n run (left_of l (block_at C run))
left_reads C l n run = record {
  held = λ j h e i c _ _. ap (λ q. block_at C run q i c) (sym (zero-add j)) ∙ sym (left_same l (block_at C run) (0 + j) e i c);
  gone = λ j h e i c _ _. left_gone l (block_at C run) (0 + j) e i c;
}
