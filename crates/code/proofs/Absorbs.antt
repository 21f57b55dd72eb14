-- What adding packets to the sums keeps from turn to turn.
use Rattle.std.proofs.Common.{◌≡◌, ℕ, ◌+◌, ◌*◌, ◌^◌, ◌<◌, ◌≤◌, List, sym, refl, ap, ◌∙◌, ap₂, add-one, one-mul, zero-mul, arith}
use native.Mathlib.Decide.{ℕ_discrete}
use lib.Bits.{bit_xor, xor_zero_r}
use Rattle.galois.specs.Field.{FieldLaws, power}
use Rattle.galois.proofs.Powers.{two_lt, power_lt, power_mul, power_alpha}
use Rattle.algebra.specs.Code.{Packet, Block, SamePacket, ZeroPacket, scaled, xors, bit, Code}
use Rattle.algebra.specs.Packets.{words}
use Rattle.algebra.proofs.Sums.{sum_one}
use Rattle.algebra.proofs.Bits.{bit_one, bit_other}
use Rattle.algebra.proofs.Words.{xors_sum, xors_none, scaled_same, scaled_zero}
use Rattle.layout.specs.Blocks.{packet_in, block_at, ZeroRun}
use Rattle.code.specs.Sums.{Absorbed, ShareAdded, SumsTo}
use Rattle.code.specs.Packets.{PacketWritten, plus}

module _ (C : Code) (first x : ℕ) (p : Packet) (e : List ℕ) where
  pub absorbed_none : Absorbed C first first x p e e
  absorbed_none = record {
    at = λ μ h k. absurd (omega arith);
    below = λ μ h i c a b. refl;
    above = λ μ h k i c a b. refl;
  }

  -- sum n is written
  pub absorbed_more : {n : ℕ} {y t t' : List ℕ} → first ≤ n → n < C.parity → PacketWritten C n y t t'
      → SamePacket C (packet_in C.words y) (λ i c. bit_xor (block_at C t n i c) (scaled C (power C.product x n) p i c))
      → Absorbed C first n x p e t → Absorbed C first (n + 1) x p e t'
  absorbed_more {n} from lt w here d = record {
    at = λ μ h l i c a b. elim (ℕ_discrete μ n) [
      | yes q ↦ rw q (w.at i c a b ∙ here i c a b ∙ ap (λ u. bit_xor u (scaled C (power C.product x n) p i c)) (d.above n (omega arith) lt i c a b))
      | no q ↦ w.off μ q i c a b ∙ d.at μ h (omega arith) i c a b
    ];
    below = λ μ h i c a b. w.off μ (λ q. omega arith) i c a b ∙ d.below μ h i c a b;
    above = λ μ h l i c a b. w.off μ (λ q. omega arith) i c a b ∙ d.above μ (omega arith) l i c a b;
  }

-- the multiple of a packet by one is the packet
scaled_one : (C : Code) {inv : ℕ → ℕ} → FieldLaws C.rows C.product inv → (p : Packet) (i c : ℕ) → i < C.rows → scaled C 1 p i c ≡ p i c
unfolding scaled
scaled_one C K p i c h =
    let is : (j : ℕ) → j < C.rows → C.product 1 (power C.product 2 j) ≡ 2 ^ j = λ j l. K.one _ (power_lt K 2 j (two_lt K)) ∙ power_alpha K j l in
    xors_sum C.rows _
    ∙ sum_one words C.rows i _ h (λ j l q. ap (λ u. bit i u * p j c) (is j l) ∙ ap (λ u. u * p j c) (bit_other i j q) ∙ zero-mul (p j c))
    ∙ ap (λ u. bit i u * p i c) (is i h) ∙ ap (λ u. u * p i c) (bit_one i) ∙ one-mul (p i c)

-- sum 0 has gained a packet as it is
pub absorbed_plain : (C : Code) {inv : ℕ → ℕ} → FieldLaws C.rows C.product inv → (x : ℕ) (p : Packet) (e y t : List ℕ) → 0 < C.parity → PacketWritten C 0 y e t
    → SamePacket C (packet_in C.words y) (plus (block_at C e 0) p) → Absorbed C 0 1 x p e t
unfolding power
absorbed_plain C K x p e y t some w here =
    absorbed_more C 0 x p e (omega arith) some w (λ i c h l. here i c h l ∙ ap (bit_xor (block_at C e 0 i c)) (sym (scaled_one C K p i c h))) (absorbed_none C 0 x p e)

-- a packet with the locator of a position is that position's share
pub share_added : (C : Code) {inv : ℕ → ℕ} → FieldLaws C.rows C.product inv → (x q : ℕ) (p : Packet) (e t : List ℕ) → x ≡ power C.product 2 q
    → Absorbed C 0 C.parity x p e t → ShareAdded C q p e t
share_added C laws x q p e t is d μ h i c a b =
    d.at μ (omega arith) h i c a b
    ∙ ap (λ y. bit_xor (block_at C e μ i c) (scaled C y p i c)) (ap (λ y. power C.product y μ) is ∙ power_mul laws 2 q μ (two_lt laws))

module _ (C : Code) (b : Block) where
  -- the sums of no packets are zero
  pub sums_none : (run : List ℕ) → ZeroRun run → SumsTo C b 0 run
  unfolding xors
  sums_none run e μ h i c p q = e _

  -- packet n is absorbed
  pub sums_held : (n : ℕ) (p : Packet) (t t' : List ℕ) → SamePacket C p (b n) → ShareAdded C n p t t' → SumsTo C b n t → SumsTo C b (n + 1) t'
  unfolding xors
  sums_held n p t t' is d e μ h i c a k =
      let term : ℕ → ℕ = λ q. scaled C (power C.product 2 (μ * q)) (b q) i c in
      d μ h i c a k ∙ ap₂ bit_xor (e μ h i c a k) (scaled_same C (power C.product 2 (μ * n)) p (b n) is i c k) ∙ ap (λ m. xors m term) (sym (add-one n))

  -- packet n counts as zero
  pub sums_lost : (n : ℕ) (t : List ℕ) → ZeroPacket C (b n) → SumsTo C b n t → SumsTo C b (n + 1) t
  unfolding xors
  sums_lost n t z e μ h i c a k =
      let term : ℕ → ℕ = λ q. scaled C (power C.product 2 (μ * q)) (b q) i c in
      e μ h i c a k ∙ sym (xor_zero_r _) ∙ ap (bit_xor (xors n term)) (sym (scaled_zero C (power C.product 2 (μ * n)) (b n) z i c k)) ∙ ap (λ m. xors m term) (sym (add-one n))

  -- packets that count as zero leave the sums zero
  pub sums_zero : (n : ℕ) (t : List ℕ) → ZeroRun t → ((q : ℕ) → q < n → ZeroPacket C (b q)) → SumsTo C b n t
  sums_zero n t e z μ h i c a k = e _ ∙ sym (xors_none n _ (λ q m. scaled_zero C (power C.product 2 (μ * q)) (b q) (z q m) i c k))
