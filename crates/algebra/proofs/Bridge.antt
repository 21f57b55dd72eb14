-- Packets of words as elements of an XOR group that the field acts on.
use Rattle.std.proofs.Common.{◌≡◌, ℕ, zero, suc, ◌-◌, ◌*◌, ◌^◌, ◌<◌, ◌≤◌, false, ◌↔◌, sym, refl, ap, ◌∙◌, arith}
use lib.Bits.{bit_xor, xor_lt}
use Rattle.galois.specs.Field.{FieldLaws, power}
use Rattle.galois.proofs.Powers.{two_lt, power_lt, power_mul, power_alpha, alpha_apart}
use Rattle.algebra.specs.Code.{Code, Packet, Block, SamePacket, ZeroPacket, xors, bit, scaled, syndrome, among}
use Rattle.algebra.specs.Laws.{Xor, Laws, sum, pow, vander}
use Rattle.algebra.specs.Loops.{Sys, Apart, Added, Scaled}
use Rattle.algebra.specs.Grids.{Grid, row_xor, grid_xor, grid_ops, rows, nodes}
use Rattle.algebra.specs.Packets.{words, pick, Rows, rows_xor, row, mixed, act, Ok, Nz}
use Rattle.algebra.proofs.Sums.{cancel, nil_right, sum_ext}
use Rattle.algebra.proofs.Bits.{bit_lt, pick_times}
use Rattle.algebra.proofs.Packets.{row_at, packets}
use Rattle.algebra.proofs.Words.{xors_sum}
use Rattle.algebra.proofs.Marks.{Rising, Below}
use Rattle.algebra.proofs.Lost.{syndrome_split}

-- a sum of rows, at a row
sum_at : {R : Type 0} (m : ℕ) (G : Xor R) (n : ℕ) (f : ℕ → Rows m R) (j : ℕ) (h : j < m) → sum (rows_xor m G) n f j h ≡ sum G n (λ s. f s j h)
unfolding sum
sum_at m G zero f j h = refl
sum_at m G (suc n) f j h = ap (λ u. G.◌⊞◌ u (f n j h)) (sum_at m G n f j h)

pick_at : {R : Type 0} (m : ℕ) (G : Xor R) (b : ℕ) (r : Rows m R) (j : ℕ) (h : j < m) → pick (rows_xor m G) b r j h ≡ pick G b (r j h)
unfolding pick
pick_at m G zero r j h = refl
pick_at m G (suc b) r j h = refl

module _ (C : Code) where
  -- the packet with given rows, and zeros outside
  unfoldable pub packet : Grid C → Packet
  packet u i c = row words C.words (row (row_xor C) C.rows u i) c

  -- the rows of the packet with given rows
  pub rows_packet : (u : Grid C) → rows C (packet u) ≡ u
  unfolding packet
  rows_packet u = λ z i h c l. (row_at words (row (row_xor C) C.rows u i) c l ∙ ap (λ v. v c l) (row_at (row_xor C) u i h)) z

  -- packets that are the same within the code have equal rows
  pub same_rows : (p q : Packet) → SamePacket C p q → rows C p ≡ rows C q
  same_rows p q e = λ z i h c l. e i c h l z

  -- packets with equal rows are the same within the code
  pub rows_same : (p q : Packet) → rows C p ≡ rows C q → SamePacket C p q
  rows_same p q e i c h l = ap (λ u. u i h c l) e

  sum_word : (n : ℕ) (b : ℕ → Packet) (i c : ℕ) (h : i < C.rows) (l : c < C.words) → sum (grid_xor C) n (λ s. rows C (b s)) i h c l ≡ xors n (λ s. b s i c)
  sum_word n b i c h l =
      ap (λ u. u c l) (sum_at C.rows (row_xor C) n (λ s. rows C (b s)) i h) ∙ sum_at C.words words n (λ s. rows C (b s) i h) c l ∙ sym (xors_sum n (λ s. b s i c))

  -- a sum of packets, word by word
  pub bridge_sum : (n : ℕ) (b : ℕ → Packet) → sum (grid_xor C) n (λ s. rows C (b s)) ≡ rows C (λ i c. xors n (λ s. b s i c))
  bridge_sum n b = λ z i h c l. sum_word n b i c h l z

  module _ {inv : ℕ → ℕ} (laws : FieldLaws C.rows C.product inv) where
    open grid_xor C use {◌⊞◌}
    open grid_ops C inv use {◌·◌}

    infixl 60 ◌⊞◌
    infixr 80 ◌·◌
    -- the laws of the action on packets
    pub grid_laws : Laws (grid_xor C) (grid_ops C inv) (Ok C.rows) (Nz C.rows)
    grid_laws = packets laws (row_xor C)

    -- row j, picked by bit i of a·2^j
    picked : (a : ℕ) (p : Packet) (i c : ℕ) (l : c < C.words) (j : ℕ) → j < C.rows
        → pick (row_xor C) (bit i (C.product a (2 ^ j))) (row (row_xor C) C.rows (rows C p) j) c l ≡ bit i (C.product a (power C.product 2 j)) * p j c
    picked a p i c l j k =
        pick_at C.words words _ (row (row_xor C) C.rows (rows C p) j) c l
        ∙ ap (λ u. pick words (bit i (C.product a (2 ^ j))) (u c l)) (row_at (row_xor C) (rows C p) j k)
        ∙ pick_times _ (p j c) (bit_lt i _)
        ∙ ap (λ e. bit i (C.product a e) * p j c) (sym (power_alpha laws j k))

    -- the action of a on a packet is the matrix of a times the packet
    pub bridge_scaled : (a : ℕ) (p : Packet) → a · rows C p ≡ rows C (scaled C a p)
    unfolding act mixed scaled
    bridge_scaled a p =
        let term : ℕ → ℕ → Rows C.words ℕ = λ i j. pick (row_xor C) (bit i (C.product a (2 ^ j))) (row (row_xor C) C.rows (rows C p) j) in
        λ z i h c l. (sum_at C.words words C.rows (term i) c l ∙ sum_ext words C.rows _ _ (picked a p i c l) ∙ sym (xors_sum C.rows _)) z

    -- a times entry k added to entry i
    pub added_rows : (t a i k : ℕ) (S S' : ℕ → Packet) → SamePacket C (S' i) (λ j c. bit_xor (S i j c) (scaled C a (S k) j c))
        → ((m : ℕ) → m < t → (m ≡ i → ⊥) → SamePacket C (S' m) (S m)) → Added (grid_xor C) (grid_ops C inv) t a i k (λ m. rows C (S m)) (λ m. rows C (S' m))
    added_rows t a i k S S' at off = record {
      at = same_rows _ _ at ∙ ap (λ u. rows C (S i) ⊞ u) (sym (bridge_scaled a (S k)));
      off = λ m l q. same_rows _ _ (off m l q);
    }

    -- entry i multiplied by a
    pub scaled_rows : (t a i : ℕ) (S S' : ℕ → Packet) → SamePacket C (S' i) (scaled C a (S i))
        → ((m : ℕ) → m < t → (m ≡ i → ⊥) → SamePacket C (S' m) (S m)) → Scaled (grid_xor C) (grid_ops C inv) t a i (λ m. rows C (S m)) (λ m. rows C (S' m))
    scaled_rows t a i S S' at off = record {
      at = same_rows _ _ at ∙ sym (bridge_scaled a (S i));
      off = λ m l q. same_rows _ _ (off m l q);
    }

    pow_power : (y k : ℕ) → pow (grid_ops C inv) y k ≡ power C.product y k
    unfolding pow power
    pow_power y zero = refl
    pow_power y (suc k) = ap (C.product y) (pow_power y k)

    -- sum number μ of the packets b s at the nodes α^(p s)
    pub bridge_vander : (p : ℕ → ℕ) (t : ℕ) (b : ℕ → Packet) (μ : ℕ)
        → vander (grid_xor C) (grid_ops C inv) (nodes C p) t (λ s. rows C (b s)) μ ≡ rows C (λ i c. xors t (λ s. scaled C (power C.product 2 (μ * p s)) (b s) i c))
    unfolding vander
    bridge_vander p t b μ =
        sum_ext (grid_xor C) t _ _ (λ s _. ap (λ k. k · rows C (b s)) (pow_power _ μ ∙ power_mul laws 2 (p s) μ (two_lt laws)) ∙ bridge_scaled _ (b s))
        ∙ bridge_sum t (λ s. scaled C (power C.product 2 (μ * p s)) (b s))

    -- the sums of a block are its sums at the nodes α^q
    pub bridge_syndrome : (b : Block) (μ : ℕ) → vander (grid_xor C) (grid_ops C inv) (nodes C (λ q. q)) C.positions (λ q. rows C (b q)) μ ≡ rows C (syndrome C b μ)
    unfolding syndrome
    bridge_syndrome b μ = bridge_vander (λ q. q) C.positions b μ

    -- the nodes are elements of the field
    pub nodes_ok : (p : ℕ → ℕ) (s : ℕ) → Ok C.rows (nodes C p s)
    nodes_ok p s = power_lt laws 2 (p s) (two_lt laws)

    -- the nodes of different positions are different
    pub nodes_apart : C.positions ≤ 2 ^ C.rows - 1 → (p : ℕ → ℕ) (t : ℕ) → Rising p t → Below p t C.positions → Apart (grid_ops C inv) (Nz C.rows) (nodes C p) t
    nodes_apart short p t up lo s n a b =
        let k = up s n a b in
        let i = lo s (omega arith) in
        let j = lo n b in
        (alpha_apart laws (p n) (p s) (omega arith) (omega arith) (λ e. omega arith), xor_lt C.rows _ _ (nodes_ok p n) (nodes_ok p s))

    -- the sums of a block are those of the packets that are left plus those of the lost packets
    pub lost_sum_lem : (b z : Block) (p : ℕ → ℕ) (t : ℕ) → Rising p t → Below p t C.positions
        → ((q : ℕ) → q < C.positions → among p t q ≡ false → SamePacket C (z q) (b q))
        → ((s : ℕ) → s < t → ZeroPacket C (z (p s)))
        → (μ : ℕ) → rows C (syndrome C b μ) ≡ rows C (syndrome C z μ) ⊞ vander (grid_xor C) (grid_ops C inv) (nodes C p) t (λ s. rows C (b (p s))) μ
    lost_sum_lem b z p t up lo same gone μ =
        same_rows _ _ (λ i c h l. syndrome_split C b z p t up lo same gone μ i c l) ∙ ap (λ u. rows C (syndrome C z μ) ⊞ u) (sym (bridge_vander p t (λ s. b (p s)) μ))

    -- the sums of a block are zero if and only if its lost packets solve the system of the packets that are left
    pub lost_system : (b z : Block) (p : ℕ → ℕ) (t : ℕ) → Rising p t → Below p t C.positions
        → ((q : ℕ) → q < C.positions → among p t q ≡ false → SamePacket C (z q) (b q))
        → ((s : ℕ) → s < t → ZeroPacket C (z (p s)))
        → ((μ : ℕ) → μ < t → ZeroPacket C (syndrome C b μ)) ↔ Sys t (λ μ. rows C (syndrome C z μ)) (vander (grid_xor C) (grid_ops C inv) (nodes C p) t (λ s. rows C (b (p s))))
    lost_system b z p t up lo same gone =
        let S : ℕ → Grid C = λ μ. rows C (syndrome C z μ) in
        let T : ℕ → Grid C = vander (grid_xor C) (grid_ops C inv) (nodes C p) t (λ s. rows C (b (p s))) in
        let whole = lost_sum_lem b z p t up lo same gone in (
          λ e μ l. sym (nil_right (grid_xor C) (S μ)) ∙ ap (λ u. S μ ⊞ u) (sym (same_rows _ (λ i c. 0) (e μ l)) ∙ whole μ) ∙ cancel (grid_xor C) (S μ) (T μ),
          λ e μ l. rows_same _ (λ i c. 0) (whole μ ∙ ap (λ u. u ⊞ T μ) (e μ l) ∙ (grid_xor C).self (T μ)),
        )
