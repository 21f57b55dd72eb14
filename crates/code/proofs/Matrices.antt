-- The rows of the matrices of field elements, as numbers.
use Rattle.std.proofs.Common.{◌≡◌, ℕ, zero, suc, ◌+◌, ◌*◌, ◌^◌, ◌<◌, ◌≤◌, List, sym, refl, ap, ap₂, ◌∙◌, add-one, one-mul, zero-mul, arith}
use native.Mathlib.Nat.{pow-suc}
use native.Mathlib.Decide.{ℕ_discrete}
use lib.Bits.{bit_xor, xor_lt, xor_self, xor_zero_l, xor_zero_r}
use lib.Pow.{pow_pos, pow-lt}
use Rattle.galois.specs.Field.{FieldLaws}
use Rattle.galois.proofs.Linear.{digit_lt, sum_digit}
use Rattle.galois.proofs.Powers.{power_alpha, two_lt}
use Rattle.algebra.specs.Code.{Code, Packet, SamePacket, xors, bit, scaled}
use Rattle.layout.specs.Blocks.{packet_in, block_at, size_of}
use Rattle.algebra.specs.Laws.{Laws, sum}
use Rattle.algebra.specs.Packets.{words, pick, Rows, rows_xor, mixed, act, ops, Ok, Nz}
use Rattle.algebra.proofs.Sums.{sum_zero, sum_suc, sum_ext, sum_add}
use Rattle.algebra.proofs.Bits.{bit_lt, bit_xor_lem, bit_zero, bit_one, bit_other, pick_times, all_bits}
use Rattle.algebra.proofs.Packets.{row_at, packets, prod_bits}
use Rattle.algebra.proofs.Words.{xors_sum, xors_ext, xors_none}
use Rattle.code.specs.Subsets.{RowTable, selected}
use Rattle.code.specs.Matrices.{matrix_row}
use Rattle.code.proofs.Selecting.{selected_same}

xors_lt : (m n : ℕ) (f : ℕ → ℕ) → ((k : ℕ) → k < n → f k < 2 ^ m) → xors n f < 2 ^ m
unfolding xors
xors_lt m zero f h = pow_pos m
xors_lt m (suc n) f h = xor_lt m _ _ (xors_lt m n f (λ k l. h k (omega arith))) (h n (omega arith))

-- a number that is given by its digits
module _ (b : ℕ → ℕ) (digits : (k : ℕ) → b k < 2) where
  digit_same : (d j : ℕ) → d < 2 → bit j (d * 2 ^ j) ≡ d
  digit_same zero j h = ap (bit j) (zero-mul (2 ^ j)) ∙ bit_zero j
  digit_same (suc zero) j h = ap (bit j) (one-mul (2 ^ j)) ∙ bit_one j
  digit_same (suc (suc d)) j h = absurd (omega arith)

  digit_other : (d j k : ℕ) → d < 2 → (j ≡ k → ⊥) → bit j (d * 2 ^ k) ≡ 0
  digit_other zero j k h q = ap (bit j) (zero-mul (2 ^ k)) ∙ bit_zero j
  digit_other (suc zero) j k h q = ap (bit j) (one-mul (2 ^ k)) ∙ bit_other j k q
  digit_other (suc (suc d)) j k h q = absurd (omega arith)

  bit_past : (n j : ℕ) → n ≤ j → bit j (xors n (λ k. b k * 2 ^ k)) ≡ 0
  unfolding xors
  bit_past zero j h = bit_zero j
  bit_past (suc n) j h =
      bit_xor_lem j _ _ ∙ ap₂ bit_xor (bit_past n j (omega arith)) (digit_other (b n) j n (digits n) (λ q. omega arith)) ∙ xor_zero_l 0

  bit_at : (n j : ℕ) → j < n → bit j (xors n (λ k. b k * 2 ^ k)) ≡ b j
  unfolding xors
  bit_at zero j h = absurd (omega arith)
  bit_at (suc n) j h = elim (ℕ_discrete j n) [
    | yes q ↦ rw q (bit_xor_lem n _ _ ∙ ap₂ bit_xor (bit_past n n (omega arith)) (digit_same (b n) n (digits n)) ∙ xor_zero_l (b n))
    | no q ↦ bit_xor_lem j _ _ ∙ ap₂ bit_xor (bit_at n j (omega arith)) (digit_other (b n) j n (digits n) q) ∙ xor_zero_r (b j)
  ]

module _ {m : ℕ} {prod : ℕ → ℕ → ℕ} {inv : ℕ → ℕ} (K : FieldLaws m prod inv) where
  -- bit j of row i of the matrix of a is bit i of a · α^j
  pub row_bit : (a i j : ℕ) → j < m → bit j (matrix_row m prod a i) ≡ bit i (prod a (2 ^ j))
  unfolding matrix_row
  row_bit a i j h = bit_at (λ k. bit i (prod a (2 ^ k))) (λ k. bit_lt i _) m j h

  pub row_lt : (a i : ℕ) → matrix_row m prod a i < 2 ^ m
  unfolding matrix_row
  row_lt a i = xors_lt m m _ (λ k l. digit_lt m 0 (bit i (prod a (2 ^ k))) (2 ^ k) (bit_lt i _) (pow-lt l))

  laws : Laws (rows_xor m words) (ops words m prod inv) (Ok m) (Nz m)
  laws = packets K words

  -- the matrix of 1
  unit : Rows m ℕ
  unit = λ j h. 2 ^ j

  rows_acted : (a : ℕ) (r : Rows m ℕ) (f : ℕ → ℕ) → ((j : ℕ) (h : j < m) → r j h ≡ f j) → (i : ℕ) (h : i < m)
      → act words m prod a r i h ≡ xors m (λ j. bit i (prod a (2 ^ j)) * f j)
  unfolding act mixed
  rows_acted a r f e i h =
      sum_ext words m _ _ (λ j l. ap (pick words (bit i (prod a (2 ^ j)))) (row_at words r j l ∙ e j l) ∙ pick_times _ (f j) (bit_lt i _))
      ∙ sym (xors_sum m _)

  acted : (a i : ℕ) (h : i < m) → act words m prod a unit i h ≡ matrix_row m prod a i
  unfolding matrix_row unit
  acted a i h = rows_acted a unit (λ j. 2 ^ j) (λ j l. refl) i h

  row_sum : (a b i : ℕ) → a < 2 ^ m → b < 2 ^ m → i < m → matrix_row m prod (bit_xor a b) i ≡ bit_xor (matrix_row m prod a i) (matrix_row m prod b i)
  row_sum a b i ha hb h =
      sym (acted (bit_xor a b) i h) ∙ ap (λ u. u i h) (laws.act_xor a b unit ha hb) ∙ ap₂ bit_xor (acted a i h) (acted b i h)

  row_zero : (i : ℕ) → i < m → matrix_row m prod 0 i ≡ 0
  row_zero i h = ap (λ a. matrix_row m prod a i) (sym (xor_self 0)) ∙ row_sum 0 0 i (pow_pos m) (pow_pos m) h ∙ xor_self (matrix_row m prod 0 i)

  row_pick : (b x i : ℕ) → i < m → matrix_row m prod (pick words b x) i ≡ pick words b (matrix_row m prod x i)
  unfolding pick
  row_pick zero x i h = row_zero i h
  row_pick (suc b) x i h = refl

  pick_lt : (b j : ℕ) → j < m → pick words b (2 ^ j) < 2 ^ m
  unfolding pick
  pick_lt zero j h = pow_pos m
  pick_lt (suc b) j h = pow-lt h

  sum_lt : (n : ℕ) (f : ℕ → ℕ) → ((j : ℕ) → j < n → f j < 2 ^ m) → sum words n f < 2 ^ m
  sum_lt zero f h = rw (sum_zero words f) (pow_pos m)
  sum_lt (suc n) f h = rw (sum_suc words n f) (xor_lt m _ _ (sum_lt n f (λ j l. h j (omega arith))) (h n (omega arith)))

  row_sums : (n : ℕ) (f : ℕ → ℕ) (i : ℕ) → ((j : ℕ) → j < n → f j < 2 ^ m) → i < m
      → matrix_row m prod (sum words n f) i ≡ sum words n (λ j. matrix_row m prod (f j) i)
  row_sums zero f i h l = ap (λ a. matrix_row m prod a i) (sum_zero words f) ∙ row_zero i l ∙ sym (sum_zero words _)
  row_sums (suc n) f i h l =
      ap (λ a. matrix_row m prod a i) (sum_suc words n f) ∙ row_sum (sum words n f) (f n) i (sum_lt n f (λ j k. h j (omega arith))) (h n (omega arith)) l
      ∙ ap (λ u. bit_xor u (matrix_row m prod (f n) i)) (row_sums n f i (λ j k. h j (omega arith)) l) ∙ sym (sum_suc words n _)

  -- the matrix of an element is the sum of those of the elements 2^j at its bits
  pub rows_add : (a i : ℕ) → a < 2 ^ m → i < m → selected m a (λ j. matrix_row m prod (2 ^ j)) i ≡ matrix_row m prod a i
  rows_add a i ha h =
      xors_sum m _
      ∙ sum_ext words m _ _ (λ j l. sym (row_pick (bit j a) (2 ^ j) i h ∙ pick_times (bit j a) _ (bit_lt j a)))
      ∙ sym (row_sums m (λ j. pick words (bit j a) (2 ^ j)) i (λ j l. pick_lt (bit j a) j l) h)
      ∙ ap (λ u. matrix_row m prod u i) (all_bits m a ha)

  -- a row selects of the rows of another matrix a row of the product's
  pub rows_times : (a x i c : ℕ) → a < 2 ^ m → x < 2 ^ m → i < m → selected m (matrix_row m prod a i) (λ j c. matrix_row m prod x j) c ≡ matrix_row m prod (prod a x) i
  rows_times a x i c ha hx h =
      xors_ext m _ _ (λ j l. ap (λ u. u * matrix_row m prod x j) (row_bit a i j l))
      ∙ sym (rows_acted a (act words m prod x unit) (matrix_row m prod x) (λ j l. acted x j l) i h)
      ∙ ap (λ u. u i h) (sym (laws.act_mul a x unit ha hx)) ∙ acted (prod a x) i h

  -- the matrix of 2^(n + 1) is that of 2^n times that of α
  pub row_next : (n i : ℕ) → n + 1 < m → i < m → selected m (matrix_row m prod (2 ^ n) i) (λ j c. matrix_row m prod 2 j) 0 ≡ matrix_row m prod (2 ^ (n + 1)) i
  row_next n i l h =
      let e : 2 ^ suc n ≡ 2 ^ n * 2 = pow-suc 2 n in
      let up : 2 ^ suc n < 2 ^ m = pow-lt (omega arith) in
      let small : 2 ^ n * 2 < 2 ^ m = rw e at up in
      let lt : 2 ^ n < 2 ^ m = omega arith in
      rows_times (2 ^ n) 2 i 0 lt (two_lt K) h
      ∙ ap (λ a. matrix_row m prod a i) (K.comm (2 ^ n) 2 lt (two_lt K) ∙ K.doubles (2 ^ n) small ∙ sym e ∙ ap (λ (k : ℕ). 2 ^ k) (sym (add-one n)))

-- a row of the matrix of a selects that row of a times a packet
pub selected_scaled : (C : Code) {inv : ℕ → ℕ} (K : FieldLaws C.rows C.product inv) (a i c : ℕ) (p : Packet)
    → selected C.rows (matrix_row C.rows C.product a i) p c ≡ scaled C a p i c
unfolding scaled
selected_scaled C K a i c p =
    xors_ext C.rows _ _ (λ j l. ap (λ u. u * p j c) (row_bit K a i j l ∙ ap (λ e. bit i (C.product a e)) (sym (power_alpha K j l))))

-- a table of rows that are the same
pub table_same : {m w : ℕ} {p q : Packet} {t : List ℕ} → ((j c : ℕ) → j < m → c < w → p j c ≡ q j c) → RowTable m w p t → RowTable m w q t
table_same {m} {w} {p} {q} same t = record {
  low = λ v c h l. t.low v c h l ∙ selected_same _ v c p q (λ j g. same j c (omega arith) l);
  middle = λ v c h l. t.middle v c h l ∙ selected_same _ v c (λ j. p (4 + j)) (λ j. q (4 + j)) (λ j g. same (4 + j) c (omega arith) l);
  high = λ v c h l. t.high v c h l ∙ selected_same _ v c (λ j. p (8 + j)) (λ j. q (8 + j)) (λ j g. same (8 + j) c (omega arith) l);
}

-- a number's bits select, of a sum of numbers, what the numbers select
module _ (m : ℕ) (p : Packet) (c : ℕ) where
  selected_sum : (x y : ℕ) → selected m (bit_xor x y) p c ≡ bit_xor (selected m x p c) (selected m y p c)
  selected_sum x y =
      xors_ext m _ _ (λ j l. ap (λ u. u * p j c) (bit_xor_lem j x y) ∙ sum_digit (bit j x) (bit j y) (p j c) (bit_lt j x) (bit_lt j y))
      ∙ xors_sum m _ ∙ sum_add words m _ _ ∙ ap₂ bit_xor (sym (xors_sum m _)) (sym (xors_sum m _))

  selected_zero : selected m 0 p c ≡ 0
  selected_zero = xors_none m _ (λ j l. ap (λ u. u * p j c) (bit_zero j) ∙ zero-mul (p j c))

  selected_many : (n : ℕ) (f : ℕ → ℕ) → selected m (xors n f) p c ≡ xors n (λ j. selected m (f j) p c)
  unfolding xors
  selected_many zero f = selected_zero
  selected_many (suc n) f = selected_sum (xors n f) (f n) ∙ ap (λ u. bit_xor u (selected m (f n) p c)) (selected_many n f)

  selected_digit : (d x : ℕ) → d < 2 → selected m (d * x) p c ≡ d * selected m x p c
  selected_digit zero x h = ap (λ u. selected m u p c) (zero-mul x) ∙ selected_zero ∙ sym (zero-mul (selected m x p c))
  selected_digit (suc zero) x h = ap (λ u. selected m u p c) (one-mul x) ∙ sym (one-mul (selected m x p c))
  selected_digit (suc (suc d)) x h = absurd (omega arith)

-- a times a packet, by the bits of a and the multiples of the packet by the elements 2^j
pub scaled_bits : (C : Code) {inv : ℕ → ℕ} (K : FieldLaws C.rows C.product inv) (a i c : ℕ) (p : Packet) → a < 2 ^ C.rows → i < C.rows
    → xors C.rows (λ j. bit j a * scaled C (2 ^ j) p i c) ≡ scaled C a p i c
scaled_bits C K a i c p ha h =
    let m = C.rows in
    xors_ext m _ _ (λ j l.
    ap (λ u. bit j a * u) (sym (selected_scaled C K (2 ^ j) i c p)) ∙ sym (selected_digit m p c (bit j a) (matrix_row m C.product (2 ^ j) i) (bit_lt j a)))
    ∙ sym (selected_many m p c m (λ j. bit j a * matrix_row m C.product (2 ^ j) i))
    ∙ ap (λ u. selected m u p c) (rows_add K a i ha h) ∙ selected_scaled C K a i c p

-- the bits of a select of the multiples of x by the elements 2^j the product x · a
pub selected_product : {m : ℕ} {prod : ℕ → ℕ → ℕ} {inv : ℕ → ℕ} (K : FieldLaws m prod inv) (x a : ℕ) (p : Packet) (c : ℕ) → x < 2 ^ m → a < 2 ^ m
    → ((j : ℕ) → j < m → p j c ≡ prod x (2 ^ j)) → selected m a p c ≡ prod x a
selected_product {m} {prod} K x a p c hx ha each =
    xors_sum m _ ∙ sum_ext words m _ _ (λ j l. ap (λ u. bit j a * u) (each j l) ∙ sym (pick_times (bit j a) (prod x (2 ^ j)) (bit_lt j a)))
    ∙ sym (prod_bits K x a hx ha)

-- the bits of a select of the multiples of a packet, one after another in a run, its multiple by a
pub multiples_selected : (C : Code) {inv : ℕ → ℕ} (K : FieldLaws C.rows C.product inv) (a : ℕ) (p : Packet) (run : List ℕ) → a < 2 ^ C.rows
    → ((j : ℕ) → j < C.rows → SamePacket C (block_at C run j) (scaled C (2 ^ j) p))
    → (i c : ℕ) → i < C.rows → c < C.words → selected C.rows a (packet_in (size_of C) run) (i * C.words + c) ≡ scaled C a p i c
multiples_selected C K a p run ha each i c h l =
    xors_ext C.rows _ _ (λ j k. ap (λ u. bit j a * u) (each j k i c h l)) ∙ scaled_bits C K a i c p ha h
