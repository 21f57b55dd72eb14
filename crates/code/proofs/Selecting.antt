-- The sum of the rows that a number selects is that of two or three entries of a table, and a table is filled by doubling.
use Rattle.std.proofs.Common.{◌≡◌, ℕ, zero, suc, ◌+◌, ◌-◌, ◌*◌, ◌/◌, ◌%◌, ◌^◌, ◌<◌, ◌≤◌, inl, inr, List, ◌++◌, length, get_or, take, get_or-take, min, sym, refl, ap, ap₂, ◌∙◌, add-zero, add-suc, add-mul, mul-le-mul_right, one-mul, zero-mul, arith}
use native.Mathlib.Nat.{div-eq_of_lt, pow-suc}
use native.Mathlib.Decide.{dec_lt}
use lib.Bits.{bit_xor, xor_assoc, xor_zero_l, xor_zero_r, xor_shifted}
use Rattle.std.proofs.lemmas.Bool.{cases_lt}
use Rattle.std.proofs.lemmas.Nat.{pow-add, shr-shr}
use Rattle.std.proofs.lemmas.List.{get_or_append_left, get_or-append-add}
use Rattle.std.proofs.lemmas.List.Edits.{get_or-between}
use Rattle.std.specs.List.{between}
use Rattle.std.proofs.Math.Pow.{pow_mono}
use Rattle.algebra.specs.Code.{Packet, xors, bit}
use Rattle.algebra.proofs.Bits.{bit_xor_lem, bit_one, bit_other}
use Rattle.algebra.proofs.Words.{xors_ext}
use Rattle.layout.specs.Blocks.{packet_in}
use Rattle.code.specs.Subsets.{RowTable, SubsetSums, selected}

pub xors_add : (n t : ℕ) (f : ℕ → ℕ) → xors (n + t) f ≡ bit_xor (xors n f) (xors t (λ c. f (n + c)))
unfolding xors
xors_add n zero f = ap (λ k. xors k f) (add-zero n) ∙ sym (xor_zero_r (xors n f))
xors_add n (suc t) f = ap (λ k. xors k f) (add-suc n t) ∙ ap (λ u. bit_xor u (f (n + t))) (xors_add n t f) ∙ xor_assoc (xors n f) (xors t (λ c. f (n + c))) (f (n + t))

-- the four low bits of a number
low_bit : (j n : ℕ) → j < 4 → bit j (n % 16) ≡ bit j n
unfolding bit
low_bit zero n h = omega arith
low_bit (suc zero) n h = omega arith
low_bit (suc (suc zero)) n h = omega arith
low_bit (suc (suc (suc zero))) n h = omega arith
low_bit (suc (suc (suc (suc j)))) n h = absurd (omega arith)

-- the bits from place k on
high_bit : (k j n : ℕ) → bit (k + j) n ≡ bit j (n / 2 ^ k)
unfolding bit
high_bit k j n = ap (λ u. u % 2) (sym (shr-shr n k j))

-- how many rows are in each group of four, of m
abbrev pub four : ℕ → ℕ
four m = min m 4

abbrev pub eight : ℕ → ℕ
eight m = min m 8

module _ (m n : ℕ) (wide : m ≤ 10) where
  -- a number selects rows by its groups of four bits
  pub selected_split : (p : Packet) (c : ℕ) → selected m n p c
      ≡ bit_xor (bit_xor (selected (four m) (n % 16) p c) (selected (eight m - four m) (n / 16 % 16) (λ j. p (4 + j)) c))
      (selected (m - eight m) (n / 256) (λ j. p (8 + j)) c)
  selected_split p c =
      let a = four m in
      let b = eight m - four m in
      let d = m - eight m in
      let f : ℕ → ℕ = λ j. bit j n * p j c in
      let all : m ≡ a + b + d = omega arith in
      ap (λ k. xors k f) all ∙ xors_add (a + b) d f
      ∙ ap₂ bit_xor
      (xors_add a b f
      ∙ ap₂ bit_xor
      (xors_ext a _ _ (λ j h. ap (λ u. u * p j c) (sym (low_bit j n (omega arith)))))
      (xors_ext b _ _ (λ j h.
      let e : a ≡ 4 = omega arith in
      ap₂ (λ u k. u * p k c) (ap (λ k. bit (k + j) n) e ∙ high_bit 4 j n ∙ sym (low_bit j (n / 16) (omega arith))) (ap (λ k. k + j) e))))
      (xors_ext d _ _ (λ j h.
      let e : a + b ≡ 8 = omega arith in
      ap₂ (λ u k. u * p k c) (ap (λ k. bit (k + j) n) e ∙ high_bit 8 j n) (ap (λ k. k + j) e)))

  module _ (below : n < 2 ^ m) where
    pub low_lt : n % 16 < 2 ^ four m
    low_lt = elim (cases_lt m 4) [
      | inl h ↦ let e : four m ≡ m = omega arith in rw e (omega arith)
      | inr h ↦ let e : four m ≡ 4 = omega arith in rw e (omega arith)
    ]

    pub middle_lt : n / 16 % 16 < 2 ^ (eight m - four m)
    middle_lt = elim (cases_lt m 4) [
      | inl h ↦
          let e : eight m - four m ≡ 0 = omega arith in
          let up : 2 ^ m ≤ 2 ^ 4 = pow_mono {i = m} {j = 4} (omega arith) in
          rw e (omega arith)
      | inr h ↦ elim (cases_lt m 8) [
        | inl l ↦
            let e : eight m - four m ≡ m - 4 = omega arith in
            let z : m - 4 + 4 ≡ m = omega arith in
            let whole : 2 ^ m ≡ 2 ^ (m - 4) * 2 ^ 4 = ap (λ k. 2 ^ k) (sym z) ∙ pow-add 2 (m - 4) 4 in
            rw e (omega arith)
        | inr l ↦ let e : eight m - four m ≡ 4 = omega arith in rw e (omega arith)
      ]
    ]

    pub high_lt : n / 256 < 2 ^ (m - eight m)
    high_lt = elim (cases_lt m 8) [
      | inl h ↦
          let e : m - eight m ≡ 0 = omega arith in
          let up : 2 ^ m ≤ 2 ^ 8 = pow_mono {i = m} {j = 8} (omega arith) in
          rw e (omega arith)
      | inr h ↦
          let e : m - eight m ≡ m - 8 = omega arith in
          let z : m - 8 + 8 ≡ m = omega arith in
          let whole : 2 ^ m ≡ 2 ^ (m - 8) * 2 ^ 8 = ap (λ k. 2 ^ k) (sym z) ∙ pow-add 2 (m - 8) 8 in
          rw e (omega arith)
    ]

-- no row is selected from none
pub selected_none : (n : ℕ) (p : Packet) (c : ℕ) → selected 0 n p c ≡ 0
unfolding xors
selected_none n p c = refl

-- the bits of 2^k + v, where v is below 2^k
module _ (k v : ℕ) (h : v < 2 ^ k) where
  apart : 2 ^ k + v ≡ bit_xor (2 ^ k) v
  apart = sym (ap (λ u. bit_xor u v) (sym (one-mul (2 ^ k))) ∙ xor_shifted 1 k v h ∙ ap (λ u. u + v) (one-mul (2 ^ k)))

  no_bit : bit k v ≡ 0
  unfolding bit
  no_bit = ap (λ u. u % 2) (div-eq_of_lt h)

  top_bit : bit k (2 ^ k + v) ≡ 1
  top_bit = ap (bit k) apart ∙ bit_xor_lem k (2 ^ k) v ∙ ap₂ bit_xor (bit_one k) no_bit

  lower_bit : (d : ℕ) → d < k → bit d (2 ^ k + v) ≡ bit d v
  lower_bit d l = ap (bit d) apart ∙ bit_xor_lem d (2 ^ k) v ∙ ap (λ u. bit_xor u (bit d v)) (bit_other d k (λ q. omega arith)) ∙ xor_zero_l (bit d v)

  module _ (p : Packet) (c : ℕ) where
    -- row k is not selected
    pub selected_low : selected (suc k) v p c ≡ selected k v p c
    unfolding xors
    selected_low = ap (bit_xor (selected k v p c)) (ap (λ b. b * p k c) no_bit ∙ zero-mul (p k c)) ∙ xor_zero_r (selected k v p c)

    -- row k is selected too
    pub selected_high : selected (suc k) (2 ^ k + v) p c ≡ bit_xor (selected k v p c) (p k c)
    unfolding xors
    selected_high =
        ap₂ bit_xor
        (xors_ext k _ _ (λ d l. ap (λ b. b * p d c) (lower_bit d l)))
        (ap (λ b. b * p k c) top_bit ∙ one-mul (p k c))

-- only the rows up to the last are read
pub selected_same : (m n c : ℕ) (p q : Packet) → ((j : ℕ) → j < m → p j c ≡ q j c) → selected m n p c ≡ selected m n q c
selected_same m n c p q e = xors_ext m _ _ (λ j h. ap (λ u. bit j n * u) (e j h))

-- the sums of fewer rows take no more room
pub sums_fit : (k n w : ℕ) → k ≤ n → 2 ^ k * w ≤ 2 ^ n * w
sums_fit k n w h = mul-le-mul_right w (pow_mono {i = k} {j = n} h)

module _ (w : ℕ) (p : Packet) where
  -- a table of no rows
  pub sums_first : (t : List ℕ) → ((c : ℕ) → c < w → get_or t c 0 ≡ 0) → SubsetSums w p 0 t
  sums_first t z v c h l =
      ap (λ k. get_or t k 0) (let e : v ≡ 0 = omega arith in ap (λ u. u * w + c) e ∙ omega arith) ∙ z c l ∙ sym (selected_none v p c)

  -- one row more doubles the table
  pub sums_more : (k half : ℕ) (e t row : List ℕ) → half ≡ 2 ^ k
      → ((v c : ℕ) → v < half → c < w → get_or t (v * w + c) 0 ≡ get_or e (v * w + c) 0)
      → ((v c : ℕ) → v < half → c < w → get_or t ((half + v) * w + c) 0 ≡ bit_xor (get_or e (v * w + c) 0) (get_or row c 0))
      → ((c : ℕ) → c < w → get_or row c 0 ≡ p k c) → SubsetSums w p k e → SubsetSums w p (suc k) t
  sums_more k half e t row is front back from d v c h l = elim (dec_lt v half) [
    | yes low ↦
        let lt : v < 2 ^ k = omega arith in
        front v c low l ∙ d v c lt l ∙ sym (selected_low k v lt p c)
    | no high ↦
        let twice = pow-suc 2 k in
        let u = v - half in
        let lt : u < 2 ^ k = omega arith in
        let again : half + u ≡ v = omega arith in
        ap (λ k. get_or t (k * w + c) 0) (sym again) ∙ back u c (omega arith) l ∙ ap₂ bit_xor (d u c lt l) (from c l)
        ∙ sym (selected_high k u lt p c) ∙ ap (λ n. selected (suc k) n p c) (let z : 2 ^ k + u ≡ v = omega arith in z)
  ]

-- a row of a table in three parts
module _ (w : ℕ) (low middle high : List ℕ) (l : length low ≡ 16 * w) (m : length middle ≡ 16 * w) where
  pub low_row : (v c : ℕ) → v < 16 → c < w → packet_in w (low ++ (middle ++ high)) v c ≡ packet_in w low v c
  low_row v c h k =
      let up : (v + 1) * w ≤ 16 * w = mul-le-mul_right w (omega arith) in
      get_or_append_left low (middle ++ high) 0 (v * w + c) (omega (arith, l, up, add-mul v 1 w))

  pub middle_row : (v c : ℕ) → v < 16 → c < w → packet_in w (low ++ (middle ++ high)) (16 + v) c ≡ packet_in w middle v c
  middle_row v c h k =
      let up : (v + 1) * w ≤ 16 * w = mul-le-mul_right w (omega arith) in
      let place : (16 + v) * w + c ≡ length low + (v * w + c) = omega (arith, l, add-mul 16 v w) in
      ap (λ i. get_or (low ++ (middle ++ high)) i 0) place ∙ get_or-append-add low (middle ++ high) (v * w + c) 0
      ∙ get_or_append_left middle high 0 (v * w + c) (omega (arith, m, up, add-mul v 1 w))

  pub high_row : (v c : ℕ) → packet_in w (low ++ (middle ++ high)) (32 + v) c ≡ packet_in w high v c
  high_row v c =
      let place : (32 + v) * w + c ≡ length low + (length middle + (v * w + c)) = omega (arith, l, m, add-mul 32 v w) in
      ap (λ i. get_or (low ++ (middle ++ high)) i 0) place ∙ get_or-append-add low (middle ++ high) (length middle + (v * w + c)) 0
      ∙ get_or-append-add middle high (v * w + c) 0

-- three tables of groups of rows are the table of the rows
pub filled : (w m a b : ℕ) (rows low middle high : List ℕ) → m ≤ 10 → length rows ≡ m * w → a ≡ min m 4 → b ≡ min m 8 → length low ≡ 16 * w → length middle ≡ 16 * w
    → SubsetSums w (packet_in w (take (a * w) rows)) a low → SubsetSums w (packet_in w (between (a * w) (b * w) rows)) (b - a) middle
    → SubsetSums w (packet_in w (between (b * w) (length rows) rows)) (m - b) high → RowTable m w (packet_in w rows) (low ++ (middle ++ high))
filled w m a b rows low middle high wide long fa fb l k first second third =
    let p = packet_in w rows in
    record {
      low = λ v c h lt.
          let few = sums_fit (min m 4) 4 1 (omega arith) in
          low_row w low middle high l k v c (omega arith) lt ∙ first v c (let z : 2 ^ a ≡ 2 ^ min m 4 = ap (λ n. 2 ^ n) fa in omega arith) lt
          ∙ selected_same a v c (packet_in w (take (a * w) rows)) p (λ j g.
          let up : (j + 1) * w ≤ a * w = mul-le-mul_right w (omega arith) in
          get_or-take (a * w) rows (j * w + c) 0 (omega (arith, up, add-mul j 1 w)))
          ∙ ap (λ n. selected n v p c) fa;
      middle = λ v c h lt.
          let few = sums_fit (min m 8 - min m 4) 4 1 (omega arith) in
          let same : b - a ≡ min m 8 - min m 4 = omega arith in
          middle_row w low middle high l k v c (omega arith) lt ∙ second v c (let z : 2 ^ (b - a) ≡ 2 ^ (min m 8 - min m 4) = ap (λ n. 2 ^ n) same in omega arith) lt
          ∙ selected_same (b - a) v c (packet_in w (between (a * w) (b * w) rows)) (λ j. p (4 + j)) (λ j g.
          let e : a ≡ 4 = omega arith in
          let up : (a + j + 1) * w ≤ b * w = mul-le-mul_right w (omega arith) in
          let place : a * w + (j * w + c) ≡ (a + j) * w + c = omega (arith, add-mul a j w) in
          get_or-between rows (a * w) (b * w) (j * w + c) 0 (omega (arith, up, place, add-mul (a + j) 1 w))
          ∙ ap (λ n. get_or rows n 0) (place ∙ ap (λ n. (n + j) * w + c) e))
          ∙ ap (λ n. selected n v (λ j. p (4 + j)) c) same;
      high = λ v c h lt.
          let same : m - b ≡ m - min m 8 = omega arith in
          high_row w low middle high l k v c ∙ third v c (let z : 2 ^ (m - b) ≡ 2 ^ (m - min m 8) = ap (λ n. 2 ^ n) same in omega arith) lt
          ∙ selected_same (m - b) v c (packet_in w (between (b * w) (length rows) rows)) (λ j. p (8 + j)) (λ j g.
          let e : b ≡ 8 = omega arith in
          let up : (b + j + 1) * w ≤ m * w = mul-le-mul_right w (omega arith) in
          let place : b * w + (j * w + c) ≡ (b + j) * w + c = omega (arith, add-mul b j w) in
          get_or-between rows (b * w) (length rows) (j * w + c) 0 (omega (arith, up, place, long, add-mul (b + j) 1 w))
          ∙ ap (λ n. get_or rows n 0) (place ∙ ap (λ n. (n + j) * w + c) e))
          ∙ ap (λ n. selected n v (λ j. p (8 + j)) c) same;
    }

-- a number's rows are found in the table
module _ {m w : ℕ} {p : Packet} {table : List ℕ} (wide : m ≤ 10) (t : RowTable m w p table) (n : ℕ) (below : n < 2 ^ m) (c : ℕ) (lt : c < w) where
  pub two_groups : bit_xor (get_or table ((n % 16) * w + c) 0) (get_or table ((16 + n / 16 % 16) * w + c) 0)
      ≡ bit_xor (selected (four m) (n % 16) p c) (selected (eight m - four m) (n / 16 % 16) (λ j. p (4 + j)) c)
  two_groups = ap₂ bit_xor (t.low (n % 16) c (low_lt m n wide below) lt) (t.middle (n / 16 % 16) c (middle_lt m n wide below) lt)

  -- of eight rows at most
  pub found_in_two : m ≤ 8 → bit_xor (get_or table ((n % 16) * w + c) 0) (get_or table ((16 + n / 16 % 16) * w + c) 0) ≡ selected m n p c
  found_in_two few =
      two_groups ∙ sym (selected_split m n wide p c
      ∙ ap (bit_xor _) (ap (λ k. selected k (n / 256) (λ j. p (8 + j)) c) (let e : m - eight m ≡ 0 = omega arith in e) ∙ selected_none (n / 256) (λ j. p (8 + j)) c)
      ∙ xor_zero_r _)

  -- of more
  pub found_in_three : bit_xor (bit_xor (get_or table ((n % 16) * w + c) 0) (get_or table ((16 + n / 16 % 16) * w + c) 0)) (get_or table ((32 + n / 256 % 4) * w + c) 0)
      ≡ selected m n p c
  found_in_three =
      let up : 2 ^ m ≤ 2 ^ 10 = pow_mono {i = m} {j = 10} wide in
      let same : n / 256 % 4 ≡ n / 256 = omega arith in
      ap₂ bit_xor two_groups (ap (λ k. get_or table ((32 + k) * w + c) 0) same ∙ t.high (n / 256) c (high_lt m n wide below) lt) ∙ sym (selected_split m n wide p c)
