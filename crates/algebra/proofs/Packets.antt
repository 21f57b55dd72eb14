-- The field acts on packets of m rows by the matrices of its elements.
use Rattle.std.proofs.Common.{◌≡◌, ℕ, zero, suc, ◌^◌, ◌<◌, sym, refl, ap, ◌∙◌, ap₂, arith}
use native.Mathlib.Decide.{dec_lt}
use native.Mathlib.Bridge.{le_prop}
use lib.Bits.{bit_xor, xor_lt}
use Rattle.std.proofs.lemmas.Nat.{pow_pos, pow_below}
use Rattle.galois.specs.Field.{FieldLaws}
use Rattle.galois.proofs.Powers.{one_lt, prod_zero, prod_pos}
use Rattle.algebra.specs.Laws.{Xor, Laws, sum}
use Rattle.algebra.specs.Loops.{Sys}
use Rattle.algebra.specs.Code.{bit}
use Rattle.algebra.specs.Packets.{words, pick, Rows, rows_xor, row, mixed, act, ops, Ok, Nz}
use Rattle.algebra.proofs.Sums.{sum_zero, sum_suc, sum_ext, sum_add, sum_swap, sum_one}
use Rattle.algebra.proofs.Bits.{bit_lt, bit_xor_lem, bit_zero, bit_one, bit_other, pick_add, pick_comm, pick_xor, pick_sum, pick_bits, all_bits}

pub row_at : {R : Type 0} (G : Xor R) {m : ℕ} (p : Rows m R) (j : ℕ) (h : j < m) → row G m p j ≡ p j h
unfolding row
row_at G {m} p j h = elim (dec_lt j m) as (λ d. elim d [ yes k ↦ p j k | no k ↦ G.none ] ≡ p j h) [ yes k ↦ ap (p j) (le_prop k h) | no k ↦ absurd (k h) ]

module _ {m : ℕ} {prod : ℕ → ℕ → ℕ} {inv : ℕ → ℕ} (K : FieldLaws m prod inv) where
  sum_lt : (n : ℕ) (f : ℕ → ℕ) → ((j : ℕ) → j < n → f j < 2 ^ m) → sum words n f < 2 ^ m
  sum_lt zero f h = rw (sum_zero words f) (pow_pos m)
  sum_lt (suc n) f h = rw (sum_suc words n f) (xor_lt m _ _ (sum_lt n f (λ j l. h j (omega arith))) (h n (omega arith)))

  prod_xor : (a b c : ℕ) → a < 2 ^ m → b < 2 ^ m → c < 2 ^ m → prod (bit_xor a b) c ≡ bit_xor (prod a c) (prod b c)
  prod_xor a b c ha hb hc = K.comm (bit_xor a b) c (xor_lt m a b ha hb) hc ∙ K.distrib c a b hc ha hb ∙ ap₂ bit_xor (K.comm c a hc ha) (K.comm c b hc hb)

  prod_sum : (a : ℕ) → a < 2 ^ m → (n : ℕ) (f : ℕ → ℕ) → ((j : ℕ) → j < n → f j < 2 ^ m) → prod a (sum words n f) ≡ sum words n (λ j. prod a (f j))
  prod_sum a ha zero f h = rw (sum_zero words f, sum_zero words (λ j. prod a (f j))) (prod_zero K a ha)
  prod_sum a ha (suc n) f h =
      rw (sum_suc words n f, sum_suc words n (λ j. prod a (f j)), ← prod_sum a ha n f (λ j l. h j (omega arith)))
      (K.distrib a (sum words n f) (f n) ha (sum_lt n f (λ j l. h j (omega arith))) (h n (omega arith)))

  pick_lt : (b c : ℕ) → c < 2 ^ m → pick words b c < 2 ^ m
  unfolding pick
  pick_lt zero c h = pow_pos m
  pick_lt (suc b) c h = h

  prod_pick : (a : ℕ) → a < 2 ^ m → (b c : ℕ) → prod a (pick words b c) ≡ pick words b (prod a c)
  unfolding pick
  prod_pick a h zero c = prod_zero K a h
  prod_pick a h (suc b) c = refl

  -- a product by the bits of its second factor
  pub prod_bits : (a c : ℕ) → a < 2 ^ m → c < 2 ^ m → prod a c ≡ sum words m (λ j. pick words (bit j c) (prod a (2 ^ j)))
  prod_bits a c ha hc =
      ap (prod a) (sym (all_bits m c hc))
      ∙ prod_sum a ha m (λ j. pick words (bit j c) (2 ^ j)) (λ j l. pick_lt (bit j c) (2 ^ j) (pow_below j m l))
      ∙ sum_ext words m _ _ (λ j _. prod_pick a ha (bit j c) (2 ^ j))

  module _ {R : Type 0} (G : Xor R) where
    open G use {◌⊞◌}

    infixl 60 ◌⊞◌
    pick_pick : (i b c : ℕ) (r : R) → pick G (bit i (pick words b c)) r ≡ pick G b (pick G (bit i c) r)
    unfolding pick
    pick_pick i zero c r = ap (λ u. pick G u r) (bit_zero i)
    pick_pick i (suc b) c r = refl

    -- a bit of a·c, by the bits of c and those of a·2^j
    row_product : (a c : ℕ) → a < 2 ^ m → c < 2 ^ m → (i : ℕ) (r : R)
        → pick G (bit i (prod a c)) r ≡ sum G m (λ j. pick G (bit i (prod a (2 ^ j))) (pick G (bit j c) r))
    row_product a c ha hc i r =
        ap (λ u. pick G (bit i u) r) (prod_bits a c ha hc)
        ∙ pick_bits G i m (λ j. pick words (bit j c) (prod a (2 ^ j))) r
        ∙ sum_ext G m _ _ (λ j _. pick_pick i (bit j c) (prod a (2 ^ j)) r ∙ pick_comm G (bit j c) (bit i (prod a (2 ^ j))) r)

    mixed_ext : (a : ℕ) (f g : ℕ → R) (i : ℕ) → Sys m f g → mixed G m prod a f i ≡ mixed G m prod a g i
    unfolding mixed
    mixed_ext a f g i h = sum_ext G m _ _ (λ j l. ap (pick G (bit i (prod a (2 ^ j)))) (h j l))

    row_mul : (a b : ℕ) → a < 2 ^ m → b < 2 ^ m → (i k : ℕ) (r : R) → k < m
        → pick G (bit i (prod (prod a b) (2 ^ k))) r ≡ sum G m (λ j. pick G (bit i (prod a (2 ^ j))) (pick G (bit j (prod b (2 ^ k))) r))
    row_mul a b ha hb i k r l =
        let p = pow_below k m l in
        ap (λ u. pick G (bit i u) r) (K.assoc a b (2 ^ k) ha hb p) ∙ row_product a (prod b (2 ^ k)) ha (K.closed b (2 ^ k) hb p) i r

    mixed_mul : (a b : ℕ) → a < 2 ^ m → b < 2 ^ m → (f : ℕ → R) (i : ℕ) → mixed G m prod (prod a b) f i ≡ mixed G m prod a (mixed G m prod b f) i
    unfolding mixed
    mixed_mul a b ha hb f i =
        sum_ext G m _ _ (λ k. row_mul a b ha hb i k (f k))
        ∙ sum_swap G m m (λ k j. pick G (bit i (prod a (2 ^ j))) (pick G (bit j (prod b (2 ^ k))) (f k)))
        ∙ sum_ext G m _ _ (λ j _. sym (pick_sum G (bit i (prod a (2 ^ j))) m (λ k. pick G (bit j (prod b (2 ^ k))) (f k))))

    mixed_add : (a : ℕ) (f g : ℕ → R) (i : ℕ) → mixed G m prod a (λ j. f j ⊞ g j) i ≡ mixed G m prod a f i ⊞ mixed G m prod a g i
    unfolding mixed
    mixed_add a f g i = sum_ext G m _ _ (λ j _. pick_add G _ (f j) (g j)) ∙ sum_add G m _ _

    row_xor : (a b : ℕ) → a < 2 ^ m → b < 2 ^ m → (i j : ℕ) (r : R) → j < m
        → pick G (bit i (prod (bit_xor a b) (2 ^ j))) r ≡ pick G (bit i (prod a (2 ^ j))) r ⊞ pick G (bit i (prod b (2 ^ j))) r
    row_xor a b ha hb i j r l =
        ap (λ u. pick G (bit i u) r) (prod_xor a b (2 ^ j) ha hb (pow_below j m l))
        ∙ ap (λ u. pick G u r) (bit_xor_lem i _ _)
        ∙ pick_xor G _ _ r (bit_lt i _) (bit_lt i _)

    mixed_xor : (a b : ℕ) → a < 2 ^ m → b < 2 ^ m → (f : ℕ → R) (i : ℕ) → mixed G m prod (bit_xor a b) f i ≡ mixed G m prod a f i ⊞ mixed G m prod b f i
    unfolding mixed
    mixed_xor a b ha hb f i =
        sum_ext G m _ _ (λ j. row_xor a b ha hb i j (f j)) ∙ sum_add G m _ _

    mixed_one : (f : ℕ → R) (i : ℕ) → i < m → mixed G m prod 1 f i ≡ f i
    unfolding mixed pick
    mixed_one f i h =
        sum_ext G m _ (λ j. pick G (bit i (2 ^ j)) (f j)) (λ j l. ap (λ u. pick G (bit i u) (f j)) (K.one (2 ^ j) (pow_below j m l)))
        ∙ sum_one G m i (λ j. pick G (bit i (2 ^ j)) (f j)) h (λ j l q. ap (λ u. pick G u (f j)) (bit_other i j q))
        ∙ ap (λ u. pick G u (f i)) (bit_one i)

    row_add : (p q : Rows m R) → Sys m (row G m (λ j k. p j k ⊞ q j k)) (λ j. row G m p j ⊞ row G m q j)
    row_add p q j l = row_at G (λ j k. p j k ⊞ q j k) j l ∙ sym (ap₂ ◌⊞◌ (row_at G p j l) (row_at G q j l))

    -- (a b) p = a (b p)
    act_mul : (a b : ℕ) → a < 2 ^ m → b < 2 ^ m → (p : Rows m R) → act G m prod (prod a b) p ≡ act G m prod a (act G m prod b p)
    unfolding act
    act_mul a b ha hb p =
        λ z i h. (mixed_mul a b ha hb (row G m p) i ∙ mixed_ext a _ _ i (λ j l. sym (row_at G (act G m prod b p) j l))) z

    act_one : (p : Rows m R) → act G m prod 1 p ≡ p
    unfolding act
    act_one p = λ z i h. (mixed_one (row G m p) i h ∙ row_at G p i h) z

    -- the laws of the action
    pub packets : Laws (rows_xor m G) (ops G m prod inv) (Ok m) (Nz m)
    unfolding act
    packets = record {
      act_add = λ a p q z i h. (mixed_ext a _ _ i (row_add p q) ∙ mixed_add a (row G m p) (row G m q) i) z;
      act_xor = λ a b p ha hb z i h. mixed_xor a b ha hb (row G m p) i z;
      act_mul = λ a b p ha hb. act_mul a b ha hb p;
      act_comm = λ a b p ha hb. sym (act_mul a b ha hb p) ∙ ap (λ c. act G m prod c p) (K.comm _ _ ha hb) ∙ act_mul b a hb ha p;
      act_one = act_one;
      act_inv = λ a p n. sym (act_mul _ a (K.inverse_lt _ n.1) n.1 p) ∙ ap (λ c. act G m prod c p) (K.comm _ a (K.inverse_lt a n.1) n.1 ∙ K.inverts a n.0 n.1) ∙ act_one p;
      ok_one = one_lt K;
      ok_xor = λ a b ha hb. xor_lt m a b ha hb;
      ok_mul = λ a b ha hb. K.closed a b ha hb;
      ok_inv = λ a n. K.inverse_lt a n.1;
      nz_one = (omega arith, one_lt K);
      nz_mul = λ a b n k. (prod_pos K a b n.0 n.1 k.0 k.1, K.closed a b n.1 k.1);
    }
