-- One test of the tables that a width and a polynomial give, which is computed, and what it says.
use mathlib.Core.Path.{◌≡◌, refl, sym, ap, ◌∙◌, subst}
use mathlib.Core.Bool.{Bool, true, ◌&&◌}
use mathlib.Core.List.{List}
use Prim.Native.Nat.{ℕ, zero, suc, ◌-◌, ◌/◌, ◌^◌, ◌<◌, ◌≤◌}
use native.Mathlib.Nat.{le_of_suc-le-suc, not-suc-le-zero}
use lib.Dec.{T, eqb, ltb, eqb→eq, ltb→lt}
use lib.Ieee.Fits.{and_l, and_r}
use lib.ListN.{length, get_or}
use Rattle.galois.specs.Field.{double, steps, Primitive}
use Rattle.galois.specs.Tables.{powers_from, powers, logarithms}
use Rattle.galois.proofs.Every.{every, at}
use Rattle.galois.proofs.Linear.{steps_double}

abbrev pub logged : List ℕ → ℕ → ℕ → Bool
logged log i e = eqb (get_or log e 0) i

abbrev pub powered : ℕ → List ℕ → ℕ → ℕ → Bool
powered n exp zero l = true
powered n exp (suc a) l = ltb l n && eqb (get_or exp l 0) (suc a)

abbrev pub tested : ℕ → ℕ → List ℕ → List ℕ → Bool
tested m p exp log =
    ltb 2 m && (ltb m 11 && (eqb (p / 2 ^ m) 1 && (eqb (steps m p (2 ^ m - 1) 1) 1 && (eqb (length log) (2 ^ m)
    && (eqb (get_or log 0 0) 0 && (every (logged log) 0 exp && every (powered (2 ^ m - 1) exp) 0 log))))))

-- α goes through every nonzero element
unfoldable pub generates : ℕ → ℕ → Bool
generates m p = tested m p (powers m p) (logarithms m p)

length_powers_from : (m p n x : ℕ) → length (powers_from m p n x) ≡ n
unfolding powers_from
length_powers_from m p zero x = refl
length_powers_from m p (suc n) x = ap suc (length_powers_from m p n (double m p x))

pub length_powers : (m p : ℕ) → length (powers m p) ≡ 2 ^ m - 1
unfolding powers
length_powers m p = length_powers_from m p (2 ^ m - 1) 1

pub powers_from_at : (m p n x : ℕ) → p / 2 ^ m ≡ 1 → (i : ℕ) → i < n → get_or (powers_from m p n x) i 0 ≡ steps m p i x
unfolding powers_from steps
powers_from_at m p zero x top i h = absurd (not-suc-le-zero h)
powers_from_at m p (suc n) x top zero h = refl
powers_from_at m p (suc n) x top (suc i) h = powers_from_at m p n (double m p x) top i (le_of_suc-le-suc h) ∙ steps_double m p top i x

powered_lt : (n : ℕ) (exp : List ℕ) (a l : ℕ) → 0 < a → T (powered n exp a l) → l < n
powered_lt n exp zero l h t = absurd (not-suc-le-zero h)
powered_lt n exp (suc a) l h t = ltb→lt l n (and_l (ltb l n) (eqb (get_or exp l 0) (suc a)) t)

powered_eq : (n : ℕ) (exp : List ℕ) (a l : ℕ) → 0 < a → T (powered n exp a l) → get_or exp l 0 ≡ a
powered_eq n exp zero l h t = absurd (not-suc-le-zero h)
powered_eq n exp (suc a) l h t = eqb→eq (get_or exp l 0) (suc a) (and_r (ltb l n) (eqb (get_or exp l 0) (suc a)) t)

module _ (m p : ℕ) (passed : T (generates m p)) where
  -- what the test says, part by part
  record Passed : Type 0 where
    pub wide : 3 ≤ m
    pub narrow : m ≤ 10
    pub top : p / 2 ^ m ≡ 1
    pub round : steps m p (2 ^ m - 1) 1 ≡ 1
    pub size : length (logarithms m p) ≡ 2 ^ m
    pub logged_all : T (every (logged (logarithms m p)) 0 (powers m p))
    pub powered_all : T (every (powered (2 ^ m - 1) (powers m p)) 0 (logarithms m p))

  parts : Passed
  unfolding generates
  parts =
      let log = logarithms m p in
      let t0 = and_r (ltb 2 m) _ passed in
      let t1 = and_r (ltb m 11) _ t0 in
      let t2 = and_r (eqb (p / 2 ^ m) 1) _ t1 in
      let t3 = and_r (eqb (steps m p (2 ^ m - 1) 1) 1) _ t2 in
      let t4 = and_r (eqb (length log) (2 ^ m)) _ t3 in
      let t5 = and_r (eqb (get_or log 0 0) 0) _ t4 in
      record {
        wide = ltb→lt 2 m (and_l (ltb 2 m) _ passed);
        narrow = le_of_suc-le-suc (ltb→lt m 11 (and_l (ltb m 11) _ t0));
        top = eqb→eq (p / 2 ^ m) 1 (and_l (eqb (p / 2 ^ m) 1) _ t1);
        round = eqb→eq (steps m p (2 ^ m - 1) 1) 1 (and_l (eqb (steps m p (2 ^ m - 1) 1) 1) _ t2);
        size = eqb→eq (length log) (2 ^ m) (and_l (eqb (length log) (2 ^ m)) _ t3);
        logged_all = and_l (every (logged log) 0 (powers m p)) (every (powered (2 ^ m - 1) (powers m p)) 0 log) t5;
        powered_all = and_r (every (logged log) 0 (powers m p)) (every (powered (2 ^ m - 1) (powers m p)) 0 log) t5;
      }

  power_at : (i : ℕ) → i < 2 ^ m - 1 → get_or (powers m p) i 0 ≡ steps m p i 1
  unfolding powers
  power_at i h = powers_from_at m p (2 ^ m - 1) 1 parts.top i h

  powered_at : (a : ℕ) → a < 2 ^ m → T (powered (2 ^ m - 1) (powers m p) a (get_or (logarithms m p) a 0))
  powered_at a h = at (powered (2 ^ m - 1) (powers m p)) (logarithms m p) parts.powered_all a (subst (λ (k : ℕ). a < k) (sym parts.size) h)

  log_lt : (a : ℕ) → 0 < a → a < 2 ^ m → get_or (logarithms m p) a 0 < 2 ^ m - 1
  log_lt a z h = powered_lt (2 ^ m - 1) (powers m p) a (get_or (logarithms m p) a 0) z (powered_at a h)

  log_is : (a : ℕ) → 0 < a → a < 2 ^ m → steps m p (get_or (logarithms m p) a 0) 1 ≡ a
  log_is a z h =
      sym (power_at (get_or (logarithms m p) a 0) (log_lt a z h))
      ∙ powered_eq (2 ^ m - 1) (powers m p) a (get_or (logarithms m p) a 0) z (powered_at a h)

  log_of : (i : ℕ) → i < 2 ^ m - 1 → get_or (logarithms m p) (steps m p i 1) 0 ≡ i
  log_of i h =
      ap (λ (x : ℕ). get_or (logarithms m p) x 0) (sym (power_at i h))
      ∙ eqb→eq (get_or (logarithms m p) (get_or (powers m p) i 0) 0) i
      (at (logged (logarithms m p)) (powers m p) parts.logged_all i (subst (λ (k : ℕ). i < k) (sym (length_powers m p)) h))

  pub primitive : Primitive m p
  primitive = record {
    wide = parts.wide;
    narrow = parts.narrow;
    top = parts.top;
    round = parts.round;
    log = λ a. get_or (logarithms m p) a 0;
    log_lt = log_lt;
    log_is = log_is;
    log_of = log_of;
  }
