-- What a read of a table of powers or of logarithms answers.
use mathlib.Core.Path.{◌≡◌, sym, ap, ◌∙◌, subst}
use mathlib.Core.List.{List}
use Prim.Native.Nat.{ℕ, zero, suc, ◌+◌, ◌-◌, ◌%◌, ◌^◌, ◌<◌, ◌≤◌}
use native.Mathlib.Nat.{not-suc-le-zero, mod-lt}
use native.Mathlib.Decide.{ℕ_discrete}
use native.Mathlib.Omega.{arith}
use lib.Pow.{pow_pos, pow_mono}
use lib.Dec.{lit<}
use lib.ListN.{length, get_or, set, replicate}
use Rattle.std.proofs.lemmas.List.{length-set, length-replicate, get_or-set_same, get_or-set_other, get_or-replicate}
use Rattle.galois.specs.Field.{steps, Primitive}
use Rattle.galois.specs.Tables.{powers_from, powers, entered, logarithms}
use Rattle.galois.proofs.Linear.{steps_lt}
use Rattle.galois.proofs.Laws.{steps_mod, alpha, laws}
use Rattle.galois.proofs.Powers.{one_lt, two_lt, power_pos}
use Rattle.galois.proofs.Tables.{length_powers, powers_from_at}

module _ (m p : ℕ) (t : Primitive m p) where
  eight : 8 ≤ 2 ^ m
  eight = pow_mono {i = 3} t.wide

  steps_pos : (i : ℕ) → 0 < steps m p i 1
  steps_pos i = rw (← alpha m p t i) (power_pos (laws m p t) 2 i (lit< tt) (two_lt (laws m p t)))

  -- the powers below i are entered
  record Entered (i : ℕ) (table : List ℕ) : Type 0 where
    pub size : length table ≡ 2 ^ m
    pub zeroth : get_or table 0 0 ≡ 0
    pub entry : (k : ℕ) → k < i → get_or table (steps m p k 1) 0 ≡ k

  enter : (i : ℕ) (table : List ℕ) → i < 2 ^ m - 1 → Entered i table → Entered (suc i) (set table (steps m p i 1) i)
  enter i table h e = record {
    size = length-set table x i ∙ e.size;
    zeroth = get_or-set_other table x 0 i 0 (λ q. let z = steps_pos i in omega arith) ∙ e.zeroth;
    entry = λ k below. elim (ℕ_discrete k i) [
      | yes q ↦ rw q (get_or-set_same table x i 0 (rw e.size (steps_lt m p t.top i 1 (one_lt (laws m p t)))))
      | no q ↦
          get_or-set_other table x (steps m p k 1) i 0 (λ s. q (sym (t.log_of k (omega arith)) ∙ ap t.log s ∙ t.log_of i h))
          ∙ e.entry k (omega arith)
    ];
  } where
    x : ℕ
    x = steps m p i 1

  enter_all : (n i : ℕ) (table : List ℕ) → i + n ≡ 2 ^ m - 1 → Entered i table
      → Entered (2 ^ m - 1) (entered (powers_from m p n (steps m p i 1)) i table)
  unfolding entered powers_from steps
  enter_all zero i table q e = subst (λ (k : ℕ). Entered k table) (omega arith) e
  enter_all (suc n) i table q e = enter_all n (suc i) (set table (steps m p i 1) i) (omega arith) (enter i table (omega arith) e)

  all : Entered (2 ^ m - 1) (logarithms m p)
  unfolding logarithms powers steps
  all = enter_all (2 ^ m - 1) 0 (replicate (2 ^ m) 0) (omega arith) record {
    size = length-replicate (2 ^ m) 0;
    zeroth = get_or-replicate (2 ^ m) 0 0 0 (pow_pos m);
    entry = λ k h. absurd (not-suc-le-zero h);
  }

  entry_at : (a : ℕ) → 0 < a → a < 2 ^ m → get_or (logarithms m p) a 0 ≡ t.log a
  entry_at a z h = ap (λ (x : ℕ). get_or (logarithms m p) x 0) (sym (t.log_is a z h)) ∙ all.entry (t.log a) (t.log_lt a z h)

  module _ {table : List ℕ} (is : table ≡ powers m p) where
    pub some_powers : 7 ≤ length table
    some_powers = rw (is, length_powers m p) (let h = eight in omega arith)

    pub power_read : (e : ℕ) → get_or table (e % length table) 0 ≡ steps m p e 1
    unfolding powers
    power_read e =
        let n = 2 ^ m - 1 in
        let some : 0 < n = let h = eight in omega arith in
        rw (is, length_powers m p) (powers_from_at m p n 1 t.top (e % n) (mod-lt e some) ∙ steps_mod m p t e)

  module _ {table : List ℕ} (is : table ≡ logarithms m p) where
    pub some_logarithms : 8 ≤ length table
    some_logarithms = rw (is, all.size) eight

    pub log_read_lt : (a : ℕ) → get_or table (a % length table) 0 < 2 ^ m - 1
    log_read_lt a =
        let h = mod-lt a (pow_pos m) in
        rw (is, all.size) (elim (ℕ_discrete (a % 2 ^ m) 0) [
          | yes q ↦ rw (q, all.zeroth) (let k = eight in omega arith)
          | no q ↦ let z : 0 < a % 2 ^ m = omega arith in rw (entry_at (a % 2 ^ m) z h) (t.log_lt (a % 2 ^ m) z h)
        ])

    pub log_read : (a : ℕ) → 0 < a % 2 ^ m → steps m p (get_or table (a % length table) 0) 1 ≡ a % 2 ^ m
    log_read a z =
        let h = mod-lt a (pow_pos m) in
        rw (is, all.size, entry_at (a % 2 ^ m) z h) (t.log_is (a % 2 ^ m) z h)

    pub log_read_zero : (a : ℕ) → a % 2 ^ m ≡ 0 → get_or table (a % length table) 0 ≡ 0
    log_read_zero a z = rw (is, all.size, z) all.zeroth
