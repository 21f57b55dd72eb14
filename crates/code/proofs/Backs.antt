-- The backward steps of the solver: each leaves the same solutions.
use Rattle.std.proofs.Common.{◌≡◌, ℕ, zero, suc, ◌+◌, ◌-◌, ◌^◌, ◌<◌, ◌↔◌, List, sym, refl, ap, ◌∙◌, ap₂, add-one, add-zero, arith}
use mathlib.Core.Logic.Iff
use native.Mathlib.Decide.{ℕ_discrete}
use lib.Bits.{bit_xor, xor_lt, xor_assoc, xor_self, xor_zero_l}
use Rattle.galois.specs.Field.{FieldLaws}
use Rattle.galois.proofs.Powers.{one_lt}
use Rattle.algebra.specs.Code.{Code, Packet, SamePacket, scaled}
use Rattle.algebra.specs.Laws.{Xor, Ops, gap}
use Rattle.algebra.specs.Loops.{Sys, Added, Scaled, upd, theta, taking}
use Rattle.algebra.specs.Grids.{Grid, grid_xor, grid_ops, rows}
use Rattle.algebra.proofs.Sums.{sys_right, upd_at, upd_off}
use Rattle.algebra.proofs.Loops.{taking_step, taken_step, taking_none, found_all, found_first}
use Rattle.algebra.proofs.Bridge.{same_rows, bridge_scaled}
use Rattle.layout.specs.Blocks.{block_at}
use Rattle.code.specs.Solving.{locator_at, Solvable, gap_of, entry, Untouched, Copied, SameSolutions, stage_of, found_of}
use Rattle.code.proofs.Stages.{laws}

-- the product that the code computes is that of the solver
pub gap_is : (C : Code) (inv : ℕ → ℕ) (x : ℕ → ℕ) (j k y : ℕ) → gap_of C.product x j k y ≡ gap (grid_ops C inv) x j k y
unfolding gap_of gap
gap_is C inv x j zero y = refl
gap_is C inv x j (suc k) y = ap (C.product (bit_xor y (x (j + k)))) (gap_is C inv x j k y)

pub gap_lt : {m : ℕ} {prod : ℕ → ℕ → ℕ} {inv : ℕ → ℕ} → FieldLaws m prod inv → (x : ℕ → ℕ) → ((s : ℕ) → x s < 2 ^ m) → (j k y : ℕ) → y < 2 ^ m → gap_of prod x j k y < 2 ^ m
unfolding gap_of
gap_lt laws x ox j zero y h = one_lt laws
gap_lt {m} laws x ox j (suc k) y h = laws.closed _ _ (xor_lt m y (x (j + k)) h (ox (j + k))) (gap_lt laws x ox j k y h)

-- its first factor apart
pub gap_front : {m : ℕ} {prod : ℕ → ℕ → ℕ} {inv : ℕ → ℕ} → FieldLaws m prod inv → (x : ℕ → ℕ) → ((s : ℕ) → x s < 2 ^ m) → (j k y : ℕ) → y < 2 ^ m
    → gap_of prod x j (suc k) y ≡ prod (bit_xor y (x j)) (gap_of prod x (j + 1) k y)
unfolding gap_of
gap_front {m} {prod} laws x ox j zero y h = ap (λ i. prod (bit_xor y (x i)) 1) (add-zero j)
gap_front {m} {prod} laws x ox j (suc k) y h =
    let d : ℕ → ℕ = λ i. bit_xor y (x i) in
    let d-lt : (i : ℕ) → d i < 2 ^ m = λ i. xor_lt m y (x i) h (ox i) in
    let last = d (j + 1 + k) in
    let rest = gap_of prod x (j + 1) k y in
    let rest-lt : rest < 2 ^ m = gap_lt laws x ox (j + 1) k y h in
    let place : j + suc k ≡ j + 1 + k = omega arith in
    ap₂ prod (ap d place) (gap_front laws x ox j k y h)
    ∙ sym (laws.assoc last (d j) rest (d-lt (j + 1 + k)) (d-lt j) rest-lt) ∙ ap (λ u. prod u rest) (laws.comm last (d j) (d-lt (j + 1 + k)) (d-lt j))
    ∙ laws.assoc (d j) last rest (d-lt j) (d-lt (j + 1 + k)) rest-lt

-- a system whose left side is written otherwise
pub sys_left : {V : Type 0} (t : ℕ) (S S' T : ℕ → V) → Sys t S S' → Sys t S T ↔ Sys t S' T
sys_left t S S' T e = (λ h m l. sym (e m l) ∙ h m l, λ h m l. e m l ∙ h m l)

-- the factor of entry j
abbrev pub factor : Code → (ℕ → ℕ) → List ℕ → ℕ → ℕ → ℕ
factor C inv x n j = theta (grid_ops C inv) (locator_at x) n j

module _ (C : Code) (inv : ℕ → ℕ) (x : List ℕ) (t n : ℕ) (z : Packet) where
  -- packet n, in z, has been taken out of the entries below j of e, and entry n is entry 0 of e
  pub record Cleared (j : ℕ) (e u : List ℕ) : Type 0 where
    pub kept : SamePacket C (block_at C u n) (block_at C e 0)
    pub fresh : j ≡ 0 → SamePacket C (block_at C u 0) (block_at C e 0)
    pub first : 0 < j → SamePacket C (block_at C u 0) (λ i c. bit_xor (block_at C e 0 i c) (scaled C (factor C inv x n 0) z i c))
    pub same : (I : ℕ → Grid C) → Sys t (entry C e) (found_of C inv x t n I)
        ↔ Sys t (upd (entry C u) n (rows C z)) (taking (grid_xor C) (grid_ops C inv) (locator_at x) n j I)
    pub off : Untouched C t e u

module _ {C : Code} {inv : ℕ → ℕ} {x : List ℕ} {t : ℕ} (v : Solvable C inv x t) where
  module _ (n : ℕ) (z : Packet) (pos : 0 < n) (within : n < t) where
    pub cleared_none : (e u : List ℕ) → SamePacket C z (block_at C e n) → Copied C n 0 e u → Cleared C inv x t n z 0 e u
    cleared_none e u saved d = record {
      kept = d.at;
      fresh = λ _. d.off 0 (omega arith) (λ q. omega arith);
      first = λ h. absurd (omega arith);
      same = λ I. Iff.trans
          (sys_left t (entry C e) (upd (entry C u) n (rows C z)) _ (λ m l. elim (ℕ_discrete m n) [
            | yes q ↦ rw q (sym (upd_at (entry C u) n _ ∙ same_rows C _ _ saved))
            | no q ↦ sym (upd_off (entry C u) n _ m q ∙ same_rows C _ _ (d.off m (omega arith) q))
          ]))
          (sys_right t _ _ _ (taking_none (laws v) (locator_at x) v.elements t n I));
      off = λ μ h k. d.off μ k (λ q. omega arith);
    }

    -- entry j is cleared
    pub cleared_more : (j : ℕ) (e u u' : List ℕ) → j < n
        → SamePacket C (block_at C u' j) (λ i c. bit_xor (block_at C u j i c) (scaled C (factor C inv x n j) z i c))
        → ((μ : ℕ) → μ < C.parity → (μ ≡ j → ⊥) → SamePacket C (block_at C u' μ) (block_at C u μ))
        → Cleared C inv x t n z j e u → Cleared C inv x t n z (j + 1) e u'
    cleared_more j e u u' lt at off d =
        let G = grid_xor C in
        let O = grid_ops C inv in
        let w = rows C z in
        let apart-jn : j ≡ n → ⊥ = λ q. omega arith in
        let step : Added G O t (factor C inv x n j) j n (upd (entry C u) n w) (upd (entry C u') n w) = record {
          at = upd_off (entry C u') n w j apart-jn ∙ same_rows C _ _ at ∙ ap (G.◌⊞◌ (entry C u j)) (sym (bridge_scaled C v.laws (factor C inv x n j) z))
              ∙ sym (ap₂ (λ a b. G.◌⊞◌ a (O.◌·◌ (factor C inv x n j) b)) (upd_off (entry C u) n w j apart-jn) (upd_at (entry C u) n w));
          off = λ m l q. elim (ℕ_discrete m n) [
            | yes r ↦ rw r (upd_at (entry C u') n w ∙ sym (upd_at (entry C u) n w))
            | no r ↦ upd_off (entry C u') n w m r ∙ same_rows C _ _ (off m (omega arith) q) ∙ sym (upd_off (entry C u) n w m r)
          ];
        } in
        record {
          kept = λ i c h l. off n (omega arith) (λ q. omega arith) i c h l ∙ d.kept i c h l;
          fresh = λ q. absurd (omega arith);
          first = λ _. elim (ℕ_discrete j 0) [
            | yes q ↦ λ i c h l. (rw q at at) i c h l ∙ ap (λ a. bit_xor a (scaled C (factor C inv x n 0) z i c)) (d.fresh q i c h l)
            | no q ↦ λ i c h l. off 0 (omega arith) (λ r. omega arith) i c h l ∙ d.first (omega arith) i c h l
          ];
          same = λ I. rw add-one (Iff.trans (d.same I) (taking_step (laws v) (locator_at x) v.elements t n j v.apart lt within _ _ I step));
          off = λ μ h k i c p q. off μ k (λ r. omega arith) i c p q ∙ d.off μ h k i c p q;
        }

    -- packet n is found
    pub cleared_all : (e u u' : List ℕ) → Cleared C inv x t n z n e u
        → SamePacket C (block_at C u' n) (λ i c. bit_xor (block_at C u n i c) (block_at C u 0 i c))
        → ((μ : ℕ) → μ < C.parity → (μ ≡ n → ⊥) → SamePacket C (block_at C u' μ) (block_at C u μ))
        → SameSolutions C inv x t (found_of C inv x t n) (found_of C inv x t (n - 1)) e u'
    cleared_all e u u' d at off I = Iff.trans (d.same I) (last n refl)
      where
        G : Xor (Grid C)
        G = grid_xor C

        O : Ops ℕ (Grid C)
        O = grid_ops C inv

        done : Scaled G O t (factor C inv x n 0) n (upd (entry C u) n (rows C z)) (entry C u')
        done = record {
          at = same_rows C _ _ (λ i c h l. at i c h l ∙ ap₂ bit_xor (d.kept i c h l) (d.first pos i c h l)
              ∙ sym (xor_assoc (block_at C e 0 i c) (block_at C e 0 i c) (scaled C (factor C inv x n 0) z i c)) ∙ ap (λ a. bit_xor a (scaled C (factor C inv x n 0) z i c)) (xor_self (block_at C e 0 i c)) ∙ xor_zero_l _)
              ∙ sym (bridge_scaled C v.laws (factor C inv x n 0) z) ∙ ap (O.◌·◌ (factor C inv x n 0)) (sym (upd_at (entry C u) n (rows C z)));
          off = λ m l q. same_rows C _ _ (off m (omega arith) q) ∙ sym (upd_off (entry C u) n (rows C z) m q);
        }

        last : (k : ℕ) → n ≡ k → Sys t (upd (entry C u) n (rows C z)) (taking G O (locator_at x) n n I) ↔ Sys t (entry C u') (found_of C inv x t (n - 1) I)
        last zero q = absurd (omega arith)
        last (suc k) q =
            let p : n - 1 ≡ k = omega arith in
            rw (p, q) (taken_step (laws v) (locator_at x) v.elements t k v.apart (omega arith) _ _ I (rw q at done))

  pub found_starts : (S : List ℕ) (u : ℕ) → t ≡ suc u → SameSolutions C inv x t (stage_of C inv x t (t - 1)) (found_of C inv x t (t - 1)) S S
  found_starts S u e I =
      let f : t - 1 ≡ u = omega arith in
      rw (f, e) (sys_right (suc u) _ _ _ (found_first (laws v) (locator_at x) v.elements u I))

  pub found_ends : (S : List ℕ) (k : ℕ) → k ≡ 0 → SameSolutions C inv x t (found_of C inv x t k) (λ I. I) S S
  found_ends S k e I = rw e (sys_right t _ _ _ (found_all (laws v) (locator_at x) v.elements t I))
