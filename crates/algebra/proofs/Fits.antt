-- How many codewords have given packets at the marked positions.
use Rattle.std.proofs.Common.{◌≡◌, ℕ, suc, ◌-◌, ◌%◌, ◌^◌, ◌<◌, ◌≤◌, Bool, true, false, cond, not, ◌↔◌, sym, refl, ap, ◌∙◌, subst, inl, inr, mod-eq_of_lt, arith, lit<}
use Rattle.algebra.specs.Code.{Code, Block, Proper, Codeword, SamePacket, ZeroPacket, Words32, SameBlock, AgreeAt, syndrome, count, among}
use Rattle.algebra.specs.Fits.{FitAtMostOne, FitOne, FitSeveral}
use Rattle.algebra.specs.Laws.{vander}
use Rattle.algebra.specs.Loops.{Sys, upd}
use Rattle.algebra.proofs.Sums.{upd_at}
use Rattle.algebra.proofs.Loops.{solution}
use Rattle.algebra.proofs.Marks.{Rising, Below, two, count_not, unmarked, count_mark, marked_still, mark_more, among_find, listed}
use Rattle.algebra.proofs.Words.{low, low_codeword}
use Rattle.algebra.proofs.Lost.{put, put_at, put_off}
use Rattle.algebra.specs.Grids.{Grid, grid_xor, grid_ops, rows, nodes}
use Rattle.algebra.proofs.Bridge.{grid_laws, packet, rows_packet, rows_same, nodes_ok, nodes_apart, lost_system}

module _ {C : Code} {inv : ℕ → ℕ} (P : Proper C inv) (p : ℕ → ℕ) (t : ℕ) (up : Rising p t) (lo : Below p t C.positions) where
  -- two blocks agree at the positions that are not lost
  abbrev Left : Block → Block → Type 0
  Left g b = (q : ℕ) → q < C.positions → among p t q ≡ false → SamePacket C (g q) (b q)

  -- the first t sums are zero
  abbrev Zero : Block → Type 0
  Zero b = (μ : ℕ) → μ < t → ZeroPacket C (syndrome C b μ)

  -- the sums of a block with zeros at the lost positions
  abbrev sums : Block → ℕ → Grid C
  sums g μ = rows C (syndrome C (put p t (λ s i c. 0) g) μ)

  -- the sums of b are zero if and only if its lost packets solve the system of the packets that are left
  system : (b g : Block) → Left g b → Zero b ↔ Sys t (sums g) (vander (grid_xor C) (grid_ops C inv) (nodes C p) t (λ s. rows C (b (p s))))
  system b g h =
      lost_system C P.field b (put p t (λ s i c. 0) g) p t up lo
      (λ q l e. rw (put_off p (λ s i c. 0) g t q e) (h q l e))
      (λ s l. rw (put_at p (λ s i c. 0) g t s up l) (λ i c _ _. refl))

  -- the system has exactly one solution
  solved : (S : ℕ → Grid C) → (I : ℕ → Grid C) × ((J : ℕ → Grid C) → Sys t S (vander (grid_xor C) (grid_ops C inv) (nodes C p) t J) ↔ Sys t I J)
  solved = solution (grid_laws C P.field) (nodes C p) (nodes_ok C P.field p) t (nodes_apart C P.field P.short p t up lo)

  -- the lost packets are determined
  determined : (b d : Block) → Zero b → Zero d → Left b d → (s : ℕ) → s < t → SamePacket C (b (p s)) (d (p s))
  determined b d zb zd h s l =
      let sol = solved (sums b) in
      rows_same C _ _ (sym ((sol.1 _).0 ((system b b (λ _ _ _ _ _ _ _. refl)).0 zb) s l) ∙ (sol.1 _).0 ((system d b h).0 zd) s l)

  -- the packets that are left can be completed
  completed : (g : Block) → (b : Block) × Zero b × Left g b
  completed g =
      let sol = solved (sums g) in
      let b : Block = put p t (λ s. packet C (sol.0 s)) g in
      let h : Left g b = λ q l e. rw (put_off p (λ s. packet C (sol.0 s)) g t q e) (λ i c _ _. refl) in
      let at : Sys t sol.0 (λ s. rows C (b (p s))) = λ s l. sym (ap (rows C) (put_at p (λ s. packet C (sol.0 s)) g t s up l) ∙ rows_packet C _) in
      (b, (system b g h).1 ((sol.1 _).1 at), h)

not_false : (b : Bool) → not b ≡ false → b ≡ true
not_false true e = refl
not_false false e = sym e

-- with n - r packets or more, at most one codeword fits
pub at_most_one : (C : Code) (inv : ℕ → ℕ) → Proper C inv → (held : ℕ → Bool) → C.positions - C.parity ≤ count held C.positions → FitAtMostOne C held
at_most_one C inv P held h b d hb hd ag q l = elim (two (held q)) [
  | inl e ↦ ag q l e
  | inr e ↦
      let r = listed (λ q. not (held q)) C.positions in
      let L = r.1 in
      let m = count_not held C.positions in
      let s = among_find r.0 _ q (L.same q l ∙ ap not e) in
      let same = determined P r.0 _ L.up L.below b d (λ μ l. hb.sums μ (omega arith)) (λ μ l. hd.sums μ (omega arith)) in
      subst (λ u. SamePacket C (b u) (d u)) s.2 (same (λ q l e. ag q l (not_false (held q) (sym (L.same q l) ∙ e))) s.0 s.1)
]

-- with just n - r, one fits
pub exactly_one : (C : Code) (inv : ℕ → ℕ) → Proper C inv → (held : ℕ → Bool) → count held C.positions ≡ C.positions - C.parity → FitOne C held
exactly_one C inv P held h g words =
    let r = listed (λ q. not (held q)) C.positions in
    let L = r.1 in
    let m = count_not held C.positions in
    let f = completed P r.0 _ L.up L.below g in
    let w : Codeword C (low f.0) = low_codeword C f.0 (λ μ l. f.1 μ (let k = P.some in omega arith)) in
    let ag : AgreeAt C held (low f.0) g = λ q l e i c hi hc. ap (λ u. u % 2 ^ 32) (sym (f.2 q l (L.same q l ∙ ap not e) i c hi hc)) ∙ mod-eq_of_lt (words q l e i c hi hc) in
    (low f.0, w, ag, λ d hd ad. at_most_one C inv P held (omega arith) d (low f.0) hd w (λ q l e i c hi hc. ad q l e i c hi hc ∙ sym (ag q l e i c hi hc)))

-- a codeword with the packets of g at the marked positions, and with every word v at the position q that is not marked
with_word : (C : Code) (inv : ℕ → ℕ) → Proper C inv → (held more : ℕ → Bool) → count more C.positions ≡ C.positions - C.parity → ((i : ℕ) → held i ≡ true → more i ≡ true)
    → (g : Block) → ((i : ℕ) → i < C.positions → held i ≡ true → Words32 C (g i)) → (q : ℕ) → q < C.positions → held q ≡ false → more q ≡ true → (v : ℕ) → v < 2 ^ 32
    → (b : Block) × Codeword C b × AgreeAt C held b g × SamePacket C (b q) (λ _ _. v)
with_word C inv P held more full kept g words q lq nq mq v lv =
    let fill : Block = λ i. cond (held i) (g i) (λ _ _. v) in
    let at : (i : ℕ) → held i ≡ true → fill i ≡ g i = λ i e. ap (λ b. cond b (g i) (λ _ _. v)) e in
    let off : (i : ℕ) → held i ≡ false → fill i ≡ (λ _ _. v) = λ i e. ap (λ b. cond b (g i) (λ _ _. v)) e in
    let r = exactly_one C inv P more full fill (λ i l _. elim (two (held i)) [ inl e ↦ rw (at i e) (words i l e) | inr e ↦ rw (off i e) (λ _ _ _ _. lv) ]) in
    (r.0, r.1, λ i l e. rw (at i e) at (r.2 i l (kept i e)), rw (off q nq) at (r.2 q lq mq))

-- blocks with different words at a position differ
differ : {C : Code} {inv : ℕ → ℕ} → Proper C inv → (b d : Block) (q : ℕ) → q < C.positions → SamePacket C (b q) (λ _ _. 0) → SamePacket C (d q) (λ _ _. 1) → SameBlock C b d → ⊥
differ {C = C} P b d q l zero one same =
    let row : 0 < C.rows = omega (arith, P.field.wide) in
    omega (arith, zero 0 0 row P.filled, same q l 0 0 row P.filled, one 0 0 row P.filled)

-- with fewer, two or more fit
pub several : (C : Code) (inv : ℕ → ℕ) → Proper C inv → (held : ℕ → Bool) → count held C.positions < C.positions - C.parity → FitSeveral C held
several C inv P held h g words =
    let n : ℕ = C.positions in
    let u = unmarked held n (omega arith) in
    let q : ℕ = u.0 in
    let m = count_mark held q n u.1 u.2 in
    let more = mark_more n (n - C.parity - suc (count held n)) (upd held q true) (omega arith) in
    let one = with_word C inv P held more.0 (omega (arith, more.1)) (λ i e. more.2 i (marked_still held q i e)) g words q u.1 u.2 (more.2 q (upd_at held q true)) in
    let x = one 0 (lit< tt) in
    let y = one 1 (lit< tt) in
    (x.0, y.0, x.1, y.1, x.2, y.2, differ P x.0 y.0 q u.1 x.3 y.3)
