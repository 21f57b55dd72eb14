-- What the checks say where they pass.
use Rattle.std.proofs.Common.{◌≡◌, ℕ, zero, suc, ◌+◌, ◌*◌, ◌<◌, ◌≤◌, Bool, true, false, cond, ◌&&◌, eqb, ltb, leb, List, length, Some, None, Option, sym, refl, ap, ◌∙◌, add-one, arith}
use native.Mathlib.Decide.{ℕ_discrete, dec_lt}
use Rattle.refusal.specs.declared.Refusal.TheVariants.{BadLosses, OtherWidth, TooFew, WrongRun}
use Rattle.algebra.proofs.Marks.{true_false}
use Rattle.layout.specs.declared.shape.Shape.{Shape}
use Rattle.layout.specs.declared.losses.LossList.{LossList}
use Rattle.layout.specs.Sizes.{parity_of, packet_of, Packets, lost, LostBelow}
use Rattle.layout.specs.Checks.{width_refusal, run_refusal, all_below, loss_refusal}
use Rattle.refusal.specs.Numbers.{said, or_else}

pub below_none : (p : ℕ → ℕ) (end : ℕ) → all_below p 0 end ≡ true
unfolding all_below
below_none p end = refl

pub below_next : (p : ℕ → ℕ) (t end : ℕ) → p t < end → all_below p t end ≡ true → all_below p (t + 1) end ≡ true
unfolding all_below
below_next p t end h e =
    let b : ltb (p t) end ≡ true = grind arith in
    ap (λ n. all_below p n end) (add-one t) ∙ ap (λ z. z && all_below p t end) b ∙ e

pub not_below : (p : ℕ → ℕ) (t s end : ℕ) → s < t → end ≤ p s → all_below p t end ≡ false
unfolding all_below
not_below p zero s end h l = absurd (omega arith)
not_below p (suc t) s end h l = elim (ℕ_discrete s t) [
  | yes q ↦ (let f : end ≤ p t = rw q at l in let b : ltb (p t) end ≡ false = grind arith in ap (λ z. z && all_below p t end) b)
  | no q ↦ ap (λ z. ltb (p t) end && z) (not_below p t s end (omega arith) l) ∙ never (ltb (p t) end)
]
  where
    never : (b : Bool) → b && false ≡ false
    never true = refl
    never false = refl

pub all_below_lem : (p : ℕ → ℕ) (t end : ℕ) → all_below p t end ≡ true → (s : ℕ) → s < t → p s < end
all_below_lem p t end e s h = elim (dec_lt (p s) end) [ yes l ↦ l | no l ↦ true_false (all_below p t end) e (not_below p t s end h (omega arith)) ]

pub below_all : (p : ℕ → ℕ) (t end : ℕ) → ((k : ℕ) → k < t → p k < end) → all_below p t end ≡ true
below_all p zero end h = below_none p end
below_all p (suc t) end h = ap (λ n. all_below p n end) (sym (add-one t)) ∙ below_next p t end (h t (omega arith)) (below_all p t end (λ k m. h k (omega arith)))

-- two checks pass: both together do
pub pass_both : (a b : Option (ℕ × List ℕ)) → a ≡ None → b ≡ None → or_else a b ≡ None
pass_both a b e f = ap (λ u. or_else u b) e ∙ f

pub test_passes : (b : Bool) (e : ℕ × List ℕ) → ◌≡◌ {A = Option (ℕ × List ℕ)} (cond b None (Some e)) None → b ≡ true
test_passes true e h = refl
test_passes false e h = absurd (let z : ◌≡◌ {A = ℕ} 0 1 = cc in omega arith)

pub run_passes : (s : Shape) (packets : ℕ) (run : List ℕ) (place : ℕ) → run_refusal s packets run place ≡ None → Packets s packets run
run_passes s packets run place e = let b = test_passes (eqb (length run) (packets * packet_of s)) (said (WrongRun place)) e in grind arith

pub losses_pass : (s : Shape) (l : LossList) → loss_refusal s l ≡ None → LostBelow l s.positions × (l.len ≤ parity_of s)
losses_pass s l e = (
  λ k h. all_below_lem (lost l) l.len s.positions (tests (all_below (lost l) l.len s.positions) (leb l.len (parity_of s)) e).0 k h,
  let b = (tests (all_below (lost l) l.len s.positions) (leb l.len (parity_of s)) e).1 in grind arith,
)
  where
    tests : (a b : Bool) → ◌≡◌ {A = Option (ℕ × List ℕ)} (cond a (cond b None (Some (said TooFew))) (Some (said BadLosses))) None → (a ≡ true) × (b ≡ true)
    tests true true h = (refl, refl)
    tests true false h = absurd (let z : ◌≡◌ {A = ℕ} 0 1 = cc in omega arith)
    tests false b h = absurd (let z : ◌≡◌ {A = ℕ} 0 1 = cc in omega arith)

-- the checks pass where they should

pub width_ok : (bits : ℕ) (s : Shape) → s.rows ≡ bits → width_refusal bits s ≡ None
width_ok bits s e = let b : eqb s.rows bits ≡ true = grind arith in ap (λ t. cond t None (Some (said OtherWidth))) b

pub run_ok : (s : Shape) (packets : ℕ) (run : List ℕ) (place : ℕ) → Packets s packets run → run_refusal s packets run place ≡ None
run_ok s packets run place e = let b : eqb (length run) (packets * packet_of s) ≡ true = grind arith in ap (λ t. cond t None (Some (said (WrongRun place)))) b

pub losses_ok : (s : Shape) (l : LossList) → LostBelow l s.positions → l.len ≤ parity_of s → loss_refusal s l ≡ None
losses_ok s l below few =
    let b : leb l.len (parity_of s) ≡ true = grind arith in
    ap (λ t. cond t (cond (leb l.len (parity_of s)) None (Some (said TooFew))) (Some (said BadLosses))) (below_all (lost l) l.len s.positions below)
    ∙ ap (λ t. cond t None (Some (said TooFew))) b

-- and refuse where they should

pub losses_outside : (s : Shape) (l : LossList) (k : ℕ) → k < l.len → s.positions ≤ lost l k → loss_refusal s l ≡ Some (said BadLosses)
losses_outside s l k lt past = ap (λ t. cond t (cond (leb l.len (parity_of s)) None (Some (said TooFew))) (Some (said BadLosses))) (not_below (lost l) l.len k s.positions lt past)

pub losses_many : (s : Shape) (l : LossList) → LostBelow l s.positions → parity_of s < l.len → loss_refusal s l ≡ Some (said TooFew)
losses_many s l below many =
    let b : leb l.len (parity_of s) ≡ false = grind arith in
    ap (λ t. cond t (cond (leb l.len (parity_of s)) None (Some (said TooFew))) (Some (said BadLosses))) (below_all (lost l) l.len s.positions below)
    ∙ ap (λ t. cond t None (Some (said TooFew))) b

-- a check that passes did not refuse
pub passed : {A : Type 0} (a : Option (ℕ × List ℕ)) (e : ℕ × List ℕ) → a ≡ None → Some e ≡ a → A
passed a e p q = absurd (let z : ◌≡◌ {A = ℕ} 0 1 = cc in omega arith)
