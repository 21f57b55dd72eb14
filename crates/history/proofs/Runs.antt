-- A run goes on by one turn, and a transcript by one entry.
use Rattle.std.proofs.Common.{◌≡◌, ℕ, zero, suc, ◌<◌, List, [], ◌∷◌, ◌++◌, length, get_or, take, drop, sym, refl, ap, ◌∙◌, subst, arith, length-drop}
use Rattle.std.proofs.Math.ListN.{set}
use Rattle.receiver.specs.Meaning.{Meaning}
use Rattle.history.specs.declared.call.Call.{Call}
use Rattle.history.specs.declared.call.Entry.{Entry}
use Rattle.history.specs.Turns.{Turn, turn, transcript, calls}
use Rattle.history.specs.Steps.{Step, AllSteps}

pub run_more : (bits : ℕ) (prod : ℕ → ℕ → ℕ) (m : Meaning) (ts : List Turn) (mid : Meaning) (t : Turn) (after : Meaning) → AllSteps bits prod m ts mid → Step bits prod mid t after
    → AllSteps bits prod m (ts ++ t ∷ []) after
run_more bits prod m [] mid t after R S = (after, subst (λ n. Step bits prod n t after) R S, refl)
run_more bits prod m (u ∷ ts) mid t after R S = (R.0, R.1, run_more bits prod R.0 ts mid t after R.2 S)

-- entry k of a list is made: the turns gain one, the entries behind it are as they were, and the calls stay
pub record OneMore (old now : List Entry) (k : ℕ) (x y : Entry) : Type 0 where
  pub turns : transcript (take (suc k) old) (take (suc k) (set now k y)) ≡ transcript (take k old) (take k now) ++ turn x y ∷ []
  pub left : drop (suc k) (set now k y) ≡ drop (suc k) old
  pub calls_same : calls (set now k y) ≡ calls now

pub one_more : (old now : List Entry) (k : ℕ) (x y : Entry) → k < length now → x ≡ get_or now k x → drop k now ≡ drop k old → y.call ≡ x.call → OneMore old now k x y
one_more old [] k x y l e d c = absurd (omega arith)
one_more old (n ∷ ns) zero x y l e d c =
    let same : y.call ≡ n.call = c ∙ ap (λ (e : Entry). e.call) e in
    subst (λ old. OneMore old (n ∷ ns) zero x y) d
    (record { turns = ap (λ x. turn x y ∷ []) (sym e); left = refl; calls_same = ap (λ (u : Call). u ∷ calls ns) same })
one_more [] (n ∷ ns) (suc k) x y l e d c =
    absurd (let size = length-drop k ns in let none : length (drop k ns) ≡ 0 = ap length d in omega arith)
one_more (o ∷ os) (n ∷ ns) (suc k) x y l e d c =
    let r = one_more os ns k x y (omega arith) e d c in
    record { turns = ap (λ ts. turn o n ∷ ts) r.turns; left = r.left; calls_same = ap (λ us. n.call ∷ us) r.calls_same }
