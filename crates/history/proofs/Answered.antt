-- An answer that refuses is known by the number and the values of its refusal.
use Rattle.std.proofs.Common.{◌≡◌, ℕ, cond, List, get_or, Some, ◌==◌, sym, refl, ap, ◌∙◌}
use Rattle.std.proofs.lemmas.Option.{none-some, same_Some}
use Rattle.refusal.specs.declared.Refusal.{Refusal}
use Rattle.refusal.specs.declared.Refusal.TheVariants.{OtherWidth, BadCounts, TooLong, BadSize, WrongRun, BadLosses, TooFew, Contradictory, BadFrame, NoShape, OutsideShape, OtherPacket, BadFormat, OutsideGrid, SlotFilled, SlotEmpty, WrongSize}
use Rattle.refusal.specs.Numbers.{said, number_of, values_of}
use Rattle.history.specs.declared.call.Answer.{Answer}
use Rattle.history.specs.declared.call.Answer.TheVariants.{Pending, Shaped, Fresh, Known, Whole, Fetched, Held, Refused}
use Rattle.history.specs.Turns.{refusal_in}

-- the refusal of a number and values
refusal_of : ℕ → List ℕ → Refusal
refusal_of n vs =
    cond (n == 1) OtherWidth (cond (n == 2) BadCounts (cond (n == 3) TooLong (cond (n == 4) BadSize (cond (n == 5) (WrongRun (get_or vs 0 0)) (cond (n == 6) BadLosses (cond (n == 7) TooFew
    (cond (n == 8) (Contradictory (get_or vs 0 0) (get_or vs 1 0)) (cond (n == 9) BadFrame (cond (n == 10) NoShape (cond (n == 11) OutsideShape (cond (n == 12) OtherPacket
    (cond (n == 20) BadFormat (cond (n == 21) OutsideGrid (cond (n == 22) SlotFilled (cond (n == 23) SlotEmpty WrongSize)))))))))))))))

again : (e : Refusal) → refusal_of (number_of e) (values_of e) ≡ e
unfolding refusal_of
again OtherWidth = refl
again BadCounts = refl
again TooLong = refl
again BadSize = refl
again (WrongRun place) = refl
again BadLosses = refl
again TooFew = refl
again (Contradictory sum word) = refl
again BadFrame = refl
again NoShape = refl
again OutsideShape = refl
again OtherPacket = refl
again BadFormat = refl
again OutsideGrid = refl
again SlotFilled = refl
again SlotEmpty = refl
again WrongSize = refl

said_only : (e f : Refusal) → said e ≡ said f → e ≡ f
said_only e f q = sym (again e) ∙ ap (λ (p : ℕ × List ℕ). refusal_of p.0 p.1) q ∙ again f

refused_form : (a : Answer) (e : ℕ × List ℕ) → refusal_in a ≡ Some e → (x : Refusal) × (a ≡ Refused x) × (said x ≡ e)
refused_form (Refused x) e q = (x, refl, same_Some _ _ q)
refused_form Pending e q = absurd (none-some e q)
refused_form Shaped e q = absurd (none-some e q)
refused_form Fresh e q = absurd (none-some e q)
refused_form Known e q = absurd (none-some e q)
refused_form (Whole n) e q = absurd (none-some e q)
refused_form Fetched e q = absurd (none-some e q)
refused_form (Held n) e q = absurd (none-some e q)

pub refused_only : (a b : Answer) (e : ℕ × List ℕ) → refusal_in a ≡ Some e → refusal_in b ≡ Some e → a ≡ b
refused_only a b e p q =
    let x = refused_form a e p in
    let y = refused_form b e q in
    x.1 ∙ ap Refused (said_only x.0 y.0 (x.2 ∙ sym y.2)) ∙ sym y.1
