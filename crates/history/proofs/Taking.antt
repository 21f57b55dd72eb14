-- From a ledger and a receiver that are linked to the law of a frame.
use Rattle.std.proofs.Common.{◌≡◌, ℕ, ◌<◌, List, is_some, Some, None, Ok, Err, Option, Result, sym, refl, ap, ◌∙◌, inl, inr, arith}
use Rattle.std.proofs.lemmas.Bool.{cases_Bool, cond-true, cond-false, true≢false, false≢true, MatchBool-at_true, MatchBool-at_false}
use Rattle.std.proofs.lemmas.Option.{none-some, same_Some}
use Rattle.refusal.specs.declared.Refusal.TheVariants.{BadFrame, NoShape, OtherPacket}
use Rattle.refusal.specs.declared.Refusal.{Refusal}
use Rattle.refusal.specs.Numbers.{said, refused_with, or_else}
use Rattle.layout.specs.declared.shape.Dimensions.{Dimensions}
use Rattle.layout.specs.declared.shape.Shape.{Shape}
use Rattle.frame.specs.Frames.{Sight, shape, packet, refused, parse, is_shape, is_packet}
use Rattle.receiver.specs.declared.Taken.{Taken}
use Rattle.receiver.specs.declared.Taken.TheVariants.{Shaped as shape_set, Fresh as packet_put, Known as packet_held}
use Rattle.receiver.specs.Meaning.{Meaning}
use Rattle.receiver.specs.Sound.{Sound}
use Rattle.receiver.specs.Calls.{same_words, length_refusal, place_refusal, other_refusal, is_set, start_refusal, Started, TookShape, TookPacket, take_refusal, Took}
use Rattle.receiver.proofs.Slots.{same_decides}
use Rattle.history.specs.declared.call.Answer.TheVariants.{Shaped}
use Rattle.history.specs.Turns.{Turn, refusal_in, Refuses}
use Rattle.history.specs.Ledger.{Ledger, has}
use Rattle.history.specs.Boards.{Board}
use Rattle.history.specs.Law.{IsThere, TakenAt, ShapeTaken, TakeLaw}
use Rattle.history.specs.Steps.{taken, Takes}
use Rattle.history.proofs.Linked.{Kept, Linked, has_slot, slot_there, there_slot}
use Rattle.history.proofs.Lawful.{checked, in_shape}
use Rattle.history.proofs.Present.{set_is, is_there}

refusal_taken : (r : Result Taken Refusal) → refusal_in (taken r) ≡ refused_with r
refusal_taken (Ok shape_set) = refl
refusal_taken (Ok packet_put) = refl
refusal_taken (Ok packet_held) = refl
refusal_taken (Err e) = refl

-- what words that are no frame are refused with
no_frame : (ws : List ℕ) (e : ℕ × List ℕ) → parse ws ≡ refused e → e ≡ said BadFrame
no_frame ws e q = elim (cases_Bool (is_shape ws)) [
  | inl t ↦ let z = sym (cond-true (is_shape ws) _ _ t) ∙ q in absurd (cc)
  | inr f ↦ elim (cases_Bool (is_packet ws)) [
    | inl t ↦ let z = sym (cond-true (is_packet ws) _ _ t) ∙ sym (cond-false (is_shape ws) _ _ f) ∙ q in absurd (cc)
    | inr g ↦ let z = sym (cond-false (is_packet ws) _ _ g) ∙ sym (cond-false (is_shape ws) _ _ f) ∙ q in cc
  ]
]

-- what a refused comparison tells of a slot
pub record Other (slot : Option (List ℕ)) (ws : List ℕ) (e : ℕ × List ℕ) : Type 0 where
  pub words : List ℕ
  pub filled : slot ≡ Some words
  pub apart : words ≡ ws → ⊥
  pub twelve : e ≡ said OtherPacket

other_slot : (slot : Option (List ℕ)) (ws : List ℕ) (e : ℕ × List ℕ) → Some e ≡ other_refusal slot ws → Other slot ws e
other_slot None ws e q = absurd (none-some e (sym q))
other_slot (Some held) ws e q = elim (cases_Bool (same_words held ws)) [
  | inl t ↦ absurd (none-some e (sym (cond-true (same_words held ws) _ _ t) ∙ sym q))
  | inr f ↦ record {
    words = held;
    filled = refl;
    apart = λ s. true≢false (sym ((same_decides held ws).1 s) ∙ f);
    twelve = same_Some _ _ (q ∙ cond-false (same_words held ws) _ _ f);
  }
]

-- the checks of a packet, but for that of its slot
abbrev checks : Shape → ℕ → ℕ → List ℕ → Option (ℕ × List ℕ)
checks s i j ws = or_else (length_refusal s ws) (place_refusal s i j)

packet_refused : (m : Meaning) (s : Shape) (i j : ℕ) (ws : List ℕ) (e : ℕ × List ℕ) → m.shape ≡ Some s → checks s i j ws ≡ Some e → take_refusal 0 m (packet i j ws) ≡ Some e
packet_refused m s i j ws e is q = grind (arith, is, q)

packet_passes : (m : Meaning) (s : Shape) (i j : ℕ) (ws : List ℕ) → m.shape ≡ Some s → checks s i j ws ≡ None → take_refusal 0 m (packet i j ws) ≡ other_refusal (m.grid.slots i j) ws
packet_passes m s i j ws is q = grind (arith, is, q)

module _ (P : Board) (l : Ledger) (m : Meaning) (L : Linked P l m) (sound : Sound P.bits m.shape m.grid) (t : Turn) (same_run : t.after ≡ t.before) where
  module _ (s : Shape) (is : m.shape ≡ Some s) (i j : ℕ) (column : j < s.positions) (ws : List ℕ) where
    abbrev K : Kept P s l m.grid
    K = L.kept s is

    slot_has : (x : Option (List ℕ)) → m.grid.slots i j ≡ x → has l i j ≡ is_some x
    slot_has x e = sym (has_slot P s l m.grid K i j column) ∙ ap is_some e

    -- nothing is there where the slot is empty
    not_there : m.grid.slots i j ≡ None → IsThere P l s i j ws → ⊥
    not_there e h = none-some ws (sym e ∙ there_slot P s l m.grid K i (sound s is).1 j column ws h)

    place_law : (r : Result Taken Refusal) (after : Meaning) → t.answer ≡ taken r → refused_with r ≡ other_refusal (m.grid.slots i j) ws → TookPacket m i j ws r after
        → TakenAt P l s i j ws t
    place_law (Ok shape_set) after a q T = absurd T
    place_law (Ok packet_put) after a q T = record {
      fresh = ((λ _. slot_has None T.was_empty), λ _. a);
      known = ((λ k. absurd (cc (a, k))), λ h. absurd (not_there T.was_empty h));
      other = inl a;
      kept = same_run;
    }
    place_law (Ok packet_held) after a q T = record {
      fresh = ((λ k. absurd (cc (a, k))), λ n. absurd (false≢true (sym n ∙ slot_has (Some ws) T.held)));
      known = ((λ _. slot_there P s l m.grid K i (sound s is).1 j column ws T.held), λ _. a);
      other = inr (inl a);
      kept = same_run;
    }
    place_law (Err x) after a q T =
        let O = other_slot (m.grid.slots i j) ws (said x) q in
        record {
          fresh = ((λ k. absurd (cc (a, k))), λ n. absurd (false≢true (sym n ∙ slot_has (Some O.words) O.filled)));
          known = (
            (λ k. absurd (cc (a, k))),
            λ h. absurd (O.apart (same_Some _ _ (sym O.filled ∙ there_slot P s l m.grid K i (sound s is).1 j column ws h))),
          );
          other = inr (inr (ap refusal_in a ∙ ap Some O.twelve));
          kept = same_run;
        }

  module _ (r : Result Taken Refusal) (after : Meaning) (a : t.answer ≡ taken r) where
    refuses : (check : Option (ℕ × List ℕ)) → refused_with r ≡ check → (e : ℕ × List ℕ) → check ≡ Some e → Refuses t e
    refuses check q e f = (ap refusal_in a ∙ refusal_taken r ∙ q ∙ f, same_run)

    packet_law : (i j : ℕ) (ws : List ℕ) → refused_with r ≡ take_refusal P.bits m (packet i j ws) → TookPacket m i j ws r after → TakeLaw P l t (packet i j ws)
    packet_law i j ws q T =
        in_shape P l m t _ L sound (λ is. refuses _ q (said NoShape) (grind (arith, is)))
        (λ s is. checked t _ _ (λ e f. refuses _ q e (packet_refused m s i j ws e is f)) (λ f.
        place_law s is i j (grind (arith, f)) ws r after a (q ∙ packet_passes m s i j ws is f) T))

    shaped : (d : Dimensions) (r : Result Taken Refusal) → refused_with r ≡ None → Started m d r after → taken r ≡ Shaped
    shaped d (Ok shape_set) q T = refl
    shaped d (Ok packet_put) q T = absurd T
    shaped d (Ok packet_held) q T = absurd T
    shaped d (Err x) q T = absurd (none-some _ (sym q))

    shape_law : (d : Dimensions) → refused_with r ≡ take_refusal P.bits m (shape d) → TookShape m d r after → ShapeTaken P l d t
    shape_law d q T = record {
      again = λ e. (a ∙ ap taken (MatchBool-at_true _ _ (is_there m.shape d (sym L.shape_is ∙ e)) T).0, same_run);
      other = λ n. elim (cases_Bool (is_set m.shape d)) [
        | inl e ↦ absurd (n (L.shape_is ∙ set_is m.shape d e))
        | inr e ↦
            let check = q ∙ cond-false (is_set m.shape d) _ _ e ∙ ap (λ n. start_refusal P.bits (record m { capacity = n }) d) L.capacity_is in
            checked t _ _ (refuses _ check) (λ f. (a ∙ shaped d r (check ∙ f) (MatchBool-at_false _ _ e T), same_run))
      ];
    }

    sight_law : (f : Sight) → ((e : ℕ × List ℕ) → f ≡ refused e → e ≡ said BadFrame) → refused_with r ≡ take_refusal P.bits m f → Took m f r after → TakeLaw P l t f
    sight_law (refused e) nine q T = refuses _ q (said BadFrame) (ap Some (nine e refl))
    sight_law (shape d) nine q T = shape_law d q T
    sight_law (packet i j ws) nine q T = packet_law i j ws q T

pub take_law : (P : Board) (l : Ledger) (m : Meaning) → Linked P l m → Sound P.bits m.shape m.grid → (t : Turn) (after : Meaning) → Takes P.bits m t after → TakeLaw P l t (parse t.before)
take_law P l m L sound t after T = sight_law P l m L sound t T.same_run T.said after T.answer_is (parse t.before) (no_frame t.before) T.refusal T.took
