-- Whether a shape's frame is that of the shape that is set.
use Rattle.std.proofs.Common.{◌≡◌, true, ◌⊎◌, Some, None, Option, ap, sym, ◌∙◌, subst, inl, inr, arith}
use Rattle.std.specs.Prelude.{◌≢◌}
use Rattle.std.proofs.lemmas.Bool.{false≢true, true≢false, cases_Bool}
use Rattle.std.proofs.lemmas.Option.{none-some, same_Some}
use Rattle.layout.specs.declared.shape.Dimensions.{Dimensions}
use Rattle.layout.specs.declared.shape.Shape.{Shape}
use Rattle.layout.specs.Made.{dimensions_of}
use Rattle.receiver.specs.Calls.{same_dimensions, is_set}
use Rattle.history.proofs.Linked.{present}

-- dimensions are the same just if the five numbers are
same_numbers : (d e : Dimensions) → same_dimensions d e ≡ true → d ≡ e
same_numbers d e h =
    let rows : d.rows ≡ e.rows = grind (arith, h) in
    let positions : d.positions ≡ e.positions = grind (arith, h) in
    let sources : d.sources ≡ e.sources = grind (arith, h) in
    let blocks : d.blocks ≡ e.blocks = grind (arith, h) in
    let words : d.words ≡ e.words = grind (arith, h) in
    λ z. record { rows = rows z; positions = positions z; sources = sources z; blocks = blocks z; words = words z }

numbers_same : (d : Dimensions) → same_dimensions d d ≡ true
numbers_same d = grind arith

-- the shape that is set is the one that a ledger has, or it is another
pub set_is : (o : Option Shape) (d : Dimensions) → is_set o d ≡ true → present o ≡ Some d
set_is None d e = absurd (false≢true e)
set_is (Some s) d e = ap Some (same_numbers (dimensions_of s) d e)

pub is_there : (o : Option Shape) (d : Dimensions) → present o ≡ Some d → is_set o d ≡ true
is_there None d e = absurd (none-some d e)
is_there (Some s) d e = subst (λ f. same_dimensions (dimensions_of s) f ≡ true) (same_Some _ _ e) (numbers_same (dimensions_of s))

pub present_or_not : (o : Option Dimensions) (d : Dimensions) → (o ≡ Some d) ⊎ (o ≢ Some d)
present_or_not None d = inr (none-some d)
present_or_not (Some e) d = elim (cases_Bool (same_dimensions e d)) [
  | inl t ↦ inl (ap Some (same_numbers e d t))
  | inr f ↦ inr (λ q. true≢false (sym (subst (λ x. same_dimensions e x ≡ true) (same_Some _ _ q) (numbers_same e)) ∙ f))
]
