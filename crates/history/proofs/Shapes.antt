-- A shape is known by its dimensions, and a packet's words by the packet.
use Rattle.std.proofs.Common.{◌≡◌, ℕ, ◌-◌, ◌^◌, ◌/◌, ◌%◌, ◌<◌, ◌≤◌, List, length, get_or, arith, sym, ap, ◌∙◌, refl, subst}
use Rattle.std.proofs.Math.Bridge.{le_prop}
use Rattle.layout.specs.declared.shape.Dimensions.{Dimensions}
use Rattle.layout.specs.declared.shape.Shape.{Shape}
use Rattle.layout.specs.Made.{dimensions_of}
use Rattle.layout.specs.Sizes.{packet_of}
use Rattle.layout.specs.Blocks.{packet_in}
use Rattle.layout.proofs.Blocks.{row_lt, column_lt, place}
use Rattle.std.proofs.lemmas.List.{ext_get_or}

-- what dimensions keep that a shape has
Facts : Dimensions → Type 0
Facts d =
    ((3 ≤ d.rows) × (d.rows ≤ 10)) × ((1 ≤ d.sources) × (d.sources < d.positions) × (d.positions - d.sources ≤ 32)) × (d.positions ≤ 2 ^ d.rows - 1)
    × ((1 ≤ d.blocks) × (d.blocks ≤ 64) × (1 ≤ d.words) × (d.words ≤ 16))

shape_from : (d : Dimensions) → Facts d → Shape
unfolding Facts
shape_from d f = record { rows = d.rows; positions = d.positions; sources = d.sources; blocks = d.blocks; words = d.words; field = f.0; counts = f.1; length = f.2; sizes = f.3 }

facts_prop : (d : Dimensions) → IsProp (Facts d)
unfolding Facts
facts_prop d = hlevel (le_prop)

facts : (s : Shape) → Facts (dimensions_of s)
unfolding Facts
facts s = (s.field, s.counts, s.length, s.sizes)

from_facts : (s : Shape) → shape_from (dimensions_of s) (facts s) ≡ s
unfolding shape_from facts Facts
from_facts s = refl

pub same_shape : (s t : Shape) → dimensions_of s ≡ dimensions_of t → s ≡ t
same_shape s t e =
    let P : Dimensions → Type 0 = λ d. (f : Facts d) → s ≡ shape_from d f in
    subst P e (λ f. sym (from_facts s) ∙ ap (shape_from (dimensions_of s)) (facts_prop (dimensions_of s) (facts s) f)) (facts t) ∙ from_facts t

-- words that are one packet are equal
pub same_packets : (s : Shape) (xs ys : List ℕ) → length xs ≡ packet_of s → length ys ≡ packet_of s
    → ((r c : ℕ) → r < s.rows → c < s.words → packet_in s.words xs r c ≡ packet_in s.words ys r c) → xs ≡ ys
same_packets s xs ys lx ly e = ext_get_or 0 xs ys (lx ∙ sym ly) (λ k h.
    let lt : k < packet_of s = omega arith in
    ap (λ m. get_or xs m 0) (sym (place s.words k)) ∙ e (k / s.words) (k % s.words) (row_lt s.rows s.words s.sizes.2 k lt) (column_lt s.words s.sizes.2 k) ∙ ap (λ m. get_or ys m 0) (place s.words k))
