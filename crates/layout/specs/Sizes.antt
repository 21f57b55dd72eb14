-- How long the runs of a shape are.
use Rattle.std.specs.Prelude.{◌≡◌, ℕ, ◌-◌, ◌*◌, ◌/◌, ◌<◌, List, length, slice_index}
use Rattle.layout.specs.declared.shape.Shape.{Shape}
use Rattle.layout.specs.declared.losses.LossList.{LossList}

-- the number of parity positions, which is that of the sums
abbrev pub parity_of : Shape → ℕ
parity_of s = s.positions - s.sources

-- the words of a packet
abbrev pub packet_of : Shape → ℕ
packet_of s = s.rows * s.words

-- how many packets a run has room for
abbrev pub packets_in : Shape → List ℕ → ℕ
packets_in s run = length run / packet_of s

-- a run of just so many packets
abbrev pub Packets : Shape → ℕ → List ℕ → Type 0
Packets s count run = length run ≡ count * packet_of s

-- lost position number s, counted from 0
abbrev pub lost : LossList → ℕ → ℕ
lost l s = slice_index l.at s

-- the lost positions lie below an end
abbrev pub LostBelow : LossList → ℕ → Type 0
LostBelow l end = (s : ℕ) → s < l.len → lost l s < end
