-- What a head-end sends.
use Rattle.std.specs.Prelude.{ℕ, ◌*◌, List}
use Rattle.galois.specs.Field.{product}
use Rattle.layout.specs.Sizes.{packet_of}
use Rattle.sender.specs.Prepared.{Prepared}
use Rattle.sender.specs.Sending.{Sending}
use Rattle.joint.specs.Image.{WordsOf}
use Rattle.joint.specs.declared.head_end.HeadEnd.{HeadEnd}

abbrev pub sends : HeadEnd → Sending
sends h = record { shape = h.shape; image = h.image.items; parity = h.parity.items }

-- its image is made of these bytes, with zeros behind the last
abbrev pub HoldsImage : List ℕ → HeadEnd → Type 0
HoldsImage bytes h = WordsOf bytes (h.shape.blocks * h.shape.sources * packet_of h.shape) h.image.items

-- every block has its parity, over octets
abbrev pub HoldsParity : HeadEnd → Type 0
HoldsParity h = Prepared h.shape (product 8 0x11D) h.image.items h.parity.items h.shape.blocks
