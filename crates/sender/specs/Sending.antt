-- What a transmission carries, free of the references that lend it.
use Rattle.std.specs.Prelude.{ℕ, List}
use Rattle.layout.specs.declared.shape.Shape.{Shape}
use Rattle.sender.specs.declared.Transmission.{Transmission}

-- an image, block after block, and the parity words of its blocks
pub record Sending : Type 0 where
  pub shape : Shape
  pub image : List ℕ
  pub parity : List ℕ

abbrev pub sending_of : Transmission → Sending
sending_of t = record { shape = t.shape.now; image = t.image.now; parity = t.parity.now }
