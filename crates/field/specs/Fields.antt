-- Under the two polynomials of this crate α goes through every nonzero element: each is one test that is computed.
use Rattle.std.specs.Prelude.{T}
use Rattle.galois.specs.Field.{double, steps, Primitive}
use Rattle.galois.specs.Tables.{powers, powers_from, logarithms, entered}
use Rattle.galois.proofs.Tables.{generates, primitive}

pub nibble_passes : T (generates 4 0x13)
unfolding generates powers powers_from logarithms entered steps double
nibble_passes = tt

pub octet_passes : T (generates 8 0x11D)
unfolding generates powers powers_from logarithms entered steps double
octet_passes = tt

pub nibble : Primitive 4 0x13
nibble = primitive 4 0x13 nibble_passes

pub octet : Primitive 8 0x11D
octet = primitive 8 0x11D octet_passes
