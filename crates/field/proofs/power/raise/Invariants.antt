use Rattle.std.proofs.Common.{◌≡◌, ◌%◌, ◌^◌, ◌<◌}
use Rattle.galois.specs.Field.{power}
use Rattle.field.proofs.power.raise.Given as goal

abbrev pub invariant-loop-rest : goal.invariant-loop-rest
invariant-loop-rest g l =
    let f = g.F.Arithmetic in
    record {
      square : l.square < 2 ^ f.bits;
      result : l.result < 2 ^ f.bits;
      rest : f.prod l.result (power f.prod l.square l.rest) ≡ power f.prod (l.a % 2 ^ f.bits) l.exponent;
    }

abbrev pub decreases-loop-rest : goal.decreases-loop-rest
decreases-loop-rest g l = l.rest
