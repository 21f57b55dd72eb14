use Rattle.std.proofs.Common.{◌≡◌, ◌+◌, ◌-◌, ◌%◌, ◌^◌}
use Rattle.galois.specs.Field.{product, power}
use Rattle.field.proofs.stepped.SteppedOctetArithmetic.inverse.Given as goal

abbrev pub invariant-loop-i : goal.invariant-loop-i
invariant-loop-i l =
    record {
      square : l.square ≡ power (product 8 0x11D) (l.a % 256) (2 ^ l._i);
      inverse : l.inverse ≡ power (product 8 0x11D) (l.a % 256) (2 ^ (l._i + 1) - 2);
    }
