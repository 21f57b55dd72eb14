use Rattle.std.proofs.Common.{◌≡◌, ◌-◌, ◌%◌, ◌<◌}
use lib.Bits.{bit_xor}
use Rattle.galois.specs.Field.{times, product}
use Rattle.field.proofs.stepped.by_steps.Given as goal

abbrev pub invariant-loop-j : goal.invariant-loop-j
invariant-loop-j l =
    record {
      shifted : l.shifted < 256;
      sum : bit_xor l.sum (times 8 0x11D (8 - l._j) l.shifted l.rest) ≡ product 8 0x11D (l.a % 256) (l.b % 256);
    }
