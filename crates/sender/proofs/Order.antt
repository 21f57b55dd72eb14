-- The order of a broadcast, by its turns.
use Rattle.std.proofs.Common.{◌+◌, ◌-◌, ◌/◌, arith}
use Rattle.layout.specs.declared.shape.Shape.{Shape}
use Rattle.sender.specs.Broadcast.{InOrder}

pub in_order : (s : Shape) → InOrder s
in_order s = record {
  first = grind arith;
  again = λ turn. (λ h. grind (arith, h), λ h. grind (arith, h));
  behind = λ turn lt fiftieth. grind (arith, lt, fiftieth);
  each = λ f one le. (f + (f - 1) / 50, grind (arith, le), λ u. (λ h. grind (arith, h), λ h. grind (arith, h)));
  ascends = λ u v lt one one'. grind (arith, lt, one, one');
  inside = λ turn lt. grind (arith, lt);
}
