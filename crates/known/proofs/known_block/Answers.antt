use Rattle.std.proofs.Common.{refl}
use Rattle.galois.specs.Field.{double, times, product, inverse, power}
use Rattle.known.proofs.Block.{encodes, repairs, too_few_made, too_few_used, contradicts, contradicts_behind}
use Rattle.known.proofs.known_block.Goals as goal

pub returns-clause-values : goal.returns-clause-values
unfolding double times product inverse power
returns-clause-values c = record {
  nibble_power_4 = refl;
  nibble_power_7 = refl;
  nibble_inverse = refl;
  octet_power_8 = refl;
  octet_power_9 = refl;
  encodes = encodes;
  repairs = λ s l e is. repairs s e l is;
  too_few_made = too_few_made;
  too_few_used = λ s l e is. too_few_used s e l is;
  contradicts = λ s l e is. contradicts s e l is;
  contradicts_behind = λ s l e is. contradicts_behind s e l is;
  shape_written = refl;
  shape_read = refl;
  packet_written = refl;
  packet_read = refl;
  fits = refl;
  fits_not = refl;
  small_accepted = refl;
  longest = refl;
  too_long = refl;
  most_parity = refl;
  too_much_parity = refl;
}
