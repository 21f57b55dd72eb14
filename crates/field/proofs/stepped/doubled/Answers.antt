use Rattle.std.proofs.Common.{◌≡◌, ◌*◌, ◌%◌, ◌^◌, sym, refl, ◌∙◌, arith}
use Rattle.galois.proofs.Linear.{double_small, double_lt}
use Rattle.galois.proofs.Turns.{double_big}
use Rattle.field.proofs.stepped.doubled.Goals as goal

pub returns-then-shifted-lt256 : goal.returns-then-shifted-lt256
returns-then-shifted-lt256 c =
    let x = c.args.x in
    let whole : x * 2 % 2 ^ 32 ≡ x * 2 = omega arith in
    record { value = whole ∙ sym (double_small 8 0x11D x (omega arith)); element = omega arith }

pub returns-else-shifted-lt256 : goal.returns-else-shifted-lt256
returns-else-shifted-lt256 c =
    let x = c.args.x in
    let whole : x * 2 % 2 ^ 32 ≡ x * 2 = omega arith in
    let reduced = double_big 8 0x11D x c.requires (omega arith) in
    record { value = rw whole (sym reduced); element = rw (whole, ← reduced) (double_lt 8 0x11D refl x c.requires) }
