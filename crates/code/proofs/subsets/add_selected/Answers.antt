use Rattle.std.proofs.Common.{◌+◌, ◌*◌, ◌/◌, ◌%◌, ◌≤◌, length, get_or, ap, ap₂, ◌∙◌, mul-le-mul_right, add-mul, arith}
use lib.Bits.{bit_xor, xor_assoc}
use Rattle.std.proofs.lemmas.List.Edits.{get_or-between}
use Rattle.layout.proofs.Parts.{part_length}
use Rattle.code.proofs.Selecting.{found_in_two, found_in_three}
use Rattle.code.proofs.subsets.add_selected.Goals as goal

pub returns-then-m-gt8 : goal.returns-then-m-gt8
returns-then-m-gt8 c p t k h =
    let w = c.args.w in
    let n = c.args.number in
    let xs = c.args.table.now in
    let one = c.requires.target in
    let z = get_or c.args.target.now k 0 in
    let top = 32 + n / 256 % 4 in
    let room = c.requires.table in
    let up : (top + 1) * w ≤ 36 * w = mul-le-mul_right w (omega arith) in
    let fits : top * w + w ≤ length xs = omega (arith, up, room, add-mul top 1 w) in
    c.add_words.ensures k (rw (part_length xs top w fits) h)
    ∙ ap₂ bit_xor
    (c.add_two.ensures k (omega arith)
    ∙ ap (bit_xor z)
    (ap₂ bit_xor (get_or-between xs (n % 16 * w) (n % 16 * w + w) k 0 (omega arith)) (get_or-between xs ((16 + n / 16 % 16) * w) ((16 + n / 16 % 16) * w + w) k 0 (omega arith))))
    (get_or-between xs ((32 + n / 256 % 4) * w) ((32 + n / 256 % 4) * w + w) k 0 (omega arith))
    ∙ xor_assoc z _ _
    ∙ ap (bit_xor z) (found_in_three c.requires.m t n c.requires.number k h)

pub returns-else-m-gt8 : goal.returns-else-m-gt8
returns-else-m-gt8 c p t k h =
    let w = c.args.w in
    let n = c.args.number in
    let xs = c.args.table.now in
    let few = c.if-m-gt8.false in
    let one = c.requires.target in
    c.add_two.ensures k (omega arith)
    ∙ ap (bit_xor (get_or c.args.target.now k 0))
    (ap₂ bit_xor (get_or-between xs (n % 16 * w) (n % 16 * w + w) k 0 (omega arith)) (get_or-between xs ((16 + n / 16 % 16) * w) ((16 + n / 16 % 16) * w + w) k 0 (omega arith))
    ∙ found_in_two c.requires.m t n c.requires.number k h (omega arith))
