use Rattle.std.proofs.Common.{◌/◌, length, sym, refl, inl, inr, arith}
use Rattle.std.specs.Int.{w16}
use Rattle.guyekpan.proofs.Numbers.{numbers_length}
use Rattle.guyekpan.proofs.Lists.{few_in_order, list_read}
use Rattle.guyekpan.specs.Bytes.{positions_of}
use Rattle.guyekpan.proofs.one_block.OneBlock.losses.Goals as goal

pub returns-then-bytes-ne0 : goal.returns-then-bytes-ne0
returns-then-bytes-ne0 c = inl (
  (λ p.
      let s = c.args.self.now.shape in
      let bytes = c.args.bytes.now in
      let count = numbers_length w16 (length bytes / 2) bytes in
      let even = p.0 in
      let few = few_in_order (positions_of bytes) s.positions p.1 in
      let short = rw c.args.self.now.octet at s.length in
      elim c.then-bytes-ne0.either [ inl odd ↦ absurd (odd (omega arith)) | inr long ↦ (let many = long.1 in omega arith) ]),
  refl,
)

pub returns : goal.returns
returns c =
    let bytes = c.args.bytes.now in
    let all = numbers_length w16 (length bytes / 2) bytes in
    let even = c.if-bytes-ne0.false in
    list_read c.args.self.now.shape bytes _ c.new.result (sym c.read_positions.ensures) (omega arith) c.new.ensures
