use Rattle.std.proofs.Common.{◌∙◌, arith}
use Rattle.guyekpan.proofs.Numbers.{numbers_are, word_written}
use Rattle.guyekpan.proofs.bytes.write.Goals as goal

pub loop-i-preserved : goal.loop-i-preserved
loop-i-preserved c =
    word_written c.loop-i.bytes c.args.words.now (c.loop-i.auto.bytes ∙ c.requires) c.loop-i.i _ c.copy_from_slice.new.self (omega arith)
    (c.copy_from_slice.ensures.after ∙ c.to_be_bytes.ensures) c.loop-i-test.true (c.type_inv.words c.loop-i.i) c.loop-i.invariant

pub returns : goal.returns
returns c =
    let long = c.loop-i.auto.bytes in
    let end = c.loop-i.auto.i-end in
    let stop = c.loop-i-test.false in
    let size = c.requires in
    numbers_are _ _ c.loop-i.bytes c.args.words.now (omega arith) (λ j lt. c.loop-i.invariant j (omega arith))
