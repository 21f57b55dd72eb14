use Rattle.std.proofs.Common.{◌≡◌, length, ◌∙◌, arith}
use Rattle.frame.specs.Frames.{content_of, frame_words}
use Rattle.sender.specs.Sending.{sending_of}
use Rattle.sender.proofs.Fits.{written}
use Rattle.sender.proofs.Transmission.frame.Goals as goal

pub returns-clause-answer : goal.returns-clause-answer
returns-clause-answer c =
    let of = c.in_ok-frame.ensures.value in
    let counted = c.length.ensures in
    let not = c.if-run-length.false in
    let long : length c.args.run.now ≡ length (frame_words (content_of c.in_ok-frame.frame)) = grind arith in
    rw of at c.write.ensures.answer ∙ written (sending_of c.args.self.now) c.args.frame c.args.run.now c.in_ok-frame.ensures.answer (rw of at long)
