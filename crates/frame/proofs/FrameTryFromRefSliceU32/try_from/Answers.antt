use Rattle.std.proofs.Common.{◌≡◌, rules}
use Rattle.refusal.specs.declared.Refusal.TheVariants.{BadFrame}
use Rattle.refusal.specs.Numbers.{said}
use Rattle.frame.specs.Frames.{refused, parse}
use Rattle.frame.proofs.Laws.{unspelled}
use Rattle.frame.proofs.FrameTryFromRefSliceU32.try_from.Goals as goal

pub returns-in_default : goal.returns-in_default
returns-in_default c =
    let value : refused (said BadFrame) ≡ parse c.args.words.now = search rules in
    record { value = value; spelled = unspelled _ _ value }
