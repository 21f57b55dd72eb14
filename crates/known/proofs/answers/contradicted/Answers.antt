use Rattle.std.proofs.Common.{[], refl, rules}
use Rattle.known.proofs.Block.{refused_none}
use Rattle.known.proofs.answers.contradicted.Goals as goal

pub returns : goal.returns
returns c =
    let repair = c.repair_changed.ensures [] (c.none.ensures, rw c.none.ensures refl) in
    let answer = refused_none _ _ (search rules) _ repair in
    record { refused = answer.0; cleared = answer.1; repair = repair }
