use Rattle.std.proofs.Common.{[], ◌∷◌, rules}
use Rattle.known.proofs.Block.{refused_first}
use Rattle.known.proofs.answers.contradicted_behind.Goals as goal

pub returns : goal.returns
returns c =
    let repair = c.repair_changed.ensures (0 ∷ []) (c.in_ok-new.ensures.len, c.in_ok-new.ensures.at) in
    let answer = refused_first _ _ (search rules) _ repair in
    record { refused = answer.0; cleared = answer.1; repair = repair }
