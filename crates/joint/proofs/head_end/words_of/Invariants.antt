use Rattle.std.proofs.Common.{◌≡◌}
use Rattle.joint.proofs.Words.{ReadUpTo}
use Rattle.joint.proofs.head_end.words_of.Given as goal

abbrev pub invariant-loop-four : goal.invariant-loop-four
invariant-loop-four l = record { size : l.four-iterator.size ≡ 4; read : ReadUpTo l.bytes l.words.items l.four-iterator.rest.now }
