use Rattle.std.proofs.Common.{true, false, Ok, Err, refl, subst}
use Rattle.code.specs.Calls.{CodewordRun, Says}
use Rattle.layout.specs.Blocks.{code_for}
use Rattle.words.specs.Words.{octet, one_block}
use Rattle.words.proofs.words_check.Goals as goal

pub returns-then-yes : goal.returns-then-yes
returns-then-yes c = record {
  answer = Ok true;
  told = refl;
  refusal = c.in-Ok.ensures.answer;
  says = subst (λ yes. Says yes (CodewordRun (code_for (one_block c.args.n c.args.k c.args.w) octet) c.args.block.now)) c.if-yes.true c.in-Ok.ensures.says;
  cleared = c.in-Ok.ensures.cleared;
  left = tt;
}

pub returns-else-yes : goal.returns-else-yes
returns-else-yes c = record {
  answer = Ok false;
  told = refl;
  refusal = c.in-Ok.ensures.answer;
  says = subst (λ yes. Says yes (CodewordRun (code_for (one_block c.args.n c.args.k c.args.w) octet) c.args.block.now)) c.if-yes.false c.in-Ok.ensures.says;
  cleared = c.in-Ok.ensures.cleared;
  left = tt;
}

pub returns-in-Err : goal.returns-in-Err
returns-in-Err c = record {
  answer = Err c.in-Err.refusal;
  told = c.number.ensures;
  refusal = c.in-Err.ensures.answer;
  says = tt;
  cleared = tt;
  left = c.in-Err.ensures.left;
}
