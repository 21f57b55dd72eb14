use Rattle.guyekpan.proofs.host.check_in.Goals as goal

pub returns-clause-after : goal.returns-clause-after
returns-clause-after g c = record {
  says = rw (← c.read.ensures) at c.in_ok-yes.ensures.says;
  cleared = c.clear.ensures;
}
