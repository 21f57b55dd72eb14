use Rattle.guyekpan.proofs.host.encode_in.Goals as goal

pub returns-clause-done : goal.returns-clause-done
returns-clause-done g c = rw (← c.read.ensures, ← c.write.ensures) at c.in_ok-encode.ensures.filled
