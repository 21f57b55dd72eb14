use Rattle.layout.specs.Sizes.{packets_in}
use Rattle.layout.specs.Blocks.{code_of}
use Rattle.code.proofs.Held.{run_summed}
use Rattle.code.proofs.solver.Solver.absorb_held.Goals as goal

pub returns : goal.returns
returns g c =
    let s = c.args.self.now.code.now.shape in
    let run = c.args.run.now in
    run_summed (code_of s g.F.Arithmetic.prod) c.args.self.now.losses.now c.args.start run c.args.sums.now c.add_run.new.sums (packets_in s run) c.add_run.ensures
