use Rattle.std.proofs.Common.{ap}
use Rattle.receiver.specs.Meaning.{means}
use Rattle.history.specs.Turns.{transcript}
use Rattle.history.specs.Boards.{board}
use Rattle.history.proofs.Trials.{boards}
use Rattle.history.proofs.trial.trial.Goals as goal

pub returns-clause-law : goal.returns-clause-law
returns-clause-law g c =
    let F = g.F.Arithmetic in
    let G = g.G.Arithmetic in
    boards (board F g.S.SlotStore c.args.first_store) (board G g.T.SlotStore c.args.second_store) F.inv G.inv g.met.F.Arithmetic.field g.met.G.Arithmetic.field
    (transcript c.args.first_entries.now c.make_all.new.entries) (transcript c.args.second_entries.now c.make_all-2.new.entries)
    (record {
      m = means c.new-one.result;
      end = means c.make_all.new.receiver;
      no_shape = c.new-one.ensures.blank;
      capacity_is = ap g.S.SlotStore.capacity c.new-one.ensures.store;
      ran = c.make_all.ensures.run;
      sound = c.make_all.new.receiver.sound;
    })
    (record {
      m = means c.new-other.result;
      end = means c.make_all-2.new.receiver;
      no_shape = c.new-other.ensures.blank;
      capacity_is = ap g.T.SlotStore.capacity c.new-other.ensures.store;
      ran = c.make_all-2.ensures.run;
      sound = c.make_all-2.new.receiver.sound;
    })
