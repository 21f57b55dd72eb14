use Rattle.std.proofs.Common.{◌≡◌, ◌<◌, not, [], sym, ap, ◌∙◌, arith}
use Rattle.std.proofs.lemmas.Bool.{not-false, not-true}
use Rattle.layout.specs.Blocks.{packet_in}
use Rattle.code.specs.Values.{code}
use Rattle.code.proofs.Absorbs.{sums_none, sums_held, sums_lost}
use Rattle.receiver.specs.Calls.{held_in}
use Rattle.receiver.specs.Blocks.{block_of}
use Rattle.receiver.proofs.Reading.{packet_or_lem, empty_zero}
use Rattle.receiver.proofs.stored.StoredBlock.absorb_held.Goals as goal
use Rattle.receiver.proofs.stored.StoredBlock.absorb_held.Goals.{then-not-contains+in_ok-get+in_ok-absorb, else-not-contains}

pub loop-position-init : goal.loop-position-init
loop-position-init g c =
    let C = code c.args.codec.now in
    sums_none C (block_of C (g.S.SlotStore.grid c.args.self.now.store.now) c.args.self.now.block) c.args.sums.now c.requires.zero

pub loop-position-preserved : goal.loop-position-preserved
loop-position-preserved g c =
    let s = c.args.self.now.shape in
    let C = code c.args.codec.now in
    let G = g.S.SlotStore.grid c.args.self.now.store.now in
    let i = c.args.self.now.block in
    let q = c.loop-position.position in
    let lt : q < s.positions = omega (arith, c.positions-position-end.ensures.value) in
    let missing : not (held_in G i q) ≡ c.contains.result = sym (c.contains.ensures ∙ c.requires.missing.same q lt) in
    elim c.if-not-contains.branch [
      | then-not-contains+in_ok-get+in_ok-absorb w ↦
          let got = w.in_ok-get.ensures.after ∙ packet_or_lem (G.slots i q) _ [] (sym (not-false _ (missing ∙ w.if-not-contains.true))) in
          rw w.sums-is (sums_held C (block_of C G i) q (packet_in C.words w.get.new.run) c.loop-position.sums w.absorb.new.sums (λ j k _ _. ap (λ ws. packet_in C.words ws j k) got) w.in_ok-absorb.ensures.added c.loop-position.invariant)
      | else-not-contains w ↦
          let none = sym (not-true _ (missing ∙ w.if-not-contains.false)) in
          rw w.sums-is (sums_lost C (block_of C G i) q c.loop-position.sums (empty_zero C (G.slots i q) none) c.loop-position.invariant)
    ]
