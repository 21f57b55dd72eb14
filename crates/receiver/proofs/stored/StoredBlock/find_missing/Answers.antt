use Rattle.std.proofs.Common.{◌≡◌, ◌*◌, length, refl, ◌∙◌, ap₂, arith, add-mul}
use Rattle.layout.specs.Sizes.{parity_of, packet_of, Packets}
use Rattle.layout.proofs.Blocks.{packet_pos}
use Rattle.code.specs.Values.{code}
use Rattle.code.proofs.Passes.{rebuild_passes}
use Rattle.code.proofs.Losing.{found_rebuilt, found_joined}
use Rattle.receiver.specs.Blocks.{block_of, Missing}
use Rattle.receiver.specs.Steps.{Lacks}
use Rattle.receiver.proofs.Completing.{missing_gone}
use Rattle.receiver.proofs.stored.StoredBlock.find_missing.Goals as goal

pub returns : goal.returns
returns g c =
    let f = g.F.Arithmetic in
    let v = c.args.self.now in
    let s = c.args.codec.now.shape in
    let C = code c.args.codec.now in
    let l = c.args.losses.now in
    let G = g.S.SlotStore.grid v.store.now in
    let b = block_of C G v.block in
    let M : Missing s G v.block l = rw c.requires.codec c.requires.missing in
    let A : Lacks s G v.block l = rw c.requires.codec (record { fitted = v.fitted; inside = v.inside; missing = c.requires.missing }) in
    let S = c.absorb_held.new.sums in
    let scratch = c.absorb_held.new.scratch in
    let front : Packets v.shape (parity_of v.shape) S = (c.absorb_held.auto.sums ∙ c.split_at_mut-sums.ensures.front_len ∙ ap₂ ◌*◌ c.parity.ensures c.packet.ensures.value) in
    let size : Packets s (parity_of s) S = rw c.requires.codec front in
    let back : length scratch ≡ packet_of v.shape = (c.absorb_held.auto.scratch ∙ (let b = c.split_at_mut-sums.ensures.back_len in let k = c.clear.auto.run in omega (arith, add-mul (parity_of v.shape) 1 (packet_of v.shape), c.requires.work, k, b, c.parity.ensures, c.packet.ensures.value))) in
    let long : length scratch ≡ packet_of s = rw c.requires.codec back in
    found_joined C l M.few b c.rebuild.new.sums c.rebuild.new.scratch (c.rebuild.auto.sums ∙ size) c.rebuild.result
    (found_rebuilt C l M.below M.few b b (λ q _ _ j k _ _. refl) (missing_gone s f.prod l G v.block A) S c.in_ok-absorb_held.ensures (packet_pos s) _
    (rebuild_passes s S size l scratch M.below M.few long) c.rebuild.new.sums c.rebuild.result c.rebuild.ensures.rebuilt c.rebuild.ensures.answer)
