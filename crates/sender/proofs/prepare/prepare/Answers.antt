use Rattle.std.proofs.Common.{◌≡◌, ◌*◌, [], ◌∷◌, length, sym, ap, ◌∙◌, rules, arith, length-append}
use Rattle.layout.specs.Sizes.{packet_of}
use Rattle.layout.proofs.Parts.{part_length}
use Rattle.layout.proofs.Passes.{passed}
use Rattle.code.proofs.Chunks.{chunks_done}
use Rattle.sender.proofs.Parts.{runs_pass, parts_long, block_turn, encodes, prepared_more, sources_pos}
use Rattle.sender.proofs.prepare.prepare.Goals as goal

pub slice_bounds-encode-end : goal.slice_bounds-encode-end
slice_bounds-encode-end g c =
    let s = c.args.shape.now in
    let v = c.loop-block.invariant in
    let (step, number, _, _) = c.in-Some.ensures.steps in
    let (image, parity) = runs_pass s _ _ c.in_ok-check_runs.ensures in
    let of = c.words-part.ensures.value ∙ ap (λ r. r * packet_of s) c.parity.ensures in
    let turn = block_turn s c.args.image.now c.loop-block.parity (length c.loop-block.yielded) _ _ _ _ _ _ image (c.loop-block.auto.parity ∙ parity) of v.chunks step in
    let here = number ∙ v.count in
    let end = rw (sym here) at turn.end in
    search rules

pub loop-block-preserved : goal.loop-block-preserved
loop-block-preserved g c =
    let s = c.args.shape.now in
    let n = length c.loop-block.yielded in
    let v = c.loop-block.invariant in
    let (step, number, counted, _) = c.in-Some.ensures.steps in
    let (image, parity) = runs_pass s _ _ c.in_ok-check_runs.ensures in
    let of = c.words-part.ensures.value ∙ ap (λ r. r * packet_of s) c.parity.ensures in
    let turn = block_turn s c.args.image.now c.loop-block.parity n _ _ _ _ _ _ image (c.loop-block.auto.parity ∙ parity) of v.chunks step in
    let here : n ≡ c.in-Some.block = sym (number ∙ v.count) in
    let end = rw here at turn.end in
    rw (length-append c.loop-block.yielded ((c.in-Some.block, c.in-Some.source) ∷ [])) record {
      count = let k = v.count in omega arith;
      chunks = turn.source.next;
      prepared = rw here (prepared_more s g.F.Arithmetic.prod c.args.image.now c.in-Some.block _ _ c.loop-block.parity c.encode.new.parity of (omega arith) end
          (c.encode.auto.parity ∙ part_length c.loop-block.parity c.in-Some.block c.words-part.result end)
          (rw (turn.source.is, here, c.in_ok-code.ensures.shape) at c.in_ok-encode.ensures.filled) (rw here at v.prepared));
    }

pub returns-in_err-encode : goal.returns-in_err-encode
returns-in_err-encode g c =
    let s = c.args.shape.now in
    let v = c.loop-block.invariant in
    let (step, number, _, _) = c.in-Some.ensures.steps in
    let (image, parity) = runs_pass s _ _ c.in_ok-check_runs.ensures in
    let of = c.words-part.ensures.value ∙ ap (λ r. r * packet_of s) c.parity.ensures in
    let turn = block_turn s c.args.image.now c.loop-block.parity (length c.loop-block.yielded) _ _ _ _ _ _ image (c.loop-block.auto.parity ∙ parity) of v.chunks step in
    passed _ _ (rw (sym (number ∙ v.count)) at (encodes s _ _ _ _ _ _ _ of turn)) (rw c.in_ok-code.ensures.shape at c.in_err-encode.ensures.answer)

pub returns-clause-parity : goal.returns-clause-parity
returns-clause-parity g c =
    let s = c.args.shape.now in
    let v = c.loop-block.invariant in
    let (step, _) = c.in-None.ensures.steps in
    let (image, parity) = runs_pass s _ _ c.in_ok-check_runs.ensures in
    let all : length c.loop-block.yielded ≡ s.blocks = chunks_done (sources_pos s) (parts_long s s.sources c.args.image.now image) v.chunks step.1.0 in
    (c.loop-block.auto.parity ∙ parity, rw all at v.prepared)
