use Rattle.std.proofs.Common.{◌≡◌, ◌+◌, arith}
use Rattle.layout.specs.Blocks.{code_of}
use Rattle.layout.proofs.Blocks.{packet_pos}
use Rattle.code.proofs.Chunks.{chunk_turn, chunks_done}
use Rattle.code.proofs.Nonzero.{rest_long, zeros_more, first_at}
use Rattle.code.proofs.code.Code.first_nonzero.Goals as goal

pub found-preserved : goal.found-preserved
found-preserved g c =
    let s = c.args.self.now.shape in
    let C = code_of s g.F.Arithmetic.prod in
    let size = c.packet-p.ensures.value in
    let v = c.found.invariant in
    let (step, number, counted, _) = c.in-Some.ensures.steps in
    let turn = chunk_turn (packet_pos s) (rest_long C _ _ _ size c.requires.sums c.requires.first) v.turn _ _ step in
    rw counted record {
      turn = turn.next;
      zeros = zeros_more C _ _ _ size c.requires.sums c.requires.first turn (λ k h. c.loop-word.invariant.zeros k (omega arith)) v.zeros;
      none = c.loop-word.invariant.none;
    }

pub returns-in-None : goal.returns-in-None
returns-in-None g c =
    let s = c.args.self.now.shape in
    let C = code_of s g.F.Arithmetic.prod in
    let v = c.found.invariant in
    let (step, _) = c.in-None.ensures.steps in
    let all = chunks_done (packet_pos s) (rest_long C _ _ _ c.packet-p.ensures.value c.requires.sums c.requires.first) v.turn step.1.0 in
    let end : c.args.first + c.found.i-iterator.count ≡ C.parity = let le = c.requires.first in omega arith in
    rw v.none (rw end at v.zeros)

pub returns-then-value-ne0 : goal.returns-then-value-ne0
returns-then-value-ne0 g c =
    let s = c.args.self.now.shape in
    let C = code_of s g.F.Arithmetic.prod in
    let size = c.packet-p.ensures.value in
    let v = c.found.invariant in
    let (step, number, _, _) = c.in-Some.ensures.steps in
    let turn = chunk_turn (packet_pos s) (rest_long C _ _ _ size c.requires.sums c.requires.first) v.turn _ _ step in
    rw number (first_at C _ _ _ size c.requires.sums c.requires.first turn c.loop-word.word (omega arith) c.loop-word.invariant.zeros c.if-value-ne0.true v.zeros)
