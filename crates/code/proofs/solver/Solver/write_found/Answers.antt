use Rattle.std.proofs.Common.{◌≡◌, [], ◌∷◌, length, sym, refl, ap, ◌∙◌, inl, inr, arith, length-append}
use Rattle.layout.specs.Sizes.{packet_of}
use Rattle.layout.specs.Blocks.{block_at, packet_in, code_of}
use Rattle.layout.proofs.Blocks.{packet_pos}
use Rattle.layout.proofs.Entries.{entry_read}
use Rattle.code.proofs.Chunks.{lost_turn, lost_done}
use Rattle.code.proofs.Writes.{written_more}
use Rattle.code.proofs.solver.Solver.write_found.Goals as goal

pub write_packet-requires : goal.write_packet-requires
write_packet-requires g c =
    let s = c.args.self.now.code.now.shape in
    let C = code_of s g.F.Arithmetic.prod in
    let n = length c.loop-at.yielded in
    let v = c.loop-at.invariant in
    let p = c.positions.ensures in
    let (item, step) = c.in-Some.ensures.steps in
    let turn = lost_turn (packet_pos s) c.requires.work v.turn _ p.value p.len p.at _ _ _ _ _ item step in
    record {
      block = c.loop-at.auto.block ∙ c.requires.block;
      position = let at = turn.at in let h = c.args.self.now.below n turn.listed in omega arith;
      packet = turn.packet.long;
    }

pub loop-at-preserved : goal.loop-at-preserved
loop-at-preserved g c =
    let s = c.args.self.now.code.now.shape in
    let C = code_of s g.F.Arithmetic.prod in
    let l = c.args.self.now.losses.now in
    let n = length c.loop-at.yielded in
    let v = c.loop-at.invariant in
    let p = c.positions.ensures in
    let (item, step) = c.in-Some.ensures.steps in
    let turn = lost_turn (packet_pos s) c.requires.work v.turn _ p.value p.len p.at _ _ _ _ _ item step in
    rw (length-append c.loop-at.yielded ((c.in-Some.at, c.in-Some.packet) ∷ [])) record {
      turn = turn.next;
      written = written_more C l c.args.work.now _ n c.loop-at.block _ turn.listed
          (λ i k h m. ap (λ q. block_at C c.write_packet.new.block q i k) (sym turn.at) ∙ c.write_packet.ensures.at i k h m
          ∙ ap (λ r. packet_in s.words r i k) turn.packet.is ∙ entry_read C n (packet_of s) c.args.work.now refl i k h m)
          (λ q i k ne h m. c.write_packet.ensures.off q (λ z. ne (z ∙ turn.at)) i k h m) v.written;
    }

pub returns : goal.returns
returns g c =
    let s = c.args.self.now.code.now.shape in
    let C = code_of s g.F.Arithmetic.prod in
    let l = c.args.self.now.losses.now in
    let v = c.loop-at.invariant in
    let p = c.positions.ensures in
    let done = lost_done (packet_pos s) c.requires.work v.turn _ p.value p.len (let k = c.args.self.now.solvable.few in omega arith) in
    let all : length c.loop-at.yielded ≡ l.len = elim c.in-None.ensures.steps [ inl a ↦ done (inl a.1.0) | inr b ↦ done (inr b.1.1.0) ] in
    rw all at v.written
