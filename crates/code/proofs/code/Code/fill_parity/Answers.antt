use Rattle.std.proofs.Math.Facts.{Fits-lt-pow}
use Rattle.std.proofs.Common.{◌≡◌, ◌+◌, ◌∙◌, arith}
use Rattle.layout.specs.Blocks.{code_of}
use Rattle.layout.proofs.Blocks.{packet_pos, packets_are}
use Rattle.layout.proofs.Passes.{passed, losses_ok}
use Rattle.code.specs.Held.{Summed}
use Rattle.code.specs.Rebuilt.{Solved}
use Rattle.code.proofs.Encodes.{source_sums, filled}
use Rattle.code.proofs.code.Code.fill_parity.Goals as goal

pub returns-in_err-solver : goal.returns-in_err-solver
returns-in_err-solver g c =
    let s = c.args.self.now.shape in
    let l = c.parity-losses.result in
    passed _ _ (losses_ok s l (λ k h. let a = c.parity-losses.ensures.at k h in let e = c.parity-losses.ensures.len in let b = s.counts in omega arith) (let e = c.parity-losses.ensures.len in omega arith)) c.in_err-solver.ensures.answer

pub absorb_held-requires-clause-run : goal.absorb_held-requires-clause-run
absorb_held-requires-clause-run g c =
    let s = c.args.self.now.shape in
    rw (c.in_ok-solver.ensures.code, packets_are s s.sources c.args.source.now c.requires.source) c.requires.source

pub absorb_held-requires-clause-end : goal.absorb_held-requires-clause-end
absorb_held-requires-clause-end g c =
    let s = c.args.self.now.shape in
    rw (c.in_ok-solver.ensures.code, packets_are s s.sources c.args.source.now c.requires.source, c.parity.ensures) (let k = s.counts in omega arith)

pub returns : goal.returns
returns g c =
    let s = c.args.self.now.shape in
    let C = code_of s g.F.Arithmetic.prod in
    let all : C.parity + s.sources ≡ C.positions = let k = s.counts in omega arith in
    let l = c.parity-losses.result in
    let few = c.parity-losses.ensures.len in
    let ids = c.parity-losses.ensures.at in
    let source = c.args.source.now in
    let of = c.in_ok-solver.ensures in
    let S = c.absorb_held.new.sums in
    let V = c.find.new.sums in
    let summed : Summed C l C.parity s.sources source c.clear.new.run S = rw (of.code, of.losses, c.parity.ensures, packets_are s s.sources source c.requires.source) at c.absorb_held.ensures in
    let solved : Solved C l S V c.find.result = rw (of.code, of.losses) at c.find.ensures in
    filled C (packet_pos s) l few ids s.sources all source c.requires.source S V (source_sums C (packet_pos s) l few ids s.sources all source c.requires.source c.clear.new.run S c.clear.ensures summed)
    (c.find.auto.sums ∙ c.absorb_held.auto.sums ∙ c.clear.auto.run ∙ c.requires.parity) (λ k. Fits-lt-pow (c.type_inv.parity k)) (λ k. Fits-lt-pow (c.type_inv.source k)) c.find.result solved
