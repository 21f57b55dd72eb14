use Rattle.std.proofs.Common.{◌≡◌, ℕ, suc, ◌+◌, ◌%◌, ◌^◌, ◌<◌, sym, refl, ap, ap₂, ◌∙◌, add-zero, mod-eq_of_lt, arith, rules}
use Rattle.galois.specs.Field.{FieldLaws, power}
use Rattle.galois.proofs.Powers.{two_lt, power_lt}
use Rattle.layout.specs.Sizes.{packet_of}
use Rattle.layout.specs.Blocks.{packet_in, code_of}
use Rattle.layout.proofs.Entries.{entry_read}
use Rattle.layout.proofs.Blocks.{packet_pos}
use Rattle.code.proofs.Chunks.{chunk_turn, chunks_done}
use Rattle.code.proofs.Held.{run_none, run_lost, run_held}
use Rattle.code.proofs.Stages.{laws_of}
use Rattle.code.proofs.code.Code.add_held.Goals as goal

pub loop-i-init : goal.loop-i-init
loop-i-init g c =
    let f = g.F.Arithmetic in
    let zero : c.into_iter-i-iterator.result.count ≡ 0 = search rules in
    record {
      turn = search rules;
      added = rw zero (run_none _ _ _ _ _ _);
      locator = rw (zero, add-zero c.args.start) (c.raise-x.ensures ∙ ap (λ a. power f.prod a c.args.start) (mod-eq_of_lt (two_lt g.met.F.Arithmetic.field)));
    }

-- the locator of the next position
next_locator : {m : ℕ} {prod : ℕ → ℕ → ℕ} {inv : ℕ → ℕ} → FieldLaws m prod inv → (start n x y : ℕ) → x ≡ power prod 2 (start + n)
    → y ≡ prod (2 % 2 ^ m) (x % 2 ^ m) → y ≡ power prod 2 (start + (n + 1))
unfolding power
next_locator {m} {prod} laws start n x y at is =
    let lt : x < 2 ^ m = rw at (power_lt laws 2 (start + n) (two_lt laws)) in
    let next : start + (n + 1) ≡ suc (start + n) = omega arith in
    is ∙ ap₂ prod (mod-eq_of_lt (two_lt laws)) (mod-eq_of_lt lt ∙ at) ∙ ap (power prod 2) (sym next)

pub loop-i-preserved : goal.loop-i-preserved
loop-i-preserved g c =
    let s = c.args.self.now.shape in
    let v = c.loop-i.invariant in
    let (step, number, counted, _) = c.in-Some.ensures.steps in
    let turn = chunk_turn (packet_pos s) c.requires.run v.turn _ _ step in
    rw counted record {
      turn = turn.next;
      added = run_lost (code_of s g.F.Arithmetic.prod) c.args.losses.now c.args.first c.args.start c.args.run.now c.args.sums.now _ c.loop-i.sums v.added
          (rw (sym number) (sym c.contains.ensures ∙ c.if-not-contains.false));
      locator = next_locator g.met.F.Arithmetic.field c.args.start _ _ _ v.locator c.product-x.ensures;
    }

pub add_packet-requires-clause-packet : goal.add_packet-requires-clause-packet
add_packet-requires-clause-packet g c =
    let v = c.loop-i.invariant in
    let (step, number, _, _) = c.in-Some.ensures.steps in
    (chunk_turn (packet_pos c.args.self.now.shape) c.requires.run v.turn _ _ step).long

pub add_packet-requires-clause-element : goal.add_packet-requires-clause-element
add_packet-requires-clause-element g c =
    let laws = g.met.F.Arithmetic.field in
    rw c.loop-i.invariant.locator (power_lt laws 2 _ (two_lt laws))

pub loop-i-preserved-then-not-contains : goal.loop-i-preserved-then-not-contains
loop-i-preserved-then-not-contains g c =
    let f = g.F.Arithmetic in
    let s = c.args.self.now.shape in
    let C = code_of s f.prod in
    let laws = laws_of s.rows f.bits f.prod f.inv c.args.self.now.width g.met.F.Arithmetic.field in
    let run = c.args.run.now in
    let n = c.loop-i.i-iterator.count in
    let v = c.loop-i.invariant in
    let p = packet_in s.words c.in-Some.packet.now in
    let (step, number, counted, _) = c.in-Some.ensures.steps in
    let turn = chunk_turn (packet_pos s) c.requires.run v.turn _ _ step in
    rw counted record {
      turn = turn.next;
      added = run_held C c.args.losses.now c.args.first c.args.start run c.args.sums.now n c.loop-i.sums v.added laws p c.loop-i.x c.add_packet.new.sums v.locator
          (rw (sym number) (sym c.contains.ensures ∙ c.if-not-contains.true))
          (λ i k h m. ap (λ z. packet_in s.words z i k) turn.is ∙ entry_read C n (packet_of s) run refl i k h m)
          c.add_packet.ensures;
      locator = next_locator g.met.F.Arithmetic.field c.args.start _ _ _ v.locator c.product-x.ensures;
    }

pub returns : goal.returns
returns g c =
    let v = c.loop-i.invariant in
    let (step, _) = c.in-None.ensures.steps in
    rw (chunks_done (packet_pos c.args.self.now.shape) c.requires.run v.turn step.1.0) at v.added
