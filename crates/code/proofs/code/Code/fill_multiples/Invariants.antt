use Rattle.std.proofs.Common.{ℕ, ◌^◌, ◌<◌, ◌≤◌}
use Rattle.algebra.specs.Code.{Packet, SamePacket, ZeroPacket, scaled}
use Rattle.layout.specs.Blocks.{block_at}
use Rattle.code.specs.Subsets.{TableOf}
use Rattle.code.specs.Values.{code}
use Rattle.code.proofs.code.Code.fill_multiples.Given as goal

abbrev pub invariant-loop-j : goal.invariant-loop-j
invariant-loop-j g l = record {
  made : (q : Packet) → TableOf (code l.self) q l.table → (j : ℕ) → j < l.j → SamePacket (code l.self) (block_at (code l.self) l.multiples j) (scaled (code l.self) (2 ^ j) q);
  left : (j : ℕ) → l.j ≤ j → ZeroPacket (code l.self) (block_at (code l.self) l.multiples j);
}
