-- The packets that a block holds, read from its slots.
use Rattle.std.proofs.Common.{◌≡◌, ℕ, true, false, List, [], is_some, Some, None, Option, refl, ap, arith}
use Rattle.algebra.specs.Code.{SamePacket, ZeroPacket, Code}
use Rattle.layout.specs.Blocks.{packet_in}
use Rattle.store.specs.Grids.{packet_or}

-- what a filled slot holds does not depend on what stands in for an empty one
pub packet_or_lem : (o : Option (List ℕ)) (a b : List ℕ) → true ≡ is_some o → packet_or o a ≡ packet_or o b
packet_or_lem (Some ws) a b e = refl
packet_or_lem None a b e = absurd (let z : ◌≡◌ {A = ℕ} 0 1 = cc in omega arith)

module _ (C : Code) where
  -- slots that hold the same read the same
  pub same_read : (o v : Option (List ℕ)) → o ≡ v → SamePacket C (packet_in C.words (packet_or o [])) (packet_in C.words (packet_or v []))
  same_read o v e j c _ _ = ap (λ u. packet_in C.words (packet_or u []) j c) e

  -- an empty slot reads as zero
  pub empty_zero : (o : Option (List ℕ)) → false ≡ is_some o → ZeroPacket C (packet_in C.words (packet_or o []))
  empty_zero None e = same_read None None refl
  empty_zero (Some ws) e = absurd (let z : ◌≡◌ {A = ℕ} 0 1 = cc in omega arith)
