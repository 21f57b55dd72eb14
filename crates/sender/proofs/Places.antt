-- Where packets lie among those of all blocks, and in which frames they come.
use Rattle.std.proofs.Common.{◌≡◌, ℕ, ◌+◌, ◌-◌, ◌*◌, ◌/◌, ◌%◌, ◌<◌, ◌≤◌, sym, ap, ap₂, ◌∙◌, mul_comm, mul-le-mul_right, add-mul, div-add-mod', arith}
use Rattle.std.proofs.lemmas.Nat.{div-mul-add, mod-mul-add}
use Rattle.layout.specs.declared.shape.Shape.{Shape}
use Rattle.sender.specs.Numbering.{EachOnce}

-- part p of group b, of groups of r parts each
pub place_lt : (b r p count : ℕ) → b < count → p < r → b * r + p < count * r
place_lt b r p count lb lp = let h : (b + 1) * r ≤ count * r = mul-le-mul_right r (omega arith) in omega (arith, h, add-mul b 1 r)

pub each_once : (s : Shape) → EachOnce s
each_once s b p lb lp =
    let B = s.blocks in
    let end : p * B + b < s.positions * B = place_lt p B b s.positions lp lb in
    record {
      frame = p * B + b + 1;
      numbered = (omega arith, omega (arith, end, mul_comm s.positions B));
      at = (ap (λ k. k % B) (omega arith) ∙ mod-mul-add p B b lb, ap (λ k. k / B) (omega arith) ∙ div-mul-add p B b lb);
      only = λ f one eb ep.
          let e : p * B + b ≡ f - 1 = sym (ap₂ ◌+◌ (ap (λ k. k * B) ep) eb) ∙ div-add-mod' (f - 1) B in
          omega arith;
    }
