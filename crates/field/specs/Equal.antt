-- When two arithmetics calculate alike.
use Rattle.std.specs.Prelude.{◌≡◌, ℕ, ◌%◌, ◌^◌, ◌<◌}
use Rattle.field.specs.declared.Arithmetic

-- the widths are equal, and the products of all elements
pub record EqualProducts (bits : ℕ) (prod : ℕ → ℕ → ℕ) (bits' : ℕ) (prod' : ℕ → ℕ → ℕ) : Type 0 where
  pub width : bits ≡ bits'
  pub products : (a b : ℕ) → a < 2 ^ bits → b < 2 ^ bits → prod a b ≡ prod' a b

abbrev pub EqualArithmetics : {F G : Type 0} → Arithmetic.Ghosts F → Arithmetic.Ghosts G → Type 0
EqualArithmetics f g = EqualProducts f.bits f.prod g.bits g.prod

-- the product of the elements that two words stand for
abbrev pub product_read : {F : Type 0} → Arithmetic.Ghosts F → ℕ → ℕ → ℕ
product_read f a b = f.prod (a % 2 ^ f.bits) (b % 2 ^ f.bits)

-- the widths are equal, and the products of two words
abbrev pub EqualAt : {F G : Type 0} → Arithmetic.Ghosts F → Arithmetic.Ghosts G → ℕ → ℕ → Type 0
EqualAt f g a b = (f.bits ≡ g.bits) × (product_read f a b ≡ product_read g a b)
