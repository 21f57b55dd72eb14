-- One, several or no codeword, moved from blocks that agree with one thing to blocks that agree with another, and between equal products.
use Rattle.std.proofs.Common.{ℕ}
use Rattle.algebra.specs.Code.{Block, Codeword}
use Rattle.layout.specs.declared.shape.Shape.{Shape}
use Rattle.layout.specs.Blocks.{code_of}
use Rattle.code.specs.Codewords.{One, Several, NoCodeword, Contradiction}

-- codewords of p that agree with A are codewords of q that agree with B
abbrev pub Moves : Shape → (ℕ → ℕ → ℕ) → (Block → Type 0) → (ℕ → ℕ → ℕ) → (Block → Type 0) → Type 0
Moves s p A q B = (c : Block) → Codeword (code_of s p) c → A c → Codeword (code_of s q) c × B c

module _ (s : Shape) (p q : ℕ → ℕ → ℕ) (A B : Block → Type 0) (there : Moves s p A q B) (back : Moves s q B p A) where
  abbrev pub one_moved : One (code_of s p) A → One (code_of s q) B
  one_moved o = let t = there o.it o.codeword o.agrees in record {
    it = o.it;
    codeword = t.0;
    agrees = t.1;
    only = λ c w b. let u = back c w b in o.only c u.0 u.1;
  }

  pub several_moved : Several (code_of s p) A → Several (code_of s q) B
  several_moved v =
      let one = there v.one v.codeword_one v.agrees_one in
      let other = there v.other v.codeword_other v.agrees_other in
      record {
        one = v.one;
        other = v.other;
        codeword_one = one.0;
        codeword_other = other.0;
        agrees_one = one.1;
        agrees_other = other.1;
        differ = v.differ;
      }

  pub none_moved : NoCodeword (code_of s p) A → NoCodeword (code_of s q) B
  none_moved n c w b = let u = back c w b in n c u.0 u.1

-- a contradiction, to blocks that agree with the same
pub contradiction_moved : (s : Shape) (p : ℕ → ℕ → ℕ) (A B : Block → Type 0) → ((c : Block) → A c → B c) → ((c : Block) → B c → A c) → (n sum word : ℕ)
    → Contradiction (code_of s p) A n sum word → Contradiction (code_of s p) B n sum word
contradiction_moved s p A B there back n sum word x = record {
  none = λ c w b. x.none c w (back c b);
  d = x.d;
  solved = record { agrees = there x.d x.solved.agrees; zero = x.solved.zero; only = λ c b z. x.solved.only c (back c b) z };
  sum_lt = x.sum_lt;
  word_lt = x.word_lt;
  lower = x.lower;
  before = x.before;
  here = x.here;
}
