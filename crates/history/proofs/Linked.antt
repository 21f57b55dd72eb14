-- How a ledger and a receiver belong together: accepted packets are in their slots, a block that is not whole holds no others, and a
-- whole block is full and holds the only codeword that agrees.
use Rattle.std.proofs.Common.{◌≡◌, ℕ, ◌<◌, Bool, true, false, List, [], is_some, Some, None, Option, sym, refl, ap, ◌∙◌, subst, inl, inr, one-mul}
use Rattle.std.specs.Bool.{MatchBool}
use Rattle.std.proofs.lemmas.Bool.{cases_Bool, true≢false, false≢true, MatchBool-at_true, MatchBool-at_false}
use Rattle.std.proofs.lemmas.Option.{none-some}
use Rattle.algebra.specs.Code.{Block, Codeword, SameBlock, count}
use Rattle.algebra.proofs.Marks.{count_ext}
use Rattle.layout.specs.declared.shape.Dimensions.{Dimensions}
use Rattle.layout.specs.declared.shape.Shape.{Shape}
use Rattle.layout.specs.Made.{dimensions_of}
use Rattle.layout.specs.Blocks.{code_of, packet_in}
use Rattle.store.specs.Grids.{Grid, packet_or}
use Rattle.receiver.specs.Meaning.{Meaning}
use Rattle.receiver.specs.Sound.{Fitted}
use Rattle.receiver.specs.Calls.{held_in}
use Rattle.code.specs.Codewords.{One}
use Rattle.receiver.specs.Blocks.{block_of, Agrees as GridAgrees}
use Rattle.history.specs.Ledger.{Ledger, opened, Accepted, any_accepted, has}
use Rattle.history.specs.Boards.{Board}
use Rattle.history.specs.Law.{Agrees, held, IsThere}
use Rattle.history.proofs.Ledgers.{accepted_any, any_is_accepted, has_whole, has_accepted}
use Rattle.history.proofs.Shapes.{same_packets}
use Rattle.code.proofs.Agreeing.{Moves}

-- the dimensions of the shape that is set
abbrev pub present : Option Shape → Option Dimensions
present None = None
present (Some s) = Some (dimensions_of s)

module _ (P : Board) where
  pub record Full (s : Shape) (l : Ledger) (g : Grid) (i : ℕ) : Type 0 where
    pub inside : i < s.blocks
    pub filled : (j : ℕ) → j < s.positions → (ws : List ℕ) × (g.slots i j ≡ Some ws)
    pub codeword : Codeword (code_of s P.product) (block_of (code_of s P.product) g i)
    pub only : (c : Block) → Codeword (code_of s P.product) c → Agrees P l s i c → SameBlock (code_of s P.product) c (block_of (code_of s P.product) g i)

  pub record Kept (s : Shape) (l : Ledger) (g : Grid) : Type 0 where
    pub held : (i j : ℕ) (ws : List ℕ) → Accepted l i j ws → (g.slots i j ≡ Some ws) × (i < s.blocks) × (j < s.positions)
    pub found : (i j : ℕ) (ws : List ℕ) → l.whole i ≡ false → g.slots i j ≡ Some ws → Accepted l i j ws
    pub full : (i : ℕ) → l.whole i ≡ true → Full s l g i

  pub record Linked (l : Ledger) (m : Meaning) : Type 0 where
    pub capacity_is : m.capacity ≡ P.capacity
    pub shape_is : l.shape ≡ present m.shape
    pub blank : m.shape ≡ None → ((i : ℕ) → l.whole i ≡ false) × (l.accepted ≡ [])
    pub kept : (s : Shape) → m.shape ≡ Some s → Kept s l m.grid

  -- an unused receiver, whatever its store holds
  pub linked_blank : (m : Meaning) → m.shape ≡ None → m.capacity ≡ P.capacity → Linked (opened None) m
  linked_blank m e capacity = record { capacity_is = capacity; shape_is = sym (ap present e); blank = λ _. ((λ i. refl), refl); kept = λ s f. absurd (none-some s (sym e ∙ f)) }

  -- what holds with no shape, and of a shape that is set, holds of the ledger
  pub by_shape : (l : Ledger) (m : Meaning) (Q : Option Dimensions → Type 0) → Linked l m → (m.shape ≡ None → Q None)
      → ((s : Shape) → m.shape ≡ Some s → Q (Some (dimensions_of s))) → Q l.shape
  by_shape l m Q L without within = subst Q (sym L.shape_is) (from m.shape refl)
    where
      from : (o : Option Shape) → m.shape ≡ o → Q (present o)
      from None e = without e
      from (Some s) e = within s e

-- a slot that is filled, and one that is not
some_from : (o : Option (List ℕ)) → is_some o ≡ true → (ws : List ℕ) × (o ≡ Some ws)
some_from (Some ws) e = (ws, refl)
some_from None e = absurd (false≢true e)

pub none_from : (o : Option (List ℕ)) → is_some o ≡ false → o ≡ None
none_from None e = refl
none_from (Some ws) e = absurd (true≢false e)

-- a fact for each value of a test
pub match_from : (b : Bool) (P Q : Type 0) → (b ≡ true → P) → (b ≡ false → Q) → MatchBool b P Q
match_from true P Q at_true at_false = at_true refl
match_from false P Q at_true at_false = at_false refl

-- What the ledger tells of a block is what its slots hold.
module _ (P : Board) (s : Shape) (l : Ledger) (g : Grid) (K : Kept P s l g) (i : ℕ) where
  -- codewords that agree with the one are those that agree with the other
  pub to_slots : Moves s P.product (Agrees P l s i) P.product (GridAgrees (code_of s P.product) g i)
  to_slots c w a = (
    w,
    λ q ws lt e. elim (cases_Bool (l.whole i)) [
      | inl t ↦ λ r p lr lp. (K.full i t).only c w a q lt r p lr lp ∙ ap (λ o. packet_in s.words (packet_or o []) r p) e
      | inr f ↦ a q ws (K.found i q ws f e)
    ],
  )

  pub to_ledger : Moves s P.product (GridAgrees (code_of s P.product) g i) P.product (Agrees P l s i)
  to_ledger c w a = (w, λ j ws h. let k = K.held i j ws h in a j ws k.2 k.0)

  -- of any blocks, while the block is not whole
  pub agree_slots : l.whole i ≡ false → (c : Block) → Agrees P l s i c → GridAgrees (code_of s P.product) g i c
  agree_slots w c a q ws lt e = a q ws (K.found i q ws w e)

  pub agree_ledger : (c : Block) → GridAgrees (code_of s P.product) g i c → Agrees P l s i c
  agree_ledger c a j ws h = let k = K.held i j ws h in a j ws k.2 k.0

  -- the codeword of a whole block
  abbrev pub one_whole : l.whole i ≡ true → One (code_of s P.product) (Agrees P l s i)
  one_whole t = let F = K.full i t in record {
    it = block_of (code_of s P.product) g i;
    codeword = F.codeword;
    agrees = λ j ws h r p lr lp. let k = K.held i j ws h in ap (λ o. packet_in s.words (packet_or o []) r p) k.0;
    only = F.only;
  }

  -- a slot is filled where the block has a packet
  pub has_slot : (j : ℕ) → j < s.positions → held_in g i j ≡ has l i j
  has_slot j lt = elim (cases_Bool (l.whole i)) [
    | inl t ↦ ap is_some ((K.full i t).filled j lt).1 ∙ sym (has_whole l i j t)
    | inr f ↦ by_slot f ∙ sym (has_accepted l i j f)
  ]
    where
      by_slot : l.whole i ≡ false → held_in g i j ≡ any_accepted l i j
      by_slot f = elim (cases_Bool (held_in g i j)) [
        | inl t ↦ let o = some_from (g.slots i j) t in t ∙ sym (accepted_any l i j o.0 (K.found i j o.0 f o.1))
        | inr n ↦ elim (cases_Bool (any_accepted l i j)) [
          | inl t ↦ let a = any_is_accepted l i j t in absurd (true≢false (sym (ap is_some (K.held i j a.0 a.1).0) ∙ n))
          | inr x ↦ n ∙ sym x
        ]
      ]

  pub slot_from : (j : ℕ) → j < s.positions → has l i j ≡ true → (ws : List ℕ) × (g.slots i j ≡ Some ws)
  slot_from j lt e = some_from (g.slots i j) (has_slot j lt ∙ e)

  pub no_slot : (j : ℕ) → j < s.positions → has l i j ≡ false → g.slots i j ≡ None
  no_slot j lt e = none_from (g.slots i j) (has_slot j lt ∙ e)

  pub count_held : count (held_in g i) s.positions ≡ held P l s i
  count_held = count_ext (held_in g i) (has l i) s.positions has_slot

  module _ (F : Fitted s g) (j : ℕ) (lt : j < s.positions) (ws : List ℕ) where
    -- what its slot holds is what is there, and nothing else is
    pub slot_there : g.slots i j ≡ Some ws → IsThere P l s i j ws
    slot_there e =
        match_from (l.whole i) _ _
        (λ t. ((F.packets i j ws e).long ∙ sym (one-mul _), one_whole t, λ r p _ _. ap (λ o. packet_in s.words (packet_or o []) r p) e))
        (λ f. K.found i j ws f e)

    pub there_slot : IsThere P l s i j ws → g.slots i j ≡ Some ws
    there_slot h = elim (cases_Bool (l.whole i)) [
      | inl t ↦
          let slot = (K.full i t).filled j lt in
          let u = MatchBool-at_true _ _ t h in
          let here = (K.full i t).only u.1.it u.1.codeword u.1.agrees j lt in
          slot.1
          ∙ ap Some (same_packets s slot.0 ws (F.packets i j slot.0 slot.1).long (u.0 ∙ one-mul _)
          (λ r p lr lp. ap (λ o. packet_in s.words (packet_or o []) r p) (sym slot.1) ∙ sym (here r p lr lp) ∙ u.2 r p lr lp))
      | inr f ↦ (K.held i j ws (MatchBool-at_false _ _ f h)).0
    ]
