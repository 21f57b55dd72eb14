-- The ledger of a transcript: what somebody writes down who sees the calls and their answers and nothing else.
use Rattle.std.specs.Prelude.{ℕ, Bool, false, ◌&&◌, ◌||◌, List, [], ◌∷◌, Some, None, Option, ◌==◌}
use Rattle.std.specs.List.{list_any, Contains}
use Rattle.layout.specs.declared.shape.Dimensions.{Dimensions}
use Rattle.frame.specs.Frames.{Sight, shape, packet, parse}
use Rattle.history.specs.declared.call.Call.{Call}
use Rattle.history.specs.declared.call.Call.TheVariants.{Take, Repair}
use Rattle.history.specs.declared.call.Answer.{Answer}
use Rattle.history.specs.declared.call.Answer.TheVariants.{Shaped, Fresh, Known, Whole}
use Rattle.history.specs.Turns.{Turn}

-- a packet that was accepted for a block at a position: its frame was answered fresh or known
pub record Acceptance : Type 0 where
  pub block : ℕ
  pub position : ℕ
  pub payload : List ℕ

-- the present shape, the packets accepted under it, and which blocks a repair has called whole
pub record Ledger : Type 0 where
  pub shape : Option Dimensions
  pub accepted : List Acceptance
  pub whole : ℕ → Bool

-- a ledger with nothing but its shape
abbrev pub opened : Option Dimensions → Ledger
opened o = record { shape = o; accepted = []; whole = λ i. false }

abbrev pub acceptance : ℕ → ℕ → List ℕ → Acceptance
acceptance i j ws = record { block = i; position = j; payload = ws }

-- one packet more is accepted; one block more is whole
abbrev pub accepting : Ledger → Acceptance → Ledger
accepting l a = record l { accepted = a ∷ l.accepted }

abbrev pub completing : Ledger → ℕ → Ledger
completing l i = record l { whole = λ a. a == i || l.whole a }

-- What is entered: a shape that is answered shaped, which wipes the ledger; a packet that is answered fresh or known; a whole block. Every
-- other call leaves the ledger, and so does a shape that is answered known.

abbrev pub after_frame : Ledger → Sight → Answer → Ledger
after_frame l (shape d) Shaped = opened (Some d)
after_frame l (shape d) Known = l
after_frame l (packet i j ws) Fresh = accepting l (acceptance i j ws)
after_frame l (packet i j ws) Known = accepting l (acceptance i j ws)
after_frame l frame answer = l

abbrev pub after_call : Ledger → Call → List ℕ → Answer → Ledger
after_call l Take run answer = after_frame l (parse run) answer
after_call l (Repair i) run (Whole n) = completing l i
after_call l call run answer = l

-- the ledger after some turns more
unfoldable pub continued : Ledger → List Turn → Ledger
continued l [] = l
continued l (t ∷ ts) = continued (after_call l t.call t.before t.answer) ts

-- and after some turns in all
abbrev pub ledger : List Turn → Ledger
ledger ts = continued (opened None) ts

-- What is read from it

abbrev pub Accepted : Ledger → ℕ → ℕ → List ℕ → Type 0
Accepted l i j ws = Contains l.accepted (acceptance i j ws)

-- whether some packet was accepted for block i at position j
abbrev pub any_accepted : Ledger → ℕ → ℕ → Bool
any_accepted l i j = list_any (λ (a : Acceptance). a.block == i && a.position == j) l.accepted

-- whether block i has a packet at position j: it has one everywhere once it is whole
abbrev pub has : Ledger → ℕ → ℕ → Bool
has l i j = l.whole i || any_accepted l i j
