-- What any string of calls shows. Every call is answered as the ledger of the calls before it says; a block that is called whole is the one
-- codeword that agrees with what was accepted for it. Two boards with equal products recover the same codeword from enough of its packets; if the
-- capacities of their stores are equal too, they answer the same calls alike, word by word.
-- P and Q are boards, l is a ledger, s a shape, i a block, j a position, t a turn, c a codeword. Refusals have the numbers of docs/RULES.md.
use Rattle.std.specs.Prelude.{◌≡◌, ℕ, ◌+◌, ◌-◌, ◌*◌, ◌<◌, ◌≤◌, true, false, ◌⊎◌, ◌↔◌, List, ◌∷◌, ◌++◌, length, Some, None, Option, ◌≢◌, MatchBool}
use Rattle.std.specs.List.{AllByRecursion}
use Rattle.refusal.specs.declared.Refusal.TheVariants.{BadFrame, NoShape, OtherPacket, SlotEmpty}
use Rattle.refusal.specs.Numbers.{said, or_else}
use Rattle.algebra.specs.Code.{Block, Codeword, SamePacket, count}
use Rattle.layout.specs.declared.shape.Dimensions.{Dimensions}
use Rattle.layout.specs.declared.shape.Shape.{Shape}
use Rattle.layout.specs.Sizes.{parity_of, Packets}
use Rattle.layout.specs.Made.{dimensions_of, shape_refusal}
use Rattle.layout.specs.Checks.{run_refusal}
use Rattle.layout.specs.Blocks.{code_of, packet_in, ZeroRun}
use Rattle.frame.specs.Frames.{Sight, shape, packet, refused, parse}
use Rattle.store.specs.Grids.{format_refusal}
use Rattle.receiver.specs.Calls.{block_refusal, place_refusal, length_refusal}
use Rattle.code.specs.Codewords.{One, Several, NoCodeword, Contradiction}
use Rattle.history.specs.declared.call.Call.{Call}
use Rattle.history.specs.declared.call.Call.TheVariants.{Take, Repair, Fetch, Count}
use Rattle.history.specs.declared.call.Answer.TheVariants.{Shaped, Fresh, Known, Fetched, Held}
use Rattle.history.specs.Turns.{Turn, asked, refusal_in, SaysWhole, SaysTooFew, SaysContradictory, Answers, Refuses, Checked}
use Rattle.history.specs.Ledger.{Ledger, ledger, Accepted, any_accepted, has}
use Rattle.history.specs.Boards.{Board, SameProduct}

-- EACH CALL

-- refusal 10 while no shape is set; else the shape has the arithmetic's width, and a law holds of it
abbrev pub InShape : Board → Turn → Option Dimensions → (Shape → Type 0) → Type 0
InShape P t None Law = Refuses t (said NoShape)
InShape P t (Some d) Law = (s : Shape) × (dimensions_of s ≡ d) × (s.rows ≡ P.bits) × Law s

module _ (P : Board) (l : Ledger) (s : Shape) (i : ℕ) where
  -- a block has each packet that was accepted for block i
  abbrev pub Agrees : Block → Type 0
  Agrees c = (j : ℕ) (ws : List ℕ) → Accepted l i j ws → SamePacket (code_of s P.product) (c j) (packet_in s.words ws)

  -- exactly one codeword agrees
  abbrev pub OneAgrees : Type 0
  OneAgrees = One (code_of s P.product) Agrees

  -- what is at position j: of a whole block the packet of the one codeword, of another the packet accepted
  abbrev pub IsThere : ℕ → List ℕ → Type 0
  IsThere j ws =
      MatchBool (l.whole i) (Packets s 1 ws × (o : OneAgrees) × SamePacket (code_of s P.product) (o.it j) (packet_in s.words ws)) (Accepted l i j ws)

  -- at how many positions something is
  abbrev pub held : ℕ
  held = count (has l i) s.positions

  -- a packet frame: fresh exactly where nothing is, known exactly where just this packet is, and else refusal 12
  pub record TakenAt (j : ℕ) (ws : List ℕ) (t : Turn) : Type 0 where
    pub fresh : (t.answer ≡ Fresh) ↔ (has l i j ≡ false)
    pub known : (t.answer ≡ Known) ↔ IsThere j ws
    pub other : (t.answer ≡ Fresh) ⊎ (t.answer ≡ Known) ⊎ (refusal_in t.answer ≡ Some (said OtherPacket))
    pub kept : t.after ≡ t.before

  -- a repair says whole, too few (7) or contradictory (8) exactly as one, several or no codeword agrees
  pub record Repaired (t : Turn) : Type 0 where
    pub whole : SaysWhole t ↔ OneAgrees
    pub few : SaysTooFew t ↔ Several (code_of s P.product) Agrees
    pub contradictory : SaysContradictory t ↔ NoCodeword (code_of s P.product) Agrees
    pub other : SaysWhole t ⊎ SaysTooFew t ⊎ SaysContradictory t
    -- the number is of the packets that were missing; the sum and the word are the first that contradict
    pub number : (says : SaysWhole t) → says.0 + held ≡ s.positions
    pub values : (says : SaysContradictory t) → Contradiction (code_of s P.product) Agrees (s.positions - held) says.0 says.1
    -- the work run keeps its length; after too few it is as it was, and else zero
    pub long : length t.after ≡ length t.before
    pub kept : SaysTooFew t → t.after ≡ t.before
    pub cleared : (SaysTooFew t → ⊥) → ZeroRun t.after

  -- a fetch is done where something is, and the run is that and nothing else; else refusal 23
  pub record FetchedAt (j : ℕ) (t : Turn) : Type 0 where
    pub done : has l i j ≡ true → (t.answer ≡ Fetched) × IsThere j t.after
    pub only : (ws : List ℕ) → IsThere j ws → ws ≡ t.after
    pub empty : has l i j ≡ false → Refuses t (said SlotEmpty)

-- the frame of the present shape is known; that of any other is refused with 1 to 4 by its dimensions, then 20 by the store, and else sets
-- its shape
pub record ShapeTaken (P : Board) (l : Ledger) (d : Dimensions) (t : Turn) : Type 0 where
  pub again : l.shape ≡ Some d → Answers t Known
  pub other : l.shape ≢ Some d
      → Checked t (or_else (shape_refusal P.bits d) (format_refusal P.capacity d.blocks d.positions (d.rows * d.words))) (Answers t Shaped)

-- a frame is refused with 9; that of a packet with 10, 5, 11
abbrev pub TakeLaw : Board → Ledger → Turn → Sight → Type 0
TakeLaw P l t (refused e) = Refuses t (said BadFrame)
TakeLaw P l t (shape d) = ShapeTaken P l d t
TakeLaw P l t (packet i j ws) =
    InShape P t l.shape (λ s. Checked t (or_else (length_refusal s ws) (place_refusal s i j)) (TakenAt P l s i j ws t))

-- a repair is refused with 10, 11, 5 before its work, a fetch with 10, 11, 5, a count with 10, 11
abbrev pub CallLaw : Board → Ledger → Turn → Call → Type 0
CallLaw P l t Take = TakeLaw P l t (parse t.before)
CallLaw P l t (Repair i) =
    InShape P t l.shape (λ s. Checked t (or_else (block_refusal s i) (run_refusal s (parity_of s + 1) t.before 0)) (Repaired P l s i t))
CallLaw P l t (Fetch i j) =
    InShape P t l.shape (λ s. Checked t (or_else (place_refusal s i j) (length_refusal s t.before)) (FetchedAt P l s i j t))
CallLaw P l t (Count i) = InShape P t l.shape (λ s. Checked t (block_refusal s i) (Answers t (Held (held P l s i))))

-- ONE BOARD, at every point of its transcript

pub record History (P : Board) (ts : List Turn) : Type 0 where
  -- every call is answered by the ledger of the calls before it
  pub answers : (past : List Turn) (t : Turn) (future : List Turn) → ts ≡ past ++ t ∷ future → CallLaw P (ledger past) t t.call
  -- what was accepted is a packet of the present shape, and nothing else was accepted at its place
  pub accepted : (past future : List Turn) → ts ≡ past ++ future → (i j : ℕ) (ws : List ℕ) → Accepted (ledger past) i j ws
      → (s : Shape) × ((ledger past).shape ≡ Some (dimensions_of s)) × (i < s.blocks) × (j < s.positions) × Packets s 1 ws
      × ((vs : List ℕ) → Accepted (ledger past) i j vs → vs ≡ ws)
  -- for a block that is whole exactly one codeword agrees with what was accepted
  pub whole : (past future : List Turn) → ts ≡ past ++ future → (i : ℕ) → (ledger past).whole i ≡ true
      → (s : Shape) × ((ledger past).shape ≡ Some (dimensions_of s)) × (i < s.blocks) × OneAgrees P (ledger past) s i

-- TWO BOARDS

-- after only packets of the codeword c were accepted for block i, at k positions or more, turn t repairs it with a right run
pub record RepairsEnough (P : Board) (s : Shape) (i : ℕ) (c : Block) (past : List Turn) (t : Turn) : Type 0 where
  pub shape_is : (ledger past).shape ≡ Some (dimensions_of s)
  pub agrees : Agrees P (ledger past) s i c
  pub enough : s.sources ≤ count (any_accepted (ledger past) i) s.positions
  pub call : t.call ≡ Repair i
  pub inside : i < s.blocks
  pub right : Packets s (parity_of s + 1) t.before

-- it says whole; and until the next shape every fetch of the block into a right run is done, and the run is the packet of c
pub record Recovers (P : Board) (s : Shape) (i : ℕ) (c : Block) (t : Turn) (future : List Turn) : Type 0 where
  pub whole : SaysWhole t
  pub fetches : (between : List Turn) (f : Turn) (rest : List Turn) → future ≡ between ++ f ∷ rest
      → AllByRecursion (λ (u : Turn). u.answer ≢ Shaped) between → (j : ℕ) → f.call ≡ Fetch i j → j < s.positions → Packets s 1 f.before
      → (f.answer ≡ Fetched) × Packets s 1 f.after × SamePacket (code_of s P.product) (packet_in s.words f.after) (c j)

pub record Together (P : Board) (ts : List Turn) (Q : Board) (us : List Turn) : Type 0 where
  -- if each accepted only packets of one codeword for a block, whichever and in whatever order, at k positions or more, both recover that codeword
  pub recover : (past past' : List Turn) (t t' : Turn) (future future' : List Turn) → ts ≡ past ++ t ∷ future → us ≡ past' ++ t' ∷ future'
      → (s : Shape) (i : ℕ) (c : Block) → Codeword (code_of s P.product) c → RepairsEnough P s i c past t → RepairsEnough Q s i c past' t'
      → Recovers P s i c t future × Recovers Q s i c t' future'
  -- with stores of equal capacity, as far as both were asked the same, their transcripts are the same: every answer, every value, every word of a run
  pub same : P.capacity ≡ Q.capacity → (past past' future future' : List Turn) → ts ≡ past ++ future → us ≡ past' ++ future'
      → asked past ≡ asked past' → past ≡ past'

pub record TwoBoards (P : Board) (ts : List Turn) (Q : Board) (us : List Turn) : Type 0 where
  pub first : History P ts
  pub second : History Q us
  pub together : SameProduct P Q → Together P ts Q us
