-- The known block and the changed one: their sums, computed.
use Rattle.std.proofs.Common.{◌≡◌, ℕ, zero, suc, ◌+◌, ◌-◌, ◌*◌, ◌^◌, ◌<◌, ◌≤◌, Bool, true, ◌&&◌, List, [], ◌∷◌, length, get_or, take, drop, Some, None, Result, false, sym, refl, ap, ◌∙◌, subst, inr, arith}
use lib.Dec.{T, eqb, ltb, eqb→eq, ltb→lt}
use lib.Ieee.Fits.{and_l, and_r}
use native.Mathlib.Decide.{ℕ_discrete}
use native.Mathlib.Nat.{not-suc-le-zero}
use Rattle.std.proofs.lemmas.List.{get_or-take, get_or-drop}
use Rattle.refusal.specs.declared.Refusal.{Refusal}
use Rattle.refusal.specs.declared.Refusal.TheVariants.{TooFew, Contradictory}
use Rattle.refusal.specs.Numbers.{said, refused_with}
use Rattle.galois.specs.Field.{double, times, product, power, FieldLaws, inverse}
use Rattle.galois.proofs.Laws.{laws}
use Rattle.field.specs.Fields.{nibble as primitive}
use Rattle.algebra.specs.Code.{Code, Block, Codeword, SamePacket, ZeroPacket, xors, bit, scaled, syndrome, among}
use Rattle.algebra.proofs.Marks.{true_false, among_at}
use Rattle.layout.specs.declared.shape.Dimensions.{Dimensions}
use Rattle.layout.specs.declared.shape.Shape.{Shape}
use Rattle.layout.specs.declared.losses.LossList.{LossList}
use Rattle.layout.specs.Made.{LossesRefused}
use Rattle.layout.specs.Sizes.{parity_of, packet_of, lost, LostBelow}
use Rattle.layout.specs.Blocks.{code_of, block_at, ZeroRun}
use Rattle.layout.specs.Checks.{loss_refusal}
use Rattle.layout.proofs.Passes.{losses_many, losses_ok, run_ok, width_ok, pass_both}
use Rattle.code.specs.Lost.{AgreeOff, Contradicted}
use Rattle.code.specs.Calls.{CodewordRun, Encoded, Repaired, repair_refusal, ContradictoryRun}
use Rattle.layout.specs.Checks.{CheckedFirst, at_width}
use Rattle.std.specs.Prelude.{IfOk}
use Rattle.known.specs.Known.{nibble, small, IsSmall, Lists, known, changed, RepairsChanged}
use Rattle.known.proofs.Forced.{encoded, repaired, contradicted}
use Rattle.known.proofs.Given.{restores, refuses}

-- the test f passes at each number below n
unfoldable each : ℕ → (ℕ → Bool) → Bool
each zero f = true
each (suc n) f = f n && each n f

each_at : (n : ℕ) (f : ℕ → Bool) → T (each n f) → (k : ℕ) → k < n → T (f k)
unfolding each
each_at zero f t k h = absurd (not-suc-le-zero h)
each_at (suc n) f t k h = elim (ℕ_discrete k n) [
  | yes e ↦ subst (λ m. T (f m)) (sym e) (and_l (f n) (each n f) t)
  | no e ↦ each_at n f (and_r (f n) (each n f) t) k (omega arith)
]

-- what the definitions of a shape come to for its dimensions
abbrev code : Dimensions → Code
code d = record { rows = d.rows; words = d.words; positions = d.positions; parity = d.positions - d.sources; product = nibble }

abbrev at : Dimensions → List ℕ → Block
at d run q i c = get_or run (q * (d.rows * d.words) + (i * d.words + c)) 0

-- the changed block with position 0 solved: sum 0 is zero
abbrev solved : List ℕ
solved = 9 ∷ 9 ∷ 2 ∷ 4 ∷ 8 ∷ 0xB ∷ 6 ∷ 0xC ∷ 1 ∷ 2 ∷ 4 ∷ 8 ∷ []

words_fit : T (each 3 (λ q. each 4 (λ i. each 1 (λ c. ltb (at small known q i c) (2 ^ 32)))))
unfolding each
words_fit = tt

sums_vanish : T (each 2 (λ μ. each 4 (λ i. each 1 (λ c. eqb (syndrome (code small) (at small known) μ i c) 0))))
unfolding each syndrome scaled xors bit power product times double
sums_vanish = tt

behind_left : T (each 1 (λ μ. each 4 (λ i. each 1 (λ c. eqb (syndrome (code small) (at small solved) μ i c) 0))))
unfolding each syndrome scaled xors bit power product times double
behind_left = tt

others_same : T (each 2 (λ q. each 4 (λ i. each 1 (λ c. eqb (at small solved (q + 1) i c) (at small (changed known) (q + 1) i c)))))
unfolding each
others_same = tt

first_word : syndrome (code small) (at small (changed known)) 0 0 0 ≡ 1
unfolding syndrome scaled xors bit power product times double
first_word = refl

first_word_behind : syndrome (code small) (at small solved) 1 0 0 ≡ 1
unfolding syndrome scaled xors bit power product times double
first_word_behind = refl

abbrev IsCodeword : List ℕ → Dimensions → Type 0
IsCodeword run d = (length run ≡ d.positions * (d.rows * d.words)) × Codeword (code d) (at d run)

known_is : IsCodeword known small
known_is = (
  refl,
  record {
    words = λ q h i c a b. ltb→lt _ _ (each_at 1 _ (each_at 4 _ (each_at 3 _ words_fit q h) i a) c b);
    sums = λ μ h i c a b. eqb→eq _ _ (each_at 1 _ (each_at 4 _ (each_at 2 _ sums_vanish μ h) i a) c b);
  },
)

-- the sums below `sum` are zero
abbrev Lower : List ℕ → ℕ → Dimensions → Type 0
Lower run sum d = (μ : ℕ) → μ < sum → ZeroPacket (code d) (syndrome (code d) (at d run) μ)

lower : Lower solved 1 small
lower μ h i c a b = eqb→eq _ _ (each_at 1 _ (each_at 4 _ (each_at 1 _ behind_left μ h) i a) c b)

-- word 0 of sum `sum` is not zero
abbrev Here : List ℕ → ℕ → Dimensions → Type 0
Here run sum d = (i c : ℕ) → i < d.rows → c < d.words → i * d.words + c ≡ 0 → syndrome (code d) (at d run) sum i c ≡ 0 → ⊥

here : (run : List ℕ) (sum : ℕ) → syndrome (code small) (at small run) sum 0 0 ≡ 1 → Here run sum small
here run sum one i c a b z n =
    let first = subst (λ u. syndrome (code small) (at small run) sum u 0 ≡ 0) (let e : i ≡ 0 = omega arith in e)
    (subst (λ u. syndrome (code small) (at small run) sum i u ≡ 0) (let e : c ≡ 0 = omega arith in e) n) in
    omega arith

-- the solved block has the packets of the changed one, but for position 0
abbrev Others : Dimensions → Type 0
Others d = (q : ℕ) → 0 < q → q < d.positions → SamePacket (code d) (at d solved q) (at d (changed known) q)

others : Others small
others q z h i c a b =
    subst (λ u. at small solved u i c ≡ at small (changed known) u i c) (let e : q - 1 + 1 ≡ q = omega arith in e)
    (eqb→eq _ _ (each_at 1 _ (each_at 4 _ (each_at 2 _ others_same (q - 1) (omega arith)) i a) c b))

-- position 1 of a block of twelve words
middle_is : (xs : List ℕ) (i c : ℕ) → i < 4 → c < 1 → at small xs 1 i c ≡ get_or (take 4 (drop 4 xs)) (i * 1 + c) 0
middle_is xs i c h l = sym (get_or-take 4 (drop 4 xs) (i * 1 + c) 0 (omega arith) ∙ get_or-drop 4 xs (i * 1 + c) 0)

lost_is : (l : LossList) (xs : List ℕ) → Lists l xs → (k : ℕ) → k < length xs → lost l k ≡ get_or xs k 0
lost_is l xs is k h = let e = is.0 in sym (get_or-take l.len l.at k 0 (omega arith)) ∙ ap (λ ys. get_or ys k 0) is.1

-- what is not lost is none of the listed positions
not_listed : (l : LossList) (xs : List ℕ) → Lists l xs → (q : ℕ) → among (lost l) l.len q ≡ false → (k : ℕ) → k < length xs → q ≡ get_or xs k 0 → ⊥
not_listed l xs is q f k h z =
    let n = is.0 in
    true_false (among (lost l) l.len q) (ap (among (lost l) l.len) (z ∙ sym (lost_is l xs is k h)) ∙ among_at (lost l) l.len k (omega arith)) f

module _ (s : Shape) (e : IsSmall s) where
  positions : s.positions ≡ 3
  positions = ap (λ d. d.positions) e

  parity : parity_of s ≡ 2
  parity = ap (λ d. d.positions - d.sources) e

  packet : 0 < packet_of s
  packet = subst (λ d. 0 < d.rows * d.words) (sym e) (omega arith)

  field : FieldLaws s.rows nibble (inverse 4 0x13)
  field = subst (λ d. FieldLaws d.rows nibble (inverse 4 0x13)) (sym e) (laws 4 0x13 primitive)

  codeword : CodewordRun (code_of s nibble) known
  codeword = subst (IsCodeword known) (sym e) known_is

  eight : 8 ≡ parity_of s * packet_of s
  eight = subst (λ d. 8 ≡ (d.positions - d.sources) * (d.rows * d.words)) (sym e) refl

  pub encodes : Encoded (code_of s nibble) (drop 8 known) (take 8 known)
  encodes = encoded s nibble (inverse 4 0x13) field (drop 8 known) (take 8 known) eight codeword

  -- encode answers with the parity of the known block
  pub parity_is : (after : List ℕ) → length after ≡ 8 → Encoded (code_of s nibble) (drop 8 known) after → after ≡ take 8 known
  parity_is after long is = encodes.only after (long ∙ eight) is.codeword

  pub too_few_made : LossesRefused s (0 ∷ 1 ∷ 2 ∷ []) (said TooFew)
  unfolding each
  too_few_made =
      let xs : List ℕ = 0 ∷ 1 ∷ 2 ∷ [] in
      let ascends = each_at 3 (λ j. each j (λ i. ltb (get_or xs i 0) (get_or xs j 0))) tt in
      let within = each_at 3 (λ i. ltb (get_or xs i 0) 3) tt in
      inr ((λ i j a b. ltb→lt _ _ (each_at j _ (ascends j b) i a), λ i h. rw positions (ltb→lt _ _ (within i h))), rw parity (omega arith), refl)

  module _ (l : LossList) where
    below : (xs : List ℕ) → Lists l xs → T (each (length xs) (λ k. ltb (get_or xs k 0) 3)) → LostBelow l s.positions
    below xs is t k h =
        let long = is.0 in
        rw (positions, lost_is l xs is k (omega arith)) (ltb→lt _ _ (each_at (length xs) _ t k (omega arith)))

    pub repairs : Lists l (0 ∷ 2 ∷ []) → (before : List ℕ) → AgreeOff (code_of s nibble) l (block_at (code_of s nibble) known) (block_at (code_of s nibble) before) → Repaired (code_of s nibble) l before known
    unfolding each
    repairs is before agree = repaired s nibble (inverse 4 0x13) field l (below (0 ∷ 2 ∷ []) is tt) (rw (parity, is.0) (omega arith)) before known codeword agree

    pub too_few_used : Lists l (0 ∷ 1 ∷ 2 ∷ []) → loss_refusal s l ≡ Some (said TooFew)
    unfolding each
    too_few_used is = losses_many s l (below (0 ∷ 1 ∷ 2 ∷ []) is tt) (rw (parity, is.0) (omega arith))

    pub contradicts : Lists l [] → Contradicted (code_of s nibble) l (block_at (code_of s nibble) (changed known)) 0 0
    unfolding each
    contradicts is =
        contradicted s nibble (inverse 4 0x13) field l (below [] is tt) (block_at (code_of s nibble) (changed known)) (block_at (code_of s nibble) (changed known)) (λ q h f i c p r. refl) 0 0
        (rw is.0 (omega arith)) (rw parity (omega arith)) packet (λ μ h. absurd (not-suc-le-zero h)) (λ i c p r h. absurd (not-suc-le-zero h))
        (subst (Here (changed known) 0) (sym e) (here (changed known) 0 first_word))

    pub contradicts_behind : Lists l (0 ∷ []) → Contradicted (code_of s nibble) l (block_at (code_of s nibble) (changed known)) 1 0
    unfolding each
    contradicts_behind is =
        let agree : AgreeOff (code_of s nibble) l (block_at (code_of s nibble) solved) (block_at (code_of s nibble) (changed known)) =
        λ q h f. let n = not_listed l (0 ∷ []) is q f 0 (omega arith) in subst Others (sym e) others q (omega arith) h in
        contradicted s nibble (inverse 4 0x13) field l (below (0 ∷ []) is tt) (block_at (code_of s nibble) (changed known)) (block_at (code_of s nibble) solved) agree 1 0
        (rw is.0 (omega arith)) (rw parity (omega arith)) packet
        (subst (Lower solved 1) (sym e) lower)
        (λ i c p r h. absurd (not-suc-le-zero h)) (subst (Here solved 1) (sym e) (here solved 1 first_word_behind))

    -- the checks of a repair pass, for runs of twelve words
    passes : (xs : List ℕ) → Lists l xs → length xs ≤ 2 → T (each (length xs) (λ k. ltb (get_or xs k 0) 3))
        → (block work : List ℕ) → length block ≡ 12 → length work ≡ 12 → at_width 4 s (repair_refusal s block l work) ≡ None
    passes xs is few t block work long room =
        let size : 12 ≡ s.positions * packet_of s = subst (λ d. 12 ≡ d.positions * (d.rows * d.words)) (sym e) refl in
        let size' : 12 ≡ (parity_of s + 1) * packet_of s = subst (λ d. 12 ≡ (d.positions - d.sources + 1) * (d.rows * d.words)) (sym e) refl in
        pass_both _ _ (width_ok 4 s (ap (λ d. d.rows) e))
        (pass_both _ _ (pass_both _ _ (run_ok s s.positions block 0 (long ∙ size)) (run_ok s (parity_of s + 1) work 1 (room ∙ size')))
        (losses_ok s l (below xs is t) (rw (parity, is.0) few)))

    -- so it answers with the known block, or with the sum and the word
    module _ (after work : List ℕ) (room : length work ≡ 12) (r : Result (Unit {0}) Refusal) where
      pub restored : Lists l (0 ∷ 2 ∷ []) → (before : List ℕ) → length before ≡ 12
          → take 4 (drop 4 known) ≡ take 4 (drop 4 before)
          → IfOk r (λ u. Repaired (code_of s nibble) l before after)
          → CheckedFirst (at_width 4 s (repair_refusal s before l work)) (ContradictoryRun (code_of s nibble) l before) r → (refused_with r ≡ None) × (after ≡ known)
      unfolding each
      restored is before long held a n =
          let agree : AgreeOff (code_of s nibble) l (block_at (code_of s nibble) known) (block_at (code_of s nibble) before) =
          λ q h f.
          let n = not_listed l (0 ∷ 2 ∷ []) is q f 0 (omega arith) in
          let m = not_listed l (0 ∷ 2 ∷ []) is q f 1 (omega arith) in
          let middle : 1 ≡ q = let k = positions in omega arith in
          subst (λ u. SamePacket (code_of s nibble) (block_at (code_of s nibble) known u) (block_at (code_of s nibble) before u)) middle
          (subst (λ d. SamePacket (code d) (at d known 1) (at d before 1)) (sym e) (λ i c p r. middle_is known i c p r ∙ ap (λ xs. get_or xs (i * 1 + c) 0) held ∙ sym (middle_is before i c p r))) in
          restores s nibble l before after _ (passes (0 ∷ 2 ∷ []) is (omega arith) tt before work long room) r known (repairs is before agree) a n

module _ (work work' : List ℕ) (room : length work ≡ 12) (r : Result (Unit {0}) Refusal) where
  pub refused_none : RepairsChanged [] work work' r → (refused_with r ≡ Some (said (Contradictory 0 0))) × ZeroRun work'
  unfolding each
  refused_none t =
      let s = t.shape in
      let pass = passes s t.small t.losses [] t.lists (omega arith) tt (changed known) work refl room in
      (refuses s nibble t.losses (changed known) t.block _ pass r 0 0 (contradicts s t.small t.losses t.lists) t.repaired t.answer, t.cleared.0 pass)

  pub refused_first : RepairsChanged (0 ∷ []) work work' r → (refused_with r ≡ Some (said (Contradictory 1 0))) × ZeroRun work'
  unfolding each
  refused_first t =
      let s = t.shape in
      let pass = passes s t.small t.losses (0 ∷ []) t.lists (omega arith) tt (changed known) work refl room in
      (refuses s nibble t.losses (changed known) t.block _ pass r 1 0 (contradicts_behind s t.small t.losses t.lists) t.repaired t.answer, t.cleared.0 pass)
