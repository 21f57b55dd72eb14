-- The elements of a list, and the packets of a run, one after another.
use Rattle.std.proofs.Common.{◌≡◌, ℕ, ◌+◌, ◌-◌, ◌*◌, ◌<◌, ◌≤◌, List, ◌∷◌, ◌++◌, length, get_or, take, drop, min, sym, ap, ◌∙◌, ◌⊎◌, inl, inr, mul-le-mul_right, add-mul, arith, length-drop}
use Rattle.std.specs.List.{between}
use Rattle.std.proofs.lemmas.Bool.{cases_lt}
use Rattle.std.proofs.lemmas.List.{take_at, drop_at, drop-drop, get_or-drop}
use Rattle.layout.specs.declared.losses.LossList.{LossList}
use Rattle.layout.specs.Sizes.{lost}
use Rattle.layout.specs.Made.{lost_at}

-- element number n, x, of a list comes from an iterator over it
pub record ItemTurn (xs : List ℕ) (n x : ℕ) (next : List ℕ) : Type 0 where
  pub lt : n < length xs
  pub is : x ≡ get_or xs n 0
  pub left : next ≡ drop (n + 1) xs

pub item_turn : (xs : List ℕ) (n x : ℕ) (left next : List ℕ) → left ≡ drop n xs → left ≡ x ∷ next → ItemTurn xs n x next
item_turn xs n x left next at cut = record {
  lt = elim (cases_lt n (length xs)) [
    | inl lt ↦ lt
    | inr le ↦ let e = sym (length-drop n xs) ∙ ap length (sym at ∙ cut) in absurd (let z : length (x ∷ next) ≡ length next + 1 = omega arith in omega arith)
  ];
  is = ap (λ l. get_or l 0 0) (sym cut ∙ at) ∙ get_or-drop n xs 0 0 ∙ ap (λ k. get_or xs k 0) (omega arith);
  left = ap (drop 1) (sym cut ∙ at) ∙ drop-drop 1 n xs;
}

-- an iterator over the chunks of p words of a run of m parts comes next to part number n
pub record ChunksAt (p : ℕ) (run : List ℕ) (m n size : ℕ) (left : List ℕ) : Type 0 where
  pub within : n ≤ m
  pub wide : size ≡ p
  pub rest : left ≡ drop (n * p) run

-- part number n, x, comes from it
pub record ChunkTurn (p : ℕ) (run : List ℕ) (m n size : ℕ) (x left : List ℕ) : Type 0 where
  pub lt : n < m
  pub long : length x ≡ p
  pub is : x ≡ between (n * p) (n * p + p) run
  pub next : ChunksAt p run m (n + 1) size left

module _ {p : ℕ} {run : List ℕ} {m n size : ℕ} {left : List ℕ} (some : 1 ≤ p) (long : length run ≡ m * p) (at : ChunksAt p run m n size left) where
  pub chunk_turn : (x next : List ℕ) {size' : ℕ} → (size' ≡ size) × ((left ≡ x ++ next) × (length x ≡ min size (length left)) × (0 < length left)) → ChunkTurn p run m n size' x next
  chunk_turn x next (same, (cut, short, more)) =
      let within = at.within in
      let wide = at.wide in
      let rest : length left ≡ m * p - n * p = ap length at.rest ∙ length-drop (n * p) run ∙ ap (λ k. k - n * p) long in
      let lt : n < m = elim (cases_lt n m) [ inl lt ↦ lt | inr le ↦ let h = mul-le-mul_right p le in absurd (omega arith) ] in
      let up : (n + 1) * p ≤ m * p = mul-le-mul_right p (omega arith) in
      let split = add-mul n 1 p in
      let whole : length x ≡ p = omega arith in
      let there : n * p + p ≡ (n + 1) * p = omega arith in
      let width : n * p + p - n * p ≡ p = omega arith in
      record {
        lt = lt;
        long = whole;
        is = sym (ap (λ k. take k (drop (n * p) run)) width ∙ ap (take p) (sym at.rest ∙ cut) ∙ take_at x next p whole);
        next = record {
          within = omega arith;
          wide = same ∙ at.wide;
          rest = sym (drop_at x next p whole) ∙ ap (drop p) (sym cut ∙ at.rest) ∙ drop-drop p (n * p) run ∙ ap (λ k. drop k run) there;
        };
      }

  -- no chunk is left
  pub chunks_done : length left ≡ 0 → n ≡ m
  chunks_done none = elim (cases_lt n m) [
    | inl lt ↦
        let h : (n + 1) * p ≤ m * p = mul-le-mul_right p (omega arith) in
        let e = ap length (sym at.rest) ∙ none in let r = length-drop (n * p) run in
        absurd (omega (arith, add-mul n 1 p))
    | inr ge ↦ let le = at.within in omega arith
  ]

-- the iterators over the lost positions and over the packets of a run of m come next to number n
pub record LostAt (p : ℕ) (l : LossList) (run : List ℕ) (m n size : ℕ) (left right : List ℕ) : Type 0 where
  pub within : n ≤ l.len
  pub places : left ≡ drop n (lost_at l)
  pub packets : ChunksAt p run m n size right

-- lost position number n, q, and packet number n, x, come from the two
pub record LostTurn (p : ℕ) (l : LossList) (run : List ℕ) (m n size q : ℕ) (x left right : List ℕ) : Type 0 where
  pub listed : n < l.len
  pub at : q ≡ lost l n
  pub packet : ChunkTurn p run m n size x right
  pub next : LostAt p l run m (n + 1) size left right

module _ {p : ℕ} {l : LossList} {run : List ℕ} {m n size : ℕ} {left right : List ℕ} (some : 0 < p) (long : length run ≡ m * p) (t : LostAt p l run m n size left right)
    (xs : List ℕ) (are : xs ≡ lost_at l) (len : length xs ≡ l.len) where
  lost_length : length (lost_at l) ≡ l.len
  lost_length = sym (ap length are) ∙ len

  pub lost_turn : ((k : ℕ) → k < l.len → get_or xs k 0 ≡ lost l k) → (q size' : ℕ) (x left' right' : List ℕ) → left ≡ q ∷ left'
      → (size' ≡ size) × ((right ≡ x ++ right') × (length x ≡ min size (length right)) × (0 < length right)) → LostTurn p l run m n size' q x left' right'
  lost_turn places q size' x left' right' item step =
      let place = item_turn (lost_at l) n q left left' t.places item in
      let lt = place.lt in
      let whole = lost_length in
      let listed : n < l.len = omega arith in
      let packet : ChunkTurn p run m n size' x right' = chunk_turn some long t.packets x right' step in
      record {
        listed = listed;
        at = place.is ∙ sym (ap (λ z. get_or z n 0) are) ∙ places n listed;
        packet = packet;
        next = record { within = omega arith; places = place.left; packets = packet.next };
      }

  -- one of the two has no more
  pub lost_done : l.len ≤ m → (length left ≡ 0) ⊎ (length right ≡ 0) → n ≡ l.len
  lost_done few (inl none) = let e = sym (length-drop n (lost_at l)) ∙ ap length (sym t.places) ∙ none in let whole = lost_length in let w = t.within in omega arith
  lost_done few (inr none) = let e = chunks_done some long t.packets none in let w = t.within in omega arith
