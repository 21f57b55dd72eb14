-- Slots lie within the words and apart from each other; so a write to one slot fills that slot alone.
use Rattle.std.proofs.Common.{◌≡◌, ℕ, suc, ◌+◌, ◌-◌, ◌*◌, ◌/◌, ◌%◌, ◌<◌, ◌≤◌, Bool, true, false, cond, ltb, ◌⊎◌, List, ◌∷◌, ◌++◌, length, take, drop, replicate, None, sym, refl, ap, ◌∙◌, subst, inl, inr, mul-le-mul_right, add-mul, arith, rules}
use borrow.Rule.Slice.PartMut.{put_mid}
use Rattle.std.proofs.lemmas.List.{drop-drop, drop-replicate, take-replicate, length-replicate, places}
use Rattle.std.proofs.lemmas.Slice.{take-put_mid_below, drop-put_mid, between-put_mid, between_is}
use Rattle.std.proofs.lemmas.Bool.{cases_order, cases_Bool, and_parts, ltb-true, cond-false, cond-true}
use Rattle.std.proofs.lemmas.Bool.Decides.{nat_tests}
use Rattle.std.proofs.lemmas.Nat.{mul-add-lt, div-mul-add, mod-mul-add}
use Rattle.store.specs.declared.slots.Format.{Format}
use Rattle.store.specs.declared.slots.Slot.{Slot}
use Rattle.store.specs.Calls.{fits_in, EmptyGrid}
use Rattle.store.specs.Grids.{format_fits, Filled}
use Rattle.store.specs.Layout.{slot_at, slot_put, slot_words, content_of, rows_of, has_slot, grid_in, StartsAt}

-- the slots of a format that fits take no more than the capacity
fits_product : (k r c n : ℕ) → format_fits k r c n ≡ true → r * c * (n + 1) ≤ k
fits_product k r c n e = grind (arith, nat_tests)

-- a slot ends within the words
pub slot_within : (k : ℕ) (f : Format) (i j : ℕ) → fits_in k f ≡ true → i < f.rows → j < f.columns → slot_at f i j + f.size + 1 ≤ k
slot_within k f i j fits li lj =
    let le = fits_product k f.rows f.columns f.size fits in
    let p = mul-add-lt i f.columns j f.rows li lj in
    let h : (i * f.columns + j + 1) * (f.size + 1) ≤ (f.rows * f.columns) * (f.size + 1) = mul-le-mul_right (f.size + 1) (omega arith) in
    omega (arith, h, add-mul (i * f.columns + j) 1 (f.size + 1))

-- the slots of two places lie apart
slots_apart : (p q s : ℕ) → (p ≡ q → ⊥) → (p * s + s ≤ q * s) ⊎ (q * s + s ≤ p * s)
slots_apart p q s ne =
    elim (cases_order p q) [
      | inl e ↦ absurd (ne e)
      | inr h ↦ elim h [
        | inl lt ↦ let k : (p + 1) * s ≤ q * s = mul-le-mul_right s (omega arith) in inl (omega (arith, k, add-mul p 1 s))
        | inr lt ↦ let k : (q + 1) * s ≤ p * s = mul-le-mul_right s (omega arith) in inr (omega (arith, k, add-mul q 1 s))
      ]
    ]

places_differ : (a b i j c : ℕ) → b < c → j < c → (a ≡ i → b ≡ j → ⊥) → a * c + b ≡ i * c + j → ⊥
places_differ a b i j c lb lj ne e =
    ne (sym (div-mul-add a c b lb) ∙ ap (λ n. n / c) e ∙ div-mul-add i c j lj)
    (sym (mod-mul-add a c b lb) ∙ ap (λ n. n % c) e ∙ mod-mul-add i c j lj)

words_there : (xs new : List ℕ) (at n b : ℕ) → at + n + 1 ≤ length xs → length new ≡ n + 1 → (b + n + 1 ≤ at) ⊎ (at + n + 1 ≤ b)
    → slot_words (put_mid at (n + 1) xs new) b n ≡ slot_words xs b n
words_there xs new at n b le e way = elim way [
  | inl h ↦ between_is _ b (b + n + 1) ∙ ap (drop b) (take-put_mid_below at (n + 1) xs new (b + n + 1) (omega arith) (omega arith)) ∙ sym (between_is xs b (b + n + 1))
  | inr h ↦ ap (take (b + n + 1 - b)) (drop-put_mid at (n + 1) xs new b (omega arith) (omega arith) e)
]

replaced : (empty : List ℕ → Bool) (f : Format) (s : Slot) (at k mark : ℕ) (xs new ws : List ℕ) → StartsAt (length xs) f s at
    → k ≡ f.size + 1 → length ws ≡ f.size → new ≡ mark ∷ ws → empty (mark ∷ ws) ≡ false
    → Filled (grid_in empty f xs) s.row s.column ws (grid_in empty f (put_mid at k xs new))
replaced empty f s at k mark xs new ws p ends len is e =
    let n = f.size in
    let c = f.columns in
    let h = p.within in
    let at_is = p.at_is in
    let l : length new ≡ n + 1 = ap length is ∙ omega arith in
    let same : length (put_mid at (n + 1) xs new) ≡ length xs = search (rules, places) in
    subst (λ m. Filled (grid_in empty f xs) s.row s.column ws (grid_in empty f (put_mid at m xs new))) (sym ends)
    (record {
      rows_same = ap (λ m. rows_of m f) same;
      columns_same = refl;
      size_same = refl;
      here = cond-true _ _ None (ap (λ m. has_slot m f s.row s.column) same ∙ p.is_inside)
          ∙ ap (λ b. content_of empty (slot_words (put_mid at (n + 1) xs new) b n)) (sym at_is)
          ∙ ap (content_of empty) (between-put_mid at (n + 1) xs new (at + n + 1) (omega arith) (omega arith) ∙ is) ∙ cond-false _ None _ e;
      others = λ a b ne. ap (λ m. cond (has_slot m f a b) (content_of empty (slot_words (put_mid at (n + 1) xs new) (slot_at f a b) n)) None) same
          ∙ elim (cases_Bool (has_slot (length xs) f a b)) [
            | inl t ↦
                let lb : b < c = ltb-true b c (and_parts (ltb a (rows_of (length xs) f)) (ltb b c) t).1 in
                let lj : s.column < c = ltb-true s.column c (and_parts (ltb s.row (rows_of (length xs) f)) (ltb s.column c) p.is_inside).1 in
                let way = slots_apart (a * c + b) (s.row * c + s.column) (n + 1) (places_differ a b s.row s.column c lb lj ne) in
                ap (λ l. cond (has_slot (length xs) f a b) (content_of empty l) None)
                (words_there xs new at n (slot_at f a b) h l (elim way [ inl w ↦ inl (omega arith) | inr w ↦ inr (omega arith) ]))
            | inr o ↦ cond-false _ _ _ o ∙ sym (cond-false _ _ _ o)
          ];
    })

-- the grid after the words of a slot were overwritten by the mark of a filled one and its packet
pub filled : (empty : List ℕ → Bool) (f : Format) (s : Slot) (at mark : ℕ) (xs ws : List ℕ) → StartsAt (length xs) f s at → length ws ≡ f.size → empty (mark ∷ ws) ≡ false
    → Filled (grid_in empty f xs) s.row s.column ws (grid_in empty f (slot_put xs at (mark ∷ ws)))
filled empty f s at mark xs ws p len e =
    subst (λ l. Filled (grid_in empty f xs) s.row s.column ws (grid_in empty f (take at xs ++ (mark ∷ ws ++ l)))) (drop-drop (suc (length ws)) at xs)
    (replaced empty f s at (suc (length ws)) mark xs (mark ∷ ws) ws p (omega arith) len refl e)

-- the grid of words that hold empty slots everywhere
pub emptied : (empty : List ℕ → Bool) (f : Format) (xs : List ℕ) → fits_in (length xs) f ≡ true
    → ((at : ℕ) → at + f.size + 1 ≤ length xs → empty (slot_words xs at f.size) ≡ true)
    → EmptyGrid f (grid_in empty f xs)
emptied empty f xs fits all =
    let rows : rows_of (length xs) f ≡ f.rows = cond-true _ f.rows 0 fits in
    record {
      rows_is = rows;
      columns_is = refl;
      size_is = refl;
      empty = λ i j. elim (cases_Bool (has_slot (length xs) f i j)) [
        | inl t ↦
            let b = and_parts (ltb i _) (ltb j _) t in
            let li : i < f.rows = ltb-true i f.rows (ap (ltb i) (sym rows) ∙ b.0) in
            let lj : j < f.columns = ltb-true j f.columns b.1 in
            cond-true _ _ None t ∙ cond-true _ None _ (all (slot_at f i j) (slot_within (length xs) f i j fits li lj))
        | inr o ↦ cond-false _ _ None o
      ];
    }

-- a slot of words that are all blank
blank_slot : (blank k at n : ℕ) → at + n + 1 ≤ k → slot_words (replicate k blank) at n ≡ blank ∷ replicate n blank
blank_slot blank k at n le =
    let m : at + n + 1 - at ≡ suc n = omega arith in
    ap (take (at + n + 1 - at)) (drop-replicate at k blank) ∙ take-replicate (at + n + 1 - at) (k - at) blank (omega arith) ∙ ap (λ l. replicate l blank) m

-- the grid of such words
pub cleared : (empty : List ℕ → Bool) (f : Format) (xs : List ℕ) (blank k : ℕ) → fits_in k f ≡ true → xs ≡ replicate k blank
    → ((n : ℕ) → empty (blank ∷ replicate n blank) ≡ true) → EmptyGrid f (grid_in empty f xs)
cleared empty f xs blank k fits e law =
    let len : length xs ≡ k = ap length e ∙ length-replicate k blank in
    emptied empty f xs (ap (λ l. fits_in l f) len ∙ fits)
    (λ at le. ap (λ l. empty (slot_words l at f.size)) e ∙ ap empty (blank_slot blank k at f.size (omega arith)) ∙ law f.size)
