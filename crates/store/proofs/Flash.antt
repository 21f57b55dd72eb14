-- Programming erased words of flash, and the run when the lock is shut again.
use Rattle.std.proofs.Common.{◌≡◌, ℕ, zero, suc, ◌+◌, ◌-◌, ◌^◌, ◌<◌, ◌≤◌, true, eqb, List, [], ◌∷◌, ◌++◌, length, get_or, take, drop, set, replicate, Ok, Err, Result, sym, refl, ap, ◌∙◌, append_assoc, mod-eq_of_lt, suc-add, add-one, one-add, arith, w32, Fits}
use lib.Bits.{bit_and, and_comm, and_mask, and_zero_r}
use Rattle.std.proofs.lemmas.List.{length-take-le, take_more, take_more_set, take_all, drop_more, set-append_right, set-append_left, get_or-append-add, get_or-drop}
use Rattle.std.proofs.lemmas.List.Edits.{length-between, get_or-between}
use Rattle.std.proofs.lemmas.Bool.{and_parts, eqb-true}
use Rattle.refusal.specs.declared.Refusal.{Refusal}
use Rattle.store.specs.Layout.{slot_put, slot_words, words_after_clear, words_after_put}
use Rattle.store.specs.Nor.{erased, run_after_format, run_after_put}

all_erased : (xs : List ℕ) (i : ℕ) → erased xs ≡ true → i < length xs → get_or xs i 0 ≡ 4294967295
all_erased [] i e lt = absurd (omega arith)
all_erased (x ∷ xs) zero e lt = eqb-true x 4294967295 (and_parts (eqb x 4294967295) (erased xs) e).0
all_erased (x ∷ xs) (suc i) e lt = all_erased xs i (and_parts (eqb x 4294967295) (erased xs) e).1 (omega arith)

-- what lies behind the words that were put
word_past : (xs ws : List ℕ) (k : ℕ) → k ≤ length xs → get_or (slot_put xs k ws) (k + length ws) 0 ≡ get_or xs (k + length ws) 0
word_past xs ws k le =
    let n = length ws in
    let front : k ≡ length (take k xs) = sym (length-take-le k xs le) in
    let rest = drop (k + n) xs in
    let here : n ≡ n + 0 = omega arith in
    let there : k + n + 0 ≡ k + n = omega arith in
    ap (λ m. get_or (slot_put xs k ws) (m + n) 0) front ∙ get_or-append-add (take k xs) (ws ++ rest) n 0
    ∙ ap (λ m. get_or (ws ++ rest) m 0) here ∙ get_or-append-add ws rest 0 0
    ∙ get_or-drop (k + n) xs 0 0 ∙ ap (λ m. get_or xs m 0) there

-- one more word put behind those that were
put_more : (xs ws : List ℕ) (k i : ℕ) → k + i < length xs → i < length ws
    → set (slot_put xs k (take i ws)) (k + i) (get_or ws i 0) ≡ slot_put xs k (take (i + 1) ws)
put_more xs ws k i h l =
    let v = get_or ws i 0 in
    let front = length-take-le k xs (omega arith) in
    let done = length-take-le i ws (omega arith) in
    let more = length-take-le (i + 1) ws (omega arith) in
    let rest = drop (k + length (take i ws)) xs in
    let at : k + i - k - i ≡ 0 = omega arith in
    let end : k + i + 1 ≡ k + length (take (i + 1) ws) = omega arith in
    set-append_right (take k xs) (take i ws ++ rest) k (k + i) v front (omega arith)
    ∙ ap (λ l. take k xs ++ l)
    (set-append_right (take i ws) rest i (k + i - k) v done (omega arith)
    ∙ ap (λ m. take i ws ++ set (drop (k + m) xs) (k + i - k - i) v) done
    ∙ ap (λ m. take i ws ++ set (drop (k + i) xs) m v) at
    ∙ ap (λ l. take i ws ++ set l 0 v) (drop_more xs (k + i) 0 h)
    ∙ sym (append_assoc (take i ws) (v ∷ []) (drop (k + i + 1) xs))
    ∙ ap (λ l. l ++ drop (k + i + 1) xs) (sym (take_more ws i 0 l))
    ∙ ap (λ m. take (i + 1) ws ++ drop m xs) end)

-- one more word of the packet programmed
pub fills_more : (xs ys ps : List ℕ) (at i : ℕ) → at + length ps + 1 ≤ length (drop 1 xs) → i < length ps
    → erased (slot_words (drop 1 xs) at (length ps)) ≡ true → Fits w32 (get_or ps i 0) → ys ≡ slot_put xs (at + 2) (take i ps)
    → set ys (at + 2 + i) (bit_and (get_or ys (at + 2 + i) 0) (get_or ps i 0)) ≡ slot_put xs (at + 2) (take (i + 1) ps)
fills_more [] ys ps at i le lt e fits is = absurd (omega arith)
fills_more (x ∷ xs) ys ps at i le lt e fits is =
    let v = get_or ps i 0 in
    let k = at + 2 in
    let small : v < 2 ^ 32 = omega arith in
    let done : length (take i ps) ≡ i = length-take-le i ps (omega arith) in
    let long : length (slot_words xs at (length ps)) ≡ length ps + 1 = length-between xs at (at + length ps + 1) (omega arith) ∙ omega arith in
    let next : k + i ≡ suc (at + (i + 1)) = omega arith in
    let old : get_or (slot_put (x ∷ xs) k (take i ps)) (k + i) 0 ≡ 4294967295 =
    ap (λ m. get_or (slot_put (x ∷ xs) k (take i ps)) (k + m) 0) (sym done)
    ∙ word_past (x ∷ xs) (take i ps) k (omega arith) ∙ ap (λ m. get_or (x ∷ xs) (k + m) 0) done
    ∙ ap (λ m. get_or (x ∷ xs) m 0) next
    ∙ sym (get_or-between xs at (at + length ps + 1) (i + 1) 0 (omega arith))
    ∙ all_erased (slot_words xs at (length ps)) (i + 1) e (omega arith) in
    ap (λ l. set l (k + i) (bit_and (get_or l (k + i) 0) v)) is
    ∙ ap (λ w. set (slot_put (x ∷ xs) k (take i ps)) (k + i) w)
    (ap (λ w. bit_and w v) old ∙ and_comm 4294967295 v ∙ and_mask v 32 ∙ mod-eq_of_lt small)
    ∙ put_more (x ∷ xs) ps k i (omega arith) lt

-- a word set inside what is taken
take_set_inside : (xs : List ℕ) (i v : ℕ) → take (i + 1) (set xs i v) ≡ set (take (i + 1) xs) i v
take_set_inside [] i v = rw add-one refl
take_set_inside (x ∷ xs) zero v = refl
take_set_inside (x ∷ xs) (suc i) v = rw suc-add (ap (λ l. x ∷ l) (take_set_inside xs i v))

-- the mark programmed before the packet
pub mark_last : (xs ys ps : List ℕ) (at : ℕ) → at + length ps + 1 ≤ length (drop 1 xs) → ys ≡ slot_put xs (at + 2) (take (length ps) ps)
    → drop 1 (set ys (at + 1) (bit_and (get_or ys (at + 1) 0) 0)) ≡ slot_put (drop 1 xs) at (0 ∷ ps)
mark_last [] ys ps at le is = absurd (omega arith)
mark_last (x ∷ xs) ys ps at le is =
    let front = x ∷ xs in
    let rest = drop (at + 2 + length ps) front in
    let all : take (length ps) ps ≡ ps = take_all (length ps) ps (omega arith) in
    let long : length (take (at + 2) front) ≡ at + 2 = length-take-le (at + 2) front (omega arith) in
    let two : at + 2 ≡ at + 1 + 1 = omega arith in
    let next : at + 1 ≡ suc at = omega arith in
    let end : at + 2 + length ps ≡ suc (at + suc (length ps)) = omega arith in
    let marked : set (take (at + 2) front) (at + 1) 0 ≡ take (at + 1) front ++ 0 ∷ [] =
    ap (λ m. set (take m front) (at + 1) 0) two ∙ sym (take_set_inside front (at + 1) 0) ∙ take_more_set front (at + 1) 0 (omega arith) in
    ap (λ w. drop 1 (set ys (at + 1) w)) (and_zero_r (get_or ys (at + 1) 0))
    ∙ ap (λ l. drop 1 (set l (at + 1) 0)) (is ∙ ap (slot_put front (at + 2)) all)
    ∙ ap (drop 1) (set-append_left (take (at + 2) front) (ps ++ rest) (at + 1) 0 (omega arith)
    ∙ ap (λ l. l ++ (ps ++ rest)) marked
    ∙ ap (λ m. (take m front ++ 0 ∷ []) ++ (ps ++ rest)) next)
    ∙ append_assoc (take at xs) (0 ∷ []) (ps ++ rest)
    ∙ ap (λ m. take at xs ++ (0 ∷ (ps ++ drop m front))) end

-- the run once the lock is shut
pub put_run : (r : Result (Unit {0}) Refusal) (ws zs packet : List ℕ) (at : ℕ) → 0 < length ws → 0 < length zs
    → drop 1 zs ≡ words_after_put r (drop 1 (set ws 0 1)) at (0 ∷ packet) → set zs 0 0 ≡ run_after_put r ws at packet
put_run r [] zs packet at lt lu e = absurd (omega arith)
put_run r (x ∷ ws) [] packet at lt lu e = absurd (omega arith)
put_run (Ok u) (x ∷ ws) (z ∷ zs) packet at lt lu e = ap (λ l. 0 ∷ l) e ∙ simp (one-add, suc-add)
put_run (Err f) (x ∷ ws) (z ∷ zs) packet at lt lu e = ap (λ l. 0 ∷ l) e

pub format_run : (r : Result (Unit {0}) Refusal) (ws zs : List ℕ) → 0 < length ws → 0 < length zs
    → drop 1 zs ≡ words_after_clear r 4294967295 (drop 1 (set ws 0 1)) → set zs 0 0 ≡ run_after_format r ws
format_run r [] zs lt lu e = absurd (omega arith)
format_run r (x ∷ ws) [] lt lu e = absurd (omega arith)
format_run (Ok u) (x ∷ ws) (z ∷ zs) lt lu e = ap (λ l. 0 ∷ l) e ∙ ap (λ n. 0 ∷ replicate n 4294967295) (omega arith)
format_run (Err f) (x ∷ ws) (z ∷ zs) lt lu e = ap (λ l. 0 ∷ l) e
