-- Reading a ledger, and how it grows.
use Rattle.std.proofs.Common.{◌≡◌, ℕ, zero, suc, ◌<◌, Bool, true, false, ◌&&◌, ◌||◌, ◌==◌, ◌⊎◌, List, [], ◌∷◌, ◌++◌, length, get_or, refl, ap, ◌∙◌, subst, inl, inr, ◌≢◌, arith}
use Rattle.std.specs.List.{list_any, Contains, AllByRecursion}
use Rattle.std.proofs.lemmas.Bool.{and_parts, and_from, or_cases, or_left, or_right, eqb-true, eq-eqb, cond-true}
use Rattle.algebra.specs.Code.{count}
use Rattle.frame.specs.Frames.{Sight, shape, packet, parse}
use Rattle.history.specs.declared.call.Call.{Call}
use Rattle.history.specs.declared.call.Call.TheVariants.{Take, Repair}
use Rattle.history.specs.declared.call.Answer.{Answer}
use Rattle.history.specs.declared.call.Answer.TheVariants.{Shaped, Fresh, Known, Whole}
use Rattle.history.specs.Turns.{Turn}
use Rattle.history.specs.Ledger.{Acceptance, Ledger, acceptance, completing, after_frame, after_call, continued, Accepted, any_accepted, has}

-- Elements of a list

pub contains_more : {X : Type 0} (y x : X) (xs : List X) → Contains xs x → Contains (y ∷ xs) x
contains_more y x xs h = (suc h.0, omega (arith, h.1), h.2)

pub contains_here : {X : Type 0} (x : X) (xs : List X) → Contains (x ∷ xs) x
contains_here x xs = (0, omega arith, refl)

pub contains_cases : {X : Type 0} (y x : X) (xs : List X) → Contains (y ∷ xs) x → (y ≡ x) ⊎ Contains xs x
contains_cases {X} y x xs h = at h.0 h.1 h.2
  where
    at : (k : ℕ) → k < length (y ∷ xs) → get_or (y ∷ xs) k x ≡ x → (y ≡ x) ⊎ Contains xs x
    at zero lt is = inl is
    at (suc k) lt is = inr (k, omega arith, is)

-- What has any_accepted

-- where a packet was accepted, one has any_accepted
pub accepted_any : (l : Ledger) (i j : ℕ) (ws : List ℕ) → Accepted l i j ws → any_accepted l i j ≡ true
accepted_any l i j ws h = on l.accepted h
  where
    on : (rest : List Acceptance) → Contains rest (acceptance i j ws) → list_any (λ (a : Acceptance). a.block == i && a.position == j) rest ≡ true
    on [] h = absurd (omega (arith, h.1))
    on (a ∷ rest) h = elim (contains_cases a (acceptance i j ws) rest h) [
      | inl e ↦ or_left _ _ (and_from _ _ (eq-eqb _ _ (ap (λ (x : Acceptance). x.block) e)) (eq-eqb _ _ (ap (λ (x : Acceptance). x.position) e)))
      | inr r ↦ or_right _ _ (on rest r)
    ]

-- where one has any_accepted, a packet was accepted
pub any_is_accepted : (l : Ledger) (i j : ℕ) → any_accepted l i j ≡ true → (ws : List ℕ) × Accepted l i j ws
any_is_accepted l i j e = on l.accepted e
  where
    on : (rest : List Acceptance) → list_any (λ (a : Acceptance). a.block == i && a.position == j) rest ≡ true → (ws : List ℕ) × Contains rest (acceptance i j ws)
    on [] e = absurd (cc)
    on (a ∷ rest) e = elim (or_cases _ _ e) [
      | inl t ↦
          let u = and_parts _ _ t in
          let block = eqb-true _ _ u.0 in
          let position = eqb-true _ _ u.1 in
          let is : a ≡ acceptance i j a.payload = λ z. acceptance (block z) (position z) a.payload in
          (a.payload, subst (Contains (a ∷ rest)) is (contains_here a rest))
      | inr t ↦ let h = on rest t in (h.0, contains_more a (acceptance i j h.0) rest h.1)
    ]

-- a block that is whole has a packet everywhere, and another where one has any_accepted
pub has_whole : (l : Ledger) (i j : ℕ) → l.whole i ≡ true → has l i j ≡ true
has_whole l i j w = ap (λ b. b || any_accepted l i j) w

pub has_accepted : (l : Ledger) (i j : ℕ) → l.whole i ≡ false → has l i j ≡ any_accepted l i j
has_accepted l i j w = ap (λ b. b || any_accepted l i j) w

-- all positions are marked
pub count_all : (marked : ℕ → Bool) (n : ℕ) → ((q : ℕ) → q < n → marked q ≡ true) → count marked n ≡ n
unfolding count
count_all marked zero h = refl
count_all marked (suc n) h = cond-true (marked n) _ _ (h n (omega arith)) ∙ ap suc (count_all marked n (λ q l. h q (omega arith)))

-- How it grows while no shape comes

-- a ledger that has all that another has, under the same shape
pub record Grown (l l' : Ledger) : Type 0 where
  pub shape_same : l'.shape ≡ l.shape
  pub more : (i j : ℕ) (ws : List ℕ) → Accepted l i j ws → Accepted l' i j ws
  pub still : (i : ℕ) → l.whole i ≡ true → l'.whole i ≡ true

grown_none : (l : Ledger) → Grown l l
grown_none l = record { shape_same = refl; more = λ i j ws h. h; still = λ i e. e }

pub grown_completing : (l : Ledger) (i : ℕ) → Grown l (completing l i)
grown_completing l i = record { shape_same = refl; more = λ a j ws h. h; still = λ a e. or_right _ _ e }

grown_frame : (l : Ledger) (f : Sight) (answer : Answer) → answer ≢ Shaped → Grown l (after_frame l f answer)
grown_frame l (shape d) Shaped n = absurd (n refl)
grown_frame l (packet i j ws) Fresh n = record { shape_same = refl; more = λ a q vs h. contains_more (acceptance i j ws) (acceptance a q vs) l.accepted h; still = λ a e. e }
grown_frame l (packet i j ws) Known n = record { shape_same = refl; more = λ a q vs h. contains_more (acceptance i j ws) (acceptance a q vs) l.accepted h; still = λ a e. e }
grown_frame l f answer n = grown_none l

grown_call : (l : Ledger) (call : Call) (run : List ℕ) (answer : Answer) → answer ≢ Shaped → Grown l (after_call l call run answer)
grown_call l Take run answer n = grown_frame l (parse run) answer n
grown_call l (Repair i) run (Whole k) n = grown_completing l i
grown_call l call run answer n = grown_none l

pub grown : (l : Ledger) (ts : List Turn) → AllByRecursion (λ (t : Turn). t.answer ≢ Shaped) ts → Grown l (continued l ts)
unfolding continued
grown l [] n = grown_none l
grown l (t ∷ ts) n =
    let one = grown_call l t.call t.before t.answer n.0 in
    let rest = grown (after_call l t.call t.before t.answer) ts n.1 in
    record {
      shape_same = rest.shape_same ∙ one.shape_same;
      more = λ i j ws h. rest.more i j ws (one.more i j ws h);
      still = λ i e. rest.still i (one.still i e);
    }

-- the ledger after some turns and then some more
pub continued_append : (l : Ledger) (ts us : List Turn) → continued l (ts ++ us) ≡ continued (continued l ts) us
unfolding continued
continued_append l [] us = refl
continued_append l (t ∷ ts) us = continued_append (after_call l t.call t.before t.answer) ts us

pub continued_after : (l : Ledger) (t : Turn) (ts : List Turn) → continued l (t ∷ ts) ≡ continued (after_call l t.call t.before t.answer) ts
unfolding continued
continued_after l t ts = refl
