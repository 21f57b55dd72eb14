-- A block of a grid with its missing packets put: it holds the one codeword that agrees with what it held.
use Rattle.std.proofs.Common.{◌≡◌, ℕ, ◌+◌, ◌*◌, ◌^◌, ◌<◌, false, not, List, [], length, get_or, is_some, Some, None, Option, sym, refl, ap, ◌∙◌, subst, inl, inr, arith, pow_pos}
use native.Mathlib.Decide.{ℕ_discrete, dec_lt}
use Rattle.std.specs.List.{between}
use Rattle.std.proofs.lemmas.List.Edits.{get_or-between}
use Rattle.std.proofs.lemmas.List.{get_or_past}
use Rattle.algebra.specs.Code.{Code, Block, SamePacket, ZeroPacket, among}
use Rattle.algebra.proofs.Marks.{two, true_false, among_find}
use Rattle.layout.specs.declared.shape.Shape.{Shape}
use Rattle.layout.specs.declared.losses.LossList.{LossList}
use Rattle.layout.specs.Sizes.{parity_of, packet_of, Packets, lost}
use Rattle.layout.specs.Blocks.{code_of, packet_in, block_at}
use Rattle.layout.proofs.Places.{part_ends}
use Rattle.layout.proofs.Parts.{part_length}
use Rattle.layout.proofs.Entries.{entry_read}
use Rattle.store.specs.Grids.{Grid, packet_or}
use Rattle.code.specs.Lost.{AgreeOff, LostPackets}
use Rattle.receiver.specs.Sound.{IsPacket, Fitted}
use Rattle.receiver.specs.Blocks.{block_of, Missing, Agrees}
use Rattle.receiver.specs.Repairs.{Completes}
use Rattle.receiver.specs.Steps.{Lacks, Put}
use Rattle.receiver.proofs.Reading.{same_read, empty_zero}
use Rattle.receiver.proofs.Putting.{was_empty}

-- a slot that is not empty
pub held_from : (o : Option (List ℕ)) → false ≡ not (is_some o) → (ws : List ℕ) × (o ≡ Some ws)
held_from (Some ws) e = (ws, refl)
held_from None e = absurd (let z : ◌≡◌ {A = ℕ} 0 1 = cc in omega arith)

-- the words of a part of a run
part_words : (run : List ℕ) (a n : ℕ) → ((k : ℕ) → get_or run k 0 < 2 ^ 32) → length (between a (a + n) run) ≡ n → (k : ℕ) → get_or (between a (a + n) run) k 0 < 2 ^ 32
part_words run a n fits long k = elim (dec_lt k n) [
  | yes h ↦ rw (get_or-between run a (a + n) k 0 (omega arith)) (fits (a + k))
  | no h ↦ rw (get_or_past (between a (a + n) run) k 0 (omega arith)) (pow_pos 32)
]

module _ (s : Shape) (prod : ℕ → ℕ → ℕ) (l : LossList) (g : Grid) (i : ℕ) where
  abbrev C : Code
  C = code_of s prod

  -- to have the packets that the block holds is to agree off the missing positions
  pub agree_off : Missing s g i l → (d : Block) → Agrees C g i d → AgreeOff C l d (block_of C g i)
  agree_off M d a q h f j c p r =
      let o = held_from (g.slots i q) (sym f ∙ M.same q h) in
      a q o.0 h o.1 j c p r ∙ same_read C _ _ (sym o.1) j c p r

  -- and the other way round
  pub agree_held : Missing s g i l → (d : Block) → AgreeOff C l d (block_of C g i) → Agrees C g i d
  agree_held M d a q ws h e j c p r = a q h (M.same q h ∙ ap (λ o. not (is_some o)) e) j c p r ∙ same_read C _ _ e j c p r

  module _ (A : Lacks s g i l) where
    -- the missing packets read as zero
    pub missing_gone : (k : ℕ) → k < l.len → ZeroPacket C (block_of C g i (lost l k))
    missing_gone k h = empty_zero C _ (sym (ap is_some (was_empty s l i [] g A k h)))

    module _ (run : List ℕ) (h : Grid) (size : Packets s (parity_of s + 1) run) (fits : (k : ℕ) → get_or run k 0 < 2 ^ 32) (P : Put s l i l.len run g h) where
      -- packet number k of the run
      abbrev part : ℕ → List ℕ
      part k = between (k * packet_of s) (k * packet_of s + packet_of s) run

      put_packet : (k : ℕ) → k < l.len → IsPacket (packet_of s) (part k)
      put_packet k m =
          let few = A.missing.few in
          let long = part_length run k (packet_of s) (part_ends k (parity_of s + 1) (packet_of s) refl refl size (omega arith)) in
          record { long = long; words = part_words run (k * packet_of s) (packet_of s) fits long }

      slot_held : (q : ℕ) → among (lost l) l.len q ≡ false → h.slots i q ≡ g.slots i q
      slot_held q f = P.off i q (λ _ e. true_false (among (lost l) l.len q) e f)

      filled : (q : ℕ) → q < s.positions → (ws : List ℕ) × (h.slots i q ≡ Some ws) × IsPacket (packet_of s) ws
      filled q m = elim (two (among (lost l) l.len q)) [
        | inl f ↦ let k = among_find (lost l) l.len q f in (part k.0, ap (h.slots i) (sym k.2) ∙ P.at k.0 k.1, put_packet k.0 k.1)
        | inr f ↦
            let o = held_from (g.slots i q) (sym f ∙ A.missing.same q m) in
            (o.0, slot_held q f ∙ o.1, A.fitted.packets i q o.0 o.1)
      ]

      pub still_fitted : Fitted s h
      still_fitted = record {
        rows = P.rows_same ∙ A.fitted.rows;
        columns = P.columns_same ∙ A.fitted.columns;
        size = P.size_same ∙ A.fitted.size;
        packets = λ a b ws e. elim (two (among (lost l) l.len b)) [
          | inr f ↦ A.fitted.packets a b ws (sym (P.off a b (λ _ t. true_false (among (lost l) l.len b) t f)) ∙ e)
          | inl f ↦ elim (ℕ_discrete a i) [
            | no z ↦ A.fitted.packets a b ws (sym (P.off a b (λ y _. z y)) ∙ e)
            | yes z ↦
                let k = among_find (lost l) l.len b f in
                let q : Some (part k.0) ≡ Some ws = sym (P.at k.0 k.1) ∙ ap (h.slots i) k.2 ∙ ap (λ v. h.slots v b) (sym z) ∙ e in
                let same : part k.0 ≡ ws = cc in
                subst (IsPacket (packet_of s)) same (put_packet k.0 k.1)
          ]
        ];
      }

      module _ (L : LostPackets C l (block_of C g i) run) where
        slot_lost : (k : ℕ) → k < l.len → SamePacket C (block_of C h i (lost l k)) (block_at C run k)
        slot_lost k m j c p r = same_read C _ _ (P.at k m) j c p r ∙ entry_read C k (packet_of s) run refl j c p r

        agrees : AgreeOff C l (block_of C h i) (block_of C g i)
        agrees q m f = same_read C _ _ (slot_held q f)

        pub completes : Completes C g i h
        completes = record {
          rows_same = P.rows_same;
          columns_same = P.columns_same;
          size_same = P.size_same;
          filled = filled;
          kept = λ q ws e. elim (two (among (lost l) l.len q)) [
            | inl f ↦
                let k = among_find (lost l) l.len q f in
                let none : Some ws ≡ None = sym e ∙ ap (g.slots i) (sym k.2) ∙ was_empty s l i run g A k.0 k.1 in
                absurd (let z : ◌≡◌ {A = ℕ} 0 1 = cc in omega arith)
            | inr f ↦ slot_held q f ∙ e
          ];
          others = λ a b ne. P.off a b (λ z f. let k = among_find (lost l) l.len b f in ne z (subst (λ v. v < s.positions) k.2 (A.missing.below k.0 k.1)));
          codeword = record {
            words = λ q m j c p r. let o = filled q m in subst (λ v. packet_in s.words (packet_or v []) j c < 2 ^ 32) (sym o.1) (o.2.words (j * s.words + c));
            sums = L.zero (block_of C h i) agrees slot_lost;
          };
          only = λ d is a q m. elim (two (among (lost l) l.len q)) [
            | inl f ↦
                let k = among_find (lost l) l.len q f in
                subst (λ v. SamePacket C (d v) (block_of C h i v)) k.2 (λ j c p r. L.only d (agree_off A.missing d a) is.sums k.0 k.1 j c p r ∙ sym (slot_lost k.0 k.1 j c p r))
            | inr f ↦ λ j c p r. agree_off A.missing d a q m f j c p r ∙ sym (agrees q m f j c p r)
          ];
        }
