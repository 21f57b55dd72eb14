-- What the fetches of a board gave, frame by frame and packet by packet.
use Rattle.std.proofs.Common.{◌≡◌, ℕ, ◌+◌, ◌-◌, ◌<◌, ◌≤◌, inl, inr, List, None, Some, refl, sym, ◌∙◌, subst, arith}
use Rattle.std.proofs.lemmas.Bool.{cases_lt}
use Rattle.std.specs.List.{slice_get}
use Rattle.sender.specs.Numbering.{frame_block, frame_position, last_frame}
use Rattle.sender.specs.Sending.{Sending}
use Rattle.sender.specs.Sent.{payload_of}
use Rattle.sender.proofs.Places.{each_once}
use Rattle.history.specs.declared.call.Entry.{Entry}
use Rattle.joint.specs.Held.{Gave, GaveIn, GaveAll, GaveFrame, GaveBelow}

module _ (t : Sending) (fetches : List Entry) where
  -- one frame more
  pub gave_more : (n : ℕ) → GaveBelow t fetches n → GaveFrame t fetches n → GaveBelow t fetches (n + 1)
  gave_more n below here f one lt = elim (cases_lt f n) [
    | inl less ↦ below f one less
    | inr le ↦ let e : n ≡ f = omega arith in subst (GaveFrame t fetches) e here
  ]

  -- every packet comes in a frame
  pub gave_every : GaveBelow t fetches (last_frame t.shape + 1) → GaveAll t fetches
  gave_every below b p lb lp =
      let c = each_once t.shape b p lb lp in
      let here = below c.frame c.numbered.0 (omega (arith, c.numbered)) in
      (c.frame, c.numbered.0, c.at.0, c.at.1, rw c.at.0 at (rw c.at.1 at here))

  -- and each frame brings one
  module _ (all : GaveAll t fetches) (f block position : ℕ) (one : 1 ≤ f) (at : (block ≡ frame_block t.shape f) × (position ≡ frame_position t.shape f)) (inside : (block < t.shape.blocks) × (position < t.shape.positions)) where
    gave_one : GaveFrame t fetches f
    gave_one =
        let lb : frame_block t.shape f < t.shape.blocks = subst (λ n. n < t.shape.blocks) at.0 inside.0 in
        let lp : frame_position t.shape f < t.shape.positions = subst (λ n. n < t.shape.positions) at.1 inside.1 in
        let c = each_once t.shape (frame_block t.shape f) (frame_position t.shape f) lb lp in
        let (g, first, block_is, position_is, here) = all (frame_block t.shape f) (frame_position t.shape f) lb lp in
        let e : g ≡ f = c.only g first block_is position_is ∙ sym (c.only f one refl refl) in
        subst (λ k. GaveIn (frame_block t.shape f) (frame_position t.shape f) (payload_of t f) (slice_get fetches (k - 1))) e here

    -- so the entry of a frame is there, and gave its packet
    pub entry_there : slice_get fetches (f - 1) ≡ None → ⊥
    entry_there none = subst (GaveIn (frame_block t.shape f) (frame_position t.shape f) (payload_of t f)) none gave_one

    pub entry_gave : (words : List ℕ) (e : Entry) → words ≡ payload_of t f → slice_get fetches (f - 1) ≡ Some e → Gave block position words e
    entry_gave words e same is =
        let here : Gave (frame_block t.shape f) (frame_position t.shape f) (payload_of t f) e = subst (GaveIn (frame_block t.shape f) (frame_position t.shape f) (payload_of t f)) is gave_one in
        rw (at.0, at.1, same) here

  -- what an entry gave is the packet of its frame
  pub frame_gave : (f block position : ℕ) (words : List ℕ) (e : Entry) → (block ≡ frame_block t.shape f) × (position ≡ frame_position t.shape f) → words ≡ payload_of t f
      → slice_get fetches (f - 1) ≡ Some e → Gave block position words e → GaveFrame t fetches f
  frame_gave f block position words e at same is g =
      subst (GaveIn (frame_block t.shape f) (frame_position t.shape f) (payload_of t f)) (sym is) (let h : Gave (frame_block t.shape f) (frame_position t.shape f) (payload_of t f) e = rw (sym same, sym at.0, sym at.1) g in h)
