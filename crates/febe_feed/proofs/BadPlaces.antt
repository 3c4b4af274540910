-- The place of a wrong byte stays, whatever pieces come behind it.
use Rattle.std.proofs.Common.{◌≡◌, ℕ, ◌+◌, ◌-◌, List, ◌++◌, length, take, drop, refl, sym, ap, subst, ◌∙◌, append_assoc, inl, inr, arith}
use Rattle.std.proofs.lemmas.Bool.{cases_lt}
use Rattle.std.proofs.lemmas.List.{length-append, take-take, take-append-le, take-append-drop, take_at}
use Rattle.std.proofs.Math.Seq.{take-append-add}
use Rattle.febe_data.specs.Plain.{PlainRequest, plain_request}
use Rattle.febe_fields.specs.Prefixes.{IsPrefix, IsBadAt}
use Rattle.febe_wire.specs.Grammar.{IsSpelled}
use Rattle.febe_wire.specs.Sessions.{greeting}
use Rattle.febe_feed.specs.declared.feed.Next.{Next}
use Rattle.febe_feed.specs.declared.feed.Next.TheVariants as next_answers
use Rattle.febe_feed.specs.FeedView.{FeedView, later, with_piece, Awaited, IsGreeting, Greets, GivesRequest, IsWrong, Waits, IsNext}
use Rattle.febe_feed.specs.Pieces.{BadPlaceStays}

-- ---- bytes that are bad, with more behind them

shorter : (Spelled : List ℕ → Type 0) (bytes : List ℕ) (n : ℕ) → IsPrefix Spelled bytes → IsPrefix Spelled (take n bytes)
shorter Spelled bytes n p = record {
  more = drop n bytes ++ p.more;
  whole = subst Spelled (sym (sym (append_assoc (take n bytes) (drop n bytes) p.more) ∙ ap (λ (ds : List ℕ). ds ++ p.more) (take-append-drop n bytes))) p.whole;
}

module _ (Spelled : List ℕ → Type 0) (bytes : List ℕ) (place : ℕ) (bad : IsBadAt Spelled bytes place) where
  -- the bytes are a prefix of nothing that is spelled
  no_prefix : (rest : List ℕ) → Spelled (bytes ++ rest) → ⊥
  no_prefix rest s = bad.longest (place + 1) (omega arith) (omega (arith, bad.within)) (shorter Spelled bytes (place + 1) (record { more = rest; whole = s }))

  module _ (piece : List ℕ) where
    -- no prefix of the longer bytes is spelled
    none_spelled : (n : ℕ) → Spelled (take n (bytes ++ piece)) → ⊥
    none_spelled n s =
        elim (cases_lt n (length bytes)) [
          | inl lt ↦ bad.none n (omega (arith, lt)) (subst Spelled (take-append-le n bytes piece (omega (arith, lt))) s)
          | inr past ↦
              let longer : n ≡ length bytes + (n - length bytes) = omega (arith, past) in
              let e : take n (bytes ++ piece) ≡ bytes ++ take (n - length bytes) piece = ap (λ (k : ℕ). take k (bytes ++ piece)) longer ∙ take-append-add bytes piece (n - length bytes) in
              no_prefix (take (n - length bytes) piece) (subst Spelled e s)
        ]

    -- they are bad at the same place
    same_place : (at : ℕ) → IsBadAt Spelled (bytes ++ piece) at → at ≡ place
    same_place at longer =
        elim (cases_lt at place) [
          | inl lt ↦ absurd (longer.longest place lt (omega (arith, bad.within, length-append bytes piece)) (subst (IsPrefix Spelled) (sym (take-append-le place bytes piece (omega (arith, bad.within)))) bad.prefix))
          | inr ge ↦ elim (cases_lt place at) [
            | inl lt ↦
                let e : take (place + 1) (take at (bytes ++ piece)) ≡ take (place + 1) bytes = take-take (place + 1) at (bytes ++ piece) (omega (arith, lt)) ∙ take-append-le (place + 1) bytes piece (omega (arith, bad.within)) in
                absurd (bad.longest (place + 1) (omega arith) (omega (arith, bad.within)) (subst (IsPrefix Spelled) e (shorter Spelled (take at (bytes ++ piece)) (place + 1) longer.prefix)))
            | inr le ↦ omega (arith, ge, le)
          ]
        ]

-- ---- what comes next

module _ (before feed : FeedView) (at : ℕ) (piece : List ℕ) (w : IsWrong before feed at) where
  bad_held : IsBadAt (Awaited feed.greeted) feed.held w.place
  bad_held = rw w.stays w.bad

  no_greeting : (after : FeedView) → Greets (with_piece feed piece) after → ⊥
  no_greeting after g =
      let bad : IsBadAt IsGreeting feed.held w.place = rw g.first at bad_held in
      none_spelled IsGreeting feed.held w.place bad piece (length greeting) (ap (take (length greeting)) g.prefix ∙ take_at greeting after.held (length greeting) refl)

  no_request : (after : FeedView) (request : PlainRequest) → GivesRequest (with_piece feed piece) after request → ⊥
  no_request after request g =
      let bad : IsBadAt IsSpelled feed.held w.place = rw g.greeted at bad_held in
      none_spelled IsSpelled feed.held w.place bad piece g.used (record { request = request; spells = g.read.spells })

  does_not_wait : (after : FeedView) → Waits (with_piece feed piece) after → ⊥
  does_not_wait after h =
      no_prefix (Awaited feed.greeted) feed.held w.place bad_held (piece ++ h.prefix.prefix.more)
      (subst (Awaited feed.greeted) (append_assoc feed.held piece h.prefix.prefix.more) h.prefix.prefix.whole)

  told_again : (after : FeedView) (k : ℕ) → IsWrong (with_piece feed piece) after k → k ≡ at
  told_again after k h =
      let same : h.place ≡ w.place = same_place (Awaited feed.greeted) feed.held w.place bad_held piece h.place h.bad in
      h.at_is ∙ ap (later feed.offset) same ∙ ap (λ (f : FeedView). later f.offset w.place) w.stays ∙ sym w.at_is

  pub stays_bad : (after : FeedView) (next : Next) → IsNext (with_piece feed piece) after next → (next ≡ next_answers.Bad at) × (after ≡ with_piece feed piece)
  stays_bad after next_answers.Greeting h = absurd (no_greeting after h)
  stays_bad after (next_answers.Request request) h = absurd (no_request after (plain_request request) h)
  stays_bad after next_answers.NotYet h = absurd (does_not_wait after h)
  stays_bad after (next_answers.Bad k) h = (ap next_answers.Bad (told_again after k h), h.stays)

pub bad_place_stays : BadPlaceStays
bad_place_stays before feed after at piece next w h = stays_bad before feed at piece w after next h
