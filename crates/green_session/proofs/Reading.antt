-- Bytes that are read, pushed and counted, one piece after the other.
use Rattle.std.proofs.Common.{inl, inr, ◌≡◌, ℕ, ◌^◌, ◌<◌, ◌≤◌, Bool, true, false, List, [], ◌∷◌, ◌++◌, Option, length, refl, sym, ap, subst, ◌∙◌, append_assoc, arith}
use Rattle.std.specs.Prelude.{◌==◌, if◌then◌else◌, Result, Ok, Err, is_err, OnErr}
use Rattle.std.proofs.lemmas.Bool.{eqb-true, eqb-false}
use Rattle.std.proofs.lemmas.List.{append-nil, length-append}
use Rattle.std.specs.Io.KnownBytes.{Consumes, IsAtEnd}
use Rattle.febe_fields.specs.Prefixes.{IsUnfinished}
use Rattle.febe_feed.specs.FeedView.{with_piece, FeedView, later, Awaited, Waits}
use Rattle.green_session.specs.Taking.{TurnsView, ReadState, with_taken, IsWithin, MayRead, IsCutOff, ReadsBytes, Comes}
use Rattle.green_session.specs.inside.InputEnd.{answer_at_end}
use Rattle.green_session.specs.declared.take.Taken.{Taken}
use Rattle.green_session.specs.declared.take.Taken.TheVariants as take_answers
use Rattle.green_session.proofs.Known.{consumes_more, consumes_nothing}

same_turns : (one other : TurnsView) → one.limit ≡ other.limit → one.taken ≡ other.taken → one ≡ other
same_turns one other e f = ap (λ (n : ℕ). record { limit = n; taken = one.taken }) e ∙ ap (λ (n : ℕ). record { limit = other.limit; taken = n }) f

-- these bytes were read, counted and pushed
pub record HasRead (before now : ReadState) : Type 0 where
  pub read : List ℕ
  pub reads : ReadsBytes before now read
  pub pushed : now.feed ≡ with_piece before.feed read

pub nothing_read : (now : ReadState) → now.turns.taken < 2 ^ 64 → HasRead now now
nothing_read now bound = record {
  read = [];
  reads = record { consumed = consumes_nothing now.left; never_falls = omega arith; counted = same_turns now.turns (with_taken now.turns 0) refl (omega (arith, bound)); within = inl refl };
  pushed = ap (λ (bytes : List ℕ). record { greeted = now.feed.greeted; held = bytes; offset = now.feed.offset }) (sym (append-nil now.feed.held));
}

-- the next read gave this piece, so many bytes, where the feed had nothing to give, with turns that allow it
pub record NextRead (now : ReadState) (left : Option (List ℕ)) (faults : ℕ) (piece : List ℕ) (n : ℕ) : Type 0 where
  pub consumed : Consumes now.left left piece
  pub rises : now.faults ≤ faults
  pub count : n ≡ length piece
  pub most : n ≤ 4096
  pub awaits_more : IsUnfinished (Awaited now.feed.greeted) now.feed.held
  pub allowed : now.turns.taken < now.turns.limit
  pub bound : now.turns.limit < 2 ^ 64

module _ (before now : ReadState) (h : HasRead before now) (left : Option (List ℕ)) (faults : ℕ) (piece : List ℕ) (n : ℕ) (next : NextRead now left faults piece n) where
  counted_more : with_taken now.turns n ≡ with_taken before.turns (length (h.read ++ piece))
  counted_more = same_turns (with_taken now.turns n) (with_taken before.turns (length (h.read ++ piece))) (ap (λ (t : TurnsView). t.limit) h.reads.counted)
      (omega (arith, ap (λ (t : TurnsView). t.taken) h.reads.counted, next.count, length-append h.read piece))

  -- below the limit the count is exact
  within_more : IsWithin before.feed before.turns (h.read ++ piece)
  within_more = inr (record {
    earlier = h.read;
    last = piece;
    parts = refl;
    awaits_more = subst (λ (f : FeedView). IsUnfinished (Awaited f.greeted) f.held) h.pushed next.awaits_more;
    below = omega (arith, next.allowed, next.bound, ap (λ (t : TurnsView). t.limit) h.reads.counted, ap (λ (t : TurnsView). t.taken) h.reads.counted);
    most = omega (arith, next.count, next.most);
  })

  -- the piece was read and counted
  pub reads_more : (feed : FeedView) → ReadsBytes before (record { left = left; faults = faults; feed = feed; turns = with_taken now.turns n }) (h.read ++ piece)
  reads_more feed = record {
    consumed = consumes_more before.left now.left left h.read piece h.reads.consumed next.consumed;
    never_falls = omega (arith, h.reads.never_falls, next.rises);
    counted = counted_more;
    within = within_more;
  }

  -- and could not be pushed
  pub cut_off : (feed : FeedView) → feed ≡ now.feed → IsCutOff before.feed feed (h.read ++ piece)
  cut_off feed stays = record { pushed = h.read; lost = piece; parts = refl; feed_is = stays ∙ h.pushed }

  -- or was pushed
  pub read_more : (feed : FeedView) → feed ≡ with_piece now.feed piece → HasRead before (record { left = left; faults = faults; feed = feed; turns = with_taken now.turns n })
  read_more feed pushed = record {
    read = h.read ++ piece;
    reads = reads_more feed;
    pushed = pushed ∙ ap (λ (f : FeedView). with_piece f piece) h.pushed ∙ ap (λ (bytes : List ℕ). record { greeted = before.feed.greeted; held = bytes; offset = before.feed.offset }) (append_assoc before.feed.held h.read piece);
  }

-- ---- the end of the input

no_bytes : (bytes : List ℕ) → length bytes ≡ 0 → bytes ≡ []
no_bytes [] e = refl
no_bytes (b ∷ bytes) e = absurd (omega (arith, e))

some_bytes : (bytes : List ℕ) → (length bytes ≡ 0 → ⊥) → bytes ≡ [] → ⊥
some_bytes bytes some e = some (ap length e)

pub at_end : (before after : ReadState) (read : List ℕ) → Waits (with_piece before.feed read) after.feed → IsAtEnd after.left → MayRead after.turns → (answer : Taken) → answer ≡ answer_at_end after.feed → Comes answer before after read
at_end before after read waits over may answer is = rw is (by_length (length after.feed.held == 0) refl) where
  by_length : (none : Bool) → (length after.feed.held == 0) ≡ none → Comes (if none then take_answers.End else take_answers.Truncated (later after.feed.offset (length after.feed.held))) before after read
  by_length true e = (waits, over, may, no_bytes after.feed.held (eqb-true _ _ e))
  by_length false e = (waits, over, may, some_bytes after.feed.held (eqb-false _ _ e), refl)

-- what waited for the bytes that were pushed
pub waits_for : (feed now next : FeedView) (read : List ℕ) → now ≡ with_piece feed read → Waits now next → Waits (with_piece feed read) next
waits_for feed now next read e h = subst (λ (f : FeedView). Waits f next) e h

-- ---- want of memory

pub was_refused : {T E : Type 0} (result : Result T E) (P : Type 0) → is_err result ≡ true → OnErr result P → P
was_refused (Ok value) P is holds = absurd cc
was_refused (Err error) P is holds = holds
