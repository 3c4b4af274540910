-- A session from its greeting to its end.
use Rattle.std.proofs.Common.{true, ◌<◌, ◌≡◌, ◌≢◌, ℕ, ◌+◌, ◌≤◌, false, List, [], ◌∷◌, ◌++◌, length, take, Option, Err, refl, ap, ◌∙◌, sym, subst, inl, inr, arith, le_refl}
use Rattle.std.proofs.lemmas.List.{append-nil, length-append}
use Rattle.febe_data.specs.LimitsView.{LimitsView}
use Rattle.febe_data.specs.Plain.{PlainEntry}
use Rattle.febe_wire.specs.Sessions.{greeting}
use Rattle.febe_feed.specs.FeedView.{with_piece, FeedView, Waits, IsGreeting, later}
use Rattle.febe_feed.specs.Pieces.{HasGiven}
use Rattle.febe_feed.proofs.Inputted.{waiting_is_open, waiting_is_truncated}
use Rattle.febe_feed.proofs.Malformed.{wrong_is_malformed}
use Rattle.febe_fields.specs.Prefixes.{HasNoSpelledPrefix}
use Rattle.world_rules.specs.History.{is_live, entries_of}
use Rattle.world_rules.specs.Legal.{Exchange}
use Rattle.green_session.specs.Taking.{TurnsView, ReadState, read_state, IsTaken, MayRead}
use Rattle.green_session.specs.declared.take.Taken.{Taken}
use Rattle.green_session.specs.declared.take.Taken.TheVariants as take_answers
use Rattle.green_store.specs.Sessions.{greatest_session, end_entry}
use Rattle.green_top.specs.declared.session_end.SessionEnd.{SessionEnd}
use Rattle.green_top.specs.declared.session_end.SessionEnd.TheVariants as ends
use Rattle.green_top.specs.inside.Next.{NextIs}
use Rattle.green_top.specs.IoState.{IoState, io_state, with_disk_faults, Moves}
use Rattle.green_top.specs.Requests.{IsNotGreeted}
use Rattle.green_top.specs.Ends.{most_input, Cause, NeverBegan}
use Rattle.green_top.specs.Times.{WithoutSession}
use Rattle.green_top.specs.Transcript.{IsEnding, Transcript}
use Rattle.green_top.specs.inside.Opening.{Begins}
use Rattle.green_top.specs.Outcome.{IsOver, Leaves, IsRun, HasServedAlone}
use Rattle.green_top.specs.inside.Play.{BeginsAt, EndsAt}
use Rattle.green_top.specs.inside.Progress.{Progress}
use Rattle.green_top.specs.inside.Conversation.{SessionState, session_state, with_history, IsGreeted, all_read, IsConversed, IsSession}
use Rattle.green_top.proofs.Rises.{rises_wider}
use Rattle.green_top.proofs.Streams.{consumes_nothing, appends_nothing, risen_since}
use Rattle.green_top.proofs.Conversations.{moves_both}
use Rattle.green_top.proofs.Liveness.{own_live, none_above, not_live_above, not_live_behind_end}
use Rattle.green_top.proofs.Progresses.{IsOwn, own_one, progress_past, transcript_of}

-- ---- the begin of a session

pub begins_at : (session : ℕ) (seen after : List PlainEntry) (b : BeginsAt session seen after) → Begins session (seen ++ b.past) after
begins_at session seen after b =
    let above : greatest_session (seen ++ b.past) < session = omega (arith, b.number_is) in
    record { grows = b.grows; no_entry = none_above (seen ++ b.past) session above; not_live = not_live_above (seen ++ b.past) session above }

pub is_numbered : (session : ℕ) (seen after : List PlainEntry) → BeginsAt session seen after → session ≢ 0
is_numbered session seen after b none = omega (arith, none, b.number_is)

-- ---- the end of a session

-- what the disk counted has no part in why a session ended
cause_beside : (end : SessionEnd) (read : List ℕ) (before after : IoState) (m n : ℕ) → Cause end read (with_disk_faults before m) after → Cause end read before (with_disk_faults after n)
cause_beside ends.Quit read before after m n cause = cause
cause_beside ends.End read before after m n cause = cause
cause_beside (ends.Malformed at) read before after m n cause = cause
cause_beside (ends.Truncated at) read before after m n cause = cause
cause_beside ends.ReadFault read before after m n cause = cause
cause_beside ends.WriteFault read before after m n cause = cause
cause_beside ends.Memory read before after m n cause = cause
cause_beside ends.Budget read before after m n cause = cause
cause_beside ends.NoNumber read before after m n cause = cause

module _ (limits : LimitsView) (session : ℕ) (first now : SessionState) (begun : List PlainEntry) (begun_faults last_faults : ℕ) (earlier : first.io.disk_faults ≤ begun_faults) (later_still : now.io.disk_faults ≤ last_faults)
    (b : BeginsAt session first.history begun) (end : SessionEnd) (exchanges : List Exchange) (c : IsConversed limits session (with_history first begun begun_faults) now exchanges end) where
  is_over : (h more after : List PlainEntry) → Progress limits session begun h exchanges now.points c.answered c.output → IsEnding session (entries_of session h) more → IsOwn session more → after ≡ h ++ more → is_live after session ≡ false
      → IsOver limits session after exchanges now.points c.answered c.output
  is_over h more after p ending own e over = record {
    over = over;
    transcript = subst (λ (x : List PlainEntry). Transcript limits session x exchanges c.answered now.points c.output) (sym e)
        (transcript_of limits session (first.history ++ b.past) begun h (begins_at session first.history begun b) exchanges now.points c.answered c.output p more ending own);
  }

  ended_session : (after : List PlainEntry) → IsOver limits session after exchanges now.points c.answered c.output → IsSession limits session first (with_history now after last_faults) exchanges end
  ended_session after over = record {
    read = c.read;
    written = c.written;
    moves = record { consumed = c.moves.consumed; appended = c.moves.appended; source_never_falls = c.moves.source_never_falls; sink_never_falls = c.moves.sink_never_falls; disk_never_falls = omega (arith, earlier, c.moves.disk_never_falls, later_still) };
    counted = c.counted;
    within = c.within;
    cause = cause_beside end (all_read first c.read) first.io now.io begun_faults last_faults c.cause;
    leaves = inr (record {
      numbered = is_numbered session first.history begun b;
      has_number = b.has_number;
      answered = c.answered;
      output = c.output;
      over = over;
      answered_and_written = c.answered_and_written;
    });
  }

  -- it was live, and was ended behind what others had added
  pub ends_live : (after : List PlainEntry) → is_live now.history session ≡ true → EndsAt session now.history after → IsSession limits session first (with_history now after last_faults) exchanges end
  ends_live after live e =
      let h : List PlainEntry = now.history ++ e.past in
      let alive : is_live h session ≡ true = e.others.live_stays now.history ∙ live in
      ended_session after
      (is_over h (end_entry h session ∷ []) after (progress_past limits session begun now.history exchanges now.points c.answered c.output c.progress e.past e.others) (inr (own_live session h alive, refl))
      (own_one session (end_entry h session) refl) e.grows (ap (λ (x : List PlainEntry). is_live x session) e.grows ∙ not_live_behind_end session h))

  -- it was not
  pub ends_over : is_live now.history session ≡ false → IsSession limits session first (with_history now now.history last_faults) exchanges end
  ends_over over = ended_session now.history (is_over now.history [] now.history c.progress (inl refl) refl (sym (append-nil now.history)) over)

-- the same, for a session that was served under limits and a number that are these
module _ (limits own : LimitsView) (same : own ≡ limits) (session mine : ℕ) (is_mine : mine ≡ session) (first now : SessionState) (begun : List PlainEntry) (begun_faults last_faults : ℕ) (earlier : first.io.disk_faults ≤ begun_faults) (later_still : now.io.disk_faults ≤ last_faults)
    (b : BeginsAt session first.history begun) (end : SessionEnd) (exchanges : List Exchange) (c : IsConversed own session (with_history first begun begun_faults) now exchanges end) where
  conversed : IsConversed limits session (with_history first begun begun_faults) now exchanges end
  conversed = subst (λ (l : LimitsView). IsConversed l session (with_history first begun begun_faults) now exchanges end) same c

  pub ends_live_under : (after : List PlainEntry) → is_live now.history session ≡ true → EndsAt session now.history after → IsSession limits mine first (with_history now after last_faults) exchanges end
  ends_live_under after live e = subst (λ (n : ℕ). IsSession limits n first (with_history now after last_faults) exchanges end) (sym is_mine)
      (ends_live limits session first now begun begun_faults last_faults earlier later_still b end exchanges conversed after live e)

  pub ends_over_under : is_live now.history session ≡ false → IsSession limits mine first (with_history now now.history last_faults) exchanges end
  ends_over_under over = subst (λ (n : ℕ). IsSession limits n first (with_history now now.history last_faults) exchanges end) (sym is_mine)
      (ends_over limits session first now begun begun_faults last_faults earlier later_still b end exchanges conversed over)

-- there was no memory to begin, or no number
pub did_not_begin : (limits : LimitsView) (session : ℕ) (end : SessionEnd) (start : SessionState) (history : List PlainEntry) (faults : ℕ) → IsGreeted start → start.points ≡ [] → session ≡ 0 → start.io.disk_faults ≤ faults
    → NeverBegan history end (all_read start []) → Cause end (all_read start []) start.io (with_disk_faults start.io faults) → IsSession limits session start (with_history start history faults) [] end
did_not_begin limits session end start history faults greeted none unnumbered later_still never_began cause = record {
  read = [];
  written = [];
  moves = record { consumed = consumes_nothing start.io.left; appended = appends_nothing start.io.taken; source_never_falls = le_refl _; sink_never_falls = le_refl _; disk_never_falls = later_still };
  counted = ap (λ (t : TurnsView). t.taken) greeted.turns_are ∙ ap length (sym (append-nil (greeting ++ start.feed.held)));
  within = omega (arith, greeted.within, ap length (append-nil (greeting ++ start.feed.held)));
  cause = cause;
  leaves = inl (never_began, record { unnumbered = unnumbered; none_answered = refl; no_points = none; nothing = refl });
}

-- ---- the greeting

abbrev fresh_feed : FeedView
fresh_feed = record { greeted = false; held = []; offset = 0 }

abbrev fresh_turns : TurnsView
fresh_turns = record { limit = most_input; taken = 0 }

cause_since : (end : SessionEnd) (read : List ℕ) (start mid after : IoState) → start.source_faults ≤ mid.source_faults → start.sink_faults ≤ mid.sink_faults → Cause end read mid after → Cause end read start after
cause_since ends.Quit read start mid after s k cause = cause
cause_since ends.End read start mid after s k cause = cause
cause_since (ends.Malformed at) read start mid after s k cause = cause
cause_since (ends.Truncated at) read start mid after s k cause = cause
cause_since ends.ReadFault read start mid after s k cause = (cause.0, cause.1, risen_since start.source_faults mid.source_faults after.source_faults s cause.2)
cause_since ends.WriteFault read start mid after s k cause = risen_since start.sink_faults mid.sink_faults after.sink_faults k cause
cause_since ends.Memory read start mid after s k cause = cause
cause_since ends.Budget read start mid after s k cause = cause
cause_since ends.NoNumber read start mid after s k cause = cause

module _ (limits : LimitsView) (session : ℕ) (unnumbered : session ≡ 0) (left left' : Option (List ℕ)) (before after : ℕ) (feed : FeedView) (turns : TurnsView) (taken : Option (List ℕ)) (faults disk_faults : ℕ) where
  abbrev from : ReadState
  from = read_state left before fresh_feed fresh_turns

  abbrev to : ReadState
  to = read_state left' after feed turns

  abbrev out0 : IoState
  out0 = io_state left before taken faults disk_faults

  abbrev out1 : IoState
  out1 = io_state left' after taken faults disk_faults

  -- what was read is counted, and is no more than the budget allows
  module _ (what : Taken) (t : IsTaken from to what) where
    bounded : length t.read ≤ most_input + 4095
    bounded = elim t.reads.within [
      | inl e ↦ omega (arith, ap length e)
      | inr w ↦ omega (arith, w.below, w.most, ap length w.parts, length-append w.earlier w.last)
    ]

    counts : turns ≡ record { limit = most_input; taken = length t.read }
    counts =
        let n : later 0 (length t.read) ≡ length t.read = omega (arith, bounded) in
        t.reads.counted ∙ ap (λ (n : ℕ). record { limit = most_input; taken = n }) n

    -- another read could be made
    below : MayRead turns → length t.read < most_input
    below may = rw counts at may

    reads : Moves out0 out1 t.read []
    reads = record { consumed = t.reads.consumed; appended = appends_nothing taken; source_never_falls = t.reads.never_falls; sink_never_falls = le_refl faults; disk_never_falls = le_refl disk_faults }

    given : HasGiven t.read [] (with_piece fresh_feed t.read)
    given = record { parts = refl; valid = tt; none = λ e. refl; place = omega arith }

    no_greeting : HasNoSpelledPrefix IsGreeting t.read → IsNotGreeted t.read
    no_greeting none rest e = none 3 (omega (arith, ap length e, length-append greeting rest)) (ap (take 3) e)

    pub never : (end : SessionEnd) (h : List PlainEntry) (points : List ℕ) (n : ℕ) → points ≡ [] → n ≡ turns.taken → Cause end t.read out0 out1 → NeverBegan h end t.read → IsRun limits session out0 out1 h [] points n end
    never end h points n none is cause never_began = record {
      read = t.read;
      written = [];
      moves = reads;
      counted = is ∙ ap (λ (x : TurnsView). x.taken) counts;
      within = bounded;
      cause = cause;
      leaves = inl (never_began, record { unnumbered = unnumbered; none_answered = refl; no_points = none; nothing = refl });
    }

  -- ---- the greeting came

  module _ (t : IsTaken from to take_answers.Greeting) where
    prefix : t.read ≡ greeting ++ feed.held
    prefix = t.comes.prefix

    pub is_greeted : (h : List PlainEntry) (points : List ℕ) → IsGreeted (session_state h points feed turns out1)
    is_greeted h points = record {
      greeted = t.comes.greeted;
      place = t.comes.offset ∙ omega arith;
      turns_are = counts take_answers.Greeting t ∙ ap (λ (bytes : List ℕ). record { limit = most_input; taken = length bytes }) prefix;
      within = omega (arith, ap length prefix, bounded take_answers.Greeting t);
    }

    pub run_of_session : (mine : ℕ) (h final : List PlainEntry) (exchanges : List Exchange) (points points' : List ℕ) (feed' : FeedView) (turns' : TurnsView) (out2 : IoState) (end : SessionEnd) (n : ℕ)
        → IsSession limits mine (session_state h points feed turns out1) (session_state final points' feed' turns' out2) exchanges end → n ≡ turns'.taken → IsRun limits mine out0 out2 final exchanges points' n end
    run_of_session mine h final exchanges points points' feed' turns' out2 end n s is =
        let stream : (greeting ++ feed.held) ++ s.read ≡ t.read ++ s.read = ap (λ (bytes : List ℕ). bytes ++ s.read) (sym prefix) in
        record {
          read = t.read ++ s.read;
          written = s.written;
          moves = moves_both out0 out1 out2 t.read s.read [] s.written (reads take_answers.Greeting t) s.moves;
          counted = is ∙ s.counted ∙ ap length stream;
          within = omega (arith, s.within, ap length stream);
          cause = cause_since end (t.read ++ s.read) out0 out1 out2 t.reads.never_falls (le_refl faults) (subst (λ (bytes : List ℕ). Cause end bytes out1 out2) stream s.cause);
          leaves = subst (λ (bytes : List ℕ). Leaves limits mine end bytes s.written final exchanges points') stream s.leaves;
        }

  -- ---- it did not

  waits_none : (read : List ℕ) → Waits (with_piece fresh_feed read) feed → HasNoSpelledPrefix IsGreeting read
  waits_none read w = w.prefix.none

  pub run_of_none : (h : List PlainEntry) (points : List ℕ) (n : ℕ) (end : SessionEnd) → points ≡ [] → n ≡ turns.taken
      → NextIs (IsTaken from to) (Err end) → IsRun limits session out0 out1 h [] points n end
  run_of_none h points n ends.Quit none is t = absurd t
  run_of_none h points n ends.End none is t =
      never take_answers.End t ends.End h points n none is (t.comes.1, below take_answers.End t t.comes.2) (sym (ap (λ (f : FeedView). f.held) t.comes.0.stays) ∙ t.comes.3)
  run_of_none h points n (ends.Malformed at) none is t =
      never (take_answers.Malformed at) t (ends.Malformed at) h points n none is
      (wrong_is_malformed t.read [] (with_piece fresh_feed t.read) feed at (given (take_answers.Malformed at) t) tt (omega (arith, bounded (take_answers.Malformed at) t)) t.comes)
      (no_greeting (take_answers.Malformed at) t t.comes.bad.none)
  run_of_none h points n (ends.Truncated at) none is t =
      let w = t.comes.0 in
      let some : t.read ≢ [] = λ e. t.comes.3 (ap (λ (f : FeedView). f.held) w.stays ∙ e) in
      let place : at ≡ length t.read = t.comes.4 ∙ ap (λ (f : FeedView). later f.offset (length f.held)) w.stays ∙ omega (arith, bounded (take_answers.Truncated at) t) in
      never (take_answers.Truncated at) t (ends.Truncated at) h points n none is
      (waiting_is_truncated t.read [] (with_piece fresh_feed t.read) feed (given (take_answers.Truncated at) t) tt w some, t.comes.1, below (take_answers.Truncated at) t t.comes.2, place)
      (no_greeting (take_answers.Truncated at) t (waits_none t.read w))
  run_of_none h points n ends.ReadFault none is t =
      never take_answers.ReadFault t ends.ReadFault h points n none is
      (waiting_is_open t.read [] (with_piece fresh_feed t.read) feed (given take_answers.ReadFault t) tt t.comes.0, below take_answers.ReadFault t t.comes.1, t.comes.2)
      (no_greeting take_answers.ReadFault t (waits_none t.read t.comes.0))
  run_of_none h points n ends.WriteFault none is t = absurd t
  run_of_none h points n ends.Memory none is t = never take_answers.Memory t ends.Memory h points n none is tt tt
  run_of_none h points n ends.Budget none is t =
      let enough : most_input ≤ length t.read = rw (counts take_answers.Budget t) at t.comes.1 in
      never take_answers.Budget t ends.Budget h points n none is
      (waiting_is_open t.read [] (with_piece fresh_feed t.read) feed (given take_answers.Budget t) tt t.comes.0, enough)
      (no_greeting take_answers.Budget t (waits_none t.read t.comes.0))
  run_of_none h points n ends.NoNumber none is t = absurd t

-- at an end that came before the greeting no step was made
pub no_step : (before after : ReadState) (end : SessionEnd) → NextIs (IsTaken before after) (Err end) → WithoutSession end []
no_step before after ends.Quit next = refl
no_step before after ends.End next = refl
no_step before after (ends.Malformed at) next = refl
no_step before after (ends.Truncated at) next = refl
no_step before after ends.ReadFault next = refl
no_step before after ends.WriteFault next = refl
no_step before after ends.Memory next = inl refl
no_step before after ends.Budget next = refl
no_step before after ends.NoNumber next = absurd next

-- ---- the same, from what the code begins with

module _ (limits : LimitsView) (session : ℕ) (unnumbered : session ≡ 0) (left left' : Option (List ℕ)) (before after : ℕ) (feed0 feed : FeedView) (turns0 turns : TurnsView) (taken : Option (List ℕ)) (faults disk_faults : ℕ) (begins : feed0 ≡ fresh_feed) (counts_from : turns0 ≡ fresh_turns) where
  from_fresh : (what : Taken) → IsTaken (read_state left before feed0 turns0) (read_state left' after feed turns) what → IsTaken (read_state left before fresh_feed fresh_turns) (read_state left' after feed turns) what
  from_fresh what t = rw (begins, counts_from) at t

  next_from_fresh : (end : SessionEnd) → NextIs (IsTaken (read_state left before feed0 turns0) (read_state left' after feed turns)) (Err end) → NextIs (IsTaken (read_state left before fresh_feed fresh_turns) (read_state left' after feed turns)) (Err end)
  next_from_fresh end t = subst (λ (f : FeedView). NextIs (IsTaken (read_state left before f fresh_turns) (read_state left' after feed turns)) (Err end)) begins (subst (λ (x : TurnsView). NextIs (IsTaken (read_state left before feed0 x) (read_state left' after feed turns)) (Err end)) counts_from t)

  pub greets : (h : List PlainEntry) (points : List ℕ) → IsTaken (read_state left before feed0 turns0) (read_state left' after feed turns) take_answers.Greeting → IsGreeted (session_state h points feed turns (io_state left' after taken faults disk_faults))
  greets h points t = is_greeted limits session unnumbered left left' before after feed turns taken faults disk_faults (from_fresh take_answers.Greeting t) h points

  pub runs : (mine : ℕ) (h final : List PlainEntry) (exchanges : List Exchange) (points points' : List ℕ) (feed' : FeedView) (turns' : TurnsView) (out2 : IoState) (end : SessionEnd) (n : ℕ) → IsTaken (read_state left before feed0 turns0) (read_state left' after feed turns) take_answers.Greeting
      → IsSession limits mine (session_state h points feed turns (io_state left' after taken faults disk_faults)) (session_state final points' feed' turns' out2) exchanges end → n ≡ turns'.taken → IsRun limits mine (io_state left before taken faults disk_faults) out2 final exchanges points' n end
  runs mine h final exchanges points points' feed' turns' out2 end n t s is = run_of_session limits session unnumbered left left' before after feed turns taken faults disk_faults (from_fresh take_answers.Greeting t) mine h final exchanges points points' feed' turns' out2 end n s is

  pub runs_nothing : (h : List PlainEntry) (points : List ℕ) (n : ℕ) (end : SessionEnd) → points ≡ [] → n ≡ turns.taken
      → NextIs (IsTaken (read_state left before feed0 turns0) (read_state left' after feed turns)) (Err end) → IsRun limits session (io_state left before taken faults disk_faults) (io_state left' after taken faults disk_faults) h [] points n end
  runs_nothing h points n end none is t = run_of_none limits session unnumbered left left' before after feed turns taken faults disk_faults h points n end none is (next_from_fresh end t)

-- ---- the same, seen from before the store was opened

cause_from : (end : SessionEnd) (read : List ℕ) (before after : IoState) (m : ℕ) → Cause end read (with_disk_faults before m) after → Cause end read before after
cause_from ends.Quit read before after m cause = cause
cause_from ends.End read before after m cause = cause
cause_from (ends.Malformed at) read before after m cause = cause
cause_from (ends.Truncated at) read before after m cause = cause
cause_from ends.ReadFault read before after m cause = cause
cause_from ends.WriteFault read before after m cause = cause
cause_from ends.Memory read before after m cause = cause
cause_from ends.Budget read before after m cause = cause
cause_from ends.NoNumber read before after m cause = cause

pub alone_from : (opened : List PlainEntry) (session : ℕ) (history reported : List PlainEntry) (exchanges : List Exchange) (k m n : ℕ) → k ≤ m → reported ≡ history → HasServedAlone opened session history exchanges m n → HasServedAlone opened session reported exchanges k n
alone_from opened session history reported exchanges k m n le is (inl none) = inl (none.0, is ∙ none.1)
alone_from opened session history reported exchanges k m n le is (inr s) = subst (λ (h : List PlainEntry). HasServedAlone opened session h exchanges k n) (sym is)
    (inr (record { number_is = s.number_is; history_is = s.history_is; placed = s.placed; rises = rises_wider exchanges k m n n le (le_refl n) s.rises }))

-- the trees were put right behind it
pub alone_on : (opened : List PlainEntry) (session session' : ℕ) (history history' : List PlainEntry) (exchanges : List Exchange) (m n n' : ℕ) → session' ≡ session → history' ≡ history → n ≤ n' → HasServedAlone opened session history exchanges m n → HasServedAlone opened session' history' exchanges m n'
alone_on opened session session' history history' exchanges m n n' is same later alone =
    subst (λ (i : ℕ). HasServedAlone opened i history' exchanges m n') (sym is)
    (subst (λ (h : List PlainEntry). HasServedAlone opened session h exchanges m n') (sym same) (by alone))
  where
    by : HasServedAlone opened session history exchanges m n → HasServedAlone opened session history exchanges m n'
    by (inl none) = inl none
    by (inr s) = inr (record { number_is = s.number_is; history_is = s.history_is; placed = s.placed; rises = rises_wider exchanges m m n n' (le_refl m) later s.rises })

pub run_from : (limits : LimitsView) (session : ℕ) (before after : IoState) (m : ℕ) (history reported : List PlainEntry) (exchanges : List Exchange) (points : List ℕ) (bytes_read : ℕ) (end : SessionEnd) → before.disk_faults ≤ m → reported ≡ history
    → IsRun limits session (with_disk_faults before m) after history exchanges points bytes_read end → IsRun limits session before after reported exchanges points bytes_read end
run_from limits session before after m history reported exchanges points bytes_read end le is r = record {
  read = r.read;
  written = r.written;
  moves = record { consumed = r.moves.consumed; appended = r.moves.appended; source_never_falls = r.moves.source_never_falls; sink_never_falls = r.moves.sink_never_falls; disk_never_falls = omega (arith, le, r.moves.disk_never_falls) };
  counted = r.counted;
  within = r.within;
  cause = cause_from end r.read before after m r.cause;
  leaves = subst (λ (h : List PlainEntry). Leaves limits session end r.read r.written h exchanges points) (sym is) r.leaves;
}
