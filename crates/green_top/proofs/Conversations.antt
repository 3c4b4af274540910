-- A session's requests are answered one after the other.
use Rattle.std.proofs.Common.{◌≡◌, ◌≢◌, ℕ, zero, suc, take, ◌+◌, ◌-◌, ◌^◌, ◌≤◌, ◌<◌, true, List, [], ◌∷◌, ◌++◌, length, Option, None, refl, ap, ◌∙◌, sym, subst, inl, inr, arith, le_trans, le_refl, append_assoc}
use Rattle.std.specs.Prelude.{codes}
use Rattle.std.specs.List.{flat_map}
use Rattle.std.specs.Io.KnownBytes.{Appends}
use Rattle.std.proofs.lemmas.List.{append-nil, append_cancel_left, length-append, length-drop}
use Rattle.febe_data.specs.LimitsView.{LimitsView}
use Rattle.febe_data.specs.Plain.{PlainRequest, quit, PlainEntry}
use Rattle.febe_fields.specs.Prefixes.{HasNoSpelledPrefix}
use Rattle.febe_wire.specs.Grammar.{spell_request, IsSpelled}
use Rattle.febe_wire.specs.Sessions.{greeting, QuitsLast, EndsInQuit}
use Rattle.febe_feed.specs.FeedView.{with_piece, FeedView, Waits, later}
use Rattle.febe_feed.specs.Pieces.{HasGiven, given_bytes}
use Rattle.febe_feed.specs.Inputs.{NoQuits, IsOpenInput}
use Rattle.febe_wire.proofs.RequestLaws.{spelling_filled}
use Rattle.febe_feed.proofs.Pieces.{push_goes_on, gives_on}
use Rattle.febe_feed.proofs.Inputted.{waiting_is_open, waiting_is_truncated, given_is_input}
use Rattle.febe_feed.proofs.Malformed.{wrong_is_malformed}
use Rattle.green_session.specs.Taking.{TurnsView, with_taken, ReadsBytes, MayRead}
use Rattle.green_session.specs.Putting.{IsPut}
use Rattle.green_session.specs.declared.put.Put.{Put}
use Rattle.green_session.specs.declared.put.Put.TheVariants as put_results
use Rattle.green_session.specs.declared.take.Taken.{Taken}
use Rattle.green_session.specs.declared.take.Taken.TheVariants as take_answers
use Rattle.green_top.specs.declared.session_end.SessionEnd.{SessionEnd}
use Rattle.green_top.specs.declared.session_end.SessionEnd.TheVariants as ends
use Rattle.green_top.specs.IoState.{IoState, io_state, Moves}
use Rattle.green_top.specs.Requests.{HasRequestPrefix, AreWholeRequests}
use Rattle.green_top.specs.Ends.{most_input, Cause, AnsweredAndWritten}
use Rattle.green_top.specs.inside.Progress.{AnswersAndWrites, Progress}
use Rattle.green_top.specs.inside.Conversation.{SessionState, session_state, reading, answering, IsAsked, IsNotAsked, IsLastRound, IsRound, HasBegun, all_read, IsConversing, IsConversed}
use Rattle.world_rules.specs.History.{is_live}
use Rattle.world_rules.specs.Legal.{Exchange}
use Rattle.green_top.proofs.Streams.{consumes_more, consumes_nothing, appends_nothing, appends_both, risen_since}
use Rattle.green_top.proofs.Liveness.{live_from_begin}
use Rattle.green_top.proofs.Progresses.{progress_begins, progress_goes_on}

-- ---- quits

push_no_quit : (rs : List PlainRequest) (r : PlainRequest) → NoQuits rs → r ≢ quit → NoQuits (rs ++ r ∷ [])
push_no_quit [] r all n = (n, tt)
push_no_quit (q ∷ rs) r all n = (all.0, push_no_quit rs r all.1 n)

pub last_may_quit : (rs : List PlainRequest) (r : PlainRequest) → NoQuits rs → QuitsLast (rs ++ r ∷ [])
last_may_quit [] r all = tt
last_may_quit (q ∷ []) r all = (all.0, tt)
last_may_quit (q ∷ p ∷ rs) r all = (all.0, last_may_quit (p ∷ rs) r all.1)

pub none_quits : (rs : List PlainRequest) → NoQuits rs → QuitsLast rs
none_quits [] all = tt
none_quits (q ∷ []) all = tt
none_quits (q ∷ p ∷ rs) all = (all.0, none_quits (p ∷ rs) all.1)

ends_in_quit : (rs : List PlainRequest) → EndsInQuit (rs ++ quit ∷ [])
ends_in_quit [] = refl
ends_in_quit (q ∷ []) = refl
ends_in_quit (q ∷ p ∷ rs) = ends_in_quit (p ∷ rs)

-- ---- what was given

request_prefix : (stream : List ℕ) (rs : List PlainRequest) (feed : FeedView) → HasGiven stream rs feed → feed.greeted ≡ true → QuitsLast rs → HasRequestPrefix stream rs
request_prefix stream rs feed h greeted last = record {
  rest = feed.held;
  spelled = (rw greeted at h.parts) ∙ append_assoc greeting (flat_map spell_request rs) feed.held;
  valid = h.valid;
  quits_last = last;
}

pub moves_both : (a b c : IoState) (r s w v : List ℕ) → Moves a b r w → Moves b c s v → Moves a c (r ++ s) (w ++ v)
moves_both a b c r s w v p q = record {
  consumed = consumes_more a.left b.left c.left r s p.consumed q.consumed;
  appended = appends_both a.taken b.taken c.taken w v p.appended q.appended;
  source_never_falls = le_trans p.source_never_falls q.source_never_falls;
  sink_never_falls = le_trans p.sink_never_falls q.sink_never_falls;
  disk_never_falls = le_trans p.disk_never_falls q.disk_never_falls;
}

-- ---- the greeting

module _ (limits : LimitsView) (session : ℕ) (h : List PlainEntry) (points : List ℕ) (feed : FeedView) (turns : TurnsView) (left : Option (List ℕ)) (source_faults : ℕ) (taken taken' : Option (List ℕ)) (faults faults' disk_faults : ℕ)
    (begun : HasBegun session (session_state h points feed turns (io_state left source_faults taken faults disk_faults))) where
  abbrev start : SessionState
  start = session_state h points feed turns (io_state left source_faults taken faults disk_faults)

  put_only : (written : List ℕ) → Appends taken taken' written → faults ≤ faults' → Moves (io_state left source_faults taken faults disk_faults) (io_state left source_faults taken' faults' disk_faults) [] written
  put_only written appended rises = record {
    consumed = consumes_nothing left;
    appended = appended;
    source_never_falls = le_refl source_faults;
    sink_never_falls = rises;
    disk_never_falls = le_refl disk_faults;
  }

  given_none : HasGiven ((greeting ++ feed.held) ++ []) [] feed
  given_none = record {
    parts = rw begun.greeted.greeted (append-nil (greeting ++ feed.held));
    valid = tt;
    none = λ e. refl;
    place = rw begun.greeted.greeted (begun.greeted.place ∙ omega arith);
  }

  same_length : length (greeting ++ feed.held) ≡ length ((greeting ++ feed.held) ++ [])
  same_length = ap length (sym (append-nil (greeting ++ feed.held)))

  just_begun : Progress limits session h h [] points [] (codes "P0~")
  just_begun = rw begun.no_points (progress_begins limits session begun.opened h begun.begins)

  pub still_live : is_live h session ≡ true
  still_live = live_from_begin session begun.opened h begun.begins.grows

  pub starts : IsPut taken taken' faults faults' (codes "P0~") put_results.Done → IsConversing limits session start (session_state h points feed turns (io_state left source_faults taken' faults' disk_faults)) []
  starts put = record {
    read = [];
    written = codes "P0~";
    requests = [];
    moves = put_only (codes "P0~") (subst (λ (w : List ℕ). Appends taken taken' w) put.put put.appended) put.never_falls;
    given = given_none;
    greeted = begun.greeted.greeted;
    no_quits = tt;
    turns_are = begun.greeted.turns_are ∙ ap (λ (n : ℕ). record { limit = most_input; taken = n }) same_length;
    within = omega (arith, same_length, begun.greeted.within);
    progress = just_begun;
    live = still_live;
  }

  pub greeting_fails : IsPut taken taken' faults faults' (codes "P0~") put_results.WriteFault → IsConversed limits session start (session_state h points feed turns (io_state left source_faults taken' faults' disk_faults)) [] ends.WriteFault
  greeting_fails put = record {
    read = [];
    written = put.written;
    answered = [];
    output = codes "P0~";
    moves = put_only put.written put.appended put.never_falls;
    counted = ap (λ (t : TurnsView). t.taken) begun.greeted.turns_are ∙ same_length;
    within = omega (arith, same_length, begun.greeted.within);
    progress = just_begun;
    cause = put.put.0;
    answered_and_written = (request_prefix ((greeting ++ feed.held) ++ []) [] feed given_none begun.greeted.greeted tt, ((put.rest, put.prefix), put.put.1));
  }

-- ---- a round

module _ (limits : LimitsView) (session : ℕ) (start now after : SessionState) (earlier next : List Exchange) (c : IsConversing limits session start now earlier) where
  module _ (r : List ℕ) (t : ReadsBytes (reading now) (reading after) r) where
    abbrev stream : List ℕ
    stream = all_read start (c.read ++ r)

    stream_is : stream ≡ all_read start c.read ++ r
    stream_is = sym (append_assoc (greeting ++ start.feed.held) c.read r)

    longer : length stream ≡ length (all_read start c.read) + length r
    longer = ap length stream_is ∙ length-append (all_read start c.read) r

    before : now.turns.taken ≡ length (all_read start c.read)
    before = ap (λ (x : TurnsView). x.taken) c.turns_are

    limit : now.turns.limit ≡ most_input
    limit = ap (λ (x : TurnsView). x.limit) c.turns_are

    bounded : length stream ≤ most_input + 4095
    bounded = elim t.within [
      | inl e ↦ omega (arith, longer, c.within, ap length e)
      | inr w ↦ omega (arith, longer, before, limit, w.below, w.most, ap length w.parts, length-append w.earlier w.last)
    ]

    counts : after.turns ≡ record { limit = most_input; taken = length stream }
    counts =
        let n : later (length (all_read start c.read)) (length r) ≡ length stream = omega (arith, longer, bounded) in
        t.counted ∙ ap (λ (x : TurnsView). with_taken x (length r)) c.turns_are ∙ ap (λ (n : ℕ). record { limit = most_input; taken = n }) n

    given : HasGiven stream c.requests (with_piece now.feed r)
    given = subst (λ (bytes : List ℕ). HasGiven bytes c.requests (with_piece now.feed r)) (sym stream_is) (push_goes_on (all_read start c.read) r c.requests now.feed c.given)

    prefix : HasRequestPrefix stream c.requests
    prefix = request_prefix stream c.requests (with_piece now.feed r) given c.greeted (none_quits c.requests c.no_quits)

    whole : HasNoSpelledPrefix IsSpelled (now.feed.held ++ r) → AreWholeRequests stream c.requests
    unfolding prefix request_prefix
    whole none = record { prefix = prefix; whole = inr none }

    taking : (written : List ℕ) → Appends now.io.taken after.io.taken written → now.io.sink_faults ≤ after.io.sink_faults → now.io.disk_faults ≤ after.io.disk_faults → Moves start.io after.io (c.read ++ r) (c.written ++ written)
    taking written appended rises disk_rises = moves_both start.io now.io after.io c.read r c.written written c.moves (record {
      consumed = t.consumed;
      appended = appended;
      source_never_falls = t.never_falls;
      sink_never_falls = rises;
      disk_never_falls = disk_rises;
    })

    short : length stream < 2 ^ 64
    short = omega (arith, bounded)

    -- another read could be made
    below : MayRead after.turns → length stream < most_input
    below may = rw counts at may

  -- ---- a request came

  module _ (request : PlainRequest) (put : Put) (a : IsAsked limits session now after next request put) where
    abbrev asked_stream : List ℕ
    asked_stream = stream a.read a.reads

    given_one : HasGiven asked_stream (c.requests ++ request ∷ []) after.feed
    given_one = (gives_on asked_stream c.requests (with_piece now.feed a.read) after.feed (given a.read a.reads)).1 request a.gives

    still_greeted : after.feed.greeted ≡ true
    still_greeted = ap (λ (f : FeedView). f.greeted) a.gives.after_is

    one_more : HasRequestPrefix asked_stream (c.requests ++ request ∷ [])
    one_more = request_prefix asked_stream (c.requests ++ request ∷ []) after.feed given_one still_greeted (last_may_quit c.requests request c.no_quits)

    answered : (h : AnswersAndWrites limits session (answering now) (answering after) request put next)
        → Progress limits session start.history after.history (earlier ++ next) after.points (c.requests ++ request ∷ []) (c.written ++ h.output)
    answered h =
        subst (λ (es : List Exchange). Progress limits session start.history after.history (earlier ++ es) after.points (c.requests ++ request ∷ []) (c.written ++ h.output)) (sym h.exchanges_are)
        (progress_goes_on limits session start.history earlier c.requests c.written h.output request (answering now) (answering after) c.progress h.answers)

  pub goes_on : IsRound limits session now after next None → IsConversing limits session start after (earlier ++ next)
  goes_on ((request, no_quit, a), live) = elim a.answered [
    | inl h ↦ record {
      read = c.read ++ a.read;
      written = c.written ++ h.output;
      requests = c.requests ++ request ∷ [];
      moves = taking a.read a.reads h.output (subst (λ (w : List ℕ). Appends now.io.taken after.io.taken w) h.put.put h.put.appended) h.put.never_falls h.answers.never_falls;
      given = given_one request put_results.Done a;
      greeted = still_greeted request put_results.Done a;
      no_quits = push_no_quit c.requests request c.no_quits no_quit;
      turns_are = counts a.read a.reads;
      within = bounded a.read a.reads;
      progress = answered request put_results.Done a h;
      live = live;
    }
    | inr s ↦ absurd (let e = s.memory in cc)
  ]

  quits : IsAsked limits session now after next quit put_results.Done → IsConversed limits session start after (earlier ++ next) ends.Quit
  quits a = elim a.answered [
    | inl h ↦ record {
      read = c.read ++ a.read;
      written = c.written ++ h.output;
      answered = c.requests ++ quit ∷ [];
      output = c.written ++ h.output;
      moves = taking a.read a.reads h.output (subst (λ (w : List ℕ). Appends now.io.taken after.io.taken w) h.put.put h.put.appended) h.put.never_falls h.answers.never_falls;
      counted = ap (λ (x : TurnsView). x.taken) (counts a.read a.reads);
      within = bounded a.read a.reads;
      progress = answered quit put_results.Done a h;
      cause = tt;
      answered_and_written = (record { prefix = one_more quit put_results.Done a; whole = inl (ends_in_quit c.requests) }, ends_in_quit c.requests, refl);
    }
    | inr s ↦ absurd (let e = s.memory in cc)
  ]

  write_fails : (request : PlainRequest) → IsAsked limits session now after next request put_results.WriteFault → IsConversed limits session start after (earlier ++ next) ends.WriteFault
  write_fails request a = elim a.answered [
    | inl h ↦ record {
      read = c.read ++ a.read;
      written = c.written ++ h.put.written;
      answered = c.requests ++ request ∷ [];
      output = c.written ++ h.output;
      moves = taking a.read a.reads h.put.written h.put.appended h.put.never_falls h.answers.never_falls;
      counted = ap (λ (x : TurnsView). x.taken) (counts a.read a.reads);
      within = bounded a.read a.reads;
      progress = answered request put_results.WriteFault a h;
      cause = risen_since start.io.sink_faults now.io.sink_faults after.io.sink_faults c.moves.sink_never_falls h.put.put.0;
      answered_and_written = (one_more request put_results.WriteFault a, ((h.put.rest, ap (λ (w : List ℕ). c.written ++ w) h.put.prefix ∙ sym (append_assoc c.written h.put.written h.put.rest)), λ all. h.put.put.1 (append_cancel_left c.written h.put.written h.output all)));
    }
    | inr s ↦ absurd (let e = s.memory in cc)
  ]

  no_memory_to_reply : (request : PlainRequest) → IsAsked limits session now after next request put_results.Memory → IsConversed limits session start after (earlier ++ next) ends.Memory
  no_memory_to_reply request a = elim a.answered [
    | inl h ↦ record {
      read = c.read ++ a.read;
      written = c.written ++ h.put.written;
      answered = c.requests ++ request ∷ [];
      output = c.written ++ h.output;
      moves = taking a.read a.reads h.put.written h.put.appended h.put.never_falls h.answers.never_falls;
      counted = ap (λ (x : TurnsView). x.taken) (counts a.read a.reads);
      within = bounded a.read a.reads;
      progress = answered request put_results.Memory a h;
      cause = tt;
      answered_and_written = (one_more request put_results.Memory a, (h.put.rest, ap (λ (w : List ℕ). c.written ++ w) h.put.prefix ∙ sym (append_assoc c.written h.put.written h.put.rest)));
    }
    | inr s ↦ record {
      read = c.read ++ a.read;
      written = c.written ++ [];
      answered = c.requests;
      output = c.written ++ [];
      moves = taking a.read a.reads [] (rw s.sink_stays (appends_nothing now.io.taken)) (omega (arith, s.faults_stay)) (omega (arith, s.disk_faults_stay));
      counted = ap (λ (x : TurnsView). x.taken) (counts a.read a.reads);
      within = bounded a.read a.reads;
      progress = rw (s.history_stays, s.points_stay, s.no_exchange, append-nil c.written, append-nil earlier) c.progress;
      cause = tt;
      answered_and_written = (prefix a.read a.reads, ([], sym (append-nil (c.written ++ []))));
    }
  ]

  -- ---- none came

  module _ (taken : Taken) (n : IsNotAsked now after next taken) where
    abbrev unasked_stream : List ℕ
    unasked_stream = stream n.read n.reads

    nothing_more : Moves start.io after.io (c.read ++ n.read) c.written
    nothing_more = subst (λ (w : List ℕ). Moves start.io after.io (c.read ++ n.read) w) (append-nil c.written)
        (taking n.read n.reads [] (rw n.taken_stays (appends_nothing now.io.taken)) (omega (arith, n.faults_stay)) (omega (arith, n.disk_faults_stay)))

    still : Progress limits session start.history after.history (earlier ++ next) after.points c.requests c.written
    still = rw (n.history_stays, n.points_stay, n.no_exchange, append-nil earlier) c.progress

    ends_so : (end : SessionEnd) → Cause end unasked_stream start.io after.io → AnsweredAndWritten end unasked_stream c.requests c.written c.written → IsConversed limits session start after (earlier ++ next) end
    ends_so end cause answered_and_written = record {
      read = c.read ++ n.read;
      written = c.written;
      answered = c.requests;
      output = c.written;
      moves = nothing_more;
      counted = ap (λ (x : TurnsView). x.taken) (counts n.read n.reads);
      within = bounded n.read n.reads;
      progress = still;
      cause = cause;
      answered_and_written = answered_and_written;
    }

    waits_none : Waits (with_piece now.feed n.read) after.feed → HasNoSpelledPrefix IsSpelled (now.feed.held ++ n.read)
    waits_none w = rw c.greeted at w.prefix.none

    waits_open : Waits (with_piece now.feed n.read) after.feed → IsOpenInput unasked_stream
    waits_open w = waiting_is_open unasked_stream c.requests (with_piece now.feed n.read) after.feed (given n.read n.reads) c.no_quits w

    waits_whole : Waits (with_piece now.feed n.read) after.feed → AreWholeRequests unasked_stream c.requests
    waits_whole w = whole n.read n.reads (waits_none w)

  comes_to_end : IsNotAsked now after next take_answers.End → IsConversed limits session start after (earlier ++ next) ends.End
  comes_to_end n =
      let w = n.comes.0 in
      let held : now.feed.held ++ n.read ≡ [] = sym (ap (λ (f : FeedView). f.held) w.stays) ∙ n.comes.3 in
      ends_so take_answers.End n ends.End (n.comes.1, below n.read n.reads n.comes.2)
      (given_is_input (stream n.read n.reads) c.requests (with_piece now.feed n.read) (given n.read n.reads) (none_quits c.requests c.no_quits) c.greeted held, c.no_quits, refl)

  is_malformed : (at : ℕ) → IsNotAsked now after next (take_answers.Malformed at) → IsConversed limits session start after (earlier ++ next) (ends.Malformed at)
  is_malformed at n =
      ends_so (take_answers.Malformed at) n (ends.Malformed at)
      (wrong_is_malformed (stream n.read n.reads) c.requests (with_piece now.feed n.read) after.feed at (given n.read n.reads) c.no_quits (short n.read n.reads) n.comes)
      (whole n.read n.reads (rw c.greeted at n.comes.bad.none), refl)

  -- what is held reaches to the end of what was read
  cut_off_at : (at : ℕ) (n : IsNotAsked now after next (take_answers.Truncated at)) → at ≡ length (stream n.read n.reads)
  cut_off_at at n =
      let w = n.comes.0 in
      let g = given n.read n.reads in
      let whole_length : length (stream n.read n.reads) ≡ length (given_bytes now.feed.greeted c.requests) + length (now.feed.held ++ n.read) = ap length g.parts ∙ length-append (given_bytes now.feed.greeted c.requests) (now.feed.held ++ n.read) in
      let place : now.feed.offset ≡ later 0 (length (given_bytes now.feed.greeted c.requests)) = g.place in
      n.comes.4 ∙ ap (λ (f : FeedView). later f.offset (length f.held)) w.stays ∙ omega (arith, whole_length, place, short n.read n.reads)

  is_truncated : (at : ℕ) → IsNotAsked now after next (take_answers.Truncated at) → IsConversed limits session start after (earlier ++ next) (ends.Truncated at)
  is_truncated at n =
      let w = n.comes.0 in
      let some : now.feed.held ++ n.read ≢ [] = λ e. n.comes.3 (ap (λ (f : FeedView). f.held) w.stays ∙ e) in
      ends_so (take_answers.Truncated at) n (ends.Truncated at)
      (waiting_is_truncated (stream n.read n.reads) c.requests (with_piece now.feed n.read) after.feed (given n.read n.reads) c.no_quits w some, n.comes.1, below n.read n.reads n.comes.2, cut_off_at at n)
      (waits_whole (take_answers.Truncated at) n w, refl)

  read_fails : IsNotAsked now after next take_answers.ReadFault → IsConversed limits session start after (earlier ++ next) ends.ReadFault
  read_fails n =
      ends_so take_answers.ReadFault n ends.ReadFault
      (waits_open take_answers.ReadFault n n.comes.0, below n.read n.reads n.comes.1, risen_since start.io.source_faults now.io.source_faults after.io.source_faults c.moves.source_never_falls n.comes.2)
      (waits_whole take_answers.ReadFault n n.comes.0, refl)

  no_memory_to_take : IsNotAsked now after next take_answers.Memory → IsConversed limits session start after (earlier ++ next) ends.Memory
  no_memory_to_take n = ends_so take_answers.Memory n ends.Memory tt (prefix n.read n.reads, ([], sym (append-nil c.written)))

  is_used_up : IsNotAsked now after next take_answers.Budget → IsConversed limits session start after (earlier ++ next) ends.Budget
  is_used_up n =
      let all = counts n.read n.reads in
      let enough : most_input ≤ length (stream n.read n.reads) = rw all at n.comes.1 in
      ends_so take_answers.Budget n ends.Budget (waits_open take_answers.Budget n n.comes.0, enough) (waits_whole take_answers.Budget n n.comes.0, refl)

  pub comes_to : (end : SessionEnd) → IsLastRound limits session now after next end → IsConversed limits session start after (earlier ++ next) end
  comes_to ends.Quit round = quits round
  comes_to ends.End round = comes_to_end round
  comes_to (ends.Malformed at) round = is_malformed at round
  comes_to (ends.Truncated at) round = is_truncated at round
  comes_to ends.ReadFault round = read_fails round
  comes_to ends.WriteFault round = write_fails round.0 round.1
  comes_to ends.Memory (inl n) = no_memory_to_take n
  comes_to ends.Memory (inr a) = no_memory_to_reply a.0 a.1
  comes_to ends.Budget round = is_used_up round
  comes_to ends.NoNumber round = absurd round

-- ---- each request makes what is to come less

request_filled : (r : PlainRequest) (bytes : List ℕ) (used : ℕ) → take used bytes ≡ spell_request r → 1 ≤ used
request_filled r bytes used e = at_least used bytes e
  where
    at_least : (n : ℕ) (bs : List ℕ) → take n bs ≡ spell_request r → 1 ≤ n
    at_least zero bs is = absurd (omega (arith, spelling_filled r, ap length is))
    at_least (suc n) bs is = omega arith

abbrev pub to_come : SessionState → ℕ
to_come s = (most_input + 4096 - s.turns.taken) + length s.feed.held

less_to_come : (limits : LimitsView) (session : ℕ) (start now after : SessionState) (earlier next : List Exchange) → IsConversing limits session start now earlier → IsRound limits session now after next None → to_come after < to_come now
less_to_come limits session start now after earlier next c ((request, no_quit, a), live) =
    let counted = ap (λ (x : TurnsView). x.taken) (counts limits session start now after earlier next c a.read a.reads) in
    let taken_before = before limits session start now after earlier next c a.read a.reads in
    let more = longer limits session start now after earlier next c a.read a.reads in
    let most = bounded limits session start now after earlier next c a.read a.reads in
    let some = request_filled request (now.feed.held ++ a.read) a.gives.used a.gives.read.spells.spelled in
    let held : length after.feed.held ≡ length (now.feed.held ++ a.read) - a.gives.used = ap (λ (f : FeedView). length f.held) a.gives.after_is ∙ length-drop a.gives.used (now.feed.held ++ a.read) in
    omega (arith, counted, taken_before, more, most, some, held, length-append now.feed.held a.read, a.gives.read.within)

-- ---- the same, for a round under limits and a number that are the session's

module _ (limits own : LimitsView) (same : own ≡ limits) (session mine : ℕ) (is_mine : mine ≡ session) (start now after : SessionState) (earlier next : List Exchange) (c : IsConversing limits session start now earlier) where
  pub goes_on_under : IsRound own mine now after next None → IsConversing limits session start after (earlier ++ next)
  goes_on_under round =
      goes_on limits session start now after earlier next c
      (subst (λ (n : ℕ). IsRound limits n now after next None) is_mine (subst (λ (l : LimitsView). IsRound l mine now after next None) same round))

  pub less_under : IsRound own mine now after next None → to_come after < to_come now
  less_under round =
      less_to_come limits session start now after earlier next c
      (subst (λ (n : ℕ). IsRound limits n now after next None) is_mine (subst (λ (l : LimitsView). IsRound l mine now after next None) same round))

  pub comes_to_under : (end : SessionEnd) → IsLastRound own mine now after next end → IsConversed limits session start after (earlier ++ next) end
  comes_to_under end round =
      comes_to limits session start now after earlier next c end
      (subst (λ (n : ℕ). IsLastRound limits n now after next end) is_mine (subst (λ (l : LimitsView). IsLastRound l mine now after next end) same round))
