-- A session whose requests a start generates, from its input to its summary.
use Rattle.std.proofs.Common.{◌≡◌, ℕ, zero, suc, take, ◌+◌, ◌-◌, ◌<◌, ◌≤◌, List, [], ◌∷◌, ◌++◌, map, length, drop, get_or, replicate, All, Option, Some, refl, ap, ◌∙◌, sym, subst, inl, inr, arith, append_assoc}
use Rattle.std.specs.List.{flat_map, AllByRecursion}
use Rattle.std.proofs.lemmas.List.{append-nil, length-append, append_cancel_left, map_more, take_all}
use Rattle.std.proofs.lemmas.List.Elements.{All-head, All-tail}
use Rattle.std.proofs.lemmas.Grind.{flat_map-append}
use Rattle.febe_data.specs.LimitsView.{standard_limits}
use Rattle.febe_data.specs.Plain.{PlainRequest, PlainReply, PlainEntry, create, quit, set_account, plain_request}
use Rattle.febe_data.specs.Validity.{IsRequest, IsReply}
use Rattle.febe_data.specs.declared.request.Request.{Request}
use Rattle.febe_fields.specs.Prefixes.{IsPrefix}
use Rattle.febe_feed.proofs.Malformed.{prefixes_are_right}
use Rattle.febe_feed.specs.Inputs.{NoQuits}
use Rattle.febe_reply.specs.ReplyGrammar.{spell_reply}
use Rattle.febe_wire.specs.Grammar.{spell_request, Spells}
use Rattle.febe_wire.specs.Sessions.{greeting, QuitsLast, EndsInQuit, IsInputOf, IsInput}
use Rattle.febe_wire.proofs.RequestLaws.{one_form, spelling_filled}
use Rattle.world_rules.specs.Apply.{world_of}
use Rattle.world_rules.specs.Legal.{Exchange}
use Rattle.green_session.specs.Putting.{IsPut}
use Rattle.green_session.specs.declared.put.Put.TheVariants as puts
use Rattle.session_generator.specs.Generated.{account, drawn_requests, generated_requests}
use Rattle.session_generator.proofs.Drawn.{no_quit_drawn}
use Rattle.green_top.specs.declared.session_end.SessionEnd.{SessionEnd}
use Rattle.green_top.specs.declared.session_end.SessionEnd.TheVariants as ends
use Rattle.green_top.specs.Ends.{Cause}
use Rattle.green_top.specs.GeneratedRun.{AreFirstOf, IsGeneratedRun}
use Rattle.green_top.specs.IoState.{IoState, io_state}
use Rattle.green_top.specs.Outcome.{NoSession, IsOver, IsEndedSession, Leaves, IsRun}
use Rattle.green_top.specs.Requests.{HasRequestPrefix}
use Rattle.green_top.specs.Summary.{replies_of, summary_of}
use Rattle.green_top.specs.Transcript.{HasValidReply}
use Rattle.green_top.specs.inside.Summing.{SpellReplies, IsOutput, Tells, CanEnd, outcome_of, IsAnswered, HasNoSummary, IsInnerRun}
use Rattle.green_top.proofs.Streams.{appends_nothing}

-- ---- only the last of the requests is a quit

none_in_both : (xs ys : List PlainRequest) → NoQuits xs → NoQuits ys → NoQuits (xs ++ ys)
none_in_both [] ys p q = q
none_in_both (x ∷ xs) ys p q = (p.0, none_in_both xs ys p.1 q)

none_created : (n : ℕ) → NoQuits (replicate n create)
none_created zero = tt
none_created (suc n) = ((λ e. absurd (let f = e in cc)), none_created n)

quits_last : (xs : List PlainRequest) → NoQuits xs → QuitsLast (xs ++ quit ∷ [])
quits_last [] none = tt
quits_last (x ∷ []) none = (none.0, tt)
quits_last (x ∷ y ∷ ys) none = (none.0, quits_last (y ∷ ys) none.1)

pub generated_quit_last : (start : ℕ) → QuitsLast (generated_requests start)
unfolding generated_requests
generated_quit_last start =
    quits_last ((set_account account ∷ replicate 8 create) ++ drawn_requests start 2000)
    (none_in_both (set_account account ∷ replicate 8 create) (drawn_requests start 2000) ((λ e. absurd (let f = e in cc)), none_created 8) (no_quit_drawn start 2000))

-- ---- requests whose spelling begins another's are the first of those

spells_it : (r : PlainRequest) → IsRequest r → Spells (spell_request r) r
spells_it r valid = record { valid = valid; spelled = refl }

pub first_of : (xs ys : List PlainRequest) (rest : List ℕ) → AllByRecursion IsRequest xs → AllByRecursion IsRequest ys → flat_map spell_request xs ++ rest ≡ flat_map spell_request ys → AreFirstOf xs ys
first_of [] ys rest valid right e = (ys, refl)
first_of (x ∷ xs) [] rest valid right e =
    absurd (omega (arith, ap length e, length-append (spell_request x ++ flat_map spell_request xs) rest, length-append (spell_request x) (flat_map spell_request xs), spelling_filled x))
first_of (x ∷ xs) (y ∷ ys) rest valid right e =
    let whole : spell_request x ++ (flat_map spell_request xs ++ rest) ≡ spell_request y ++ flat_map spell_request ys = sym (append_assoc (spell_request x) (flat_map spell_request xs) rest) ∙ e in
    let same = one_form (spell_request x) (spell_request y) (flat_map spell_request xs ++ rest) (flat_map spell_request ys) x y (spells_it x valid.0) (spells_it y right.0) whole in
    let behind : flat_map spell_request xs ++ rest ≡ flat_map spell_request ys = append_cancel_left (spell_request x) (flat_map spell_request xs ++ rest) (flat_map spell_request ys) (whole ∙ ap (λ (bytes : List ℕ). bytes ++ flat_map spell_request ys) (sym same.0)) in
    let more = first_of xs ys rest valid.1 right.1 behind in
    (more.0, ap (λ (r : PlainRequest). r ∷ ys) (sym same.1) ∙ ap (λ (rs : List PlainRequest). x ∷ rs) more.1)

nothing_behind : (xs more : List PlainRequest) → EndsInQuit xs → QuitsLast (xs ++ more) → more ≡ []
nothing_behind [] more ends last = absurd ends
nothing_behind (x ∷ []) [] ends last = refl
nothing_behind (x ∷ []) (m ∷ more) ends last = absurd (last.0 ends)
nothing_behind (x ∷ y ∷ ys) more ends last = nothing_behind (y ∷ ys) more ends last.1

all_if_quit : (xs ys : List PlainRequest) → AreFirstOf xs ys → EndsInQuit xs → QuitsLast ys → xs ≡ ys
all_if_quit xs ys first ends last =
    let none : first.0 ≡ [] = nothing_behind xs first.0 ends (subst QuitsLast first.1 last) in
    sym (first.1 ∙ ap (λ (more : List PlainRequest). xs ++ more) none ∙ append-nil xs)

none_if_short : (more : List PlainRequest) → length (flat_map spell_request more) ≡ 0 → more ≡ []
none_if_short [] e = refl
none_if_short (m ∷ more) e = absurd (omega (arith, e, length-append (spell_request m) (flat_map spell_request more), spelling_filled m))

all_if_same : (xs ys : List PlainRequest) → AreFirstOf xs ys → flat_map spell_request xs ≡ flat_map spell_request ys → xs ≡ ys
all_if_same xs ys first e =
    let long : length (flat_map spell_request first.0) ≡ 0 = omega (arith, ap length (e ∙ ap (flat_map spell_request) first.1 ∙ flat_map-append spell_request xs first.0), length-append (flat_map spell_request xs) (flat_map spell_request first.0)) in
    sym (first.1 ∙ ap (λ (more : List PlainRequest). xs ++ more) (none_if_short first.0 long) ∙ append-nil xs)

-- ---- the session over an input in memory

module _ (start : ℕ) (input left taken₀ taken : List ℕ) (k k' m n : ℕ) (is : IsInputOf (generated_requests start) input) (none : taken₀ ≡ []) (session : ℕ) (history : List PlainEntry) (exchanges : List Exchange) (points : List ℕ) (count : ℕ) where
  abbrev from : IoState
  from = io_state (Some input) 0 (Some taken₀) k m

  abbrev to : IoState
  to = io_state (Some left) 0 (Some taken) k' n

  module _ (read : List ℕ) (parts : input ≡ read ++ left) where
    is_input : IsInput input
    is_input = record { requests = generated_requests start; input = is }

    is_prefix : IsPrefix IsInput read
    is_prefix = record { more = left; whole = subst IsInput parts is_input }

    all_read : left ≡ [] → input ≡ read
    all_read over = parts ∙ ap (λ (rest : List ℕ). read ++ rest) over ∙ append-nil read

    can_end_so : (end : SessionEnd) → Cause end read from to → CanEnd end
    can_end_so ends.Quit cause = tt
    can_end_so ends.End cause = tt
    can_end_so (ends.Malformed at) cause = prefixes_are_right read at is_prefix cause
    can_end_so (ends.Truncated at) cause = cause.0.inside (subst IsInput (all_read cause.1) is_input)
    can_end_so ends.ReadFault cause = absurd (omega (arith, cause.2))
    can_end_so ends.WriteFault cause = tt
    can_end_so ends.Memory cause = tt
    can_end_so ends.Budget cause = tt
    can_end_so ends.NoNumber cause = tt

    first_answered : (answered : List PlainRequest) → HasRequestPrefix read answered → AreFirstOf answered (generated_requests start)
    first_answered answered p =
        let whole : greeting ++ (flat_map spell_request answered ++ (p.rest ++ left)) ≡ greeting ++ flat_map spell_request (generated_requests start)
        = sym (ap (λ (bytes : List ℕ). bytes ++ left) p.spelled ∙ simp append_assoc refl) ∙ sym parts ∙ is.spelled in
        first_of answered (generated_requests start) (p.rest ++ left) p.valid is.valid (append_cancel_left greeting _ _ whole)

    all_at_end : (answered : List PlainRequest) → IsInputOf answered read → left ≡ [] → answered ≡ generated_requests start
    all_at_end answered p over =
        let same : flat_map spell_request answered ≡ flat_map spell_request (generated_requests start) = append_cancel_left greeting _ _ (sym p.spelled ∙ sym (all_read over) ∙ is.spelled) in
        all_if_same answered (generated_requests start)
        (first_of answered (generated_requests start) [] p.valid is.valid (append-nil (flat_map spell_request answered) ∙ same)) same

    module _ (written : List ℕ) (appended : taken ≡ taken₀ ++ written) where
      output_is : written ≡ taken
      output_is = sym (appended ∙ ap (λ (bytes : List ℕ). bytes ++ written) none)

      whole_answered : (end : SessionEnd) (s : IsEndedSession standard_limits session end read written history exchanges points) → s.answered ≡ generated_requests start → written ≡ s.output → IsAnswered start session history exchanges points taken
      whole_answered end s all same = record {
        numbered = s.numbered;
        has_number = s.has_number;
        over = subst (λ (requests : List PlainRequest). IsOver standard_limits session history exchanges points requests taken) all
            (subst (λ (output : List ℕ). IsOver standard_limits session history exchanges points s.answered output) (sym same ∙ output_is) s.over);
      }

      cut_short : (end : SessionEnd) (s : IsEndedSession standard_limits session end read written history exchanges points) → HasRequestPrefix read s.answered → HasNoSummary start session ends.Memory history exchanges points
      cut_short end s p = inr (record {
        numbered = s.numbered;
        has_number = s.has_number;
        answered = s.answered;
        output = s.output;
        over = s.over;
        answered_and_summed = (first_answered s.answered p, refl);
      })

      no_session : NoSession session exchanges points written → NoSession session exchanges points []
      no_session s = record { unnumbered = s.unnumbered; none_answered = s.none_answered; no_points = s.no_points; nothing = refl }

      comes_to : (end : SessionEnd) → Cause end read from to → Leaves standard_limits session end read written history exchanges points → IsInnerRun start session (outcome_of end) history exchanges points taken
      comes_to ends.Quit cause (inl l) = absurd l.0
      comes_to ends.Quit cause (inr s) =
          let a = s.answered_and_written in
          whole_answered ends.Quit s (all_if_quit s.answered (generated_requests start) (first_answered s.answered a.0.prefix) a.1 (generated_quit_last start)) a.2
      comes_to ends.End cause (inl l) = absurd (omega (arith, ap length (all_read cause.0 ∙ l.0), ap length is.spelled, length-append greeting (flat_map spell_request (generated_requests start))))
      comes_to ends.End cause (inr s) = whole_answered ends.End s (all_at_end s.answered s.answered_and_written.0 cause.0) s.answered_and_written.2
      comes_to (ends.Malformed at) cause leaves = absurd (can_end_so (ends.Malformed at) cause)
      comes_to (ends.Truncated at) cause leaves = absurd (can_end_so (ends.Truncated at) cause)
      comes_to ends.ReadFault cause leaves = absurd (can_end_so ends.ReadFault cause)
      comes_to ends.WriteFault cause (inl l) = absurd l.0
      comes_to ends.WriteFault cause (inr s) = cut_short ends.WriteFault s s.answered_and_written.0
      comes_to ends.Memory cause (inl l) = inl (no_session l.1)
      comes_to ends.Memory cause (inr s) = cut_short ends.Memory s s.answered_and_written.0
      comes_to ends.Budget cause (inl l) = inl (no_session l.1)
      comes_to ends.Budget cause (inr s) = cut_short ends.Budget s s.answered_and_written.0.prefix
      comes_to ends.NoNumber cause (inl l) = (l.0.0, no_session l.1)
      comes_to ends.NoNumber cause (inr s) = absurd s.answered_and_written

  pub can_end : (end : SessionEnd) → IsRun standard_limits session from to history exchanges points count end → CanEnd end
  can_end end r = can_end_so r.read r.moves.consumed end r.cause

  pub inner_run : (end : SessionEnd) → IsRun standard_limits session from to history exchanges points count end → IsInnerRun start session (outcome_of end) history exchanges points taken
  inner_run end r = comes_to r.read r.moves.consumed r.written r.moves.appended end r.cause r.leaves

-- ---- its summary

replies_are : (exchanges : List Exchange) → flat_map (λ (e : Exchange). spell_reply e.reply) exchanges ≡ flat_map spell_reply (replies_of exchanges)
replies_are [] = refl
replies_are (e ∷ exchanges) = ap (λ (bytes : List ℕ). spell_reply e.reply ++ bytes) (replies_are exchanges)

all_valid : (exchanges : List Exchange) → AllByRecursion HasValidReply exchanges → AllByRecursion IsReply (replies_of exchanges)
all_valid [] valid = tt
all_valid (e ∷ exchanges) valid = (valid.0, all_valid exchanges valid.1)

pub is_output : (start session : ℕ) (history : List PlainEntry) (exchanges : List Exchange) (points output : List ℕ) (a : IsAnswered start session history exchanges points output) → IsOutput output (replies_of exchanges)
is_output start session history exchanges points output a =
    let t = a.over.transcript in
    record { parts = t.output_is ∙ ap (λ (bytes : List ℕ). greeting ++ bytes) (replies_are exchanges); valid = all_valid exchanges t.valid_replies }

pub spells_behind : (output bytes : List ℕ) (replies : List PlainReply) → bytes ≡ drop 3 output → IsOutput output replies → SpellReplies bytes replies
spells_behind output bytes replies is o = record { spelled = is ∙ ap (drop 3) o.parts; valid = o.valid }

pub greeted_output : (output : List ℕ) (replies : List PlainReply) → IsOutput output replies → 3 ≤ length output
greeted_output output replies o = omega (arith, ap length o.parts, length-append greeting (flat_map spell_reply replies))

module _ (start session : ℕ) (history : List PlainEntry) (exchanges : List Exchange) (points : List ℕ) (left taken taken' : Option (List ℕ)) (faults k k' m n : ℕ) (rises : m ≤ n) where
  abbrev before : IoState
  before = io_state left faults taken k m

  abbrev after : IoState
  after = io_state left faults taken' k' n

  pub summed : (end : SessionEnd) (output : List ℕ) (a : IsAnswered start session history exchanges points output) → Tells (summary_of start (replies_of exchanges) (world_of history)) taken taken' k k' end → IsGeneratedRun start session before after history exchanges points end
  summed end output a t = by end t
    where
      by : (end : SessionEnd) → Tells (summary_of start (replies_of exchanges) (world_of history)) taken taken' k k' end → IsGeneratedRun start session before after history exchanges points end
      by ends.Quit t = record {
        written = t.written;
        left_stays = refl;
        source_faults_stay = refl;
        appended = t.appended;
        sink_never_falls = t.never_falls;
        disk_never_falls = rises;
        cause = tt;
        leaves = inr (record { numbered = a.numbered; has_number = a.has_number; answered = generated_requests start; output = output; over = a.over; answered_and_summed = (refl, t.told) });
      }
      by ends.WriteFault t = record {
        written = t.written;
        left_stays = refl;
        source_faults_stay = refl;
        appended = t.appended;
        sink_never_falls = t.never_falls;
        disk_never_falls = rises;
        cause = t.told.1;
        leaves = inr (record { numbered = a.numbered; has_number = a.has_number; answered = generated_requests start; output = output; over = a.over; answered_and_summed = (refl, t.told.0) });
      }
      by ends.Memory t = record {
        written = t.written;
        left_stays = refl;
        source_faults_stay = refl;
        appended = t.appended;
        sink_never_falls = t.never_falls;
        disk_never_falls = rises;
        cause = tt;
        leaves = inr (record { numbered = a.numbered; has_number = a.has_number; answered = generated_requests start; output = output; over = a.over; answered_and_summed = (([], sym (append-nil (generated_requests start))), t.told) });
      }
      by ends.End t = absurd t.told
      by (ends.Malformed at) t = absurd t.told
      by (ends.Truncated at) t = absurd t.told
      by ends.ReadFault t = absurd t.told
      by ends.Budget t = absurd t.told
      by ends.NoNumber t = absurd t.told

  -- the trees and the pages were put right meanwhile
  pub summed_later : (number : ℕ) (later : List PlainEntry) → number ≡ session → later ≡ history → (end : SessionEnd) (output : List ℕ) (a : IsAnswered start session history exchanges points output)
      → Tells (summary_of start (replies_of exchanges) (world_of later)) taken taken' k k' end → IsGeneratedRun start number before after later exchanges points end
  summed_later number later is same end output a t =
      subst (λ (i : ℕ). IsGeneratedRun start i before after later exchanges points end) (sym is)
      (subst (λ (h : List PlainEntry). IsGeneratedRun start session before after h exchanges points end) (sym same)
      (summed end output a (subst (λ (h : List PlainEntry). Tells (summary_of start (replies_of exchanges) (world_of h)) taken taken' k k' end) same t)))

pub tells_whole : (summary bytes : List ℕ) (taken taken' : Option (List ℕ)) (k k' : ℕ) → bytes ≡ summary → IsPut taken taken' k k' bytes puts.Done → Tells summary taken taken' k k' ends.Quit
tells_whole summary bytes taken taken' k k' is p = record { written = p.written; appended = p.appended; never_falls = p.never_falls; told = p.put ∙ is }

pub tells_part : (summary bytes : List ℕ) (taken taken' : Option (List ℕ)) (k k' : ℕ) → bytes ≡ summary → IsPut taken taken' k k' bytes puts.WriteFault → Tells summary taken taken' k k' ends.WriteFault
tells_part summary bytes taken taken' k k' is p = record { written = p.written; appended = p.appended; never_falls = p.never_falls; told = (((p.rest, sym is ∙ p.prefix), λ all. p.put.1 (all ∙ sym is)), p.put.0) }

pub tells_nothing : (summary : List ℕ) (taken : Option (List ℕ)) (k : ℕ) → Tells summary taken taken k k ends.Memory
tells_nothing summary taken k = record { written = []; appended = appends_nothing taken; never_falls = omega arith; told = refl }

-- there is no summary, and nothing was written
pub unsummed : (start session : ℕ) (history : List PlainEntry) (exchanges : List Exchange) (points : List ℕ) (left taken : Option (List ℕ)) (faults k m n : ℕ) (end : SessionEnd) → m ≤ n → HasNoSummary start session end history exchanges points
    → IsGeneratedRun start session (io_state left faults taken k m) (io_state left faults taken k n) history exchanges points end
unsummed start session history exchanges points left taken faults k m n end rises none = by end none
  where
    by : (end : SessionEnd) → HasNoSummary start session end history exchanges points → IsGeneratedRun start session (io_state left faults taken k m) (io_state left faults taken k n) history exchanges points end
    by ends.Memory (inl never) = record {
      written = [];
      left_stays = refl;
      source_faults_stay = refl;
      appended = appends_nothing taken;
      sink_never_falls = omega arith;
      disk_never_falls = rises;
      cause = tt;
      leaves = inl (tt, never);
    }
    by ends.Memory (inr s) = record {
      written = [];
      left_stays = refl;
      source_faults_stay = refl;
      appended = appends_nothing taken;
      sink_never_falls = omega arith;
      disk_never_falls = rises;
      cause = tt;
      leaves = inr s;
    }
    by ends.NoNumber none = record {
      written = [];
      left_stays = refl;
      source_faults_stay = refl;
      appended = appends_nothing taken;
      sink_never_falls = omega arith;
      disk_never_falls = rises;
      cause = tt;
      leaves = inl none;
    }
    by ends.Quit none = absurd none
    by ends.End none = absurd none
    by (ends.Malformed at) none = absurd none
    by (ends.Truncated at) none = absurd none
    by ends.ReadFault none = absurd none
    by ends.WriteFault none = absurd none
    by ends.Budget none = absurd none

-- ---- its input

valid_all : (made : List Request) → All (λ r. IsRequest (plain_request r)) made → AllByRecursion IsRequest (map plain_request made)
valid_all [] each = tt
valid_all (r ∷ made) each = (All-head (λ (r : Request). IsRequest (plain_request r)) r made each, valid_all made (All-tail (λ (r : Request). IsRequest (plain_request r)) r made each))

pub valid_at : (made : List Request) (i : ℕ) (r : Request) → i < length made → r ≡ get_or made i r → All (λ r. IsRequest (plain_request r)) made → IsRequest (plain_request r)
valid_at made i r lt is each = subst (λ (r : Request). IsRequest (plain_request r)) (sym is) (each i r lt)

abbrev pub spelled_up_to : List Request → ℕ → List ℕ
spelled_up_to made i = greeting ++ flat_map spell_request (map plain_request (take i made))

pub spelled_more : (made : List Request) (i : ℕ) (r : Request) (input more new : List ℕ) → i < length made → r ≡ get_or made i r → input ≡ spelled_up_to made i → more ≡ spell_request (plain_request r) → new ≡ input ++ more → new ≡ spelled_up_to made (i + 1)
spelled_more made i r input more new lt is so spelled grows =
    let front : List PlainRequest = map plain_request (take i made) in
    let next : map plain_request (take (i + 1) made) ≡ front ++ plain_request r ∷ [] = map_more plain_request made i r lt ∙ ap (λ (x : Request). front ++ plain_request x ∷ []) (sym is) in
    let last : flat_map spell_request (plain_request r ∷ []) ≡ more = append-nil (spell_request (plain_request r)) ∙ sym spelled in
    grows ∙ ap (λ (bytes : List ℕ). bytes ++ more) so ∙ append_assoc greeting (flat_map spell_request front) more
    ∙ sym (ap (λ (rs : List PlainRequest). greeting ++ flat_map spell_request rs) next ∙ ap (λ (bytes : List ℕ). greeting ++ bytes) (flat_map-append spell_request front (plain_request r ∷ []) ∙ ap (λ (bytes : List ℕ). flat_map spell_request front ++ bytes) last))

pub whole_input : (start : ℕ) (made : List Request) (i : ℕ) (input : List ℕ) → map plain_request made ≡ generated_requests start → All (λ r. IsRequest (plain_request r)) made → length made ≤ i → input ≡ spelled_up_to made i → IsInputOf (generated_requests start) input
whole_input start made i input is each over so = record {
  spelled = so ∙ ap (λ (rs : List Request). greeting ++ flat_map spell_request (map plain_request rs)) (take_all i made over) ∙ ap (λ (rs : List PlainRequest). greeting ++ flat_map spell_request rs) is;
  valid = subst (AllByRecursion IsRequest) is (valid_all made each);
  quits_last = generated_quit_last start;
}
