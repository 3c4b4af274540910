-- The plays of a session, one after another, from its Begin to its End.
use Rattle.std.proofs.Common.{◌≡◌, ◌≢◌, inl, inr, ℕ, Bool, true, false, List, [], ◌∷◌, ◌++◌, map, refl, ap, sym, subst, ◌∙◌, append_assoc}
use Rattle.std.specs.List.{flat_map}
use Rattle.std.proofs.lemmas.List.{append-nil, map-append}
use Rattle.std.proofs.lemmas.List.Concat.{flat_map-append}
use Rattle.febe_data.specs.Plain.{PlainEntry}
use Rattle.history_lock.specs.declared.view.View.{View}
use Rattle.history_lock.specs.declared.view.MarkedAct.{MarkedAct}
use Rattle.history_lock.specs.Histories.{StartsWith}
use Rattle.world_rules.specs.History.{is_live, entries_of}
use Rattle.world_rules.specs.Legal.{Exchange}
use Rattle.green_store.specs.Sessions.{begin_entry}
use Rattle.green_top.specs.Served.{told_by_act, told_by_exchange, moment_of, AreEnds, HasPlayedSession, HasSatActs}
use Rattle.green_top.specs.declared.session_end.SessionEnd.{SessionEnd}
use Rattle.green_top.specs.Times.{Coming, GivenBy}
use Rattle.green_top.specs.inside.Behind.{GainsAct, HasBegunBehind, HasAskedBehind, HasEndedBehind}
use Rattle.green_top.specs.inside.Play.{Chain, nothing, asked, tended, IsSat, HasServed}
use Rattle.green_top.proofs.Timings.{given_none, given_one, given_both}

-- what was seen begins what is seen now, and the limits are the same
pub record GoesOn (v w : View PlainEntry) : Type 0 where
  pub starts_with : StartsWith w.seen v.seen
  pub fixed_stays : w.fixed ≡ v.fixed

stays_on : (v w : View PlainEntry) → w ≡ v → GoesOn v w
stays_on v w stays = record { starts_with = ([], ap (λ (x : View PlainEntry). x.seen) stays ∙ sym (append-nil v.seen)); fixed_stays = ap (λ (x : View PlainEntry). x.fixed) stays }

gains_on : (v w : View PlainEntry) (old new : Coming) (act : MarkedAct) → GainsAct v old act w new → GoesOn v w
gains_on v w old new act gained = record { starts_with = gained.starts_with; fixed_stays = gained.fixed_stays }

goes_on_further : (u v w : View PlainEntry) → GoesOn u v → GoesOn v w → GoesOn u w
goes_on_further u v w a b = record {
  starts_with = (a.starts_with.0 ++ b.starts_with.0, b.starts_with.1 ∙ ap (λ (h : List PlainEntry). h ++ b.starts_with.0) a.starts_with.1 ∙ append_assoc u.seen a.starts_with.0 b.starts_with.0);
  fixed_stays = b.fixed_stays ∙ a.fixed_stays;
}

-- the moments of plays that a clock gave, and then of others
timed_both : (xs ys : List MarkedAct) (old between new : Coming) → GivenBy (map moment_of xs) old between → GivenBy (map moment_of ys) between new → GivenBy (map moment_of (xs ++ ys)) old new
timed_both xs ys old between new a b = subst (λ (moments : List ℕ). GivenBy moments old new) (sym (map-append moment_of xs ys)) (given_both (map moment_of xs) (map moment_of ys) old between new a b)

-- the moment of one play
timed_one : (v w : View PlainEntry) (old new : Coming) (act : MarkedAct) → GainsAct v old act w new → GivenBy (map moment_of (act ∷ [])) old new
timed_one v w old new act gained = given_one (moment_of act) old new gained.timed

-- one play was made for each exchange
record HasAskedAll (v : View PlainEntry) (old : Coming) (exchanges : List Exchange) (w : View PlainEntry) (new : Coming) : Type 0 where
  pub asks : List MarkedAct
  pub acts_are : w.acts ≡ v.acts ++ asks
  pub asks_are : map told_by_act asks ≡ map told_by_exchange exchanges
  pub timed : GivenBy (map moment_of asks) old new
  pub goes_on : GoesOn v w
  pub number_stays : w.number ≡ v.number
  pub own : entries_of v.number w.seen ≡ entries_of v.number v.seen ++ flat_map (λ (e : Exchange). e.added) exchanges

asked_none : (v w : View PlainEntry) (old new : Coming) (exchanges : List Exchange) → exchanges ≡ [] → w ≡ v → new ≡ old → HasAskedAll v old exchanges w new
asked_none v w old new exchanges none stays waits = record {
  asks = [];
  acts_are = ap (λ (x : View PlainEntry). x.acts) stays ∙ sym (append-nil v.acts);
  asks_are = ap (map told_by_exchange) (sym none);
  timed = subst (λ (c : Coming). GivenBy [] old c) (sym waits) (given_none old);
  goes_on = stays_on v w stays;
  number_stays = ap (λ (x : View PlainEntry). x.number) stays;
  own = ap (λ (x : View PlainEntry). entries_of v.number x.seen) stays ∙ sym (append-nil (entries_of v.number v.seen)) ∙ ap (λ (es : List Exchange). entries_of v.number v.seen ++ flat_map (λ (e : Exchange). e.added) es) (sym none);
}

asked_more : (u v w : View PlainEntry) (first between last : Coming) (exchanges before : List Exchange) (exchange : Exchange) → exchanges ≡ before ++ exchange ∷ [] → HasAskedAll u first before v between → HasAskedBehind v between exchange w last
    → HasAskedAll u first exchanges w last
asked_more u v w first between last exchanges before exchange are all one = record {
  asks = all.asks ++ one.act ∷ [];
  acts_are = one.gains.acts_are ∙ ap (λ (acts : List MarkedAct). acts ++ one.act ∷ []) all.acts_are ∙ append_assoc u.acts all.asks (one.act ∷ []);
  asks_are = map-append told_by_act all.asks (one.act ∷ []) ∙ rw (all.asks_are, one.told) refl ∙ sym (map-append told_by_exchange before (exchange ∷ [])) ∙ ap (map told_by_exchange) (sym are);
  timed = timed_both all.asks (one.act ∷ []) first between last all.timed (timed_one v w between last one.act one.gains);
  goes_on = goes_on_further u v w all.goes_on (gains_on v w between last one.act one.gains);
  number_stays = one.number_stays ∙ all.number_stays;
  own = one_more;
}
  where
    one_more : entries_of u.number w.seen ≡ entries_of u.number u.seen ++ flat_map (λ (e : Exchange). e.added) exchanges
    one_more =
        subst (λ (n : ℕ). entries_of n w.seen ≡ entries_of n v.seen ++ exchange.added) all.number_stays one.own
        ∙ ap (λ (es : List PlainEntry). es ++ exchange.added) all.own ∙ append_assoc (entries_of u.number u.seen) (flat_map (λ (e : Exchange). e.added) before) exchange.added
        ∙ ap (λ (es : List PlainEntry). entries_of u.number u.seen ++ es) (sym (ap (flat_map (λ (e : Exchange). e.added)) are ∙ flat_map-append (λ (e : Exchange). e.added) before (exchange ∷ []) ∙ ap (λ (es : List PlainEntry). flat_map (λ (e : Exchange). e.added) before ++ es) (append-nil exchange.added)))

-- a session began, its requests were asked, and these plays came last
played_session : (u begun left w : View PlainEntry) (first second third last : Coming) (exchanges : List Exchange) (ends : List MarkedAct) → HasBegunBehind u first begun second → begun.number ≢ 0 → HasAskedAll begun second exchanges left third
    → w.number ≡ left.number → w.acts ≡ left.acts ++ ends → GivenBy (map moment_of ends) third last → AreEnds left.number left.seen ends w.seen → HasPlayedSession exchanges u w first last
played_session u begun left w first second third last exchanges ends began some all number acts timed are = record {
  numbered = λ zero. some (sym same ∙ zero);
  begin = began.act;
  asks = all.asks;
  ends = ends;
  acts_are = acts ∙ ap (λ (acts : List MarkedAct). acts ++ ends) (all.acts_are ∙ ap (λ (acts : List MarkedAct). acts ++ all.asks) began.gains.acts_are ∙ append_assoc u.acts (began.act ∷ []) all.asks) ∙ append_assoc u.acts (began.act ∷ all.asks) ends;
  asks_are = all.asks_are;
  timed = timed_both (began.act ∷ []) (all.asks ++ ends) first second last (timed_one u begun first second began.act began.gains) (timed_both all.asks ends second third last all.timed timed);
  left = left.seen;
  own = subst (λ (n : ℕ). entries_of n left.seen ≡ begin_entry n ∷ flat_map (λ (e : Exchange). e.added) exchanges) (sym same) (all.own ∙ ap (λ (es : List PlainEntry). es ++ flat_map (λ (e : Exchange). e.added) exchanges) (began.first_entry some));
  ends_are = subst (λ (n : ℕ). AreEnds n left.seen ends w.seen) (sym number) are;
}
  where
    same : w.number ≡ begun.number
    same = number ∙ all.number_stays

ended_last : (left w : View PlainEntry) (old new : Coming) → is_live left.seen left.number ≡ true → (one : HasEndedBehind left old w new) → AreEnds left.number left.seen (one.act ∷ []) w.seen
ended_last left w old new live one = inl (live, refl, (one.ends.past, one.ends.grows))

module _ {F S : Type 0} (know : F → View PlainEntry) where
  abbrev BeginsSo : F → S → Coming → F → S → Coming → Type 0
  BeginsSo = λ f s c f' s' c'. HasBegunBehind (know f) c (know f') c'

  abbrev AsksSo : F → S → Coming → Exchange → F → S → Coming → Type 0
  AsksSo = λ f s c e f' s' c'. HasAskedBehind (know f) c e (know f') c'

  -- nothing is done
  abbrev TendsSo : F → S → Coming → F → S → Coming → Type 0
  TendsSo = λ f s c f' s' c'. (f' ≡ f) × (c' ≡ c)

  abbrev EndsSo : F → S → Coming → F → S → Coming → Type 0
  EndsSo = λ f s c f' s' c'. HasEndedBehind (know f) c (know f') c'

  chain_asks : (first : F) (second : S) (coming : Coming) (exchanges : List Exchange) (done : Bool) (first' : F) (second' : S) (coming' : Coming)
      → Chain AsksSo TendsSo first second coming exchanges done first' second' coming' → HasAskedAll (know first) coming exchanges (know first') coming'
  chain_asks first second coming exchanges done first' second' coming' (nothing es d f s c none is_done same same' waits) = asked_none (know first) (know first') coming coming' exchanges none (ap know same) waits
  chain_asks first second coming exchanges done first' second' coming' (asked es before exchange d between between' coming_between f s c are undone chain told) =
      asked_more (know first) (know between) (know first') coming coming_between coming' exchanges before exchange are (chain_asks first second coming before true between between' coming_between chain) told
  chain_asks first second coming exchanges done first' second' coming' (tended es d between between' coming_between f s c is_done chain left) =
      subst (λ (c : Coming). HasAskedAll (know first) coming exchanges (know first') c) (sym left.1)
      (subst (λ (f : F). HasAskedAll (know first) coming exchanges (know f) coming_between) (sym left.0) (chain_asks first second coming exchanges false between between' coming_between chain))

  abbrev HasSatBehind : SessionEnd → F → S → Coming → List Exchange → F → S → Coming → Type 0
  HasSatBehind end first second coming exchanges first' second' coming' = IsSat (λ f s. (know f).seen) (λ f. (know f).number) BeginsSo AsksSo TendsSo EndsSo end first second coming exchanges first' second' coming'

  sat_acts : (end : SessionEnd) (first : F) (second : S) (coming : Coming) (exchanges : List Exchange) (first' : F) (second' : S) (coming' : Coming) → HasSatBehind end first second coming exchanges first' second' coming'
      → HasPlayedSession exchanges (know first) (know first') coming coming' × GoesOn (know first) (know first')
  sat_acts end first second coming exchanges first' second' coming' sat =
      let begun : HasBegunBehind (know first) coming (know sat.begun) sat.coming_begun = sat.begins in
      let all = chain_asks sat.begun sat.begun' sat.coming_begun exchanges sat.done sat.left sat.left' sat.coming_left sat.chain in
      let gone = goes_on_further (know first) (know sat.begun) (know sat.left) (gains_on (know first) (know sat.begun) coming sat.coming_begun begun.act begun.gains) all.goes_on in
      elim sat.last [
        | inl last ↦ (
          played_session (know first) (know sat.begun) (know sat.left) (know first') coming sat.coming_begun sat.coming_left coming' exchanges (last.1.act ∷ []) begun sat.numbered all last.1.number_stays last.1.gains.acts_are
              (timed_one (know sat.left) (know first') sat.coming_left coming' last.1.act last.1.gains) (ended_last (know sat.left) (know first') sat.coming_left coming' last.0 last.1),
          goes_on_further (know first) (know sat.left) (know first') gone (gains_on (know sat.left) (know first') sat.coming_left coming' last.1.act last.1.gains),
        )
        | inr last ↦ subst (λ (c : Coming). HasPlayedSession exchanges (know first) (know first') coming c × GoesOn (know first) (know first')) (sym last.3) (
            subst (λ (f : F). HasPlayedSession exchanges (know first) (know f) coming sat.coming_left × GoesOn (know first) (know f)) (sym last.1) (
              played_session (know first) (know sat.begun) (know sat.left) (know sat.left) coming sat.coming_begun sat.coming_left sat.coming_left exchanges [] begun sat.numbered all refl (sym (append-nil (know sat.left).acts))
                  (given_none sat.coming_left) (inr (last.0, refl, refl)),
              gone,
            )
            )
      ]

  pub served_acts : (end : SessionEnd) (first : F) (second : S) (coming : Coming) (exchanges : List Exchange) (first' : F) (second' : S) (coming' : Coming)
      → HasServed (λ f s. (know f).seen) (λ f. (know f).number) (λ f s c f' s' c'. HasBegunBehind (know f) c (know f') c') (λ f s c e f' s' c'. HasAskedBehind (know f) c e (know f') c') (λ f s c f' s' c'. (f' ≡ f) × (c' ≡ c))
      (λ f s c f' s' c'. HasEndedBehind (know f) c (know f') c') end first second coming exchanges first' second' coming'
      → HasSatActs exchanges (know first) (know first') coming coming' × GoesOn (know first) (know first')
  served_acts end first second coming exchanges first' second' coming' (inl none) =
      (inl (record { none_answered = none.none_answered; stays = ap know none.first_stays; not_asked = none.coming_stays }), stays_on (know first) (know first') (ap know none.first_stays))
  served_acts end first second coming exchanges first' second' coming' (inr (inl one)) = (
    inr (inl (record { none_answered = one.none_answered; unnumbered = one.unnumbered; begin = one.begins.act; acts_are = one.begins.gains.acts_are; timed = timed_one (know first) (know first') coming coming' one.begins.act one.begins.gains })),
    gains_on (know first) (know first') coming coming' one.begins.act one.begins.gains,
  )
  served_acts end first second coming exchanges first' second' coming' (inr (inr sat)) = let both = sat_acts end first second coming exchanges first' second' coming' sat in (inr (inr both.0), both.1)
