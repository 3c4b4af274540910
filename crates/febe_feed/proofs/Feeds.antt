-- What a feed's scan says of the bytes that are held.
use Rattle.std.proofs.Common.{◌≡◌, ℕ, ◌+◌, ◌<◌, ◌≤◌, Bool, true, false, List, [], ◌∷◌, ◌++◌, length, take, drop, Option, Some, None, refl, sym, ap, subst, ◌∙◌, append_assoc, inl, inr, arith}
use Rattle.std.specs.Prelude.{◌==◌, Result, Ok, Err, OnOk, OnErr}
use Rattle.std.proofs.lemmas.Bool.{cases_Bool, eqb-true, eq-eqb}
use Rattle.std.proofs.lemmas.Option.{same_Some}
use Rattle.std.proofs.lemmas.List.{take-append-drop, take-append-le, length-append, length-drop, length-take-le, take_all}
use Rattle.febe_fields.specs.declared.scanned.Scanned.{Scanned}
use Rattle.febe_fields.specs.declared.scanned.Scanned.TheVariants.{Incomplete, Complete, Bad}
use Rattle.febe_fields.specs.Prefixes.{IsScanned, HasSpelledPrefix}
use Rattle.febe_fields.specs.Scanning.{Outcome, goes, done, fails, behind, behind_one, scan_on, scan}
use Rattle.febe_fields.specs.Fields.{takes}
use Rattle.febe_fields.proofs.Scans.{takes_some, takes_one, one_taken, scan_says, scanned_too}
use Rattle.febe_fields.proofs.Passing.{behind_none, behind_more}
use Rattle.febe_wire.specs.declared.scan.RequestScanner.{RequestScanner}
use Rattle.febe_wire.specs.declared.scan.RequestScanner.TheVariants as scanners
use Rattle.febe_wire.specs.Grammar.{IsSpelled}
use Rattle.febe_wire.specs.RequestMachine.{RequestState, state_of, at_start, request_step}
use Rattle.febe_wire.proofs.RequestScans.{request_goes_on, request_scanned}
use Rattle.febe_data.specs.declared.request.Request.{Request}
use Rattle.febe_data.specs.Plain.{PlainRequest}
use Rattle.febe_wire.specs.declared.got.Got.{Got}
use Rattle.febe_wire.specs.declared.got.Got.TheVariants as got_answers
use Rattle.febe_wire.specs.Reads.{IsRead, IsGot}
use Rattle.febe_feed.specs.FeedView.{FeedView, later, IsGreeting, Waits, IsWrong, Greets, GivesRequest}
use Rattle.febe_feed.specs.inside.HeldView.{HeldView}
use Rattle.febe_feed.specs.inside.IsFeed.{IsFeed}
use Rattle.febe_feed.specs.inside.Greetings.{Rest, all_of_it, greeting_step}

-- ---- the greeting

greeting_takes : (b : ℕ) (others bytes : List ℕ) → takes greeting_step (record { first = b; others = others }) bytes → bytes ≡ b ∷ others
greeting_takes b others [] h = absurd (takes_some greeting_step (record { first = b; others = others }) h)
greeting_takes b [] (c ∷ bytes) h =
    let f = takes_one greeting_step (record { first = b; others = [] }) c bytes h in
    elim (cases_Bool (c == b)) [
      | inl is ↦
          let none : bytes ≡ [] = rw is at f in
          ap (λ (x : ℕ). x ∷ bytes) (eqb-true _ _ is) ∙ ap (λ (ds : List ℕ). b ∷ ds) none
      | inr other ↦ absurd (rw other at f)
    ]
greeting_takes b (d ∷ others) (c ∷ bytes) h =
    let f = takes_one greeting_step (record { first = b; others = d ∷ others }) c bytes h in
    elim (cases_Bool (c == b)) [
      | inl is ↦
          let on : takes greeting_step (record { first = d; others = others }) bytes = rw is at f in
          ap (λ (x : ℕ). x ∷ bytes) (eqb-true _ _ is) ∙ ap (λ (ds : List ℕ). b ∷ ds) (greeting_takes d others bytes on)
      | inr other ↦ absurd (rw other at f)
    ]

greeting_again : (b : ℕ) (others : List ℕ) → takes greeting_step (record { first = b; others = others }) (b ∷ others)
greeting_again b [] = one_taken greeting_step (record { first = b; others = [] }) b [] (rw (eq-eqb b b refl) refl)
greeting_again b (d ∷ others) = one_taken greeting_step (record { first = b; others = d ∷ others }) b (d ∷ others) (rw (eq-eqb b b refl) (greeting_again d others))

greeting_goes_on : (s : Rest) → (bytes : List ℕ) × takes greeting_step s bytes
greeting_goes_on s = (s.first ∷ s.others, greeting_again s.first s.others)

pub greeting_scanned : (bytes : List ℕ) (r : Scanned) → r ≡ scan greeting_step all_of_it bytes → IsScanned IsGreeting bytes r
greeting_scanned bytes r e =
    subst (IsScanned IsGreeting bytes) (sym e)
    (scanned_too (takes greeting_step all_of_it) IsGreeting (λ w. greeting_takes 80 (48 ∷ 126 ∷ []) w) (λ w is. subst (takes greeting_step all_of_it) (sym is) (greeting_again 80 (48 ∷ 126 ∷ []))) bytes (scan greeting_step all_of_it bytes) (scan_says greeting_step greeting_goes_on all_of_it bytes))

-- ---- scans that go on

within_of : (s : RequestState) (bytes : List ℕ) (r : Scanned) → r ≡ scan request_step s bytes → IsScanned (takes request_step s) bytes r
within_of s bytes r e = subst (IsScanned (takes request_step s) bytes) (sym e) (scan_says request_step request_goes_on s bytes)

-- bytes that are bad stay so
pub bad_stays : (s : RequestState) (bytes more : List ℕ) (at : ℕ) → scan request_step s bytes ≡ Bad at → scan request_step s (bytes ++ more) ≡ Bad at
unfolding scan
bad_stays s [] more at e = absurd cc
bad_stays s (b ∷ bytes) more at e = stays_by (λ t k. bad_stays t bytes more k) (request_step s b) at e where
  stays_by : ((t : RequestState) (k : ℕ) → scan request_step t bytes ≡ Bad k → scan request_step t (bytes ++ more) ≡ Bad k) → (o : Outcome RequestState) (at : ℕ) → scan_on o (λ next. scan request_step next bytes) ≡ Bad at → scan_on o (λ next. scan request_step next (bytes ++ more)) ≡ Bad at
  stays_by on (goes t) at e = goes_by (on t) (scan request_step t bytes) refl e where
    goes_by : ((k : ℕ) → scan request_step t bytes ≡ Bad k → scan request_step t (bytes ++ more) ≡ Bad k) → (r : Scanned) → scan request_step t bytes ≡ r → behind_one r ≡ Bad at → behind_one (scan request_step t (bytes ++ more)) ≡ Bad at
    goes_by on Incomplete f e = absurd cc
    goes_by on (Complete used) f e = absurd cc
    goes_by on (Bad k) f e = ap behind_one (on k f) ∙ e
  stays_by on done at e = absurd cc
  stays_by on fails at e = e

-- ---- the feed

pub feed_starts : (held : List ℕ) → IsFeed held 0 scanners.Start None
feed_starts held = record {
  within = omega arith;
  stands = λ more. sym (behind_none (scan request_step at_start more));
  bad_is = λ at e. absurd cc;
}

module _ (held : List ℕ) (scanned : ℕ) (scanner : RequestScanner) (bad : Option ℕ) (f : IsFeed held scanned scanner bad) where
  pub feed_pushed : (piece : List ℕ) → IsFeed (held ++ piece) scanned scanner bad
  feed_pushed piece = record {
    within = omega (arith, f.within, length-append held piece);
    stands = λ more. ap (λ (ds : List ℕ). scan request_step at_start (ds ++ more)) (take-append-le scanned held piece f.within) ∙ f.stands more;
    bad_is = λ at e. bad_stays at_start held piece at (f.bad_is at e);
  }

  -- the scan of the rest, and that of all
  pub whole_is : scan request_step at_start held ≡ behind scanned (scan request_step (state_of scanner) (drop scanned held))
  whole_is = ap (scan request_step at_start) (sym (take-append-drop scanned held)) ∙ f.stands (drop scanned held)

  pub feed_goes_on : (next : RequestScanner) → Incomplete ≡ scan request_step (state_of scanner) (drop scanned held)
      → ((more : List ℕ) → scan request_step (state_of scanner) (drop scanned held ++ more) ≡ behind (length (drop scanned held)) (scan request_step (state_of next) more)) → IsFeed held (length held) next bad
  feed_goes_on next over on = record {
    within = omega arith;
    stands = λ more.
        let all : take (length held) held ≡ take scanned held ++ drop scanned held = take_all (length held) held (omega arith) ∙ sym (take-append-drop scanned held) in
        let counted : scanned + length (drop scanned held) ≡ length held = omega (arith, length-drop scanned held, f.within) in
        ap (λ (ds : List ℕ). scan request_step at_start (ds ++ more)) all ∙ ap (scan request_step at_start) (append_assoc (take scanned held) (drop scanned held) more)
        ∙ f.stands (drop scanned held ++ more) ∙ ap (behind scanned) (on more) ∙ behind_more scanned (length (drop scanned held)) (scan request_step (state_of next) more)
        ∙ ap (λ (k : ℕ). behind k (scan request_step (state_of next) more)) counted;
    bad_is = f.bad_is;
  }

  pub feed_waits : Incomplete ≡ scan request_step (state_of scanner) (drop scanned held) → IsScanned IsSpelled held Incomplete
  feed_waits over = request_scanned held Incomplete (ap (behind scanned) over ∙ sym whole_is)

  pub feed_completes : (used : ℕ) → Complete used ≡ scan request_step (state_of scanner) (drop scanned held) → HasSpelledPrefix IsSpelled held (scanned + used)
  feed_completes used over = request_scanned held (Complete (scanned + used)) (ap (behind scanned) over ∙ sym whole_is)

  pub feed_fails : (at : ℕ) → Bad at ≡ scan request_step (state_of scanner) (drop scanned held) → scan request_step at_start held ≡ Bad (scanned + at)
  feed_fails at over = whole_is ∙ ap (behind scanned) (sym over)

  pub feed_bad : (at : ℕ) → Bad at ≡ scan request_step (state_of scanner) (drop scanned held) → IsFeed held scanned scanner (Some (scanned + at))
  feed_bad at over = record { within = f.within; stands = f.stands; bad_is = λ k e. feed_fails at over ∙ ap Bad (same_Some (scanned + at) k e) }

  pub bad_bound : (at : ℕ) → Bad at ≡ scan request_step (state_of scanner) (drop scanned held) → scanned + at < length held
  bad_bound at over = omega (arith, (within_of (state_of scanner) (drop scanned held) (Bad at) over).within, length-drop scanned held, f.within)

  pub used_bound : (used : ℕ) → Complete used ≡ scan request_step (state_of scanner) (drop scanned held) → scanned + used ≤ length held
  used_bound used over = omega (arith, (within_of (state_of scanner) (drop scanned held) (Complete used) over).within, length-drop scanned held, f.within)

  pub known_bad : (at : ℕ) → bad ≡ Some at → IsScanned IsSpelled held (Bad at)
  known_bad at e = request_scanned held (Bad at) (sym (f.bad_is at e))

-- ---- what comes next, for the view

module _ (v : FeedView) where
  pub waits : v.greeted ≡ true → IsScanned IsSpelled v.held Incomplete → Waits v v
  waits greeted h = record { stays = refl; prefix = rw greeted h }

  pub is_wrong : (at place : ℕ) → v.greeted ≡ true → IsScanned IsSpelled v.held (Bad at) → place ≡ later v.offset at → IsWrong v v place
  is_wrong at place greeted h e = record { stays = refl; place = at; bad = rw greeted h; at_is = e }

  pub waits_greeting : v.greeted ≡ false → IsScanned IsGreeting v.held Incomplete → Waits v v
  waits_greeting greeted h = record { stays = refl; prefix = rw greeted h }

  pub is_wrong_greeting : (at place : ℕ) → v.greeted ≡ false → IsScanned IsGreeting v.held (Bad at) → place ≡ later v.offset at → IsWrong v v place
  is_wrong_greeting at place greeted h e = record { stays = refl; place = at; bad = rw greeted h; at_is = e }

  greets_used : (used : ℕ) → HasSpelledPrefix IsGreeting v.held used → used ≡ 3
  greets_used used h = omega (arith, h.within, length-take-le used v.held h.within, ap length h.prefix)

  pub greets : (used : ℕ) (after : FeedView) → v.greeted ≡ false → HasSpelledPrefix IsGreeting v.held used → after ≡ record { greeted = true; held = drop used v.held; offset = later v.offset used } → Greets v after
  greets used after greeted h e = rw e (record {
    first = greeted;
    prefix = sym (take-append-drop used v.held) ∙ ap (λ (ds : List ℕ). ds ++ drop used v.held) h.prefix;
    greeted = refl;
    offset = ap (later v.offset) (greets_used used h);
  })

  pub gives : (used more : ℕ) (request : PlainRequest) (after : FeedView) → v.greeted ≡ true → IsRead v.held request used → after ≡ record { greeted = v.greeted; held = drop used v.held; offset = later v.offset used } → GivesRequest v after request
  gives used more request after greeted read e = record { greeted = greeted; used = used; read = read; after_is = e ∙ ap (λ (g : Bool). record { greeted = g; held = drop used v.held; offset = later v.offset used }) greeted }

-- a request that begins the bytes is got, and nothing else
pub got_request : (bytes : List ℕ) (used : ℕ) (got : Got) → HasSpelledPrefix IsSpelled bytes used → IsGot bytes got → ((request : Request) (used : ℕ) → got ≡ got_answers.Request request used → ⊥) → ⊥
got_request bytes used (got_answers.Request request n) h g other = other request n refl
got_request bytes used got_answers.More h g other = g.none used h.within h.prefix
got_request bytes used (got_answers.Bad at) h g other = g.none used h.within h.prefix

pub feed_pushed_by : {E : Type 0} (held after : HeldView) (piece : List ℕ) (scanned : ℕ) (scanner : RequestScanner) (bad : Option ℕ) (r : Result (Unit {0}) E) → OnOk r (after.bytes ≡ held.bytes ++ piece) → OnErr r (after ≡ held)
    → IsFeed held.bytes scanned scanner bad → IsFeed after.bytes scanned scanner bad
feed_pushed_by held after piece scanned scanner bad (Ok x) ok err f = rw ok (feed_pushed held.bytes scanned scanner bad f piece)
feed_pushed_by held after piece scanned scanner bad (Err e) ok err f = rw err f
