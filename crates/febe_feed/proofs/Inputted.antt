-- What a feed gives and holds, told by the words on whole inputs.
use Rattle.std.proofs.Common.{◌≡◌, ◌≢◌, ℕ, ◌≤◌, false, List, [], ◌∷◌, ◌++◌, length, take, drop, refl, sym, ap, subst, ◌∙◌, append_assoc, inl, inr, arith}
use Rattle.std.specs.List.{AllByRecursion}
use Rattle.std.proofs.lemmas.Bool.{cases_Bool, cases_lt}
use Rattle.std.proofs.lemmas.List.{append-nil, append_cancel_left, length-append, nil_from_length, take_at, take-append-le, take-append-drop}
use Rattle.febe_data.specs.Plain.{PlainRequest}
use Rattle.febe_data.specs.Validity.{IsRequest}
use Rattle.febe_fields.specs.Prefixes.{IsPrefix, HasNoSpelledPrefix, IsUnfinished}
use Rattle.febe_wire.specs.Grammar.{spell_request, IsSpelled}
use Rattle.febe_wire.specs.Sessions.{greeting, QuitsLast, EndsInQuit, IsInputOf, IsInput, IsQuitInput}
use Rattle.febe_wire.proofs.RequestLaws.{same_request, spelling_filled}
use Rattle.febe_feed.specs.FeedView.{FeedView, IsGreeting, Waits}
use Rattle.febe_feed.specs.Pieces.{HasGiven}
use Rattle.febe_feed.specs.Inputs.{NoQuits, IsOpenInput, WaitingIsOpen, WaitingIsTruncated, GivenIsInput}
use Rattle.febe_feed.proofs.Pieces.{spell_all, begins, behind_greeting, all_push, spelled_push}

-- ---- two prefixes of the same bytes

-- the shorter begins the longer
prefix_of : (x more g y : List ℕ) → x ++ more ≡ g ++ y → length g ≤ length x → take (length g) x ≡ g
prefix_of x more g y e le = sym (take-append-le (length g) x more le) ∙ ap (take (length g)) e ∙ take_at g y (length g) refl

-- and what the longer has behind it makes the longer of it
completed : (x more g y : List ℕ) → x ++ more ≡ g ++ y → length x ≤ length g → x ++ drop (length x) g ≡ g
completed x more g y e le = ap (λ (ds : List ℕ). ds ++ drop (length x) g) (sym (prefix_of g y x more (sym e) le)) ∙ take-append-drop (length x) g

-- ---- requests of which none is quit, and others behind them

no_quit_ends : (rs : List PlainRequest) → NoQuits rs → EndsInQuit rs → ⊥
no_quit_ends [] h e = e
no_quit_ends (r ∷ []) h e = h.0 e
no_quit_ends (r ∷ n ∷ rs) h e = no_quit_ends (n ∷ rs) h.1 e

quits_last_push : (rs : List PlainRequest) (r : PlainRequest) → NoQuits rs → QuitsLast (rs ++ r ∷ [])
quits_last_push [] r h = tt
quits_last_push (q ∷ []) r h = (h.0, tt)
quits_last_push (q ∷ n ∷ rs) r h = (h.0, quits_last_push (n ∷ rs) r h.1)

-- the requests ss are the requests rs, and then others, which spell these bytes
pub record Follows (rs ss : List PlainRequest) (bytes : List ℕ) : Type 0 where
  pub others : List PlainRequest
  pub all : ss ≡ rs ++ others
  pub spelled : bytes ≡ spell_all others
  pub valid : AllByRecursion IsRequest others

filled : (r : PlainRequest) (more : List ℕ) → spell_request r ++ more ≡ [] → ⊥
filled r more e = omega (arith, spelling_filled r, ap length e, length-append (spell_request r) more)

follows : (rs ss : List PlainRequest) (bytes : List ℕ) → AllByRecursion IsRequest rs → AllByRecursion IsRequest ss → spell_all rs ++ bytes ≡ spell_all ss → Follows rs ss bytes
follows [] ss bytes h g e = record { others = ss; all = refl; spelled = e; valid = g }
follows (r ∷ rs) [] bytes h g e = absurd (filled r (spell_all rs ++ bytes) (sym (append_assoc (spell_request r) (spell_all rs) bytes) ∙ e))
follows (r ∷ rs) (s ∷ ss) bytes h g e =
    let same = same_request r s (spell_all rs ++ bytes) (spell_all ss) h.0 g.0 (sym (append_assoc (spell_request r) (spell_all rs) bytes) ∙ e) in
    let on = follows rs ss bytes h.1 g.1 same.behind in
    record {
      others = on.others;
      all = ap (λ (q : PlainRequest). q ∷ ss) (sym same.request) ∙ ap (λ (qs : List PlainRequest). r ∷ qs) on.all;
      spelled = on.spelled;
      valid = on.valid;
    }

-- bytes that begin with no request spell none
none_spelled : (ts : List PlainRequest) (bytes : List ℕ) → AllByRecursion IsRequest ts → bytes ≡ spell_all ts → HasNoSpelledPrefix IsSpelled bytes → ts ≡ []
none_spelled [] bytes h e none = refl
none_spelled (t ∷ ts) bytes h e none = absurd (begins bytes (spell_all ts) t h.0 e none)

-- bytes that begin with no request, and begin some requests, begin the first of them
begins_first : (ts : List PlainRequest) (x more : List ℕ) → AllByRecursion IsRequest ts → x ++ more ≡ spell_all ts → x ≢ [] → HasNoSpelledPrefix IsSpelled x → IsPrefix IsSpelled x
begins_first [] x more h e some none = absurd (some (nil_from_length x (omega (arith, ap length e, length-append x more))))
begins_first (t ∷ ts) x more h e some none =
    elim (cases_lt (length x) (length (spell_request t))) [
      | inl lt ↦ record {
        more = drop (length x) (spell_request t);
        whole = record { request = t; spells = record { valid = h.0; spelled = completed x more (spell_request t) (spell_all ts) e (omega (arith, lt)) } };
      }
      | inr le ↦ absurd (none (length (spell_request t)) le (record { request = t; spells = record { valid = h.0; spelled = prefix_of x more (spell_request t) (spell_all ts) e le } }))
    ]

-- ---- the greeting, requests of which none is quit, and bytes behind them

abbrev pub behind : List PlainRequest → List ℕ → List ℕ
behind rs x = greeting ++ (spell_all rs ++ x)

pub behind_more : (rs : List PlainRequest) (x more : List ℕ) → behind rs x ++ more ≡ behind rs (x ++ more)
behind_more rs x more = append_assoc greeting (spell_all rs ++ x) more ∙ ap (λ (ds : List ℕ). greeting ++ ds) (append_assoc (spell_all rs) x more)

module _ (rs : List PlainRequest) (valid : AllByRecursion IsRequest rs) where
  pub behind_others : (ss : List PlainRequest) (x : List ℕ) → IsInputOf ss (behind rs x) → Follows rs ss x
  behind_others ss x h = follows rs ss x valid h.valid (append_cancel_left greeting (spell_all rs ++ x) (spell_all ss) h.spelled)

  module _ (x : List ℕ) (none : HasNoSpelledPrefix IsSpelled x) where
    -- an input of these bytes has no more requests
    no_others : (ss : List PlainRequest) → IsInputOf ss (behind rs x) → (ss ≡ rs) × (x ≡ [])
    no_others ss h =
        let f = behind_others ss x h in
        let e : f.others ≡ [] = none_spelled f.others x f.valid f.spelled none in
        (f.all ∙ ap (λ (qs : List PlainRequest). rs ++ qs) e ∙ append-nil rs, f.spelled ∙ ap spell_all e)

    pub input_none : x ≢ [] → IsInput (behind rs x) → ⊥
    input_none some h = some (no_others h.requests h.input).1

    pub quit_none : NoQuits rs → IsQuitInput (behind rs x) → ⊥
    quit_none quitless h = no_quit_ends rs quitless (subst EndsInQuit (no_others h.requests h.input).0 h.quits)

    pub prefix_told : x ≢ [] → IsPrefix IsInput (behind rs x) → IsPrefix IsSpelled x
    prefix_told some p =
        let f = behind_others p.whole.requests (x ++ p.more) (subst (IsInputOf p.whole.requests) (behind_more rs x p.more) p.whole.input) in
        begins_first f.others x p.more f.valid f.spelled some none

  pub prefix_made : (x : List ℕ) → NoQuits rs → IsPrefix IsSpelled x → IsPrefix IsInput (behind rs x)
  prefix_made x quitless p =
      let r = p.whole.request in
      record {
        more = p.more;
        whole = record {
          requests = rs ++ r ∷ [];
          input = record {
            spelled = behind_more rs x p.more ∙ ap (behind rs) p.whole.spells.spelled ∙ ap (λ (ds : List ℕ). greeting ++ ds) (sym (spelled_push rs r));
            valid = all_push rs r valid p.whole.spells.valid;
            quits_last = quits_last_push rs r quitless;
          };
        };
      }

-- ---- bytes that may be a greeting

module _ (x : List ℕ) (none : HasNoSpelledPrefix IsGreeting x) where
  pub greeting_told : IsPrefix IsInput x → IsPrefix IsGreeting x
  greeting_told p =
      elim (cases_lt (length x) (length greeting)) [
        | inl lt ↦ record {
          more = drop (length x) greeting;
          whole = completed x p.more greeting (spell_all p.whole.requests) p.whole.input.spelled (omega (arith, lt));
        }
        | inr le ↦ absurd (none (length greeting) le (prefix_of x p.more greeting (spell_all p.whole.requests) p.whole.input.spelled le))
      ]

  pub ungreeted : (ss : List PlainRequest) → IsInputOf ss x → ⊥
  ungreeted ss h =
      let le : length greeting ≤ length x = omega (arith, ap length h.spelled, length-append greeting (spell_all ss)) in
      none (length greeting) le (ap (take (length greeting)) h.spelled ∙ take_at greeting (spell_all ss) (length greeting) refl)

pub greeting_made : (x : List ℕ) → IsPrefix IsGreeting x → IsPrefix IsInput x
greeting_made x p = record { more = p.more; whole = record { requests = []; input = record { spelled = p.whole ∙ sym (append-nil greeting); valid = tt; quits_last = tt } } }

-- ---- a feed that waits

prefix_of_proper : (Spelled : List ℕ → Type 0) (x : List ℕ) → IsUnfinished Spelled x → IsPrefix Spelled x
prefix_of_proper Spelled x h = record { more = h.prefix.more; whole = h.prefix.whole }

-- nothing was given, and all is held
pub all_held : (stream : List ℕ) (rs : List PlainRequest) (feed : FeedView) → HasGiven stream rs feed → feed.greeted ≡ false → stream ≡ feed.held
all_held stream rs feed h not = rw not at h.parts

pub waiting_is_open : WaitingIsOpen
waiting_is_open stream rs feed after h quitless w =
    elim (cases_Bool feed.greeted) [
      | inl is ↦
          let u : IsUnfinished IsSpelled feed.held = rw is at w.prefix in
          subst IsOpenInput (sym (behind_greeting stream rs feed h is)) (record {
            prefix = prefix_made rs h.valid feed.held quitless (prefix_of_proper IsSpelled feed.held u);
            no_quit = λ q. quit_none rs h.valid feed.held u.none quitless q;
          })
      | inr not ↦
          let u : IsUnfinished IsGreeting feed.held = rw not at w.prefix in
          subst IsOpenInput (sym (all_held stream rs feed h not)) (record {
            prefix = greeting_made feed.held (prefix_of_proper IsGreeting feed.held u);
            no_quit = λ q. ungreeted feed.held u.none q.requests q.input;
          })
    ]

waiting_inside : (stream : List ℕ) (rs : List PlainRequest) (feed after : FeedView) → HasGiven stream rs feed → Waits feed after → feed.held ≢ [] → IsInput stream → ⊥
waiting_inside stream rs feed after h w some input =
    elim (cases_Bool feed.greeted) [
      | inl is ↦
          let u : IsUnfinished IsSpelled feed.held = rw is at w.prefix in
          input_none rs h.valid feed.held u.none some (subst IsInput (behind_greeting stream rs feed h is) input)
      | inr not ↦
          let u : IsUnfinished IsGreeting feed.held = rw not at w.prefix in
          let all : IsInput feed.held = subst IsInput (all_held stream rs feed h not) input in
          ungreeted feed.held u.none all.requests all.input
    ]

nothing_held : (given held : List ℕ) → given ++ held ≡ [] → held ≡ []
nothing_held given held e = nil_from_length held (omega (arith, ap length e, length-append given held))

pub waiting_is_truncated : WaitingIsTruncated
waiting_is_truncated stream rs feed after h quitless w some = record {
  some = λ e. some (nothing_held _ feed.held (sym h.parts ∙ e));
  prefix = (waiting_is_open stream rs feed after h quitless w).prefix;
  inside = λ input. waiting_inside stream rs feed after h w some input;
}

-- ---- a feed that holds nothing

pub given_is_input : GivenIsInput
given_is_input stream rs feed h quits_last is empty = record {
  spelled = behind_greeting stream rs feed h is ∙ ap (λ (ds : List ℕ). greeting ++ (spell_all rs ++ ds)) empty ∙ ap (λ (ds : List ℕ). greeting ++ ds) (append-nil (spell_all rs));
  valid = h.valid;
  quits_last = quits_last;
}
