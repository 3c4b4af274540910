-- Where a stream is malformed.
use Rattle.std.proofs.Common.{◌≡◌, ◌≢◌, ℕ, ◌+◌, ◌-◌, ◌<◌, ◌≤◌, List, [], ◌∷◌, ◌++◌, length, take, drop, refl, sym, ap, subst, ◌∙◌, append_assoc, inl, inr, arith}
use Rattle.std.specs.List.{AllByRecursion}
use Rattle.std.proofs.lemmas.Bool.{cases_Bool, cases_lt}
use Rattle.std.proofs.lemmas.List.{append-nil, length-append, length-take-le, nil_from_length, take-take, take-append-le, take-append-drop}
use Rattle.std.proofs.Math.Seq.{take-append-add}
use Rattle.febe_data.specs.Plain.{PlainRequest}
use Rattle.febe_data.specs.Validity.{IsRequest}
use Rattle.febe_fields.specs.Prefixes.{IsPrefix, HasNoSpelledPrefix, IsBadAt}
use Rattle.febe_wire.specs.Grammar.{IsSpelled}
use Rattle.febe_wire.specs.Sessions.{greeting, QuitsLast, EndsInQuit, IsInputOf, IsInput, IsQuitInput, IsMalformedAt}
use Rattle.febe_feed.specs.FeedView.{later, IsGreeting}
use Rattle.febe_feed.specs.Inputs.{NoQuits, WrongIsMalformed, PrefixesAreRight, QuitEndsJudging, InputsAreRight, OneFault}
use Rattle.febe_feed.proofs.Pieces.{spell_all, behind_greeting, place_of}
use Rattle.febe_feed.proofs.Inputted.{behind, behind_more, behind_others, quit_none, prefix_told, prefix_made, greeting_told, ungreeted, greeting_made, all_held, waiting_is_open, waiting_is_truncated, given_is_input}

-- ---- prefixes of bytes

length_front : (n : ℕ) (x : List ℕ) → n ≤ length x → length (take n x) ≡ n
length_front n x le = length-take-le n x le

some_prefix : (n : ℕ) (x : List ℕ) → n < length x → take (n + 1) x ≢ []
some_prefix n x lt e = omega (arith, length_front (n + 1) x (omega (arith, lt)), ap length e)

module _ (Spelled : List ℕ → Type 0) (x : List ℕ) where
  none_in_front : (n : ℕ) → n ≤ length x → HasNoSpelledPrefix Spelled x → HasNoSpelledPrefix Spelled (take n x)
  none_in_front n le none m within s =
      let short : m ≤ n = omega (arith, within, length_front n x le) in
      none m (omega (arith, short, le)) (subst Spelled (take-take m n x short) s)

  -- with one byte more than that place nothing begins so
  none_longer : (place : ℕ) → IsBadAt Spelled x place → ¬ IsPrefix Spelled (take (place + 1) x)
  none_longer place bad p = bad.longest (place + 1) (omega arith) (omega (arith, bad.within)) p

-- a prefix of a prefix of an input is one
shorter : (bytes : List ℕ) (n : ℕ) → IsPrefix IsInput bytes → IsPrefix IsInput (take n bytes)
shorter bytes n p = record {
  more = drop n bytes ++ p.more;
  whole = subst IsInput (sym (sym (append_assoc (take n bytes) (drop n bytes) p.more) ∙ ap (λ (ds : List ℕ). ds ++ p.more) (take-append-drop n bytes))) p.whole;
}

-- ---- a feed that finds a wrong byte

module _ (rs : List PlainRequest) (held : List ℕ) where
  prefix_behind : (n : ℕ) → take (length (greeting ++ spell_all rs) + n) (behind rs held) ≡ behind rs (take n held)
  prefix_behind n =
      ap (take (length (greeting ++ spell_all rs) + n)) (sym (append_assoc greeting (spell_all rs) held)) ∙ take-append-add (greeting ++ spell_all rs) held n
      ∙ append_assoc greeting (spell_all rs) (take n held)

  bad_request : (place : ℕ) → AllByRecursion IsRequest rs → NoQuits rs → IsBadAt IsSpelled held place → IsMalformedAt (behind rs held) (length (greeting ++ spell_all rs) + place)
  bad_request place valid quitless bad =
      let le : place ≤ length held = omega (arith, bad.within) in
      let more : place + 1 ≤ length held = omega (arith, bad.within) in
      record {
        within = omega (arith, bad.within, length-append greeting (spell_all rs ++ held), length-append (spell_all rs) held, length-append greeting (spell_all rs));
        prefix = subst (IsPrefix IsInput) (sym (prefix_behind place)) (prefix_made rs valid (take place held) quitless bad.prefix);
        goes_on = λ q. quit_none rs valid (take place held) (none_in_front IsSpelled held place le bad.none) quitless (subst IsQuitInput (prefix_behind place) q);
        longest = λ p.
            let e : length (greeting ++ spell_all rs) + place + 1 ≡ length (greeting ++ spell_all rs) + (place + 1) = omega arith in
            let p' : IsPrefix IsInput (behind rs (take (place + 1) held)) = subst (IsPrefix IsInput) (ap (λ (k : ℕ). take k (behind rs held)) e ∙ prefix_behind (place + 1)) p in
            none_longer IsSpelled held place bad (prefix_told rs valid (take (place + 1) held) (none_in_front IsSpelled held (place + 1) more bad.none) (some_prefix place held bad.within) p');
      }

bad_greeting : (held : List ℕ) (place : ℕ) → IsBadAt IsGreeting held place → IsMalformedAt held place
bad_greeting held place bad =
    let le : place ≤ length held = omega (arith, bad.within) in
    let more : place + 1 ≤ length held = omega (arith, bad.within) in
    record {
      within = bad.within;
      prefix = greeting_made (take place held) bad.prefix;
      goes_on = λ q. ungreeted (take place held) (none_in_front IsGreeting held place le bad.none) q.requests q.input;
      longest = λ p. none_longer IsGreeting held place bad (greeting_told (take (place + 1) held) (none_in_front IsGreeting held (place + 1) more bad.none) p);
    }

pub wrong_is_malformed : WrongIsMalformed
wrong_is_malformed stream rs feed after at h quitless short w =
    elim (cases_Bool feed.greeted) [
      | inl is ↦
          let bad : IsBadAt IsSpelled feed.held w.place = rw is at w.bad in
          let e : stream ≡ behind rs feed.held = behind_greeting stream rs feed h is in
          let place : at ≡ length (greeting ++ spell_all rs) + w.place =
          omega (arith, w.at_is, place_of stream rs feed h is, short, bad.within, ap length e, length-append greeting (spell_all rs ++ feed.held), length-append (spell_all rs) feed.held, length-append greeting (spell_all rs)) in
          subst (λ (k : ℕ). IsMalformedAt stream k) (sym place) (subst (λ (bytes : List ℕ). IsMalformedAt bytes (length (greeting ++ spell_all rs) + w.place)) (sym e) (bad_request rs feed.held w.place h.valid quitless bad))
      | inr not ↦
          let bad : IsBadAt IsGreeting feed.held w.place = rw not at w.bad in
          let e : stream ≡ feed.held = all_held stream rs feed h not in
          let start : feed.offset ≡ later 0 0 = rw not at h.place in
          let place : at ≡ w.place = omega (arith, w.at_is, start, short, bad.within, ap length e) in
          subst (λ (k : ℕ). IsMalformedAt stream k) (sym place) (subst (λ (bytes : List ℕ). IsMalformedAt bytes w.place) (sym e) (bad_greeting feed.held w.place bad))
    ]

-- ---- inputs

pub prefixes_are_right : PrefixesAreRight
prefixes_are_right bytes k p m = m.longest (shorter bytes (k + 1) p)

none_behind_quit : (rs ts : List PlainRequest) → EndsInQuit rs → QuitsLast (rs ++ ts) → ts ≡ []
none_behind_quit [] ts e h = absurd e
none_behind_quit (r ∷ []) [] e h = refl
none_behind_quit (r ∷ []) (t ∷ ts) e h = absurd (h.0 e)
none_behind_quit (r ∷ n ∷ rs) ts e h = none_behind_quit (n ∷ rs) ts e h.1

-- behind a quit no byte begins an input
none_behind : (bytes z : List ℕ) → IsQuitInput bytes → IsPrefix IsInput (bytes ++ z) → z ≡ []
none_behind bytes z q p =
    let rs = q.requests in
    let ss = p.whole.requests in
    let e : (bytes ++ z) ++ p.more ≡ behind rs (z ++ p.more) =
    append_assoc bytes z p.more ∙ ap (λ (ds : List ℕ). ds ++ (z ++ p.more)) q.input.spelled ∙ append_assoc greeting (spell_all rs) (z ++ p.more) in
    let f = behind_others rs q.input.valid ss (z ++ p.more) (subst (IsInputOf ss) e p.whole.input) in
    let none : f.others ≡ [] = none_behind_quit rs f.others q.quits (subst QuitsLast f.all p.whole.input.quits_last) in
    nil_from_length z (omega (arith, ap length (f.spelled ∙ ap spell_all none), length-append z p.more))

pub quit_ends_judging : QuitEndsJudging
quit_ends_judging bytes rest k q m =
    elim (cases_lt k (length bytes)) [
      | inl lt ↦
          let begins : IsPrefix IsInput bytes = record { more = []; whole = subst IsInput (sym (append-nil bytes)) (record { requests = q.requests; input = q.input }) } in
          m.longest (subst (IsPrefix IsInput) (sym (take-append-le (k + 1) bytes rest (omega (arith, lt)))) (shorter bytes (k + 1) begins))
      | inr le ↦
          let place : k ≡ length bytes + (k - length bytes) = omega (arith, le) in
          let e : take k (bytes ++ rest) ≡ bytes ++ take (k - length bytes) rest = ap (λ (n : ℕ). take n (bytes ++ rest)) place ∙ take-append-add bytes rest (k - length bytes) in
          let none : take (k - length bytes) rest ≡ [] = none_behind bytes (take (k - length bytes) rest) q (subst (IsPrefix IsInput) e m.prefix) in
          m.goes_on (subst IsQuitInput (sym (e ∙ ap (λ (ds : List ℕ). bytes ++ ds) none ∙ append-nil bytes)) q)
    ]

pub inputs_are_right : InputsAreRight
inputs_are_right = (prefixes_are_right, quit_ends_judging)

-- ---- one place

not_earlier : (bytes : List ℕ) (j k : ℕ) → IsMalformedAt bytes j → IsMalformedAt bytes k → j < k → ⊥
not_earlier bytes j k m n lt = m.longest (subst (IsPrefix IsInput) (take-take (j + 1) k bytes (omega (arith, lt))) (shorter (take k bytes) (j + 1) n.prefix))

pub one_fault : OneFault
one_fault bytes j k m n =
    elim (cases_lt j k) [
      | inl lt ↦ absurd (not_earlier bytes j k m n lt)
      | inr le ↦ elim (cases_lt k j) [
        | inl lt ↦ absurd (not_earlier bytes k j n m lt)
        | inr ge ↦ omega (arith, le, ge)
      ]
    ]

-- the laws of inputs, for a search
pub ruleset input_laws = (wrong_is_malformed, waiting_is_open, waiting_is_truncated, given_is_input, prefixes_are_right, quit_ends_judging, one_fault)
