-- What a feed has given is told by the stream.
use Rattle.std.proofs.Common.{◌≡◌, ℕ, ◌+◌, Bool, true, false, List, [], ◌∷◌, ◌++◌, length, take, drop, refl, sym, ap, ◌∙◌, append_assoc, inl, inr, arith}
use Rattle.std.specs.List.{flat_map, AllByRecursion}
use Rattle.std.proofs.lemmas.Bool.{cases_Bool}
use Rattle.std.proofs.lemmas.List.{append-nil, append_cancel_left, length-append, length-take-le, take_at, take-append-drop}
use Rattle.std.proofs.lemmas.List.Concat.{flat_map-append}
use Rattle.febe_data.specs.Plain.{PlainRequest}
use Rattle.febe_data.specs.Validity.{IsRequest}
use Rattle.febe_fields.specs.Prefixes.{HasNoSpelledPrefix}
use Rattle.febe_wire.specs.Grammar.{spell_request, IsSpelled}
use Rattle.febe_wire.specs.Sessions.{greeting}
use Rattle.febe_wire.proofs.RequestLaws.{same_request}
use Rattle.febe_feed.specs.FeedView.{FeedView, later, IsGreeting, Greets, GivesRequest}
use Rattle.febe_feed.specs.Pieces.{HasGiven, given_bytes, StartsWithNothing, PushGoesOn, AnyPieces, GivesOn, StopsWhenAllGiven}

abbrev pub spell_all : List PlainRequest → List ℕ
spell_all rs = flat_map spell_request rs

-- bytes that begin with a request do not begin with none
pub begins : (bytes more : List ℕ) (r : PlainRequest) → IsRequest r → bytes ≡ spell_request r ++ more → HasNoSpelledPrefix IsSpelled bytes → ⊥
begins bytes more r valid e none =
    let prefix : take (length (spell_request r)) bytes ≡ spell_request r = ap (take (length (spell_request r))) e ∙ take_at (spell_request r) more (length (spell_request r)) refl in
    none (length (spell_request r)) (omega (arith, ap length e, length-append (spell_request r) more)) (record { request = r; spells = record { valid = valid; spelled = prefix } })

same_given : (rs ss : List PlainRequest) (x y : List ℕ) → AllByRecursion IsRequest rs → AllByRecursion IsRequest ss → spell_all rs ++ x ≡ spell_all ss ++ y → HasNoSpelledPrefix IsSpelled x → HasNoSpelledPrefix IsSpelled y → (rs ≡ ss) × (x ≡ y)
same_given [] [] x y h g e none-x none-y = (refl, e)
same_given [] (s ∷ ss) x y h g e none-x none-y = absurd (begins x (spell_all ss ++ y) s g.0 (e ∙ append_assoc (spell_request s) (spell_all ss) y) none-x)
same_given (r ∷ rs) [] x y h g e none-x none-y = absurd (begins y (spell_all rs ++ x) r h.0 (sym e ∙ append_assoc (spell_request r) (spell_all rs) x) none-y)
same_given (r ∷ rs) (s ∷ ss) x y h g e none-x none-y =
    let whole : spell_request r ++ (spell_all rs ++ x) ≡ spell_request s ++ (spell_all ss ++ y) = sym (append_assoc (spell_request r) (spell_all rs) x) ∙ e ∙ append_assoc (spell_request s) (spell_all ss) y in
    let same = same_request r s (spell_all rs ++ x) (spell_all ss ++ y) h.0 g.0 whole in
    let on = same_given rs ss x y h.1 g.1 same.behind none-x none-y in
    (ap (λ (q : PlainRequest). q ∷ rs) same.request ∙ ap (λ (qs : List PlainRequest). s ∷ qs) on.0, on.1)

-- the stream behind the greeting
pub behind_greeting : (stream : List ℕ) (rs : List PlainRequest) (feed : FeedView) → HasGiven stream rs feed → feed.greeted ≡ true → stream ≡ greeting ++ (spell_all rs ++ feed.held)
behind_greeting stream rs feed h greeted =
    let parts : stream ≡ (greeting ++ spell_all rs) ++ feed.held = rw greeted at h.parts in
    parts ∙ append_assoc greeting (spell_all rs) feed.held

pub place_of : (stream : List ℕ) (rs : List PlainRequest) (feed : FeedView) → HasGiven stream rs feed → feed.greeted ≡ true → feed.offset ≡ later 0 (length (greeting ++ spell_all rs))
place_of stream rs feed h greeted = rw greeted at h.place

same_view : (one other : FeedView) → one.greeted ≡ other.greeted → one.held ≡ other.held → one.offset ≡ other.offset → one ≡ other
same_view one other e f g =
    ap (λ (b : Bool). record { greeted = b; held = one.held; offset = one.offset }) e
    ∙ ap (λ (bytes : List ℕ). record { greeted = other.greeted; held = bytes; offset = one.offset }) f
    ∙ ap (λ (n : ℕ). record { greeted = other.greeted; held = other.held; offset = n }) g

-- both gave the greeting
both_greeted : (stream : List ℕ) (rs ss : List PlainRequest) (one other : FeedView) → HasGiven stream rs one → HasGiven stream ss other → one.greeted ≡ true → other.greeted ≡ true
    → HasNoSpelledPrefix IsSpelled one.held → HasNoSpelledPrefix IsSpelled other.held → (rs ≡ ss) × (one ≡ other)
both_greeted stream rs ss one other h g greeted-one greeted-other none-one none-other =
    let e : spell_all rs ++ one.held ≡ spell_all ss ++ other.held = append_cancel_left greeting (spell_all rs ++ one.held) (spell_all ss ++ other.held) (sym (behind_greeting stream rs one h greeted-one) ∙ behind_greeting stream ss other g greeted-other) in
    let same = same_given rs ss one.held other.held h.valid g.valid e none-one none-other in
    let place : one.offset ≡ other.offset = place_of stream rs one h greeted-one ∙ ap (λ (qs : List PlainRequest). later 0 (length (greeting ++ spell_all qs))) same.0 ∙ sym (place_of stream ss other g greeted-other) in
    (same.0, same_view one other (greeted-one ∙ sym greeted-other) same.1 place)

-- one gave the greeting, and the other holds it still
one_greeted : (stream : List ℕ) (rs ss : List PlainRequest) (one other : FeedView) → HasGiven stream rs one → HasGiven stream ss other → one.greeted ≡ true → other.greeted ≡ false → HasNoSpelledPrefix IsGreeting other.held → ⊥
one_greeted stream rs ss one other h g greeted not none =
    let all : stream ≡ other.held = rw not at g.parts in
    let e : other.held ≡ greeting ++ (spell_all rs ++ one.held) = sym all ∙ behind_greeting stream rs one h greeted in
    none (length greeting) (omega (arith, ap length e, length-append greeting (spell_all rs ++ one.held))) (ap (take (length greeting)) e ∙ take_at greeting (spell_all rs ++ one.held) (length greeting) refl)

-- neither gave it
none_greeted : (stream : List ℕ) (rs ss : List PlainRequest) (one other : FeedView) → HasGiven stream rs one → HasGiven stream ss other → one.greeted ≡ false → other.greeted ≡ false → (rs ≡ ss) × (one ≡ other)
none_greeted stream rs ss one other h g not-one not-other =
    let held-one : stream ≡ one.held = rw not-one at h.parts in
    let held-other : stream ≡ other.held = rw not-other at g.parts in
    let place-one : one.offset ≡ later 0 0 = rw not-one at h.place in
    let place-other : other.offset ≡ later 0 0 = rw not-other at g.place in
    (h.none not-one ∙ sym (g.none not-other), same_view one other (not-one ∙ sym not-other) (sym held-one ∙ held-other) (place-one ∙ sym place-other))

pub any_pieces : AnyPieces
any_pieces stream rs ss one other h g all-one all-other =
    elim (cases_Bool one.greeted) [
      | inl is ↦ elim (cases_Bool other.greeted) [
        | inl also ↦ both_greeted stream rs ss one other h g is also (rw is at all-one) (rw also at all-other)
        | inr not ↦ absurd (one_greeted stream rs ss one other h g is not (rw not at all-other))
      ]
      | inr not ↦ elim (cases_Bool other.greeted) [
        | inl is ↦ absurd (one_greeted stream ss rs other one g h is not (rw not at all-one))
        | inr neither ↦ none_greeted stream rs ss one other h g not neither
      ]
    ]

-- ---- pieces

pub starts_with_nothing : StartsWithNothing
starts_with_nothing = record { parts = refl; valid = tt; none = λ e. refl; place = omega arith }

pub push_goes_on : PushGoesOn
push_goes_on stream piece rs feed h = record {
  parts = ap (λ (bytes : List ℕ). bytes ++ piece) h.parts ∙ append_assoc (given_bytes feed.greeted rs) feed.held piece;
  valid = h.valid;
  none = h.none;
  place = h.place;
}

pub stops_when_all_given : StopsWhenAllGiven
stops_when_all_given before after = ((λ w. rw w.stays w.prefix.none), (λ at w. rw w.stays w.bad.none))

-- ---- what comes next

pub all_push : (rs : List PlainRequest) (r : PlainRequest) → AllByRecursion IsRequest rs → IsRequest r → AllByRecursion IsRequest (rs ++ r ∷ [])
all_push [] r h p = (p, tt)
all_push (q ∷ rs) r h p = (h.0, all_push rs r h.1 p)

pub spelled_push : (rs : List PlainRequest) (r : PlainRequest) → spell_all (rs ++ r ∷ []) ≡ spell_all rs ++ spell_request r
spelled_push rs r = flat_map-append spell_request rs (r ∷ []) ∙ ap (λ (ds : List ℕ). spell_all rs ++ ds) (append-nil (spell_request r))

greeted_given : (stream : List ℕ) (rs : List PlainRequest) (before after : FeedView) → HasGiven stream rs before → Greets before after → HasGiven stream [] after
greeted_given stream rs before after h g =
    let held : stream ≡ before.held = rw g.first at h.parts in
    let place : before.offset ≡ later 0 0 = rw g.first at h.place in
    let parts : stream ≡ (greeting ++ []) ++ after.held = held ∙ g.prefix in
    let now : after.offset ≡ later 0 3 = g.offset ∙ ap (λ (n : ℕ). later n 3) place ∙ omega arith in
    record {
      parts = rw g.greeted parts;
      valid = tt;
      none = λ e. refl;
      place = rw g.greeted now;
    }

request_given : (stream : List ℕ) (rs : List PlainRequest) (before after : FeedView) → HasGiven stream rs before → (r : PlainRequest) → GivesRequest before after r → HasGiven stream (rs ++ r ∷ []) after
request_given stream rs before after h r g =
    let prefix : before.held ≡ spell_request r ++ drop g.used before.held = sym (take-append-drop g.used before.held) ∙ ap (λ (ds : List ℕ). ds ++ drop g.used before.held) g.read.spells.spelled in
    let used : length (spell_request r) ≡ g.used = sym (ap length g.read.spells.spelled) ∙ length-take-le g.used before.held g.read.within in
    let whole : stream ≡ greeting ++ (spell_all rs ++ (spell_request r ++ drop g.used before.held)) = behind_greeting stream rs before h g.greeted ∙ ap (λ (ds : List ℕ). greeting ++ (spell_all rs ++ ds)) prefix in
    let regrouped : greeting ++ (spell_all rs ++ (spell_request r ++ drop g.used before.held)) ≡ (greeting ++ spell_all (rs ++ r ∷ [])) ++ drop g.used before.held =
    ap (λ (ds : List ℕ). greeting ++ ds) (sym (append_assoc (spell_all rs) (spell_request r) (drop g.used before.held)) ∙ ap (λ (ds : List ℕ). ds ++ drop g.used before.held) (sym (spelled_push rs r))) ∙ sym (append_assoc greeting (spell_all (rs ++ r ∷ [])) (drop g.used before.held)) in
    let len : length (spell_all (rs ++ r ∷ [])) ≡ length (spell_all rs) + g.used = ap length (spelled_push rs r) ∙ length-append (spell_all rs) (spell_request r) ∙ ap (λ (n : ℕ). length (spell_all rs) + n) used in
    let place : later before.offset g.used ≡ later 0 (length (greeting ++ spell_all (rs ++ r ∷ []))) =
    ap (λ (n : ℕ). later n g.used) (place_of stream rs before h g.greeted) ∙ omega (arith, len, length-append greeting (spell_all rs), length-append greeting (spell_all (rs ++ r ∷ []))) in
    rw g.after_is (record {
      parts = whole ∙ regrouped;
      valid = all_push rs r h.valid g.read.spells.valid;
      none = λ e. absurd cc;
      place = place;
    })

pub gives_on : GivesOn
gives_on stream rs before after h = ((λ g. greeted_given stream rs before after h g), (λ r g. request_given stream rs before after h r g))
