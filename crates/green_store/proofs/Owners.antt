-- Which session the entries of a step are of.
use Rattle.std.proofs.Common.{◌≡◌, ◌≢◌, ◌⊎◌, inl, inr, ℕ, ◌+◌, ◌<◌, ◌≤◌, eqb, max, Bool, true, false, List, [], ◌∷◌, Option, Some, None, refl, subst, arith}
use Rattle.std.specs.Prelude.{fold, MatchOption}
use Rattle.std.proofs.lemmas.Bool.{ne_eqb}
use Rattle.febe_data.specs.declared.access.Mode.{Mode}
use Rattle.febe_data.specs.declared.refusal.Refusal.{Refusal}
use Rattle.febe_data.specs.Plain.{PlainRequest, insert, copy, rearrange, create, delete, version, quit, create_link, set_account, opens, closes, publish, PlainReply, PlainChange, PlainEntry, restarted}
use Rattle.history_lock.specs.Histories.{entries_of}
use Rattle.entry_fits.specs.Laws.{BeginsFromOne}
use Rattle.entry_fits.proofs.Sessions.{from_one}
use Rattle.world_rules.specs.World.{World}
use Rattle.world_rules.specs.Apply.{world_of}
use Rattle.world_rules.specs.History.{is_live}
use Rattle.world_rules.specs.Refusals.{opens_version}
use Rattle.world_rules.specs.Effects.{Effect, effect, opening}
use Rattle.world_rules.specs.Legal.{IsServed, IsDone, IsDiskFault, IsQueryAnswered, IsRefused, wanted_after, entry_after}
use Rattle.green_store.specs.Laws.{AddsOwn, LegalStepsAddOwn}
use Rattle.green_store.specs.Marks.{owner_of}
use Rattle.green_store.specs.Sessions.{greatest_session}

-- ---- no effect is a restart

-- whoever makes the change, the entry is of that session
IsOwned : Effect → Type 0
IsOwned made = (session serial : ℕ) → owner_of (record { session = session; serial = serial; change = made.change }) ≡ session

some_is : (a b : Effect) → (let x : Option Effect = Some a in x) ≡ Some b → a ≡ b
some_is a b e = cc

along : (a b : Effect) → (let x : Option Effect = Some a in x) ≡ Some b → IsOwned a → IsOwned b
along a b e h = subst IsOwned (some_is a b e) h

opening_owned : (world : World) (session : ℕ) (document : List ℕ) (mode : Mode) (copies : Bool) → IsOwned (opening world session document mode copies)
unfolding IsOwned
opening_owned world session document mode true = λ s serial. refl
opening_owned world session document mode false = λ s serial. refl

owned : (world : World) (session : ℕ) (request : PlainRequest) (made : Effect) → effect world session request ≡ Some made → IsOwned made
unfolding IsOwned
owned world session (insert document at text) made e = along _ made e (λ s serial. refl)
owned world session (copy document at specs) made e = along _ made e (λ s serial. refl)
owned world session (rearrange document cuts) made e = along _ made e (λ s serial. refl)
owned world session create made e = along _ made e (λ s serial. refl)
owned world session (delete document span) made e = along _ made e (λ s serial. refl)
owned world session (version document) made e = along _ made e (λ s serial. refl)
owned world session quit made e = along _ made e (λ s serial. refl)
owned world session (create_link home from to three) made e = along _ made e (λ s serial. refl)
owned world session (set_account account) made e = along _ made e (λ s serial. refl)
owned world session (opens document mode rule) made e = along _ made e (opening_owned world session document mode (opens_version world session document mode rule))
owned world session (closes document) made e = along _ made e (λ s serial. refl)
owned world session (publish document) made e = along _ made e (λ s serial. refl)
owned world session other made e = absurd cc

-- ---- what a legal step adds

module _ (session : ℕ) (before : List PlainEntry) (request : PlainRequest) (reply : PlainReply) (added : List PlainEntry) (rose : Bool) where
  made_own : (made : Effect) → effect (world_of before) session request ≡ Some made → IsDone before session made reply added ⊎ IsDiskFault made reply added rose → (added ≡ []) ⊎ AddsOwn session added
  unfolding IsOwned
  made_own made e (inl done) = inr (record {
    entry = entry_after before session made;
    one = done.entry;
    session_is = refl;
    owner_is = owned (world_of before) session request made e session (entry_after before session made).serial;
  })
  made_own made e (inr failed) = inl failed.nothing

  served_own : (found : Option Effect) → effect (world_of before) session request ≡ found
      → MatchOption found (IsQueryAnswered before session request reply added) (λ made. IsDone before session made reply added ⊎ IsDiskFault made reply added rose) → (added ≡ []) ⊎ AddsOwn session added
  served_own None e answered = inl answered.nothing
  served_own (Some made) e given = made_own made e given

  given_own : (wanted : Option Refusal) → MatchOption wanted (IsServed before session request reply added rose) (λ refusal. IsRefused refusal reply added) → (added ≡ []) ⊎ AddsOwn session added
  given_own None served = served_own (effect (world_of before) session request) refl served
  given_own (Some refusal) refused = inl refused.nothing

pub legal_steps_add_own : LegalStepsAddOwn
legal_steps_add_own limits session before request reply added rose legal = elim legal.given [
  | inl none ↦ inl none.nothing
  | inr given ↦ given_own session before request reply added rose (wanted_after limits before session request) given
]

-- ---- a new session has no entry yet

abbrev greatest_from : ℕ → List PlainEntry → ℕ
greatest_from n h = fold (λ greatest (e : PlainEntry). max greatest e.session) n h

grows : (h : List PlainEntry) (n : ℕ) → n ≤ greatest_from n h
grows [] n = omega arith
grows (e ∷ h) n = let more : max n e.session ≤ greatest_from (max n e.session) h = grows h (max n e.session) in omega arith

owner_within : (session serial greatest number : ℕ) (change : PlainChange) → session ≤ greatest → greatest < number → owner_of (record { session = session; serial = serial; change = change }) ≢ number
owner_within session serial greatest number restarted within above is = omega arith
owner_within session serial greatest number other within above is = omega arith

none_above : (h : List PlainEntry) (n number : ℕ) → greatest_from n h < number → entries_of owner_of number h ≡ []
none_above [] n number lt = refl
none_above (e ∷ h) n number lt =
    let within : max n e.session ≤ greatest_from (max n e.session) h = grows h (max n e.session) in
    let own : e.session ≤ greatest_from (max n e.session) h = omega arith in
    let other : eqb (owner_of e) number ≡ false = ne_eqb (owner_of e) number (owner_within e.session e.serial (greatest_from (max n e.session) h) number e.change own lt) in
    rw other (none_above h (max n e.session) number lt)

pub next_has_none : (h : List PlainEntry) (number : ℕ) → number ≡ greatest_session h + 1 → entries_of owner_of number h ≡ []
next_has_none h number is = none_above h 0 number (omega arith)

-- ---- no session is 0

not_live : (live : Bool) → (live ≡ true → ⊥) → live ≡ false
not_live true none = absurd (none refl)
not_live false none = refl

pub none_is_zero : (h : List PlainEntry) → BeginsFromOne h → is_live h 0 ≡ false
none_is_zero h from = not_live (is_live h 0) (λ live. let one : 1 ≤ 0 = from_one h 0 from live in omega arith)
