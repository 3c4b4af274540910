-- Whether a session is live: by its own entries, behind others' entries, after its Begin, a quit and its End.
use Rattle.std.proofs.Common.{◌≡◌, ℕ, ◌<◌, ◌≤◌, max, eqb, Bool, true, false, not, List, [], ◌∷◌, ◌++◌, refl, ap, ◌∙◌, inl, inr, ◌⊎◌, arith}
use Rattle.std.specs.Prelude.{◌||◌, ◌&&◌}
use Rattle.std.specs.List.{fold}
use Rattle.std.proofs.lemmas.Bool.{eq-eqb, ne_eqb}
use Rattle.std.proofs.lemmas.List.{append-nil}
use Rattle.std.proofs.lemmas.Grind.{fold-append}
use Rattle.febe_data.specs.LimitsView.{LimitsView}
use Rattle.febe_data.specs.Plain.{PlainReply, PlainEntry, PlainChange, restarted, began, ended, quit, has_quit}
use Rattle.world_rules.specs.Effects.{Effect}
use Rattle.world_rules.specs.History.{is_live, live_after, entries_of}
use Rattle.world_rules.specs.Legal.{IsLegal, IsDone, IsDiskFault, entry_after}
use Rattle.green_store.specs.Sessions.{greatest_session, begin_entry, end_entry}
use Rattle.green_store.proofs.Lives.{live_within}
use Rattle.green_top.specs.inside.Play.{IsOthers}

-- ---- by its own entries

or_more : (c b b' : Bool) → (b ≡ true → b' ≡ true) → (c || b) ≡ true → (c || b') ≡ true
or_more true b b' still is = refl
or_more false b b' still is = still is

and_more : (c b b' : Bool) → (b ≡ true → b' ≡ true) → (c && b) ≡ true → (c && b') ≡ true
and_more true b b' still is = still is
and_more false b b' still is = is

abbrev entry_of : ℕ → ℕ → PlainChange → PlainEntry
entry_of maker serial change = record { session = maker; serial = serial; change = change }

own_step : (session maker serial : ℕ) (change : PlainChange) (b b' : Bool) → (b ≡ true → b' ≡ true) → live_after session b (entry_of maker serial change) ≡ true → live_after session b' (entry_of maker serial change) ≡ true
own_step session maker serial restarted b b' still is = is
own_step session maker serial began b b' still is = or_more (eqb maker session) b b' still is
own_step session maker serial ended b b' still is = and_more (not (eqb maker session)) b b' still is
own_step session maker serial other b b' still is = still is

other_step : (session maker serial : ℕ) (change : PlainChange) (b b' : Bool) → eqb maker session ≡ false → (b ≡ true → b' ≡ true) → live_after session b (entry_of maker serial change) ≡ true → b' ≡ true
other_step session maker serial restarted b b' not_own still is = absurd (let e = is in cc)
other_step session maker serial began b b' not_own still is = still (rw not_own at is)
other_step session maker serial ended b b' not_own still is = still (rw not_own at is)
other_step session maker serial other b b' not_own still is = still is

along_own : (session : ℕ) (h : List PlainEntry) (b b' : Bool) → (b ≡ true → b' ≡ true) → fold (live_after session) b h ≡ true → fold (live_after session) b' (entries_of session h) ≡ true
along_own session [] b b' still is = still is
along_own session (e ∷ h) b b' still is = by (λ x x'. λ s i. along_own session h x x' s i) (eqb e.session session) refl
  where
    by : ((x x' : Bool) → (x ≡ true → x' ≡ true) → fold (live_after session) x h ≡ true → fold (live_after session) x' (entries_of session h) ≡ true)
        → (own : Bool) → eqb e.session session ≡ own → fold (live_after session) b' (entries_of session (e ∷ h)) ≡ true
    by more true own = rw own (more (live_after session b e) (live_after session b' e) (own_step session e.session e.serial e.change b b' still) is)
    by more false own = rw own (more (live_after session b e) b' (other_step session e.session e.serial e.change b b' own still) is)

-- a session that is live is live by its own entries
pub own_live : (session : ℕ) (h : List PlainEntry) → is_live h session ≡ true → is_live (entries_of session h) session ≡ true
own_live session h live = along_own session h false false (λ never. never) live

-- ---- behind others' entries

pub no_others : (session : ℕ) → IsOthers session []
no_others session = record { none_own = refl; live_stays = λ h. ap (λ (x : List PlainEntry). is_live x session) (append-nil h) }

-- ---- the begin, and the end

live_behind : (session : ℕ) (h : List PlainEntry) (e : PlainEntry) → is_live (h ++ e ∷ []) session ≡ live_after session (is_live h session) e
live_behind session h e = fold-append (live_after session) false h (e ∷ [])

pub live_from_begin : (session : ℕ) (opened h : List PlainEntry) → h ≡ opened ++ begin_entry session ∷ [] → is_live h session ≡ true
live_from_begin session opened h grows = ap (λ (x : List PlainEntry). is_live x session) grows ∙ live_behind session opened (begin_entry session) ∙ rw (eq-eqb session session refl) refl

-- whatever stood before a session's Begin, it is as live as what comes from there on says
pub live_own : (session : ℕ) (opened behind : List PlainEntry) → is_live (opened ++ begin_entry session ∷ behind) session ≡ is_live (begin_entry session ∷ behind) session
live_own session opened behind = fold-append (live_after session) false opened (begin_entry session ∷ behind) ∙ rw (eq-eqb session session refl) refl

pub not_live_behind_end : (session : ℕ) (h : List PlainEntry) → is_live (h ++ end_entry h session ∷ []) session ≡ false
not_live_behind_end session h = live_behind session h (end_entry h session) ∙ rw (eq-eqb session session refl) refl

-- ---- a quit

module _ (limits : LimitsView) (session : ℕ) (h : List PlainEntry) (reply : PlainReply) (added : List PlainEntry) (rose : Bool) where
  abbrev quits : Effect
  quits = record { change = ended; reply = has_quit }

  by_quit : IsDone h session quits reply added ⊎ IsDiskFault quits reply added rose → is_live (h ++ added) session ≡ false
  by_quit (inl done) = ap (λ (x : List PlainEntry). is_live (h ++ x) session) done.entry ∙ live_behind session h (entry_after h session quits) ∙ rw (eq-eqb session session refl) refl
  by_quit (inr failed) = absurd (let e = failed.counted in cc)

  pub quit_ends : IsLegal limits session h quit reply added rose → is_live (h ++ added) session ≡ false
  quit_ends legal = elim legal.given [ inl m ↦ absurd (m.asks refl) | inr g ↦ by_quit g ]

-- ---- a session with the next number

le_greatest : (h : List PlainEntry) (g : ℕ) → g ≤ fold (λ greatest (e : PlainEntry). max greatest e.session) g h
le_greatest [] g = omega arith
le_greatest (e ∷ h) g = omega (arith, le_greatest h (max g e.session))

-- no entry is of a session above the greatest number
none_from : (h : List PlainEntry) (g session : ℕ) → fold (λ greatest (e : PlainEntry). max greatest e.session) g h < session → entries_of session h ≡ []
none_from [] g session above = refl
none_from (e ∷ h) g session above =
    let other : eqb e.session session ≡ false = ne_eqb e.session session (λ same. omega (arith, above, same, le_greatest h (max g e.session))) in
    rw other (none_from h (max g e.session) session above)

pub none_above : (h : List PlainEntry) (session : ℕ) → greatest_session h < session → entries_of session h ≡ []
none_above h session above = none_from h 0 session above

pub not_live_above : (h : List PlainEntry) (session : ℕ) → greatest_session h < session → is_live h session ≡ false
not_live_above h session above = by (is_live h session) refl where
  by : (b : Bool) → is_live h session ≡ b → b ≡ false
  by true e = absurd (omega (arith, above, live_within h session e))
  by false e = refl
