-- Sessions of a history: who is live has begun, and the next serial is above all others.
use Rattle.std.proofs.Common.{◌≡◌, ℕ, suc, ◌+◌, ◌<◌, ◌≤◌, ◌∙◌, ◌==◌, ◌||◌, Bool, true, false, not, List, [], ◌∷◌, length, map, All, ap, sym, refl, subst, arith}
use Rattle.std.specs.Prelude.{filter}
use Rattle.std.specs.List.{fold}
use Rattle.std.proofs.lemmas.Bool.{true≢false, and_parts, eqb-true}
use Rattle.std.proofs.lemmas.Bool.Decides.{nat_tests}
use Rattle.std.proofs.lemmas.List.Elements.{All-nil, All-cons, All-head, All-tail, All-filter, All-append}
use Rattle.febe_data.specs.Plain.{PlainChange, PlainEntry, restarted, began, ended}
use Rattle.world_rules.specs.History.{durable_entries, restart_entry, is_durable, is_live, live_after, entries_of, next_serial}
use Rattle.world_rules.specs.Laws.{numbers_from}
use Rattle.world_rules.specs.Serials.{begun_after, has_begun, CountFromOne}
use Rattle.world_rules.proofs.Serials.{recovered_counts}
use Rattle.world_rules.proofs.Recovered.{recovered_is_placed}
use Rattle.entry_fits.specs.Fits.{IsNewSerial}
use Rattle.entry_fits.specs.Laws.{BeginsFromOne, FittingBegin}
use Rattle.entry_fits.proofs.Along.{fitting_are_placed}

-- ---- live sessions

or_more : (a b c : Bool) → (b ≡ true → c ≡ true) → (a || b) ≡ true → (a || c) ≡ true
or_more true b c more e = refl
or_more false b c more e = more e

begun_step : (session : ℕ) (live begun : Bool) (maker serial : ℕ) (change : PlainChange) → (live ≡ true → begun ≡ true)
    → live_after session live (record { session = maker; serial = serial; change = change }) ≡ true → begun_after session begun (record { session = maker; serial = serial; change = change }) ≡ true
begun_step session live begun maker serial restarted so e = absurd (true≢false (sym e))
begun_step session live begun maker serial began so e = or_more (maker == session) live begun so e
begun_step session live begun maker serial ended so e = so (and_parts (not (maker == session)) live e).1
begun_step session live begun maker serial other so e = so e

begun_along : (history : List PlainEntry) (session : ℕ) (live begun : Bool) → (live ≡ true → begun ≡ true) → fold (live_after session) live history ≡ true → fold (begun_after session) begun history ≡ true
begun_along [] session live begun so e = so e
begun_along (entry ∷ history) session live begun so e =
    begun_along history session (live_after session live entry) (begun_after session begun entry) (begun_step session live begun entry.session entry.serial entry.change so) e

pub live_has_begun : (history : List PlainEntry) (session : ℕ) → is_live history session ≡ true → has_begun history session ≡ true
live_has_begun history session live = begun_along history session false false (λ e. e) live

-- who has begun has a number from 1 on
from_one_step : (session : ℕ) (begun : Bool) (maker serial : ℕ) (change : PlainChange) → (begun ≡ true → 1 ≤ session) → (change ≡ began → 1 ≤ maker)
    → begun_after session begun (record { session = maker; serial = serial; change = change }) ≡ true → 1 ≤ session
from_one_step session begun maker serial restarted so right e = absurd (true≢false (sym e))
from_one_step session begun maker serial began so right e = own (maker == session) refl e
  where
    own : (same : Bool) → (maker == session) ≡ same → (same || begun) ≡ true → 1 ≤ session
    own true is e = subst (λ (n : ℕ). 1 ≤ n) (eqb-true maker session is) (right refl)
    own false is e = so e
from_one_step session begun maker serial other so right e = so e

from_one_along : (history : List PlainEntry) (session : ℕ) (begun : Bool) → (begun ≡ true → 1 ≤ session) → BeginsFromOne history → fold (begun_after session) begun history ≡ true → 1 ≤ session
from_one_along [] session begun so right e = so e
from_one_along (entry ∷ history) session begun so right e =
    from_one_along history session (begun_after session begun entry)
    (from_one_step session begun entry.session entry.serial entry.change so (All-head (λ (x : PlainEntry). x.change ≡ began → 1 ≤ x.session) entry history right))
    (All-tail (λ (x : PlainEntry). x.change ≡ began → 1 ≤ x.session) entry history right) e

pub from_one : (history : List PlainEntry) (session : ℕ) → BeginsFromOne history → is_live history session ≡ true → 1 ≤ session
from_one history session right live = from_one_along history session false (λ e. absurd (true≢false (sym e))) right (live_has_begun history session live)

-- ---- serials

serials_below : (entries : List PlainEntry) (n : ℕ) → map (λ (e : PlainEntry). e.serial) entries ≡ numbers_from n (length entries) → All (λ (e : PlainEntry). e.serial < n + length entries) entries
serials_below [] n count = All-nil (λ (e : PlainEntry). e.serial < n + 0)
serials_below (entry ∷ entries) n count =
    let first : entry.serial ≡ n = cc in
    let others : map (λ (e : PlainEntry). e.serial) entries ≡ numbers_from (n + 1) (length entries) = cc in
    let below = serials_below entries (n + 1) others in
    All-cons (λ (e : PlainEntry). e.serial < n + suc (length entries)) entry entries (omega (arith, first)) (λ k d lt. omega (arith, below k d lt))

-- what holds of those that a test picks
picked_step : {X : Type 0} (q : X → Bool) (P : X → Type 0) (x : X) (xs : List X) (picks : Bool) → q x ≡ picks → All P (filter q (x ∷ xs)) → (q x ≡ true → P x) × All P (filter q xs)
picked_step q P x xs true e all = let both : All P (x ∷ filter q xs) = rw e at all in ((λ yes. All-head P x (filter q xs) both), All-tail P x (filter q xs) both)
picked_step q P x xs false e all = ((λ yes. absurd (true≢false (sym yes ∙ e))), rw e at all)

of_picked : {X : Type 0} (q : X → Bool) (P : X → Type 0) (xs : List X) → All P (filter q xs) → All (λ x. q x ≡ true → P x) xs
of_picked q P [] all = All-nil (λ x. q x ≡ true → P x)
of_picked q P (x ∷ xs) all =
    let parts = picked_step q P x xs (q x) refl all in
    All-cons (λ y. q y ≡ true → P y) x xs parts.0 (of_picked q P xs parts.1)

same_number : (m n : ℕ) → m ≡ n → (m == n) ≡ true
same_number m n e = grind (arith, nat_tests)

pub new_serial : (history : List PlainEntry) (session : ℕ) → CountFromOne (entries_of session history) → IsNewSerial history session (next_serial history session)
new_serial history session count k d lt same =
    let n : ℕ = length (entries_of session history) in
    let below : All (λ (e : PlainEntry). e.serial < 1 + n) (entries_of session history) = serials_below (entries_of session history) 1 count in
    let each = of_picked (λ (e : PlainEntry). e.session == session) (λ (e : PlainEntry). e.serial < 1 + n) history below in
    omega (arith, each k d lt (same_number _ session same))

pub kept_new : (history : List PlainEntry) (session serial : ℕ) → IsNewSerial history session serial → IsNewSerial (durable_entries history) session serial
kept_new history session serial new = All-filter (λ (e : PlainEntry). is_durable e.change) (λ (e : PlainEntry). e.session ≡ session → e.serial < serial) history new

-- ---- a back end that begins again

begins_none : (change : PlainChange) → is_durable change ≡ true → change ≡ began → ⊥
begins_none change counted e = true≢false (sym counted ∙ ap is_durable e)

kept_step : (entry : PlainEntry) (history : List PlainEntry) (counted : Bool) → is_durable entry.change ≡ counted → BeginsFromOne (durable_entries history) → BeginsFromOne (durable_entries (entry ∷ history))
kept_step entry history true e rest = rw e (All-cons (λ (x : PlainEntry). x.change ≡ began → 1 ≤ x.session) entry (durable_entries history) (λ begins. absurd (begins_none entry.change e begins)) rest)
kept_step entry history false e rest = rw e rest

kept_begins : (history : List PlainEntry) → BeginsFromOne (durable_entries history)
kept_begins [] = All-nil (λ (x : PlainEntry). x.change ≡ began → 1 ≤ x.session)
kept_begins (entry ∷ history) = kept_step entry history (is_durable entry.change) refl (kept_begins history)

pub fitting_begin : FittingBegin
fitting_begin entries all = record {
  placed = recovered_is_placed entries (fitting_are_placed entries all);
  serials = recovered_counts entries;
  sessions = All-append (λ (x : PlainEntry). x.change ≡ began → 1 ≤ x.session) (durable_entries entries) (restart_entry ∷ []) (kept_begins entries)
      (All-cons (λ (x : PlainEntry). x.change ≡ began → 1 ≤ x.session) restart_entry [] (λ begins. absurd (cc begins)) (All-nil (λ (x : PlainEntry). x.change ≡ began → 1 ≤ x.session)));
}
