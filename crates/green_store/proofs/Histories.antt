-- A history with one entry more.
use Rattle.std.proofs.Common.{◌≡◌, ℕ, ◌≤◌, Bool, true, false, cond, eqb, max, List, [], ◌∷◌, ◌++◌, length, arith}
use Rattle.std.specs.Prelude.{filter}
use Rattle.std.proofs.lemmas.List.{length-map, map_push}
use Rattle.std.proofs.lemmas.Grind.{fold-append}
use Rattle.febe_data.specs.declared.entry.Entry.{Entry}
use Rattle.febe_data.specs.Plain.{PlainEntry, plain_entry, plain_history}
use Rattle.world_rules.specs.FlatView.{view_of, after_entry, nothing_yet, entries_in}
use Rattle.world_rules.specs.History.{is_live, live_after}
use Rattle.world_rules.proofs.Folded.{counts_entries}
use Rattle.green_store.specs.Sessions.{greatest_session}

length-filter : {X : Type 0} (p : X → Bool) (xs : List X) → length (filter p xs) ≤ length xs
length-filter p [] = omega arith
length-filter p (x ∷ xs) = by (p x) (length-filter p xs)
  where
    by : (b : Bool) → length (filter p xs) ≤ length xs → length (cond b (x ∷ filter p xs) (filter p xs)) ≤ length (x ∷ xs)
    by true h = omega arith
    by false h = omega arith

-- no session has more entries than there are
pub entries_fit : (session : ℕ) (h : List Entry) → entries_in (view_of (plain_history h)).sessions session ≤ length h
entries_fit session h = omega (arith, length-filter (λ (e : PlainEntry). eqb e.session session) (plain_history h), length-map h plain_entry, counts_entries (plain_history h) session)

pub view_of-push : (h : List PlainEntry) (e : PlainEntry) → view_of (h ++ e ∷ []) ≡ after_entry (view_of h) e
view_of-push h e = fold-append after_entry nothing_yet h (e ∷ [])

pub is_live-push : (h : List PlainEntry) (e : PlainEntry) (session : ℕ) → is_live (h ++ e ∷ []) session ≡ live_after session (is_live h session) e
is_live-push h e session = fold-append (live_after session) false h (e ∷ [])

pub greatest-push : (h : List PlainEntry) (e : PlainEntry) → greatest_session (h ++ e ∷ []) ≡ max (greatest_session h) e.session
greatest-push h e = fold-append (λ greatest (x : PlainEntry). max greatest x.session) 0 h (e ∷ [])

pub plain_history-push : (h : List Entry) (e : Entry) → plain_history (h ++ e ∷ []) ≡ plain_history h ++ plain_entry e ∷ []
plain_history-push h e = map_push plain_entry h e

pub ruleset histories = (entries_fit, view_of-push, is_live-push, greatest-push, plain_history-push)
