-- What holds inside a store, kept by each kind of entry.
use Rattle.std.proofs.Common.{◌≡◌, ℕ, ◌+◌, ◌-◌, ◌^◌, ◌<◌, ◌≤◌, ◌==◌, ◌∙◌, Bool, true, not, max, subst, List, [], ◌∷◌, ◌++◌, length, ap, refl, sym, arith}
use Rattle.std.specs.Prelude.{◌||◌, ◌&&◌, filter}
use Rattle.std.proofs.lemmas.List.{length-append}
use Rattle.febe_data.specs.declared.entry.Entry.{Entry}
use Rattle.febe_data.specs.Plain.{PlainEntry, PlainChange, plain_entry, plain_history}
use Rattle.world_rules.specs.FlatView.{FlatView, after_entry, view_of, entries_in}
use Rattle.world_rules.specs.History.{is_live, next_serial, durable_entries}
use Rattle.world_rules.specs.InPlace.{HasRoom}
use Rattle.world_rules.proofs.Folded.{counts_entries}
use Rattle.entry_fits.specs.Laws.{IsRegular}
use Rattle.edit_log.specs.LogView.{LogView}
use Rattle.febe_data.specs.LimitsView.{LimitsView}
use Rattle.tree_world.specs.Condition.{Condition}
use Rattle.tree_world.specs.Nodes.{WorldNodes}
use Rattle.green_flush.specs.Standing.{FlushView}
use Rattle.green_store.specs.StoreView.{StoreView, with_one}
use Rattle.green_store.specs.IsStore.{IsStore}
use Rattle.green_store.specs.LeavesLive.{LeavesLive}
use Rattle.green_store.specs.Sessions.{greatest_session, begin_entry, end_entry}
use Rattle.green_store.proofs.Histories.{entries_fit, view_of-push, is_live-push, greatest-push, plain_history-push}
use Rattle.green_store.proofs.Regulars.{regular_begun, regular_ended, kept_more}
use Rattle.green_store.proofs.Moments.{AreTimed, timed_other}
use Rattle.green_store.proofs.Lives.{live_within, live_known, joined, parted, parted_fewer}

grown : (h : List PlainEntry) (e : PlainEntry) (stands : FlatView → Type 0) → stands (after_entry (view_of h) e) → stands (view_of (h ++ e ∷ []))
grown h e stands after = subst stands (sym (view_of-push h e)) after

-- no kept entry goes
saved_more : (h : List PlainEntry) (e : PlainEntry) (flushed : ℕ) → flushed ≤ length (durable_entries h) → flushed ≤ length (durable_entries (h ++ e ∷ []))
saved_more h e flushed within =
    let more : length (durable_entries (h ++ e ∷ [])) ≡ length (durable_entries h) + length (durable_entries (e ∷ [])) = ap length (kept_more h e) ∙ length-append (durable_entries h) (durable_entries (e ∷ [])) in
    along (length (durable_entries h)) (length (durable_entries (e ∷ []))) (length (durable_entries (h ++ e ∷ []))) within more
  where
    along : (old one new : ℕ) → flushed ≤ old → new ≡ old + one → flushed ≤ new
    along old one new le is = omega arith

pub begun : (h : List PlainEntry) (moments : List ℕ) (room more : ℕ) (stood stands : FlatView → Type 0) (live : List ℕ) (greatest session flushed : ℕ) → IsStore h moments room stood live greatest flushed → stands (after_entry (view_of h) (begin_entry session))
    → session ≡ greatest_session h + 1 → length live + 1 ≤ more → IsStore (h ++ begin_entry session ∷ []) moments more stands (live ++ session ∷ []) session flushed
begun h moments room more stood stands live greatest session flushed store after next enough = record {
  world_stands = grown h (begin_entry session) stands after;
  live_are = λ s. joined live session s ∙ ap (λ (b : Bool). session == s || b) (store.live_are s) ∙ sym (is_live-push h (begin_entry session) s);
  greatest_is = let above : session ≡ max (greatest_session h) session = omega arith in above ∙ sym (greatest-push h (begin_entry session));
  room_kept = omega (arith, length-append live (session ∷ []));
  regular = regular_begun h session next store.regular;
  timed_all = (timed_other h moments (begin_entry session) refl (store.timed_all, store.entries)).0;
  entries = (timed_other h moments (begin_entry session) refl (store.timed_all, store.entries)).1;
  saved = saved_more h (begin_entry session) flushed store.saved;
}

within : (h : List PlainEntry) (greatest : ℕ) (e : PlainEntry) → greatest ≡ greatest_session h → is_live h e.session ≡ true → greatest ≡ greatest_session (h ++ e ∷ [])
within h greatest e is live =
    let no_more : greatest ≡ max (greatest_session h) e.session = omega (arith, live_within h e.session live) in
    no_more ∙ sym (greatest-push h e)

pub over : (h : List PlainEntry) (moments : List ℕ) (room : ℕ) (stood stands : FlatView → Type 0) (live : List ℕ) (greatest session flushed : ℕ) → IsStore h moments room stood live greatest flushed → is_live h session ≡ true
    → stands (after_entry (view_of h) (end_entry h session))
    → IsStore (h ++ end_entry h session ∷ []) moments (room - 1) stands (filter (λ s. not (s == session)) live) greatest flushed
over h moments room stood stands live greatest session flushed store is after = record {
  world_stands = grown h (end_entry h session) stands after;
  live_are = λ s. parted live session s ∙ ap (λ (b : Bool). not (session == s) && b) (store.live_are s) ∙ sym (is_live-push h (end_entry h session) s);
  greatest_is = within h greatest (end_entry h session) store.greatest_is is;
  room_kept = omega (arith, parted_fewer live session (store.live_are session ∙ is), store.room_kept);
  regular = regular_ended h session store.regular;
  timed_all = (timed_other h moments (end_entry h session) refl (store.timed_all, store.entries)).0;
  entries = (timed_other h moments (end_entry h session) refl (store.timed_all, store.entries)).1;
  saved = saved_more h (end_entry h session) flushed store.saved;
}

pub gone_on : (h : List PlainEntry) (moments later : List ℕ) (room more : ℕ) (stood stands : FlatView → Type 0) (live : List ℕ) (greatest flushed : ℕ) (e : PlainEntry) → IsStore h moments room stood live greatest flushed → is_live h e.session ≡ true → LeavesLive e.change
    → stands (after_entry (view_of h) e) → length live ≤ more → IsRegular (h ++ e ∷ []) → AreTimed (durable_entries (h ++ e ∷ [])) later → IsStore (h ++ e ∷ []) later more stands live greatest flushed
gone_on h moments later room more stood stands live greatest flushed e store is stays after enough regular are = record {
  world_stands = grown h e stands after;
  live_are = λ s. store.live_are s ∙ sym (is_live-push h e s ∙ stays s (is_live h s) e.session e.serial);
  greatest_is = within h greatest e store.greatest_is is;
  room_kept = enough;
  regular = regular;
  timed_all = are.0;
  entries = are.1;
  saved = saved_more h e flushed store.saved;
}

-- ---- the entry that the code makes

pub end_has_room : (h : List PlainEntry) (moments : List ℕ) (room : ℕ) (stood : FlatView → Type 0) (live : List ℕ) (greatest session flushed : ℕ) → IsStore h moments room stood live greatest flushed → is_live h session ≡ true → 1 ≤ room
end_has_room h moments room stood live greatest session flushed store is = omega (arith, parted_fewer live session (store.live_are session ∙ is), store.room_kept)

-- a list that has room is shorter than 2^64, so there is a next serial
pub has_serial : (h : List Entry) (room : ℕ) (session : ℕ) → 1 ≤ room → length h + room < 2 ^ 64 → entries_in (view_of (plain_history h)).sessions session + 1 < 2 ^ 64
has_serial h room session enough fits = omega (arith, entries_fit session h, enough, fits)

pub has_room : (h : List Entry) (room : ℕ) (session : ℕ) → is_live (plain_history h) session ≡ true → 1 ≤ room → length h + room < 2 ^ 64
    → HasRoom (view_of (plain_history h)).sessions session
has_room h room session live enough fits = record { known = live_known (plain_history h) session live; countable = has_serial h room session enough fits }

pub entry_is : (h : List PlainEntry) (session n : ℕ) (change : PlainChange) → n ≡ entries_in (view_of h).sessions session
    → (let e : PlainEntry = record { session = session; serial = n + 1; change = change } in e) ≡ record { session = session; serial = next_serial h session; change = change }
entry_is h session n change counted =
    let next : n + 1 ≡ next_serial h session = ap (λ (k : ℕ). k + 1) (counted ∙ counts_entries h session) in
    ap (λ (serial : ℕ). record { session = session; serial = serial; change = change }) next

-- the history with the entry, where what was taken in is seen as this plain entry
pub history_is : (h more : List Entry) (e : Entry) (plain : PlainEntry) → more ≡ h ++ e ∷ [] → plain_entry e ≡ plain → plain_history more ≡ plain_history h ++ plain ∷ []
history_is h more e plain grows is = ap plain_history grows ∙ plain_history-push h e ∙ ap (λ (x : PlainEntry). plain_history h ++ x ∷ []) is

-- and the view after it
pub stands_after : (stands : FlatView → Type 0) (view : FlatView) (e plain : PlainEntry) → e ≡ plain → stands (after_entry view e) → stands (after_entry view plain)
stands_after stands view e plain is after = subst (λ (x : PlainEntry). stands (after_entry view x)) is after

pub same_store : (h h' : List PlainEntry) (moments moments' : List ℕ) (room room' : ℕ) (stands : FlatView → Type 0) (live live' : List ℕ) (greatest flushed : ℕ) → h' ≡ h → moments' ≡ moments → room' ≡ room → live' ≡ live
    → IsStore h moments room stands live greatest flushed → IsStore h' moments' room' stands live' greatest flushed
same_store h h' moments moments' room room' stands live live' greatest flushed eh em er el store = rw (eh, em, er, el) store

-- what contracts see of a store with one entry more, whose trees are in the same condition, with the same nodes
pub one_more : (h h' : List PlainEntry) (moments : List ℕ) (limits : LimitsView) (log : LogView) (trees trees' : Condition) (base : ℕ) (nodes nodes' : WorldNodes) (flush : FlushView) (flushed : ℕ) (before : StoreView) (e : PlainEntry)
    → h' ≡ h ++ e ∷ [] → trees' ≡ trees → nodes' ≡ nodes
    → (let v : StoreView = record { history = h; moments = moments; limits = limits; log = log; trees = trees; base = base; nodes = nodes; flush = flush; flushed = flushed } in v) ≡ before
    → (let v : StoreView = record { history = h'; moments = moments; limits = limits; log = log; trees = trees'; base = base; nodes = nodes'; flush = flush; flushed = flushed } in v) ≡ with_one before e
one_more h h' moments limits log trees trees' base nodes nodes' flush flushed before e grows same very is =
    ap (λ (es : List PlainEntry). let v : StoreView = record { history = es; moments = moments; limits = limits; log = log; trees = trees'; base = base; nodes = nodes'; flush = flush; flushed = flushed } in v) grows
    ∙ ap (λ (c : Condition). let v : StoreView = record { history = h ++ e ∷ []; moments = moments; limits = limits; log = log; trees = c; base = base; nodes = nodes'; flush = flush; flushed = flushed } in v) same
    ∙ ap (λ (n : WorldNodes). let v : StoreView = record { history = h ++ e ∷ []; moments = moments; limits = limits; log = log; trees = trees; base = base; nodes = n; flush = flush; flushed = flushed } in v) very
    ∙ ap (λ (v : StoreView). with_one v e) is
