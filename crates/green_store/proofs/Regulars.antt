-- A history stays regular with one entry more, and which of its entries are kept.
use Rattle.std.proofs.Common.{◌≡◌, ◌∙◌, ℕ, ◌+◌, ◌≤◌, Bool, true, false, List, [], ◌∷◌, ◌++◌, ap, refl, subst, arith}
use Rattle.std.specs.Prelude.{if◌then◌else◌}
use Rattle.std.proofs.lemmas.List.{append-nil}
use Rattle.std.proofs.lemmas.List.Elements.{All-push, filter-append}
use Rattle.febe_data.specs.Plain.{PlainChange, PlainEntry, restarted, began, ended, account_changed, document_opened, document_closed}
use Rattle.world_rules.specs.World.{empty_world}
use Rattle.world_rules.specs.Apply.{world_of}
use Rattle.world_rules.specs.History.{durable_entries, is_durable}
use Rattle.world_rules.specs.Effects.{Effect}
use Rattle.world_rules.specs.Legal.{entry_after}
use Rattle.world_rules.specs.Placed.{IsPlaced}
use Rattle.world_rules.specs.Serials.{ComesNext}
use Rattle.world_rules.proofs.Serials.{serials_go_on}
use Rattle.entry_fits.specs.Laws.{IsRegular}
use Rattle.green_store.specs.LeavesLive.{LeavesLive}
use Rattle.green_store.specs.Sessions.{greatest_session, begin_entry, end_entry}
use Rattle.green_store.proofs.Places.{placed_push}
use Rattle.green_store.proofs.Serials.{begins_next, ends_next}

-- ---- regular

regular_push : (h : List PlainEntry) (e : PlainEntry) → IsRegular h → IsPlaced (world_of h) e.change → ComesNext h e → (e.change ≡ began → 1 ≤ e.session) → IsRegular (h ++ e ∷ [])
regular_push h e regular placed next from = record {
  placed = placed_push empty_world h e regular.placed placed;
  serials = serials_go_on h e next regular.serials;
  sessions = All-push (λ (x : PlainEntry). x.change ≡ began → 1 ≤ x.session) h e regular.sessions from;
}

pub regular_begun : (h : List PlainEntry) (session : ℕ) → session ≡ greatest_session h + 1 → IsRegular h → IsRegular (h ++ begin_entry session ∷ [])
regular_begun h session number regular = regular_push h (begin_entry session) regular tt (begins_next h session number) (λ e. omega (arith, number))

pub regular_ended : (h : List PlainEntry) (session : ℕ) → IsRegular h → IsRegular (h ++ end_entry h session ∷ [])
regular_ended h session regular = regular_push h (end_entry h session) regular tt (ends_next h session) (λ e. cc)

no_restart : (change : PlainChange) → LeavesLive change → change ≡ restarted → ⊥
no_restart change leaves e = stays (subst LeavesLive e leaves)
  where
    stays : LeavesLive restarted → ⊥
    stays f = let no : false ≡ true = f 0 true 0 0 in cc

no_begin : (change : PlainChange) → LeavesLive change → change ≡ began → ⊥
no_begin change leaves e = stays (subst LeavesLive e leaves)
  where
    stays : LeavesLive began → ⊥
    stays f = let no : true ≡ false = f 0 false 0 0 in cc

pub regular_changed : (h : List PlainEntry) (session : ℕ) (made : Effect) → LeavesLive made.change → IsPlaced (world_of h) made.change → IsRegular h → IsRegular (h ++ entry_after h session made ∷ [])
regular_changed h session made leaves placed regular =
    regular_push h (entry_after h session made) regular placed
    (record { no_restart = no_restart made.change leaves; is_next = refl; is_first = λ begins. absurd (no_begin made.change leaves begins) })
    (λ begins. absurd (no_begin made.change leaves begins))

-- ---- kept

pub kept_more : (h : List PlainEntry) (e : PlainEntry) → durable_entries (h ++ e ∷ []) ≡ durable_entries h ++ durable_entries (e ∷ [])
kept_more h e = filter-append (λ (x : PlainEntry). is_durable x.change) h (e ∷ [])

alone : (e : PlainEntry) (counted : Bool) → is_durable e.change ≡ counted → durable_entries (e ∷ []) ≡ (if counted then e ∷ [] else [])
alone e counted is = rw is refl

pub kept_counted : (h : List PlainEntry) (e : PlainEntry) → is_durable e.change ≡ true → durable_entries (h ++ e ∷ []) ≡ durable_entries h ++ e ∷ []
kept_counted h e is = kept_more h e ∙ ap (λ (es : List PlainEntry). durable_entries h ++ es) (alone e true is)

pub kept_other : (h : List PlainEntry) (e : PlainEntry) → is_durable e.change ≡ false → durable_entries (h ++ e ∷ []) ≡ durable_entries h
kept_other h e is = kept_more h e ∙ ap (λ (es : List PlainEntry). durable_entries h ++ es) (alone e false is) ∙ append-nil (durable_entries h)

-- changes that are kept leave who is live
pub kept_leaves : (change : PlainChange) → is_durable change ≡ true → LeavesLive change
kept_leaves restarted counted = absurd cc
kept_leaves began counted = absurd cc
kept_leaves ended counted = absurd cc
kept_leaves (account_changed account) counted = absurd cc
kept_leaves (document_opened document mode) counted = absurd cc
kept_leaves (document_closed document) counted = absurd cc
kept_leaves other counted = λ session live maker serial. refl
