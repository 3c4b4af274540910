-- A log that reads as entries that fit is not damaged, and has no others.
use Rattle.std.proofs.Common.{◌≡◌, ℕ, List, [], ◌∷◌, ◌++◌, length, Option, None, Some, ap, ◌∙◌, sym, subst, inl, inr, arith}
use Rattle.std.proofs.lemmas.List.{append-nil, length-map}
use Rattle.febe_data.specs.Plain.{PlainEntry}
use Rattle.entry_codec.specs.Logged.{PlainLogged, entries_of, moments_of}
use Rattle.green_io.specs.Areas.{Areas}
use Rattle.green_io.specs.Disk.{WhereTold}
use Rattle.entry_fits.specs.Fits.{AllFit}
use Rattle.entry_fits.proofs.Along.{fitting_are_kept, fitting_are_placed}
use Rattle.edit_log.specs.Images.{AsRead}
use Rattle.edit_log.specs.Laws.{EachHasOneReading}
use Rattle.world_rules.specs.History.{durable_entries, restart_entry}
use Rattle.world_rules.specs.World.{empty_world}
use Rattle.world_rules.specs.Placed.{AllPlaced}
use Rattle.green_store.specs.Opening.{IsOpenedFrom, IsDamagedLog, ReadsRows, EachHasOneOpening, opened_with}
use Rattle.green_store.specs.Sessions.{greatest_session}
use Rattle.green_store.specs.StoreView.{StoreView}
use Rattle.green_top.specs.Laws.{DamageIsTold}
use Rattle.green_top.specs.inside.Enduring.{HasMoments}
use Rattle.green_store.proofs.Histories.{greatest-push}
use Rattle.green_store.proofs.Places.{placed_push}
use Rattle.green_top.proofs.RunSteps.{durable_both}

-- ---- a log that is not damaged

pub undamaged : EachHasOneOpening → (reads : Option Areas) (rows : List PlainLogged) → AsRead reads (ReadsRows rows) → AllFit [] (entries_of rows) → (at : ℕ) → ¬ WhereTold reads (IsDamagedLog at)
undamaged one None rows read fit at damaged = absurd read
undamaged one (Some areas) rows read fit at damaged = (one areas).apart rows at read fit damaged

same_rows : EachHasOneReading → (reads : Option Areas) (a b : List PlainLogged) → AsRead reads (ReadsRows a) → WhereTold reads (ReadsRows b) → b ≡ a
same_rows one None a b read other = absurd read
same_rows one (Some areas) a b read other = ((one areas).rows other.0 read.0 b a other.1 read.1).1

-- what was opened are the entries that are read
pub opened_is : EachHasOneReading → (reads : Option Areas) (rows : List PlainLogged) (history : List PlainEntry) (moments : List ℕ) → AsRead reads (ReadsRows rows) → IsOpenedFrom reads history moments → history ≡ opened_with (entries_of rows)
opened_is one reads rows history moments read from = from.history_is ∙ ap (λ (rs : List PlainLogged). opened_with (entries_of rs)) (same_rows one reads rows from.rows read from.read)

-- ---- a log that is damaged

module _ (one : EachHasOneOpening) where
  not_opened : (reads : Option Areas) (at : ℕ) → AsRead reads (IsDamagedLog at) → (history : List PlainEntry) (moments : List ℕ) → ¬ IsOpenedFrom reads history moments
  not_opened None at damaged history moments from = absurd damaged
  not_opened (Some areas) at damaged history moments from = (one areas).apart from.rows at from.read from.are_entries.fit damaged

  pub damage_is_told : DamageIsTold
  damage_is_told words reads left before after report steps exchanges status has (inl nothing) = nothing
  damage_is_told words reads left before after report steps exchanges status has (inr (inl o)) = absurd (not_opened reads has.0 has.1 o.opened o.moments o.from)
  damage_is_told words reads left before after report steps exchanges status has (inr (inr o)) = absurd (not_opened reads has.0 has.1 o.opened o.moments o.from)

-- ---- the history with which a store opens

pub greatest_opened : (entries : List PlainEntry) → greatest_session (opened_with entries) ≡ greatest_session entries
greatest_opened entries = omega (arith, greatest-push entries restart_entry)

pub opened_placed : (reads : Option Areas) (history : List PlainEntry) (moments : List ℕ) → IsOpenedFrom reads history moments → AllPlaced empty_world history
opened_placed reads history moments from =
    subst (AllPlaced empty_world) (sym from.history_is) (placed_push empty_world (entries_of from.rows) restart_entry (fitting_are_placed (entries_of from.rows) from.are_entries.fit) tt)

-- there is a moment for each of its kept entries
pub opened_timed : (reads : Option Areas) (store : StoreView) → IsOpenedFrom reads store.history store.moments → HasMoments store
opened_timed reads store from =
    let entries = entries_of from.rows in
    let kept : durable_entries store.history ≡ entries = ap durable_entries from.history_is ∙ durable_both entries (restart_entry ∷ []) ∙ append-nil (durable_entries entries) ∙ fitting_are_kept entries from.are_entries.fit in
    ap length from.moments_are ∙ length-map from.rows (λ (row : PlainLogged). row.moment) ∙ sym (ap length kept ∙ length-map from.rows (λ (row : PlainLogged). row.entry))
