-- Entries that fit one after the other are kept and placed.
use Rattle.std.proofs.Common.{◌≡◌, ◌⊎◌, ℕ, true, List, [], ◌∷◌, ◌++◌, ap, sym, refl, subst, inl, inr}
use Rattle.std.specs.Prelude.{IsTrue}
use Rattle.std.proofs.lemmas.Grind.{fold-append}
use Rattle.std.proofs.lemmas.List.{append_assoc, append-nil}
use Rattle.febe_data.specs.Plain.{PlainChange, PlainEntry, restarted, began, ended, account_changed, document_opened, document_closed, document_created, version_made, copy_opened, text_inserted, span_deleted, blocks_swapped, specs_copied, link_made, document_published}
use Rattle.world_rules.specs.World.{World, empty_world, has_document}
use Rattle.world_rules.specs.Apply.{apply, world_of}
use Rattle.world_rules.specs.History.{durable_entries, is_durable}
use Rattle.world_rules.specs.Placed.{IsNext, IsPlaced, AllPlaced}
use Rattle.entry_fits.specs.Fits.{IsNextOf, IsUnder, IsBeside, ChangeFits, Fits, AllFit}
use Rattle.entry_fits.specs.Laws.{FittingAreKept, FittingArePlaced, OneMoreFits}

-- ---- one change

pub fits_counted : (world : World) (change : PlainChange) → ChangeFits world change → is_durable change ≡ true
fits_counted world restarted fits = absurd fits
fits_counted world began fits = absurd fits
fits_counted world ended fits = absurd fits
fits_counted world (account_changed account) fits = absurd fits
fits_counted world (document_opened document mode) fits = absurd fits
fits_counted world (document_closed document) fits = absurd fits
fits_counted world other fits = refl

next_placed : (world : World) (account document : List ℕ) → IsNextOf world account document → IsNext world document
next_placed world account document next = record { front = account ++ 0 ∷ []; is_front = inl (record { account = account; parts = refl; known = inr next.is_account }); is_next = next.is_next }

version_placed : (world : World) (source document : List ℕ) → IsTrue (has_document world source) → IsUnder world source document ⊎ IsBeside world source document → IsNext world document
version_placed world source document there (inl under) = record { front = source; is_front = inr (record { there = there; room = under.room }); is_next = under.is_next }
version_placed world source document there (inr beside) = next_placed world beside.account document beside.next_of

fits_placed : (world : World) (change : PlainChange) → ChangeFits world change → IsPlaced world change
fits_placed world (document_created document) fits = next_placed world fits.account document fits.next_of
fits_placed world (version_made source document) fits = version_placed world source document fits.there fits.place
fits_placed world (copy_opened source document) fits = version_placed world source document fits.there fits.place
fits_placed world (text_inserted document at first text) fits = fits.comes_in
fits_placed world (span_deleted document span) fits = tt
fits_placed world (blocks_swapped document cuts) fits = fits.1
fits_placed world (specs_copied document at specs) fits = fits.comes_in
fits_placed world (link_made home number place from to three) fits = fits.comes_in
fits_placed world (document_published document) fits = fits
fits_placed world restarted fits = absurd fits
fits_placed world began fits = absurd fits
fits_placed world ended fits = absurd fits
fits_placed world (account_changed account) fits = absurd fits
fits_placed world (document_opened document mode) fits = absurd fits
fits_placed world (document_closed document) fits = absurd fits

-- ---- a list of entries

kept_along : (past entries : List PlainEntry) → AllFit past entries → durable_entries entries ≡ entries
kept_along past [] all = refl
kept_along past (entry ∷ entries) all = rw (fits_counted (world_of past) entry.change all.0.change) (ap (λ (es : List PlainEntry). entry ∷ es) (kept_along (past ++ entry ∷ []) entries all.1))

pub fitting_are_kept : FittingAreKept
fitting_are_kept entries all = kept_along [] entries all

placed_along : (past entries : List PlainEntry) → AllFit past entries → AllPlaced (world_of past) entries
placed_along past [] all = tt
placed_along past (entry ∷ entries) all = (
  fits_placed (world_of past) entry.change all.0.change,
  subst (λ (world : World). AllPlaced world entries) (fold-append apply empty_world past (entry ∷ [])) (placed_along (past ++ entry ∷ []) entries all.1),
)

pub fitting_are_placed : FittingArePlaced
fitting_are_placed entries all = placed_along [] entries all

more_along : (past entries : List PlainEntry) (entry : PlainEntry) → AllFit past entries → Fits (past ++ entries) entry → AllFit past (entries ++ entry ∷ [])
more_along past [] entry all fits = (subst (λ (es : List PlainEntry). Fits es entry) (append-nil past) fits, tt)
more_along past (first ∷ entries) entry all fits =
    (all.0, more_along (past ++ first ∷ []) entries entry all.1 (subst (λ (es : List PlainEntry). Fits es entry) (sym (append_assoc past (first ∷ []) entries)) fits))

pub one_more_fits : OneMoreFits
one_more_fits entries entry all fits = more_along [] entries entry all fits
