-- A change fits two worlds of the same contents alike.
use Rattle.std.proofs.Common.{◌≡◌, ◌⊎◌, ℕ, List, All, sym, subst, inl, inr}
use Rattle.febe_data.specs.Plain.{PlainSpec, PlainChange, restarted, began, ended, account_changed, document_opened, document_closed, document_created, version_made, copy_opened, text_inserted, span_deleted, blocks_swapped, specs_copied, link_made, document_published}
use Rattle.world_rules.specs.declared.rows.OpenRow.{OpenRow}
use Rattle.world_rules.specs.declared.rows.AccountRow.{AccountRow}
use Rattle.world_rules.specs.World.{World}
use Rattle.world_rules.specs.Laws.{HasContentsOf}
use Rattle.entry_fits.specs.Fits.{IsNextOf, IsUnder, IsBeside, IsVersionOf, SpecFits, ChangeFits}

module _ (world : World) (open_rows : List OpenRow) (accounts : List AccountRow) where
  -- the same contents, with these open documents and accounts
  abbrev other : World
  other = record world { open_rows = open_rows; accounts = accounts }

  next_of : (account document : List ℕ) → IsNextOf other account document → IsNextOf world account document
  next_of account document next = record { is_account = next.is_account; is_next = next.is_next }

  version_place : (source document : List ℕ) → IsUnder other source document ⊎ IsBeside other source document → IsUnder world source document ⊎ IsBeside world source document
  version_place source document (inl under) = inl (record { room = under.room; is_next = under.is_next })
  version_place source document (inr beside) = inr (record { account = beside.account; next_of = next_of beside.account document beside.next_of; cause = beside.cause })

  version : (source document : List ℕ) → IsVersionOf other source document → IsVersionOf world source document
  version source document fits = record { there = fits.there; place = version_place source document fits.place }

  specs_too : (specs : List PlainSpec) → All (SpecFits other) specs → All (SpecFits world) specs
  specs_too specs each k d lt = let fits : SpecFits other _ = each k d lt in record { there = fits.there; spans = fits.spans }

  fits_without : (change : PlainChange) → ChangeFits other change → ChangeFits world change
  fits_without restarted fits = fits
  fits_without began fits = fits
  fits_without ended fits = fits
  fits_without (account_changed account) fits = fits
  fits_without (document_opened document mode) fits = fits
  fits_without (document_closed document) fits = fits
  fits_without (document_created document) fits = record { account = fits.account; next_of = next_of fits.account document fits.next_of }
  fits_without (version_made source document) fits = version source document fits
  fits_without (copy_opened source document) fits = version source document fits
  fits_without (text_inserted document at first text) fits = record {
    comes_in = record { there = fits.comes_in.there; from_one = fits.comes_in.from_one; to_end = fits.comes_in.to_end; is_next = fits.comes_in.is_next };
    positions = fits.positions;
    content = fits.content;
  }
  fits_without (span_deleted document span) fits = (fits.0, fits.1)
  fits_without (blocks_swapped document cuts) fits = (fits.0, record { bounds = fits.1.bounds; are_cuts = fits.1.are_cuts; from_one = fits.1.from_one; to_end = fits.1.to_end })
  fits_without (specs_copied document at specs) fits = record {
    comes_in = record { there = fits.comes_in.there; from_one = fits.comes_in.from_one; to_end = fits.comes_in.to_end };
    each = specs_too specs fits.each;
    runs = fits.runs;
    positions = fits.positions;
  }
  fits_without (link_made home number place from to three) fits = record {
    comes_in = record { there = fits.comes_in.there; is_next = fits.comes_in.is_next; at_end = fits.comes_in.at_end };
    from_each = specs_too from fits.from_each;
    to_each = specs_too to fits.to_each;
    three_each = specs_too three fits.three_each;
    runs = fits.runs;
  }
  fits_without (document_published document) fits = fits

-- the one world, with the open documents and accounts of the other, is the other
alike : (one two : World) → HasContentsOf one two → record one { open_rows = two.open_rows; accounts = two.accounts } ≡ two
alike one two same = λ i. record { documents = same.documents i; rows = same.rows i; bytes = same.bytes i; links = same.links i; published = same.published i; open_rows = two.open_rows; accounts = two.accounts }

pub fits_too : (one two : World) → HasContentsOf one two → (change : PlainChange) → ChangeFits two change → ChangeFits one change
fits_too one two same change fits =
    fits_without one two.open_rows two.accounts change (subst (λ (world : World). ChangeFits world change) (sym (alike one two same)) fits)
