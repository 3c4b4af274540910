-- The fields in front of a header.
use Rattle.std.specs.Prelude.{◌≡◌, ◌≤◌, take}
use Rattle.page_journal.specs.Pages.{Bytes}
use Rattle.page_chains.specs.Headers.{number_at, header_mark}

-- the bytes begin as a header does
pub record IsMarked (page : Bytes) : Type 0 where
  pub mark : take 8 page ≡ header_mark
  pub used : number_at 16 page ≤ 1099511627776
