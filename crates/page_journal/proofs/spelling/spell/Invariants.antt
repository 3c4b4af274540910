-- So far the record has the count and the first pages.
use Rattle.std.proofs.Common.{◌≡◌, ◌++◌, take, flat_map}
use Rattle.std.specs.Int.{w32, to_be_bytes}
use Rattle.page_journal.specs.JournalBytes.{entry_bytes, writes_of}
use Rattle.page_journal.proofs.spelling.spell.Given as goal

abbrev pub invariant-loop-page : goal.invariant-loop-page
invariant-loop-page l = l.kept.items ≡ to_be_bytes w32 l.count ++ flat_map entry_bytes (writes_of (take l.page-index l.pages))
