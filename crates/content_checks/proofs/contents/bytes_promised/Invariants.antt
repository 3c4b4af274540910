-- The bytes of the documents that were gone through are counted.
use Rattle.std.proofs.Common.{◌≡◌, min, length, take}
use Rattle.enfilade_core.specs.Summary.{most_count}
use Rattle.content_checks.specs.Listed.{listed_bytes}
use Rattle.content_checks.proofs.contents.bytes_promised.Given as goal

abbrev pub invariant-loop-document : goal.invariant-loop-document
invariant-loop-document l = l.bytes ≡ min (length (listed_bytes (take l.document-index l.documents))) most_count
