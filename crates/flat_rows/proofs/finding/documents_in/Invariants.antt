use Rattle.std.proofs.Common.{◌≡◌, ℕ, ◌&&◌, List, take}
use Rattle.std.specs.Prelude.{filter}
use Rattle.world_rules.specs.World.{ascending}
use Rattle.world_rules.specs.Readable.{is_readable_by}
use Rattle.flat_rows.specs.Sets.{is_in_set}
use Rattle.flat_rows.proofs.finding.documents_in.Given as goal

abbrev pub invariant-loop-document : goal.invariant-loop-document
invariant-loop-document l = l.found.keys ≡ ascending (filter (λ (document : List ℕ). is_readable_by l.published l.account document && is_in_set l.shown document) (take l.document-index l.documents))
