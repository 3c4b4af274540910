use Rattle.std.proofs.Common.{◌≡◌, drop, map}
use Rattle.febe_data.specs.Plain.{plain_spec}
use Rattle.world_rules.specs.FlatView.{FlatView}
use Rattle.world_rules.specs.Refusals.{hides_document_by}
use Rattle.world_rules.proofs.refusals.hides_document.Given as goal

abbrev pub invariant-loop-spec : goal.invariant-loop-spec
invariant-loop-spec g l =
    (view : FlatView) → g.W.LookUp.stands l.world view → hides_document_by view.world.published l.account (map plain_spec (drop l.spec-index l.specs)) ≡ hides_document_by view.world.published l.account (map plain_spec l.specs)
