use Rattle.std.proofs.Common.{◌≡◌, drop, map}
use Rattle.febe_data.specs.Plain.{plain_spec}
use Rattle.world_rules.specs.FlatView.{FlatView}
use Rattle.world_rules.specs.Refusals.{lacks_opening}
use Rattle.world_rules.proofs.refusals.lacks_opening.Given as goal

abbrev pub invariant-loop-spec : goal.invariant-loop-spec
invariant-loop-spec g l =
    (view : FlatView) → g.W.LookUp.stands l.world view → lacks_opening view.world l.session (map plain_spec (drop l.spec-index l.specs)) ≡ lacks_opening view.world l.session (map plain_spec l.specs)
