use Rattle.std.proofs.Common.{All, map, take}
use Rattle.febe_data.specs.Plain.{plain_spec}
use Rattle.world_rules.specs.FlatView.{FlatView}
use Rattle.entry_fits.specs.Fits.{SpecFits}
use Rattle.entry_fits.proofs.picking.specs_fit.Given as goal

abbrev pub invariant-loop-spec : goal.invariant-loop-spec
invariant-loop-spec g l = (view : FlatView) → g.W.LookUp.stands l.world view → All (SpecFits view.world) (map plain_spec (take l.spec-index l.specs))
