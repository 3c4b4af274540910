-- The area is closed while it is cut, and so is the one byte that a crash may leave of the gate.
use Rattle.std.proofs.Common.{[], ◌∷◌}
use Rattle.green_io.specs.declared.disk.Area.TheVariants as area
use Rattle.green_io.specs.Areas.{is_same}
use Rattle.green_io.specs.Disk.{CutTo, PartlyCut, Written, Torn}
use Rattle.green_io.proofs.Beside.{then_others}
use Rattle.green_io.proofs.Crash.{same}
use Rattle.edit_log.specs.Log.{IsEnd}
use Rattle.edit_log.specs.inside.Ends.{IsThat}
use Rattle.edit_log.specs.inside.Migration.{BeginsShut, Beside}
use Rattle.edit_log.proofs.Fronts.{cut_end, cut_to_none, torn_alone, written_alone}
use Rattle.edit_log.proofs.SecondSteps.{torn_beside, done_beside}
use Rattle.edit_log.proofs.migrating.shut_anew.Goals as goal

pub returns-in_err-cut_and_sync-clause-any_moment : goal.returns-in_err-cut_and_sync-clause-any_moment
returns-in_err-cut_and_sync-clause-any_moment g c log images =
    torn_beside _ _ log (PartlyCut 0) IsEnd IsEnd images c.cut_and_sync.ensures.crash (cut_end 0)

pub returns-in_err-write_and_sync-clause-any_moment : goal.returns-in_err-write_and_sync-clause-any_moment
returns-in_err-write_and_sync-clause-any_moment g c log images =
    let emptied = done_beside _ _ log (CutTo 0) IsEnd (IsThat []) (g.met.D.Disk.is_disk c.args.disk.now) (g.met.D.Disk.is_disk c.cut_and_sync.new.disk) images c.in_ok-cut_and_sync.ensures.cut c.in_ok-cut_and_sync.ensures.durable c.cut_and_sync.ensures.others (λ old new ends cut. cut_to_none old new cut) in
    same _ (g.D.Disk.state c.cut_and_sync.new.disk) _ (Beside log IsEnd)
    (torn_beside _ _ log (PartlyCut 0) IsEnd IsEnd images c.cut_and_sync.ensures.crash (cut_end 0))
    (torn_beside _ _ log (Torn 0 1) (IsThat []) IsEnd emptied c.write_and_sync.ensures.crash torn_alone)

pub returns-in_err-write_and_sync-clause-others : goal.returns-in_err-write_and_sync-clause-others
returns-in_err-write_and_sync-clause-others g c =
    then_others (is_same area.Second) _ _ _ (g.met.D.Disk.is_disk c.cut_and_sync.new.disk) c.cut_and_sync.ensures.others c.write_and_sync.ensures.others

pub returns-clause-any_moment : goal.returns-clause-any_moment
returns-clause-any_moment g c log images =
    let emptied = done_beside _ _ log (CutTo 0) IsEnd (IsThat []) (g.met.D.Disk.is_disk c.args.disk.now) (g.met.D.Disk.is_disk c.cut_and_sync.new.disk) images c.in_ok-cut_and_sync.ensures.cut c.in_ok-cut_and_sync.ensures.durable c.cut_and_sync.ensures.others (λ old new ends cut. cut_to_none old new cut) in
    same _ (g.D.Disk.state c.cut_and_sync.new.disk) _ (Beside log IsEnd)
    (torn_beside _ _ log (PartlyCut 0) IsEnd IsEnd images c.cut_and_sync.ensures.crash (cut_end 0))
    (torn_beside _ _ log (Torn 0 1) (IsThat []) IsEnd emptied c.write_and_sync.ensures.crash torn_alone)

pub returns-clause-shut : goal.returns-clause-shut
returns-clause-shut g c log images =
    let emptied = done_beside _ _ log (CutTo 0) IsEnd (IsThat []) (g.met.D.Disk.is_disk c.args.disk.now) (g.met.D.Disk.is_disk c.cut_and_sync.new.disk) images c.in_ok-cut_and_sync.ensures.cut c.in_ok-cut_and_sync.ensures.durable c.cut_and_sync.ensures.others (λ old new ends cut. cut_to_none old new cut) in
    done_beside _ _ log (Written 0 (0 ∷ [])) (IsThat []) BeginsShut (g.met.D.Disk.is_disk c.cut_and_sync.new.disk) (g.met.D.Disk.is_disk c.write_and_sync.new.disk) emptied c.in_ok-write_and_sync.ensures.written c.in_ok-write_and_sync.ensures.durable c.write_and_sync.ensures.others written_alone

pub returns-clause-others : goal.returns-clause-others
returns-clause-others g c =
    then_others (is_same area.Second) _ _ _ (g.met.D.Disk.is_disk c.cut_and_sync.new.disk) c.cut_and_sync.ensures.others c.write_and_sync.ensures.others
