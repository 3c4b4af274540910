-- A write behind the gate leaves it, whole or torn.
use Rattle.std.proofs.Common.{ℕ, List, ◌++◌, length, ◌∙◌, subst}
use Rattle.green_io.specs.declared.disk.Area.TheVariants as area
use Rattle.green_io.specs.Areas.{is_same}
use Rattle.green_io.specs.Disk.{Written, Torn}
use Rattle.green_io.proofs.Beside.{untouched_others, changed_others}
use Rattle.green_io.proofs.Crash.{none_called}
use Rattle.edit_log.specs.inside.Migration.{BeginsShut, Beside, IsWriting}
use Rattle.edit_log.proofs.Fronts.{behind_gate, torn_behind_gate}
use Rattle.edit_log.proofs.SecondSteps.{torn_beside, writing_more}
use Rattle.edit_log.proofs.migrating.write_row.Goals as goal

pub returns-in_default-clause-any_moment : goal.returns-in_default-clause-any_moment
returns-in_default-clause-any_moment g c log behind images = none_called (g.D.Disk.state c.args.disk.now) (Beside log BeginsShut)

pub returns-in_default-clause-others : goal.returns-in_default-clause-others
returns-in_default-clause-others g c = untouched_others (is_same area.Second) (g.D.Disk.state c.args.disk.now)

pub returns-in_err-write-clause-any_moment : goal.returns-in_err-write-clause-any_moment
returns-in_err-write-clause-any_moment g c log behind images =
    torn_beside _ _ log (Torn c.args.at (length c.as_slice.result.now)) BeginsShut BeginsShut images c.write.ensures.crash
    (λ old new was torn. torn_behind_gate c.args.at (length c.as_slice.result.now) old new behind was torn)

pub returns-in_err-write-clause-others : goal.returns-in_err-write-clause-others
returns-in_err-write-clause-others g c =
    changed_others area.Second (Torn c.args.at (length c.as_slice.result.now)) (Torn c.args.at (length c.as_slice.result.now)) _ _ c.in_err-write.ensures.part c.write.ensures.crash

pub returns-clause-any_moment : goal.returns-clause-any_moment
returns-clause-any_moment g c log behind images =
    torn_beside _ _ log (Torn c.args.at (length c.as_slice.result.now)) BeginsShut BeginsShut images c.write.ensures.crash
    (λ old new was torn. torn_behind_gate c.args.at (length c.as_slice.result.now) old new behind was torn)

pub returns-clause-others : goal.returns-clause-others
returns-clause-others g c =
    changed_others area.Second (Written c.args.at c.as_slice.result.now) (Torn c.args.at (length c.as_slice.result.now)) _ _ c.in_ok-write.ensures.written c.write.ensures.crash

pub returns-clause-written : goal.returns-clause-written
returns-clause-written g c log written at_end writing =
    let bytes = c.as_slice.result.now in
    let is = c.as_slice.ensures ∙ c.in-Ok.ensures in
    let leaves = torn_beside _ _ log (Torn c.args.at (length bytes)) BeginsShut BeginsShut writing.images c.write.ensures.crash
    (λ old new was torn. torn_behind_gate c.args.at (length bytes) old new (behind_gate c.args.at written at_end) was torn) in
    let others = changed_others area.Second (Written c.args.at bytes) (Torn c.args.at (length bytes)) _ _ c.in_ok-write.ensures.written c.write.ensures.crash in
    subst (λ (l : List ℕ). IsWriting (g.D.Disk.state c.write.new.self) log (written ++ l)) is
    (writing_more _ _ log written bytes c.args.at (g.met.D.Disk.is_disk c.write.new.self) writing at_end c.in_ok-write.ensures.written others leaves)
