-- While the entries are written the area begins with a gate 0; the last gate comes behind them, and then all is stable.
use Rattle.std.proofs.Common.{[], ◌∷◌, ◌++◌}
use Rattle.entry_codec.specs.Logged.{plain_log}
use Rattle.entry_codec.specs.declared.format.LogFormat.TheVariants.{New}
use Rattle.green_io.specs.declared.disk.Area.TheVariants as area
use Rattle.green_io.specs.Areas.{is_same}
use Rattle.green_io.specs.Disk.{Written, Torn}
use Rattle.green_io.proofs.Beside.{changed_others, then_others, then_looked_others}
use Rattle.green_io.proofs.Crash.{same, then_nothing}
use Rattle.edit_log.specs.Log.{gated}
use Rattle.edit_log.specs.inside.Migration.{BeginsShut, Beside}
use Rattle.edit_log.proofs.Fronts.{behind_gate, torn_behind_gate}
use Rattle.edit_log.proofs.SecondSteps.{torn_beside, writing_none, writing_more, settled}
use Rattle.edit_log.proofs.migrating.write_log.Goals as goal

pub returns-in_err-end-clause-any_moment : goal.returns-in_err-end-clause-any_moment
returns-in_err-end-clause-any_moment g c log images =
    let begun = writing_none _ log (g.met.D.Disk.is_disk c.args.disk.now) images in
    c.write_rows.ensures.any_moment log begun.images

pub returns-in_err-write-clause-any_moment : goal.returns-in_err-write-clause-any_moment
returns-in_err-write-clause-any_moment g c log images =
    let begun = writing_none _ log (g.met.D.Disk.is_disk c.args.disk.now) images in
    let behind = behind_gate c.in_ok-end.end (gated New (plain_log c.args.rows.now)) c.in_ok-end.ensures.ends in
    same _ (g.D.Disk.state c.write_rows.new.disk) _ (Beside log BeginsShut)
    (c.write_rows.ensures.any_moment log begun.images)
    (torn_beside _ _ log (Torn c.in_ok-end.end 1) BeginsShut BeginsShut (c.in_ok-end.ensures.written log begun).images c.write.ensures.crash (λ old new was torn. torn_behind_gate c.in_ok-end.end 1 old new behind was torn))

pub returns-in_err-write-clause-others : goal.returns-in_err-write-clause-others
returns-in_err-write-clause-others g c =
    then_others (is_same area.Second) _ _ _ (g.met.D.Disk.is_disk c.write_rows.new.disk) c.write_rows.ensures.others
    (changed_others area.Second (Torn c.in_ok-end.end 1) (Torn c.in_ok-end.end 1) _ _ c.in_err-write.ensures.part c.write.ensures.crash)

pub returns-in_err-sync-clause-any_moment : goal.returns-in_err-sync-clause-any_moment
returns-in_err-sync-clause-any_moment g c log images =
    let begun = writing_none _ log (g.met.D.Disk.is_disk c.args.disk.now) images in
    let behind = behind_gate c.in_ok-end.end (gated New (plain_log c.args.rows.now)) c.in_ok-end.ensures.ends in
    then_nothing _ (g.D.Disk.state c.write.new.self) _ (Beside log BeginsShut)
    (same _ (g.D.Disk.state c.write_rows.new.disk) _ (Beside log BeginsShut)
    (c.write_rows.ensures.any_moment log begun.images)
    (torn_beside _ _ log (Torn c.in_ok-end.end 1) BeginsShut BeginsShut (c.in_ok-end.ensures.written log begun).images c.write.ensures.crash (λ old new was torn. torn_behind_gate c.in_ok-end.end 1 old new behind was torn)))
    c.sync.ensures.crash

pub returns-in_err-sync-clause-others : goal.returns-in_err-sync-clause-others
returns-in_err-sync-clause-others g c =
    then_looked_others (is_same area.Second) _ (g.D.Disk.state c.write.new.self) _
    (then_others (is_same area.Second) _ _ _ (g.met.D.Disk.is_disk c.write_rows.new.disk) c.write_rows.ensures.others
    (changed_others area.Second (Written c.in_ok-end.end (0 ∷ [])) (Torn c.in_ok-end.end 1) _ _ c.in_ok-write.ensures.written c.write.ensures.crash))
    c.sync.ensures.reads c.sync.ensures.crash

pub returns-clause-any_moment : goal.returns-clause-any_moment
returns-clause-any_moment g c log images =
    let begun = writing_none _ log (g.met.D.Disk.is_disk c.args.disk.now) images in
    let behind = behind_gate c.in_ok-end.end (gated New (plain_log c.args.rows.now)) c.in_ok-end.ensures.ends in
    then_nothing _ (g.D.Disk.state c.write.new.self) _ (Beside log BeginsShut)
    (same _ (g.D.Disk.state c.write_rows.new.disk) _ (Beside log BeginsShut)
    (c.write_rows.ensures.any_moment log begun.images)
    (torn_beside _ _ log (Torn c.in_ok-end.end 1) BeginsShut BeginsShut (c.in_ok-end.ensures.written log begun).images c.write.ensures.crash (λ old new was torn. torn_behind_gate c.in_ok-end.end 1 old new behind was torn)))
    c.sync.ensures.crash

pub returns-clause-written : goal.returns-clause-written
returns-clause-written g c log images =
    let begun = writing_none _ log (g.met.D.Disk.is_disk c.args.disk.now) images in
    let behind = behind_gate c.in_ok-end.end (gated New (plain_log c.args.rows.now)) c.in_ok-end.ensures.ends in
    let leaves = torn_beside _ _ log (Torn c.in_ok-end.end 1) BeginsShut BeginsShut (c.in_ok-end.ensures.written log begun).images c.write.ensures.crash (λ old new was torn. torn_behind_gate c.in_ok-end.end 1 old new behind was torn) in
    let others = changed_others area.Second (Written c.in_ok-end.end (0 ∷ [])) (Torn c.in_ok-end.end 1) _ _ c.in_ok-write.ensures.written c.write.ensures.crash in
    let writing = writing_more _ _ log (gated New (plain_log c.args.rows.now)) (0 ∷ []) c.in_ok-end.end (g.met.D.Disk.is_disk c.write.new.self) (c.in_ok-end.ensures.written log begun) c.in_ok-end.ensures.ends c.in_ok-write.ensures.written others leaves in
    settled _ _ log (gated New (plain_log c.args.rows.now) ++ (0 ∷ [])) (g.met.D.Disk.is_disk c.sync.new.self) writing c.sync.ensures.reads c.sync.ensures.crash c.in_ok-sync.ensures.durable

pub returns-clause-others : goal.returns-clause-others
returns-clause-others g c =
    then_looked_others (is_same area.Second) _ (g.D.Disk.state c.write.new.self) _
    (then_others (is_same area.Second) _ _ _ (g.met.D.Disk.is_disk c.write_rows.new.disk) c.write_rows.ensures.others
    (changed_others area.Second (Written c.in_ok-end.end (0 ∷ [])) (Torn c.in_ok-end.end 1) _ _ c.in_ok-write.ensures.written c.write.ensures.crash))
    c.sync.ensures.reads c.sync.ensures.crash
