-- A gate that is 0 stays as it is; another may have any byte until it is written.
use Rattle.std.proofs.Common.{[], ◌∷◌, ◌++◌, sym, ◌∙◌, subst}
use Rattle.green_io.specs.declared.disk.Area.TheVariants as area
use Rattle.green_io.specs.Areas.{is_same}
use Rattle.green_io.proofs.Beside.{untouched_others}
use Rattle.green_io.specs.Disk.{Torn, Written}
use Rattle.edit_log.specs.Images.{IsShut}
use Rattle.edit_log.specs.inside.Ends.{IsThat, HasTornGate}
use Rattle.edit_log.proofs.Answering.{on_ok}
use Rattle.edit_log.proofs.Ends.{torn_at_end, written_at_end, written_reads, shut_at_end, shut_reads}
use Rattle.edit_log.proofs.Steps.{torn_images, written_images}
use Rattle.edit_log.proofs.phases.close_end.Goals as goal

pub returns-then-is_closed-clause-closed : goal.returns-then-is_closed-clause-closed
returns-then-is_closed-clause-closed g c front images = record {
  told = images.told;
  at_end = images.at_end;
  each = λ image now. shut_at_end front c.args.end.now image.second (sym c.is_closed.ensures ∙ c.if-is_closed.true) (images.each image now);
}

pub returns-clause-any_moment : goal.returns-clause-any_moment
returns-clause-any_moment g c front images =
    torn_images _ _ _ _ _ front (IsThat (front ++ c.args.end.now)) (HasTornGate front c.args.end.now) images c.write_and_sync.ensures.crash
    (λ old new was torn. torn_at_end front c.args.end.now old new (sym c.is_closed.ensures ∙ c.if-is_closed.false) was (subst (λ at. Torn at 1 old new) images.at_end torn))

pub returns-clause-closed : goal.returns-clause-closed
returns-clause-closed g c front images =
    on_ok _ _ _ _ c.write_and_sync.ensures.written c.write_and_sync.ensures.durable
    (λ written durable. written_images _ _ _ _ _ _ front front (IsThat (front ++ c.args.end.now)) (IsShut front) (g.met.D.Disk.is_disk c.args.disk.now) images c.write_and_sync.ensures.told written durable
    (λ old new was put. written_at_end front c.args.end.now old new was (subst (λ at. Written at (0 ∷ []) old new) images.at_end put))
    images.at_end)

pub returns-then-is_closed-clause-reads : goal.returns-then-is_closed-clause-reads
returns-then-is_closed-clause-reads g c front at = shut_reads front c.args.end.now (g.D.Disk.state c.args.disk.now).reads (sym c.is_closed.ensures ∙ c.if-is_closed.true)

pub returns-clause-reads : goal.returns-clause-reads
returns-clause-reads g c front at =
    written_reads c.write_and_sync.result front c.args.end.now c.args.at (g.D.Disk.state c.args.disk.now).reads (g.D.Disk.state c.write_and_sync.new.disk).reads at c.write_and_sync.ensures.written

pub returns-then-is_closed-clause-others : goal.returns-then-is_closed-clause-others
returns-then-is_closed-clause-others g c = untouched_others (is_same area.Second) (g.D.Disk.state c.args.disk.now)
