-- The gate is a stable 0 while the record is written.
use Rattle.std.proofs.Common.{inl, inr, refl}
use Rattle.green_io.specs.declared.disk.Area.TheVariants as area
use Rattle.green_io.proofs.Beside.{area_others, then_others}
use Rattle.green_io.proofs.Crash.{same}
use Rattle.page_journal.specs.Pages.{pages_of}
use Rattle.page_journal.specs.Images.{GivesEither, is_paged}
use Rattle.page_journal.proofs.Joining.{shut_leaves}
use Rattle.page_journal.proofs.Recorded.{record_is_staged}
use Rattle.page_journal.proofs.Answering.{on_err}
use Rattle.page_journal.proofs.courses.carry_out.Goals as goal

pub returns-in_err-stage_record-clause-any_moment : goal.returns-in_err-stage_record-clause-any_moment
returns-in_err-stage_record-clause-any_moment g c home writes is settled =
    shut_leaves _ _ home writes (c.stage_record.ensures.any_moment home settled)

pub returns-in_err-stage_record-clause-fails : goal.returns-in_err-stage_record-clause-fails
returns-in_err-stage_record-clause-fails g c home writes is settled clean = on_err _ _ (inl (clean, c.in_err-stage_record.ensures.shut home settled))

pub returns-in_err-stage_record-clause-others : goal.returns-in_err-stage_record-clause-others
returns-in_err-stage_record-clause-others g c = area_others area.Journal is_paged _ _ refl c.stage_record.ensures.others

pub returns-in_err-set_off-clause-any_moment : goal.returns-in_err-set_off-clause-any_moment
returns-in_err-set_off-clause-any_moment g c home writes is settled =
    same _ _ _ (GivesEither (pages_of home) writes)
    (shut_leaves _ _ home writes (c.stage_record.ensures.any_moment home settled))
    (c.set_off.ensures.any_moment home writes (record_is_staged c.args.kept.now writes is) (c.in_ok-stage_record.ensures.staged home writes is settled))

pub returns-in_err-set_off-clause-fails : goal.returns-in_err-set_off-clause-fails
returns-in_err-set_off-clause-fails g c home writes is settled clean =
    on_err _ _ (inr (c.in_err-set_off.ensures.fails home writes (record_is_staged c.args.kept.now writes is) (c.in_ok-stage_record.ensures.staged home writes is settled)))

pub returns-in_err-set_off-clause-others : goal.returns-in_err-set_off-clause-others
returns-in_err-set_off-clause-others g c =
    then_others is_paged _ _ _ (g.met.D.Disk.is_disk c.stage_record.new.disk)
    (area_others area.Journal is_paged _ _ refl c.stage_record.ensures.others) c.set_off.ensures.others

pub returns-clause-any_moment : goal.returns-clause-any_moment
returns-clause-any_moment g c home writes is settled =
    same _ _ _ (GivesEither (pages_of home) writes)
    (shut_leaves _ _ home writes (c.stage_record.ensures.any_moment home settled))
    (c.set_off.ensures.any_moment home writes (record_is_staged c.args.kept.now writes is) (c.in_ok-stage_record.ensures.staged home writes is settled))

pub returns-clause-done : goal.returns-clause-done
returns-clause-done g c home writes is settled =
    c.in_ok-set_off.ensures.done home writes (record_is_staged c.args.kept.now writes is) (c.in_ok-stage_record.ensures.staged home writes is settled)

pub returns-clause-others : goal.returns-clause-others
returns-clause-others g c =
    then_others is_paged _ _ _ (g.met.D.Disk.is_disk c.stage_record.new.disk)
    (area_others area.Journal is_paged _ _ refl c.stage_record.ensures.others) c.set_off.ensures.others
