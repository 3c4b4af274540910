-- Nothing is written before what was found is closed.
use Rattle.std.proofs.Common.{refl}
use Rattle.green_io.specs.Disk.{Nothing}
use Rattle.green_io.proofs.Beside.{looked_others, then_looked_others, then_others}
use Rattle.green_io.proofs.Crash.{same}
use Rattle.page_journal.specs.Images.{is_paged}
use Rattle.page_journal.proofs.Opens.{nothing_settles, settles, stands}
use Rattle.page_journal.proofs.journal.PageJournal.open.Goals as goal

pub returns-in_err-settle-clause-any_moment : goal.returns-in_err-settle-clause-any_moment
returns-in_err-settle-clause-any_moment g c = nothing_settles _ _ _ c.settle.ensures.crash

pub returns-in_err-settle-clause-log : goal.returns-in_err-settle-clause-log
returns-in_err-settle-clause-log g c = looked_others is_paged _ _ c.settle.ensures.reads c.settle.ensures.crash

pub returns-in_err-found-clause-any_moment : goal.returns-in_err-found-clause-any_moment
returns-in_err-found-clause-any_moment g c = nothing_settles _ _ _ (same _ _ _ Nothing c.settle.ensures.crash c.find.ensures.crash)

pub returns-in_err-found-clause-log : goal.returns-in_err-found-clause-log
returns-in_err-found-clause-log g c =
    then_looked_others is_paged _ _ _ (looked_others is_paged _ _ c.settle.ensures.reads c.settle.ensures.crash) c.find.ensures.reads c.find.ensures.crash

pub returns-in_default-clause-any_moment : goal.returns-in_default-clause-any_moment
returns-in_default-clause-any_moment g c =
    settles _ _ _ _ _ _ c.in_ok-found.found (g.met.D.Disk.is_disk c.find.new.disk) c.settle.ensures.reads c.find.ensures.reads c.find.ensures.crash (same _ _ _ Nothing c.settle.ensures.crash c.find.ensures.crash) c.in_ok-settle.ensures.settled c.in_ok-found.ensures.found
    (λ areas have is. c.in_default.ensures.any_moment areas have is)

pub returns-in_default-clause-log : goal.returns-in_default-clause-log
returns-in_default-clause-log g c =
    then_others is_paged _ _ _ (g.met.D.Disk.is_disk c.find.new.disk)
    (then_looked_others is_paged _ _ _ (looked_others is_paged _ _ c.settle.ensures.reads c.settle.ensures.crash) c.find.ensures.reads c.find.ensures.crash) c.in_default.ensures.others

pub returns-clause-any_moment : goal.returns-clause-any_moment
returns-clause-any_moment g c =
    settles _ _ _ _ _ _ c.in_ok-found.found (g.met.D.Disk.is_disk c.find.new.disk) c.settle.ensures.reads c.find.ensures.reads c.find.ensures.crash (same _ _ _ Nothing c.settle.ensures.crash c.find.ensures.crash) c.in_ok-settle.ensures.settled c.in_ok-found.ensures.found
    (λ areas have is. c.in-Ok.ensures.any_moment areas have is)

pub returns-clause-stands : goal.returns-clause-stands
returns-clause-stands g c =
    stands _ _ _ _ _ c.in_ok-found.found _ (g.met.D.Disk.is_disk c.find.new.disk) c.settle.ensures.reads c.find.ensures.reads c.find.ensures.crash refl c.in_ok-settle.ensures.settled c.in_ok-found.ensures.found
    (λ areas have is. c.in-Ok.ensures.settled areas have is)

pub returns-clause-log : goal.returns-clause-log
returns-clause-log g c =
    then_others is_paged _ _ _ (g.met.D.Disk.is_disk c.find.new.disk)
    (then_looked_others is_paged _ _ _ (looked_others is_paged _ _ c.settle.ensures.reads c.settle.ensures.crash) c.find.ensures.reads c.find.ensures.crash) c.in-Ok.ensures.others
