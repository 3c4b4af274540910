use Rattle.std.proofs.Common.{ap, subst}
use Rattle.green_io.specs.Disk.{LeavesOnly}
use Rattle.page_flush.specs.FlushView.{FlushView, Knows}
use Rattle.page_flush.specs.Saving.{GivesAny, save_of}
use Rattle.page_flush.specs.Saving as streams
use Rattle.page_saves.specs.Courses.{Saved}
use Rattle.page_saves.specs.Resting.{RestsOn}
use Rattle.green_flush.specs.Standing as own
use Rattle.green_flush.proofs.Held.{renewed-stopped}
use Rattle.green_flush.proofs.flush.Flush.save_streams.Goals as goal

pub returns-in-Err-clause-any_moment : goal.returns-in-Err-clause-any_moment
returns-in-Err-clause-any_moment g c =
    subst (λ (p : FlushView). (was saved : Saved) → RestsOn (g.D.Disk.state c.args.disk.now) p.journal was saved → Knows p saved → LeavesOnly (g.D.Disk.state c.args.disk.now) (g.D.Disk.state c.save.new.disk) (GivesAny (save_of was saved p c.args.given.now c.args.position)))
    (ap (λ (f : own.FlushView). f.pages) c.self.view_is) c.save.ensures.any_moment

pub returns-in-Err-clause-fails : goal.returns-in-Err-clause-fails
returns-in-Err-clause-fails g c =
    subst (λ (p : FlushView). (was saved : Saved) → RestsOn (g.D.Disk.state c.args.disk.now) p.journal was saved → Knows p saved → streams.IsStopped (g.D.Disk.state c.save.new.disk) c.renew.new.self (save_of was saved p c.args.given.now c.args.position))
    (ap (λ (f : own.FlushView). f.pages) c.self.view_is)
    (λ was saved rests knows. renewed-stopped (g.D.Disk.state c.save.new.disk) c.save.new.self c.renew.new.self (save_of was saved c.self.inside.pages c.args.given.now c.args.position)
    c.renew.ensures.kept c.renew.ensures.journal c.renew.ensures.needs_blank c.renew.ensures.spared (c.in-Err.ensures.fails was saved rests knows))

pub returns-clause-any_moment : goal.returns-clause-any_moment
returns-clause-any_moment g c =
    subst (λ (p : FlushView). (was saved : Saved) → RestsOn (g.D.Disk.state c.args.disk.now) p.journal was saved → Knows p saved → LeavesOnly (g.D.Disk.state c.args.disk.now) (g.D.Disk.state c.save.new.disk) (GivesAny (save_of was saved p c.args.given.now c.args.position)))
    (ap (λ (f : own.FlushView). f.pages) c.self.view_is) c.save.ensures.any_moment
