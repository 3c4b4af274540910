use Rattle.std.proofs.Common.{sym, ap, subst}
use Rattle.green_flush.specs.Standing.{FlushView, IsStopped, trees_at}
use Rattle.page_flush.specs.FlushView as pages
use Rattle.page_flush.specs.Saving.{save_of}
use Rattle.page_flush.specs.Saving as streams
use Rattle.green_flush.proofs.Held.{leaves-loads, on-err, stopped-own, made-own}
use Rattle.green_flush.proofs.flush.Flush.save.Goals as goal

pub returns-in_err-save_streams-clause-any_moment : goal.returns-in_err-save_streams-clause-any_moment
returns-in_err-save_streams-clause-any_moment g c = λ was now plain stands saved.
    leaves-loads (g.D.Disk.state c.args.disk.now) (g.D.Disk.state c.save_streams.new.disk) c.args.self.now was now stands
    (record { granfilade = c.args.granfilade.now; poom = c.args.poom.now; spanfilade = c.args.spanfilade.now; from = c.args.from.now; to = c.args.to.now; three = c.args.three.now; tables = c.args.tables.now })
    plain saved c.in_ok-given.given c.args.position c.in_ok-given.ensures (c.save_streams.ensures.any_moment stands.from stands.to stands.rests stands.knows)

pub returns-in_err-save_streams-clause-fails : goal.returns-in_err-save_streams-clause-fails
returns-in_err-save_streams-clause-fails g c = λ was now plain stands saved.
    on-err c.from_residual-in_err-save_streams.result (IsStopped (g.D.Disk.state c.save_streams.new.disk) c.save_streams.new.self was now (trees_at plain c.args.position))
    (stopped-own (g.D.Disk.state c.args.disk.now) (g.D.Disk.state c.save_streams.new.disk) c.args.self.now c.save_streams.new.self was now stands
    (record { granfilade = c.args.granfilade.now; poom = c.args.poom.now; spanfilade = c.args.spanfilade.now; from = c.args.from.now; to = c.args.to.now; three = c.args.three.now; tables = c.args.tables.now })
    plain saved c.in_ok-given.given c.args.position c.in_ok-given.ensures c.in_err-save_streams.ensures.anew (c.in_err-save_streams.ensures.fails stands.from stands.to stands.rests stands.knows))

pub returns-clause-any_moment : goal.returns-clause-any_moment
returns-clause-any_moment g c = λ was now plain stands saved.
    leaves-loads (g.D.Disk.state c.args.disk.now) (g.D.Disk.state c.save_streams.new.disk) c.args.self.now was now stands
    (record { granfilade = c.args.granfilade.now; poom = c.args.poom.now; spanfilade = c.args.spanfilade.now; from = c.args.from.now; to = c.args.to.now; three = c.args.three.now; tables = c.args.tables.now })
    plain saved c.in_ok-given.given c.args.position c.in_ok-given.ensures (c.save_streams.ensures.any_moment stands.from stands.to stands.rests stands.knows)

pub returns-clause-done : goal.returns-clause-done
returns-clause-done g c = λ was now plain stands saved.
    made-own (g.D.Disk.state c.args.disk.now) (g.D.Disk.state c.save_streams.new.disk) c.args.self.now (record { pages = c.self.inside.pages; counts = c.of-self-inside.result }) was now stands
    (record { granfilade = c.args.granfilade.now; poom = c.args.poom.now; spanfilade = c.args.spanfilade.now; from = c.args.from.now; to = c.args.to.now; three = c.args.three.now; tables = c.args.tables.now })
    plain saved c.in_ok-given.given c.args.position c.in_ok-given.ensures
    (record { granfilade = c.of-self-inside.ensures.granfilade; poom = c.of-self-inside.ensures.poom; spanfilade = c.of-self-inside.ensures.spanfilade; from = c.of-self-inside.ensures.from; to = c.of-self-inside.ensures.to; three = c.of-self-inside.ensures.three })
    (subst (λ (p : pages.FlushView). streams.IsSaved (g.D.Disk.state c.save_streams.new.disk) p (save_of stands.from stands.to c.args.self.now.pages c.in_ok-given.given c.args.position))
    (sym (ap (λ (f : FlushView). f.pages) c.self.view_is)) (c.in_ok-save_streams.ensures.done stands.from stands.to stands.rests stands.knows))
