-- A gate that may be open may have any byte until it is closed.
use Rattle.std.proofs.Common.{refl, sym, subst}
use Rattle.entry_codec.specs.Format.{body_of}
use Rattle.entry_codec.specs.declared.format.LogFormat.TheVariants.{New}
use Rattle.edit_log.specs.Second.{front_of}
use Rattle.edit_log.specs.Images.{IsPending, SecondImages, HasGate}
use Rattle.edit_log.proofs.Appending.{ajar_holds, gated_images}
use Rattle.edit_log.proofs.log.EditLog.mend.Goals as goal

pub returns-in_default-close_gate-clause-any_moment : goal.returns-in_default-close_gate-clause-any_moment
returns-in_default-close_gate-clause-any_moment g c rows row mendable pending =
    let inside = subst (λ v. IsPending (g.D.Disk.state c.args.disk.now) v rows row) (sym c.self.view_is) pending in
    ajar_holds _ _ rows row mendable.before mendable.next (c.in_default-close_gate.ensures.any_moment (front_of rows) (body_of New row) (gated_images _ _ rows row c.in-Gated.is inside))

pub returns-in_default-close_gate-clause-pending : goal.returns-in_default-close_gate-clause-pending
returns-in_default-close_gate-clause-pending g c rows row mendable pending =
    let inside = subst (λ v. IsPending (g.D.Disk.state c.args.disk.now) v rows row) (sym c.self.view_is) pending in
    let images = c.in_default-close_gate.ensures.ajar (front_of rows) (body_of New row) (gated_images _ _ rows row c.in-Gated.is inside) in
    subst (λ v. IsPending (g.D.Disk.state c.close_gate.new.disk) v rows row) c.self.view_is
    record {
      images = subst (λ p. SecondImages (g.D.Disk.state c.close_gate.new.disk) c.self.inside.end (front_of rows) (HasGate p rows row)) (sym c.in-Gated.is) images;
      busy = inside.busy;
    }

pub returns-clause-any_moment : goal.returns-clause-any_moment
returns-clause-any_moment g c rows row mendable pending =
    let inside = subst (λ v. IsPending (g.D.Disk.state c.args.disk.now) v rows row) (sym c.self.view_is) pending in
    ajar_holds _ _ rows row mendable.before mendable.next (c.in-Ok.ensures.any_moment (front_of rows) (body_of New row) (gated_images _ _ rows row c.in-Gated.is inside))

pub returns-clause-done : goal.returns-clause-done
returns-clause-done g c rows row mendable pending =
    let inside = subst (λ v. IsPending (g.D.Disk.state c.args.disk.now) v rows row) (sym c.self.view_is) pending in
    record {
      idle = refl;
      images = c.in-Ok.ensures.closed (front_of rows) (body_of New row) (gated_images _ _ rows row c.in-Gated.is inside);
    }
