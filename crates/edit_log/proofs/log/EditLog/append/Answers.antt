-- While the body is written the log has what it had; from then on, whatever byte the gate is, with the body or without.
use Rattle.std.proofs.Common.{refl, sym, ◌∙◌, subst}
use Rattle.green_io.specs.declared.disk.Area.TheVariants as area
use Rattle.green_io.specs.Areas.{is_same}
use Rattle.green_io.proofs.Beside.{then_others}
use Rattle.edit_log.specs.Images.{IsOpen, IsAppendable}
use Rattle.edit_log.specs.Second.{front_of}
use Rattle.entry_codec.specs.Format.{body_of}
use Rattle.entry_codec.specs.declared.format.LogFormat.TheVariants.{New}
use Rattle.edit_log.proofs.Appending.{shut_holds, append_holds, small_end, appended}
use Rattle.edit_log.proofs.log.EditLog.append.Goals as goal

pub returns-in_default-clause-any_moment : goal.returns-in_default-clause-any_moment
returns-in_default-clause-any_moment g c rows row appendable opened =
    let parts = c.as_slice-bytes.ensures ∙ appendable.parts in
    let log = subst (λ v. IsOpen (g.D.Disk.state c.args.disk.now) v rows) (sym c.self.view_is) opened in
    let small = small_end c.body_says_length.ensures rows appendable.before in
    shut_holds _ _ rows row appendable.before (c.in_default.ensures.any_moment (front_of rows) (body_of New row) parts small log.images)

pub returns-in_default-clause-pending : goal.returns-in_default-clause-pending
returns-in_default-clause-pending g c rows row appendable opened =
    let parts = c.as_slice-bytes.ensures ∙ appendable.parts in
    let log = subst (λ v. IsOpen (g.D.Disk.state c.args.disk.now) v rows) (sym c.self.view_is) opened in
    let small = small_end c.body_says_length.ensures rows appendable.before in
    record {
      images = c.in_default.ensures.shut (front_of rows) (body_of New row) parts small log.images;
      busy = refl;
    }

pub returns-in_default-open_gate-clause-any_moment : goal.returns-in_default-open_gate-clause-any_moment
returns-in_default-open_gate-clause-any_moment g c rows row appendable opened =
    let parts = c.as_slice-bytes.ensures ∙ appendable.parts in
    let log = subst (λ v. IsOpen (g.D.Disk.state c.args.disk.now) v rows) (sym c.self.view_is) opened in
    let small = small_end c.body_says_length.ensures rows appendable.before in
    append_holds _ _ _ rows row appendable.before appendable.next
    (c.in-Ok.ensures.any_moment (front_of rows) (body_of New row) parts small log.images)
    (c.in_default-open_gate.ensures.any_moment (front_of rows) (body_of New row) (c.in-Ok.ensures.staged (front_of rows) (body_of New row) parts small log.images))

pub returns-in_default-open_gate-clause-pending : goal.returns-in_default-open_gate-clause-pending
returns-in_default-open_gate-clause-pending g c rows row appendable opened =
    let parts = c.as_slice-bytes.ensures ∙ appendable.parts in
    let log = subst (λ v. IsOpen (g.D.Disk.state c.args.disk.now) v rows) (sym c.self.view_is) opened in
    let small = small_end c.body_says_length.ensures rows appendable.before in
    record {
      images = c.in_default-open_gate.ensures.ajar (front_of rows) (body_of New row) (c.in-Ok.ensures.staged (front_of rows) (body_of New row) parts small log.images);
      busy = refl;
    }

pub returns-clause-any_moment : goal.returns-clause-any_moment
returns-clause-any_moment g c rows row appendable opened =
    let parts = c.as_slice-bytes.ensures ∙ appendable.parts in
    let log = subst (λ v. IsOpen (g.D.Disk.state c.args.disk.now) v rows) (sym c.self.view_is) opened in
    let small = small_end c.body_says_length.ensures rows appendable.before in
    append_holds _ _ _ rows row appendable.before appendable.next
    (c.in-Ok.ensures.any_moment (front_of rows) (body_of New row) parts small log.images)
    (c.in-Ok-open_gate.ensures.any_moment (front_of rows) (body_of New row) (c.in-Ok.ensures.staged (front_of rows) (body_of New row) parts small log.images))

pub returns-clause-done : goal.returns-clause-done
returns-clause-done g c rows row appendable opened =
    let parts = c.as_slice-bytes.ensures ∙ appendable.parts in
    let log = subst (λ v. IsOpen (g.D.Disk.state c.args.disk.now) v rows) (sym c.self.view_is) opened in
    let small = small_end c.body_says_length.ensures rows appendable.before in
    let images = c.in-Ok-open_gate.ensures.opened (front_of rows) (body_of New row) (c.in-Ok.ensures.staged (front_of rows) (body_of New row) parts small log.images) in
    let bytes = subst (IsAppendable rows row) (sym c.as_slice-bytes.ensures) appendable in
    record {
      idle = log.idle;
      images = appended _ _ _ rows row c.as_slice-bytes.result.now c.body_says_length.ensures bytes log.images.at_end c.saturating_add-self-inside.ensures images;
    }

pub returns-in_default-open_gate-clause-others : goal.returns-in_default-open_gate-clause-others
returns-in_default-open_gate-clause-others g c =
    then_others (is_same area.Second) _ _ _ (g.met.D.Disk.is_disk c.stage.new.disk) c.in-Ok.ensures.others c.in_default-open_gate.ensures.others

pub returns-clause-others : goal.returns-clause-others
returns-clause-others g c =
    then_others (is_same area.Second) _ _ _ (g.met.D.Disk.is_disk c.stage.new.disk) c.in-Ok.ensures.others c.in-Ok-open_gate.ensures.others
