-- The area is closed up to the last step, which opens it.
use Rattle.std.proofs.Common.{inl, [], ◌∷◌, ◌++◌}
use Rattle.entry_codec.specs.Logged.{plain_log}
use Rattle.entry_codec.specs.declared.format.LogFormat.TheVariants.{New}
use Rattle.green_io.specs.declared.disk.Area.TheVariants as area
use Rattle.green_io.specs.Areas.{is_same}
use Rattle.green_io.proofs.Beside.{then_others}
use Rattle.green_io.proofs.Crash.{same}
use Rattle.edit_log.specs.Log.{gated, IsEnd}
use Rattle.edit_log.specs.Second.{front_of}
use Rattle.edit_log.specs.inside.Ends.{IsThat}
use Rattle.edit_log.specs.inside.Migration.{BeginsShut, IsClosedOr, Beside}
use Rattle.edit_log.proofs.Answering.{on_no_memory}
use Rattle.edit_log.proofs.Fronts.{shut_end, that_shut}
use Rattle.edit_log.proofs.SecondSteps.{images_weaker, leaves_weaker, kept_beside}
use Rattle.edit_log.proofs.migrating.migrate.Goals as goal

pub returns-in_err-shut_front-clause-any_moment : goal.returns-in_err-shut_front-clause-any_moment
returns-in_err-shut_front-clause-any_moment g c log second ends images =
    let opened = front_of (plain_log c.args.rows.now) ++ (0 ∷ []) in
    leaves_weaker _ _ log IsEnd (IsClosedOr opened) (c.shut_front.ensures.any_moment log second ends images) (λ x has. inl has)

pub returns-in_err-cut_rest-clause-any_moment : goal.returns-in_err-cut_rest-clause-any_moment
returns-in_err-cut_rest-clause-any_moment g c log second ends images =
    let opened = front_of (plain_log c.args.rows.now) ++ (0 ∷ []) in
    let shut = c.in_ok-shut_front.ensures.shut log second ends images in
    same _ (g.D.Disk.state c.shut_front.new.disk) _ (Beside log (IsClosedOr opened))
    (leaves_weaker _ _ log IsEnd (IsClosedOr opened) (c.shut_front.ensures.any_moment log second ends images) (λ x has. inl has))
    (leaves_weaker _ _ log BeginsShut (IsClosedOr opened) (c.cut_rest.ensures.any_moment log shut) (λ x has. inl (shut_end x has)))

pub returns-in_err-cut_rest-clause-others : goal.returns-in_err-cut_rest-clause-others
returns-in_err-cut_rest-clause-others g c =
    then_others (is_same area.Second) _ _ _ (g.met.D.Disk.is_disk c.shut_front.new.disk) c.shut_front.ensures.others c.cut_rest.ensures.others

pub returns-in_err-end-clause-any_moment : goal.returns-in_err-end-clause-any_moment
returns-in_err-end-clause-any_moment g c log second ends images =
    let opened = front_of (plain_log c.args.rows.now) ++ (0 ∷ []) in
    let shut = c.in_ok-shut_front.ensures.shut log second ends images in
    let cut = c.in_ok-cut_rest.ensures.cut log shut in
    same _ (g.D.Disk.state c.cut_rest.new.disk) _ (Beside log (IsClosedOr opened))
    (same _ (g.D.Disk.state c.shut_front.new.disk) _ (Beside log (IsClosedOr opened))
    (leaves_weaker _ _ log IsEnd (IsClosedOr opened) (c.shut_front.ensures.any_moment log second ends images) (λ x has. inl has))
    (leaves_weaker _ _ log BeginsShut (IsClosedOr opened) (c.cut_rest.ensures.any_moment log shut) (λ x has. inl (shut_end x has))))
    (leaves_weaker _ _ log BeginsShut (IsClosedOr opened) (c.write_log.ensures.any_moment log cut) (λ x has. inl (shut_end x has)))

pub returns-in_err-end-clause-closed : goal.returns-in_err-end-clause-closed
returns-in_err-end-clause-closed g c log second ends images =
    let shut = c.in_ok-shut_front.ensures.shut log second ends images in
    let cut = c.in_ok-cut_rest.ensures.cut log shut in
    on_no_memory _ _
    (images_weaker _ log BeginsShut IsEnd
    (kept_beside _ _ log (IsThat (0 ∷ [])) BeginsShut (g.met.D.Disk.is_disk c.write_log.new.disk) cut c.write_log.ensures.others (c.write_log.ensures.any_moment log cut) (that_shut []))
    shut_end)

pub returns-in_err-end-clause-others : goal.returns-in_err-end-clause-others
returns-in_err-end-clause-others g c =
    then_others (is_same area.Second) _ _ _ (g.met.D.Disk.is_disk c.cut_rest.new.disk) (then_others (is_same area.Second) _ _ _ (g.met.D.Disk.is_disk c.shut_front.new.disk) c.shut_front.ensures.others c.cut_rest.ensures.others) c.write_log.ensures.others

pub returns-in_err-open_front-clause-any_moment : goal.returns-in_err-open_front-clause-any_moment
returns-in_err-open_front-clause-any_moment g c log second ends images =
    let opened = front_of (plain_log c.args.rows.now) ++ (0 ∷ []) in
    let shut = c.in_ok-shut_front.ensures.shut log second ends images in
    let cut = c.in_ok-cut_rest.ensures.cut log shut in
    let written = c.in_ok-end.ensures.written log cut in
    same _ (g.D.Disk.state c.write_log.new.disk) _ (Beside log (IsClosedOr opened))
    (same _ (g.D.Disk.state c.cut_rest.new.disk) _ (Beside log (IsClosedOr opened))
    (same _ (g.D.Disk.state c.shut_front.new.disk) _ (Beside log (IsClosedOr opened))
    (leaves_weaker _ _ log IsEnd (IsClosedOr opened) (c.shut_front.ensures.any_moment log second ends images) (λ x has. inl has))
    (leaves_weaker _ _ log BeginsShut (IsClosedOr opened) (c.cut_rest.ensures.any_moment log shut) (λ x has. inl (shut_end x has))))
    (leaves_weaker _ _ log BeginsShut (IsClosedOr opened) (c.write_log.ensures.any_moment log cut) (λ x has. inl (shut_end x has))))
    (c.open_front.ensures.any_moment log (gated New (plain_log c.args.rows.now) ++ (0 ∷ [])) written)

pub returns-in_err-open_front-clause-others : goal.returns-in_err-open_front-clause-others
returns-in_err-open_front-clause-others g c =
    then_others (is_same area.Second) _ _ _ (g.met.D.Disk.is_disk c.write_log.new.disk) (then_others (is_same area.Second) _ _ _ (g.met.D.Disk.is_disk c.cut_rest.new.disk) (then_others (is_same area.Second) _ _ _ (g.met.D.Disk.is_disk c.shut_front.new.disk) c.shut_front.ensures.others c.cut_rest.ensures.others) c.write_log.ensures.others) c.open_front.ensures.others

pub returns-clause-any_moment : goal.returns-clause-any_moment
returns-clause-any_moment g c log second ends images =
    let opened = front_of (plain_log c.args.rows.now) ++ (0 ∷ []) in
    let shut = c.in_ok-shut_front.ensures.shut log second ends images in
    let cut = c.in_ok-cut_rest.ensures.cut log shut in
    let written = c.in_ok-end.ensures.written log cut in
    same _ (g.D.Disk.state c.write_log.new.disk) _ (Beside log (IsClosedOr opened))
    (same _ (g.D.Disk.state c.cut_rest.new.disk) _ (Beside log (IsClosedOr opened))
    (same _ (g.D.Disk.state c.shut_front.new.disk) _ (Beside log (IsClosedOr opened))
    (leaves_weaker _ _ log IsEnd (IsClosedOr opened) (c.shut_front.ensures.any_moment log second ends images) (λ x has. inl has))
    (leaves_weaker _ _ log BeginsShut (IsClosedOr opened) (c.cut_rest.ensures.any_moment log shut) (λ x has. inl (shut_end x has))))
    (leaves_weaker _ _ log BeginsShut (IsClosedOr opened) (c.write_log.ensures.any_moment log cut) (λ x has. inl (shut_end x has))))
    (c.open_front.ensures.any_moment log (gated New (plain_log c.args.rows.now) ++ (0 ∷ [])) written)

pub returns-clause-moved : goal.returns-clause-moved
returns-clause-moved g c log second ends images =
    let shut = c.in_ok-shut_front.ensures.shut log second ends images in
    let cut = c.in_ok-cut_rest.ensures.cut log shut in
    let written = c.in_ok-end.ensures.written log cut in
    c.in_ok-open_front.ensures.opened log (gated New (plain_log c.args.rows.now) ++ (0 ∷ [])) written

pub returns-clause-others : goal.returns-clause-others
returns-clause-others g c =
    then_others (is_same area.Second) _ _ _ (g.met.D.Disk.is_disk c.write_log.new.disk) (then_others (is_same area.Second) _ _ _ (g.met.D.Disk.is_disk c.cut_rest.new.disk) (then_others (is_same area.Second) _ _ _ (g.met.D.Disk.is_disk c.shut_front.new.disk) c.shut_front.ensures.others c.cut_rest.ensures.others) c.write_log.ensures.others) c.open_front.ensures.others
