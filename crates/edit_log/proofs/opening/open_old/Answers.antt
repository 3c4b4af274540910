-- The log of before is read, and moves into the second area while every image has it as it was read.
use Rattle.std.proofs.Common.{◌≡◌, ◌≤◌, ℕ, List, [], ◌∷◌, ◌++◌, length, drop, Err, refl, sym, ◌∙◌, ap, subst, arith}
use Rattle.std.proofs.lemmas.List.{length-map}
use Rattle.std.proofs.lemmas.Result.{err_from_is_err_and}
use Rattle.std.specs.List.{AllByRecursion}
use Rattle.entry_codec.specs.Bodies.{HasBody}
use Rattle.entry_codec.specs.Logged.{plain_logged, plain_log}
use Rattle.entry_codec.specs.declared.format.LogFormat.TheVariants.{Old, New}
use Rattle.entry_codec.specs.declared.logged.Logged.{Logged}
use Rattle.green_io.specs.declared.disk.Area.TheVariants as area
use Rattle.green_io.specs.Areas.{is_logged}
use Rattle.green_io.specs.Disk.{LeavesOnly, WhereTold}
use Rattle.green_io.proofs.Beside.{looked_others, then_others, area_others}
use Rattle.edit_log.specs.Log.{most_entries}
use Rattle.edit_log.specs.Second.{HoldsWhole, front_of}
use Rattle.edit_log.specs.inside.Ends.{IsThat}
use Rattle.edit_log.specs.inside.Migration.{IsClosedOr, Beside, ImagesHave}
use Rattle.edit_log.specs.inside.Scan.{HasScanned}
use Rattle.edit_log.proofs.Opens.{told_areas, told_read, closed_images, all_new, old_reads, damaged_old, moving_holds, moved_images, moved_reads, memory_found}
use Rattle.edit_log.proofs.opening.open_old.Goals as goal

pub migrate-requires : goal.migrate-requires
migrate-requires g c =
    let bytes = c.as_slice-bytes.result.now in
    let rows = plain_log c.in-Ends.rows.items in
    let end = drop c.in-Ends.at bytes in
    let found = subst (HasScanned Old bytes) c.in-Ends.is c.in-Ok.ensures in
    record {
      spelled = subst (λ l. AllByRecursion (HasBody New) (plain_log l)) (sym c.as_slice-moving.ensures) (all_new c.old_has_new.ensures rows found.2.spelled);
      few = few_rows c.as_slice-moving.result.now c.in-Ends.rows.items c.as_slice-moving.ensures found.2.few;
    }
  where
    few_rows : (moving rows : List Logged) → moving ≡ rows → length (plain_log rows) ≤ most_entries → length moving ≤ most_entries
    few_rows moving rows is few = omega (arith, ap length is, length-map rows plain_logged, few)

pub returns-in-Damaged-clause-damaged : goal.returns-in-Damaged-clause-damaged
returns-in-Damaged-clause-damaged g c =
    let bytes = c.as_slice-bytes.result.now in
    let found = subst (HasScanned Old bytes) c.in-Damaged.is c.in-Ok.ensures in
    let read = subst (λ (l : List ℕ). WhereTold (g.D.Disk.state c.args.disk.now).reads (λ areas. l ≡ areas.log)) (sym c.as_slice-bytes.ensures) c.in_ok-bytes.ensures.bytes in
    damaged_old (g.D.Disk.state c.args.disk.now).reads bytes c.in-Damaged.at read c.requires.closed found.1

pub returns-in_err-end-clause-any_moment : goal.returns-in_err-end-clause-any_moment
returns-in_err-end-clause-any_moment g c whole_rows whole =
    let bytes = c.as_slice-bytes.result.now in
    let rows = plain_log c.in-Ends.rows.items in
    let end = drop c.in-Ends.at bytes in
    let found = subst (HasScanned Old bytes) c.in-Ends.is c.in-Ok.ensures in
    let read = subst (λ (l : List ℕ). WhereTold (g.D.Disk.state c.args.disk.now).reads (λ areas. l ≡ areas.log)) (sym c.as_slice-bytes.ensures) c.in_ok-bytes.ensures.bytes in
    let told = told_areas (g.D.Disk.state c.args.disk.now).reads (told_read (g.D.Disk.state c.args.disk.now).reads (HoldsWhole whole_rows) whole) in
    let closed = closed_images (g.D.Disk.state c.args.disk.now) (g.D.Disk.state c.read_area.new.disk) (g.met.D.Disk.is_disk c.read_area.new.disk) c.read_area.ensures.reads c.read_area.ensures.crash c.requires.log c.requires.second c.requires.closed told.0 told.1 in
    let leaves = subst (λ l. LeavesOnly (g.D.Disk.state c.read_area.new.disk) (g.D.Disk.state c.migrate.new.disk) (Beside told.0.log (IsClosedOr (front_of (plain_log l) ++ (0 ∷ []))))) c.as_slice-moving.ensures (c.migrate.ensures.any_moment told.0.log told.0.second closed.ends closed.images) in
    moving_holds c.one_body.ensures c.body_says_length.ensures c.old_has_new.ensures (g.D.Disk.state c.args.disk.now) (g.D.Disk.state c.read_area.new.disk) (g.D.Disk.state c.migrate.new.disk) told.0 bytes end whole_rows rows told.1 closed.ends c.read_area.ensures.crash whole read found.2 found.3 leaves

pub returns-in_err-end-clause-found : goal.returns-in_err-end-clause-found
returns-in_err-end-clause-found g c =
    let fault = err_from_is_err_and c.from_residual-in_err-end.result c.from_residual-in_err-end.ensures.1 in
    memory_found c.migrate.result c.from_residual-in_err-end.result c.in_err-end.field-0.0 (g.D.Disk.state c.args.disk.now) (g.D.Disk.state c.read_area.new.disk) (g.D.Disk.state c.migrate.new.disk) c.in_err-end.was (fault.1 ∙ ap Err fault.2) (g.met.D.Disk.is_disk c.migrate.new.disk) c.read_area.ensures.reads c.migrate.ensures.others
    (λ areas is. (closed_images (g.D.Disk.state c.args.disk.now) (g.D.Disk.state c.read_area.new.disk) (g.met.D.Disk.is_disk c.read_area.new.disk) c.read_area.ensures.reads c.read_area.ensures.crash c.requires.log c.requires.second c.requires.closed areas is).ends)
    (λ areas is.
    let closed = closed_images (g.D.Disk.state c.args.disk.now) (g.D.Disk.state c.read_area.new.disk) (g.met.D.Disk.is_disk c.read_area.new.disk) c.read_area.ensures.reads c.read_area.ensures.crash c.requires.log c.requires.second c.requires.closed areas is in
    c.migrate.ensures.closed areas.log areas.second closed.ends closed.images)

pub returns-in_err-end-clause-others : goal.returns-in_err-end-clause-others
returns-in_err-end-clause-others g c =
    then_others is_logged _ (g.D.Disk.state c.read_area.new.disk) _ (g.met.D.Disk.is_disk c.read_area.new.disk)
    (looked_others is_logged _ _ c.read_area.ensures.reads c.read_area.ensures.crash)
    (area_others area.Second is_logged _ _ refl c.migrate.ensures.others)

pub returns-clause-any_moment : goal.returns-clause-any_moment
returns-clause-any_moment g c whole_rows whole =
    let bytes = c.as_slice-bytes.result.now in
    let rows = plain_log c.in-Ends.rows.items in
    let end = drop c.in-Ends.at bytes in
    let found = subst (HasScanned Old bytes) c.in-Ends.is c.in-Ok.ensures in
    let read = subst (λ (l : List ℕ). WhereTold (g.D.Disk.state c.args.disk.now).reads (λ areas. l ≡ areas.log)) (sym c.as_slice-bytes.ensures) c.in_ok-bytes.ensures.bytes in
    let told = told_areas (g.D.Disk.state c.args.disk.now).reads (told_read (g.D.Disk.state c.args.disk.now).reads (HoldsWhole whole_rows) whole) in
    let closed = closed_images (g.D.Disk.state c.args.disk.now) (g.D.Disk.state c.read_area.new.disk) (g.met.D.Disk.is_disk c.read_area.new.disk) c.read_area.ensures.reads c.read_area.ensures.crash c.requires.log c.requires.second c.requires.closed told.0 told.1 in
    let leaves = subst (λ l. LeavesOnly (g.D.Disk.state c.read_area.new.disk) (g.D.Disk.state c.migrate.new.disk) (Beside told.0.log (IsClosedOr (front_of (plain_log l) ++ (0 ∷ []))))) c.as_slice-moving.ensures (c.migrate.ensures.any_moment told.0.log told.0.second closed.ends closed.images) in
    moving_holds c.one_body.ensures c.body_says_length.ensures c.old_has_new.ensures (g.D.Disk.state c.args.disk.now) (g.D.Disk.state c.read_area.new.disk) (g.D.Disk.state c.migrate.new.disk) told.0 bytes end whole_rows rows told.1 closed.ends c.read_area.ensures.crash whole read found.2 found.3 leaves

pub returns-clause-entries : goal.returns-clause-entries
returns-clause-entries g c =
    let bytes = c.as_slice-bytes.result.now in
    let rows = plain_log c.in-Ends.rows.items in
    let end = drop c.in-Ends.at bytes in
    let found = subst (HasScanned Old bytes) c.in-Ends.is c.in-Ok.ensures in
    let read = subst (λ (l : List ℕ). WhereTold (g.D.Disk.state c.args.disk.now).reads (λ areas. l ≡ areas.log)) (sym c.as_slice-bytes.ensures) c.in_ok-bytes.ensures.bytes in
    old_reads (g.D.Disk.state c.args.disk.now).reads bytes end rows read c.requires.closed found.2 found.3

pub returns-clause-stands : goal.returns-clause-stands
returns-clause-stands g c told =
    let rows = plain_log c.in-Ends.rows.items in
    let areas = told_areas (g.D.Disk.state c.args.disk.now).reads told in
    let closed = closed_images (g.D.Disk.state c.args.disk.now) (g.D.Disk.state c.read_area.new.disk) (g.met.D.Disk.is_disk c.read_area.new.disk) c.read_area.ensures.reads c.read_area.ensures.crash c.requires.log c.requires.second c.requires.closed areas.0 areas.1 in
    let moved = subst (λ l. ImagesHave (g.D.Disk.state c.migrate.new.disk) (Beside areas.0.log (IsThat (front_of (plain_log l) ++ (0 ∷ []))))) c.as_slice-moving.ensures (c.in_ok-end.ensures.moved areas.0.log areas.0.second closed.ends closed.images) in
    let ends = subst (λ l. c.in_ok-end.end ≡ length (front_of (plain_log l))) c.as_slice-moving.ensures c.in_ok-end.ensures.ends in
    record { idle = refl; images = moved_images (g.D.Disk.state c.migrate.new.disk) areas.0.log c.in_ok-end.end rows ends moved }

pub returns-clause-moved : goal.returns-clause-moved
returns-clause-moved g c =
    moved_reads (g.D.Disk.state c.args.disk.now) (g.D.Disk.state c.read_area.new.disk) (g.D.Disk.state c.migrate.new.disk) (plain_log c.in-Ends.rows.items) (g.met.D.Disk.is_disk c.migrate.new.disk) c.read_area.ensures.reads c.migrate.ensures.others
    (λ areas is.
    let closed = closed_images (g.D.Disk.state c.args.disk.now) (g.D.Disk.state c.read_area.new.disk) (g.met.D.Disk.is_disk c.read_area.new.disk) c.read_area.ensures.reads c.read_area.ensures.crash c.requires.log c.requires.second c.requires.closed areas is in
    subst (λ l. ImagesHave (g.D.Disk.state c.migrate.new.disk) (Beside areas.log (IsThat (front_of (plain_log l) ++ (0 ∷ []))))) c.as_slice-moving.ensures (c.in_ok-end.ensures.moved areas.log areas.second closed.ends closed.images))

pub returns-clause-others : goal.returns-clause-others
returns-clause-others g c =
    then_others is_logged _ (g.D.Disk.state c.read_area.new.disk) _ (g.met.D.Disk.is_disk c.read_area.new.disk)
    (looked_others is_logged _ _ c.read_area.ensures.reads c.read_area.ensures.crash)
    (area_others area.Second is_logged _ _ refl c.migrate.ensures.others)
