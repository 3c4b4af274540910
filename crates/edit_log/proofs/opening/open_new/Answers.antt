-- The log is read behind the gate of the second area, and its end gate is closed behind what was read.
use Rattle.std.proofs.Common.{◌≡◌, ◌+◌, ℕ, List, drop, refl, sym, ◌∙◌, ap, subst}
use Rattle.entry_codec.specs.Logged.{plain_log}
use Rattle.entry_codec.specs.declared.format.LogFormat.TheVariants.{New}
use Rattle.green_io.specs.declared.disk.Area.TheVariants as area
use Rattle.green_io.specs.Areas.{is_logged}
use Rattle.green_io.specs.Disk.{WhereTold}
use Rattle.green_io.proofs.Beside.{looked_others, then_others, area_others}
use Rattle.edit_log.specs.Log.{IsEnd, HasEntries}
use Rattle.edit_log.specs.Second.{HoldsWhole, front_of}
use Rattle.edit_log.specs.inside.Scan.{HasScanned}
use Rattle.edit_log.proofs.Opens.{told_read, found_new, found_images, found_reads, closing_holds, closed_reads, damaged_new}
use Rattle.edit_log.proofs.opening.open_new.Goals as goal

pub returns-in-Damaged-clause-damaged : goal.returns-in-Damaged-clause-damaged
returns-in-Damaged-clause-damaged g c =
    let bytes = c.as_slice-bytes.result.now in
    let log = c.split_at.result.1.now in
    let scanned = subst (HasScanned New log) c.in-Damaged.is c.in-Ok.ensures in
    let read = subst (λ (l : List ℕ). WhereTold (g.D.Disk.state c.args.disk.now).reads (λ areas. l ≡ areas.second)) (sym c.as_slice-bytes.ensures) c.in_ok-bytes.ensures.bytes in
    damaged_new (g.D.Disk.state c.args.disk.now).reads bytes log c.in-Damaged.at read c.requires.opened (c.split_at.ensures.back ∙ ap (λ (k : ℕ). drop k c.as_slice-bytes.result.now) c.min.ensures) scanned.1

pub returns-in_err-close_end-clause-any_moment : goal.returns-in_err-close_end-clause-any_moment
returns-in_err-close_end-clause-any_moment g c whole_rows whole =
    let bytes = c.as_slice-bytes.result.now in
    let log = c.split_at.result.1.now in
    let rows = plain_log c.in-Ends.rows.items in
    let end = c.split_at-2.result.1.now in
    let scanned = subst (HasScanned New log) c.in-Ends.is c.in-Ok.ensures in
    let has = subst (λ (l : List ℕ). HasEntries New rows l log) (sym c.split_at-2.ensures.back) scanned.2 in
    let ends = subst IsEnd (sym c.split_at-2.ensures.back) scanned.3 in
    let read = subst (λ (l : List ℕ). WhereTold (g.D.Disk.state c.args.disk.now).reads (λ areas. l ≡ areas.second)) (sym c.as_slice-bytes.ensures) c.in_ok-bytes.ensures.bytes in
    let found = found_new (g.D.Disk.state c.args.disk.now).reads bytes log end c.in-Ends.at rows read c.requires.opened (c.split_at.ensures.back ∙ ap (λ (k : ℕ). drop k c.as_slice-bytes.result.now) c.min.ensures) scanned.1 has ends in
    let images = found_images (g.D.Disk.state c.args.disk.now) (g.D.Disk.state c.read_area.new.disk) (c.in-Ends.at + 1) rows end (g.met.D.Disk.is_disk c.read_area.new.disk) c.read_area.ensures.reads c.read_area.ensures.crash c.requires.stable found (told_read (g.D.Disk.state c.args.disk.now).reads (HoldsWhole whole_rows) whole) in
    closing_holds c.one_body.ensures c.body_says_length.ensures (g.D.Disk.state c.args.disk.now) (g.D.Disk.state c.read_area.new.disk) _ (c.in-Ends.at + 1) whole_rows rows end c.read_area.ensures.crash whole found (c.close_end.ensures.any_moment (front_of rows) images)

pub returns-clause-any_moment : goal.returns-clause-any_moment
returns-clause-any_moment g c whole_rows whole =
    let bytes = c.as_slice-bytes.result.now in
    let log = c.split_at.result.1.now in
    let rows = plain_log c.in-Ends.rows.items in
    let end = c.split_at-2.result.1.now in
    let scanned = subst (HasScanned New log) c.in-Ends.is c.in-Ok.ensures in
    let has = subst (λ (l : List ℕ). HasEntries New rows l log) (sym c.split_at-2.ensures.back) scanned.2 in
    let ends = subst IsEnd (sym c.split_at-2.ensures.back) scanned.3 in
    let read = subst (λ (l : List ℕ). WhereTold (g.D.Disk.state c.args.disk.now).reads (λ areas. l ≡ areas.second)) (sym c.as_slice-bytes.ensures) c.in_ok-bytes.ensures.bytes in
    let found = found_new (g.D.Disk.state c.args.disk.now).reads bytes log end c.in-Ends.at rows read c.requires.opened (c.split_at.ensures.back ∙ ap (λ (k : ℕ). drop k c.as_slice-bytes.result.now) c.min.ensures) scanned.1 has ends in
    let images = found_images (g.D.Disk.state c.args.disk.now) (g.D.Disk.state c.read_area.new.disk) (c.in-Ends.at + 1) rows end (g.met.D.Disk.is_disk c.read_area.new.disk) c.read_area.ensures.reads c.read_area.ensures.crash c.requires.stable found (told_read (g.D.Disk.state c.args.disk.now).reads (HoldsWhole whole_rows) whole) in
    closing_holds c.one_body.ensures c.body_says_length.ensures (g.D.Disk.state c.args.disk.now) (g.D.Disk.state c.read_area.new.disk) _ (c.in-Ends.at + 1) whole_rows rows end c.read_area.ensures.crash whole found (c.close_end.ensures.any_moment (front_of rows) images)

pub returns-clause-entries : goal.returns-clause-entries
returns-clause-entries g c =
    let bytes = c.as_slice-bytes.result.now in
    let log = c.split_at.result.1.now in
    let rows = plain_log c.in-Ends.rows.items in
    let end = c.split_at-2.result.1.now in
    let scanned = subst (HasScanned New log) c.in-Ends.is c.in-Ok.ensures in
    let has = subst (λ (l : List ℕ). HasEntries New rows l log) (sym c.split_at-2.ensures.back) scanned.2 in
    let ends = subst IsEnd (sym c.split_at-2.ensures.back) scanned.3 in
    let read = subst (λ (l : List ℕ). WhereTold (g.D.Disk.state c.args.disk.now).reads (λ areas. l ≡ areas.second)) (sym c.as_slice-bytes.ensures) c.in_ok-bytes.ensures.bytes in
    let found = found_new (g.D.Disk.state c.args.disk.now).reads bytes log end c.in-Ends.at rows read c.requires.opened (c.split_at.ensures.back ∙ ap (λ (k : ℕ). drop k c.as_slice-bytes.result.now) c.min.ensures) scanned.1 has ends in
    found_reads (g.D.Disk.state c.args.disk.now).reads (c.in-Ends.at + 1) rows end found

pub returns-clause-stands : goal.returns-clause-stands
returns-clause-stands g c told =
    let bytes = c.as_slice-bytes.result.now in
    let log = c.split_at.result.1.now in
    let rows = plain_log c.in-Ends.rows.items in
    let end = c.split_at-2.result.1.now in
    let scanned = subst (HasScanned New log) c.in-Ends.is c.in-Ok.ensures in
    let has = subst (λ (l : List ℕ). HasEntries New rows l log) (sym c.split_at-2.ensures.back) scanned.2 in
    let ends = subst IsEnd (sym c.split_at-2.ensures.back) scanned.3 in
    let read = subst (λ (l : List ℕ). WhereTold (g.D.Disk.state c.args.disk.now).reads (λ areas. l ≡ areas.second)) (sym c.as_slice-bytes.ensures) c.in_ok-bytes.ensures.bytes in
    let found = found_new (g.D.Disk.state c.args.disk.now).reads bytes log end c.in-Ends.at rows read c.requires.opened (c.split_at.ensures.back ∙ ap (λ (k : ℕ). drop k c.as_slice-bytes.result.now) c.min.ensures) scanned.1 has ends in
    let images = found_images (g.D.Disk.state c.args.disk.now) (g.D.Disk.state c.read_area.new.disk) (c.in-Ends.at + 1) rows end (g.met.D.Disk.is_disk c.read_area.new.disk) c.read_area.ensures.reads c.read_area.ensures.crash c.requires.stable found told in
    record { idle = refl; images = c.in_ok-close_end.ensures.closed (front_of rows) images }

pub returns-clause-moved : goal.returns-clause-moved
returns-clause-moved g c =
    let bytes = c.as_slice-bytes.result.now in
    let log = c.split_at.result.1.now in
    let rows = plain_log c.in-Ends.rows.items in
    let end = c.split_at-2.result.1.now in
    let scanned = subst (HasScanned New log) c.in-Ends.is c.in-Ok.ensures in
    let has = subst (λ (l : List ℕ). HasEntries New rows l log) (sym c.split_at-2.ensures.back) scanned.2 in
    let ends = subst IsEnd (sym c.split_at-2.ensures.back) scanned.3 in
    let read = subst (λ (l : List ℕ). WhereTold (g.D.Disk.state c.args.disk.now).reads (λ areas. l ≡ areas.second)) (sym c.as_slice-bytes.ensures) c.in_ok-bytes.ensures.bytes in
    let found = found_new (g.D.Disk.state c.args.disk.now).reads bytes log end c.in-Ends.at rows read c.requires.opened (c.split_at.ensures.back ∙ ap (λ (k : ℕ). drop k c.as_slice-bytes.result.now) c.min.ensures) scanned.1 has ends in
    closed_reads (g.D.Disk.state c.args.disk.now).reads (g.D.Disk.state c.read_area.new.disk).reads _ (c.in-Ends.at + 1) rows end c.read_area.ensures.reads found (c.in_ok-close_end.ensures.reads (front_of rows) found.at_end)

pub returns-in_err-close_end-clause-others : goal.returns-in_err-close_end-clause-others
returns-in_err-close_end-clause-others g c =
    then_others is_logged _ (g.D.Disk.state c.read_area.new.disk) _ (g.met.D.Disk.is_disk c.read_area.new.disk)
    (looked_others is_logged _ _ c.read_area.ensures.reads c.read_area.ensures.crash)
    (area_others area.Second is_logged _ _ refl c.close_end.ensures.others)

pub returns-clause-others : goal.returns-clause-others
returns-clause-others g c =
    then_others is_logged _ (g.D.Disk.state c.read_area.new.disk) _ (g.met.D.Disk.is_disk c.read_area.new.disk)
    (looked_others is_logged _ _ c.read_area.ensures.reads c.read_area.ensures.crash)
    (area_others area.Second is_logged _ _ refl c.close_end.ensures.others)
