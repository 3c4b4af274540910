-- Each entry is written behind those before it.
use Rattle.std.proofs.Common.{ℕ, List, take, ap, refl, sym, subst, arith}
use Rattle.entry_codec.specs.Logged.{plain_log}
use Rattle.entry_codec.specs.declared.format.LogFormat.TheVariants.{New}
use Rattle.green_io.specs.declared.disk.Area.TheVariants as area
use Rattle.green_io.specs.Areas.{is_same}
use Rattle.green_io.proofs.Beside.{untouched_others, then_others}
use Rattle.green_io.proofs.Crash.{none_called, same}
use Rattle.edit_log.specs.Log.{gated}
use Rattle.edit_log.specs.inside.Migration.{BeginsShut, Beside, IsWriting}
use Rattle.edit_log.proofs.Fronts.{behind_gate}
use Rattle.edit_log.proofs.Rows.{row_has, rows_all, bytes_more, end_more, end_fits}
use Rattle.edit_log.proofs.SecondSteps.{kept_beside}
use Rattle.edit_log.proofs.migrating.write_rows.Goals as goal

pub loop-row-init : goal.loop-row-init
loop-row-init g c = record {
  at_end = refl;
  leaves = λ log images. none_called (g.D.Disk.state c.args.disk.now) (Beside log BeginsShut);
  written = λ log writing. writing;
  others = untouched_others (is_same area.Second) (g.D.Disk.state c.args.disk.now);
  faults = omega arith;
}

pub write_row-requires : goal.write_row-requires
write_row-requires g c = row_has c.args.rows.now c.loop-row.row-index c.row-item.result c.loop-row-test.true c.row-item.is c.requires.spelled

pub overflow_add-at : goal.overflow_add-at
overflow_add-at g c =
    let fits = end_fits c.body_says_length.ensures c.args.rows.now c.loop-row.row-index c.loop-row.at c.in_ok-count.count c.row-item.result c.requires.spelled c.requires.few c.loop-row-test.true c.row-item.is c.loop-row.invariant.at_end c.in_ok-count.ensures.count in
    omega (arith, fits)

pub loop-row-preserved : goal.loop-row-preserved
loop-row-preserved g c =
    let rows = c.args.rows.now in
    let i = c.loop-row.row-index in
    let before = gated New (plain_log (take i rows)) in
    let inv = c.loop-row.invariant in
    record {
      at_end = end_more rows i c.loop-row.at c.in_ok-count.count c.row-item.result c.loop-row-test.true c.row-item.is inv.at_end c.in_ok-count.ensures.count;
      leaves = λ log images.
          let here = kept_beside _ _ log BeginsShut BeginsShut (g.met.D.Disk.is_disk c.loop-row.disk) images inv.others (inv.leaves log images) (λ x has. has) in
          same _ (g.D.Disk.state c.loop-row.disk) _ (Beside log BeginsShut) (inv.leaves log images) (c.write_row.ensures.any_moment log (behind_gate c.loop-row.at before inv.at_end) here);
      written = λ log writing.
          subst (λ (l : List ℕ). IsWriting (g.D.Disk.state c.write_row.new.disk) log l) (sym (bytes_more rows i c.row-item.result c.loop-row-test.true c.row-item.is))
          (c.in_ok-count.ensures.written log before inv.at_end (inv.written log writing));
      others = then_others (is_same area.Second) _ _ _ (g.met.D.Disk.is_disk c.loop-row.disk) inv.others c.write_row.ensures.others;
      faults = omega (arith, inv.faults, c.write_row.ensures.never_falls);
    }

pub returns-in_err-count-clause-any_moment : goal.returns-in_err-count-clause-any_moment
returns-in_err-count-clause-any_moment g c log images =
    let before = gated New (plain_log (take c.loop-row.row-index c.args.rows.now)) in
    let inv = c.loop-row.invariant in
    let here = kept_beside _ _ log BeginsShut BeginsShut (g.met.D.Disk.is_disk c.loop-row.disk) images inv.others (inv.leaves log images) (λ x has. has) in
    same _ (g.D.Disk.state c.loop-row.disk) _ (Beside log BeginsShut) (inv.leaves log images) (c.write_row.ensures.any_moment log (behind_gate c.loop-row.at before inv.at_end) here)

pub returns-in_err-count-clause-others : goal.returns-in_err-count-clause-others
returns-in_err-count-clause-others g c =
    then_others (is_same area.Second) _ _ _ (g.met.D.Disk.is_disk c.loop-row.disk) c.loop-row.invariant.others c.write_row.ensures.others

pub returns-clause-written : goal.returns-clause-written
returns-clause-written g c log writing =
    subst (λ (l : List ℕ). IsWriting (g.D.Disk.state c.loop-row.disk) log l)
    (ap (gated New) (rows_all c.args.rows.now c.loop-row.row-index c.loop-row-test.false))
    (c.loop-row.invariant.written log writing)
