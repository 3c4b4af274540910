use Rattle.std.proofs.Common.{◌∙◌, All, ap, sym, subst}
use Rattle.enfilade_core.specs.Rows.{rows_of}
use Rattle.poom.specs.Edited.{IsContentRun, run_addresses}
use Rattle.poom.specs.Laid.{texts}
use Rattle.poom_compare.proofs.Laying.{runs_fit, rows_had, text_fits}
use Rattle.poom_compare.proofs.placing.place.Goals as goal

pub push_runs-requires : goal.push_runs-requires
push_runs-requires c = record {
  each = c.requires.each;
  contents = subst (All IsContentRun) (sym c.as_slice.ensures) c.in_ok-runs.ensures.content;
  from_one = c.requires.interval.from_one;
  fits =
      runs_fit c.args.interval c.span_of-span.result (texts (rows_of c.args.poom.now c.args.root.0)) c.as_slice.result.now c.requires.interval c.span_of-span.ensures.value (text_fits c.args.poom.now c.args.root.0 c.requires.root)
      (ap run_addresses c.as_slice.ensures ∙ c.in_ok-runs.ensures.bytes);
}

pub returns : goal.returns
returns c = record {
  each = c.in_ok-push_runs.ensures.each;
  rows =
      rows_had c.args.interval c.span_of-span.result (texts (rows_of c.args.poom.now c.args.root.0)) c.as_slice.result.now c.args.placed.now.items c.push_runs.new.placed.items c.requires.interval c.span_of-span.ensures.value
      (ap run_addresses c.as_slice.ensures ∙ c.in_ok-runs.ensures.bytes) c.in_ok-push_runs.ensures.rows;
}
