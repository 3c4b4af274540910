use Rattle.std.proofs.Common.{map}
use Rattle.febe_data.specs.Plain.{plain_spec}
use Rattle.entry_fits.proofs.Decided.{copy_decided}
use Rattle.entry_fits.proofs.changes.copy_fits.Goals as goal

pub returns : goal.returns
returns g c view stands =
    copy_decided view.world c.args.document.now c.args.at (map plain_spec c.args.specs.now) c.text_length-length.result c.in_ok-picked.picked c.has_positions.result c.has_document.result
    (c.has_document.ensures view stands) c.if-not-has_document.false (c.text_length-length.ensures view stands) (c.is_place.ensures.0 c.if-not-is_place.false) ((c.specs_fit.ensures view stands).0 c.if-not-specs_fit.false)
    ((c.in_ok-are_few_runs.ensures view stands).0 c.if-not-branch.false) (c.in_ok-picked.ensures view stands) c.has_positions.ensures
