use Rattle.std.proofs.Common.{map}
use Rattle.febe_data.specs.Plain.{plain_spec}
use Rattle.entry_fits.proofs.Decided.{ends_decided}
use Rattle.entry_fits.proofs.changes.ends_fit.Goals as goal

pub returns : goal.returns
returns g c view stands =
    ends_decided view.world (map plain_spec c.args.from.now) (map plain_spec c.args.to.now) (map plain_spec c.args.three.now) c.in_ok-few.few ((c.specs_fit.ensures view stands).0 c.if-not-specs_fit.false)
    ((c.specs_fit-2.ensures view stands).0 c.if-not-specs_fit-2.false) ((c.specs_fit-3.ensures view stands).0 c.if-not-specs_fit-3.false) (c.in_ok-few.ensures view stands)
