use Rattle.std.proofs.Common.{map}
use Rattle.febe_data.specs.Plain.{plain_spec}
use Rattle.entry_fits.proofs.Decided.{link_decided}
use Rattle.entry_fits.proofs.changes.link_fits.Goals as goal

pub returns : goal.returns
returns g c view stands =
    link_decided view.world c.args.home.now c.args.number c.args.place (map plain_spec c.args.from.now) (map plain_spec c.args.to.now) (map plain_spec c.args.three.now) c.in_ok-fits.fits c.in_ok-is_linked.field-0
    (c.in_ok-is_linked.ensures view stands) c.if-not-branch.false (c.in_ok-fits.ensures view stands)
