use Rattle.std.proofs.Common.{sym}
use Rattle.poom_compare.proofs.Found.{whole_found}
use Rattle.poom_compare.proofs.starts.starts.Goals as goal

pub returns : goal.returns
returns c =
    whole_found c.args.lefts.now c.args.rights.now c.in_ok-lefts.lefts.items c.in_ok-rights.rights.items c.in_ok-lefts.ensures.moved c.in_ok-rights.ensures.moved c.requires.left c.requires.right c.in_ok-found.found
    (rw (sym c.as_slice.ensures.value, sym c.as_slice-2.ensures.value) c.in_ok-found.ensures)
