use Rattle.std.proofs.Common.{sym, subst}
use Rattle.febe_data.specs.Plain.{plain_entry}
use Rattle.entry_fits.specs.Greatest.{AreSerialsOf}
use Rattle.entry_fits.proofs.Greatest.{not_above, above}
use Rattle.entry_fits.proofs.serials.Serials.add.Goals as goal

pub returns-then-entry-greatest-clause-added : goal.returns-then-entry-greatest-clause-added
returns-then-entry-greatest-clause-added c past are =
    not_above past (plain_entry c.args.entry.now) c.greatest-greatest.result c.args.self.now (c.greatest-greatest.ensures past are) c.if-entry-greatest.true are

pub returns-clause-added : goal.returns-clause-added
returns-clause-added c past are =
    above past (plain_entry c.args.entry.now) c.greatest-greatest.result c.self.inside.held.entries c.insert.new.self.entries (c.greatest-greatest.ensures past are) c.if-entry-greatest.false
    (subst (AreSerialsOf past) (sym c.self.view_is) are)
    c.in_ok-insert.ensures.updates.0
