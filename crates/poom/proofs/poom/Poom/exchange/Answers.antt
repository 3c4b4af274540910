use Rattle.std.proofs.Common.{ℕ, List, subst}
use Rattle.enfilade_core.specs.Rows.{Shape}
use Rattle.enfilade_core.specs.Exchange.{Grows}
use Rattle.poom.proofs.Exchanges.{end_fits, called, root_after}
use Rattle.poom.proofs.Roots.{grows_back}
use Rattle.poom.proofs.poom.Poom.exchange.Goals as goal

pub lay-requires-clause-fits : goal.lay-requires-clause-fits
lay-requires-clause-fits c = end_fits c.args.part _ c.args.pieces.now c.args.from c.args.to c.requires.borders c.requires.fits

pub exchange-requires-clause-well_formed : goal.exchange-requires-clause-well_formed
exchange-requires-clause-well_formed c =
    (called c.args.part c.args.self.now c.self.inside.arena c.args.root.0 c.args.pieces.now c.args.from c.args.to c.in_ok-laid.laid.end _ _ _ c.in_ok-laid.laid.rows.items c.requires.document c.requires.borders c.requires.pieces c.requires.fits c.in_ok-laid.ensures.end c.self.view_is c.position.ensures c.position-2.ensures c.position-3.ensures c.in_ok-laid.ensures.rows).well_formed

pub returns-in_default-clause-grows : goal.returns-in_default-clause-grows
returns-in_default-clause-grows c =
    subst (λ (nodes : List (Shape ℕ)). Grows nodes c.truncate.new.self) c.self.view_is
    (grows_back c.self.inside.arena c.exchange.new.self c.truncate.new.self c.mark-mark.result c.exchange.ensures.grows c.mark-mark.ensures c.truncate.ensures)

pub returns-clause-document : goal.returns-clause-document
returns-clause-document c =
    root_after c.args.part c.exchange.new.self _ c.args.pieces.now c.args.from c.args.to c.in-Ok.made.root.0 c.in-Ok.ensures.below
    ((called c.args.part c.args.self.now c.self.inside.arena c.args.root.0 c.args.pieces.now c.args.from c.args.to c.in_ok-laid.laid.end _ _ _ c.in_ok-laid.laid.rows.items c.requires.document c.requires.borders c.requires.pieces c.requires.fits c.in_ok-laid.ensures.end c.self.view_is c.position.ensures c.position-2.ensures c.position-3.ensures c.in_ok-laid.ensures.rows).gives _ c.in-Ok.ensures.rows)

pub returns-clause-here : goal.returns-clause-here
returns-clause-here c =
    ((called c.args.part c.args.self.now c.self.inside.arena c.args.root.0 c.args.pieces.now c.args.from c.args.to c.in_ok-laid.laid.end _ _ _ c.in_ok-laid.laid.rows.items c.requires.document c.requires.borders c.requires.pieces c.requires.fits c.in_ok-laid.ensures.end c.self.view_is c.position.ensures c.position-2.ensures c.position-3.ensures c.in_ok-laid.ensures.rows).gives _ c.in-Ok.ensures.rows).here

pub returns-clause-there : goal.returns-clause-there
returns-clause-there c =
    ((called c.args.part c.args.self.now c.self.inside.arena c.args.root.0 c.args.pieces.now c.args.from c.args.to c.in_ok-laid.laid.end _ _ _ c.in_ok-laid.laid.rows.items c.requires.document c.requires.borders c.requires.pieces c.requires.fits c.in_ok-laid.ensures.end c.self.view_is c.position.ensures c.position-2.ensures c.position-3.ensures c.in_ok-laid.ensures.rows).gives _ c.in-Ok.ensures.rows).there
