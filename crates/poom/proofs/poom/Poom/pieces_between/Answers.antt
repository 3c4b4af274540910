use Rattle.poom.proofs.Betweens.{found_in, found_laid}
use Rattle.poom.proofs.poom.Poom.pieces_between.Goals as goal

pub returns-clause-laid : goal.returns-clause-laid
returns-clause-laid c =
    found_laid c.args.part c.args.self.now c.args.root.0 c.args.from c.args.to c.as_slice.result.now c.in_ok-made.made.items
    (found_in c.args.part c.args.self.now c.self.inside.arena c.args.root.0 c.args.from c.args.to _ c.in_ok-rows.rows.items c.as_slice.result.now c.requires.document c.requires.from_one c.requires.order c.if-to-from.false c.position.ensures c.width.ensures c.self.view_is c.in_ok-rows.ensures c.as_slice.ensures)
    c.in_ok-made.ensures.laid

pub clips-requires : goal.clips-requires
clips-requires c =
    (found_in c.args.part c.args.self.now c.self.inside.arena c.args.root.0 c.args.from c.args.to _ c.in_ok-rows.rows.items c.as_slice.result.now c.requires.document c.requires.from_one c.requires.order c.if-to-from.false c.position.ensures c.width.ensures c.self.view_is c.in_ok-rows.ensures c.as_slice.ensures).each
