use Rattle.poom.proofs.Inserts.{link_made, laid_read}
use Rattle.poom.proofs.edits.link_piece.Goals as goal

pub unreachable-requires : goal.unreachable-requires
unreachable-requires c = c.in_default.ensures.none c.requires.home (link_made c.args.link.now c.requires)

pub returns-clause-laid : goal.returns-clause-laid
returns-clause-laid c = laid_read c.args.link.now c.places-places.result.now c.in-Some.document c.places-places.ensures.value c.requires c.in-Some.ensures.found c.is_tumbler.ensures
