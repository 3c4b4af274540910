use Rattle.poom.proofs.look.piece_of.Goals as goal

pub unreachable-requires : goal.unreachable-requires
unreachable-requires c = c.in_default.ensures.none c.requires.0 c.requires.1
