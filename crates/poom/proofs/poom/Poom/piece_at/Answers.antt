use Rattle.std.proofs.Common.{◌≡◌}
use Rattle.tumbler.specs.Places.{place}
use Rattle.poom.specs.Laid.{part_number}
use Rattle.poom.proofs.Looks.{here_of}
use Rattle.poom.proofs.poom.Poom.piece_at.Goals as goal

pub piece_of-requires : goal.piece_of-requires
piece_of-requires c =
    let own : place c.args.first.now 0 ≡ part_number c.args.part = cc in
    (here_of c.args.part c.args.n c.args.self.now c.args.root.0 c.args.first.now c.args.second.now c.args.count c.requires.document c.requires.last own).made
