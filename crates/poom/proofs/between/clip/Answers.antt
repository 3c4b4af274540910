use Rattle.std.proofs.Common.{refl}
use Rattle.poom.specs.Laid.{part_number}
use Rattle.poom.proofs.Betweens.{clip_is, clipped_piece}
use Rattle.poom.proofs.between.clip.Goals as goal

pub returns-clause-clipped : goal.returns-clause-clipped
returns-clause-clipped c = clip_is (part_number c.args.part) c.args.from c.args.to c.saturating_sub-before.result c.min.result c.places.result.now c.piece_of-piece.result.document c.args.row.now c.piece_of-piece.result c.places.ensures.value c.piece_of-piece.ensures c.saturating_sub-before.ensures refl c.min.ensures

pub returns-clause-piece : goal.returns-clause-piece
returns-clause-piece c = clipped_piece (part_number c.args.part) c.args.from c.args.to c.args.row.now _ c.requires (clip_is (part_number c.args.part) c.args.from c.args.to c.saturating_sub-before.result c.min.result c.places.result.now c.piece_of-piece.result.document c.args.row.now c.piece_of-piece.result c.places.ensures.value c.piece_of-piece.ensures c.saturating_sub-before.ensures refl c.min.ensures)
