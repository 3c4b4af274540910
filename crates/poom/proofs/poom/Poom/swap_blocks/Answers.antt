use Rattle.enfilade_core.specs.Rows.{rows_of}
use Rattle.poom.specs.Laid.{texts}
use Rattle.poom.proofs.Swaps.{swapped_room}
use Rattle.poom.proofs.poom.Poom.swap_blocks.Goals as goal

pub put-requires-clause-fits : goal.put-requires-clause-fits
put-requires-clause-fits c =
    swapped_room c.args.first c.args.second c.args.third c.args.fourth (texts (rows_of c.args.self.now c.args.root.0)) c.in_ok-pieces.pieces.items c.in_ok-middle.middle.items c.in_ok-front.front.items c.push_pieces.new.pieces.items c.push_pieces-2.new.pieces.items
    c.as_slice.result.now c.as_slice-2.result.now c.as_slice-3.result.now c.in_ok-pieces.ensures.laid c.in_ok-middle.ensures.laid c.in_ok-push_pieces.ensures.laid c.in_ok-front.ensures.laid c.in_ok-push_pieces-2.ensures.laid
    c.as_slice.ensures c.as_slice-2.ensures c.as_slice-3.ensures c.requires.from_one c.requires.before c.requires.between c.requires.behind c.requires.to_end c.requires.root.document.text_fits
