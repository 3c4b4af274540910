use Rattle.std.proofs.Common.{ℕ, List, ◌<◌, length, ◌∙◌, sym, subst}
use Rattle.enfilade_core.specs.Rows.{Shape}
use Rattle.enfilade_core.specs.Planes.{text_widths}
use Rattle.enfilade_search.proofs.Children.{root_fits}
use Rattle.granfilade.specs.Content.{content}
use Rattle.tree_world.proofs.TextRead.{root_pieces, text_read}
use Rattle.tree_world.proofs.text_reading.text_between.Goals as goal

pub append_node-requires-clause-fits : goal.append_node-requires-clause-fits
append_node-requires-clause-fits c =
    root_fits text_widths c.arena-arena.result.now c.args.root.0 c.zero-zero.result c.allocator-well_formed.ensures.well_formed (subst (λ (nodes : List (Shape ℕ)). c.args.root.0 < length nodes) (sym c.arena-arena.ensures) c.requires.root.there) c.zero-zero.ensures

pub append_node-requires-clause-pieces : goal.append_node-requires-clause-pieces
append_node-requires-clause-pieces c = root_pieces c.args.pooms.now c.arena-arena.result.now c.args.root.0 c.zero-zero.result c.arena-arena.ensures c.zero-zero.ensures c.requires.root

pub returns : goal.returns
returns c =
    text_read (content c.args.contents.now) c.args.from c.args.to c.args.pooms.now c.arena-arena.result.now c.args.root.0 c.zero-zero.result _ c.append_node.new.into.items c.arena-arena.ensures c.zero-zero.ensures c.requires.root c.requires.from_one c.requires.order
    (c.reserve.ensures.items ∙ c.new-text.ensures.items) c.in_ok-append_node.ensures
