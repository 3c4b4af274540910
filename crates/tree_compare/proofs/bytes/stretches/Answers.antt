use Rattle.std.proofs.Common.{ℕ, ◌<◌, List, length, ◌∙◌, sym, subst}
use Rattle.tumbler.specs.ListView.{ListView}
use Rattle.enfilade_core.specs.Rows.{Shape}
use Rattle.tree_compare.proofs.Lent.{fits-whole, whole-told, none-each}
use Rattle.tree_compare.proofs.bytes.stretches.Goals as goal

pub push_below-requires : goal.push_below-requires
push_below-requires c =
    fits-whole c.parts.result.0.now c.parts.result.1.0 c.zero-zero.result c.allocator.ensures.well_formed (subst (λ (nodes : List (Shape (ListView ℕ))). c.parts.result.1.0 < length nodes) (sym c.parts.ensures.arena) c.parts.ensures.below)
    c.zero-zero.ensures

pub returns-clause-laid : goal.returns-clause-laid
returns-clause-laid c =
    whole-told c.args.tree.now c.parts.result.0.now c.parts.result.1.0 c.zero-zero.result c.reserve.new.self.items c.push_below.new.into.items c.parts.ensures.arena c.parts.ensures.root c.zero-zero.ensures (c.in_ok-reserve.ensures.items ∙ c.new-made.ensures.items)
    c.in_ok-push_below.ensures.laid

pub returns-clause-each : goal.returns-clause-each
returns-clause-each c = c.in_ok-push_below.ensures.each (none-each c.reserve.new.self.items (c.in_ok-reserve.ensures.items ∙ c.new-made.ensures.items))
