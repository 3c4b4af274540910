use Rattle.std.proofs.Common.{◌≡◌, ◌∙◌, List, map, ap}
use Rattle.enfilade_core.specs.Rows.{rows_of}
use Rattle.poom.specs.Laid.{texts}
use Rattle.poom_compare.specs.Placed.{rows_laid}
use Rattle.poom_compare.specs.Shared.{rows_picked}
use Rattle.world_rules.specs.declared.rows.Row.{Row}
use Rattle.tree_world.specs.Trees.{Trees}
use Rattle.tree_world.specs.inside.InEnds.{span_between, has_row_in_end}
use Rattle.tree_world.specs.inside.Reads.{links_for}
use Rattle.tree_world.proofs.InEnds.{spans_are_in_end}
use Rattle.tree_world.proofs.world.TreeWorld.spans_in_end.Goals as goal

pub returns : goal.returns
returns c =
    let shown = c.args.self.now in
    let links = links_for shown c.args.account.now in
    let rows : rows_laid c.as_slice.result.now ≡ rows_picked c.args.spans.now (texts (rows_of shown.nodes c.args.root.0)) =
    ap rows_laid c.as_slice.ensures.value ∙ c.in_ok-placed.ensures.rows ∙ ap (λ (t : Trees). rows_picked c.args.spans.now (texts (rows_of t.nodes c.args.root.0))) c.self.view_is
    in
    c.in_ok-made.ensures
    ∙ ap (map span_between) c.as_slice-2.ensures.value
    ∙ spans_are_in_end c.args.end links c.args.spans.now (texts (rows_of shown.nodes c.args.root.0)) 1073741824 c.in_ok-fewest.fewest.items c.in_ok-fewest.ensures.each c.in_ok-fewest.ensures.apart
    (λ n. c.in_ok-fewest.ensures.same n ∙ c.in_ok-all.ensures.same n ∙ ap (λ (some : List Row). has_row_in_end c.args.end links some n) rows)
