use Rattle.std.proofs.Common.{◌≡◌, ◌∙◌, ℕ, List, map, ap}
use Rattle.std.specs.List.{filter}
use Rattle.std.proofs.lemmas.Result.{IfOk-weaker}
use Rattle.tumbler.specs.ListView.{ListView}
use Rattle.tumbler.specs.declared.span.Span.{Span}
use Rattle.enfilade_core.specs.declared.tree.Row.{Row}
use Rattle.enfilade_core.specs.declared.tree.Node.{Node}
use Rattle.enfilade_core.specs.Rows.{Shape, rows_of}
use Rattle.spanfilade.specs.Keys.{is_met}
use Rattle.links.specs.Finding.{spans_met}
use Rattle.links.specs.inside.Pairs.{pair_of, span_of_pair, pairs_of}
use Rattle.links.proofs.OrderedSpans.{spans_are}
use Rattle.links.proofs.links.Links.spans_of_end.Goals as goal

pub returns : goal.returns
returns c =
    let tree = c.index.result.now in
    IfOk-weaker c.spans_in_order.result (λ (made : ListView Span). made.items ≡ map span_of_pair (pairs_of (map pair_of c.as_slice.result.now))) (λ (made : ListView Span). made.items ≡ spans_met c.args.end c.args.meeting.now c.args.self.now.links)
    (λ made is.
    is ∙ ap (λ (rows : List (Row (List ℕ))). map span_of_pair (pairs_of (map pair_of rows))) c.as_slice.ensures
    ∙ spans_are c.args.end c.args.meeting.now c.args.self.now.links tree c.in_ok-rows.rows.items c.index.ensures.holds
    (c.in_ok-rows.ensures ∙ ap (λ (nodes : List (Shape (List ℕ))). filter (is_met c.args.meeting.now) (rows_of nodes c.parts.result.1.0)) c.parts.ensures.arena
    ∙ ap (λ (root : Node). filter (is_met c.args.meeting.now) (rows_of tree.nodes root.0)) c.parts.ensures.root))
    c.spans_in_order.ensures
