use Rattle.std.proofs.Common.{◌≡◌, ◌∙◌, ℕ, List, map, ap, sym, subst}
use Rattle.std.specs.List.{filter}
use Rattle.std.proofs.lemmas.Result.{IfOk-weaker}
use Rattle.tumbler.specs.ListView.{ListView}
use Rattle.tumbler.specs.declared.span.Span.{Span}
use Rattle.enfilade_core.specs.declared.tree.Row.{Row}
use Rattle.enfilade_core.specs.declared.tree.Node.{Node}
use Rattle.enfilade_core.specs.Rows.{Shape, rows_of}
use Rattle.spanfilade.specs.Keys.{is_met}
use Rattle.world_rules.specs.World.{LinkRow}
use Rattle.world_rules.specs.Readers.{reads_by}
use Rattle.links.specs.Finding.{spans_met}
use Rattle.links.specs.Readable.{links_read}
use Rattle.links.specs.inside.Pairs.{pair_of, span_of_pair, pairs_of}
use Rattle.links.specs.inside.Read.{rows_read}
use Rattle.links.specs.inside.Kept.{IsAscending}
use Rattle.links.specs.LinkLists.{ids_in}
use Rattle.links.proofs.ReadLinks.{spans_are_read}
use Rattle.links.proofs.links.Links.spans_of_end_for.Goals as goal

pub returns : goal.returns
returns g c =
    let may = reads_by (g.R.Readers.publishes c.args.readers.now) c.args.account.now in
    let tree = c.index.result.now in
    let links = c.args.self.now.links in
    IfOk-weaker c.spans_read.result (λ (made : ListView Span). made.items ≡ map span_of_pair (pairs_of (map pair_of (rows_read may c.self.inside.table c.as_slice.result.now))))
    (λ (made : ListView Span). made.items ≡ spans_met c.args.end c.args.meeting.now (links_read may links))
    (λ made is.
    is
    ∙ ap (λ (all : List LinkRow). map span_of_pair (pairs_of (map pair_of (rows_read may all c.as_slice.result.now)))) (ap (λ lists. lists.links) c.self.view_is)
    ∙ ap (λ (rows : List (Row (List ℕ))). map span_of_pair (pairs_of (map pair_of (rows_read may links rows)))) c.as_slice.ensures
    ∙ spans_are_read may links c.args.end c.args.meeting.now tree c.in_ok-rows.rows.items (subst (λ (all : List LinkRow). IsAscending (ids_in all)) (ap (λ lists. lists.links) c.self.view_is) c.ids_ascend.ensures) c.index.ensures.holds
    (c.in_ok-rows.ensures ∙ ap (λ (nodes : List (Shape (List ℕ))). filter (is_met c.args.meeting.now) (rows_of nodes c.parts.result.1.0)) c.parts.ensures.arena
    ∙ ap (λ (root : Node). filter (is_met c.args.meeting.now) (rows_of tree.nodes root.0)) c.parts.ensures.root))
    c.spans_read.ensures
