use Rattle.std.proofs.Common.{◌≡◌, ℕ, ◌++◌, List, ap, ◌∙◌, subst}
use Rattle.std.specs.Prelude.{OnOk}
use Rattle.enfilade_core.specs.Rows.{rows_of}
use Rattle.enfilade_core.specs.Laws.{rows_from}
use Rattle.enfilade_core.specs.Planes.{content_widths}
use Rattle.enfilade_core.proofs.Seen.{rows-not_moved}
use Rattle.enfilade_search.proofs.Children.{root_fits}
use Rattle.granfilade.specs.Content.{ContentTree, content, laid_out, bytes_in}
use Rattle.granfilade.proofs.granfilade.Granfilade.bytes_of.Goals as goal

pub append_node-requires-clause-fits : goal.append_node-requires-clause-fits
append_node-requires-clause-fits c = root_fits content_widths c.self.inside.arena c.self.inside.root.0 c.zero-zero.result c.allocator-alloc.ensures.well_formed c.self.invariant c.zero-zero.ensures

pub returns-clause-ok : goal.returns-clause-ok
returns-clause-ok c =
    let span = c.args.span.now in
    let nodes = c.self.inside.arena in
    let root = c.self.inside.root.0 in
    subst (λ (bs : List ℕ). OnOk c.append_node.result (c.append_node.new.into.items ≡ c.args.into.now.items ++ bs))
    (ap (λ (zero : List ℕ). bytes_in span (laid_out (rows_from nodes root zero zero))) c.zero-zero.ensures
    ∙ ap (λ rows. bytes_in span (laid_out rows)) (rows-not_moved (rows_of nodes root))
    ∙ ap (λ (t : ContentTree). bytes_in span (content t)) c.self.view_is)
    c.append_node.ensures.ok
