use Rattle.std.proofs.Common.{◌∙◌, ◌+◌, ap}
use Rattle.doc_table.proofs.Counted.{siblings_counted}
use Rattle.doc_table.specs.DocumentRows.{documents_in}
use Rattle.doc_table.specs.inside.Kept.{unboxed}
use Rattle.std.specs.Prelude.{count_by}
use Rattle.world_rules.specs.World.{is_child_of}
use Rattle.doc_table.proofs.table.DocTable.next_number.Goals as goal

pub returns-clause-number : goal.returns-clause-number
returns-clause-number g c front is =
    ap (λ n. n + 1) (c.count_of.ensures ∙ siblings_counted front c.args.first.now (documents_in (unboxed c.self.inside.rows.items)) c.self.inside.counts c.self.invariant.2 is ∙ ap (λ rows. count_by (is_child_of front) (documents_in rows)) c.self.view_is)
