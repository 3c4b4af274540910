use Rattle.std.proofs.Common.{ap, ◌∙◌}
use Rattle.enfilade_core.specs.Rows.{rows_of}
use Rattle.granfilade.specs.Content.{ContentTree, laid_out}
use Rattle.granfilade.proofs.TreeRows.{rows-kept}
use Rattle.granfilade.proofs.granfilade.Granfilade.back.Goals as goal

pub returns-clause-bytes : goal.returns-clause-bytes
returns-clause-bytes c =
    ap laid_out
    (rows-kept c.self.inside.arena c.truncate.new.self c.args.mark.now.count c.args.mark.now.root.0 c.truncate.ensures c.requires.below ∙ ap (λ (t : ContentTree). rows_of t.nodes c.args.mark.now.root.0) c.self.view_is)

pub returns-clause-rows : goal.returns-clause-rows
returns-clause-rows c =
    rows-kept c.self.inside.arena c.truncate.new.self c.args.mark.now.count c.args.mark.now.root.0 c.truncate.ensures c.requires.below ∙ ap (λ (t : ContentTree). rows_of t.nodes c.args.mark.now.root.0) c.self.view_is
