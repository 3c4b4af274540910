use Rattle.std.proofs.Common.{◌∙◌, ◌++◌, ◌∷◌, [], ap}
use Rattle.tree_world.proofs.Marked.{marked_more}
use Rattle.tree_world.proofs.marking.add_mark.Goals as goal

pub returns-then-allows-clause-marked : goal.returns-then-allows-clause-marked
returns-then-allows-clause-marked c allows =
    marked_more c.args.due.now.items c.push_reserved.new.self.items c.args.document.now (c.push_reserved.ensures.items ∙ ap (λ mark. c.args.due.now.items ++ mark ∷ []) c.copy.ensures)
