use Rattle.std.proofs.Common.{ap, sym, subst}
use Rattle.std.proofs.lemmas.List.Elements.{All-nil}
use Rattle.granfilade.specs.Content.{laid_out}
use Rattle.granfilade.specs.Puts.{IsLeaf, IsContent}
use Rattle.granfilade.proofs.TreeRows.{rows-empty}
use Rattle.granfilade.proofs.granfilade.Granfilade.new.Goals as goal

pub returns-clause-bytes : goal.returns-clause-bytes
returns-clause-bytes c = ap laid_out (rows-empty c.new-arena.result c.empty.new.self c.in_ok-root.root.0 c.new-arena.ensures c.in_ok-root.ensures.ok c.in_ok-root.ensures.made)

pub returns-clause-rows : goal.returns-clause-rows
returns-clause-rows c =
    subst IsContent (sym (rows-empty c.new-arena.result c.empty.new.self c.in_ok-root.root.0 c.new-arena.ensures c.in_ok-root.ensures.ok c.in_ok-root.ensures.made)) (record { leaves = All-nil IsLeaf; apart = tt })
