use Rattle.page_chains.specs.Reading.{plain_chains}
use Rattle.page_trees.proofs.Held.{none-spelled, none-rooted, trees-found}
use Rattle.page_trees.proofs.reading.trees_in.Goals as goal

pub returns-in_default : goal.returns-in_default
returns-in_default c = none-spelled (plain_chains c.args.header.now.chains.items) c.args.header.now.position c.in_ok-trees.field-0 c.in_default.is c.in_ok-trees.ensures

pub returns-then-not-have_roots : goal.returns-then-not-have_roots
returns-then-not-have_roots c =
    none-rooted (plain_chains c.args.header.now.chains.items) c.args.header.now.position c.in_ok-trees.field-0 c.in-Some.trees c.have_roots.result c.in-Some.is c.in_ok-trees.ensures c.have_roots.ensures c.if-not-have_roots.true

pub returns : goal.returns
returns c =
    trees-found (plain_chains c.args.header.now.chains.items) c.args.header.now.position c.in_ok-trees.field-0 c.in-Some.trees c.have_roots.result c.in-Some.is c.in_ok-trees.ensures c.have_roots.ensures c.if-not-have_roots.false
