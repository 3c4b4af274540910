use Rattle.page_chains.specs.Reading.{plain_chains}
use Rattle.green_flush.proofs.Opening.{unsound}
use Rattle.green_flush.proofs.loading.sound_trees.Goals as goal

pub returns-then-not-branch : goal.returns-then-not-branch
returns-then-not-branch c =
    unsound (plain_chains c.args.header.now.chains.items) c.args.header.now.position c.in_ok-read.field-0 c.in-Some.read c.of-trees.result c.in_ok-are_sound.field-0
    c.in_ok-read.ensures c.in-Some.is c.of-trees.ensures.nodes c.in_ok-are_sound.ensures c.if-not-branch.true
