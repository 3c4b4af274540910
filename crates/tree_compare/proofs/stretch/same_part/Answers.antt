use Rattle.tree_compare.proofs.Parts.{part-differs, part-same}
use Rattle.tree_compare.proofs.stretch.same_part.Goals as goal

pub returns-then-not-meet : goal.returns-then-not-meet
returns-then-not-meet c =
    part-differs c.args.one.now.start c.args.other.now.start c.args.one.now.bytes.now c.args.other.now.bytes.now c.args.behind c.args.further c.args.count c.meet.result c.requires.some c.requires.here c.requires.there c.meet.ensures c.if-not-meet.true

pub returns : goal.returns
returns c =
    part-same c.args.one.now.start c.args.other.now.start c.args.one.now.bytes.now c.args.other.now.bytes.now c.args.behind c.args.further c.args.count c.meet.result c.eq.result c.requires.one.placed c.requires.other.placed c.meet.ensures c.if-not-meet.false c.eq.ensures
