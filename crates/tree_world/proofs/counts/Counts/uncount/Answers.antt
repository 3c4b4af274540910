use Rattle.std.proofs.Common.{◌∙◌, ◌-◌, ap, refl}
use Rattle.tree_world.proofs.Counted.{counted_less, none_less, here_if_counted}
use Rattle.tree_world.proofs.counts.Counts.uncount.Goals as goal

pub returns-then-entries-eq0 : goal.returns-then-entries-eq0
returns-then-entries-eq0 c = λ rows stand. absurd (none_less c.args.session c.get-entries.result c.args.self.now rows c.get-entries.ensures c.if-entries-eq0.true stand)

pub unreachable-requires : goal.unreachable-requires
unreachable-requires c = here_if_counted c.args.session c.self.inside.held c.args.self.now c.self.view_is (λ none. c.if-entries-eq0.false (c.get-entries.ensures ∙ none)) c.in_default.ensures.absent

pub returns : goal.returns
returns c = counted_less c.args.session _ c.self.inside.held c.insert.new.self c.args.self.now _ c.self.view_is refl c.in-Ok.ensures.updates.0 (ap (λ n. n - 1) c.get-entries.ensures)
