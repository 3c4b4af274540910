use Rattle.access_table.proofs.Ending.{nothing_open, others_open}
use Rattle.access_table.proofs.openings.Openings.first_open.Goals as goal

pub returns-in_default-clause-none : goal.returns-in_default-clause-none
returns-in_default-clause-none c =
    nothing_open c.args.session c.zero.result c.self.inside.opened c.args.self.now c.range.result c.zero.ensures c.self.view_is (c.range.ensures.in_range tt) c.in_default.ensures.steps.0

pub returns-else-holder-session-clause-none : goal.returns-else-holder-session-clause-none
returns-else-holder-session-clause-none c =
    others_open c.args.session c.zero.result c.self.inside.opened c.args.self.now c.range.result c.zero.ensures c.self.view_is (c.range.ensures.in_range tt) (c.in-Some.field-0-0.now, c.in-Some.field-0-1.now) c.next.new.self c.in-Some.ensures.steps
    c.if-holder-session.false
