use Rattle.std.proofs.Common.{◌∙◌, sym, ap}
use Rattle.links.specs.LinkLists.{plain_link, link_in}
use Rattle.tree_world.specs.Trees.{Trees}
use Rattle.tree_world.specs.inside.Reads.{reads_in, link_if}
use Rattle.tree_world.proofs.MayRead.{link_hidden, link_shown}
use Rattle.tree_world.proofs.world.TreeWorld.link_for.Goals as goal

pub returns-in_default : goal.returns-in_default
returns-in_default c = ap (link_if (reads_in c.args.self.now c.args.account.now)) (c.in_default.ensures ∙ ap (λ (t : Trees). link_in t.links.links c.args.id.now) c.self.view_is)

pub returns-then-not-may_read : goal.returns-then-not-may_read
returns-then-not-may_read c =
    link_hidden (reads_in c.args.self.now c.args.account.now) (link_in c.args.self.now.links.links c.args.id.now) (plain_link c.in-Some.link.now) (c.in-Some.ensures ∙ ap (λ (t : Trees). link_in t.links.links c.args.id.now) c.self.view_is) (sym c.may_read.ensures ∙ c.if-not-may_read.true)

pub returns : goal.returns
returns c =
    link_shown (reads_in c.args.self.now c.args.account.now) (link_in c.args.self.now.links.links c.args.id.now) (plain_link c.in-Some.link.now) (c.in-Some.ensures ∙ ap (λ (t : Trees). link_in t.links.links c.args.id.now) c.self.view_is) (sym c.may_read.ensures ∙ c.if-not-may_read.false)
