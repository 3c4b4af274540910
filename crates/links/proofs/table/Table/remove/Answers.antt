use Rattle.std.proofs.Common.{◌∙◌, ap, subst}
use Rattle.std.specs.declared.boxed.Box.{Box}
use Rattle.links.specs.declared.row.LinkRow as kept
use Rattle.links.specs.inside.Kept.{unboxed, IsAt}
use Rattle.links.proofs.Changed.{remove_holds, remove_shows, none_removed}
use Rattle.links.proofs.table.Table.remove.Goals as goal

pub invariant_of-self : goal.invariant_of-self
invariant_of-self c =
    remove_holds c.args.id.now c.self.inside.links.items c.in-Some.at c.self.invariant.1 (subst (λ xs. IsAt c.args.id.now xs c.in-Some.at) c.as_slice.ensures.value c.in-Some.ensures.found) c.remove-link.result c.remove-link.new.self.items c.copy.result
    c.self.inside.homes c.count_down.new.counts c.remove-link.ensures.items
    (c.copy.ensures ∙ ap (λ (link : kept.LinkRow). link.home) (c.deref.ensures ∙ ap (λ (boxed : Box kept.LinkRow _). boxed.value) c.remove-link.ensures.value)) c.self.invariant c.count_down.ensures

pub returns-in_default : goal.returns-in_default
returns-in_default c = none_removed c.args.self.now (unboxed c.as_slice.result.now) c.args.id.now (ap unboxed c.as_slice.ensures.value ∙ c.self.view_is) c.in_default.ensures.none

pub returns : goal.returns
returns c =
    remove_shows c.args.id.now c.self.inside.links.items c.in-Some.at c.self.invariant.1 (subst (λ xs. IsAt c.args.id.now xs c.in-Some.at) c.as_slice.ensures.value c.in-Some.ensures.found) c.remove-link.result c.remove-link.new.self.items c.args.self.now c.remove-link.ensures.items
    c.self.view_is
