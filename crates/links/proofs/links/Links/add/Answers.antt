use Rattle.std.proofs.Common.{◌≡◌, ◌∙◌, ℕ, List, map, ap, sym, subst, false}
use Rattle.std.specs.List.{All}
use Rattle.world_rules.specs.World.{LinkRow}
use Rattle.spanfilade.specs.Index.{rows_for}
use Rattle.links.specs.LinkLists.{LinkLists, IsLink, HoldsRuns, plain_link, run_span, has_in, removed}
use Rattle.links.specs.inside.Kept.{AddsRows}
use Rattle.links.proofs.EndsKept.{all_added, holds_added, added_removed}
use Rattle.links.proofs.links.Links.add.Goals as goal

pub invariant_of-self : goal.invariant_of-self
invariant_of-self c =
    let same = sym c.in_err-add.ensures.refused in (
      subst (All IsLink) same c.self.invariant.0,
      subst (λ (ls : List LinkRow). HoldsRuns 1 ls c.self.inside.from) same c.self.invariant.1,
      subst (λ (ls : List LinkRow). HoldsRuns 2 ls c.self.inside.to) same c.self.invariant.2,
      subst (λ (ls : List LinkRow). HoldsRuns 3 ls c.self.inside.three) same c.self.invariant.3,
    )

pub invariant_of-self-in-Ok : goal.invariant_of-self-in-Ok
invariant_of-self-in-Ok c =
    let link = plain_link c.args.link in
    let lacks : has_in c.self.inside.table link.id ≡ false = ap (λ (v : LinkLists). has_in v.links link.id) c.self.view_is ∙ c.requires.absent in
    let made = sym c.in_ok-add.ensures.added in (
      subst (All IsLink) made (all_added IsLink c.self.inside.table link c.requires.runs c.self.invariant.0),
      subst (λ (ls : List LinkRow). HoldsRuns 1 ls c.add_to_all.new.from) made
          (holds_added 1 c.self.inside.table link c.in_ok-from.from.items c.self.inside.from c.add_to_all.new.from lacks (c.in_ok-from.ensures.value ∙ ap (map run_span) c.as_slice.ensures) c.self.invariant.1
          (subst (λ (k : List ℕ). AddsRows (rows_for c.in_ok-from.from.items k) c.self.inside.from c.add_to_all.new.from) c.copy-id.ensures c.in-Ok.ensures.added.0)),
      subst (λ (ls : List LinkRow). HoldsRuns 2 ls c.add_to_all.new.to) made
          (holds_added 2 c.self.inside.table link c.in_ok-to.to.items c.self.inside.to c.add_to_all.new.to lacks (c.in_ok-to.ensures.value ∙ ap (map run_span) c.as_slice-2.ensures) c.self.invariant.2
          (subst (λ (k : List ℕ). AddsRows (rows_for c.in_ok-to.to.items k) c.self.inside.to c.add_to_all.new.to) c.copy-id.ensures c.in-Ok.ensures.added.1)),
      subst (λ (ls : List LinkRow). HoldsRuns 3 ls c.add_to_all.new.three) made
          (holds_added 3 c.self.inside.table link c.in_ok-three.three.items c.self.inside.three c.add_to_all.new.three lacks (c.in_ok-three.ensures.value ∙ ap (map run_span) c.as_slice-3.ensures) c.self.invariant.3
          (subst (λ (k : List ℕ). AddsRows (rows_for c.in_ok-three.three.items k) c.self.inside.three c.add_to_all.new.three) c.copy-id.ensures c.in-Ok.ensures.added.2)),
    )

pub invariant_of-self-in_default : goal.invariant_of-self-in_default
invariant_of-self-in_default c =
    let link = plain_link c.args.link in
    let lacks : has_in c.self.inside.table link.id ≡ false = ap (λ (v : LinkLists). has_in v.links link.id) c.self.view_is ∙ c.requires.absent in
    let back : c.remove.new.self ≡ c.self.inside.table =
    c.remove.ensures ∙ ap (λ (k : List ℕ). removed c.add.new.self k) c.copy-id.ensures ∙ ap (λ (ls : List LinkRow). removed ls link.id) c.in_ok-add.ensures.added ∙ added_removed c.self.inside.table link lacks in (
      subst (All IsLink) (sym back) c.self.invariant.0,
      subst (λ (ls : List LinkRow). HoldsRuns 1 ls c.add_to_all.new.from) (sym back) (subst (HoldsRuns 1 c.self.inside.table) (sym c.in_default.ensures.refused.0) c.self.invariant.1),
      subst (λ (ls : List LinkRow). HoldsRuns 2 ls c.add_to_all.new.to) (sym back) (subst (HoldsRuns 2 c.self.inside.table) (sym c.in_default.ensures.refused.1) c.self.invariant.2),
      subst (λ (ls : List LinkRow). HoldsRuns 3 ls c.add_to_all.new.three) (sym back) (subst (HoldsRuns 3 c.self.inside.table) (sym c.in_default.ensures.refused.2) c.self.invariant.3),
    )

pub returns-in_default-clause-refused : goal.returns-in_default-clause-refused
returns-in_default-clause-refused c =
    let link = plain_link c.args.link in
    let lacks : has_in c.self.inside.table link.id ≡ false = ap (λ (v : LinkLists). has_in v.links link.id) c.self.view_is ∙ c.requires.absent in
    let back : c.remove.new.self ≡ c.self.inside.table =
    c.remove.ensures ∙ ap (λ (k : List ℕ). removed c.add.new.self k) c.copy-id.ensures ∙ ap (λ (ls : List LinkRow). removed ls link.id) c.in_ok-add.ensures.added ∙ added_removed c.self.inside.table link lacks in
    (λ i. record { links = back i; from = c.in_default.ensures.refused.0 i; to = c.in_default.ensures.refused.1 i; three = c.in_default.ensures.refused.2 i }) ∙ c.self.view_is
