use Rattle.std.proofs.Common.{◌≡◌, ℕ, ap, ◌∙◌, subst}
use Rattle.std.specs.Prelude.{OnOk}
use Rattle.enfilade_core.specs.Planes.{key_widths}
use Rattle.enfilade_core.specs.Summary.{depth_of}
use Rattle.enfilade_balance.proofs.Over.{depth-grown}
use Rattle.spanfilade.specs.Index.{IndexTree}
use Rattle.spanfilade.proofs.spanfilade.Spanfilade.cover.Goals as goal

pub returns-in_default-2-clause-level : goal.returns-in_default-2-clause-level
returns-in_default-2-clause-level c =
    let now = c.add-in_default-2.new.self in
    subst (λ (n : ℕ). OnOk c.add-in_default-2.result (depth_of key_widths now.nodes now.root.0 ≡ n))
    (depth-grown key_widths c.self.inside.arena c.put_longer.new.arena c.self.inside.root.0 c.put_longer.ensures.grows c.self.invariant ∙ ap (λ (t : IndexTree). depth_of key_widths t.nodes t.root.0) c.self.view_is)
    c.add-in_default-2.ensures.level
