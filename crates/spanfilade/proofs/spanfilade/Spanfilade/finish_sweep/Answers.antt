use Rattle.std.proofs.Common.{subst}
use Rattle.enfilade_core.specs.Planes.{key_widths}
use Rattle.enfilade_sweep.specs.Sweep.{IsSweptTree}
use Rattle.spanfilade.specs.Index.{IndexTree}
use Rattle.spanfilade.proofs.spanfilade.Spanfilade.finish_sweep.Goals as goal

pub invariant_of-self : goal.invariant_of-self
invariant_of-self c = (c.finish_tree-self-inside.ensures c.args.self.now.root.0 c.requires.root).below

pub returns : goal.returns
returns c =
    subst (λ (t : IndexTree). IsSweptTree key_widths t.nodes c.args.self.now.root.0 c.finish_tree-self-inside.new.arena c.finish_tree-self-inside.result.0) c.self.view_is (c.finish_tree-self-inside.ensures c.args.self.now.root.0 c.requires.root)
