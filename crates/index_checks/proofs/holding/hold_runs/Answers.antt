use Rattle.std.proofs.Common.{map, sym, ◌∙◌, true≢false}
use Rattle.links.specs.LinkLists.{plain_link}
use Rattle.index_checks.proofs.RunRows.{addressed_if_held}
use Rattle.index_checks.proofs.holding.hold_runs.Goals as goal

pub returns-then-not-branch : goal.returns-then-not-branch
returns-then-not-branch c = (
  λ t. absurd (true≢false (sym t)),
  λ held. absurd (true≢false (sym
      (c.in_ok-append_links.ensures.told.1 (addressed_if_held c.args.end (map plain_link c.args.links.now) c.args.index.now c.args.root.0 c.allocator-alloc.ensures.well_formed c.requires held))
      ∙ c.if-not-branch.true)),
)
