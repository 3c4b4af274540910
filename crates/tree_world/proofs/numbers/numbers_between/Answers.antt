use Rattle.std.proofs.Common.{◌∙◌, List, ap}
use Rattle.poom_compare.specs.declared.positions.Interval.{Interval}
use Rattle.poom_compare.specs.Placed.{is_in_some}
use Rattle.tree_world.proofs.numbers.numbers_between.Goals as goal

pub returns : goal.returns
returns c m from to =
    ap (λ (l : List Interval). is_in_some l m) c.split_at-2.ensures.front ∙ c.count_before.ensures.same m to ∙ ap (λ (l : List Interval). is_in_some l m) c.split_at.ensures.back ∙ c.first_behind.ensures.same m from
