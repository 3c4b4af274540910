use Rattle.std.proofs.Common.{List, ℕ, sym, subst}
use Rattle.tumbler.specs.Places.{IsTumbler, sum}
use Rattle.tumbler.proofs.SumOrder.{fits_if_tumbler}
use Rattle.enfilade_search.proofs.gather.is_beside.Goals as goal

pub add-requires : goal.add-requires
add-requires g c =
    fits_if_tumbler c.args.row.now.second c.second_width.result (subst (λ (x : List ℕ). IsTumbler (sum c.args.row.now.second x)) (sym c.second_width.ensures) c.requires.second_end)
