use Rattle.std.proofs.Common.{◌≡◌, ◌∙◌, ℕ, ◌+◌, max, min, ap, arith}
use Rattle.tree_world.proofs.InEnds.{met_numbers}
use Rattle.tree_world.proofs.end_sets.met_positions.Goals as goal

pub returns : goal.returns
returns c =
    let placed = c.args.placed.now in
    let numbers = c.args.numbers in
    let from_is : c.min-from.result ≡ min (max numbers.from placed.first) (placed.first + placed.length) = c.min-from.ensures ∙ ap (λ (x : ℕ). min x (placed.first + placed.length)) c.max.ensures in
    let to_is : c.max-to.result ≡ max (min numbers.to (placed.first + placed.length)) placed.first = c.max-to.ensures ∙ ap (λ (x : ℕ). max x placed.first) c.min.ensures in
    let fits = c.requires.ends in
    record {
      same = λ n. met_numbers placed.at placed.first placed.length numbers.from numbers.to n c.min-from.result c.max-to.result c.requires.filled from_is to_is;
      from_one = omega (arith, c.requires.at_from_one);
      to_end = omega (arith, fits, to_is);
    }
