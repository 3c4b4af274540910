use Rattle.std.proofs.Common.{◌≡◌, ◌∙◌, [], ℕ, ap, sym}
use Rattle.std.specs.Prelude.{Option}
use Rattle.std.specs.Global.{Vec}
use Rattle.std.specs.Option.{option_map, unwrap_or}
use Rattle.flat_rows.specs.PairIndex.{places_in}
use Rattle.flat_rows.proofs.Relations.{place_added}
use Rattle.flat_rows.proofs.relation.add_place.Goals as goal
use Rattle.flat_rows.proofs.relation.add_place.Goals.{in-Some, in-None}

pub returns : goal.returns
returns c =
    let items = λ (found : Option (Vec ℕ)). unwrap_or (option_map (λ (places : Vec ℕ). places.items) found) [] in
    let before : c.match-remove.places.items ≡ places_in c.args.index.now c.args.address.now = elim c.match-remove.branch [
      | in-Some w ↦ ap (λ (places : Vec ℕ). places.items) w.places-is ∙ ap items (sym w.in-Some.is ∙ c.remove.ensures.value)
      | in-None w ↦ ap (λ (places : Vec ℕ). places.items) w.places-is ∙ w.new-places.ensures.items ∙ ap items (sym w.in-None.is ∙ c.remove.ensures.value)
    ] in
    place_added c.args.index.now c.remove.new.self c.insert.new.self c.args.address.now c.args.place c.match-remove.places c.push.new.self before c.in_ok-push.ensures.items c.remove.ensures.updates (rw c.copy.ensures at c.in_ok-insert.ensures.updates)
