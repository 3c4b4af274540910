-- What is picked, one row, span and spec after the other.
use Rattle.std.proofs.Common.{◌≡◌, ℕ, ◌+◌, ◌<◌, ◌∙◌, ◌++◌, ◌∷◌, [], Bool, true, false, cond, List, length, take, get_or, ap, append-nil}
use Rattle.std.specs.Prelude.{filter}
use Rattle.std.proofs.lemmas.List.Elements.{filter_more}
use Rattle.world_rules.specs.declared.rows.Row.{Row}
use Rattle.world_rules.proofs.ListTests.{flat_map_at, flat_map_spec}

-- one more row that passes, and one that does not
pub filter_more_yes : (p : Row → Bool) (rows : List Row) (i : ℕ) (d : Row) → i < length rows → p (get_or rows i d) ≡ true → filter p (take (i + 1) rows) ≡ filter p (take i rows) ++ get_or rows i d ∷ []
filter_more_yes p rows i d lt passes = filter_more p rows i d lt ∙ ap (λ (b : Bool). filter p (take i rows) ++ cond b (get_or rows i d ∷ []) []) passes

pub filter_more_no : (p : Row → Bool) (rows : List Row) (i : ℕ) (d : Row) → i < length rows → p (get_or rows i d) ≡ false → filter p (take (i + 1) rows) ≡ filter p (take i rows)
filter_more_no p rows i d lt fails = filter_more p rows i d lt ∙ ap (λ (b : Bool). filter p (take i rows) ++ cond b (get_or rows i d ∷ []) []) fails ∙ append-nil (filter p (take i rows))

pub ruleset picked_steps = (flat_map_at, flat_map_spec)
