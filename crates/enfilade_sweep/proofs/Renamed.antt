-- Roots under new numbers.
use Rattle.std.proofs.Common.{◌≡◌, ◌∙◌, ℕ, Bool, true, List, [], ◌∷◌, ◌++◌, length, take, map, get_or, ap, refl, arith, append-nil}
use Rattle.std.specs.Prelude.{All}
use Rattle.std.specs.List.{Contains, refill}
use Rattle.std.proofs.Math.ListN.{drop_of_length-le}
use Rattle.std.proofs.lemmas.List.{get_or-map, length-map, take_all}
use Rattle.enfilade_core.specs.declared.tree.Node.{Node}
use Rattle.enfilade_core.specs.NewNumbers.{is_marked}
use Rattle.enfilade_sweep.specs.Sweep.{numbers}

pub renamed_numbers : (place : ℕ → ℕ) (roots : List Node) → numbers (map (λ (node : Node). record { 0 = place node.0 }) roots) ≡ map place (numbers roots)
renamed_numbers place [] = refl
renamed_numbers place (r ∷ roots) = ap (λ (ks : List ℕ). place r.0 ∷ ks) (renamed_numbers place roots)

-- a list that was lent and came back as long as it was
pub lent_back : {X : Type 0} (xs ws : List X) → length ws ≡ length xs → refill (length xs) xs ws ≡ ws
lent_back xs ws long =
    ap (λ (r : List _). take (length xs) (ws ++ r)) (drop_of_length-le xs {i = length ws} (omega (arith, long))) ∙ ap (take (length xs)) (append-nil ws) ∙ take_all (length xs) ws (omega (arith, long))

-- what is so of each marked node is so of the roots
pub rooted_all : (P : ℕ → Type 0) (roots : List Node) (marks : List Bool) → ((k : ℕ) → Contains (numbers roots) k → is_marked marks k ≡ true) → ((k : ℕ) → is_marked marks k ≡ true → P k) → All (λ (root : Node). P root.0) roots
rooted_all P roots marks rooted holds i d lt =
    let number : Node → ℕ = λ node. node.0 in holds (get_or roots i d).0 (rooted (get_or roots i d).0 (i, omega (arith, lt, length-map roots number), get_or-map number roots i d (get_or roots i d).0 lt))
