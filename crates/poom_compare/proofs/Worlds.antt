-- What is shared in a world is what the texts share.
use Rattle.std.proofs.Common.{◌≡◌, ℕ, ◌+◌, ◌∙◌, ◌++◌, ◌∷◌, [], Bool, List, map, true, false, ap, sym, refl, cond}
use Rattle.std.specs.Prelude.{filter}
use Rattle.std.specs.List.{flat_map}
use Rattle.std.proofs.lemmas.Simd.{map-map}
use Rattle.tumbler.specs.declared.span.Span.{Span}
use Rattle.febe_data.specs.Plain.{PlainSpec}
use Rattle.world_rules.specs.declared.pairs.Pair.{Pair}
use Rattle.world_rules.specs.declared.rows.Row.{Row}
use Rattle.world_rules.specs.declared.rows.Part.TheVariants.{Text}
use Rattle.world_rules.specs.World.{World, is_same, is_text_of}
use Rattle.world_rules.specs.Picking.{picked_once}
use Rattle.world_rules.specs.Edits.{new_rows}
use Rattle.world_rules.specs.Relation.{pairs_of_row, diagonals_of}
use Rattle.world_rules.proofs.ListTests.{filter_both}
use Rattle.poom_compare.specs.Shared.{is_picked_by_some, rows_picked, pairs_between, Shows, IsRelationOfWorld}

-- ---- lists

pub filter_mapped : {X Y : Type 0} (p : Y → Bool) (f : X → Y) (xs : List X) → filter p (map f xs) ≡ map f (filter (λ x. p (f x)) xs)
filter_mapped p f [] = refl
filter_mapped {X = X} {Y = Y} p f (x ∷ xs) = step (p (f x)) (filter_mapped p f xs)
  where
    step : (b : Bool) → filter p (map f xs) ≡ map f (filter (λ x. p (f x)) xs) → cond b (f x ∷ filter p (map f xs)) (filter p (map f xs)) ≡ map f (cond b (x ∷ filter (λ x. p (f x)) xs) (filter (λ x. p (f x)) xs))
    step true rest = ap (λ (ys : List Y). f x ∷ ys) rest
    step false rest = rest

flat_mapped : {X Y Z : Type 0} (f : Y → List Z) (g : X → Y) (xs : List X) → flat_map f (map g xs) ≡ flat_map (λ x. f (g x)) xs
flat_mapped f g [] = refl
flat_mapped {Z = Z} f g (x ∷ xs) = ap (λ (zs : List Z). f (g x) ++ zs) (flat_mapped f g xs)

-- ---- rows, whatever document has them

abbrev pub of_none : Row → Row
of_none row = record row { document = [] }

rows_of_none : (document : List ℕ) (n : ℕ) (addresses : List (List ℕ)) → new_rows [] n addresses ≡ map of_none (new_rows document n addresses)
rows_of_none document n [] = refl
rows_of_none document n (address ∷ addresses) = λ i. of_none (record { document = document; part = Text; n = n; address = address }) ∷ rows_of_none document (n + 1) addresses i

pub picked_of_none : (document : List ℕ) (spans : List Span) (addresses : List (List ℕ)) → rows_picked spans addresses ≡ map of_none (filter (is_picked_by_some spans) (new_rows document 1 addresses))
picked_of_none document spans addresses = ap (filter (is_picked_by_some spans)) (rows_of_none document 1 addresses) ∙ filter_mapped (is_picked_by_some spans) of_none (new_rows document 1 addresses)

abbrev pair_with : Row → Row → Pair
pair_with row other = record { left = row.n; right = other.n }

row_of_none : (others : List Row) (row : Row) → pairs_of_row (map of_none others) (of_none row) ≡ pairs_of_row others row
row_of_none others row =
    ap (map (pair_with row)) (filter_mapped (λ (other : Row). is_same other.address row.address) of_none others)
    ∙ map-map (pair_with row) of_none (filter (λ (other : Row). is_same other.address row.address) others)

pairs_of_none : (lefts rights : List Row) → pairs_between (map of_none lefts) (map of_none rights) ≡ pairs_between lefts rights
pairs_of_none lefts rights = flat_mapped (pairs_of_row (map of_none rights)) of_none lefts ∙ (λ i. flat_map (λ row. row_of_none rights row i) lefts)

-- ---- the world

pub picked_shown : (world : World) (spec : PlainSpec) (text : List (List ℕ)) → Shows world spec.document text → picked_once world spec ≡ filter (is_picked_by_some spec.spans) (new_rows spec.document 1 text)
picked_shown world spec text shows = filter_both (is_text_of spec.document) (is_picked_by_some spec.spans) world.rows ∙ ap (filter (is_picked_by_some spec.spans)) shows

pub of_world : IsRelationOfWorld
of_world world left right left_text right_text shows shows' =
    ap diagonals_of
    ((λ i. pairs_between (picked_shown world left left_text shows i) (picked_shown world right right_text shows' i))
    ∙ (sym (pairs_of_none (filter (is_picked_by_some left.spans) (new_rows left.document 1 left_text)) (filter (is_picked_by_some right.spans) (new_rows right.document 1 right_text)))
    ∙ (λ i. pairs_between (sym (picked_of_none left.document left.spans left_text) i) (sym (picked_of_none right.document right.spans right_text) i))))
