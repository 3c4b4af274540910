-- The pairs of positions that have the same content.
use Rattle.std.proofs.Common.{◌≡◌, ℕ, ◌+◌, ◌<◌, ◌∙◌, ◌==◌, ◌&&◌, ◌||◌, ◌++◌, ◌∷◌, [], Bool, List, length, take, get_or, map, false, true, ap, sym, refl, cond, append-nil, arith, Some, None}
use Rattle.std.specs.Prelude.{Option, filter, if◌then◌else◌}
use Rattle.std.specs.Global.{Vec}
use Rattle.std.specs.List.{flat_map}
use Rattle.std.specs.Option.{option_map, unwrap_or}
use Rattle.std.specs.BTreeMap.{BTreeMap, Updates}
use Rattle.std.specs.BTreeMap.{is_at}
use Rattle.std.specs.BTreeSet as sets
use Rattle.std.specs.BTreeSet.{BTreeSet}
use Rattle.std.specs.Ordering.{nat_cmp}
use Rattle.std.specs.Cmp.{both_tied, unsigned_ties}
use Rattle.std.specs.Cmp.Lexicographic.{slice_cmp, texts_ties, bytes_decides}
use Rattle.std.proofs.lemmas.Bool.Decides.{nat_tests}
use Rattle.std.proofs.lemmas.List.{map-append}
use Rattle.std.proofs.lemmas.List.Folds.{list_any_more}
use Rattle.std.proofs.lemmas.Simd.{map-map}
use Rattle.std.proofs.lemmas.List.Concat.{flat_map-append}
use Rattle.std.proofs.lemmas.List.Elements.{filter_more, filter-append}
use Rattle.world_rules.specs.declared.rows.Row.{Row}
use Rattle.world_rules.specs.declared.pairs.Pair.{Pair}
use Rattle.world_rules.specs.World.{is_same}
use Rattle.world_rules.specs.Relation.{pairs_of_row, is_pair, has_pair}
use Rattle.flat_rows.specs.PairIndex.{pairs_with, places_at, places_in, pair_cmp, set_has, AddsPlace, IsPlaceIndex, IsPairSet}
use Rattle.flat_rows.proofs.Sizes.{span_fits_at}

pub ruleset picked_steps = (span_fits_at)

-- ---- the positions of each address

places_of_option : Option (Vec ℕ) → List ℕ
places_of_option found = unwrap_or (option_map (λ (places : Vec ℕ). places.items) found) []

-- the list at an address is taken out, and put back with a position more
pub place_added : (old middle new : BTreeMap (List ℕ) (Vec ℕ)) (address : List ℕ) (place : ℕ) (before after : Vec ℕ) → before.items ≡ places_in old address → after.items ≡ before.items ++ place ∷ []
    → Updates (slice_cmp nat_cmp) old middle address None → Updates (slice_cmp nat_cmp) middle new address (Some after) → AddsPlace address place old new
place_added old middle new address place before after is_before pushed taken put other = by_case (is_same address other) refl
  where
    by_case : (same : Bool) → is_same address other ≡ same → places_in new other ≡ (if same then places_in old other ++ place ∷ [] else places_in old other)
    by_case true e =
        let here : address ≡ other = (bytes_decides address other).0 e in
        ap (λ (x : List ℕ). places_in new x) (sym here)
        ∙ ap (λ (found : Option (Vec ℕ)). unwrap_or (option_map (λ (places : Vec ℕ). places.items) found) []) put.1
        ∙ pushed
        ∙ ap (λ (places : List ℕ). places ++ place ∷ []) (is_before ∙ ap (λ (x : List ℕ). places_in old x) here)
    by_case false e = ap (λ (found : Option (Vec ℕ)). unwrap_or (option_map (λ (places : Vec ℕ). places.items) found) []) (put.2 other (sym (texts_ties address other) ∙ e) ∙ taken.2 other (sym (texts_ties address other) ∙ e))

-- a row more
places_push : (rows : List Row) (row : Row) (address : List ℕ) → places_at (rows ++ row ∷ []) address ≡ (if is_same row.address address then places_at rows address ++ row.n ∷ [] else places_at rows address)
places_push rows row address = ap (λ (rs : List Row). map (λ (r : Row). r.n) rs) (filter-append (λ (r : Row). is_same r.address address) rows (row ∷ [])) ∙ by_case (is_same row.address address)
  where
    by_case : (same : Bool) → map (λ (r : Row). r.n) (filter (λ (r : Row). is_same r.address address) rows ++ cond same (row ∷ []) []) ≡ (if same then places_at rows address ++ row.n ∷ [] else places_at rows address)
    by_case true = map-append (λ (r : Row). r.n) (filter (λ (r : Row). is_same r.address address) rows) (row ∷ [])
    by_case false = ap (λ (rs : List Row). map (λ (r : Row). r.n) rs) (append-nil (filter (λ (r : Row). is_same r.address address) rows))

-- a row more that passes, and one that does not
filter_yes : (p : Row → Bool) (rows : List Row) (i : ℕ) (d : Row) → i < length rows → p (get_or rows i d) ≡ true → filter p (take (i + 1) rows) ≡ filter p (take i rows) ++ get_or rows i d ∷ []
filter_yes p rows i d lt passes = filter_more p rows i d lt ∙ ap (λ (b : Bool). filter p (take i rows) ++ cond b (get_or rows i d ∷ []) []) passes

filter_no : (p : Row → Bool) (rows : List Row) (i : ℕ) (d : Row) → i < length rows → p (get_or rows i d) ≡ false → filter p (take (i + 1) rows) ≡ filter p (take i rows)
filter_no p rows i d lt fails = filter_more p rows i d lt ∙ ap (λ (b : Bool). filter p (take i rows) ++ cond b (get_or rows i d ∷ []) []) fails ∙ append-nil (filter p (take i rows))

pub index_yes : (p : Row → Bool) (rows : List Row) (i : ℕ) (d : Row) (old new : BTreeMap (List ℕ) (Vec ℕ)) → i < length rows → p (get_or rows i d) ≡ true → IsPlaceIndex (filter p (take i rows)) old
    → AddsPlace (get_or rows i d).address (get_or rows i d).n old new → IsPlaceIndex (filter p (take (i + 1) rows)) new
index_yes p rows i d old new lt passes before added address =
    added address
    ∙ ap (λ (places : List ℕ). if is_same (get_or rows i d).address address then places ++ (get_or rows i d).n ∷ [] else places) (before address)
    ∙ sym (places_push (filter p (take i rows)) (get_or rows i d) address)
    ∙ ap (λ (rs : List Row). places_at rs address) (sym (filter_yes p rows i d lt passes))

pub index_no : (p : Row → Bool) (rows : List Row) (i : ℕ) (d : Row) (index : BTreeMap (List ℕ) (Vec ℕ)) → i < length rows → p (get_or rows i d) ≡ false → IsPlaceIndex (filter p (take i rows)) index
    → IsPlaceIndex (filter p (take (i + 1) rows)) index
index_no p rows i d index lt fails before address = before address ∙ ap (λ (rs : List Row). places_at rs address) (sym (filter_no p rows i d lt fails))

pub ruleset place_steps = (index_yes, index_no)

-- ---- pairs

abbrev pair_of : ℕ → ℕ → Pair
pair_of left right = record { left = left; right = right }

-- the pairs of a row by the index are those with the rows on the right
row_pairs : (others : List Row) (index : BTreeMap (List ℕ) (Vec ℕ)) (row : Row) → IsPlaceIndex others index → pairs_with row.n (places_in index row.address) ≡ pairs_of_row others row
row_pairs others index row indexed =
    ap (λ (places : List ℕ). pairs_with row.n places) (indexed row.address)
    ∙ map-map (λ (right : ℕ). pair_of row.n right) (λ (other : Row). other.n) (filter (λ (other : Row). is_same other.address row.address) others)

pub pairs_yes : (p : Row → Bool) (others rows : List Row) (index : BTreeMap (List ℕ) (Vec ℕ)) (i : ℕ) (d : Row) (old new : List Pair) → i < length rows → p (get_or rows i d) ≡ true → IsPlaceIndex others index
    → old ≡ flat_map (pairs_of_row others) (filter p (take i rows)) → new ≡ old ++ pairs_with (get_or rows i d).n (places_in index (get_or rows i d).address)
    → new ≡ flat_map (pairs_of_row others) (filter p (take (i + 1) rows))
pairs_yes p others rows index i d old new lt passes indexed before pushed =
    pushed
    ∙ ap (λ (pairs : List Pair). pairs ++ pairs_with (get_or rows i d).n (places_in index (get_or rows i d).address)) before
    ∙ ap (λ (pairs : List Pair). flat_map (pairs_of_row others) (filter p (take i rows)) ++ pairs) (row_pairs others index (get_or rows i d) indexed ∙ sym (append-nil (pairs_of_row others (get_or rows i d))))
    ∙ sym (flat_map-append (pairs_of_row others) (filter p (take i rows)) (get_or rows i d ∷ []))
    ∙ ap (λ (rs : List Row). flat_map (pairs_of_row others) rs) (sym (filter_yes p rows i d lt passes))

pub pairs_no : (p : Row → Bool) (others rows : List Row) (i : ℕ) (d : Row) (pairs : List Pair) → i < length rows → p (get_or rows i d) ≡ false
    → pairs ≡ flat_map (pairs_of_row others) (filter p (take i rows)) → pairs ≡ flat_map (pairs_of_row others) (filter p (take (i + 1) rows))
pairs_no p others rows i d pairs lt fails before = before ∙ ap (λ (rs : List Row). flat_map (pairs_of_row others) rs) (sym (filter_no p rows i d lt fails))

pub ruleset pair_steps = (pairs_yes, pairs_no)

-- ---- the set of pairs

-- two pairs are the same where the order does not tell them apart
pair_ties : (left right l r : ℕ) → is_at (pair_cmp (left, right)) (l, r) ≡ (l == left && r == right)
pair_ties left right l r = sym (both_tied (left == l) (right == r) (nat_cmp left l) (nat_cmp right r) (unsigned_ties left l) (unsigned_ties right r)) ∙ grind (arith, nat_tests)

-- one pair more
pub set_more : (pairs : List Pair) (i : ℕ) (d : Pair) (old new : BTreeSet (ℕ × ℕ)) → i < length pairs → IsPairSet (take i pairs) old → sets.Updates pair_cmp old new ((get_or pairs i d).left, (get_or pairs i d).right) true
    → IsPairSet (take (i + 1) pairs) new
set_more pairs i d old new lt before updates left right =
    updates.0 (left, right)
    ∙ ap (λ (b : Bool). cond b true (set_has old left right)) (pair_ties (get_or pairs i d).left (get_or pairs i d).right left right)
    ∙ ap (λ (b : Bool). cond (left == (get_or pairs i d).left && right == (get_or pairs i d).right) true b) (before left right)
    ∙ either (left == (get_or pairs i d).left && right == (get_or pairs i d).right) (has_pair (take i pairs) (record { left = left; right = right }))
    ∙ sym (list_any_more (is_pair (record { left = left; right = right })) pairs i d lt)
  where
    either : (a b : Bool) → cond a true b ≡ (b || a)
    either true true = refl
    either true false = refl
    either false true = refl
    either false false = refl

pub ruleset set_steps = (set_more)
