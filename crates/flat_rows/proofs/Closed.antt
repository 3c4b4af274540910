-- The rows that a delete leaves, closed up by the numbers of rows that go, are those of the definition.
use Rattle.std.proofs.Common.{◌≡◌, ℕ, ◌-◌, ◌∙◌, ◌&&◌, Bool, true, false, not, List, [], ◌∷◌, map, ap, sym, refl, arith, count_by}
use Rattle.std.specs.Prelude.{filter, nat_lt}
use Rattle.std.specs.Ordering.{nat_cmp, is_le, is_lt}
use Rattle.std.specs.Cmp.Lexicographic.{slice_cmp}
use Rattle.std.proofs.lemmas.Bool.{and_parts}
use Rattle.std.proofs.lemmas.Bool.Decides.{nat_tests}
use Rattle.tumbler.specs.declared.span.Span.{Span}
use Rattle.tumbler.specs.Span.{end_of}
use Rattle.world_rules.specs.declared.rows.Part.{Part}
use Rattle.world_rules.specs.declared.rows.Part.TheVariants.{Text, Links}
use Rattle.world_rules.specs.declared.rows.Row.{Row}
use Rattle.world_rules.specs.World.{is_same, part_number}
use Rattle.world_rules.specs.Picking.{is_within}
use Rattle.world_rules.specs.Edits.{goes, is_same_part, gone_below, down_by, closed_up, rows_without}
use Rattle.flat_rows.specs.Closing.{going_within, is_before, of_part, closed_after, rows_left}

-- ---- the order of two places of one part, seen from a bound

pub before_end : (part a b : ℕ) (end : List ℕ) → is_lt (slice_cmp nat_cmp (part ∷ a ∷ []) end) ≡ true → is_lt (slice_cmp nat_cmp (part ∷ b ∷ []) end) ≡ false → nat_lt a b ≡ true
before_end part a b [] low high = grind (arith, nat_tests)
before_end part a b (x ∷ []) low high = grind (arith, nat_tests)
before_end part a b (x ∷ y ∷ []) low high = grind (arith, nat_tests)
before_end part a b (x ∷ y ∷ z ∷ end) low high = grind (arith, nat_tests)

pub after_start : (part a b : ℕ) (start : List ℕ) → is_le (slice_cmp nat_cmp start (part ∷ a ∷ [])) ≡ true → is_le (slice_cmp nat_cmp start (part ∷ b ∷ [])) ≡ false → nat_lt a b ≡ false
after_start part a b [] high low = grind (arith, nat_tests)
after_start part a b (x ∷ []) high low = grind (arith, nat_tests)
after_start part a b (x ∷ y ∷ []) high low = grind (arith, nat_tests)
after_start part a b (x ∷ y ∷ z ∷ start) high low = grind (arith, nat_tests)

same_part : (a b : Part) → is_same_part a b ≡ true → b ≡ a
same_part Text Text same = refl
same_part Text Links same = cc
same_part Links Text same = cc
same_part Links Links same = refl

-- ---- how many rows go from below one that stays

-- both are within, and so is each
within_parts : (start end : List ℕ) (row : Row) → is_within start end row ≡ true
    → (is_le (slice_cmp nat_cmp start (part_number row.part ∷ row.n ∷ [])) ≡ true) × (is_lt (slice_cmp nat_cmp (part_number row.part ∷ row.n ∷ []) end) ≡ true)
within_parts start end row within = and_parts (is_le (slice_cmp nat_cmp start (part_number row.part ∷ row.n ∷ []))) (is_lt (slice_cmp nat_cmp (part_number row.part ∷ row.n ∷ []) end)) within

-- what is before the end and not within is before the start
before_start : (le lt : Bool) → lt ≡ true → (le && lt) ≡ false → le ≡ false
before_start true true e f = cc
before_start true false e f = cc
before_start false lt e f = refl

none_step : (document : List ℕ) (span : Span) (row other : Row) (g s : Bool) → goes document span other ≡ g → is_same_part row.part other.part ≡ s
    → is_before (end_of span) row ≡ true → is_within span.start (end_of span) row ≡ false → (g && s && nat_lt other.n row.n) ≡ false
none_step document span row other true true e f before out =
    let inside = within_parts span.start (end_of span) other (and_parts (is_same other.document document) (is_within span.start (end_of span) other) e).1 in
    let high : is_le (slice_cmp nat_cmp span.start (part_number row.part ∷ other.n ∷ [])) ≡ true = rw (same_part row.part other.part f) at inside.0 in
    let low : is_le (slice_cmp nat_cmp span.start (part_number row.part ∷ row.n ∷ [])) ≡ false = before_start (is_le (slice_cmp nat_cmp span.start (part_number row.part ∷ row.n ∷ []))) (is_before (end_of span) row) before out in
    after_start (part_number row.part) other.n row.n span.start high low
none_step document span row other true false e f before out = refl
none_step document span row other false s e f before out = refl

all_step : (document : List ℕ) (span : Span) (row other : Row) (g s : Bool) → goes document span other ≡ g → is_same_part row.part other.part ≡ s
    → is_before (end_of span) row ≡ false → (g && s) ≡ (g && s && nat_lt other.n row.n)
all_step document span row other true true e f after =
    let inside = within_parts span.start (end_of span) other (and_parts (is_same other.document document) (is_within span.start (end_of span) other) e).1 in
    let low : is_lt (slice_cmp nat_cmp (part_number row.part ∷ other.n ∷ []) (end_of span)) ≡ true = rw (same_part row.part other.part f) at inside.1 in
    sym (before_end (part_number row.part) other.n row.n (end_of span) low after)
all_step document span row other true false e f after = refl
all_step document span row other false s e f after = refl

count_none : {X : Type 0} (p : X → Bool) → ((x : X) → p x ≡ false) → (xs : List X) → count_by p xs ≡ 0
count_none p none [] = refl
count_none p none (x ∷ xs) = rw (none x) (count_none p none xs)

none_below : (rows : List Row) (document : List ℕ) (span : Span) (row : Row) → is_before (end_of span) row ≡ true → is_within span.start (end_of span) row ≡ false → gone_below rows document span row ≡ 0
none_below rows document span row before out =
    count_none (λ (other : Row). goes document span other && is_same_part row.part other.part && nat_lt other.n row.n)
    (λ other. none_step document span row other (goes document span other) (is_same_part row.part other.part) refl refl before out) rows

all_below : (rows : List Row) (document : List ℕ) (span : Span) (row : Row) → is_before (end_of span) row ≡ false → going_within rows document span.start (end_of span) row.part ≡ gone_below rows document span row
all_below rows document span row after =
    λ i. count_by (λ (other : Row). all_step document span row other (goes document span other) (is_same_part row.part other.part) refl refl after i) rows

by_part : (number : Part → ℕ) (part : Part) → of_part (number Text) (number Links) part ≡ number part
by_part number Text = refl
by_part number Links = refl

-- ---- the rows that stay

closed_step : (rows : List Row) (document : List ℕ) (span : Span) (row : Row) (mine before : Bool) → is_same row.document document ≡ mine → is_before (end_of span) row ≡ before → goes document span row ≡ false
    → closed_after document (end_of span) (going_within rows document span.start (end_of span) Text) (going_within rows document span.start (end_of span) Links) row ≡ closed_up rows document span row
closed_step rows document span row false before e f stays = rw e refl
closed_step rows document span row true true e f stays =
    let out : is_within span.start (end_of span) row ≡ false = rw e at stays in
    let kept : down_by (gone_below rows document span row) row ≡ row = ap (λ (k : ℕ). down_by k row) (none_below rows document span row f out) ∙ ap (λ (n : ℕ). record row { n = n }) (let same : row.n - 0 ≡ row.n = omega arith in same) in
    rw (e, f) (sym kept)
closed_step rows document span row true false e f stays =
    let number = by_part (going_within rows document span.start (end_of span)) row.part ∙ all_below rows document span row f in
    rw (e, f) (ap (λ (k : ℕ). down_by k row) number)

map_kept_step : (f g : Row → Row) (gone : Row → Bool) → ((row : Row) → gone row ≡ false → f row ≡ g row) → (row : Row) (rows : List Row) (b : Bool) → gone row ≡ b
    → map f (filter (λ r. not (gone r)) rows) ≡ map g (filter (λ r. not (gone r)) rows)
    → map f (filter (λ r. not (gone r)) (row ∷ rows)) ≡ map g (filter (λ r. not (gone r)) (row ∷ rows))
map_kept_step f g gone same row rows true e rest = rw e rest
map_kept_step f g gone same row rows false e rest = rw (e, same row e, rest) refl

map_kept : (f g : Row → Row) (gone : Row → Bool) → ((row : Row) → gone row ≡ false → f row ≡ g row) → (rows : List Row)
    → map f (filter (λ r. not (gone r)) rows) ≡ map g (filter (λ r. not (gone r)) rows)
map_kept f g gone same [] = refl
map_kept f g gone same (row ∷ rows) = map_kept_step f g gone same row rows (gone row) refl (map_kept f g gone same rows)

pub left_is : (rows : List Row) (document : List ℕ) (span : Span) (end : List ℕ) (text links : ℕ) → end ≡ end_of span
    → text ≡ going_within rows document span.start end Text → links ≡ going_within rows document span.start end Links
    → rows_left rows document span.start end text links ≡ rows_without rows document span
left_is rows document span end text links e f g =
    rw (f, g, e)
    (map_kept (closed_after document (end_of span) (going_within rows document span.start (end_of span) Text) (going_within rows document span.start (end_of span) Links)) (closed_up rows document span) (goes document span)
    (λ row stays. closed_step rows document span row (is_same row.document document) (is_before (end_of span) row) refl refl stays) rows)

pub ruleset closed = (left_is)
