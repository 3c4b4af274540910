-- Two runs share a byte exactly if some byte of the one is in the other. So the runs of a list of addresses
-- share bytes with other runs exactly if one of the addresses is in them.
use Rattle.std.proofs.Common.{◌≡◌, ℕ, ◌+◌, ◌<◌, ◌∙◌, ◌∷◌, ◌&&◌, ◌||◌, ◌==◌, [], Bool, true, false, List, map, min, max, ap, sym, refl, arith, cond}
use Rattle.std.specs.Prelude.{nat_lt, nat_le}
use Rattle.std.specs.List.{list_any, flat_map}
use Rattle.std.proofs.lemmas.Bool.Decides.{nat_tests}
use Rattle.std.proofs.lemmas.Bool.{eqb-true}
use Rattle.std.proofs.lemmas.Cmp.{nat_list_eq_equiv}
use Rattle.std.proofs.lemmas.List.Folds.{list_any-append}
use Rattle.tumbler.specs.declared.span.Span.{Span}
use Rattle.febe_data.specs.declared.run.Run.{Run}
use Rattle.febe_data.specs.Plain.{PlainSpec}
use Rattle.world_rules.specs.World.{World, is_same}
use Rattle.world_rules.specs.Picking.{Stretch, stretches, stretches_on, is_next_byte, run_of, is_in_run, is_in_runs, content_of, number_of, addresses_of, picked_text, picked_by_spec, picked_addresses, runs_of_span, runs_of_spec, runs_of}
use Rattle.world_rules.specs.Meeting.{shares_byte, share_bytes}
use Rattle.world_rules.proofs.ListTests.{any_or}

-- ---- tests of both kinds

list_any-flat_map : {X Y : Type 0} (p : Y → Bool) (f : X → List Y) (xs : List X) → list_any p (flat_map f xs) ≡ list_any (λ x. list_any p (f x)) xs
list_any-flat_map p f [] = refl
list_any-flat_map p f (x ∷ xs) = list_any-append p (f x) (flat_map f xs) ∙ ap (λ (b : Bool). list_any p (f x) || b) (list_any-flat_map p f xs)

or_assoc : (a b c : Bool) → (a || b || c) ≡ (a || (b || c))
or_assoc true b c = refl
or_assoc false b c = refl

-- ---- one run

-- a run of one byte
one_in_range : (same : Bool) (n first length : ℕ) → (same && nat_lt (max n first) (min (n + 1) (first + length))) ≡ (same && nat_le first n && nat_lt n (first + length))
one_in_range same n first length = grind (arith, nat_tests)

-- a run with a byte more
more_in_range : (same : Bool) (from count n first length : ℕ) → n ≡ from + count → 0 < count
    → (same && nat_lt (max from first) (min (from + (count + 1)) (first + length))) ≡ ((same && nat_lt (max from first) (min (from + count) (first + length))) || (same && nat_le first n && nat_lt n (first + length)))
more_in_range same from count n first length e some = grind (arith, nat_tests)

-- the byte at an address, as a run of one byte
one_byte : (origin x : List ℕ) (run : Run) → shares_byte (run_of origin (record { first = x; count = 1 })) run ≡ is_in_run x run
one_byte origin x run = one_in_range (is_same (content_of x) run.content) (number_of x) run.first run.length

-- a stretch with the next byte more
more_bytes : (origin first x : List ℕ) (count : ℕ) (run : Run) → is_same (content_of first) (content_of x) ≡ true → number_of x ≡ number_of first + count → 0 < count
    → shares_byte (run_of origin (record { first = first; count = count + 1 })) run ≡ (shares_byte (run_of origin (record { first = first; count = count })) run || is_in_run x run)
more_bytes origin first x count run same next some =
    more_in_range (is_same (content_of first) run.content) (number_of first) count (number_of x) run.first run.length next some
    ∙ ap (λ (b : Bool). shares_byte (run_of origin (record { first = first; count = count })) run || (b && nat_le run.first (number_of x) && nat_lt (number_of x) (run.first + run.length)))
    (nat_list_eq_equiv.congr (content_of first) (content_of x) run.content same)

-- ---- stretches

-- a stretch has one of the runs' bytes
abbrev opened : List Run → List ℕ → List ℕ → ℕ → Bool
opened runs origin first count = list_any (shares_byte (run_of origin (record { first = first; count = count }))) runs

opened_one : (runs : List Run) (origin x : List ℕ) → opened runs origin x 1 ≡ is_in_runs runs x
opened_one runs origin x = λ i. list_any (λ (run : Run). one_byte origin x run i) runs

opened_more : (runs : List Run) (origin first x : List ℕ) (count : ℕ) → is_same (content_of first) (content_of x) ≡ true → number_of x ≡ number_of first + count → 0 < count
    → opened runs origin first (count + 1) ≡ (opened runs origin first count || is_in_runs runs x)
opened_more runs origin first x count same next some =
    (λ i. list_any (λ (run : Run). more_bytes origin first x count run same next some i) runs)
    ∙ any_or (shares_byte (run_of origin (record { first = first; count = count }))) (is_in_run x) runs

both_parts : (a b : Bool) → (a && b) ≡ true → (a ≡ true) × (b ≡ true)
both_parts true true e = (refl, refl)
both_parts true false e = (refl, e)
both_parts false b e = (e, absurd (cc))

abbrev Opens : List Run → List ℕ → List (List ℕ) → Type 0
Opens runs origin xs =
    (first last : List ℕ) (count : ℕ) → is_same (content_of first) (content_of last) ≡ true → number_of last + 1 ≡ number_of first + count → 0 < count
    → share_bytes (map (run_of origin) (stretches_on is_next_byte first last count xs)) runs ≡ (opened runs origin first count || list_any (is_in_runs runs) xs)

on_next : (first last x : List ℕ) (count : ℕ) (xs : List (List ℕ)) → is_next_byte last x ≡ true → stretches_on is_next_byte first last count (x ∷ xs) ≡ stretches_on is_next_byte first x (count + 1) xs
on_next first last x count xs e = ap (λ (b : Bool). cond b (stretches_on is_next_byte first x (count + 1) xs) (record { first = first; count = count } ∷ stretches_on is_next_byte x x 1 xs)) e

on_cut : (first last x : List ℕ) (count : ℕ) (xs : List (List ℕ)) → is_next_byte last x ≡ false
    → stretches_on is_next_byte first last count (x ∷ xs) ≡ record { first = first; count = count } ∷ stretches_on is_next_byte x x 1 xs
on_cut first last x count xs e = ap (λ (b : Bool). cond b (stretches_on is_next_byte first x (count + 1) xs) (record { first = first; count = count } ∷ stretches_on is_next_byte x x 1 xs)) e

step : (runs : List Run) (origin first last x : List ℕ) (count : ℕ) (xs : List (List ℕ)) → Opens runs origin xs
    → is_same (content_of first) (content_of last) ≡ true → number_of last + 1 ≡ number_of first + count → 0 < count → (b : Bool) → is_next_byte last x ≡ b
    → share_bytes (map (run_of origin) (stretches_on is_next_byte first last count (x ∷ xs))) runs ≡ (opened runs origin first count || (is_in_runs runs x || list_any (is_in_runs runs) xs))
step runs origin first last x count xs rest same at some true e =
    let parts : (is_same (content_of last) (content_of x) ≡ true) × ((number_of x == number_of last + 1) ≡ true) = both_parts (is_same (content_of last) (content_of x)) (number_of x == number_of last + 1) e in
    let next : number_of x ≡ number_of last + 1 = eqb-true (number_of x) (number_of last + 1) parts.1 in
    let same_x : is_same (content_of first) (content_of x) ≡ true = nat_list_eq_equiv.congr (content_of first) (content_of last) (content_of x) same ∙ parts.0 in
    let further : number_of x + 1 ≡ number_of first + (count + 1) = omega arith in
    let begun : 0 < count + 1 = omega arith in
    ap (λ (made : List (Stretch (List ℕ))). share_bytes (map (run_of origin) made) runs) (on_next first last x count xs e)
    ∙ rest first x (count + 1) same_x further begun
    ∙ ap (λ (b : Bool). b || list_any (is_in_runs runs) xs) (opened_more runs origin first x count same_x (next ∙ at) some)
    ∙ or_assoc (opened runs origin first count) (is_in_runs runs x) (list_any (is_in_runs runs) xs)
step runs origin first last x count xs rest same at some false e =
    let begun : number_of x + 1 ≡ number_of x + 1 = refl in
    let one : 0 < 1 = omega arith in
    ap (λ (made : List (Stretch (List ℕ))). share_bytes (map (run_of origin) made) runs) (on_cut first last x count xs e)
    ∙ ap (λ (b : Bool). opened runs origin first count || b)
    (rest x x 1 (nat_list_eq_equiv.refl (content_of x)) begun one ∙ ap (λ (b : Bool). b || list_any (is_in_runs runs) xs) (opened_one runs origin x))

stretch_shares : (runs : List Run) (origin : List ℕ) (xs : List (List ℕ)) → Opens runs origin xs
stretch_shares runs origin [] first last count same at some = refl
stretch_shares runs origin (x ∷ xs) first last count same at some = step runs origin first last x count xs (stretch_shares runs origin xs) same at some (is_next_byte last x) refl

stretches_share : (runs : List Run) (origin : List ℕ) (xs : List (List ℕ)) → share_bytes (map (run_of origin) (stretches is_next_byte xs)) runs ≡ list_any (is_in_runs runs) xs
stretches_share runs origin [] = refl
stretches_share runs origin (x ∷ xs) =
    let one : 0 < 1 = omega arith in
    stretch_shares runs origin xs x x 1 (nat_list_eq_equiv.refl (content_of x)) refl one
    ∙ ap (λ (b : Bool). b || list_any (is_in_runs runs) xs) (opened_one runs origin x)

-- ---- spans and specs

spec_shares : (world : World) (runs : List Run) (spec : PlainSpec) → share_bytes (runs_of_spec world spec) runs ≡ list_any (is_in_runs runs) (picked_by_spec world spec)
spec_shares world runs spec =
    list_any-flat_map (λ (run : Run). list_any (shares_byte run) runs) (runs_of_span world spec.document) spec.spans
    ∙ (λ i. list_any (λ (span : Span). stretches_share runs spec.document (addresses_of (picked_text world spec.document span)) i) spec.spans)
    ∙ sym (list_any-flat_map (is_in_runs runs) (λ (span : Span). addresses_of (picked_text world spec.document span)) spec.spans)

pub specs_share : (world : World) (runs : List Run) (specs : List PlainSpec) → share_bytes (runs_of world specs) runs ≡ list_any (is_in_runs runs) (picked_addresses world specs)
specs_share world runs specs =
    list_any-flat_map (λ (run : Run). list_any (shares_byte run) runs) (runs_of_spec world) specs
    ∙ (λ i. list_any (λ (spec : PlainSpec). spec_shares world runs spec i) specs)
    ∙ sym (list_any-flat_map (is_in_runs runs) (picked_by_spec world) specs)
