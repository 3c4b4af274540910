-- One spec and one span more.
use Rattle.std.proofs.Common.{◌≡◌, ◌∙◌, ℕ, zero, suc, ◌+◌, ◌<◌, ◌≤◌, ◌++◌, not, true, false, List, [], ◌∷◌, length, length-append, take, get_or, map, ap, sym, append_assoc, arith, subst, refl, All}
use Rattle.std.specs.List.{flat_map, sum_by, list_any}
use Rattle.std.specs.Prelude.{nat_lt}
use Rattle.std.proofs.lemmas.Bool.{lt-ltb}
use Rattle.std.proofs.lemmas.Bool.Decides.{nat_tests}
use Rattle.std.proofs.lemmas.List.Concat.{flat_map-append}
use Rattle.std.proofs.lemmas.List.Folds.{flat_map-map, list_any_at}
use Rattle.std.proofs.lemmas.List.Sums.{sum_by_more}
use Rattle.std.proofs.lemmas.List.Elements.{All-append}
use Rattle.tumbler.specs.declared.span.Span.{Span}
use Rattle.tumbler.specs.Places.{fits}
use Rattle.febe_data.specs.declared.run.Run.{Run}
use Rattle.febe_data.specs.declared.spec.Spec.{Spec}
use Rattle.febe_data.specs.Plain.{PlainSpec, plain_spec}
use Rattle.poom.specs.Edited.{IsContentRun, run_addresses}
use Rattle.poom.specs.Pieces.{addresses_from}
use Rattle.world_rules.specs.Refusals.{total_of, has_bad_span}
use Rattle.world_rules.proofs.Specs.{sum_by-map, list_any-map}
use Rattle.world_rules.proofs.ListTests.{flat_map_at, flat_map_spec}

-- one more term
pub sum_at : {X : Type 0} (f : X → ℕ) (xs : List X) (i : ℕ) (d : X) → i < length xs → sum_by f (take (i + 1) xs) ≡ sum_by f (take i xs) + f (get_or xs i d)
sum_at f xs i d lt = sum_by_more f xs i d lt

pub total_at : (measure : List ℕ → Span → ℕ) (specs : List Spec) (i : ℕ) (d : Spec) → i < length specs
    → total_of measure (map plain_spec (take (i + 1) specs)) ≡ total_of measure (map plain_spec (take i specs)) + sum_by (measure (get_or specs i d).document) (get_or specs i d).spans.items
total_at measure specs i d lt =
    total_is (take (i + 1) specs) ∙ sum_by_more (λ (spec : Spec). sum_by (measure spec.document) spec.spans.items) specs i d lt
    ∙ ap (λ (n : ℕ). n + sum_by (measure (get_or specs i d).document) (get_or specs i d).spans.items) (sym (total_is (take i specs)))
  where
    total_is : (some : List Spec) → total_of measure (map plain_spec some) ≡ sum_by (λ (spec : Spec). sum_by (measure spec.document) spec.spans.items) some
    total_is some = sum_by-map plain_spec (λ (spec : PlainSpec). sum_by (measure spec.document) spec.spans) some

pub ruleset steps = (flat_map_at, flat_map_spec, sum_at, total_at)

-- ---- spans that fit

-- where no span ends nowhere, each of them ends somewhere
pub span_fits_at : (spans : List Span) (i : ℕ) (d : Span) → i < length spans → list_any (λ (span : Span). not (fits span.start span.width)) spans ≡ false → fits (get_or spans i d).start (get_or spans i d).width ≡ true
span_fits_at spans i d lt none = grind (arith, nat_tests, list_any_at (λ (span : Span). not (fits span.start span.width)) spans i d lt)

pub spec_fits_at : (specs : List Spec) (i : ℕ) (d : Spec) → i < length specs → has_bad_span (map plain_spec specs) ≡ false → list_any (λ (span : Span). not (fits span.start span.width)) (get_or specs i d).spans.items ≡ false
spec_fits_at specs i d lt none = grind (arith, nat_tests, list_any_at (λ (spec : Spec). list_any (λ (span : Span). not (fits span.start span.width)) spec.spans.items) specs i d lt, list_any-map)

pub ruleset fit = (span_fits_at, spec_fits_at)

-- ---- runs

-- more runs
pub addresses_join : (runs more made : List Run) → made ≡ runs ++ more → run_addresses made ≡ run_addresses runs ++ run_addresses more
addresses_join runs more made e = ap run_addresses e ∙ flat_map-append (λ (run : Run). addresses_from 1 run.content run.first run.length) runs more

pub contents_join : (runs more made : List Run) → made ≡ runs ++ more → All IsContentRun runs → All IsContentRun more → All IsContentRun made
contents_join runs more made e all others = subst (All IsContentRun) (sym e) (All-append IsContentRun runs more all others)

pub ruleset run_steps = (addresses_join, contents_join)

-- one more piece, behind what was there at the start
pub more_at : {X Y : Type 0} (f : X → List Y) (xs slice : List X) (i : ℕ) (x : X) (start old new piece : List Y) → slice ≡ xs → i < length slice → x ≡ get_or slice i x → piece ≡ f x → new ≡ old ++ piece → old ≡ start ++ flat_map f (take i xs)
    → new ≡ start ++ flat_map f (take (i + 1) xs)
more_at {X} {Y} f xs slice i x start old new piece same lt at is pushed before =
    let here : i < length xs = subst (λ (ys : List X). i < length ys) same lt in
    let one : f x ≡ f (get_or xs i x) = ap f (at ∙ ap (λ (ys : List X). get_or ys i x) same) in
    pushed ∙ (λ k. before k ++ (is ∙ one) k) ∙ append_assoc start (flat_map f (take i xs)) (f (get_or xs i x))
    ∙ ap (λ (ys : List Y). start ++ ys) (sym (flat_map_at f xs i x here))

-- one more spec
pub spec_at : {Y : Type 0} (f : PlainSpec → List Y) (specs : List Spec) (i : ℕ) (spec : Spec) (old new piece : List Y) → i < length specs → spec ≡ get_or specs i spec → piece ≡ f (plain_spec spec) → new ≡ old ++ piece → old ≡ flat_map f (map plain_spec (take i specs))
    → new ≡ flat_map f (map plain_spec (take (i + 1) specs))
spec_at f specs i spec old new piece lt at is pushed before =
    pushed ∙ (λ k. before k ++ (is ∙ ap (λ (s : Spec). f (plain_spec s)) at) k) ∙ sym (flat_map_spec f specs i spec lt)

-- ---- no more than all

front_short : {X Y : Type 0} (f : X → List Y) (xs : List X) (n : ℕ) → length (flat_map f (take n xs)) ≤ length (flat_map f xs)
front_short f [] zero = omega arith
front_short f [] (suc n) = omega arith
front_short f (x ∷ xs) zero = omega arith
front_short f (x ∷ xs) (suc n) =
    let rest = front_short f xs n in
    let one = length-append (f x) (flat_map f (take n xs)) in
    let all = length-append (f x) (flat_map f xs) in
    omega (arith, rest, one, all)

pub front_of : {X Y : Type 0} (f : X → List Y) (xs : List X) (n : ℕ) (start made : List Y) → made ≡ start ++ flat_map f (take n xs) → length made ≤ length (start ++ flat_map f xs)
front_of f xs n start made is =
    let rest = front_short f xs n in
    let one = ap length is ∙ length-append start (flat_map f (take n xs)) in
    let all = length-append start (flat_map f xs) in
    omega (arith, rest, one, all)

-- as far as one spec more, all is no less
pub front_of_specs : {Y : Type 0} (f : PlainSpec → List Y) (specs : List Spec) (i : ℕ) (spec : Spec) (most : ℕ) (old made : List Y) → i < length specs → spec ≡ get_or specs i spec → old ≡ flat_map f (map plain_spec (take i specs))
    → most < length made → length made ≤ length (old ++ f (plain_spec spec)) → most < length (flat_map f (map plain_spec specs))
front_of_specs f specs i spec most old made lt at before past few =
    let to : old ++ f (plain_spec spec) ≡ flat_map f (map plain_spec (take (i + 1) specs)) = spec_at f specs i spec old (old ++ f (plain_spec spec)) (f (plain_spec spec)) lt at refl refl before in
    let short = front_short (λ (s : Spec). f (plain_spec s)) specs (i + 1) in
    let a = ap length (flat_map-map f plain_spec (take (i + 1) specs)) in
    let b = ap length (flat_map-map f plain_spec specs) in
    let c = ap length to in
    omega (arith, past, few, short, a, b, c)

pub many_seen : (most : ℕ) (wanted made : List Run) → wanted ≡ made → most < length made → nat_lt most (length wanted) ≡ true
many_seen most wanted made is past = ap (λ (runs : List Run). nat_lt most (length runs)) is ∙ lt-ltb most (length made) past
