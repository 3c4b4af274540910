-- Tests in their order: the first part of them decides, or the rest does.
use Rattle.std.proofs.Common.{◌≡◌, ◌+◌, ◌-◌, ◌^◌, ◌≤◌, ◌∙◌, Bool, true, false, List, [], ◌∷◌, ◌++◌, length, min, All, ap, arith, refl, sym, None, Some}
use Rattle.std.specs.Prelude.{ℕ, ◌||◌, nat_lt, not, is_none, Option, if◌then◌else◌}
use Rattle.std.specs.List.{list_any}
use Rattle.std.proofs.lemmas.Bool.Decides.{nat_tests}
use Rattle.std.proofs.lemmas.Option.{none-some}
use Rattle.tumbler.specs.Places.{IsTumbler}
use Rattle.febe_data.specs.declared.refusal.Refusal.{Refusal}
use Rattle.febe_data.specs.declared.refusal.Refusal.TheVariants.{NoSuchDocument, Private, NotOpen, BadAddress, TooLong}
use Rattle.febe_data.specs.LimitsView.{LimitsView}
use Rattle.febe_data.specs.Plain.{PlainSpec, relate}
use Rattle.febe_data.specs.Validity.{IsList}
use Rattle.world_rules.specs.World.{World, has_document, account_of_session, mode_of}
use Rattle.world_rules.specs.Readable.{is_readable_by}
use Rattle.world_rules.specs.Relation.{diagonals}
use Rattle.world_rules.specs.Refusals.{Check, first_holding, picking, has_bad_span, is_bad_span, is_too_long, lacks_document, hides_document, lacks_opening, wanted}

held_step : (holds : Bool) (own refusal : Refusal) (found more : Option Refusal) → (found ≡ Some refusal → more ≡ Some refusal)
    → (if holds then Some own else found) ≡ Some refusal → (if holds then Some own else more) ≡ Some refusal
held_step true own refusal found more goes held = held
held_step false own refusal found more goes held = goes held

pub held_first : (xs ys : List Check) (refusal : Refusal) → first_holding xs ≡ Some refusal → first_holding (xs ++ ys) ≡ Some refusal
held_first [] ys refusal held = absurd (none-some refusal held)
held_first (check ∷ xs) ys refusal held = held_step check.0 check.1 refusal (first_holding xs) (first_holding (xs ++ ys)) (held_first xs ys refusal) held

then_step : (holds : Bool) (own : Refusal) (found more rest : Option Refusal) → (found ≡ None → more ≡ rest)
    → (if holds then Some own else found) ≡ None → (if holds then Some own else more) ≡ rest
then_step true own found more rest goes none = absurd (none-some own (sym none))
then_step false own found more rest goes none = goes none

pub held_then : (xs ys : List Check) → first_holding xs ≡ None → first_holding (xs ++ ys) ≡ first_holding ys
held_then [] ys none = refl
held_then (check ∷ xs) ys none = then_step check.0 check.1 (first_holding xs) (first_holding (xs ++ ys)) (first_holding ys) (held_then xs ys) none

-- a test that does not hold leaves it to the others
pub first_fails : (holds : Bool) (refusal : Refusal) (xs : List Check) → first_holding ((holds, refusal) ∷ xs) ≡ None → (holds ≡ false) × (first_holding xs ≡ None)
first_fails true refusal xs none = absurd (none-some refusal (sym none))
first_fails false refusal xs none = (refl, none)

-- specs that are picked from have no bad span
pub picking_fits : (world : World) (session : ℕ) (specs : List PlainSpec) → first_holding (picking world session specs) ≡ None → has_bad_span specs ≡ false
picking_fits world session specs none =
    let there = first_fails (lacks_document world specs) NoSuchDocument ((hides_document world session specs, Private) ∷ (lacks_opening world session specs, NotOpen) ∷ (has_bad_span specs, BadAddress) ∷ []) none in
    let shown = first_fails (hides_document world session specs) Private ((lacks_opening world session specs, NotOpen) ∷ (has_bad_span specs, BadAddress) ∷ []) there.1 in
    let open_too = first_fails (lacks_opening world session specs) NotOpen ((has_bad_span specs, BadAddress) ∷ []) shown.1 in
    (first_fails (has_bad_span specs) BadAddress [] open_too.1).0

-- three spec sets are as the one of all their specs
any-append : {X : Type 0} (p : X → Bool) (xs ys : List X) → list_any p (xs ++ ys) ≡ (list_any p xs || list_any p ys)
any-append p [] ys = refl
any-append p (x ∷ xs) ys = step (p x) (any-append p xs ys)
  where
    step : (b : Bool) → list_any p (xs ++ ys) ≡ (list_any p xs || list_any p ys) → (b || list_any p (xs ++ ys)) ≡ ((b || list_any p xs) || list_any p ys)
    step true rest = refl
    step false rest = rest

pub lacks-append : (world : World) (xs ys : List PlainSpec) → lacks_document world (xs ++ ys) ≡ (lacks_document world xs || lacks_document world ys)
lacks-append world xs ys = any-append (λ (spec : PlainSpec). not (has_document world spec.document)) xs ys

pub closed-append : (world : World) (session : ℕ) (xs ys : List PlainSpec) → lacks_opening world session (xs ++ ys) ≡ (lacks_opening world session xs || lacks_opening world session ys)
closed-append world session xs ys = any-append (λ (spec : PlainSpec). is_none (mode_of world session spec.document)) xs ys

pub hides-append : (world : World) (session : ℕ) (xs ys : List PlainSpec) → hides_document world session (xs ++ ys) ≡ (hides_document world session xs || hides_document world session ys)
hides-append world session xs ys = any-append (λ (spec : PlainSpec). not (is_readable_by world.published (account_of_session world session) spec.document)) xs ys

pub bad-append : (xs ys : List PlainSpec) → has_bad_span (xs ++ ys) ≡ (has_bad_span xs || has_bad_span ys)
bad-append xs ys = any-append (λ (spec : PlainSpec). list_any is_bad_span spec.spans) xs ys

pub ruleset three_sets = (lacks-append, hides-append, closed-append, bad-append)

pub ruleset refusals = (held_first, held_then, picking_fits)

-- numbers that are counted up to a greatest one
pub too_many : (a b c : ℕ) → nat_lt 65536 (min (min (a + b) (2 ^ 64 - 1) + c) (2 ^ 64 - 1)) ≡ nat_lt 65536 (a + b + c)
too_many a b c = grind (arith, nat_tests)

-- ---- replies

few_from : (n : ℕ) → nat_lt 65536 n ≡ false → n ≤ 65536
few_from n e = grind (arith, nat_tests)

pub are_listed : (tumblers : List (List ℕ)) → nat_lt 65536 (length tumblers) ≡ false → All IsTumbler tumblers → IsList IsTumbler tumblers
are_listed tumblers short each = record { few = few_from (length tumblers) short; each = each }

pub ruleset served = (held_first, held_then, are_listed)

-- ---- relations

-- where what is read is not refused, no span is bad
pub spans_fit : (world : World) (session : ℕ) (left right : PlainSpec) → first_holding (picking world session (left ∷ right ∷ [])) ≡ None
    → (list_any is_bad_span left.spans ≡ false) × (list_any is_bad_span right.spans ≡ false)
spans_fit world session left right none = go (lacks_document world (left ∷ right ∷ [])) (hides_document world session (left ∷ right ∷ [])) (lacks_opening world session (left ∷ right ∷ [])) (list_any is_bad_span left.spans) (list_any is_bad_span right.spans) none
  where
    go : (a h b l r : Bool) → first_holding ((a, NoSuchDocument) ∷ (h, Private) ∷ (b, NotOpen) ∷ (l || (r || false), BadAddress) ∷ []) ≡ None → (l ≡ false) × (r ≡ false)
    go true h b l r e = absurd cc
    go false true b l r e = absurd cc
    go false false true l r e = absurd cc
    go false false false true r e = absurd cc
    go false false false false true e = absurd cc
    go false false false false false e = (refl, refl)

pub too_many_diagonals : (limits : LimitsView) (counted : ℕ) (world : World) (session : ℕ) (left right : PlainSpec) → first_holding (picking world session (left ∷ right ∷ [])) ≡ None → is_too_long (length (diagonals world left right)) ≡ true
    → wanted limits counted world session (relate left right) ≡ Some TooLong
too_many_diagonals limits counted world session left right none long =
    held_then (picking world session (left ∷ right ∷ [])) ((is_too_long (length (diagonals world left right)), TooLong) ∷ []) none ∙ ap (λ (b : Bool). if b then Some TooLong else None) long

pub few_diagonals : (limits : LimitsView) (counted : ℕ) (world : World) (session : ℕ) (left right : PlainSpec) → first_holding (picking world session (left ∷ right ∷ [])) ≡ None → is_too_long (length (diagonals world left right)) ≡ false
    → wanted limits counted world session (relate left right) ≡ None
few_diagonals limits counted world session left right none short =
    held_then (picking world session (left ∷ right ∷ [])) ((is_too_long (length (diagonals world left right)), TooLong) ∷ []) none ∙ ap (λ (b : Bool). if b then Some TooLong else None) short

pub relate_refused : (limits : LimitsView) (counted : ℕ) (world : World) (session : ℕ) (left right : PlainSpec) (refusal : Refusal) → first_holding (picking world session (left ∷ right ∷ [])) ≡ Some refusal
    → wanted limits counted world session (relate left right) ≡ Some refusal
relate_refused limits counted world session left right refusal e = held_first (picking world session (left ∷ right ∷ [])) ((is_too_long (length (diagonals world left right)), TooLong) ∷ []) refusal e

pub ruleset relate_steps = (spans_fit, relate_refused, too_many_diagonals, few_diagonals)
