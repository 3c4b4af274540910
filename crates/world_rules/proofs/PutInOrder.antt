-- Addresses that come in one after the other stand in ascending order.
use Rattle.std.proofs.Common.{◌≡◌, ℕ, ◌∙◌, ◌||◌, Bool, List, [], ◌∷◌, ap, sym, refl, All}
use Rattle.std.specs.List.{fold, list_any, AllPairs}
use Rattle.std.specs.declared.cmp.Ordering.{Ordering}
use Rattle.std.specs.declared.cmp.Ordering.TheVariants.{Less, Equal, Greater}
use Rattle.std.specs.Ordering.{nat_cmp, match_ordering, ordering_reverse, is_eq}
use Rattle.std.specs.Cmp.Lexicographic.{slice_cmp, nat_list_cmp_total, bytes_decides, texts_ties}
use Rattle.std.specs.BTreeSet.{insert_key}
use Rattle.std.proofs.lemmas.List.Elements.{All-nil, All-cons, All-weaker}
use Rattle.std.proofs.lemmas.List.Kept.{AllPairs-cons}
use Rattle.std.proofs.lemmas.Map.Views.{All-insert_key}
use Rattle.tumbler.proofs.OrLaws.{or_again, or_across, or_aside, or_none}
use Rattle.world_rules.specs.World.{is_same}
use Rattle.world_rules.specs.Laws.{PutsInOrder}
use Rattle.world_rules.proofs.Later.{none_later, after_first, without_first}

abbrev IsBelow : List ℕ → List ℕ → Type 0
IsBelow address later = slice_cmp nat_cmp address later ≡ Less

-- ---- the order

below_first : (x : List ℕ) (xs : List (List ℕ)) (address : List ℕ) → IsBelow address x → AllPairs IsBelow (x ∷ xs) → All (IsBelow address) (x ∷ xs)
below_first x xs address lt each =
    All-cons (IsBelow address) x xs lt (All-weaker (IsBelow x) (IsBelow address) (λ y more. nat_list_cmp_total.trans address x y lt more) xs (after_first IsBelow x xs each))

inserted_ascends : (all : List (List ℕ)) (address : List ℕ) → AllPairs IsBelow all → AllPairs IsBelow (insert_key (slice_cmp nat_cmp) all address)
inserted_ascends [] address each = AllPairs-cons IsBelow address [] (All-nil (IsBelow address)) each
inserted_ascends (x ∷ xs) address each = by_order (slice_cmp nat_cmp address x) refl (inserted_ascends xs address (without_first IsBelow x xs each))
  where
    by_order : (r : Ordering) → slice_cmp nat_cmp address x ≡ r → AllPairs IsBelow (insert_key (slice_cmp nat_cmp) xs address)
        → AllPairs IsBelow (match_ordering r (address ∷ x ∷ xs) (x ∷ xs) (x ∷ insert_key (slice_cmp nat_cmp) xs address))
    by_order Less e rest = AllPairs-cons IsBelow address (x ∷ xs) (below_first x xs address e each) each
    by_order Equal e rest = each
    by_order Greater e rest =
        AllPairs-cons IsBelow x (insert_key (slice_cmp nat_cmp) xs address)
        (All-insert_key (slice_cmp nat_cmp) address (IsBelow x) xs (after_first IsBelow x xs each) (nat_list_cmp_total.antisymm x address ∙ ap ordering_reverse e))
        rest

fold_ascends : (addresses all : List (List ℕ)) → AllPairs IsBelow all → AllPairs IsBelow (fold (insert_key (slice_cmp nat_cmp)) all addresses)
fold_ascends [] all each = each
fold_ascends (address ∷ addresses) all each = fold_ascends addresses (insert_key (slice_cmp nat_cmp) all address) (inserted_ascends all address each)

-- ---- the addresses

abbrev is_among : List (List ℕ) → List ℕ → Bool
is_among addresses address = list_any (is_same address) addresses

inserted_among : (all : List (List ℕ)) (address other : List ℕ) → is_among (insert_key (slice_cmp nat_cmp) all address) other ≡ (is_same other address || is_among all other)
inserted_among [] address other = refl
inserted_among (x ∷ xs) address other = by_order (slice_cmp nat_cmp address x) refl (inserted_among xs address other)
  where
    by_order : (r : Ordering) → slice_cmp nat_cmp address x ≡ r → is_among (insert_key (slice_cmp nat_cmp) xs address) other ≡ (is_same other address || is_among xs other)
        → is_among (match_ordering r (address ∷ x ∷ xs) (x ∷ xs) (x ∷ insert_key (slice_cmp nat_cmp) xs address)) other ≡ (is_same other address || (is_same other x || is_among xs other))
    by_order Less e rest = refl
    by_order Equal e rest =
        let same : address ≡ x = (bytes_decides address x).0 (texts_ties address x ∙ ap is_eq e) in
        or_again (is_same other x) (is_among xs other) ∙ ap (λ (a : List ℕ). is_same other a || (is_same other x || is_among xs other)) (sym same)
    by_order Greater e rest = ap (λ (b : Bool). is_same other x || b) rest ∙ or_across (is_same other x) (is_same other address) (is_among xs other)

fold_among : (addresses all : List (List ℕ)) (other : List ℕ) → is_among (fold (insert_key (slice_cmp nat_cmp)) all addresses) other ≡ (is_among all other || is_among addresses other)
fold_among [] all other = or_none (is_among all other)
fold_among (address ∷ addresses) all other =
    fold_among addresses (insert_key (slice_cmp nat_cmp) all address) other
    ∙ ap (λ (b : Bool). b || is_among addresses other) (inserted_among all address other)
    ∙ or_aside (is_same other address) (is_among all other) (is_among addresses other)

pub puts_in_order : PutsInOrder
puts_in_order addresses = record { same = λ address. fold_among addresses [] address; ascends = fold_ascends addresses [] (none_later IsBelow) }
