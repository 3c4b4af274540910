-- An index of bytes: addresses come in, their bytes are found, and all are there for what was picked.
use Rattle.std.proofs.Common.{◌≡◌, ℕ, ◌+◌, ◌<◌, ◌≤◌, ◌∙◌, ◌++◌, ◌∷◌, [], List, length, take, drop, get_or, ap, sym, refl, map, Some, None, cond, Bool, true, false, All}
use Rattle.std.specs.Prelude.{Option, filter}
use Rattle.std.specs.List.{flat_map}
use Rattle.std.specs.BTreeMap.{Updates, is_at}
use Rattle.std.specs.Ordering.{nat_cmp}
use Rattle.std.specs.Cmp.Lexicographic.{slice_cmp, texts_ties}
use Rattle.std.proofs.lemmas.List.{take_all, take-append-drop, map-append}
use Rattle.std.proofs.lemmas.List.Concat.{flat_map-append}
use Rattle.std.proofs.lemmas.List.Folds.{flat_map-map}
use Rattle.std.proofs.lemmas.List.Elements.{All-nil, All-cons, All-head, All-tail, All-same, All-append, All-weaker}
use Rattle.febe_data.specs.declared.spec.Spec.{Spec}
use Rattle.febe_data.specs.Plain.{PlainSpec, plain_spec}
use Rattle.world_rules.specs.declared.rows.ByteRow.{ByteRow}
use Rattle.world_rules.specs.declared.rows.Row.{Row}
use Rattle.world_rules.specs.World.{is_same}
use Rattle.flat_world.specs.inside.ByteIndex.{ByteIndex, entry_at, IsWanted, WantsMore, TakesByte}
use Rattle.world_rules.specs.Picking.{addresses_of}
use Rattle.world_rules.proofs.ListTests.{flat_map_at, flat_map_spec}
use Rattle.flat_rows.proofs.Picked.{filter_more_yes, filter_more_no}

-- ---- addresses come in

pub wants_none : (index : ByteIndex) → WantsMore [] index index
wants_none index = record { kept = λ address wanted. wanted; added = All-nil (IsWanted index) }

wants_both : (first second : List (List ℕ)) (old mid new : ByteIndex) → WantsMore first old mid → WantsMore second mid new → WantsMore (first ++ second) old new
wants_both first second old mid new before after = record {
  kept = λ address wanted. after.kept address (before.kept address wanted);
  added = All-append (IsWanted new) first second (All-weaker (IsWanted mid) (IsWanted new) after.kept first before.added) after.added;
}

wants_key : (old new : ByteIndex) (key : List ℕ) → Updates (slice_cmp nat_cmp) old new key (Some None) → WantsMore (key ∷ []) old new
wants_key old new key updates = record {
  kept = λ address wanted. updates.0 address ∙ either (is_at (slice_cmp nat_cmp key) address) (entry_at old address) wanted;
  added = All-cons (IsWanted new) key [] updates.1 (All-nil (IsWanted new));
}
  where
    either : (b : Bool) (had : Option (Option ℕ)) → had ≡ Some None → cond b (Some None) had ≡ Some None
    either true had wanted = refl
    either false had wanted = wanted

-- the address of a row more, where it passes and where it does not
pub wants_yes : (p : Row → Bool) (rows : List Row) (i : ℕ) (row : Row) (key : List ℕ) (first old new : ByteIndex) → i < length rows → row ≡ get_or rows i row → p row ≡ true → key ≡ row.address
    → WantsMore (addresses_of (filter p (take i rows))) first old → Updates (slice_cmp nat_cmp) old new key (Some None) → WantsMore (addresses_of (filter p (take (i + 1) rows))) first new
wants_yes p rows i row key first old new lt here passes is before updates =
    let more : filter p (take (i + 1) rows) ≡ filter p (take i rows) ++ row ∷ [] = filter_more_yes p rows i row lt (ap p (sym here) ∙ passes) ∙ ap (λ (r : Row). filter p (take i rows) ++ r ∷ []) (sym here) in
    let added : addresses_of (filter p (take (i + 1) rows)) ≡ addresses_of (filter p (take i rows)) ++ key ∷ [] = rw (more, map-append, is) refl in
    rw added (wants_both (addresses_of (filter p (take i rows))) (key ∷ []) first old new before (wants_key old new key updates))

pub wants_no : (p : Row → Bool) (rows : List Row) (i : ℕ) (row : Row) (first old : ByteIndex) → i < length rows → row ≡ get_or rows i row → p row ≡ false
    → WantsMore (addresses_of (filter p (take i rows))) first old → WantsMore (addresses_of (filter p (take (i + 1) rows))) first old
wants_no p rows i row first old lt here fails before = rw (filter_more_no p rows i row lt (ap p (sym here) ∙ fails)) before

-- those of a span more, and of a spec more
pub wants_at : {X : Type 0} (f : X → List (List ℕ)) (xs : List X) (i : ℕ) (x : X) (first old new : ByteIndex) → i < length xs → x ≡ get_or xs i x
    → WantsMore (flat_map f (take i xs)) first old → WantsMore (f x) old new → WantsMore (flat_map f (take (i + 1) xs)) first new
wants_at f xs i x first old new lt here before after = rw (flat_map_at f xs i x lt, sym here) (wants_both (flat_map f (take i xs)) (f x) first old new before after)

pub wants_at_spec : (f : PlainSpec → List (List ℕ)) (specs : List Spec) (i : ℕ) (spec : Spec) (first old new : ByteIndex) → i < length specs → spec ≡ get_or specs i spec
    → WantsMore (flat_map f (map plain_spec (take i specs))) first old → WantsMore (f (plain_spec spec)) old new → WantsMore (flat_map f (map plain_spec (take (i + 1) specs))) first new
wants_at_spec f specs i spec first old new lt here before after =
    rw (flat_map_spec f specs i spec lt, sym here) (wants_both (flat_map f (map plain_spec (take i specs))) (f (plain_spec spec)) first old new before after)

-- those of all of them
pub wants_all : {X : Type 0} (f : List X → List (List ℕ)) (xs : List X) (i : ℕ) (first new : ByteIndex) → length xs ≤ i → WantsMore (f (take i xs)) first new → WantsMore (f xs) first new
wants_all f xs i first new past before = rw (take_all i xs past) at before

-- ---- bytes are found

-- a row whose address the index has
pub taken : (row : ByteRow) (old new : ByteIndex) → Updates (slice_cmp nat_cmp) old new row.address (Some (Some row.byte)) → TakesByte row old new
taken row old new updates address found has =
    updates.0 address
    ∙ ap (λ (had : Option (Option ℕ)). cond (is_at (slice_cmp nat_cmp row.address) address) (Some (Some row.byte)) had) has
    ∙ ap (λ (same : Bool). cond same (Some (Some row.byte)) (Some found)) (sym (texts_ties row.address address))
    ∙ inside (is_same row.address address)
  where
    inside : (same : Bool) → cond same (Some (Some row.byte)) (Some found) ≡ Some (cond same (Some row.byte) found)
    inside true = refl
    inside false = refl

-- ---- all are there

left_all : {X : Type 0} (P : X → Type 0) (xs ys : List X) → All P (xs ++ ys) → All P xs
left_all P [] ys all = All-nil P
left_all P (x ∷ xs) ys all = All-cons P x xs (All-head P x (xs ++ ys) all) (left_all P xs ys (All-tail P x (xs ++ ys) all))

right_all : {X : Type 0} (P : X → Type 0) (xs ys : List X) → All P (xs ++ ys) → All P ys
right_all P [] ys all = all
right_all P (x ∷ xs) ys all = right_all P xs ys (All-tail P x (xs ++ ys) all)

-- what holds of all of a list of lists holds of all of each
pub all_at : {X Y : Type 0} (P : Y → Type 0) (f : X → List Y) (xs : List X) (i : ℕ) (x : X) → i < length xs → x ≡ get_or xs i x → All P (flat_map f xs) → All P (f x)
all_at P f xs i x lt here all =
    let whole : flat_map f (take (i + 1) xs) ++ flat_map f (drop (i + 1) xs) ≡ flat_map f xs = sym (flat_map-append f (take (i + 1) xs) (drop (i + 1) xs)) ∙ ap (flat_map f) (take-append-drop (i + 1) xs) in
    let front : All P (flat_map f (take (i + 1) xs)) = left_all P (flat_map f (take (i + 1) xs)) (flat_map f (drop (i + 1) xs)) (All-same P _ _ whole all) in
    let more : flat_map f (take i xs) ++ f x ≡ flat_map f (take (i + 1) xs) = ap (λ (y : _). flat_map f (take i xs) ++ f y) here ∙ sym (flat_map_at f xs i x lt) in
    right_all P (flat_map f (take i xs)) (f x) (All-same P _ _ more front)

pub all_at_spec : (P : List ℕ → Type 0) (f : PlainSpec → List (List ℕ)) (specs : List Spec) (i : ℕ) (spec : Spec) → i < length specs → spec ≡ get_or specs i spec
    → All P (flat_map f (map plain_spec specs)) → All P (f (plain_spec spec))
all_at_spec P f specs i spec lt here all = all_at P (λ (s : Spec). f (plain_spec s)) specs i spec lt here (All-same P _ _ (sym (flat_map-map f plain_spec specs)) all)
