-- What stands in a text after many things were written, one behind the other, and what is still to be written.
use Rattle.std.proofs.Common.{◌≡◌, ℕ, ◌+◌, ◌<◌, ◌≤◌, List, [], ◌∷◌, ◌++◌, length, map, take, drop, get_or, All, refl, sym, ap, subst, ◌∙◌, append_assoc}
use Rattle.std.specs.List.{flat_map}
use Rattle.std.proofs.lemmas.List.{append-nil, take_more, map_more, drop_more, drop_all, get_or-map, length-map}
use Rattle.std.proofs.lemmas.List.Elements.{All-nil, All-cons, All-append}
use Rattle.std.proofs.lemmas.List.Concat.{flat_map-append}

-- the text goes on with these things, and each of them can be written
pub record AreWritten {X : Type 0} (P : X → Type 0) (spell : X → List ℕ) (start now : List ℕ) (xs : List X) : Type 0 where
  pub spelled : now ≡ start ++ flat_map spell xs
  pub right : All P xs

pub none_written : {X : Type 0} (P : X → Type 0) (spell : X → List ℕ) (start : List ℕ) → AreWritten P spell start start []
none_written P spell start = record { spelled = sym (append-nil start); right = All-nil P }

one_written : {X : Type 0} (P : X → Type 0) (spell : X → List ℕ) (start now next : List ℕ) (xs : List X) (x : X) → AreWritten P spell start now xs → next ≡ now ++ spell x → P x → AreWritten P spell start next (xs ++ x ∷ [])
one_written P spell start now next xs x before spelled right = record {
  spelled = spelled ∙ ap (λ (ds : List ℕ). ds ++ spell x) before.spelled ∙ append_assoc start (flat_map spell xs) (spell x)
      ∙ ap (λ (ds : List ℕ). start ++ ds) (ap (λ (ds : List ℕ). flat_map spell xs ++ ds) (sym (append-nil (spell x))) ∙ sym (flat_map-append spell xs (x ∷ [])));
  right = All-append P xs (x ∷ []) before.right (All-cons P x [] right (All-nil P));
}

pub more_written : {X : Type 0} (P : X → Type 0) (spell : X → List ℕ) (start now next : List ℕ) (xs : List X) (i : ℕ) (x : X) → i < length xs → x ≡ get_or xs i x
    → AreWritten P spell start now (take i xs) → next ≡ now ++ spell x → P x → AreWritten P spell start next (take (i + 1) xs)
more_written P spell start now next xs i x lt is before spelled right =
    subst (AreWritten P spell start next) (ap (λ (y : _). take i xs ++ y ∷ []) is ∙ sym (take_more xs i x lt)) (one_written P spell start now next (take i xs) x before spelled right)

pub more_seen_written : {X Y : Type 0} (P : Y → Type 0) (spell : Y → List ℕ) (view : X → Y) (start now next : List ℕ) (xs : List X) (i : ℕ) (x : X) → i < length xs → x ≡ get_or xs i x
    → AreWritten P spell start now (map view (take i xs)) → next ≡ now ++ spell (view x) → P (view x) → AreWritten P spell start next (map view (take (i + 1) xs))
more_seen_written {X} P spell view start now next xs i x lt is before spelled right =
    subst (AreWritten P spell start next) (ap (λ (y : X). map view (take i xs) ++ view y ∷ []) is ∙ sym (map_more view xs i x lt)) (one_written P spell start now next (map view (take i xs)) (view x) before spelled right)

-- what holds of all that is seen holds of each
pub seen_right : {X Y : Type 0} (P : Y → Type 0) (view : X → Y) (xs : List X) (i : ℕ) (x : X) → i < length xs → x ≡ get_or xs i x → All P (map view xs) → P (view x)
seen_right P view xs i x lt is all =
    subst P (get_or-map view xs i x (view x) lt ∙ ap view (sym is)) (all i (view x) (rw length-map lt))

-- with what is still to be written the text is what it is to be, and where each of that can be written each of all can
pub record AreToCome {X : Type 0} (P : X → Type 0) (spell : X → List ℕ) (start now : List ℕ) (xs rest : List X) : Type 0 where
  pub spelled : now ++ flat_map spell rest ≡ start ++ flat_map spell xs
  pub right : All P rest → All P xs

pub all_to_come : {X : Type 0} (P : X → Type 0) (spell : X → List ℕ) (start : List ℕ) (xs : List X) → AreToCome P spell start start xs xs
all_to_come P spell start xs = record { spelled = refl; right = λ h. h }

pub fewer_to_come : {X : Type 0} (P : X → Type 0) (spell : X → List ℕ) (start now next : List ℕ) (from nodes : List X) (i : ℕ) (x d : X) → i < length nodes → x ≡ get_or nodes i d
    → AreToCome P spell start now from (drop i nodes) → next ≡ now ++ spell x → P x → AreToCome P spell start next from (drop (i + 1) nodes)
fewer_to_come {X} P spell start now next from nodes i x d lt is before spelled right =
    let rest : List X = drop (i + 1) nodes in
    let split : drop i nodes ≡ x ∷ rest = drop_more nodes i d lt ∙ ap (λ (y : X). y ∷ rest) (sym is) in
    record {
      spelled = ap (λ (ds : List ℕ). ds ++ flat_map spell rest) spelled ∙ append_assoc now (spell x) (flat_map spell rest) ∙ ap (λ (ys : List X). now ++ flat_map spell ys) (sym split) ∙ before.spelled;
      right = λ h. before.right (subst (All P) (sym split) (All-cons P x rest right h));
    }

pub none_to_come : {X : Type 0} (P : X → Type 0) (spell : X → List ℕ) (start now : List ℕ) (from nodes : List X) (i : ℕ) → length nodes ≤ i
    → AreToCome P spell start now from (drop i nodes) → (now ≡ start ++ flat_map spell from) × All P from
none_to_come {X} P spell start now from nodes i past before =
    let none : drop i nodes ≡ [] = drop_all i nodes past in (
      sym (append-nil now) ∙ ap (λ (ys : List X). now ++ flat_map spell ys) (sym none) ∙ before.spelled,
      before.right (subst (All P) (sym none) (All-nil P)),
    )
