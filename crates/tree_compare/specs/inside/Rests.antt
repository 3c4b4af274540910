-- What is left behind a place in lists that are laid out one after another.
use Rattle.std.specs.Prelude.{◌≡◌, ℕ, ◌+◌, ◌<◌, ◌≤◌, List, length, drop, slice_index_or}
use Rattle.std.specs.List.{flat_map}
use Rattle.tree_compare.specs.declared.place.Place.{Place}

-- the elements behind a place
abbrev pub rest : {X A : Type 0} → (X → List A) → List X → Place → List A
rest lay items place = drop place.within (flat_map lay (drop place.item items))

-- the place so many elements behind another one, in an item of `long` of them; behind the last one it is in front of the
-- next item
pub record IsBehind (place : Place) (count long : ℕ) (next : Place) : Type 0 where
  pub stays : place.within + count < long → (next.item ≡ place.item) × (next.within ≡ place.within + count)
  pub passes : long ≤ place.within + count → (next.item ≡ place.item + 1) × (next.within ≡ 0)

-- where the place is in an item, it is in front of one of the item's elements
pub record IsPlace {X : Type 0} (count : X → ℕ) (items : List X) (place : Place) : Type 0 where
  pub up_to : place.item ≤ length items
  pub inside : (item : X) → place.item < length items → item ≡ slice_index_or items place.item item → place.within < count item

-- two lists are equal just where what is behind two places is
pub record GoTogether {X A : Type 0} (lay : X → List A) (one other : List X) (left right : Place) : Type 0 where
  pub onward : flat_map lay one ≡ flat_map lay other → rest lay one left ≡ rest lay other right
  pub back : rest lay one left ≡ rest lay other right → flat_map lay one ≡ flat_map lay other

-- how far two lists were gone through side by side
pub record AreBeside {X A : Type 0} (lay : X → List A) (count : X → ℕ) (one other : List X) (left right : Place) : Type 0 where
  pub together : GoTogether lay one other left right
  pub here : IsPlace count one left
  pub there : IsPlace count other right
