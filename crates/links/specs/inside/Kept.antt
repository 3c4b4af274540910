-- The links that are kept, and how many there are of each home.
use Rattle.std.specs.Prelude.{◌≡◌, ℕ, ◌<◌, Bool, true, slice_index_or, List, [], ◌∷◌, ◌++◌, ◌&&◌, if◌then◌else◌, map, filter, length, Option, Some, None}
use Rattle.std.specs.Ordering.{nat_cmp}
use Rattle.std.specs.Cmp.Lexicographic.{slice_cmp}
use Rattle.std.specs.List.{prefix_len}
use Rattle.std.specs.List.Sorted.{IsStrictlySortedBy, IsPermutation}
use Rattle.std.specs.BTreeMap.{BTreeMap}
use Rattle.std.specs.declared.boxed.Box.{Box}
use Rattle.tumbler.specs.Places.{comes_before}
use Rattle.tumbler.specs.declared.span.Span.{Span}
use Rattle.enfilade_core.specs.declared.tree.Row.{Row}
use Rattle.spanfilade.specs.Index.{IndexTree, rows_in_index}
use Rattle.world_rules.specs.World.{LinkRow, is_same}
use Rattle.world_rules.specs.Counting.{count_in}
use Rattle.links.specs.declared.row.LinkRow as kept
use Rattle.links.specs.declared.row.WantedEnds.{WantedEnds}
use Rattle.links.specs.LinkLists.{plain_link, ids_in, link_in, count_of_home_in}
use Rattle.links.specs.Finding.{is_wanted}

-- what a boxed link shows
abbrev pub shown : {A : Type 0} → Box kept.LinkRow A → LinkRow
shown boxed = plain_link boxed.value

abbrev pub unboxed : {A : Type 0} → List (Box kept.LinkRow A) → List LinkRow
unboxed boxes = map shown boxes

-- ids ascend, each once
abbrev pub IsAscending : List (List ℕ) → Type 0
IsAscending ids = IsStrictlySortedBy (slice_cmp nat_cmp) ids

-- at each home is kept how many links have it
abbrev pub HoldsCounts : List LinkRow → BTreeMap (List ℕ) ℕ → Type 0
HoldsCounts links counts = (home : List ℕ) → count_in counts home ≡ count_of_home_in links home

-- the link's id comes before this one
abbrev pub is_before : {A : Type 0} → List ℕ → Box kept.LinkRow A → Bool
is_before id boxed = comes_before boxed.value.id id

-- the link at this place has the id, and those before it have lesser ones
pub record IsAt {A : Type 0} (id : List ℕ) (boxes : List (Box kept.LinkRow A)) (at : ℕ) : Type 0 where
  pub place : at ≡ prefix_len (is_before id) boxes
  pub within : at < length boxes
  pub own : (d : Box kept.LinkRow A) → is_same (slice_index_or boxes at d).value.id id ≡ true

-- ---- an index that changes

-- rows came in beside those that were there
abbrev pub AddsRows : List (Row (List ℕ)) → IndexTree → IndexTree → Type 0
AddsRows rows old new = IsPermutation (rows ++ rows_in_index old) (rows_in_index new)

-- the tree has the rows and the root that it had
abbrev pub KeepsTree : IndexTree → IndexTree → Type 0
KeepsTree old new = (new.root ≡ old.root) × (rows_in_index new ≡ rows_in_index old)

-- ---- ids that can be found

-- ids of links, with each that is wanted among them
pub record Hold (links : List LinkRow) (ends : WantedEnds) (ids : List (List ℕ)) : Type 0 where
  pub can_be : LinkRow → Bool
  pub are : ids ≡ ids_in (filter can_be links)
  pub all : (homes : List Span) (link : LinkRow) → is_wanted homes ends link ≡ true → can_be link ≡ true

-- the id of a link that is above the bound and wanted, or none
abbrev pub taken : List Span → WantedEnds → List ℕ → LinkRow → List (List ℕ)
taken homes ends after link = if comes_before after link.id && is_wanted homes ends link then link.id ∷ [] else []

-- the same of a link that was looked up
abbrev pub taken_if : List Span → WantedEnds → List ℕ → Option LinkRow → List (List ℕ)
taken_if homes ends after None = []
taken_if homes ends after (Some link) = taken homes ends after link

abbrev pub taken_at : List LinkRow → List Span → WantedEnds → List ℕ → List ℕ → List (List ℕ)
taken_at links homes ends after id = taken_if homes ends after (link_in links id)
