-- Nothing that is asked of a world rests on the order of its documents and links.
use Rattle.std.proofs.Common.{◌≡◌, ℕ, ◌+◌, ◌∙◌, ◌&&◌, Bool, List, [], ◌∷◌, ◌++◌, length, map, Option, Some, None, cond, refl, sym, ap, subst, IsPermutation}
use Rattle.std.specs.Prelude.{count_by}
use Rattle.std.specs.List.{filter}
use Rattle.std.proofs.lemmas.List.Sorted.{IsPermutation-refl, list_any-IsPermutation, sum_by-IsPermutation}
use Rattle.std.proofs.lemmas.List.Sums.{length-filter}
use Rattle.febe_data.specs.Plain.{PlainSpec, PlainWant}
use Rattle.world_rules.specs.declared.rows.Row.{Row}
use Rattle.world_rules.specs.declared.ends.End.{End}
use Rattle.world_rules.specs.World.{World, LinkRow, is_child_of, is_same, next_below, links_made_in}
use Rattle.world_rules.specs.Readable.{is_readable}
use Rattle.world_rules.specs.Picking.{picked_addresses, picked_once, is_in_runs, intervals, places_of}
use Rattle.world_rules.specs.Finding.{shows_one_of, documents_found, is_wanted, links_found, ids_found, link_at}
use Rattle.world_rules.specs.Ends.{runs_of_end, is_in_end, end_set_of, end_set}
use Rattle.world_rules.specs.Answers.{follow_of}
use Rattle.world_rules.specs.FlatView.{FlatView}
use Rattle.world_rows.specs.Turned.{IsTurned, IsTurnedOf, with_lists}
use Rattle.world_rows.proofs.Ascends.{moved_ascending, moved_addresses}

-- a view is a turned one of itself
unturned : (view : FlatView) → IsTurned view view
unturned view = record {
  documents = IsPermutation-refl view.world.documents;
  links = IsPermutation-refl view.world.links;
  by_id = λ reads id. refl;
  rest = refl;
}

pub of_itself : (stands : FlatView → Type 0) (view : FlatView) → stands view → IsTurnedOf stands view
of_itself stands view stood = record { base = view; stood = stood; turned = unturned view }

-- what holds of a view with these documents and links holds of a turned one
pub turned_has : (P : FlatView → Type 0) (view other : FlatView) → IsTurned view other → P (record view { world = with_lists view.world other.world.documents other.world.links }) → P other
turned_has P view other turned has = subst P (sym turned.rest) has

as_many : {X : Type 0} (p : X → Bool) (xs ys : List X) → IsPermutation xs ys → count_by p xs ≡ count_by p ys
as_many p xs ys moved = sym (sum_by-IsPermutation (λ x. cond (p x) 1 0) xs ys moved)

-- ---- documents

-- the next address below one
pub next_moved : (documents others : List (List ℕ)) (front : List ℕ) → IsPermutation documents others → next_below documents front ≡ next_below others front
next_moved documents others front moved = ap (λ (n : ℕ). front ++ (n + 1) ∷ []) (as_many (is_child_of front) documents others moved)

-- the documents that show something
pub found_moved : (view other : FlatView) (session : ℕ) (specs : List PlainSpec) → IsTurned view other → documents_found view.world session specs ≡ documents_found other.world session specs
found_moved view other session specs turned =
    turned_has (λ v. documents_found view.world session specs ≡ documents_found v.world session specs) view other turned
    (moved_ascending (λ (document : List ℕ). is_readable view.world session document && shows_one_of view.world (picked_addresses view.world specs) document) view.world.documents other.world.documents turned.documents)

-- ---- links

-- how many a home has
pub made_moved : (view other : FlatView) (home : List ℕ) → IsTurned view other → links_made_in view.world home ≡ links_made_in other.world home
made_moved view other home turned = as_many (λ (l : LinkRow). is_same l.home home) view.world.links other.world.links turned.links

-- how many are wanted whose home is read, and their ids
abbrev is_found : World → ℕ → PlainWant → LinkRow → Bool
is_found world session want link = is_readable world session link.home && is_wanted world want link

pub count_moved : (view other : FlatView) (session : ℕ) (want : PlainWant) → IsTurned view other → length (links_found view.world session want) ≡ length (links_found other.world session want)
count_moved view other session want turned =
    let found = is_found view.world session want in
    turned_has (λ v. length (links_found view.world session want) ≡ length (links_found v.world session want)) view other turned
    (length-filter found view.world.links ∙ as_many found view.world.links other.world.links turned.links ∙ sym (length-filter found other.world.links))

pub ids_moved : (view other : FlatView) (session : ℕ) (want : PlainWant) → IsTurned view other → ids_found view.world session want ≡ ids_found other.world session want
ids_moved view other session want turned =
    turned_has (λ v. ids_found view.world session want ≡ ids_found v.world session want) view other turned
    (moved_addresses (λ (l : LinkRow). l.id) (is_found view.world session want) view.world.links other.world.links turned.links)

-- the link of an id
pub link_moved : (view other : FlatView) (session : ℕ) (id : List ℕ) → IsTurned view other → link_at view.world session id ≡ link_at other.world session id
link_moved view other session id turned =
    turned_has (λ v. link_at view.world session id ≡ link_at v.world session id) view other turned
    (turned.by_id (is_readable view.world session) id)

-- where an end of a link is now
follow_lists : (world : World) (documents : List (List ℕ)) (links : List LinkRow) (session : ℕ) (found : Option LinkRow) (end : Option End) → follow_of world session found end ≡ follow_of (with_lists world documents links) session found end
follow_lists world documents links session (Some link) (Some end) = refl
follow_lists world documents links session (Some link) None = refl
follow_lists world documents links session None end = refl

pub follow_moved : (view other : FlatView) (session : ℕ) (id : List ℕ) (end : Option End) → IsTurned view other → follow_of view.world session (link_at view.world session id) end ≡ follow_of other.world session (link_at other.world session id) end
follow_moved view other session id end turned =
    ap (λ (found : Option LinkRow). follow_of view.world session found end) (link_moved view other session id turned)
    ∙ turned_has (λ v. follow_of view.world session (link_at other.world session id) end ≡ follow_of v.world session (link_at other.world session id) end) view other turned
    (follow_lists view.world other.world.documents other.world.links session (link_at other.world session id) end)

-- which text is in an end of some link
filter_as : {X : Type 0} (p q : X → Bool) → ((x : X) → p x ≡ q x) → (xs : List X) → filter p xs ≡ filter q xs
filter_as p q alike [] = refl
filter_as p q alike (x ∷ xs) = ap (λ (b : Bool). cond b (x ∷ filter p xs) (filter p xs)) (alike x) ∙ ap (λ rest. cond (q x) (x ∷ rest) rest) (filter_as p q alike xs)

map_as : {X Y : Type 0} (f g : X → Y) → ((x : X) → f x ≡ g x) → (xs : List X) → map f xs ≡ map g xs
map_as f g alike [] = refl
map_as f g alike (x ∷ xs) = ap (λ y. y ∷ map f xs) (alike x) ∙ ap (λ rest. g x ∷ rest) (map_as f g alike xs)

set_lists : (world : World) (documents : List (List ℕ)) (links : List LinkRow) (session : ℕ) (end : End) (spec : PlainSpec) → IsPermutation world.links links
    → end_set_of world session end spec ≡ end_set_of (with_lists world documents links) session end spec
set_lists world documents links session end spec moved =
    ap (λ (rows : List Row). record { document = spec.document; spans = intervals (places_of rows) })
    (filter_as (λ (row : Row). is_in_end world session end row.address) (λ (row : Row). is_in_end (with_lists world documents links) session end row.address)
    (λ row. list_any-IsPermutation (λ (link : LinkRow). is_readable world session link.home && is_in_runs (runs_of_end end link) row.address) world.links links moved)
    (picked_once world spec))

pub set_moved : (view other : FlatView) (session : ℕ) (end : End) (specs : List PlainSpec) → IsTurned view other → end_set view.world session end specs ≡ end_set other.world session end specs
set_moved view other session end specs turned =
    turned_has (λ v. end_set view.world session end specs ≡ end_set v.world session end specs) view other turned
    (map_as (end_set_of view.world session end) (end_set_of (with_lists view.world other.world.documents other.world.links) session end)
    (λ spec. set_lists view.world other.world.documents other.world.links session end spec turned.links) specs)
