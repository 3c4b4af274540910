-- The rows of runs, one after another, and what an index with them has.
use Rattle.std.proofs.Common.{◌≡◌, ℕ, zero, suc, ◌+◌, ◌-◌, ◌^◌, ◌<◌, ◌≤◌, min, Bool, true, false, List, [], ◌∷◌, ◌++◌, length, get_or, take, map, refl, arith, ap, ◌∙◌, sym, subst, true≢false, append_assoc, Result, Ok, Err}
use Rattle.std.specs.Prelude.{IsTrue, IfOk, ◌↔◌}
use Rattle.std.specs.List.{All, flat_map}
use Rattle.std.specs.List.Sorted.{IsPermutation}
use Rattle.std.proofs.lemmas.List.{take_more, take_all, map-append, length-append, get_or_append_left, get_or-append-add}
use Rattle.std.proofs.lemmas.List.Concat.{flat_map-append}
use Rattle.std.proofs.lemmas.List.Elements.{All-nil, All-cons, All-head, All-tail, All-push, All-append}
use Rattle.std.proofs.lemmas.List.Sorted.{IsPermutation-sym, IsPermutation-trans, All-permutation, length_permutation}
use Rattle.tumbler.specs.Places.{IsTumbler, Fits}
use Rattle.tumbler.proofs.SumOrder.{fits_exactly}
use Rattle.febe_data.specs.declared.run.Run.{Run}
use Rattle.enfilade_core.specs.declared.tree.Row.{Row}
use Rattle.enfilade_core.specs.Rows.{Shape, rows_of}
use Rattle.enfilade_core.specs.Axes.{IsWellFormedRow}
use Rattle.enfilade_core.specs.WellFormed.{AreWellFormed}
use Rattle.enfilade_core.specs.Planes.{key_widths}
use Rattle.enfilade_core.specs.Summary.{most_count}
use Rattle.enfilade_core.specs.Plain.{plain_row}
use Rattle.enfilade_core.proofs.Parts.{rows-well_formed}
use Rattle.spanfilade.specs.Index.{row_of, rows_for}
use Rattle.spanfilade.proofs.Rows.{plain_rows}
use Rattle.world_rules.specs.World.{LinkRow}
use Rattle.links.specs.LinkLists.{plain_link, run_span, runs_at, rows_at}
use Rattle.links.specs.declared.row.LinkRow as kept
use Rattle.index_checks.specs.inside.Order.{AreSorted}
use Rattle.index_checks.specs.inside.Addressed.{HasAddress, HaveAddresses}
use Rattle.index_checks.proofs.RowOrder.{sorted_are_same}

-- ---- one more

-- what a list gives in order, with that of one more element behind it
more_given : {X Y : Type 0} (g : List X → List Y) (h : X → List Y) → ((xs : List X) (x : X) → g (xs ++ x ∷ []) ≡ g xs ++ h x) → (old into now : List Y) (xs : List X) (k : ℕ) (x : X)
    → into ≡ old ++ g (take k xs) → now ≡ into ++ h x → k < length xs → x ≡ get_or xs k x → now ≡ old ++ g (take (k + 1) xs)
more_given g h one old into now xs k x was is lt at =
    is ∙ ap (λ ys. ys ++ h x) was ∙ append_assoc old (g (take k xs)) (h x) ∙ ap (λ ys. old ++ ys) (sym (one (take k xs) x) ∙ ap (λ y. g (take k xs ++ y ∷ [])) at ∙ ap g (sym (take_more xs k x lt)))

abbrev run_rows : List ℕ → List Run → List (Row (List ℕ))
run_rows key runs = rows_for (map run_span runs) key

one_run : (key : List ℕ) (runs : List Run) (run : Run) → run_rows key (runs ++ run ∷ []) ≡ run_rows key runs ++ row_of (run_span run) key ∷ []
one_run key [] run = refl
one_run key (r ∷ runs) run = ap (λ (rows : List (Row (List ℕ))). row_of (run_span r) key ∷ rows) (one_run key runs run)

pub more_runs : (key : List ℕ) (old into now : List (Row (List ℕ))) (runs : List Run) (k : ℕ) (run : Run) (row : Row (List ℕ)) → into ≡ old ++ rows_for (map run_span (take k runs)) key → row ≡ row_of (run_span run) key → now ≡ into ++ row ∷ []
    → k < length runs → run ≡ get_or runs k run → now ≡ old ++ rows_for (map run_span (take (k + 1) runs)) key
more_runs key old into now runs k run row was row_is is lt at =
    more_given (run_rows key) (λ (r : Run). row_of (run_span r) key ∷ []) (one_run key) old into now runs k run was (is ∙ ap (λ (r : Row (List ℕ)). into ++ r ∷ []) row_is) lt at

abbrev link_rows : ℕ → List kept.LinkRow → List (Row (List ℕ))
link_rows end links = flat_map (rows_at end) (map plain_link links)

append_none : {X : Type 0} (xs : List X) → xs ++ [] ≡ xs
append_none [] = refl
append_none {X} (x ∷ xs) = ap (λ (ys : List X). x ∷ ys) (append_none xs)

one_link : (end : ℕ) (links : List kept.LinkRow) (link : kept.LinkRow) → link_rows end (links ++ link ∷ []) ≡ link_rows end links ++ rows_at end (plain_link link)
one_link end [] link = append_none (rows_at end (plain_link link))
one_link end (l ∷ links) link =
    ap (λ (rows : List (Row (List ℕ))). rows_at end (plain_link l) ++ rows) (one_link end links link) ∙ sym (append_assoc (rows_at end (plain_link l)) (link_rows end links) (rows_at end (plain_link link)))

pub more_links : (end : ℕ) (old into now : List (Row (List ℕ))) (links : List kept.LinkRow) (k : ℕ) (link : kept.LinkRow) (runs : List Run) → into ≡ old ++ flat_map (rows_at end) (map plain_link (take k links)) → runs ≡ runs_at end (plain_link link)
    → now ≡ into ++ rows_for (map run_span runs) link.id → k < length links → link ≡ get_or links k link → now ≡ old ++ flat_map (rows_at end) (map plain_link (take (k + 1) links))
more_links end old into now links k link runs was runs_are is lt at =
    more_given (link_rows end) (λ (l : kept.LinkRow). rows_at end (plain_link l)) (one_link end) old into now links k link was (is ∙ ap (λ (rs : List Run). into ++ rows_for (map run_span rs) link.id) runs_are) lt at

-- ---- each

pub more_hold : {X Y : Type 0} (P : Y → Type 0) (f : X → Y) (xs : List X) (k : ℕ) (x : X) → All P (map f (take k xs)) → P (f x) → k < length xs → x ≡ get_or xs k x → All P (map f (take (k + 1) xs))
more_hold {X} P f xs k x all here lt at =
    subst (λ (ys : List X). All P (map f ys)) (sym (take_more xs k x lt ∙ ap (λ (y : X). take k xs ++ y ∷ []) (sym at))) (rw (map-append f (take k xs) (x ∷ [])) (All-push P (map f (take k xs)) (f x) all here))

pub here_holds : {X Y : Type 0} (P : Y → Type 0) (f : X → Y) (xs : List X) (k : ℕ) (x : X) → All P (map f xs) → k < length xs → x ≡ get_or xs k x → P (f x)
here_holds P f [] k x all lt at = absurd (omega arith)
here_holds {X} P f (y ∷ xs) zero x all lt at = subst (λ (z : X). P (f z)) (sym at) (All-head P (f y) (map f xs) all)
here_holds P f (y ∷ xs) (suc k) x all lt at = here_holds P f xs k x (All-tail P (f y) (map f xs) all) (omega arith) at

all_left : {X : Type 0} (P : X → Type 0) (xs ys : List X) → All P (xs ++ ys) → All P xs
all_left P xs ys all k d lt = subst P (get_or_append_left xs ys d k lt) (all k d (omega (arith, length-append xs ys)))

all_right : {X : Type 0} (P : X → Type 0) (xs ys : List X) → All P (xs ++ ys) → All P ys
all_right P xs ys all k d lt = subst P (get_or-append-add xs ys k d) (all (length xs + k) d (omega (arith, length-append xs ys, lt)))

-- ---- rows of an index have addresses

abbrev IsKeyRow : Row (List ℕ) → Type 0
IsKeyRow row = IsWellFormedRow key_widths row

addressed_runs : (key : List ℕ) (runs : List Run) → All IsKeyRow (run_rows key runs) → All HasAddress runs
addressed_runs key [] all = All-nil HasAddress
addressed_runs key (run ∷ runs) all =
    All-cons HasAddress run runs (All-head IsKeyRow (row_of (run_span run) key) (run_rows key runs) all).first_coordinate (addressed_runs key runs (All-tail IsKeyRow (row_of (run_span run) key) (run_rows key runs) all))

addressed_links : (end : ℕ) (links : List LinkRow) → All IsKeyRow (flat_map (rows_at end) links) → All (HaveAddresses end) links
addressed_links end [] all = All-nil (HaveAddresses end)
addressed_links end (link ∷ links) all =
    All-cons (HaveAddresses end) link links (addressed_runs link.id (runs_at end link) (all_left IsKeyRow (rows_at end link) (flat_map (rows_at end) links) all))
    (addressed_links end links (all_right IsKeyRow (rows_at end link) (flat_map (rows_at end) links) all))

-- the runs whose rows an index has, have addresses
pub addressed_if_held : (end : ℕ) (links : List LinkRow) (nodes : List (Shape (List ℕ))) (root : ℕ) → AreWellFormed key_widths nodes → root < length nodes → IsPermutation (flat_map (rows_at end) links) (rows_of nodes root) → All (HaveAddresses end) links
addressed_if_held end links nodes root right below held =
    addressed_links end links (All-permutation IsKeyRow (rows_of nodes root) (flat_map (rows_at end) links) (IsPermutation-sym (flat_map (rows_at end) links) (rows_of nodes root) held) (rows-well_formed key_widths nodes root right below))

-- ---- compared

pub never_as_many : (wanted rows : List (Row (List ℕ))) (count leaves : ℕ) → count ≡ length wanted → count < 2 ^ 64 → leaves ≡ min (length rows) most_count → (leaves ≡ count → ⊥) → IsPermutation wanted rows → ⊥
never_as_many wanted rows count leaves counted small leaves_are other moved =
    let same : length rows ≡ length wanted = length_permutation wanted rows moved in
    other (omega arith)

pub compared : (wanted rows held a b : List (Row (List ℕ))) (told : Bool) → map (plain_row (λ (width : List ℕ). width)) held ≡ rows → IsPermutation wanted a → AreSorted a → IsPermutation held b → AreSorted b → (IsTrue told ↔ (a ≡ b)) → IsTrue told ↔ IsPermutation wanted rows
compared wanted rows held a b told held_are moved_a sorted_a moved_b sorted_b tells =
    let is : held ≡ rows = sym (plain_rows held) ∙ held_are in
    let from : IsPermutation rows b = subst (λ (x : List (Row (List ℕ))). IsPermutation x b) is moved_b in (
      λ t. IsPermutation-trans wanted a rows moved_a (subst (λ (x : List (Row (List ℕ))). IsPermutation x rows) (sym (tells.0 t)) (IsPermutation-sym rows b from)),
      λ moved. tells.1 (sorted_are_same a b sorted_a sorted_b (IsPermutation-trans a wanted b (IsPermutation-sym wanted a moved_a) (IsPermutation-trans wanted rows b moved from))),
    )

-- ---- the rows as they were read

pub as_read : (rows held sorted : List (Row (List ℕ))) → map (plain_row (λ (width : List ℕ). width)) held ≡ rows → IsPermutation held sorted → IsPermutation rows sorted
as_read rows held sorted held_are moved = subst (λ (x : List (Row (List ℕ))). IsPermutation x sorted) (sym (plain_rows held) ∙ held_are) moved

pub read_well_formed : (nodes : List (Shape (List ℕ))) (root : ℕ) (sorted : List (Row (List ℕ))) → AreWellFormed key_widths nodes → root < length nodes → IsPermutation (rows_of nodes root) sorted → All (IsWellFormedRow key_widths) sorted
read_well_formed nodes root sorted right below moved = All-permutation IsKeyRow (rows_of nodes root) sorted moved (rows-well_formed key_widths nodes root right below)

pub key_row_fits : (row : Row (List ℕ)) → IsWellFormedRow key_widths row → Fits row.first row.leaf
key_row_fits row h = (fits_exactly row.first row.leaf h.first_coordinate h.first_width).1 h.first_end

pub ok_alike : {E A B : Type 0} (r : Result Bool E) → IfOk r (λ b. IsTrue b ↔ A) → (A ↔ B) → IfOk r (λ b. IsTrue b ↔ B)
ok_alike (Ok b) told alike = (λ t. alike.0 (told.0 t), λ x. told.1 (alike.1 x))
ok_alike (Err e) told alike = tt
