-- A table says of a node what it says where only the nodes before it are there, and keeps it where nodes are added.
use Rattle.std.proofs.Common.{◌≡◌, ℕ, ◌+◌, ◌<◌, ◌≤◌, List, [], ◌∷◌, ◌++◌, length, get_or, take, drop, map, refl, arith, ap, ◌∙◌, sym, fold, append_assoc, append-nil, inl, inr}
use Rattle.std.specs.List.{All, flat_map}
use Rattle.std.proofs.lemmas.List.{get_or_append_left, get_or_at, length-append, take-append-drop, drop_more, length-take-le, take_at, take_all}
use Rattle.std.proofs.lemmas.Bool.{cases_lt}
use Rattle.std.proofs.lemmas.List.Sums.{fold-append}
use Rattle.std.proofs.lemmas.List.Elements.{All-head, All-tail}
use Rattle.enfilade_core.specs.declared.tree.Branch.{Branch}
use Rattle.enfilade_core.specs.Rows.{Shape, Rows, table, node_at}
use Rattle.enfilade_core.specs.WellFormed.{NamesBelow}

-- one more node
abbrev pub stepped : {L T : Type 0} → (List T → Shape L → T) → List T → Shape L → List T
stepped say told node = told ++ say told node ∷ []

pub table-fold : {L T : Type 0} (say : List T → Shape L → T) (nodes : List (Shape L)) → table say nodes ≡ fold (stepped say) [] nodes
unfolding table
table-fold say nodes = refl

length-run : {L T : Type 0} (say : List T → Shape L → T) (told : List T) (nodes : List (Shape L)) → length (fold (stepped say) told nodes) ≡ length told + length nodes
length-run say told [] = omega arith
length-run say told (node ∷ nodes) = length-run say (stepped say told node) nodes ∙ omega (arith, length-append told (say told node ∷ []))

run_front : {L T : Type 0} (say : List T → Shape L → T) (told : List T) (nodes : List (Shape L)) (k : ℕ) (d : T) → k < length told → get_or (fold (stepped say) told nodes) k d ≡ get_or told k d
run_front say told [] k d lt = refl
run_front say told (node ∷ nodes) k d lt =
    run_front say (stepped say told node) nodes k d (omega (arith, length-append told (say told node ∷ []))) ∙ get_or_append_left told (say told node ∷ []) d k lt

pub length-table : {L T : Type 0} (say : List T → Shape L → T) (nodes : List (Shape L)) → length (table say nodes) ≡ length nodes
length-table say nodes = ap length (table-fold say nodes) ∙ length-run say [] nodes ∙ omega arith

pub table-push : {L T : Type 0} (say : List T → Shape L → T) (nodes : List (Shape L)) (node : Shape L) → table say (nodes ++ node ∷ []) ≡ table say nodes ++ say (table say nodes) node ∷ []
table-push say nodes node =
    table-fold say (nodes ++ node ∷ []) ∙ fold-append (stepped say) [] nodes (node ∷ []) ∙ ap (λ (told : _). stepped say told node) (sym (table-fold say nodes))

-- what is said of the nodes that are there stays
pub table-later : {L T : Type 0} (say : List T → Shape L → T) (nodes more : List (Shape L)) (k : ℕ) (d : T) → k < length nodes → get_or (table say (nodes ++ more)) k d ≡ get_or (table say nodes) k d
table-later say nodes more k d lt =
    let told = table say nodes in
    ap (λ (t : _). get_or t k d) (table-fold say (nodes ++ more) ∙ fold-append (stepped say) [] nodes more ∙ ap (λ (t : _). fold (stepped say) t more) (sym (table-fold say nodes)))
    ∙ run_front say told more k d (omega (arith, length-table say nodes))

-- a list around its item k
pub split_at_item : {A : Type 0} (xs : List A) (k : ℕ) (d : A) → k < length xs → (take k xs ++ get_or xs k d ∷ []) ++ drop (k + 1) xs ≡ xs
split_at_item xs k d lt =
    append_assoc (take k xs) (get_or xs k d ∷ []) (drop (k + 1) xs) ∙ ap (λ (r : _). take k xs ++ r) (sym (drop_more xs k d lt)) ∙ take-append-drop k xs

pub table-item : {L T : Type 0} (say : List T → Shape L → T) (nodes : List (Shape L)) (k : ℕ) (d : T) → k < length nodes → get_or (table say nodes) k d ≡ say (table say (take k nodes)) (node_at nodes k)
table-item say nodes k d lt =
    let before = take k nodes in
    let node = node_at nodes k in
    let few : length before ≡ k = length-take-le k nodes (omega arith) in
    ap (λ (ns : _). get_or (table say ns) k d) (sym (split_at_item nodes k (Rows []) lt))
    ∙ table-later say (before ++ node ∷ []) (drop (k + 1) nodes) k d (omega (arith, length-append before (node ∷ [])))
    ∙ ap (λ (told : _). get_or told k d) (table-push say before node)
    ∙ get_or_at (table say before) (say (table say before) node) [] d k (length-table say before ∙ few)

-- ---- what only looks at earlier nodes

abbrev pub Agrees : {T : Type 0} → T → ℕ → List T → List T → Type 0
Agrees d n a b = (k : ℕ) → k < n → get_or a k d ≡ get_or b k d

-- what is said rests only on what was said of the nodes that are named
pub record IsLocal {L T : Type 0} (say : List T → Shape L → T) (d : T) : Type 0 where
  pub same : (n : ℕ) (a b : List T) (node : Shape L) → Agrees d n a b → NamesBelow n node → say a node ≡ say b node

pub flat_map-alike : {B : Type 0} (f g : Branch → List B) (n : ℕ) → ((branch : Branch) → branch.node.0 < n → f branch ≡ g branch) → (branches : List Branch) → All (λ branch. branch.node.0 < n) branches → flat_map f branches ≡ flat_map g branches
flat_map-alike f g n same [] h = refl
flat_map-alike f g n same (branch ∷ branches) h =
    let P : Branch → Type 0 = λ b. b.node.0 < n in
    ap (λ (r : _). r ++ flat_map f branches) (same branch (All-head P branch branches h)) ∙ ap (λ (r : _). g branch ++ r) (flat_map-alike f g n same branches (All-tail P branch branches h))

pub map-alike : {B : Type 0} (f g : Branch → B) (n : ℕ) → ((branch : Branch) → branch.node.0 < n → f branch ≡ g branch) → (branches : List Branch) → All (λ branch. branch.node.0 < n) branches → map f branches ≡ map g branches
map-alike f g n same [] h = refl
map-alike f g n same (branch ∷ branches) h =
    let P : Branch → Type 0 = λ b. b.node.0 < n in
    ap (λ (r : _). r ∷ map f branches) (same branch (All-head P branch branches h)) ∙ ap (λ (r : _). g branch ∷ r) (map-alike f g n same branches (All-tail P branch branches h))

pub Agrees-take : {L T : Type 0} (say : List T → Shape L → T) (d : T) (nodes : List (Shape L)) (n : ℕ) → n ≤ length nodes → Agrees d n (table say (take n nodes)) (table say nodes)
Agrees-take say d nodes n le k lt =
    let few : length (take n nodes) ≡ n = length-take-le n nodes le in
    sym (table-later say (take n nodes) (drop n nodes) k d (omega arith)) ∙ ap (λ (ns : _). get_or (table say ns) k d) (take-append-drop n nodes)

-- where a node names only earlier ones, it is told as if all were there
pub table-said : {L T : Type 0} (say : List T → Shape L → T) (d : T) → IsLocal say d → (nodes : List (Shape L)) (k : ℕ) → k < length nodes → NamesBelow k (node_at nodes k) → get_or (table say nodes) k d ≡ say (table say nodes) (node_at nodes k)
table-said say d local nodes k lt named = table-item say nodes k d lt ∙ local.same k (table say (take k nodes)) (table say nodes) (node_at nodes k) (Agrees-take say d nodes k (omega arith)) named

-- ---- the front of a table

pub table-none : {L T : Type 0} (say : List T → Shape L → T) → table say [] ≡ []
table-none say = table-fold say []

run_keeps : {L T : Type 0} (say : List T → Shape L → T) (told : List T) (nodes : List (Shape L)) → (rest : List T) × (fold (stepped say) told nodes ≡ told ++ rest)
run_keeps say told [] = ([], sym (append-nil told))
run_keeps say told (node ∷ nodes) =
    let more = run_keeps say (stepped say told node) nodes in
    (say told node ∷ more.0, more.1 ∙ append_assoc told (say told node ∷ []) more.0)

table-take_within : {L T : Type 0} (say : List T → Shape L → T) (n : ℕ) (nodes : List (Shape L)) → n ≤ length nodes → take n (table say nodes) ≡ table say (take n nodes)
table-take_within say n nodes le =
    let front = take n nodes in
    let told = table say front in
    let few : length told ≡ n = length-table say front ∙ length-take-le n nodes le in
    let whole : table say nodes ≡ fold (stepped say) told (drop n nodes) =
    ap (table say) (sym (take-append-drop n nodes)) ∙ table-fold say (front ++ drop n nodes) ∙ fold-append (stepped say) [] front (drop n nodes)
    ∙ ap (λ (t : _). fold (stepped say) t (drop n nodes)) (sym (table-fold say front)) in
    let kept = run_keeps say told (drop n nodes) in
    ap (take n) (whole ∙ kept.1) ∙ take_at told kept.0 n few

pub table-take : {L T : Type 0} (say : List T → Shape L → T) (n : ℕ) (nodes : List (Shape L)) → take n (table say nodes) ≡ table say (take n nodes)
table-take say n nodes = elim (cases_lt (length nodes) n) [
  | inl past ↦ take_all n (table say nodes) (omega (arith, length-table say nodes)) ∙ ap (table say) (sym (take_all n nodes (omega arith)))
  | inr within ↦ table-take_within say n nodes within
]
