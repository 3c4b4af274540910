-- What trees hold after a sweep.
use Rattle.std.proofs.Common.{◌≡◌, ◌∙◌, ℕ, zero, suc, ◌+◌, ◌<◌, ◌||◌, Bool, true, false, cond, List, [], ◌∷◌, ◌++◌, length, take, map, get_or, slice_get, max, fold, Option, Some, None, refl, sym, ap, subst, true≢false, arith}
use Rattle.std.specs.Prelude.{All}
use Rattle.std.specs.List.{find, list_any}
use Rattle.std.specs.Option.{option_map, unwrap_or}
use Rattle.std.proofs.lemmas.List.{map_more}
use Rattle.std.proofs.lemmas.List.Folds.{fold-map}
use Rattle.std.proofs.lemmas.List.Elements.{All-nil, All-cons, All-head, All-tail, All-weaker, All-map}
use Rattle.enfilade_core.specs.declared.tree.Node.{Node}
use Rattle.enfilade_core.specs.declared.tree.Row.{Row}
use Rattle.enfilade_core.specs.Rows.{Shape, rows_of}
use Rattle.enfilade_core.specs.Planes.{text_widths, key_widths}
use Rattle.enfilade_core.specs.BalanceState.{tree_debt, tree_allows}
use Rattle.enfilade_core.specs.Summary.{depth_of}
use Rattle.enfilade_sweep.proofs.OneTree.{roots_below}
use Rattle.enfilade_sweep.specs.Sweep.{IsSwept, numbers, reached_count, unreached_count}
use Rattle.granfilade.specs.Content.{ContentTree}
use Rattle.spanfilade.specs.Index.{IndexTree, rows_in_index}
use Rattle.links.specs.LinkLists.{LinkLists}
use Rattle.poom.specs.Laid as laid
use Rattle.poom.specs.Laid.{IsRoot, IsOneDocument}
use Rattle.doc_table.specs.declared.rows.DocumentRow.{DocumentRow}
use Rattle.doc_table.specs.DocumentRows.{is_of, documents_in, content_in, published_in, root_in, with_roots}
use Rattle.world_rules.specs.FlatView.{FlatView}
use Rattle.tree_world.specs.Trees.{Trees, AreSound, text_at, links_at}
use Rattle.tree_world.specs.Standing.{Stands}
use Rattle.tree_world.specs.Condition.{roots_in, nodes_of, reached_of, unreached_of, documents_debt, documents_allow, documents_depth, Condition, condition_of, StaysInShape}
use Rattle.tree_world.specs.inside.SameRows.{SameRows}
use Rattle.tree_world.specs.inside.Swept.{IsSweptContent, IsSweptIndex, AreSweptDocuments}
use Rattle.tree_world.proofs.SameRows.{stands_over, sound_over}
use Rattle.tree_world.proofs.Roots.{RootsStand}
use Rattle.tree_world.proofs.Marked.{due_swept}

abbrev root_of : Option (DocumentRow Node) → Option Node
root_of found = option_map (λ (row : DocumentRow Node). row.root) found

abbrev content_of : Option (DocumentRow Node) → ℕ
content_of found = unwrap_or (option_map (λ (row : DocumentRow Node). row.content) found) 0

-- ---- roots

abbrev pub roots_taken : List (DocumentRow Node) → List Node
roots_taken rows = map (λ (row : DocumentRow Node). row.root) rows

is_some : Option Node → Bool
is_some (Some x) = true
is_some None = false

some_none : (x : Node) → Some x ≡ None → ⊥
unfolding is_some
some_none x h = true≢false (ap is_some h)

abbrev value_of : Node → Option Node → Node
value_of d (Some x) = x
value_of d None = d

-- the row at a place, where its root was found
record HasRoot (rows : List (DocumentRow Node)) (k : ℕ) (root : Node) : Type 0 where
  row : DocumentRow Node
  lt : k < length rows
  here : get_or rows k row ≡ row
  is : root ≡ row.root

root_here : (rows : List (DocumentRow Node)) (k : ℕ) (root : Node) → Some root ≡ root_of (slice_get rows k) → HasRoot rows k root
root_here [] k root e = absurd (some_none root e)
root_here (row ∷ rows) zero root e = record { row = row; lt = omega arith; here = refl; is = ap (value_of root) e }
root_here (row ∷ rows) (suc k) root e =
    let at = root_here rows k root e in
    let less = at.lt in
    record { row = at.row; lt = omega (arith, less); here = at.here; is = at.is }

pub roots_more : (rows : List (DocumentRow Node)) (k : ℕ) (root : Node) (old new : List Node) → Some root ≡ root_of (slice_get rows k) → old ≡ roots_taken (take k rows) → new ≡ old ++ root ∷ [] → new ≡ roots_taken (take (k + 1) rows)
roots_more rows k root old new e before pushed =
    let at = root_here rows k root e in
    pushed ∙ (λ i. before i ++ (at.is ∙ ap (λ (row : DocumentRow Node). row.root) (sym at.here)) i ∷ []) ∙ sym (map_more (λ (row : DocumentRow Node). row.root) rows k at.row at.lt)

pub roots_there : (nodes arena : List (Shape ℕ)) (rows : List (DocumentRow Node)) (roots : List Node) → arena ≡ nodes → roots ≡ roots_taken rows → RootsStand nodes rows → All (λ (root : Node). root.0 < length arena) roots
roots_there nodes arena rows roots same are stand =
    subst (All (λ (root : Node). root.0 < length arena)) (sym are)
    (All-map (λ (root : Node). root.0 < length arena) (λ (row : DocumentRow Node). row.root) rows
    (All-weaker (λ (row : DocumentRow Node). IsRoot nodes row.root.0) (λ (row : DocumentRow Node). row.root.0 < length arena) (λ row h. subst (λ xs. row.root.0 < length xs) (sym same) h.there) rows stand))

pub numbers_taken : (rows : List (DocumentRow Node)) → numbers (roots_taken rows) ≡ roots_in rows
numbers_taken [] = refl
numbers_taken (row ∷ rows) = ap (λ ks. row.root.0 ∷ ks) (numbers_taken rows)

-- ---- lists of the same rows

abbrev head_rows : List (List (Row ℕ)) → List (Row ℕ)
head_rows [] = []
head_rows (x ∷ xs) = x

abbrev tail_rows : List (List (Row ℕ)) → List (List (Row ℕ))
tail_rows [] = []
tail_rows (x ∷ xs) = xs

abbrev is_nil : List (List (Row ℕ)) → Bool
is_nil [] = true
is_nil (x ∷ xs) = false

-- the roots there, each with the rows of the one here
abbrev pub SameEach : (old new : List (Shape ℕ)) → List (DocumentRow Node) → List Node → Type 0
SameEach old new rows made = map (rows_of new) (numbers made) ≡ map (rows_of old) (roots_in rows)

pub same_long : (old new : List (Shape ℕ)) (rows : List (DocumentRow Node)) (made : List Node) → SameEach old new rows made → length made ≡ length rows
same_long old new [] [] same = refl
same_long old new [] (m ∷ made) same = absurd (true≢false (sym (ap is_nil same)))
same_long old new (row ∷ rows) [] same = absurd (true≢false (ap is_nil same))
same_long old new (row ∷ rows) (m ∷ made) same = ap suc (same_long old new rows made (ap tail_rows same))

pub same_roots : (old new : List (Shape ℕ)) (rows : List (DocumentRow Node)) (made : List Node) → SameEach old new rows made → RootsStand old rows → All (λ k. k < length new) (numbers made) → All (λ (root : Node). IsRoot new root.0) made
same_roots old new rows [] same stand below = All-nil (λ (root : Node). IsRoot new root.0)
same_roots old new [] (m ∷ made) same stand below = absurd (true≢false (sym (ap is_nil same)))
same_roots old new (row ∷ rows) (m ∷ made) same stand below =
    All-cons (λ (root : Node). IsRoot new root.0) m made
    (record { there = All-head (λ k. k < length new) m.0 (numbers made) below; document = subst IsOneDocument (sym (ap head_rows same)) (All-head (λ (r : DocumentRow Node). IsRoot old r.root.0) row rows stand).document })
    (same_roots old new rows made (ap tail_rows same) (All-tail (λ (r : DocumentRow Node). IsRoot old r.root.0) row rows stand) (All-tail (λ k. k < length new) m.0 (numbers made) below))

-- the same, as the sweep of the documents' trees has it
pub swept_documents : (old new : List (Shape ℕ)) (rows : List (DocumentRow Node)) (roots : List ℕ) (made : List Node) → roots ≡ roots_in rows → map (rows_of new) (numbers made) ≡ map (rows_of old) roots
    → map (tree_debt new) (numbers made) ≡ map (tree_debt old) roots → map (tree_allows new) (numbers made) ≡ map (tree_allows old) roots
    → map (depth_of text_widths new) (numbers made) ≡ map (depth_of text_widths old) roots → IsSwept old roots new (numbers made) → length new ≡ reached_count old roots → unreached_count new (numbers made) ≡ 0 → RootsStand old rows → AreSweptDocuments old rows new made
swept_documents old new rows roots made are same owes allows deep swept count none_left stand =
    let each : SameEach old new rows made = same ∙ ap (map (rows_of old)) are in
    record {
      long = same_long old new rows made each;
      each = same_roots old new rows made each stand (roots_below old new roots (numbers made) swept);
      rows = each;
      owed = owes ∙ ap (map (tree_debt old)) are;
      deep = deep ∙ ap (map (depth_of text_widths old)) are;
      allowed = allows ∙ ap (map (tree_allows old)) are;
      count = count ∙ ap (reached_count old) are;
      none_left = none_left;
    }

-- ---- the table with the new roots

pub rooted_documents : (rows : List (DocumentRow Node)) (made : List Node) → documents_in (with_roots made rows) ≡ documents_in rows
rooted_documents rows [] = refl
rooted_documents [] (m ∷ made) = refl
rooted_documents (row ∷ rows) (m ∷ made) = ap (λ ds. row.document ∷ ds) (rooted_documents rows made)

pub rooted_contents : (rows : List (DocumentRow Node)) (made : List Node) (d : List ℕ) → content_in (with_roots made rows) d ≡ content_in rows d
rooted_contents rows [] d = refl
rooted_contents [] (m ∷ made) d = refl
rooted_contents (row ∷ rows) (m ∷ made) d = step (is_of d row) (rooted_contents rows made d)
  where
    step : (b : Bool) → content_in (with_roots made rows) d ≡ content_in rows d → content_of (cond b (Some (record row { root = m })) (find (is_of d) (with_roots made rows))) ≡ content_of (cond b (Some row) (find (is_of d) rows))
    step true rest = refl
    step false rest = rest

abbrev mark_of : Option (DocumentRow Node) → Bool
mark_of found = unwrap_or (option_map (λ (row : DocumentRow Node). row.published) found) false

pub rooted_marks : (rows : List (DocumentRow Node)) (made : List Node) (d : List ℕ) → published_in (with_roots made rows) d ≡ published_in rows d
rooted_marks rows [] d = refl
rooted_marks [] (m ∷ made) d = refl
rooted_marks (row ∷ rows) (m ∷ made) d = step (is_of d row) (rooted_marks rows made d)
  where
    step : (b : Bool) → published_in (with_roots made rows) d ≡ published_in rows d → mark_of (cond b (Some (record row { root = m })) (find (is_of d) (with_roots made rows))) ≡ mark_of (cond b (Some row) (find (is_of d) rows))
    step true rest = refl
    step false rest = rest

pub rooted_numbers : (rows : List (DocumentRow Node)) (made : List Node) → length made ≡ length rows → roots_in (with_roots made rows) ≡ numbers made
rooted_numbers [] [] long = refl
rooted_numbers (row ∷ rows) [] long = absurd (omega (arith, long))
rooted_numbers [] (m ∷ made) long = absurd (omega (arith, long))
rooted_numbers (row ∷ rows) (m ∷ made) long = ap (λ ks. m.0 ∷ ks) (rooted_numbers rows made (omega (arith, long)))

pub rooted_stand : (new : List (Shape ℕ)) (rows : List (DocumentRow Node)) (made : List Node) → length made ≡ length rows → All (λ (root : Node). IsRoot new root.0) made → RootsStand new (with_roots made rows)
rooted_stand new [] [] long all = All-nil (λ (row : DocumentRow Node). IsRoot new row.root.0)
rooted_stand new (row ∷ rows) [] long all = absurd (omega (arith, long))
rooted_stand new [] (m ∷ made) long all = All-nil (λ (row : DocumentRow Node). IsRoot new row.root.0)
rooted_stand new (row ∷ rows) (m ∷ made) long all =
    All-cons (λ (r : DocumentRow Node). IsRoot new r.root.0) (record row { root = m }) (with_roots made rows) (All-head (λ (root : Node). IsRoot new root.0) m made all)
    (rooted_stand new rows made (omega (arith, long)) (All-tail (λ (root : Node). IsRoot new root.0) m made all))

-- what is read off a document's rows is as it was
pub rooted_reads : (reads : List (Shape ℕ) → Option Node → List (List ℕ)) → ((nodes : List (Shape ℕ)) → reads nodes None ≡ []) → ((old new : List (Shape ℕ)) (made root : Node) → rows_of new made.0 ≡ rows_of old root.0 → reads new (Some made) ≡ reads old (Some root))
    → (old new : List (Shape ℕ)) (rows : List (DocumentRow Node)) (made : List Node) → SameEach old new rows made → (d : List ℕ) → reads new (root_in (with_roots made rows) d) ≡ reads old (root_in rows d)
rooted_reads reads nothing alike old new [] [] same d = nothing new ∙ sym (nothing old)
rooted_reads reads nothing alike old new (row ∷ rows) [] same d = absurd (true≢false (ap is_nil same))
rooted_reads reads nothing alike old new [] (m ∷ made) same d = nothing new ∙ sym (nothing old)
rooted_reads reads nothing alike old new (row ∷ rows) (m ∷ made) same d = step (is_of d row) (rooted_reads reads nothing alike old new rows made (ap tail_rows same) d)
  where
    step : (b : Bool) → reads new (root_in (with_roots made rows) d) ≡ reads old (root_in rows d)
        → reads new (root_of (cond b (Some (record row { root = m })) (find (is_of d) (with_roots made rows)))) ≡ reads old (root_of (cond b (Some row) (find (is_of d) rows)))
    step true rest = alike old new m row.root (ap head_rows same)
    step false rest = rest

-- ---- the shape of documents' trees, by their roots alone

debts_are : (nodes : List (Shape ℕ)) (rows : List (DocumentRow Node)) → documents_debt nodes rows ≡ fold (λ (a n : ℕ). a + n) 0 (map (tree_debt nodes) (roots_in rows))
debts_are nodes rows = sym (fold-map (λ (a n : ℕ). a + n) (tree_debt nodes) 0 (roots_in rows) ∙ fold-map (λ (a k : ℕ). a + tree_debt nodes k) (λ (row : DocumentRow Node). row.root.0) 0 rows)

depths_are : (nodes : List (Shape ℕ)) (rows : List (DocumentRow Node)) → documents_depth nodes rows ≡ fold max 0 (map (depth_of text_widths nodes) (roots_in rows))
depths_are nodes rows = sym (fold-map max (depth_of text_widths nodes) 0 (roots_in rows) ∙ fold-map (λ (a k : ℕ). max a (depth_of text_widths nodes k)) (λ (row : DocumentRow Node). row.root.0) 0 rows)

allows_are : (nodes : List (Shape ℕ)) (rows : List (DocumentRow Node)) → documents_allow nodes rows ≡ list_any (λ (b : Bool). b) (map (tree_allows nodes) (roots_in rows))
allows_are nodes [] = refl
allows_are nodes (row ∷ rows) = ap (λ (b : Bool). tree_allows nodes row.root.0 || b) (allows_are nodes rows)

-- ---- all trees: before a call as its parts, or as one

pub shape_from : (before old : Trees) (after : Condition) → before ≡ old → StaysInShape (condition_of before) after → StaysInShape (condition_of old) after
shape_from before old after is shape = subst (λ (t : Trees). StaysInShape (condition_of t) after) is shape

pub count_from : (before old : Trees) (now : ℕ) → before ≡ old → now ≡ (condition_of before).reached → now ≡ (condition_of old).reached
count_from before old now is count = subst (λ (t : Trees). now ≡ (condition_of t).reached) is count

-- the links stay, and the indexes are those that there are now
pub with_links : (old new : LinkLists) → new.links ≡ old.links → new ≡ record { links = old.links; from = new.from; to = new.to; three = new.three }
with_links old new same = λ i. record { links = same i; from = new.from; to = new.to; three = new.three }

-- as `set_roots` has it
pub rooted_as : (rows : List (DocumentRow Node)) (made slice : List Node) (now : List (DocumentRow Node)) → now ≡ with_roots slice rows → slice ≡ made → now ≡ with_roots made rows
rooted_as rows made slice now set is = set ∙ ap (λ roots. with_roots roots rows) is

module _ (before : Trees) (contents : ContentTree) (index from to three : IndexTree) (nodes : List (Shape ℕ)) (made : List Node) (documents : List (DocumentRow Node)) (links : LinkLists) (now : documents ≡ with_roots made before.documents)
    (linked : links ≡ record { links = before.links.links; from = from; to = to; three = three }) (by_contents : IsSweptContent before.contents contents) (by_index : IsSweptIndex before.index index) (by_from : IsSweptIndex before.links.from from) (by_to : IsSweptIndex before.links.to to)
    (by_three : IsSweptIndex before.links.three three) (by_documents : AreSweptDocuments before.nodes before.documents nodes made) where
  pub swept_same : SameRows before (record before { contents = contents; index = index; nodes = nodes; documents = documents; links = links })
  swept_same = record {
    contents = by_contents.rows;
    content = refl;
    documents = ap documents_in now ∙ rooted_documents before.documents made;
    counts = λ d. ap (λ ds. content_in ds d) now ∙ rooted_contents before.documents made d;
    marks = λ d. ap (λ ds. published_in ds d) now ∙ rooted_marks before.documents made d;
    texts = λ d. ap (λ ds. text_at nodes (root_in ds d)) now ∙ rooted_reads text_at (λ ns. refl) (λ ns more m r h. ap laid.texts h) before.nodes nodes before.documents made by_documents.rows d;
    links = λ d. ap (λ ds. links_at nodes (root_in ds d)) now ∙ rooted_reads links_at (λ ns. refl) (λ ns more m r h. ap laid.links h) before.nodes nodes before.documents made by_documents.rows d;
    roots = subst (λ ds. RootsStand nodes ds) (sym now) (rooted_stand nodes before.documents made by_documents.long by_documents.each);
    index = by_index.rows;
    link_table = λ i. (linked i).links;
    from = (λ i. rows_in_index (linked i).from) ∙ by_from.rows;
    to = (λ i. rows_in_index (linked i).to) ∙ by_to.rows;
    three = (λ i. rows_in_index (linked i).three) ∙ by_three.rows;
    access = refl;
    counted = refl;
    sessions = refl;
  }

  pub swept_stands : (view : FlatView) → Stands before view → Stands (record before { contents = contents; index = index; nodes = nodes; documents = documents; links = links }) view
  swept_stands view stand = stands_over before _ swept_same view stand

  pub swept_sound : AreSound before → AreSound (record before { contents = contents; index = index; nodes = nodes; documents = documents; links = links })
  swept_sound sound =
      sound_over before (record before { contents = contents; index = index; nodes = nodes; documents = documents; links = links }) swept_same
      (due_swept before.nodes nodes before.documents documents made before.due now by_documents.allowed sound.4) sound

  now_roots : roots_in documents ≡ numbers made
  now_roots = ap roots_in now ∙ rooted_numbers before.documents made by_documents.long

  pub swept_count : nodes_of (record before { contents = contents; index = index; nodes = nodes; documents = documents; links = links }) ≡ reached_of before
  swept_count =
      λ i. by_contents.count i + by_index.count i + (ap (λ (lists : LinkLists). length lists.from.nodes) linked ∙ by_from.count) i
      + (ap (λ (lists : LinkLists). length lists.to.nodes) linked ∙ by_to.count) i + (ap (λ (lists : LinkLists). length lists.three.nodes) linked ∙ by_three.count) i + by_documents.count i

  pub swept_none_left : unreached_of (record before { contents = contents; index = index; nodes = nodes; documents = documents; links = links }) ≡ 0
  swept_none_left =
      λ i. by_contents.none_left i + by_index.none_left i + (ap (λ (lists : LinkLists). unreached_count lists.from.nodes (lists.from.root.0 ∷ [])) linked ∙ by_from.none_left) i
      + (ap (λ (lists : LinkLists). unreached_count lists.to.nodes (lists.to.root.0 ∷ [])) linked ∙ by_to.none_left) i
      + (ap (λ (lists : LinkLists). unreached_count lists.three.nodes (lists.three.root.0 ∷ [])) linked ∙ by_three.none_left) i
      + (ap (unreached_count nodes) now_roots ∙ by_documents.none_left) i

  pub swept_shape : StaysInShape (condition_of before) (condition_of (record before { contents = contents; index = index; nodes = nodes; documents = documents; links = links }))
  swept_shape =
      let debts : documents_debt nodes documents ≡ documents_debt before.nodes before.documents = debts_are nodes documents ∙ ap (λ ks. fold (λ (a n : ℕ). a + n) 0 (map (tree_debt nodes) ks)) now_roots
      ∙ ap (fold (λ (a n : ℕ). a + n) 0) by_documents.owed ∙ sym (debts_are before.nodes before.documents) in
      let allow : documents_allow nodes documents ≡ documents_allow before.nodes before.documents = allows_are nodes documents ∙ ap (λ ks. list_any (λ (b : Bool). b) (map (tree_allows nodes) ks)) now_roots
      ∙ ap (list_any (λ (b : Bool). b)) by_documents.allowed ∙ sym (allows_are before.nodes before.documents) in
      let depth : documents_depth nodes documents ≡ documents_depth before.nodes before.documents = depths_are nodes documents ∙ ap (λ ks. fold max 0 (map (depth_of text_widths nodes) ks)) now_roots
      ∙ ap (fold max 0) by_documents.deep ∙ sym (depths_are before.nodes before.documents) in
      record {
        debt = λ i. by_contents.debt i + by_index.debt i + (ap (λ (lists : LinkLists). tree_debt lists.from.nodes lists.from.root.0) linked ∙ by_from.debt) i
            + (ap (λ (lists : LinkLists). tree_debt lists.to.nodes lists.to.root.0) linked ∙ by_to.debt) i + (ap (λ (lists : LinkLists). tree_debt lists.three.nodes lists.three.root.0) linked ∙ by_three.debt) i + debts i;
        allows = λ i. by_contents.allows i || by_index.allows i || (ap (λ (lists : LinkLists). tree_allows lists.from.nodes lists.from.root.0) linked ∙ by_from.allows) i
            || (ap (λ (lists : LinkLists). tree_allows lists.to.nodes lists.to.root.0) linked ∙ by_to.allows) i || (ap (λ (lists : LinkLists). tree_allows lists.three.nodes lists.three.root.0) linked ∙ by_three.allows) i || allow i;
        depth = λ i. max (by_contents.depth i) (max (by_index.depth i) (max ((ap (λ (lists : LinkLists). depth_of key_widths lists.from.nodes lists.from.root.0) linked ∙ by_from.depth) i)
            (max ((ap (λ (lists : LinkLists). depth_of key_widths lists.to.nodes lists.to.root.0) linked ∙ by_to.depth) i) (max ((ap (λ (lists : LinkLists). depth_of key_widths lists.three.nodes lists.three.root.0) linked ∙ by_three.depth) i) (depth i)))));
      }
