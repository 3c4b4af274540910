-- Trees stand for a view after a text came in.
use Rattle.std.proofs.Common.{◌≡◌, ◌∙◌, ℕ, zero, suc, ◌+◌, ◌<◌, ◌≤◌, ◌++◌, Bool, true, false, cond, List, ◌∷◌, Option, Some, None, length, take, refl, sym, ap, subst, arith, All, length-append}
use Rattle.std.specs.Prelude.{filter, IsPermutation}
use Rattle.std.proofs.lemmas.List.Elements.{All-map, All-weaker}
use Rattle.tumbler.specs.Address.{IsDocument}
use Rattle.enfilade_core.specs.declared.tree.Node.{Node}
use Rattle.enfilade_core.specs.Rows.{Shape, rows_of}
use Rattle.enfilade_core.specs.Edits.{KeepsRows}
use Rattle.enfilade_core.specs.Exchange.{Grows}
use Rattle.granfilade.specs.Content.{ContentTree, laid, content, tree_rows}
use Rattle.granfilade.specs.Puts.{IsContent, IsNext, put_in}
use Rattle.poom.specs.Laid as laid
use Rattle.poom.specs.Laid.{IsRoot, exchanged_at}
use Rattle.poom.specs.Pieces.{addresses_from}
use Rattle.spanfilade.specs.Index.{IndexTree}
use Rattle.febe_data.specs.Plain.{text_inserted}
use Rattle.doc_table.specs.declared.rows.DocumentRow.{DocumentRow}
use Rattle.doc_table.specs.DocumentRows.{root_in, content_in, is_of, with_root, with_content}
use Rattle.world_rules.specs.declared.rows.Row.{Row}
use Rattle.world_rules.specs.World.{is_same, is_text_of, content_address, content_length_of}
use Rattle.world_rules.specs.Edits.{new_rows, rows_with, new_bytes, content_addresses}
use Rattle.world_rules.specs.FlatView.{FlatView}
use Rattle.tree_world.specs.Trees.{Trees, text_at, links_at, AreCounted, IsCounted}
use Rattle.tree_world.specs.Standing.{Stands, link_rows, IsCovered}
use Rattle.tree_world.specs.Changed.{after_change}
use Rattle.tree_world.proofs.Tables.{found_own, root_set, root_contents, content_documents, content_roots, content_marks, content_set}
use Rattle.tree_world.proofs.Roots.{RootsStand, taken_back}
use Rattle.tree_world.proofs.Found.{address_is, address_alike}
use Rattle.std.specs.List.{find}
use Rattle.std.specs.Option.{option_map}
use Rattle.tree_world.proofs.Options.{none_there}
use Rattle.tree_world.proofs.Looked.{found_holds}
use Rattle.tree_world.proofs.Holds.{Holds, holds_rooted}
use Rattle.tree_world.proofs.Made.{restand}
use Rattle.tree_world.proofs.FlatRows.{text_with_is, other_text_with, links_with}
use Rattle.tree_world.proofs.Edited.{edited, text_rows_were, link_rows_were, covered_was, All-exchanged}
use Rattle.tumbler.specs.Places.{place_bound}
use Rattle.granfilade.specs.Steps.{last_of}
use Rattle.tree_world.proofs.Ordered.{contents_made}
use Rattle.tree_world.proofs.BytesCome.{bytes_came, bytes_once, bytes_counted, new_long, still_counted, is_next, last_new}

-- two words for the addresses of a text
addresses_are : (document : List ℕ) (first count : ℕ) → content_addresses document first count ≡ addresses_from 1 document first count
addresses_are document first zero = refl
addresses_are document first (suc count) = ap (λ (xs : List (List ℕ)). content_address document first ∷ xs) (addresses_are document (first + 1) count)

filled_all : (P : DocumentRow Node → Type 0) (rows : List (DocumentRow Node)) (document : List ℕ) (bytes : ℕ) → ((row : DocumentRow Node) → P row → P (record row { content = bytes })) → All P rows → All P (with_content rows document bytes)
filled_all P rows document bytes keeps all =
    All-map P (λ (row : DocumentRow Node). cond (is_of document row) (record row { content = bytes }) row) rows
    (All-weaker P (λ (row : DocumentRow Node). P (cond (is_of document row) (record row { content = bytes }) row)) (λ row h. step row (is_of document row) h) rows all)
  where
    step : (row : DocumentRow Node) (b : Bool) → P row → P (cond b (record row { content = bytes }) row)
    step row true h = keeps row h
    step row false h = h

-- ---- the bytes, where the rows stand already

module _ (trees : Trees) (view : FlatView) (stand : Stands trees view) (counted : AreCounted trees.documents trees.contents) (document : List ℕ) (root : Node) (own : root_in trees.documents document ≡ Some root) (first : ℕ) (text : List ℕ) (next : first ≡ content_in trees.documents document + 1)
    (contents : ContentTree) (put : content contents ≡ put_in (content_address document first) (laid (content_address document first) text) (content trees.contents)) (bytes : ℕ) (so_many : bytes ≡ content_in trees.documents document + length text) where
  abbrev now : List (DocumentRow Node)
  now = with_content trees.documents document bytes

  counts_now : (d : List ℕ) → content_in now d ≡ content_length_of (view.world.bytes ++ new_bytes document first text) d
  counts_now d = content_set trees.documents document bytes root own d ∙ step (is_same d document) refl
    where
      step : (b : Bool) → is_same d document ≡ b → cond b bytes (content_in trees.documents d) ≡ content_length_of (view.world.bytes ++ new_bytes document first text) d
      step true e = so_many ∙ ap (λ n. n + length text) (stand.counts document) ∙ sym (bytes_counted document d first text view.world.bytes true e)
      step false e = stand.counts d ∙ sym (bytes_counted document d first text view.world.bytes false e)

  past : content_in trees.documents document < first
  past = omega (arith, next)

  pub with_bytes : (total : ℕ) → total ≡ trees.content + length text
      → Stands (record trees { contents = contents; content = total; documents = with_content trees.documents document bytes }) (record view { world = record view.world { bytes = view.world.bytes ++ new_bytes document first text } })
  with_bytes total total_is = record {
    documents = subst (λ ds. IsPermutation ds view.world.documents) (sym (content_documents trees.documents document bytes)) stand.documents;
    documents_once = stand.documents_once;
    roots = filled_all (λ row. IsRoot trees.nodes row.root.0) trees.documents document bytes (λ row h. h) stand.roots;
    texts = λ d. stand.texts d ∙ ap (λ (r : Option Node). new_rows d 1 (text_at trees.nodes r)) (sym (content_roots trees.documents document bytes d));
    links = λ d. stand.links d ∙ ap (λ (r : Option Node). link_rows d 1 (links_at trees.nodes r)) (sym (content_roots trees.documents document bytes d));
    covered = λ d. subst (λ (r : Option Node). All (IsCovered trees.index d) (text_at trees.nodes r)) (sym (content_roots trees.documents document bytes d)) (stand.covered d);
    bytes = bytes_came document first text (content trees.contents) (content contents) view.world.bytes put stand.bytes;
    bytes_once = bytes_once trees.documents (content trees.contents) document first text view.world.bytes counted past stand.bytes stand.bytes_once;
    total = total_is ∙ (λ i. stand.total i + sym (new_long document first text) i) ∙ sym (length-append view.world.bytes (new_bytes document first text));
    counts = counts_now;
    marks = λ d. content_marks trees.documents document bytes d ∙ stand.marks d;
    link_table = stand.link_table;
    ids = stand.ids;
    ends = stand.ends;
    access = restand trees view.world _ _ stand.access;
    counted = stand.counted;
    entries = stand.entries;
    known = stand.known;
  }

-- ---- the rows, and then the bytes

module _ (trees : Trees) (view : FlatView) (stand : Stands trees view) (roots : RootsStand trees.nodes trees.documents) (document : List ℕ) (root : Node) (own : root_in trees.documents document ≡ Some root) (nodes : List (Shape ℕ)) (kept : KeepsRows trees.nodes nodes) (grows : Grows trees.nodes nodes) (made : Node) (is_root : IsRoot nodes made.0)
    (index : IndexTree) (at first : ℕ) (text : List ℕ) where
  abbrev rows_after : List Row
  rows_after = rows_with view.world.rows document at (content_addresses document first (length text))

  abbrev new : List (List ℕ)
  new = addresses_from 1 document first (length text)

  abbrev old : List (List ℕ)
  old = laid.texts (rows_of trees.nodes root.0)

  rows_stand : 1 ≤ at → at ≤ 1 + length old → laid.texts (rows_of nodes made.0) ≡ exchanged_at at at new old → laid.links (rows_of nodes made.0) ≡ laid.links (rows_of trees.nodes root.0) → ((d a : List ℕ) → IsCovered trees.index d a → IsCovered index d a) → All (IsCovered index document) new
      → Stands (record trees { nodes = nodes; documents = with_root trees.documents document made; index = index; counted = trees.counted + 1 }) (record view { world = record view.world { rows = rows_after }; counted = view.counted + 1 })
  rows_stand from_one to_end text_is links_is keeps covers =
      edited trees view stand roots document root own nodes kept grows made is_root index rows_after
      (ap (λ (xs : List (List ℕ)). filter (is_text_of document) (rows_with view.world.rows document at xs)) (addresses_are document first (length text))
      ∙ text_with_is view.world.rows document at new old from_one (text_rows_were trees view stand roots document root own nodes kept grows made is_root) (omega (arith, to_end)) ∙ ap (new_rows document 1) (sym text_is))
      (links_with view.world.rows document document at (content_addresses document first (length text)) ∙ link_rows_were trees view stand roots document root own nodes kept grows made is_root ∙ ap (link_rows document 1) (sym links_is))
      (λ d e. other_text_with view.world.rows document d at (content_addresses document first (length text)) e) (λ d e. links_with view.world.rows document d at (content_addresses document first (length text))) keeps
      (subst (All (IsCovered index document)) (sym text_is) (All-exchanged (IsCovered index document) at at new old covers (All-weaker (IsCovered trees.index document) (IsCovered index document) (keeps document) old (covered_was trees view stand roots document root own nodes kept grows made is_root))))

  own_now : root_in (with_root trees.documents document made) document ≡ Some made
  own_now = root_set trees.documents document made root own document ∙ ap (λ (b : Bool). cond b (Some made) (root_in trees.documents document)) (address_alike document)

  module _ (counted : AreCounted trees.documents trees.contents) (next : first ≡ content_in trees.documents document + 1) (contents : ContentTree) (put : content contents ≡ put_in (content_address document first) (laid (content_address document first) text) (content trees.contents)) (bytes : ℕ) (so_many : bytes ≡ content_in trees.documents document + length text) where
    counted_now : AreCounted (with_root trees.documents document made) trees.contents
    counted_now = All-weaker (IsCounted trees.documents) (IsCounted (with_root trees.documents document made)) (λ a h d n is. subst (λ k. n ≤ k) (sym (root_contents trees.documents document made d)) (h d n is)) (content trees.contents) counted

    came : (session total : ℕ) → total ≡ trees.content + length text → 1 ≤ at → at ≤ 1 + length old → laid.texts (rows_of nodes made.0) ≡ exchanged_at at at new old → laid.links (rows_of nodes made.0) ≡ laid.links (rows_of trees.nodes root.0)
        → ((d a : List ℕ) → IsCovered trees.index d a → IsCovered index d a) → All (IsCovered index document) new
        → Stands (record trees { contents = contents; content = total; nodes = nodes; documents = with_content (with_root trees.documents document made) document bytes; index = index; counted = trees.counted + 1 }) (after_change view session (text_inserted document at first text))
    came session total total_is from_one to_end text_is links_is keeps covers =
        with_bytes _ _ (rows_stand from_one to_end text_is links_is keeps covers) counted_now document made own_now first text (next ∙ ap (λ n. n + 1) (sym (root_contents trees.documents document made document))) contents put bytes
        (so_many ∙ ap (λ n. n + length text) (sym (root_contents trees.documents document made document))) total total_is

    -- the same, of values that are equal to these
    pub came_as : (documents rooted : List (DocumentRow Node)) (counted_to : ℕ) → rooted ≡ with_root trees.documents document made → documents ≡ with_content rooted document bytes → counted_to ≡ trees.counted + 1
        → (session total : ℕ) → total ≡ trees.content + length text → 1 ≤ at → at ≤ 1 + length old → laid.texts (rows_of nodes made.0) ≡ exchanged_at at at new old → laid.links (rows_of nodes made.0) ≡ laid.links (rows_of trees.nodes root.0)
        → ((d a : List ℕ) → IsCovered trees.index d a → IsCovered index d a) → All (IsCovered index document) new
        → Stands (record trees { contents = contents; content = total; nodes = nodes; documents = documents; index = index; counted = counted_to }) (after_change view session (text_inserted document at first text))
    came_as documents rooted counted_to e f one_more session total total_is from_one to_end text_is links_is keeps covers =
        subst (λ n. Stands (record trees { contents = contents; content = total; nodes = nodes; documents = documents; index = index; counted = n }) (after_change view session (text_inserted document at first text))) (sym one_more)
        (subst (λ ds. Stands (record trees { contents = contents; content = total; nodes = nodes; documents = ds; index = index; counted = trees.counted + 1 }) (after_change view session (text_inserted document at first text))) (sym (f ∙ ap (λ rs. with_content rs document bytes) e))
        (came session total total_is from_one to_end text_is links_is keeps covers))

-- what has a tree is a document
pub document_there : (rows : List (DocumentRow Node)) (document : List ℕ) (root : Node) → All (λ (row : DocumentRow Node). IsDocument row.document) rows → root_in rows document ≡ Some root → IsDocument document
document_there rows document root all e = step (find (is_of document) rows) refl e
  where
    step : (found : Option (DocumentRow Node)) → find (is_of document) rows ≡ found → option_map (λ (row : DocumentRow Node). row.root) found ≡ Some root → IsDocument document
    step None is h = absurd (none_there root (sym h))
    step (Some row) is h = subst IsDocument (address_is row.document document (found_own document rows row is)) (found_holds (λ r. IsDocument r.document) rows document row all is)

-- ---- what holds of the trees alone

module _ (nodes more : List (Shape ℕ)) (rows : List (DocumentRow Node)) (held : ContentTree) (holds : Holds nodes rows held) (document : List ℕ) (root : Node) (own : root_in rows document ≡ Some root) (kept : KeepsRows nodes more) (grows : Grows nodes more) (made : Node) (is_root : IsRoot more made.0) where
  pub root_made : root_in (with_root rows document made) document ≡ Some made
  root_made = root_set rows document made root own document ∙ ap (λ (b : Bool). cond b (Some made) (root_in rows document)) (address_alike document)

  module _ (first : ℕ) (text : List ℕ) (next : first ≡ content_in rows document + 1) (contents : ContentTree) (put : content contents ≡ put_in (content_address document first) (laid (content_address document first) text) (content held)) (bytes : ℕ) (so_many : bytes ≡ content_in rows document + length text) where
    more_content : (d : List ℕ) → content_in rows d ≤ content_in (with_content (with_root rows document made) document bytes) d
    more_content d = subst (λ n. content_in rows d ≤ n) (sym (content_set (with_root rows document made) document bytes made root_made d)) (step (is_same d document) refl)
      where
        step : (b : Bool) → is_same d document ≡ b → content_in rows d ≤ cond b bytes (content_in (with_root rows document made) d)
        step true e = let is = ap (content_in rows) (address_is d document e) in omega (arith, is, so_many)
        step false e = let is = root_contents rows document made d in omega (arith, is)

    pub holds_came : (now rooted : List (DocumentRow Node)) → rooted ≡ with_root rows document made → now ≡ with_content rooted document bytes → IsContent (tree_rows contents) → Holds more now contents
    holds_came now rooted e f is_content =
        let still = holds_rooted nodes more rows held holds kept grows document made is_root in
        let all = content_set (with_root rows document made) document bytes made root_made document ∙ ap (λ (b : Bool). cond b bytes (content_in (with_root rows document made) document)) (address_alike document) in
        let one : first + length text ≤ content_in (with_content (with_root rows document made) document bytes) document + 1 = omega (arith, all, so_many, next) in
        subst (λ ds. Holds more ds contents) (sym (f ∙ ap (λ rs. with_content rs document bytes) e))
        (filled_all (λ row. IsRoot more row.root.0) (with_root rows document made) document bytes (λ row h. h) still.0, filled_all (λ row. IsDocument row.document) (with_root rows document made) document bytes (λ row h. h) still.1, is_content, still_counted rows (with_content (with_root rows document made) document bytes) (content held) (content contents) document first text holds.3 more_content one put)

-- ---- what goes back

pub contents_back : (old put back : ContentTree) (count root : ℕ) → Grows old.nodes put.nodes → count ≡ length old.nodes → root ≡ old.root → back.nodes ≡ take count put.nodes → back.root ≡ root → back ≡ old
contents_back old put back count root grows is same nodes root_is = λ i. record { nodes = (nodes ∙ taken_back old.nodes put.nodes count grows is) i; root = (root_is ∙ same) i }

pub holds_back : (nodes more : List (Shape ℕ)) (rows : List (DocumentRow Node)) (contents now : ContentTree) → more ≡ nodes → now ≡ contents → Holds nodes rows contents → Holds more rows now
holds_back nodes more rows contents now e f holds = subst (λ ns. Holds ns rows now) (sym e) (subst (Holds nodes rows) (sym f) holds)

pub same_trees : (trees : Trees) (contents : ContentTree) (nodes : List (Shape ℕ)) (due : List (List ℕ)) → contents ≡ trees.contents → nodes ≡ trees.nodes → due ≡ trees.due → record trees { contents = contents; nodes = nodes; due = due } ≡ trees
same_trees trees contents nodes due e f g = λ i. record trees { contents = e i; nodes = f i; due = g i }

-- ---- where the bytes go

pub next_at : (rows : List (DocumentRow Node)) (held : ContentTree) (document start : List ℕ) (first content_is : ℕ) → IsContent (tree_rows held) → AreCounted rows held → IsDocument document → first ≡ content_is + 1 → content_is ≡ content_in rows document → start ≡ content_address document first → IsNext start (content held)
next_at rows held document start first content_is is counted is_document next now at =
    subst (λ (a : List ℕ). IsNext a (content held)) (sym at) (is_next rows (content held) document first (contents_made (tree_rows held) is) counted is_document (omega (arith, next, now)))

pub room_at : (document start : List ℕ) (first count long : ℕ) → IsDocument document → 1 ≤ first → first + count < place_bound → count ≡ long → start ≡ content_address document first → last_of start + long < place_bound
room_at document start first count long is from few same at = let last = ap last_of at ∙ last_new document first is from in omega (arith, last, few, same)
