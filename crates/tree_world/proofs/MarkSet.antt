-- Trees stand for a view after a document was published.
use Rattle.std.proofs.Common.{◌≡◌, ◌∙◌, ℕ, ◌+◌, ◌≤◌, ◌++◌, ◌||◌, Bool, true, false, cond, List, [], ◌∷◌, Option, refl, sym, ap, subst}
use Rattle.std.specs.Prelude.{All, IsPermutation}
use Rattle.std.specs.Cmp.Lexicographic.{nat_list_eq_equiv}
use Rattle.std.proofs.lemmas.List.Elements.{All-weaker, All-map}
use Rattle.std.proofs.lemmas.List.Folds.{list_any-append}
use Rattle.tumbler.specs.Address.{IsDocument}
use Rattle.enfilade_core.specs.declared.tree.Node.{Node}
use Rattle.enfilade_core.specs.Rows.{Shape}
use Rattle.febe_data.specs.Plain.{document_published}
use Rattle.granfilade.specs.Content.{ContentTree, content}
use Rattle.poom.specs.Laid.{IsRoot}
use Rattle.doc_table.specs.declared.rows.DocumentRow.{DocumentRow}
use Rattle.doc_table.specs.DocumentRows.{is_of, has_in, published_in, with_mark}
use Rattle.world_rules.specs.World.{is_same}
use Rattle.world_rules.specs.Readable.{is_one_of, is_published}
use Rattle.world_rules.specs.Edits.{new_rows}
use Rattle.world_rules.specs.FlatView.{FlatView}
use Rattle.tree_world.specs.Trees.{Trees, text_at, links_at, IsCounted, root_allows}
use Rattle.tree_world.specs.Standing.{Stands, link_rows, IsCovered}
use Rattle.tree_world.specs.Changed.{after_change}
use Rattle.tree_world.proofs.Tables.{mark_documents, mark_roots, mark_contents, mark_set}
use Rattle.tree_world.proofs.Holds.{HoldsDue}
use Rattle.tree_world.proofs.Made.{restand}

marked_all : (P : DocumentRow Node → Type 0) (rows : List (DocumentRow Node)) (document : List ℕ) (mark : Bool) → ((row : DocumentRow Node) → P row → P (record row { published = mark })) → All P rows → All P (with_mark rows document mark)
marked_all P rows document mark keeps all =
    All-map P (λ (row : DocumentRow Node). cond (is_of document row) (record row { published = mark }) row) rows
    (All-weaker P (λ (row : DocumentRow Node). P (cond (is_of document row) (record row { published = mark }) row)) (λ row h. step row (is_of document row) h) rows all)
  where
    step : (row : DocumentRow Node) (b : Bool) → P row → P (cond b (record row { published = mark }) row)
    step row true h = keeps row h
    step row false h = h

-- ---- what holds of the trees alone

pub holds_marked : (nodes : List (Shape ℕ)) (documents now : List (DocumentRow Node)) (contents : ContentTree) (due : List (List ℕ)) (document : List ℕ) (mark : Bool) → now ≡ with_mark documents document mark → HoldsDue nodes documents contents due → HoldsDue nodes now contents due
holds_marked nodes documents now contents due document mark is holds =
    subst (λ rows. HoldsDue nodes rows contents due) (sym is) (
      marked_all (λ row. IsRoot nodes row.root.0) documents document mark (λ row h. h) holds.0,
      marked_all (λ row. IsDocument row.document) documents document mark (λ row h. h) holds.1,
      holds.2,
      All-weaker (IsCounted documents) (IsCounted (with_mark documents document mark)) (λ at h d n e. subst (λ k. n ≤ k) (sym (mark_contents documents document mark d)) (h d n e)) (content contents) holds.3,
      record { marked = λ d allows. holds.4.marked d (sym (ap (root_allows nodes) (mark_roots documents document mark d)) ∙ allows) },
    )

-- ---- what they stand for

one_more : (b x : Bool) → cond b true x ≡ (x || (b || false))
one_more true true = refl
one_more true false = refl
one_more false true = refl
one_more false false = refl

module _ (trees : Trees) (view : FlatView) (stand : Stands trees view) (document : List ℕ) (there : has_in trees.documents document ≡ true) where
  marks_now : (d : List ℕ) → published_in (with_mark trees.documents document true) d ≡ is_one_of (view.world.published ++ document ∷ []) d
  marks_now d =
      mark_set trees.documents document true there d
      ∙ ap (λ (x : Bool). cond (is_same d document) true x) (stand.marks d)
      ∙ one_more (is_same d document) (is_published view.world d)
      ∙ ap (λ (b : Bool). is_published view.world d || (b || false)) (nat_list_eq_equiv.symm d document)
      ∙ sym (list_any-append (λ e. is_same e d) view.world.published (document ∷ []))

  marked_in : Stands (record trees { documents = with_mark trees.documents document true; counted = trees.counted + 1 }) (record view { world = record view.world { published = view.world.published ++ document ∷ [] }; counted = view.counted + 1 })
  marked_in = record {
    documents = subst (λ ds. IsPermutation ds view.world.documents) (sym (mark_documents trees.documents document true)) stand.documents;
    documents_once = stand.documents_once;
    roots = marked_all (λ row. IsRoot trees.nodes row.root.0) trees.documents document true (λ row h. h) stand.roots;
    texts = λ d. stand.texts d ∙ ap (λ (r : Option Node). new_rows d 1 (text_at trees.nodes r)) (sym (mark_roots trees.documents document true d));
    links = λ d. stand.links d ∙ ap (λ (r : Option Node). link_rows d 1 (links_at trees.nodes r)) (sym (mark_roots trees.documents document true d));
    covered = λ d. subst (λ (r : Option Node). All (IsCovered trees.index d) (text_at trees.nodes r)) (sym (mark_roots trees.documents document true d)) (stand.covered d);
    bytes = stand.bytes;
    bytes_once = stand.bytes_once;
    total = stand.total;
    counts = λ d. mark_contents trees.documents document true d ∙ stand.counts d;
    marks = marks_now;
    link_table = stand.link_table;
    ids = stand.ids;
    ends = stand.ends;
    access = restand trees view.world _ _ stand.access;
    counted = ap (λ n. n + 1) stand.counted;
    entries = stand.entries;
    known = stand.known;
  }

  -- the same, of values that are equal to these
  pub published_as : (documents : List (DocumentRow Node)) (counted session : ℕ) → documents ≡ with_mark trees.documents document true → counted ≡ trees.counted + 1
      → Stands (record trees { documents = documents; counted = counted }) (after_change view session (document_published document))
  published_as documents counted session now more =
      subst (λ (n : ℕ). Stands (record trees { documents = documents; counted = n }) (after_change view session (document_published document))) (sym more)
      (subst (λ (rows : List (DocumentRow Node)). Stands (record trees { documents = rows; counted = trees.counted + 1 }) (after_change view session (document_published document))) (sym now) marked_in)
