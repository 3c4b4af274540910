-- Trees stand for a view after a document came in.
use Rattle.std.proofs.Common.{◌≡◌, ◌∙◌, ℕ, ◌+◌, false, List, [], ◌∷◌, ◌++◌, Option, Some, None, refl, sym, ap, subst, append-nil}
use Rattle.std.specs.Prelude.{All, filter}
use Rattle.std.specs.Option.{option_map}
use Rattle.doc_table.specs.declared.rows.DocumentRow.{DocumentRow}
use Rattle.std.proofs.lemmas.List.Elements.{All-nil}
use Rattle.std.proofs.lemmas.List.Sorted.{IsPermutation-trans, IsPermutation-append, IsPermutation-refl}
use Rattle.enfilade_core.specs.declared.tree.Node.{Node}
use Rattle.enfilade_core.specs.Rows.{Shape, rows_of}
use Rattle.enfilade_core.specs.Edits.{KeepsRows}
use Rattle.enfilade_core.specs.Exchange.{Grows}
use Rattle.poom.specs.Laid.{IsRoot}
use Rattle.poom.specs.Laid as laid
use Rattle.spanfilade.specs.Index.{IndexTree}
use Rattle.febe_data.specs.declared.access.Mode.TheVariants.{Write}
use Rattle.febe_data.specs.Plain.{document_created, version_made}
use Rattle.doc_table.specs.DocumentRows.{documents_in, has_in, root_in, added}
use Rattle.access_table.specs.AccessRows.{AccessRows, mode_in, opened}
use Rattle.world_rules.specs.declared.rows.Row.{Row}
use Rattle.world_rules.specs.World.{World, is_same, is_text_of, is_link_of}
use Rattle.world_rules.specs.Edits.{new_rows, rows_as}
use Rattle.world_rules.specs.FlatView.{FlatView}
use Rattle.tree_world.specs.Trees.{Trees, text_at, links_at, text_in, links_in}
use Rattle.tree_world.specs.Standing.{Stands, SessionsStand, link_rows, IsCovered}
use Rattle.tree_world.specs.Changed.{after_change, MayWrite, MayComeIn}
use Rattle.tree_world.proofs.AccessChanged.{first_opened_stand}
use Rattle.tree_world.proofs.Opened.{others_do_not}
use Rattle.tree_world.proofs.Once.{each_last}
use Rattle.tree_world.proofs.Tables.{document_seen, has_none, root_added, content_added, mark_added, documents_added}
use Rattle.tree_world.proofs.Roots.{RootsStand, root_stands, roots_added, texts_after, links_after, covered_after}
use Rattle.tree_world.proofs.FlatRows.{text_as_is, links_as_are, other_text_as, other_links_as}

-- who has what open is asked of the table alone
pub restand : (trees : Trees) (world : World) (other : Trees) (after : World) → SessionsStand (record trees { access = other.access }) (record world { open_rows = after.open_rows; accounts = after.accounts }) → SessionsStand other after
restand trees world other after stand = record { modes = stand.modes; accounts = stand.accounts; once = stand.once; account_once = stand.account_once; one_writer = stand.one_writer }

module _ (trees : Trees) (view : FlatView) (stand : Stands trees view) (roots : RootsStand trees.nodes trees.documents) (session : ℕ) (document : List ℕ) (none : has_in trees.documents document ≡ false) where
  no_root : root_in trees.documents document ≡ None
  no_root = ap (λ (found : Option (DocumentRow Node)). option_map (λ (row : DocumentRow Node). row.root) found) (has_none trees.documents document none)

  module _ (unopened : mode_in trees.access.open_rows session document ≡ None) (may : MayWrite trees.access.open_rows document session) (nodes : List (Shape ℕ)) (kept : KeepsRows trees.nodes nodes) (grows : Grows trees.nodes nodes) (made : Node) (root : IsRoot nodes made.0) (index : IndexTree) (rows : List Row) where
    pub came_in : filter (is_text_of document) rows ≡ new_rows document 1 (laid.texts (rows_of nodes made.0)) → filter (is_link_of document) rows ≡ link_rows document 1 (laid.links (rows_of nodes made.0))
        → ((d : List ℕ) → is_same d document ≡ false → filter (is_text_of d) rows ≡ filter (is_text_of d) view.world.rows) → ((d : List ℕ) → is_same d document ≡ false → filter (is_link_of d) rows ≡ filter (is_link_of d) view.world.rows)
        → ((d a : List ℕ) → IsCovered trees.index d a → IsCovered index d a) → All (IsCovered index document) (laid.texts (rows_of nodes made.0))
        → Stands (record trees { nodes = nodes; documents = added trees.documents document made; access = opened trees.access session document Write; index = index; counted = trees.counted + 1 })
        (record view { world = record view.world { documents = view.world.documents ++ document ∷ []; open_rows = view.world.open_rows ++ record { session = session; document = document; mode = Write } ∷ []; rows = rows }; counted = view.counted + 1 })
    came_in own_text own_links other_text other_links keeps own_covered =
        let gives = root_added trees.documents document made none in
        record {
          documents = IsPermutation-trans _ _ _ (documents_added trees.documents document made none) (IsPermutation-append (documents_in trees.documents) view.world.documents (document ∷ []) (document ∷ []) stand.documents (IsPermutation-refl (document ∷ [])));
          documents_once = each_last is_same view.world.documents document stand.documents_once (sym (document_seen trees.documents view.world.documents document stand.documents) ∙ none);
          roots = roots_added trees.nodes nodes kept grows trees.documents roots document made root;
          texts = texts_after trees.nodes nodes kept trees.documents roots document made (added trees.documents document made) gives view.world.rows rows stand.texts own_text other_text;
          links = links_after trees.nodes nodes kept trees.documents roots document made (added trees.documents document made) gives view.world.rows rows stand.links own_links other_links;
          covered = covered_after trees.nodes nodes kept trees.documents roots document made (added trees.documents document made) gives trees.index index keeps stand.covered own_covered;
          bytes = stand.bytes;
          bytes_once = stand.bytes_once;
          total = stand.total;
          counts = λ d. content_added trees.documents document made none d ∙ stand.counts d;
          marks = λ d. mark_added trees.documents document made none d ∙ stand.marks d;
          link_table = stand.link_table;
          ids = stand.ids;
          ends = stand.ends;
          access = restand trees view.world _ _ (first_opened_stand trees view.world session stand.access document unopened (others_do_not trees trees.access session view stand document may));
          counted = ap (λ n. n + 1) stand.counted;
          entries = stand.entries;
          known = stand.known;
        }

module _ (trees : Trees) (view : FlatView) (stand : Stands trees view) (roots : RootsStand trees.nodes trees.documents) (session : ℕ) (document : List ℕ) (may : MayComeIn trees.documents trees.access.open_rows session document) (nodes : List (Shape ℕ)) (kept : KeepsRows trees.nodes nodes) (grows : Grows trees.nodes nodes) (made : Node) (root : IsRoot nodes made.0) where
  own_none : root_in trees.documents document ≡ None
  own_none = no_root trees view stand roots session document may.absent

  own_text_none : filter (is_text_of document) view.world.rows ≡ []
  own_text_none = stand.texts document ∙ ap (λ found. new_rows document 1 (text_at trees.nodes found)) own_none

  own_links_none : filter (is_link_of document) view.world.rows ≡ []
  own_links_none = stand.links document ∙ ap (λ found. link_rows document 1 (links_at trees.nodes found)) own_none

  -- an empty document
  pub created_in : rows_of nodes made.0 ≡ []
      → Stands (record trees { nodes = nodes; documents = added trees.documents document made; access = opened trees.access session document Write; counted = trees.counted + 1 }) (after_change view session (document_created document))
  created_in empty =
      came_in trees view stand roots session document may.absent may.unopened may.alone nodes kept grows made root trees.index view.world.rows
      (own_text_none ∙ ap (λ rs. new_rows document 1 (laid.texts rs)) (sym empty))
      (own_links_none ∙ ap (λ rs. link_rows document 1 (laid.links rs)) (sym empty))
      (λ d e. refl) (λ d e. refl) (λ d a h. h)
      (subst (λ rs. All (IsCovered trees.index document) (laid.texts rs)) (sym empty) (All-nil (IsCovered trees.index document)))

  -- a version: the source's root
  module _ (source : List ℕ) (own : root_in trees.documents source ≡ Some made) (index : IndexTree) where
    source_text : text_in trees source ≡ laid.texts (rows_of nodes made.0)
    source_text = ap (text_at trees.nodes) own ∙ ap laid.texts (sym (kept made.0 (root_stands trees.nodes trees.documents source made roots own).there))

    source_links : links_in trees source ≡ laid.links (rows_of nodes made.0)
    source_links = ap (links_at trees.nodes) own ∙ ap laid.links (sym (kept made.0 (root_stands trees.nodes trees.documents source made roots own).there))

    pub versioned_in : ((d a : List ℕ) → IsCovered trees.index d a → IsCovered index d a) → All (IsCovered index document) (text_in trees source)
        → Stands (record trees { nodes = nodes; documents = added trees.documents document made; access = opened trees.access session document Write; index = index; counted = trees.counted + 1 }) (after_change view session (version_made source document))
    versioned_in keeps covered =
        came_in trees view stand roots session document may.absent may.unopened may.alone nodes kept grows made root index (view.world.rows ++ rows_as view.world.rows source document)
        (text_as_is view.world.rows source document (text_in trees source) (stand.texts source) own_text_none ∙ ap (new_rows document 1) source_text)
        (links_as_are view.world.rows source document (links_in trees source) (stand.links source) own_links_none ∙ ap (link_rows document 1) source_links)
        (λ d e. other_text_as view.world.rows source document d e) (λ d e. other_links_as view.world.rows source document d e)
        keeps (subst (λ xs. All (IsCovered index document) xs) source_text covered)

  -- the same, of values that are equal to these
  module _ (documents : List (DocumentRow Node)) (access : AccessRows) (counted : ℕ) (now : documents ≡ added trees.documents document made) (has : access ≡ opened trees.access session document Write) (one_more : counted ≡ trees.counted + 1) where
    pub created_as : rows_of nodes made.0 ≡ [] → Stands (record trees { nodes = nodes; documents = documents; access = access; counted = counted }) (after_change view session (document_created document))
    created_as empty =
        subst (λ n. Stands (record trees { nodes = nodes; documents = documents; access = access; counted = n }) (after_change view session (document_created document))) (sym one_more)
        (subst (λ a. Stands (record trees { nodes = nodes; documents = documents; access = a; counted = trees.counted + 1 }) (after_change view session (document_created document))) (sym has)
        (subst (λ ds. Stands (record trees { nodes = nodes; documents = ds; access = opened trees.access session document Write; counted = trees.counted + 1 }) (after_change view session (document_created document))) (sym now) (created_in empty)))

    pub versioned_as : (source : List ℕ) (own : root_in trees.documents source ≡ Some made) (index : IndexTree) → ((d a : List ℕ) → IsCovered trees.index d a → IsCovered index d a) → All (IsCovered index document) (text_in trees source)
        → Stands (record trees { nodes = nodes; documents = documents; access = access; index = index; counted = counted }) (after_change view session (version_made source document))
    versioned_as source own index keeps covered =
        subst (λ n. Stands (record trees { nodes = nodes; documents = documents; access = access; index = index; counted = n }) (after_change view session (version_made source document))) (sym one_more)
        (subst (λ a. Stands (record trees { nodes = nodes; documents = documents; access = a; index = index; counted = trees.counted + 1 }) (after_change view session (version_made source document))) (sym has)
        (subst (λ ds. Stands (record trees { nodes = nodes; documents = ds; access = opened trees.access session document Write; index = index; counted = trees.counted + 1 }) (after_change view session (version_made source document))) (sym now) (versioned_in source own index keeps covered)))

-- nodes that stay
pub stay_kept : (nodes : List (Shape ℕ)) → KeepsRows nodes nodes
stay_kept nodes k below = refl

pub stay_grown : (nodes : List (Shape ℕ)) → Grows nodes nodes
stay_grown nodes = record { more = []; is = sym (append-nil nodes) }
