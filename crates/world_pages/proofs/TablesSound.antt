-- The tables of trees that stand for a world are right by themselves.
use Rattle.std.proofs.Common.{◌≡◌, ◌∙◌, ℕ, zero, suc, ◌+◌, ◌-◌, ◌<◌, ◌&&◌, Bool, true, false, cond, List, [], ◌∷◌, ◌++◌, length, map, refl, sym, ap, subst, arith, Less}
use Rattle.std.specs.Prelude.{IsPermutation, filter, count_by, IsTrue}
use Rattle.std.specs.List.{All, Contains, list_any}
use Rattle.std.specs.List.Sorted.{IsStrictlySortedBy}
use Rattle.std.specs.Ordering.{nat_cmp}
use Rattle.std.specs.Cmp.Lexicographic.{slice_cmp}
use Rattle.std.proofs.lemmas.List.{length-map}
use Rattle.std.proofs.lemmas.List.Elements.{All-map, All-weaker, All-contains_itself}
use Rattle.std.proofs.lemmas.List.Sorted.{All-permutation, IsPermutation-sym, list_any-IsPermutation, sum_by-IsPermutation}
use Rattle.std.proofs.lemmas.List.Sums.{length-filter}
use Rattle.tumbler.specs.Address.{IsDocument}
use Rattle.tumbler.specs.Places.{IsBefore}
use Rattle.tumbler.proofs.Order.{before_by_first, before_by_rest}
use Rattle.febe_data.specs.declared.run.Run.{Run}
use Rattle.enfilade_core.specs.declared.tree.Node.{Node}
use Rattle.doc_table.specs.declared.rows.DocumentRow.{DocumentRow}
use Rattle.doc_table.specs.DocumentRows.{documents_in, has_in}
use Rattle.links.specs.LinkLists.{IsRun, IsLink, ids_in}
use Rattle.links.proofs.Searched.{ids_kept}
use Rattle.world_rules.specs.World.{World, LinkRow, is_same, has_document, link_address, links_made_in}
use Rattle.world_rules.specs.Laws.{numbers_from}
use Rattle.tree_world.specs.Trees.{Trees}
use Rattle.tree_world.proofs.Lists.{any_map, any_filter}
use Rattle.page_tables.specs.declared.tables.TableDocument.{TableDocument}
use Rattle.page_tables.specs.Plain.{PlainLink}
use Rattle.table_checks.specs.TableRows.{is_listed, ids_of, is_of_home, links_in_home}
use Rattle.table_checks.specs.Sound.{AreSound, HasElder, AreNumbered, IsLinkRun, HasLinkRuns}
use Rattle.world_pages.specs.Pages.{table_document, table_link, tables_of_world}
use Rattle.world_pages.proofs.Listed.{Rise, has, same_lists, numbers_rise}
use Rattle.world_pages.proofs.Documents.{Rows, addresses_same, listed_same, row_there, there_same}
use Rattle.world_pages.proofs.World.{IsKept}

-- ---- elders

elders_listed : (rows : Rows) (world : World) → IsPermutation (documents_in rows) world.documents → IsKept world → All (λ (row : TableDocument). HasElder (map table_document rows) row.document) (map table_document rows)
elders_listed rows world moved kept =
    All-map (λ (row : TableDocument). HasElder (map table_document rows) row.document) table_document rows
    (All-weaker (Contains rows) (λ (row : DocumentRow Node). HasElder (map table_document rows) row.document)
    (λ row c front k is more.
    let there : has_document world (front ++ k ∷ []) ≡ true = subst (λ (d : List ℕ). has_document world d ≡ true) is (sym (there_same rows world.documents moved row.document) ∙ row_there rows row c) in
    listed_same rows (front ++ (k - 1) ∷ []) ∙ there_same rows world.documents moved (front ++ (k - 1) ∷ []) ∙ kept.elders front k more there)
    rows (All-contains_itself rows))

-- ---- links

abbrev own : List ℕ → LinkRow → Bool
own home link = is_same link.home home

pub ids_same : (links : List LinkRow) → ids_of (map table_link links) ≡ ids_in links
ids_same [] = refl
ids_same (link ∷ links) = ap (λ (ids : List (List ℕ)). link.id ∷ ids) (ids_same links)

homes_listed : (rows : Rows) (links : List LinkRow) (world : World) → IsPermutation (documents_in rows) world.documents → IsPermutation links world.links → IsKept world
    → All (λ (link : PlainLink). IsTrue (is_listed (map table_document rows) link.home)) (map table_link links)
homes_listed rows links world moved moved' kept =
    All-map (λ (link : PlainLink). IsTrue (is_listed (map table_document rows) link.home)) table_link links
    (All-weaker (λ (link : LinkRow). IsTrue (has_document world link.home)) (λ (link : LinkRow). IsTrue (is_listed (map table_document rows) link.home))
    (λ link there. listed_same rows link.home ∙ there_same rows world.documents moved link.home ∙ there)
    links (All-permutation (λ (link : LinkRow). IsTrue (has_document world link.home)) world.links links (IsPermutation-sym links world.links moved') kept.homes))

own_same : (home : List ℕ) (links : List LinkRow) → ids_of (filter (is_of_home home) (map table_link links)) ≡ ids_in (filter (own home) links)
own_same home [] = refl
own_same home (link ∷ links) = step (own home link) (own_same home links)
  where
    step : (b : Bool) → ids_of (filter (is_of_home home) (map table_link links)) ≡ ids_in (filter (own home) links)
        → ids_of (cond b (table_link link ∷ filter (is_of_home home) (map table_link links)) (filter (is_of_home home) (map table_link links))) ≡ ids_in (cond b (link ∷ filter (own home) links) (filter (own home) links))
    step true e = ap (λ (ids : List (List ℕ)). link.id ∷ ids) e
    step false e = e

count_same : (home : List ℕ) (links : List LinkRow) → links_in_home (map table_link links) home ≡ count_by (own home) links
count_same home links =
    sym (length-filter (is_of_home home) (map table_link links))
    ∙ sym (length-map (filter (is_of_home home) (map table_link links)) (λ (link : PlainLink). link.id))
    ∙ ap length (own_same home links)
    ∙ length-map (filter (own home) links) (λ (link : LinkRow). link.id)
    ∙ length-filter (own home) links

behind_front : (front a b : List ℕ) → IsBefore a b → IsBefore (front ++ a) (front ++ b)
behind_front [] a b less = less
behind_front (x ∷ front) a b less = before_by_rest x (front ++ a) (front ++ b) (behind_front front a b less)

link_before : (home : List ℕ) (m n : ℕ) → m < n → IsBefore (link_address home m) (link_address home n)
link_before home m n lt =
    behind_front home (0 ∷ 2 ∷ m ∷ []) (0 ∷ 2 ∷ n ∷ []) (before_by_rest 0 (2 ∷ m ∷ []) (2 ∷ n ∷ []) (before_by_rest 2 (m ∷ []) (n ∷ []) (before_by_first m n [] [] lt)))

module _ (links : List LinkRow) (world : World) (moved : IsPermutation links world.links) (kept : IsKept world) (up : Rise (ids_in links)) where
  own_ids : (home a : List ℕ) (all : List LinkRow) → has (ids_in (filter (own home) all)) a ≡ list_any (λ (link : LinkRow). own home link && is_same link.id a) all
  own_ids home a all = any_map (λ x. is_same x a) (λ (link : LinkRow). link.id) (filter (own home) all) ∙ any_filter (λ (link : LinkRow). is_same link.id a) (own home) all

  home_ids : (home : List ℕ) → ids_in (filter (own home) links) ≡ map (link_address home) (numbers_from 1 (links_made_in world home))
  home_ids home =
      same_lists (ids_in (filter (own home) links)) (map (link_address home) (numbers_from 1 (links_made_in world home))) (ids_kept (own home) links up) (numbers_rise (link_address home) (link_before home) 1 (links_made_in world home))
      (λ a.
      own_ids home a links
      ∙ list_any-IsPermutation (λ (link : LinkRow). own home link && is_same link.id a) links world.links moved
      ∙ sym (own_ids home a world.links)
      ∙ ap (λ (ids : List (List ℕ)). has ids a) (kept.numbered home))

  numbered : AreNumbered (map table_link links)
  numbered home =
      let count : links_made_in world home ≡ links_in_home (map table_link links) home =
      sum_by-IsPermutation (λ (link : LinkRow). cond (own home link) 1 0) links world.links moved ∙ sym (count_same home links) in
      own_same home links ∙ home_ids home ∙ ap (λ (n : ℕ). map (link_address home) (numbers_from 1 n)) count

-- ---- runs

run_right : (run : Run) → IsRun run → IsLinkRun run
run_right run is = record { content = is.content; counted = is.counted; some = is.some; small = is.small }

runs_right : (link : LinkRow) → IsLink link → HasLinkRuns (table_link link)
runs_right link is = record {
  from = All-weaker IsRun IsLinkRun run_right link.from is.from;
  to = All-weaker IsRun IsLinkRun run_right link.to is.to;
  three = All-weaker IsRun IsLinkRun run_right link.three is.three;
}

-- ---- all of it

pub tables_sound : (trees : Trees) (world : World) → All (λ (row : DocumentRow Node). IsDocument row.document) trees.documents → IsPermutation (documents_in trees.documents) world.documents → IsPermutation trees.links.links world.links
    → Rise (documents_in trees.documents) → Rise (ids_in trees.links.links) → All IsLink trees.links.links → IsKept world → AreSound (tables_of_world trees)
tables_sound trees world are moved moved' up up' runs kept = record {
  documents_ascend = subst Rise (sym (addresses_same trees.documents)) up;
  documents = All-map (λ (row : TableDocument). IsDocument row.document) table_document trees.documents are;
  elders = elders_listed trees.documents world moved kept;
  links_ascend = subst Rise (sym (ids_same trees.links.links)) up';
  homes = homes_listed trees.documents trees.links.links world moved moved' kept;
  numbered = numbered trees.links.links world moved' kept up';
  runs = All-map HasLinkRuns table_link trees.links.links (All-weaker IsLink (λ (link : LinkRow). HasLinkRuns (table_link link)) runs_right trees.links.links runs);
}
