-- What is asked of tables by themselves, without the trees.
use Rattle.std.specs.Prelude.{◌≡◌, ℕ, ◌+◌, ◌-◌, ◌<◌, List, [], ◌∷◌, ◌++◌, map, filter, All, IsTrue}
use Rattle.std.specs.Ordering.{nat_cmp}
use Rattle.std.specs.Cmp.Lexicographic.{slice_cmp}
use Rattle.std.specs.List.Sorted.{IsStrictlySortedBy}
use Rattle.tumbler.specs.Places.{place_bound}
use Rattle.tumbler.specs.Address.{IsDocument}
use Rattle.febe_data.specs.declared.run.Run.{Run}
use Rattle.world_rules.specs.World.{link_address}
use Rattle.world_rules.specs.Laws.{numbers_from}
use Rattle.page_tables.specs.declared.tables.TableDocument.{TableDocument}
use Rattle.page_tables.specs.Plain.{PlainLink, PlainTables}
use Rattle.table_checks.specs.TableRows.{addresses_of, is_listed, ids_of, is_of_home, links_in_home}

-- each address comes before all that stand behind it
abbrev pub Ascend : List (List ℕ) → Type 0
Ascend addresses = IsStrictlySortedBy (slice_cmp nat_cmp) addresses

-- where the address ends in a k above 1, the address that ends in k - 1 in its place is listed too
abbrev pub HasElder : List TableDocument → List ℕ → Type 0
HasElder rows address = (front : List ℕ) (k : ℕ) → address ≡ front ++ k ∷ [] → 1 < k → IsTrue (is_listed rows (front ++ (k - 1) ∷ []))

-- the ids of each home's links are its link addresses from 1 on, in this order and without gaps
abbrev pub AreNumbered : List PlainLink → Type 0
AreNumbered links = (home : List ℕ) → ids_of (filter (is_of_home home) links) ≡ map (link_address home) (numbers_from 1 (links_in_home links home))

-- bytes of one document's content, one or more, whose numbers are places
pub record IsLinkRun (run : Run) : Type 0 where
  pub content : IsDocument run.content
  pub counted : 0 < run.first
  pub some : 0 < run.length
  pub small : run.first + run.length < place_bound

-- each run of each end is such a run
pub record HasLinkRuns (link : PlainLink) : Type 0 where
  pub from : All IsLinkRun link.from
  pub to : All IsLinkRun link.to
  pub three : All IsLinkRun link.three

-- Documents ascend, have documents' addresses, and each has its elder if it has one. Links ascend, each has a listed
-- document as its home and runs that a link may have, and those of each home are numbered.
pub record AreSound (tables : PlainTables) : Type 0 where
  pub documents_ascend : Ascend (addresses_of tables.documents)
  pub documents : All (λ (row : TableDocument). IsDocument row.document) tables.documents
  pub elders : All (λ (row : TableDocument). HasElder tables.documents row.document) tables.documents
  pub links_ascend : Ascend (ids_of tables.links)
  pub homes : All (λ (link : PlainLink). IsTrue (is_listed tables.documents link.home)) tables.links
  pub numbered : AreNumbered tables.links
  pub runs : All HasLinkRuns tables.links
