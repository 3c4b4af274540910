-- All tests of loading together.
use Rattle.std.proofs.Common.{◌≡◌, Bool, IsTrue, ℕ, List, All, sym, ap, ◌∙◌, subst}
use Rattle.std.specs.Prelude.{◌↔◌}
use Rattle.febe_data.specs.declared.run.Run.{Run}
use Rattle.enfilade_core.specs.declared.tree.Node.{Node}
use Rattle.enfilade_core.specs.Rows.{Shape}
use Rattle.links.specs.LinkLists.{HoldsRuns}
use Rattle.page_tables.specs.declared.tables.TableDocument.{TableDocument}
use Rattle.page_tables.specs.Plain.{plain_tables}
use Rattle.spanfilade.specs.Index.{IndexTree}
use Rattle.world_rules.specs.World.{LinkRow}
use Rattle.content_checks.specs.Sound as contents
use Rattle.table_checks.specs.Sound as tables
use Rattle.index_checks.specs.Covered.{IsRunCovered}
use Rattle.green_flush.specs.Sound.{AreSound, CoversText, link_rows}
use Rattle.green_flush.specs.declared.owned.Owned.{Owned}
use Rattle.green_flush.specs.inside.Ends.{EndsHold}
use Rattle.green_flush.specs.inside.Owning.{plain_owned, AreRooted}
use Rattle.green_flush.specs.inside.Showing.{AreRunsOf}
use Rattle.green_flush.proofs.ShownRuns.{covers}

index-of : List (Shape (List ℕ)) → Node → IndexTree
index-of nodes root = record { nodes = nodes; root = root }

same-index : (index : IndexTree) (nodes : List (Shape (List ℕ))) (root : Node) → nodes ≡ index.nodes → root ≡ index.root → index-of nodes root ≡ index
unfolding index-of
same-index index nodes root a b = ap (λ (x : List (Shape (List ℕ))). index-of x root) a ∙ ap (λ (x : Node). index-of index.nodes x) b

pub cover-iff : (index : IndexTree) (arena : List (Shape (List ℕ))) (root : Node) (nodes : List (Shape ℕ)) (rows documents : List TableDocument) (runs slice : List Run) (cover : Bool) →
    arena ≡ index.nodes → root ≡ index.root → documents ≡ rows → slice ≡ runs → AreRunsOf nodes documents runs →
    (IsTrue cover ↔ All (IsRunCovered (record { nodes = arena; root = root })) slice) → IsTrue cover ↔ All (CoversText index nodes) rows
unfolding index-of
cover-iff index arena root nodes rows documents runs slice cover a b same_rows same_runs so iff =
    let same = same-index index arena root a b in
    let own : IsTrue cover ↔ All (IsRunCovered index) runs =
    subst (λ (x : IndexTree). IsTrue cover ↔ All (IsRunCovered x) runs) same (subst (λ (x : List Run). IsTrue cover ↔ All (IsRunCovered (index-of arena root)) x) same_runs iff) in
    let all = covers index nodes rows runs (subst (λ (x : List TableDocument). AreRunsOf nodes x runs) same_rows so) in
    (λ yes_. all.0 (own.0 yes_), λ text. own.1 (all.1 text))

pub sound-iff : (owned : Owned) (hold : Bool) (links : List LinkRow) → AreRooted owned → tables.AreSound (plain_tables owned.tables) → contents.AreSound owned.granfilade.nodes owned.poom (plain_tables owned.tables) →
    All (CoversText owned.spanfilade owned.poom) owned.tables.documents.items → links ≡ link_rows (plain_tables owned.tables) → (IsTrue hold ↔ EndsHold links owned.from owned.to owned.three) →
    IsTrue hold ↔ AreSound (plain_owned owned)
sound-iff owned hold links rooted t c v same iff = (
  λ so.
      let ends = iff.0 so in
      record {
        tables = t;
        contents = c;
        covered = subst (λ (x : IndexTree). All (CoversText x owned.poom) owned.tables.documents.items) rooted.spanfilade v;
        from = subst (HoldsRuns 1 (link_rows (plain_tables owned.tables))) rooted.from (subst (λ (x : List LinkRow). HoldsRuns 1 x owned.from) same ends.from_is);
        to = subst (HoldsRuns 2 (link_rows (plain_tables owned.tables))) rooted.to (subst (λ (x : List LinkRow). HoldsRuns 2 x owned.to) same ends.to_is);
        three = subst (HoldsRuns 3 (link_rows (plain_tables owned.tables))) rooted.three (subst (λ (x : List LinkRow). HoldsRuns 3 x owned.three) same ends.three_is);
      },
  λ sound. iff.1 (record {
    from_is = subst (λ (x : List LinkRow). HoldsRuns 1 x owned.from) (sym same) (subst (HoldsRuns 1 (link_rows (plain_tables owned.tables))) (sym rooted.from) sound.from);
    to_is = subst (λ (x : List LinkRow). HoldsRuns 2 x owned.to) (sym same) (subst (HoldsRuns 2 (link_rows (plain_tables owned.tables))) (sym rooted.to) sound.to);
    three_is = subst (λ (x : List LinkRow). HoldsRuns 3 x owned.three) (sym same) (subst (HoldsRuns 3 (link_rows (plain_tables owned.tables))) (sym rooted.three) sound.three);
  }),
)
