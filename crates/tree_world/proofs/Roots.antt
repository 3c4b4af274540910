-- What stands in each document after one got another root, or one came in.
use Rattle.std.proofs.Common.{◌≡◌, ◌∙◌, ℕ, ◌<◌, ◌≤◌, Bool, true, false, cond, List, [], ◌∷◌, ◌++◌, length, take, Option, Some, None, refl, sym, ap, subst, arith}
use Rattle.std.specs.Prelude.{All, filter}
use Rattle.std.specs.List.{find}
use Rattle.std.specs.Option.{option_map}
use Rattle.std.proofs.lemmas.List.Elements.{All-head, All-tail, All-weaker, All-map}
use Rattle.std.proofs.lemmas.Map.Views.{All-insert_key}
use Rattle.enfilade_core.specs.declared.tree.Node.{Node}
use Rattle.enfilade_core.specs.Rows.{Shape, rows_of}
use Rattle.enfilade_core.specs.Edits.{KeepsRows}
use Rattle.enfilade_core.specs.Exchange.{Grows}
use Rattle.poom.specs.Laid as laid
use Rattle.poom.specs.Laid.{IsRoot, IsOneDocument}
use Rattle.doc_table.specs.declared.rows.DocumentRow.{DocumentRow}
use Rattle.doc_table.specs.DocumentRows.{is_of, root_in, row_cmp, added, with_root}
use Rattle.world_rules.specs.declared.rows.Row.{Row}
use Rattle.world_rules.specs.World.{is_same, is_text_of, is_link_of}
use Rattle.world_rules.specs.Edits.{new_rows}
use Rattle.spanfilade.specs.Index.{IndexTree}
use Rattle.tree_world.specs.Standing.{link_rows, IsCovered}
use Rattle.tree_world.specs.Trees.{text_at, links_at}
use Rattle.tree_world.proofs.Options.{none_there, one_value}
use Rattle.tree_world.proofs.Found.{address_is}

abbrev pub RootsStand : List (Shape ℕ) → List (DocumentRow Node) → Type 0
RootsStand nodes rows = All (λ (row : DocumentRow Node). IsRoot nodes row.root.0) rows

pub root_stands : (nodes : List (Shape ℕ)) (rows : List (DocumentRow Node)) (document : List ℕ) (root : Node) → RootsStand nodes rows → root_in rows document ≡ Some root → IsRoot nodes root.0
root_stands nodes [] document root all e = absurd (none_there root (sym e))
root_stands nodes (row ∷ rows) document root all e = step (is_of document row) e (root_stands nodes rows document root (All-tail (λ (r : DocumentRow Node). IsRoot nodes r.root.0) row rows all))
  where
    step : (b : Bool) → option_map (λ (r : DocumentRow Node). r.root) (cond b (Some row) (find (is_of document) rows)) ≡ Some root → (root_in rows document ≡ Some root → IsRoot nodes root.0) → IsRoot nodes root.0
    step true h rest = subst (λ (k : Node). IsRoot nodes k.0) (one_value row.root root h) (All-head (λ (r : DocumentRow Node). IsRoot nodes r.root.0) row rows all)
    step false h rest = rest h

-- nodes that came in go again
pub taken_back : {L : Type 0} (old now : List (Shape L)) (mark : ℕ) → Grows old now → mark ≡ length old → take mark now ≡ old
taken_back old now mark grows is = (λ i. take (is i) (grows.is i)) ∙ front old grows.more
  where
    front : {X : Type 0} (xs ys : List X) → take (length xs) (xs ++ ys) ≡ xs
    front [] ys = refl
    front (x ∷ xs) ys = ap (λ zs. x ∷ zs) (front xs ys)

pub within_grown : {L : Type 0} (old now : List (Shape L)) → Grows old now → length old ≤ length now
within_grown old now grows = subst (λ xs. length old ≤ length xs) (sym grows.is) (longer old grows.more)
  where
    longer : {X : Type 0} (xs ys : List X) → length xs ≤ length (xs ++ ys)
    longer [] ys = omega arith
    longer (x ∷ xs) ys = let h = longer xs ys in omega (arith, h)

pub root_grows : (nodes more : List (Shape ℕ)) (k : ℕ) → KeepsRows nodes more → Grows nodes more → IsRoot nodes k → IsRoot more k
root_grows nodes more k kept grows root = record { there = below k (length nodes) (length more) root.there (within_grown nodes more grows); document = subst IsOneDocument (sym (kept k root.there)) root.document }
  where
    below : (a b c : ℕ) → a < b → b ≤ c → a < c
    below a b c h g = omega (arith, h, g)

module _ (nodes more : List (Shape ℕ)) (kept : KeepsRows nodes more) (grows : Grows nodes more) (rows : List (DocumentRow Node)) (stand : RootsStand nodes rows) (document : List ℕ) (made : Node) (root : IsRoot more made.0) where
  abbrev IsRooted : DocumentRow Node → Type 0
  IsRooted row = IsRoot more row.root.0

  roots_still : All IsRooted rows
  roots_still = All-weaker (λ (row : DocumentRow Node). IsRoot nodes row.root.0) IsRooted (λ row h. root_grows nodes more row.root.0 kept grows h) rows stand

  pub roots_added : RootsStand more (added rows document made)
  roots_added = All-insert_key row_cmp (record { document = document; root = made; content = 0; published = false }) IsRooted rows roots_still root

  pub roots_set : RootsStand more (with_root rows document made)
  roots_set =
      All-map IsRooted (λ (row : DocumentRow Node). cond (is_of document row) (record row { root = made }) row) rows
      (All-weaker IsRooted (λ (row : DocumentRow Node). IsRooted (cond (is_of document row) (record row { root = made }) row)) (λ row h. by_root row (is_of document row) h) rows roots_still)
    where
      by_root : (row : DocumentRow Node) (b : Bool) → IsRooted row → IsRooted (cond b (record row { root = made }) row)
      by_root row true h = root
      by_root row false h = h

module _ (nodes more : List (Shape ℕ)) (kept : KeepsRows nodes more) (rows : List (DocumentRow Node)) (stand : RootsStand nodes rows) where
  -- a document that has its root still has what it had
  pub text_kept : (d : List ℕ) → text_at more (root_in rows d) ≡ text_at nodes (root_in rows d)
  text_kept d = step (root_in rows d) refl
    where
      step : (found : Option Node) → root_in rows d ≡ found → text_at more found ≡ text_at nodes found
      step None is = refl
      step (Some root) is = ap laid.texts (kept root.0 (root_stands nodes rows d root stand is).there)

  pub links_kept : (d : List ℕ) → links_at more (root_in rows d) ≡ links_at nodes (root_in rows d)
  links_kept d = step (root_in rows d) refl
    where
      step : (found : Option Node) → root_in rows d ≡ found → links_at more found ≡ links_at nodes found
      step None is = refl
      step (Some root) is = ap laid.links (kept root.0 (root_stands nodes rows d root stand is).there)

  module _ (document : List ℕ) (made : Node) where
    -- the table gives this root for the document, and the roots of before for others
    abbrev pub Gives : List (DocumentRow Node) → Type 0
    Gives now = (d : List ℕ) → root_in now d ≡ cond (is_same d document) (Some made) (root_in rows d)

    pub own_text : (now : List (DocumentRow Node)) → Gives now → (d : List ℕ) → is_same d document ≡ true → text_at more (root_in now d) ≡ laid.texts (rows_of more made.0)
    own_text now gives d e = ap (text_at more) (gives d ∙ ap (λ b. cond b (Some made) (root_in rows d)) e)

    pub own_links : (now : List (DocumentRow Node)) → Gives now → (d : List ℕ) → is_same d document ≡ true → links_at more (root_in now d) ≡ laid.links (rows_of more made.0)
    own_links now gives d e = ap (links_at more) (gives d ∙ ap (λ b. cond b (Some made) (root_in rows d)) e)

    pub other_text : (now : List (DocumentRow Node)) → Gives now → (d : List ℕ) → is_same d document ≡ false → text_at more (root_in now d) ≡ text_at nodes (root_in rows d)
    other_text now gives d e = ap (text_at more) (gives d ∙ ap (λ b. cond b (Some made) (root_in rows d)) e) ∙ text_kept d

    pub other_links : (now : List (DocumentRow Node)) → Gives now → (d : List ℕ) → is_same d document ≡ false → links_at more (root_in now d) ≡ links_at nodes (root_in rows d)
    other_links now gives d e = ap (links_at more) (gives d ∙ ap (λ b. cond b (Some made) (root_in rows d)) e) ∙ links_kept d

    -- ---- the rows of each document are what stands there

    module _ (now : List (DocumentRow Node)) (gives : Gives now) where
      pub texts_after : (old new : List Row) → ((d : List ℕ) → filter (is_text_of d) old ≡ new_rows d 1 (text_at nodes (root_in rows d)))
          → filter (is_text_of document) new ≡ new_rows document 1 (laid.texts (rows_of more made.0)) → ((d : List ℕ) → is_same d document ≡ false → filter (is_text_of d) new ≡ filter (is_text_of d) old)
          → (d : List ℕ) → filter (is_text_of d) new ≡ new_rows d 1 (text_at more (root_in now d))
      texts_after old new stood own others d = step (is_same d document) refl
        where
          step : (b : Bool) → is_same d document ≡ b → filter (is_text_of d) new ≡ new_rows d 1 (text_at more (root_in now d))
          step true e = subst (λ a. filter (is_text_of a) new ≡ new_rows a 1 (laid.texts (rows_of more made.0))) (sym (address_is d document e)) own ∙ ap (new_rows d 1) (sym (own_text now gives d e))
          step false e = others d e ∙ stood d ∙ ap (new_rows d 1) (sym (other_text now gives d e))

      pub links_after : (old new : List Row) → ((d : List ℕ) → filter (is_link_of d) old ≡ link_rows d 1 (links_at nodes (root_in rows d)))
          → filter (is_link_of document) new ≡ link_rows document 1 (laid.links (rows_of more made.0)) → ((d : List ℕ) → is_same d document ≡ false → filter (is_link_of d) new ≡ filter (is_link_of d) old)
          → (d : List ℕ) → filter (is_link_of d) new ≡ link_rows d 1 (links_at more (root_in now d))
      links_after old new stood own others d = step (is_same d document) refl
        where
          step : (b : Bool) → is_same d document ≡ b → filter (is_link_of d) new ≡ link_rows d 1 (links_at more (root_in now d))
          step true e = subst (λ a. filter (is_link_of a) new ≡ link_rows a 1 (laid.links (rows_of more made.0))) (sym (address_is d document e)) own ∙ ap (link_rows d 1) (sym (own_links now gives d e))
          step false e = others d e ∙ stood d ∙ ap (link_rows d 1) (sym (other_links now gives d e))

      pub covered_after : (old new : IndexTree) → ((d a : List ℕ) → IsCovered old d a → IsCovered new d a) → ((d : List ℕ) → All (IsCovered old d) (text_at nodes (root_in rows d)))
          → All (IsCovered new document) (laid.texts (rows_of more made.0)) → (d : List ℕ) → All (IsCovered new d) (text_at more (root_in now d))
      covered_after old new keeps stood own d = step (is_same d document) refl
        where
          step : (b : Bool) → is_same d document ≡ b → All (IsCovered new d) (text_at more (root_in now d))
          step true e = subst (λ xs. All (IsCovered new d) xs) (sym (own_text now gives d e)) (subst (λ a. All (IsCovered new a) (laid.texts (rows_of more made.0))) (sym (address_is d document e)) own)
          step false e = subst (λ xs. All (IsCovered new d) xs) (sym (other_text now gives d e)) (All-weaker (IsCovered old d) (IsCovered new d) (keeps d) (text_at nodes (root_in rows d)) (stood d))
