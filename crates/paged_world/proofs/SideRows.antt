-- Documents of tables side by side, and what they show.
use Rattle.std.proofs.Common.{◌≡◌, ℕ, zero, suc, ◌+◌, ◌<◌, add-one, List, [], ◌∷◌, length, take, get_or, sym, subst, arith}
use Rattle.enfilade_core.specs.declared.tree.Node.{Node}
use Rattle.enfilade_core.specs.Rows.{Shape, rows_of}
use Rattle.page_tables.specs.declared.tables.TableDocument.{TableDocument}
use Rattle.tree_compare.specs.RowAddresses.{ShowSame}
use Rattle.paged_world.specs.inside.Same.{root_of_row, ShowAllSame}

module _ (nodes more : List (Shape ℕ)) where
  pub none_shown : (rows read : List TableDocument) → ShowAllSame nodes (take 0 rows) more (take 0 read)
  none_shown rows read = tt

  pub shown_more : (rows read : List TableDocument) (k : ℕ) (row other : TableDocument) → k < length rows → k < length read → row ≡ get_or rows k row → other ≡ get_or read k other → ShowSame (rows_of nodes row.root) (rows_of more other.root)
      → ShowAllSame nodes (take k rows) more (take k read) → ShowAllSame nodes (take (k + 1) rows) more (take (k + 1) read)
  shown_more rows read k row other lt also here there same before = subst (λ n. ShowAllSame nodes (take n rows) more (take n read)) (sym (add-one k)) (step rows read k lt also here there before)
    where
      step : (rows read : List TableDocument) (k : ℕ) → k < length rows → k < length read → row ≡ get_or rows k row → other ≡ get_or read k other → ShowAllSame nodes (take k rows) more (take k read) → ShowAllSame nodes (take (suc k) rows) more (take (suc k) read)
      step [] read k lt also here there before = absurd (omega (arith, lt))
      step (a ∷ rows) [] k lt also here there before = absurd (omega (arith, also))
      step (a ∷ rows) (b ∷ read) zero lt also here there before = (subst (λ (r : TableDocument). ShowSame (rows_of nodes a.root) (rows_of more r.root)) there (subst (λ (r : TableDocument). ShowSame (rows_of nodes r.root) (rows_of more other.root)) here same), tt)
      step (a ∷ rows) (b ∷ read) (suc k) lt also here there before = (before.0, step rows read k (omega (arith, lt)) (omega (arith, also)) here there before.1)

  pub shown_at : (rows read : List TableDocument) (k : ℕ) (row other : TableDocument) → k < length rows → k < length read → row ≡ get_or rows k row → other ≡ get_or read k other → ShowAllSame nodes rows more read → ShowSame (rows_of nodes row.root) (rows_of more other.root)
  shown_at [] read k row other lt also here there all = absurd (omega (arith, lt))
  shown_at (a ∷ rows) [] k row other lt also here there all = absurd (omega (arith, also))
  shown_at (a ∷ rows) (b ∷ read) zero row other lt also here there all =
      subst (λ (r : TableDocument). ShowSame (rows_of nodes row.root) (rows_of more r.root)) (sym there) (subst (λ (r : TableDocument). ShowSame (rows_of nodes r.root) (rows_of more b.root)) (sym here) all.0)
  shown_at (a ∷ rows) (b ∷ read) (suc k) row other lt also here there all = shown_at rows read k row other (omega (arith, lt)) (omega (arith, also)) here there all.1

-- ---- trees that were asked, by their arenas and roots

module _ (nodes more arena others : List (Shape ℕ)) (row other : TableDocument) (root back : Node) (here : arena ≡ nodes) (there : others ≡ more) (is : root ≡ root_of_row row) (also : back ≡ root_of_row other) where
  pub as_rows : ShowSame (rows_of arena root.0) (rows_of others back.0) → ShowSame (rows_of nodes row.root) (rows_of more other.root)
  as_rows same =
      subst (λ (p : List (Shape ℕ) × Node). ShowSame (rows_of nodes row.root) (rows_of p.0 p.1.0)) (λ i. (there i, also i))
      (subst (λ (p : List (Shape ℕ) × Node). ShowSame (rows_of p.0 p.1.0) (rows_of others back.0)) (λ i. (here i, is i)) same)

  pub as_asked : ShowSame (rows_of nodes row.root) (rows_of more other.root) → ShowSame (rows_of arena root.0) (rows_of others back.0)
  as_asked same =
      subst (λ (p : List (Shape ℕ) × Node). ShowSame (rows_of arena root.0) (rows_of p.0 p.1.0)) (λ i. (sym there i, sym also i))
      (subst (λ (p : List (Shape ℕ) × Node). ShowSame (rows_of p.0 p.1.0) (rows_of more other.root)) (λ i. (sym here i, sym is i)) same)
