-- Roots are tested one after another.
use Rattle.std.proofs.Common.{◌≡◌, ◌↔◌, ℕ, ◌+◌, ◌<◌, ◌≤◌, Bool, true, false, IsTrue, List, length, get_or, inl, inr, refl, ap, ◌∙◌, sym, subst, arith}
use Rattle.std.proofs.Math.Nat.{eq-or-lt_of_le}
use Rattle.std.proofs.lemmas.List.{get_or_default}
use Rattle.page_tables.specs.declared.tables.TableDocument.{TableDocument}

-- the first rows' roots are among so many nodes
abbrev pub AreRooted : List TableDocument → ℕ → ℕ → Type 0
AreRooted rows count n = (k : ℕ) (row : TableDocument) → k < n → row ≡ get_or rows k row → row.root < count

pub rooted-none : (rows : List TableDocument) (count : ℕ) → AreRooted rows count 0
rooted-none rows count k row lt is = absurd (omega (arith, lt))

item-same : (rows : List TableDocument) (k : ℕ) (one other : TableDocument) → k < length rows → one ≡ get_or rows k one → other ≡ get_or rows k other → one ≡ other
item-same rows k one other lt is also = is ∙ get_or_default rows k one other lt ∙ sym also

pub rooted-more : (rows : List TableDocument) (count n : ℕ) (item : TableDocument) → n < length rows → item ≡ get_or rows n item → item.root < count → AreRooted rows count n → AreRooted rows count (n + 1)
rooted-more rows count n item lt is low so_far = λ k row less at.
    let le : k ≤ n = omega (arith, less) in
    elim (eq-or-lt_of_le le) [
      | inl same ↦
          let at_n = subst (λ (j : ℕ). row ≡ get_or rows j row) same at in
          subst (λ (r : TableDocument). r.root < count) (item-same rows n item row lt is at_n) low
      | inr under ↦ so_far k row under at
    ]

pub not-rooted : (rows : List TableDocument) (count n : ℕ) (item : TableDocument) → n < length rows → item ≡ get_or rows n item → count ≤ item.root → IsTrue false ↔ AreRooted rows count (length rows)
not-rooted rows count n item lt is high = (λ never. absurd cc, λ all. absurd (omega (arith, all n item lt is, high)))

pub all-rooted : (rows : List TableDocument) (count n : ℕ) → length rows ≤ n → AreRooted rows count n → IsTrue true ↔ AreRooted rows count (length rows)
all-rooted rows count n le so_far = (λ yes k row lt is. so_far k row (omega (arith, lt, le)) is, λ all. refl)
