-- Where a document stands among rows in order, and what is found there.
use Rattle.std.proofs.Common.{◌≡◌, ◌∙◌, ℕ, ◌<◌, ◌≤◌, ◌||◌, Bool, true, false, not, cond, List, [], ◌∷◌, length, get_or, Option, Some, None, Ordering, Less, Equal, Greater, refl, sym, ap, nat_cmp, is_eq}
use Rattle.std.proofs.Math.Numerals.{one-add}
use Rattle.std.proofs.lemmas.Option.{slice_get_past, slice_get_read}
use Rattle.std.specs.List.{find, prefix_len, slice_get, AllByRecursion}
use Rattle.std.specs.Option.{option_map, is_some}
use Rattle.std.specs.List.Sorted.{IsStrictlySortedBy}
use Rattle.std.specs.Cmp.Lexicographic.{slice_cmp, nat_list_cmp_total, texts_ties}
use Rattle.std.specs.Ordering.{ordering_reverse}
use Rattle.world_rules.specs.World.{is_same}
use Rattle.page_tables.specs.declared.tables.TableDocument.{TableDocument}
use Rattle.table_checks.specs.TableRows.{addresses_of, is_of, is_listed, content_in}
use Rattle.table_checks.specs.Sound.{Ascend}
use Rattle.table_checks.specs.inside.Places.{is_before}

-- the row, if it is the document's
abbrev own : List ℕ → Option TableDocument → Option TableDocument
own address None = None
own address (Some row) = cond (is_of address row) (Some row) None

seen : (address : List ℕ) (row : TableDocument) (o : Ordering) → slice_cmp nat_cmp row.document address ≡ o → is_of address row ≡ is_eq o
seen address row o is = texts_ties row.document address ∙ ap is_eq is

back : (a b : List ℕ) → slice_cmp nat_cmp a b ≡ ordering_reverse (slice_cmp nat_cmp b a)
back a b = nat_list_cmp_total.antisymm a b

later : (address other d : List ℕ) → slice_cmp nat_cmp address other ≡ Less → slice_cmp nat_cmp other d ≡ Less → slice_cmp nat_cmp d address ≡ Greater
later address other d is above = back d address ∙ ap ordering_reverse (nat_list_cmp_total.trans address other d is above)

module _ (address : List ℕ) where
  none_after : (other : List ℕ) (rows : List TableDocument) → slice_cmp nat_cmp address other ≡ Less → AllByRecursion (λ d. slice_cmp nat_cmp other d ≡ Less) (addresses_of rows) → find (is_of address) rows ≡ None
  none_after other [] less above = refl
  none_after other (row ∷ rows) less above = rw (seen address row Greater (later address other row.document less above.0)) (none_after other rows less above.1)

  find_step : (row : TableDocument) (rows : List TableDocument) (o : Ordering) → slice_cmp nat_cmp row.document address ≡ o → AllByRecursion (λ d. slice_cmp nat_cmp row.document d ≡ Less) (addresses_of rows)
      → find (is_of address) rows ≡ own address (slice_get rows (prefix_len (is_before address) rows))
      → find (is_of address) (row ∷ rows) ≡ own address (slice_get (row ∷ rows) (prefix_len (is_before address) (row ∷ rows)))
  find_step row rows Less is above rest = rw (is, seen address row Less is, one-add (prefix_len (is_before address) rows)) rest
  find_step row rows Equal is above rest = rw (is, seen address row Equal is) refl
  find_step row rows Greater is above rest = rw (is, seen address row Greater is) (none_after row.document rows (back address row.document ∙ ap ordering_reverse is) above)

  pub find_at : (rows : List TableDocument) → Ascend (addresses_of rows) → find (is_of address) rows ≡ own address (slice_get rows (prefix_len (is_before address) rows))
  unfolding IsStrictlySortedBy
  find_at [] ascends = refl
  find_at (row ∷ rows) ascends = find_step row rows (slice_cmp nat_cmp row.document address) refl ascends.0 (find_at rows ascends.1)

  -- ---- what the search answers

  not_is : (b : Bool) → true ≡ not b → b ≡ false
  not_is true e = e
  not_is false e = refl

  not_other : (b : Bool) → false ≡ not b → b ≡ true
  not_other true e = refl
  not_other false e = e

  module _ (rows : List TableDocument) (at : ℕ) (ascends : Ascend (addresses_of rows)) (place : at ≡ prefix_len (is_before address) rows) where
    found : (o : Option TableDocument) → slice_get rows at ≡ o → find (is_of address) rows ≡ own address o
    found o is = find_at rows ascends ∙ ap (own address) (ap (slice_get rows) (sym place) ∙ is)

    pub content_past : length rows ≤ at → None ≡ content_in rows address
    content_past past = sym (ap (option_map (λ (row : TableDocument). row.content)) (found None (slice_get_past rows at past)))

    pub content_other : (row : TableDocument) → at < length rows → row ≡ get_or rows at row → true ≡ not (is_same row.document address) → None ≡ content_in rows address
    content_other row within is other =
        sym (ap (option_map (λ (row : TableDocument). row.content)) (found (Some row) (slice_get_read rows (length rows) at row refl within is) ∙ ap (λ (b : Bool). cond b (Some row) None) (not_is (is_of address row) other)))

    pub content_there : (row : TableDocument) → at < length rows → row ≡ get_or rows at row → false ≡ not (is_same row.document address) → Some row.content ≡ content_in rows address
    content_there row within is same =
        sym (ap (option_map (λ (row : TableDocument). row.content)) (found (Some row) (slice_get_read rows (length rows) at row refl within is) ∙ ap (λ (b : Bool). cond b (Some row) None) (not_other (is_of address row) same)))

  -- ---- whether a document is listed

  listed_step : (b rest : Bool) (row : TableDocument) (found : Option TableDocument) → is_some (option_map (λ (row : TableDocument). row.content) found) ≡ rest
      → is_some (option_map (λ (row : TableDocument). row.content) (cond b (Some row) found)) ≡ (b || rest)
  listed_step true rest row found e = refl
  listed_step false rest row found e = e

  pub listed_is : (rows : List TableDocument) → is_some (content_in rows address) ≡ is_listed rows address
  listed_is [] = refl
  listed_is (row ∷ rows) = listed_step (is_of address row) (is_listed rows address) row (find (is_of address) rows) (listed_is rows)
