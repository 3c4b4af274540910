-- What edits of the world's rows make of the rows of one document and part.
use Rattle.std.proofs.Common.{◌≡◌, ◌∙◌, ℕ, zero, suc, ◌+◌, ◌-◌, ◌≤◌, ◌&&◌, Bool, true, false, not, cond, List, [], ◌∷◌, ◌++◌, length, map, take, drop, Ordering, Less, Equal, Greater, Some, ap, sym, refl, subst, true≢false, arith, append_assoc, append-nil}
use Rattle.std.specs.Prelude.{filter, nat_le}
use Rattle.std.specs.Ordering.{nat_cmp, is_lt, is_le, ordering_reverse}
use Rattle.std.specs.Cmp.Lexicographic.{slice_cmp, nat_list_cmp_total}
use Rattle.std.proofs.lemmas.List.{map-append}
use Rattle.std.proofs.lemmas.List.Elements.{filter-append}
use Rattle.tumbler.specs.declared.span.Span.{Span}
use Rattle.tumbler.specs.Span.{end_of}
use Rattle.world_rules.specs.declared.rows.Part.{Part}
use Rattle.world_rules.specs.declared.rows.Part.TheVariants.{Text, Links}
use Rattle.world_rules.specs.declared.rows.Row.{Row}
use Rattle.world_rules.specs.World.{is_same, is_text, is_text_of, is_link_of, link_address}
use Rattle.world_rules.specs.Picking.{picks, addresses_of}
use Rattle.world_rules.specs.declared.cuts.Cuts.{Cuts}
use Rattle.world_rules.specs.Edits.{cuts_of, up_by, moved_to, new_rows, rows_with, rows_without, rows_swapped, rows_as, closed_up, gone_below}
use Rattle.world_rules.specs.Apply.{link_row}
use Rattle.world_rules.proofs.Filters.{became, both_tests, none_pass}
use Rattle.std.proofs.lemmas.Bool.{and_right}
use Rattle.world_rules.specs.Laws.{staying, between, in_other_order}
use Rattle.world_rules.proofs.InRow.{InRow, row_head, row_tail, row_new}
use Rattle.world_rules.proofs.RowsWith.{text_apart, links_apart, others_with, text_with, text_with_in_row, one_document, differs_back}
use Rattle.world_rules.proofs.Deleted.{shows, closes_up, text_part, link_part, picks_place, others_without}
use Rattle.world_rules.proofs.Rearranged.{InOrder, text_swapped, swapped_in_row, swapped_addresses, others_swapped, three_test, four_test}
use Rattle.poom.specs.Laid as laid
use Rattle.poom.specs.Laid.{exchanged_at, swapped_at, rearranged, AreCuts}
use Rattle.poom.specs.Picked.{is_picked, left_from}
use Rattle.tree_world.specs.Standing.{link_rows}
use Rattle.tree_world.proofs.Found.{both, address_is, address_alike}

-- ---- rows by their addresses

pub new_addresses : (document : List ℕ) (n : ℕ) (addresses : List (List ℕ)) → addresses_of (new_rows document n addresses) ≡ addresses
new_addresses document n [] = refl
new_addresses document n (address ∷ addresses) = ap (λ (xs : List (List ℕ)). address ∷ xs) (new_addresses document (n + 1) addresses)

pub link_addresses : (document : List ℕ) (n : ℕ) (ids : List (List ℕ)) → addresses_of (link_rows document n ids) ≡ ids
link_addresses document n [] = refl
link_addresses document n (id ∷ ids) = ap (λ (xs : List (List ℕ)). id ∷ xs) (link_addresses document (n + 1) ids)

text_part_is : (part : Part) → is_text part ≡ true → part ≡ Text
text_part_is Text e = refl
text_part_is Links e = absurd (true≢false (sym e))

link_part_is : (part : Part) → not (is_text part) ≡ true → part ≡ Links
link_part_is Text e = absurd (true≢false (sym e))
link_part_is Links e = refl

text_row_is : (document : List ℕ) (row : Row) → is_text_of document row ≡ true → row ≡ record { document = document; part = Text; n = row.n; address = row.address }
text_row_is document row e =
    let parts = both (is_text row.part) (is_same row.document document) e in
    λ i. record { document = address_is row.document document parts.1 i; part = text_part_is row.part parts.0 i; n = row.n; address = row.address }

link_row_is : (document : List ℕ) (row : Row) → is_link_of document row ≡ true → row ≡ record { document = document; part = Links; n = row.n; address = row.address }
link_row_is document row e =
    let parts = both (not (is_text row.part)) (is_same row.document document) e in
    λ i. record { document = address_is row.document document parts.1 i; part = link_part_is row.part parts.0 i; n = row.n; address = row.address }

-- all rows that pass pass
abbrev AllPass : (Row → Bool) → List Row → Type 0
AllPass p [] = Unit {0}
AllPass p (row ∷ rows) = (p row ≡ true) × AllPass p rows

pass_filtered : (p : Row → Bool) (rows : List Row) → AllPass p (filter p rows)
pass_filtered p [] = tt
pass_filtered p (row ∷ rows) = step (p row) refl (pass_filtered p rows)
  where
    step : (b : Bool) → p row ≡ b → AllPass p (filter p rows) → AllPass p (cond b (row ∷ filter p rows) (filter p rows))
    step true e rest = (e, rest)
    step false e rest = rest

text_rebuilt : (document : List ℕ) (a : ℕ) (rows : List Row) → AllPass (is_text_of document) rows → InRow a rows → rows ≡ new_rows document a (addresses_of rows)
text_rebuilt document a [] pass stands = refl
text_rebuilt document a (row ∷ rows) pass stands =
    let here = row_head a row rows stands in
    let rest = text_rebuilt document (a + 1) rows pass.1 (row_tail a row rows stands) in
    ap (λ (r : Row). r ∷ rows) (text_row_is document row pass.0 ∙ ap (λ (n : ℕ). record { document = document; part = Text; n = n; address = row.address }) here)
    ∙ ap (λ (rs : List Row). record { document = document; part = Text; n = a; address = row.address } ∷ rs) rest

links_rebuilt : (document : List ℕ) (a : ℕ) (rows : List Row) → AllPass (is_link_of document) rows → InRow a rows → rows ≡ link_rows document a (addresses_of rows)
links_rebuilt document a [] pass stands = refl
links_rebuilt document a (row ∷ rows) pass stands =
    let here = row_head a row rows stands in
    let rest = links_rebuilt document (a + 1) rows pass.1 (row_tail a row rows stands) in
    ap (λ (r : Row). r ∷ rows) (link_row_is document row pass.0 ∙ ap (λ (n : ℕ). record { document = document; part = Links; n = n; address = row.address }) here)
    ∙ ap (λ (rs : List Row). record { document = document; part = Links; n = a; address = row.address } ∷ rs) rest

-- the text rows of a document, where they are in a row and show these addresses
pub text_is : (document : List ℕ) (rows : List Row) (addresses : List (List ℕ)) → InRow 1 (filter (is_text_of document) rows) → addresses_of (filter (is_text_of document) rows) ≡ addresses
    → filter (is_text_of document) rows ≡ new_rows document 1 addresses
text_is document rows addresses stands show =
    text_rebuilt document 1 (filter (is_text_of document) rows) (pass_filtered (is_text_of document) rows) stands ∙ ap (new_rows document 1) show

pub links_are : (document : List ℕ) (rows : List Row) (ids : List (List ℕ)) → InRow 1 (filter (is_link_of document) rows) → addresses_of (filter (is_link_of document) rows) ≡ ids
    → filter (is_link_of document) rows ≡ link_rows document 1 ids
links_are document rows ids stands show =
    links_rebuilt document 1 (filter (is_link_of document) rows) (pass_filtered (is_link_of document) rows) stands ∙ ap (link_rows document 1) show

link_stand : (document : List ℕ) (n : ℕ) (ids : List (List ℕ)) → InRow n (link_rows document n ids)
link_stand document n [] = refl
link_stand document n (id ∷ ids) = ap (λ (ns : List ℕ). n ∷ ns) (link_stand document (n + 1) ids)

length-new : (document : List ℕ) (n : ℕ) (addresses : List (List ℕ)) → length (new_rows document n addresses) ≡ length addresses
length-new document n [] = refl
length-new document n (address ∷ addresses) = ap suc (length-new document (n + 1) addresses)

-- ---- addresses of parts of a list

addresses-take : (k : ℕ) (rows : List Row) → addresses_of (take k rows) ≡ take k (addresses_of rows)
addresses-take zero rows = refl
addresses-take (suc k) [] = refl
addresses-take (suc k) (row ∷ rows) = ap (λ (xs : List (List ℕ)). row.address ∷ xs) (addresses-take k rows)

addresses-drop : (k : ℕ) (rows : List Row) → addresses_of (drop k rows) ≡ drop k (addresses_of rows)
addresses-drop zero rows = refl
addresses-drop (suc k) [] = refl
addresses-drop (suc k) (row ∷ rows) = addresses-drop k rows

addresses-up : (k : ℕ) (rows : List Row) → addresses_of (map (up_by k) rows) ≡ addresses_of rows
addresses-up k [] = refl
addresses-up k (row ∷ rows) = ap (λ (xs : List (List ℕ)). row.address ∷ xs) (addresses-up k rows)

addresses-append : (xs ys : List Row) → addresses_of (xs ++ ys) ≡ addresses_of xs ++ addresses_of ys
addresses-append xs ys = map-append (λ (row : Row). row.address) xs ys

addresses-between : (low high : ℕ) (rows : List Row) → addresses_of (between low high rows) ≡ laid.between low high (addresses_of rows)
addresses-between low high rows = addresses-take (high - low) (drop (low - 1) rows) ∙ ap (take (high - low)) (addresses-drop (low - 1) rows)

-- ---- rows that come in

module _ (rows : List Row) (document : List ℕ) (n : ℕ) (new addresses : List (List ℕ)) (from_one : 1 ≤ n) (is : filter (is_text_of document) rows ≡ new_rows document 1 addresses) where
  in_row : InRow 1 (filter (is_text_of document) rows)
  in_row = subst (InRow 1) (sym is) (row_new document 1 addresses)

  shown : addresses_of (filter (is_text_of document) rows) ≡ addresses
  shown = ap addresses_of is ∙ new_addresses document 1 addresses

  pub text_with_is : n ≤ length addresses + 1 → filter (is_text_of document) (rows_with rows document n new) ≡ new_rows document 1 (exchanged_at n n new addresses)
  text_with_is to_end =
      let old = filter (is_text_of document) rows in
      let long : length (filter (is_text_of document) rows) ≡ length addresses = ap length is ∙ length-new document 1 addresses in
      text_is document (rows_with rows document n new) (exchanged_at n n new addresses) (text_with_in_row rows document n new from_one in_row (omega (arith, to_end, long)))
      (ap addresses_of (text_with rows document n new from_one in_row)
      ∙ addresses-append (take (n - 1) old) (new_rows document n new ++ map (up_by (length new)) (drop (n - 1) old))
      ∙ (λ i. (addresses-take (n - 1) old ∙ ap (take (n - 1)) shown) i
      ++ (addresses-append (new_rows document n new) (map (up_by (length new)) (drop (n - 1) old)) ∙ (λ j. new_addresses document n new j ++ (addresses-up (length new) (drop (n - 1) old) ∙ addresses-drop (n - 1) old ∙ ap (drop (n - 1)) shown) j)) i))

pub other_text_with : (rows : List Row) (document other : List ℕ) (n : ℕ) (new : List (List ℕ)) → is_same other document ≡ false → filter (is_text_of other) (rows_with rows document n new) ≡ filter (is_text_of other) rows
other_text_with rows document other n new differs = others_with (is_text_of other) document (λ row e. text_apart other document (differs_back other document differs) row e) (λ k row. refl) rows n new

pub links_with : (rows : List Row) (document other : List ℕ) (n : ℕ) (new : List (List ℕ)) → filter (is_link_of other) (rows_with rows document n new) ≡ filter (is_link_of other) rows
links_with rows document other n new = others_with (is_link_of other) document (links_apart other document) (λ k row. refl) rows n new

-- ---- rows that go

as_not : (r : Ordering) → is_le r ≡ not (is_lt (ordering_reverse r))
as_not Less = refl
as_not Equal = refl
as_not Greater = refl

picked_alike : (span : Span) (place : List ℕ) → (is_le (slice_cmp nat_cmp span.start place) && is_lt (slice_cmp nat_cmp place (end_of span))) ≡ is_picked span place
picked_alike span place = ap (λ b. b && is_lt (slice_cmp nat_cmp place (end_of span))) (as_not (slice_cmp nat_cmp span.start place) ∙ ap (λ r. not (is_lt r)) (sym (nat_list_cmp_total.antisymm place span.start)))

left_step : (b c : Bool) → b ≡ c → (address : List ℕ) (row : Row) (kept : List Row) (left : List (List ℕ)) → row.address ≡ address → addresses_of kept ≡ left → addresses_of (cond (not b) (row ∷ kept) kept) ≡ cond c left (address ∷ left)
left_step true true e address row kept left own rest = rest
left_step true false e address row kept left own rest = absurd (true≢false e)
left_step false true e address row kept left own rest = absurd (true≢false (sym e))
left_step false false e address row kept left own rest = λ i. own i ∷ rest i

text_left : (document : List ℕ) (span : Span) (n : ℕ) (addresses : List (List ℕ)) → addresses_of (staying span (new_rows document n addresses)) ≡ left_from 1 span n addresses
text_left document span n [] = refl
text_left document span n (address ∷ addresses) =
    left_step (picks span row) (is_picked span (1 ∷ n ∷ [])) (picked_alike span (1 ∷ n ∷ [])) address row (staying span (new_rows document (n + 1) addresses)) (left_from 1 span (n + 1) addresses) refl
    (text_left document span (n + 1) addresses)
  where
    row : Row
    row = record { document = document; part = Text; n = n; address = address }

links_left : (document : List ℕ) (span : Span) (n : ℕ) (ids : List (List ℕ)) → addresses_of (staying span (link_rows document n ids)) ≡ left_from 2 span n ids
links_left document span n [] = refl
links_left document span n (id ∷ ids) =
    left_step (picks span row) (is_picked span (2 ∷ n ∷ [])) (picked_alike span (2 ∷ n ∷ [])) id row (staying span (link_rows document (n + 1) ids)) (left_from 2 span (n + 1) ids) refl
    (links_left document span (n + 1) ids)
  where
    row : Row
    row = record { document = document; part = Links; n = n; address = id }

module _ (rows : List Row) (document : List ℕ) (span : Span) where
  pub text_without_is : (addresses : List (List ℕ)) → filter (is_text_of document) rows ≡ new_rows document 1 addresses → filter (is_text_of document) (rows_without rows document span) ≡ new_rows document 1 (left_from 1 span 1 addresses)
  text_without_is addresses is =
      text_is document (rows_without rows document span) (left_from 1 span 1 addresses)
      (closes_up (is_text_of document) document span (picks_place span 1) (text_part document span) rows (subst (InRow 1) (sym is) (row_new document 1 addresses)))
      (shows (is_text_of document) document span (picks_place span 1) (text_part document span) rows ∙ ap (λ (old : List Row). addresses_of (staying span old)) is ∙ text_left document span 1 addresses)

  pub links_without_are : (ids : List (List ℕ)) → filter (is_link_of document) rows ≡ link_rows document 1 ids → filter (is_link_of document) (rows_without rows document span) ≡ link_rows document 1 (left_from 2 span 1 ids)
  links_without_are ids is =
      links_are document (rows_without rows document span) (left_from 2 span 1 ids)
      (closes_up (is_link_of document) document span (picks_place span 2) (link_part document span) rows (subst (InRow 1) (sym is) (link_stand document 1 ids)))
      (shows (is_link_of document) document span (picks_place span 2) (link_part document span) rows ∙ ap (λ (old : List Row). addresses_of (staying span old)) is ∙ links_left document span 1 ids)

  module _ (other : List ℕ) (differs : is_same other document ≡ false) where
    seen_after : (p : Row → Bool) → ((k : ℕ) (row : Row) → p (record row { n = k }) ≡ p row) → (row : Row) → p (closed_up rows document span row) ≡ p row
    seen_after p unseen row = step (is_same row.document document)
      where
        step : (b : Bool) → p (cond b (record row { n = row.n - gone_below rows document span row }) row) ≡ p row
        step true = unseen (row.n - gone_below rows document span row) row
        step false = refl

    pub other_text_without : filter (is_text_of other) (rows_without rows document span) ≡ filter (is_text_of other) rows
    other_text_without =
        others_without (is_text_of other) document span rows (λ row e. one_document other document (differs_back other document differs) row (both (is_text row.part) (is_same row.document other) e).1) (seen_after (is_text_of other) (λ k row. refl))

    pub other_links_without : filter (is_link_of other) (rows_without rows document span) ≡ filter (is_link_of other) rows
    other_links_without =
        others_without (is_link_of other) document span rows (λ row e. one_document other document (differs_back other document differs) row (both (not (is_text row.part)) (is_same row.document other) e).1) (seen_after (is_link_of other) (λ k row. refl))

-- ---- rows that change places

in_order_addresses : (cuts : Cuts) (rows : List Row) → addresses_of (in_other_order cuts rows) ≡ swapped_at cuts.first cuts.second cuts.third cuts.fourth (addresses_of rows)
in_order_addresses cuts rows =
    let a = take (cuts.first - 1) rows in
    let b = between cuts.third cuts.fourth rows in
    let c = between cuts.second cuts.third rows in
    let d = between cuts.first cuts.second rows in
    let e = drop (cuts.fourth - 1) rows in
    addresses-append a (b ++ (c ++ (d ++ e)))
    ∙ (λ i. addresses-take (cuts.first - 1) rows i
    ++ (addresses-append b (c ++ (d ++ e))
    ∙ (λ j. addresses-between cuts.third cuts.fourth rows j ++ (addresses-append c (d ++ e) ∙ (λ k. addresses-between cuts.second cuts.third rows k ++ (addresses-append d e ∙ (λ l. addresses-between cuts.first cuts.second rows l ++ addresses-drop (cuts.fourth - 1) rows l)) k)) j)
    ∙ regroup (laid.between cuts.third cuts.fourth (addresses_of rows)) (laid.between cuts.second cuts.third (addresses_of rows)) (laid.between cuts.first cuts.second (addresses_of rows)) (drop (cuts.fourth - 1) (addresses_of rows))) i)
  where
    regroup : (b c d e : List (List ℕ)) → b ++ (c ++ (d ++ e)) ≡ (b ++ c ++ d) ++ e
    regroup b c d e = sym (append_assoc (b ++ c) d e ∙ append_assoc b c (d ++ e))

module _ (rows : List Row) (document : List ℕ) (cuts : Cuts) where
  pub text_swapped_is : (addresses : List (List ℕ)) → filter (is_text_of document) rows ≡ new_rows document 1 addresses → InOrder cuts (length addresses)
      → filter (is_text_of document) (rows_swapped rows document cuts) ≡ new_rows document 1 (swapped_at cuts.first cuts.second cuts.third cuts.fourth addresses)
  text_swapped_is addresses is order =
      let old = filter (is_text_of document) rows in
      let in_row : InRow 1 old = subst (InRow 1) (sym is) (row_new document 1 addresses) in
      let ordered : InOrder cuts (length old) = subst (InOrder cuts) (sym (ap length is ∙ length-new document 1 addresses)) order in
      text_is document (rows_swapped rows document cuts) (swapped_at cuts.first cuts.second cuts.third cuts.fourth addresses)
      (subst (InRow 1) (sym (text_swapped rows document cuts ordered in_row)) (swapped_in_row cuts old ordered in_row))
      (ap addresses_of (text_swapped rows document cuts ordered in_row) ∙ swapped_addresses cuts old ∙ in_order_addresses cuts old ∙ ap (swapped_at cuts.first cuts.second cuts.third cuts.fourth) (ap addresses_of is ∙ new_addresses document 1 addresses))

  pub other_text_swapped : (other : List ℕ) → is_same other document ≡ false → filter (is_text_of other) (rows_swapped rows document cuts) ≡ filter (is_text_of other) rows
  other_text_swapped other differs = others_swapped (is_text_of other) document (λ row e. text_apart other document (differs_back other document differs) row e) (λ n row. refl) rows cuts

  pub links_swapped : (other : List ℕ) → filter (is_link_of other) (rows_swapped rows document cuts) ≡ filter (is_link_of other) rows
  links_swapped other = others_swapped (is_link_of other) document (links_apart other document) (λ n row. refl) rows cuts

-- what cuts bound is what they rearrange
pub rearranged_by : (cuts : List ℕ) (bounds : Cuts) (addresses : List (List ℕ)) → cuts_of cuts ≡ Some bounds → rearranged cuts addresses ≡ swapped_at bounds.first bounds.second bounds.third bounds.fourth addresses
rearranged_by [] bounds addresses e = cc
rearranged_by (a ∷ []) bounds addresses e = cc
rearranged_by (a ∷ b ∷ []) bounds addresses e = cc
rearranged_by (a ∷ b ∷ c ∷ []) bounds addresses e =
    let given = three_test (nat_le a b && nat_le b c) a b c bounds e in
    ap (λ (x : Cuts). swapped_at x.first x.second x.third x.fourth addresses) (sym given.1)
rearranged_by (a ∷ b ∷ c ∷ d ∷ []) bounds addresses e =
    let given = four_test (nat_le a b && nat_le b c && nat_le c d) a b c d bounds e in
    ap (λ (x : Cuts). swapped_at x.first x.second x.third x.fourth addresses) (sym given.1)
rearranged_by (a ∷ b ∷ c ∷ d ∷ e ∷ more) bounds addresses is = cc

-- ---- rows of a version

and_true : (b : Bool) → (b && true) ≡ b
and_true true = refl
and_true false = refl

module _ (rows : List Row) (source document : List ℕ) where
  part_as : (part : Row → Bool) → ((row : Row) → part (moved_to document row) ≡ part row) → filter (λ (row : Row). part row && is_same row.document document) rows ≡ []
      → filter (λ (row : Row). part row && is_same row.document document) (rows ++ rows_as rows source document) ≡ map (moved_to document) (filter (λ (row : Row). part row && is_same row.document source) rows)
  part_as part unseen none =
      let p : Row → Bool = λ row. part row && is_same row.document document in
      filter-append p rows (rows_as rows source document)
      ∙ ap (λ (ys : List Row). ys ++ filter p (rows_as rows source document)) none
      ∙ became p part (moved_to document) (λ row. (λ i. unseen row i && address_alike document i) ∙ and_true (part row)) (filter (λ (row : Row). is_same row.document source) rows)
      ∙ ap (map (moved_to document)) (both_tests part (λ (row : Row). is_same row.document source) rows)

  part_of_other : (p : Row → Bool) → ((row : Row) → p (moved_to document row) ≡ false) → filter p (rows ++ rows_as rows source document) ≡ filter p rows
  part_of_other p fails =
      filter-append p rows (rows_as rows source document)
      ∙ ap (λ (ys : List Row). filter p rows ++ ys) (became p (λ row. false) (moved_to document) fails (filter (λ (row : Row). is_same row.document source) rows) ∙ ap (map (moved_to document)) (none_pass (filter (λ (row : Row). is_same row.document source) rows)))
      ∙ append-nil (filter p rows)

  moved_text : (n : ℕ) (addresses : List (List ℕ)) → map (moved_to document) (new_rows source n addresses) ≡ new_rows document n addresses
  moved_text n [] = refl
  moved_text n (address ∷ addresses) = ap (λ (rs : List Row). record { document = document; part = Text; n = n; address = address } ∷ rs) (moved_text (n + 1) addresses)

  moved_links : (n : ℕ) (ids : List (List ℕ)) → map (moved_to document) (link_rows source n ids) ≡ link_rows document n ids
  moved_links n [] = refl
  moved_links n (id ∷ ids) = ap (λ (rs : List Row). record { document = document; part = Links; n = n; address = id } ∷ rs) (moved_links (n + 1) ids)

  pub text_as_is : (addresses : List (List ℕ)) → filter (is_text_of source) rows ≡ new_rows source 1 addresses → filter (is_text_of document) rows ≡ []
      → filter (is_text_of document) (rows ++ rows_as rows source document) ≡ new_rows document 1 addresses
  text_as_is addresses is none = part_as (λ (row : Row). is_text row.part) (λ row. refl) none ∙ ap (map (moved_to document)) is ∙ moved_text 1 addresses

  pub links_as_are : (ids : List (List ℕ)) → filter (is_link_of source) rows ≡ link_rows source 1 ids → filter (is_link_of document) rows ≡ []
      → filter (is_link_of document) (rows ++ rows_as rows source document) ≡ link_rows document 1 ids
  links_as_are ids is none = part_as (λ (row : Row). not (is_text row.part)) (λ row. refl) none ∙ ap (map (moved_to document)) is ∙ moved_links 1 ids

  pub other_text_as : (other : List ℕ) → is_same other document ≡ false → filter (is_text_of other) (rows ++ rows_as rows source document) ≡ filter (is_text_of other) rows
  other_text_as other differs = part_of_other (is_text_of other) (λ row. and_right (is_text row.part) (is_same document other) (differs_back other document differs))

  pub other_links_as : (other : List ℕ) → is_same other document ≡ false → filter (is_link_of other) (rows ++ rows_as rows source document) ≡ filter (is_link_of other) rows
  other_links_as other differs = part_of_other (is_link_of other) (λ row. and_right (not (is_text row.part)) (is_same document other) (differs_back other document differs))

-- ---- a link's row

module _ (rows : List Row) (home : List ℕ) (number place : ℕ) where
  pub links_and_one : (ids : List (List ℕ)) → filter (is_link_of home) rows ≡ link_rows home 1 ids → place ≡ length ids + 1
      → filter (is_link_of home) (rows ++ link_row home number place ∷ []) ≡ link_rows home 1 (ids ++ link_address home number ∷ [])
  links_and_one ids is at =
      filter-append (is_link_of home) rows (link_row home number place ∷ [])
      ∙ (λ i. is i ++ own i)
      ∙ after 1 ids at
    where
      next : (l n : ℕ) → suc l + n ≡ l + (n + 1)
      next l n = omega arith

      own : filter (is_link_of home) (link_row home number place ∷ []) ≡ link_row home number place ∷ []
      own = rw (address_alike home) refl

      after : (n : ℕ) (xs : List (List ℕ)) → place ≡ length xs + n → link_rows home n xs ++ link_row home number place ∷ [] ≡ link_rows home n (xs ++ link_address home number ∷ [])
      after n [] e = ap (λ (k : ℕ). link_row home number k ∷ []) (omega (arith, e))
      after n (x ∷ xs) e = ap (λ (rs : List Row). record { document = home; part = Links; n = n; address = x } ∷ rs) (after (n + 1) xs (e ∙ next (length xs) n))

  pub text_and_link : (other : List ℕ) → filter (is_text_of other) (rows ++ link_row home number place ∷ []) ≡ filter (is_text_of other) rows
  text_and_link other = filter-append (is_text_of other) rows (link_row home number place ∷ []) ∙ append-nil (filter (is_text_of other) rows)

  pub other_links_and : (other : List ℕ) → is_same other home ≡ false → filter (is_link_of other) (rows ++ link_row home number place ∷ []) ≡ filter (is_link_of other) rows
  other_links_and other differs =
      filter-append (is_link_of other) rows (link_row home number place ∷ [])
      ∙ ap (λ (ys : List Row). filter (is_link_of other) rows ++ ys) (rw (differs_back other home differs) refl)
      ∙ append-nil (filter (is_link_of other) rows)
