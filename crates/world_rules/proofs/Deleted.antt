-- What a delete leaves of the rows of each document.
use Rattle.std.proofs.Common.{◌≡◌, ℕ, suc, ◌∙◌, ◌&&◌, Bool, true, false, not, cond, List, [], ◌∷◌, length, map, ap, sym, refl, subst}
use Rattle.std.specs.Prelude.{filter, nat_lt}
use Rattle.std.proofs.lemmas.Bool.{and_parts, and_left, true≢false}
use Rattle.std.proofs.lemmas.List.Elements.{filter_agree}
use Rattle.std.proofs.lemmas.List.Sums.{length-filter}
use Rattle.tumbler.specs.declared.span.Span.{Span}
use Rattle.tumbler.specs.Span.{end_of}
use Rattle.febe_data.specs.Plain.{span_deleted}
use Rattle.world_rules.specs.declared.rows.Part.{Part}
use Rattle.world_rules.specs.declared.rows.Part.TheVariants.{Text, Links}
use Rattle.world_rules.specs.declared.rows.Row.{Row}
use Rattle.world_rules.specs.World.{World, is_same, is_text, is_text_of, is_link_of, part_number}
use Rattle.world_rules.specs.Picking.{is_between, picks, addresses_of, places_of}
use Rattle.world_rules.specs.Edits.{down_by, goes, is_same_part, gone_below, closed_up, rows_without}
use Rattle.world_rules.specs.Apply.{change_world}
use Rattle.world_rules.specs.Laws.{text_rows, staying, DeletesSpan}
use Rattle.world_rules.proofs.Filters.{stay, moved, all_stay, map_where, map_same}
use Rattle.world_rules.proofs.InRow.{InRow}
use Rattle.world_rules.proofs.ClosedUp.{passing_below, closed, row_closes}
use Rattle.world_rules.proofs.RowsWith.{one_document, differs_back}
use Rattle.world_rules.proofs.Shown.{reads_same}
use Rattle.world_rules.proofs.Inserted.{text_in_row, links_in_row, text_numbered, links_numbered}

-- ---- other documents

closed_other : (rows : List Row) (document : List ℕ) (span : Span) (row : Row) → is_same row.document document ≡ false → closed_up rows document span row ≡ row
closed_other rows document span row differs = rw differs refl

pub others_without : (p : Row → Bool) (document : List ℕ) (span : Span) (rows : List Row) → ((row : Row) → p row ≡ true → is_same row.document document ≡ false)
    → ((row : Row) → p (closed_up rows document span row) ≡ p row) → filter p (rows_without rows document span) ≡ filter p rows
others_without p document span rows apart unseen =
    moved p (closed_up rows document span) unseen (filter (λ row. not (goes document span row)) rows)
    ∙ map_where p (closed_up rows document span) (λ (row : Row). row) (λ row e. closed_other rows document span row (apart row e)) (filter (λ row. not (goes document span row)) rows)
    ∙ map_same (filter p (filter (λ row. not (goes document span row)) rows))
    ∙ all_stay p (λ row. not (goes document span row)) (λ row e. ap not (and_left (is_same row.document document) (picks span row) (apart row e))) rows

-- ---- a part of the document

-- the part as a test, and the span's test of its places
pub record IsPart (p : Row → Bool) (document : List ℕ) (span : Span) (g : ℕ → Bool) : Type 0 where
  pub own : (row : Row) → p row ≡ true → is_same row.document document ≡ true
  pub by_place : (row : Row) → p row ≡ true → picks span row ≡ g row.n
  pub same_part : (row other : Row) → p row ≡ true → (is_same_part row.part other.part && is_same other.document document) ≡ p other
  pub unseen : (row : Row) (k : ℕ) → p (down_by k row) ≡ p row

-- the tests of a count, in another order
reorder : (same picked part below u v : Bool) → (part && same) ≡ u → (u ≡ true → picked ≡ v) → (same && picked && part && below) ≡ (u && (v && below))
reorder true picked true below u v e f = rw (sym e) (rw (f (sym e)) (by_true v below))
  where
    by_true : (v below : Bool) → (v && true && below) ≡ (v && below)
    by_true true below = refl
    by_true false below = refl
reorder true picked false below u v e f = rw (sym e) (by_false picked below)
  where
    by_false : (picked below : Bool) → (picked && false && below) ≡ false
    by_false true below = refl
    by_false false below = refl
reorder false picked true below u v e f = rw (sym e) refl
reorder false picked false below u v e f = rw (sym e) refl

-- a count of what passes both, by the places of what passes the first
module _ (p : Row → Bool) (h : ℕ → Bool) where
  places_step : (x : Row) (xs : List Row) (u v : Bool) → p x ≡ u → h x.n ≡ v
      → length (filter (λ (o : Row). p o && h o.n) xs) ≡ length (filter h (places_of (filter p xs)))
      → length (filter (λ (o : Row). p o && h o.n) (x ∷ xs)) ≡ length (filter h (places_of (filter p (x ∷ xs))))
  places_step x xs true true e f rest = rw (e, f) (ap suc rest)
  places_step x xs true false e f rest = rw (e, f) rest
  places_step x xs false v e f rest = rw e rest

  count_places : (xs : List Row) → length (filter (λ (o : Row). p o && h o.n) xs) ≡ length (filter h (places_of (filter p xs)))
  count_places [] = refl
  count_places (x ∷ xs) = places_step x xs (p x) (h x.n) refl refl (count_places xs)

module _ (p : Row → Bool) (document : List ℕ) (span : Span) (g : ℕ → Bool) (part : IsPart p document span g) (rows : List Row) where
  -- how far a row closes up, by its place
  abbrev f : ℕ → ℕ
  f = passing_below g (places_of (filter p rows))

  gone_is : (row : Row) → p row ≡ true → gone_below rows document span row ≡ f row.n
  gone_is row e =
      let tests : Row → Bool = λ other. goes document span other && is_same_part row.part other.part && nat_lt other.n row.n in
      let h : ℕ → Bool = λ m. g m && nat_lt m row.n in
      sym (length-filter tests rows)
      ∙ ap length (filter_agree tests (λ (other : Row). p other && h other.n) (λ other. reorder (is_same other.document document) (picks span other) (is_same_part row.part other.part) (nat_lt other.n row.n) (p other) (g other.n) (part.same_part row other e) (part.by_place other)) rows)
      ∙ count_places p h rows

  closed_is : (row : Row) → p row ≡ true → closed_up rows document span row ≡ closed f g row
  closed_is row e = rw (part.own row e, gone_is row e) refl

  unseen_cond : (row : Row) (own : Bool) → p (cond own (down_by (gone_below rows document span row) row) row) ≡ p row
  unseen_cond row true = part.unseen row (gone_below rows document span row)
  unseen_cond row false = refl

  stay_picked : filter p (filter (λ row. not (goes document span row)) rows) ≡ staying span (filter p rows)
  stay_picked = stay p (λ row. not (goes document span row)) (λ row. not (picks span row)) (λ row e. rw (part.own row e) refl) rows

  stay_by_place : filter p (filter (λ row. not (goes document span row)) rows) ≡ filter (λ (row : Row). not (g row.n)) (filter p rows)
  stay_by_place = stay p (λ row. not (goes document span row)) (λ row. not (g row.n)) (λ row e. rw (part.own row e, part.by_place row e) refl) rows

  closed_rows : filter p (rows_without rows document span) ≡ map (closed f g) (filter p (filter (λ row. not (goes document span row)) rows))
  closed_rows =
      moved p (closed_up rows document span) (λ row. unseen_cond row (is_same row.document document)) (filter (λ row. not (goes document span row)) rows)
      ∙ map_where p (closed_up rows document span) (closed f g) closed_is (filter (λ row. not (goes document span row)) rows)

  closed_addresses : (xs : List Row) → addresses_of (map (closed f g) xs) ≡ addresses_of xs
  closed_addresses [] = refl
  closed_addresses (x ∷ xs) = ap (λ (addresses : List (List ℕ)). x.address ∷ addresses) (closed_addresses xs)

  -- what stays shows what it showed
  pub shows : addresses_of (filter p (rows_without rows document span)) ≡ addresses_of (staying span (filter p rows))
  shows = ap addresses_of closed_rows ∙ closed_addresses (filter p (filter (λ row. not (goes document span row)) rows)) ∙ ap addresses_of stay_picked

  -- and is in a row, if all was
  pub closes_up : InRow 1 (filter p rows) → InRow 1 (filter p (rows_without rows document span))
  closes_up row = subst (InRow 1) (sym (closed_rows ∙ ap (map (closed f g)) stay_by_place)) (row_closes g (filter p rows) row)

-- ---- text and links

text_number : (part : Part) → is_text part ≡ true → part_number part ≡ 1
text_number Text e = refl
text_number Links e = absurd (true≢false (sym e))

link_number : (part : Part) → not (is_text part) ≡ true → part_number part ≡ 2
link_number Text e = absurd (true≢false (sym e))
link_number Links e = refl

same_text : (part other : Part) → is_text part ≡ true → is_same_part part other ≡ is_text other
same_text Text other e = refl
same_text Links other e = absurd (true≢false (sym e))

same_link : (part other : Part) → not (is_text part) ≡ true → is_same_part part other ≡ not (is_text other)
same_link Text other e = absurd (true≢false (sym e))
same_link Links other e = refl

-- the span's test of a place of a part
abbrev pub picks_place : Span → ℕ → ℕ → Bool
picks_place span part n = is_between span.start (end_of span) (part ∷ n ∷ [])

pub text_part : (document : List ℕ) (span : Span) → IsPart (is_text_of document) document span (picks_place span 1)
text_part document span = record {
  own = λ row e. (and_parts (is_text row.part) (is_same row.document document) e).1;
  by_place = λ row e. ap (λ (k : ℕ). picks_place span k row.n) (text_number row.part (and_parts (is_text row.part) (is_same row.document document) e).0);
  same_part = λ row other e. ap (λ (b : Bool). b && is_same other.document document) (same_text row.part other.part (and_parts (is_text row.part) (is_same row.document document) e).0);
  unseen = λ row k. refl;
}

pub link_part : (document : List ℕ) (span : Span) → IsPart (is_link_of document) document span (picks_place span 2)
link_part document span = record {
  own = λ row e. (and_parts (not (is_text row.part)) (is_same row.document document) e).1;
  by_place = λ row e. ap (λ (k : ℕ). picks_place span k row.n) (link_number row.part (and_parts (not (is_text row.part)) (is_same row.document document) e).0);
  same_part = λ row other e. ap (λ (b : Bool). b && is_same other.document document) (same_link row.part other.part (and_parts (not (is_text row.part)) (is_same row.document document) e).0);
  unseen = λ row k. refl;
}

pub cond_document : (rows : List Row) (document other : List ℕ) (span : Span) (row : Row) (own : Bool)
    → is_same row.document document ≡ own → is_same (closed_up rows document span row).document other ≡ is_same row.document other
cond_document rows document other span row true e = rw e refl
cond_document rows document other span row false e = rw e refl

pub deletes_span : DeletesSpan
deletes_span world session document span =
    let after : World = change_world world session (span_deleted document span) in
    let text : addresses_of (text_rows after document) ≡ addresses_of (staying span (text_rows world document)) = shows (is_text_of document) document span (picks_place span 1) (text_part document span) world.rows in
    record {
      text = text;
      links = shows (is_link_of document) document span (picks_place span 2) (link_part document span) world.rows;
      reads = reads_same world after (text_rows after document) (staying span (text_rows world document)) refl text;
      text_closes_up = λ numbered. text_numbered after document (closes_up (is_text_of document) document span (picks_place span 1) (text_part document span) world.rows (text_in_row world document numbered));
      links_close_up = λ numbered. links_numbered after document (closes_up (is_link_of document) document span (picks_place span 2) (link_part document span) world.rows (links_in_row world document numbered));
      others = λ other differs. others_without (λ (row : Row). is_same row.document other) document span world.rows (λ row e. one_document other document (differs_back other document differs) row e) (λ row. cond_document world.rows document other span row (is_same row.document document) refl);
      same_documents = refl;
      same_bytes = refl;
      same_links = refl;
      same_published = refl;
    }
