-- The rows that meet a span show what the document shows of it.
use Rattle.std.proofs.Common.{◌≡◌, ◌≢◌, ℕ, zero, suc, ◌+◌, ◌^◌, ◌<◌, ◌≤◌, not, Bool, true, false, List, [], ◌∷◌, ◌++◌, length, map, refl, arith, ap, sym, subst, ◌∙◌, inl, inr, append-nil}
use Rattle.std.specs.Prelude.{◌⊎◌, if◌then◌else◌}
use Rattle.std.specs.List.{All, filter, flat_map}
use Rattle.std.proofs.lemmas.Bool.{and_parts, not-true, both_ways, false_from_ne_true}
use Rattle.std.proofs.lemmas.List.Elements.{All-head, All-tail, All-append, All-filter, All-weaker}
use Rattle.std.proofs.lemmas.Grind.{flat_map-append}
use Rattle.tumbler.specs.Places.{IsTumbler, IsBefore, IsUpTo, place, comes_before, sum, width_at}
use Rattle.tumbler.specs.Span.{Share, end_of}
use Rattle.tumbler.specs.declared.span.Span.{Span}
use Rattle.tumbler.proofs.Before.{before_if_true, up_to_if_false}
use Rattle.tumbler.proofs.Spans.{are_places}
use Rattle.enfilade_core.specs.declared.tree.Row.{Row}
use Rattle.enfilade_core.specs.Rows.{Shape, rows_of}
use Rattle.enfilade_core.specs.Axes.{second_axis, IsWellFormedRow}
use Rattle.enfilade_core.specs.Plain.{plain_row}
use Rattle.enfilade_core.specs.Planes.{text_widths}
use Rattle.enfilade_search.specs.Meeting.{meets}
use Rattle.enfilade_search.specs.Laws.{span_on}
use Rattle.enfilade_search.proofs.Touching.{meets_exactly}
use Rattle.poom.specs.declared.part.Part.{Part}
use Rattle.poom.specs.declared.part.Part.TheVariants.{Text, Links}
use Rattle.poom.specs.declared.piece.Piece.{Piece}
use Rattle.poom.specs.Pieces.{IsPiece, address_in, addresses_from, piece_addresses, laid, total, piece_row, rows_from, pieces_in}
use Rattle.poom.specs.Laid.{part_number, standing_in, texts, IsOneDocument, IsRoot}
use Rattle.poom.specs.Picked.{is_picked}
use Rattle.poom.specs.Runs.{intervals}
use Rattle.poom.specs.Shown.{positions_in, intervals_in}
use Rattle.poom.specs.Positions.{shown_by, shown_by_all, IsPieceRow}
use Rattle.poom.proofs.Places.{if_true, if_false}
use Rattle.poom.proofs.RowsFrom.{each_row}
use Rattle.poom.proofs.WellFormedRows.{address-is_tumbler, sum-address, short_document, well_formed_row}
use Rattle.poom.proofs.Back.{length-addresses}
use Rattle.poom.proofs.Documents.{made_of}
use Rattle.poom.proofs.Counting.{last_up_to, last_earlier}
use Rattle.poom.proofs.Clips.{in_front, shown-own, shown-other}

abbrev is_met : Span → Row ℕ → Bool
is_met span row = meets (second_axis text_widths) span row

-- ---- a row that does not meet the span shows nothing of it

shared : (part n : ℕ) (x : Piece) (span : Span) (k : ℕ) → part < 3 → IsPiece x → k < x.count → is_picked span (address_in part x.document (x.first + k)) ≡ true → Share (span_on (second_axis text_widths) (piece_row part n x)) span
shared part n x span k p is less h =
    let d = x.document in
    let at = address_in part d (x.first + k) in
    let parts = and_parts (not (comes_before at span.start)) (comes_before at (end_of span)) h in
    let room = is.fits in
    let one = is.from_one in
    let filled : 0 < x.count = omega arith in
    let front = d ++ 0 ∷ part ∷ [] in
    let ends : sum (address_in part d x.first) (width_at (length (address_in part d x.first)) x.count) ≡ address_in part d (x.first + x.count) = sum-address part x.first x.count d filled in
    let before : IsBefore at (address_in part d (x.first + x.count)) =
    subst (λ (a : List ℕ). IsBefore a (address_in part d (x.first + x.count))) (sym (in_front d part (x.first + k)))
    (subst (λ (b : List ℕ). IsBefore (front ++ (x.first + k) ∷ []) b) (sym (in_front d part (x.first + x.count))) (last_earlier front (x.first + k) (x.first + x.count) (omega arith))) in
    record {
      places = at;
      are_places = are_places at (address-is_tumbler part (x.first + k) d p (omega arith) (omega arith) (short_document x is) is.is_tumbler);
      in_first = (
        subst (λ (a : List ℕ). IsUpTo a at) (sym (in_front d part x.first))
            (subst (λ (b : List ℕ). IsUpTo (front ++ x.first ∷ []) b) (sym (in_front d part (x.first + k))) (last_up_to front x.first (x.first + k) (omega arith))),
        subst (IsBefore at) (sym ends) before,
      );
      in_second = (up_to_if_false at span.start (not-true (comes_before at span.start) parts.0), before_if_true at (end_of span) parts.1);
    }

none_picked : (span : Span) (part : ℕ) (document : List ℕ) (n first count : ℕ) → ((k : ℕ) → k < count → is_picked span (address_in part document (first + k)) ≡ false)
    → positions_in span n (addresses_from part document first count) ≡ []
none_picked span part document n first zero h = refl
none_picked span part document n first (suc count) h =
    let at : first + 0 ≡ first = omega arith in
    let here : is_picked span (address_in part document first) ≡ false = ap (λ (m : ℕ). is_picked span (address_in part document m)) (sym at) ∙ h 0 (omega arith) in
    let more = positions_in span (n + 1) (addresses_from part document (first + 1) count) in
    if_false (is_picked span (address_in part document first)) (n ∷ more) more here
    ∙ none_picked span part document (n + 1) (first + 1) count (λ k less. let there : (first + 1) + k ≡ first + suc k = omega arith in ap (λ (m : ℕ). is_picked span (address_in part document m)) there ∙ h (suc k) (omega arith))

not_met : (part n : ℕ) (x : Piece) (span : Span) → part < 3 → 1 ≤ n → n + x.count < 2 ^ 32 → IsPiece x → IsTumbler span.start → is_met span (piece_row part n x) ≡ false → shown_by part span (piece_row part n x) ≡ []
not_met part n x span p one room is start e =
    let well_formed : IsWellFormedRow text_widths (piece_row part n x) = well_formed_row part n x p one room is in
    shown-own part n span x
    ∙ none_picked span part x.document n x.first x.count (λ k less. false_from_ne_true (is_picked span (address_in part x.document (x.first + k))) (λ h.
    both_ways (is_met span (piece_row part n x)) e (((meets_exactly text_widths).second span (piece_row part n x) start well_formed).1 (inl ((well_formed.proper.1 refl).0, shared part n x span k p is less h)))))

row_not_met : (part : ℕ) (span : Span) (row : Row ℕ) → IsTumbler span.start → IsPieceRow row → is_met span row ≡ false → shown_by part span row ≡ []
row_not_met part span row start r e =
    let split : (r.part ≡ part) ⊎ (r.part ≢ part) = grind arith in
    let few : r.part < 3 = elim r.one_of_two [
      | inl one ↦ omega arith
      | inr two ↦ omega arith
    ] in
    let met : is_met span (piece_row r.part r.n r.piece) ≡ false = ap (is_met span) (sym r.is) ∙ e in
    elim split [
      | inl own ↦ subst (λ (p : ℕ). shown_by p span row ≡ []) own (ap (shown_by r.part span) r.is ∙ not_met r.part r.n r.piece span few r.from_one r.fits r.is_piece start met)
      | inr other ↦ shown-other part span row (λ same. other (sym (ap (λ (l : Row ℕ). place l.first 0) r.is) ∙ same))
    ]

-- ---- only rows that meet it

skipped_one : (f : Row ℕ → List ℕ) (test : Row ℕ → Bool) (row : Row ℕ) (rows : List (Row ℕ)) (b : Bool) → test row ≡ b → (test row ≡ false → f row ≡ []) → flat_map f (filter test rows) ≡ flat_map f rows
    → flat_map f (filter test (row ∷ rows)) ≡ flat_map f (row ∷ rows)
skipped_one f test row rows true e none rest = ap (flat_map f) (if_true (test row) (row ∷ filter test rows) (filter test rows) e) ∙ ap (λ (ps : List ℕ). f row ++ ps) rest
skipped_one f test row rows false e none rest = ap (flat_map f) (if_false (test row) (row ∷ filter test rows) (filter test rows) e) ∙ (rest ∙ ap (λ (ps : List ℕ). ps ++ flat_map f rows) (sym (none e)))

skipped : (f : Row ℕ → List ℕ) (test : Row ℕ → Bool) (rows : List (Row ℕ)) → All (λ row. test row ≡ false → f row ≡ []) rows → flat_map f (filter test rows) ≡ flat_map f rows
skipped f test [] none = refl
skipped f test (row ∷ rows) none =
    let rest = skipped f test rows (All-tail (λ r. test r ≡ false → f r ≡ []) row rows none) in
    let here = All-head (λ r. test r ≡ false → f r ≡ []) row rows none in
    skipped_one f test row rows (test row) refl here rest

-- ---- all rows of a document

passes_or_not : (span : Span) (n : ℕ) (whole a b : List ℕ) (t : Bool) → whole ≡ a ++ b → (if t then n ∷ whole else whole) ≡ (if t then n ∷ a else a) ++ b
passes_or_not span n whole a b true e = ap (λ (ps : List ℕ). n ∷ ps) e
passes_or_not span n whole a b false e = e

positions-append : (span : Span) (n m : ℕ) (a b : List (List ℕ)) → m ≡ n + length a → positions_in span n (a ++ b) ≡ positions_in span n a ++ positions_in span m b
positions-append span n m [] b e = let same : n ≡ m = omega arith in ap (λ (k : ℕ). positions_in span k b) same
positions-append span n m (x ∷ a) b e = passes_or_not span n (positions_in span (n + 1) (a ++ b)) (positions_in span (n + 1) a) (positions_in span m b) (is_picked span x) (positions-append span (n + 1) m a b (omega arith))

own_shown : (part n : ℕ) (span : Span) (xs : List Piece) → shown_by_all part span (rows_from part n xs) ≡ positions_in span n (laid part xs)
own_shown part n span [] = refl
own_shown part n span (x ∷ xs) =
    let long : n + x.count ≡ n + length (piece_addresses part x) = ap (λ (k : ℕ). n + k) (sym (length-addresses part x.document x.first x.count)) in
    ap (λ (ps : List ℕ). ps ++ shown_by_all part span (rows_from part (n + x.count) xs)) (shown-own part n span x)
    ∙ (ap (λ (ps : List ℕ). positions_in span n (piece_addresses part x) ++ ps) (own_shown part (n + x.count) span xs)
    ∙ sym (positions-append span n (n + x.count) (piece_addresses part x) (laid part xs) long))

links_not_text : (n : ℕ) (span : Span) (zs : List Piece) → shown_by_all 1 span (rows_from 2 n zs) ≡ []
links_not_text n span [] = refl
links_not_text n span (z ∷ zs) = links_not_text (n + z.count) span zs

text_not_links : (n : ℕ) (span : Span) (xs : List Piece) → shown_by_all 2 span (rows_from 1 n xs) ≡ []
text_not_links n span [] = refl
text_not_links n span (x ∷ xs) = text_not_links (n + x.count) span xs

abbrev shown_in : (part : Part) (span : Span) (xs zs : List Piece) → List ℕ
shown_in Text span xs zs = positions_in span 1 (laid 1 xs)
shown_in Links span xs zs = positions_in span 1 (laid 2 zs)

document_shown : (part : Part) (span : Span) (xs zs : List Piece) → shown_by_all (part_number part) span (rows_from 1 1 xs ++ rows_from 2 1 zs) ≡ shown_in part span xs zs
document_shown Text span xs zs =
    flat_map-append (shown_by 1 span) (rows_from 1 1 xs) (rows_from 2 1 zs)
    ∙ (ap (λ (ps : List ℕ). shown_by_all 1 span (rows_from 1 1 xs) ++ ps) (links_not_text 1 span zs) ∙ (append-nil (shown_by_all 1 span (rows_from 1 1 xs)) ∙ own_shown 1 1 span xs))
document_shown Links span xs zs =
    flat_map-append (shown_by 2 span) (rows_from 1 1 xs) (rows_from 2 1 zs) ∙ (ap (λ (ps : List ℕ). ps ++ shown_by_all 2 span (rows_from 2 1 zs)) (text_not_links 1 span xs) ∙ own_shown 2 1 span zs)

standing_shown : (part : Part) (span : Span) (rows : List (Row ℕ)) → IsOneDocument rows → shown_by_all (part_number part) span rows ≡ positions_in span 1 (standing_in part rows)
standing_shown Text span rows one = ap (shown_by_all 1 span) one.gapless ∙ document_shown Text span (pieces_in 1 rows) (pieces_in 2 rows)
standing_shown Links span rows one = ap (shown_by_all 2 span) one.gapless ∙ document_shown Links span (pieces_in 1 rows) (pieces_in 2 rows)

-- ---- the rows that were found

only_meeting : (part : ℕ) (span : Span) (rows : List (Row ℕ)) → IsTumbler span.start → All IsPieceRow rows → shown_by_all part span (filter (is_met span) rows) ≡ shown_by_all part span rows
only_meeting part span rows start each = skipped (shown_by part span) (is_met span) rows (All-weaker IsPieceRow (λ row. is_met span row ≡ false → shown_by part span row ≡ []) (λ row r. row_not_met part span row start r) rows each)

pub document_rows : (rows : List (Row ℕ)) → IsOneDocument rows → All IsPieceRow rows
document_rows rows one =
    let made = made_of rows one in
    let few = made.few in
    let fewer = made.fewer in
    let xs = pieces_in 1 rows in
    let zs = pieces_in 2 rows in
    subst (All IsPieceRow) (sym made.are) (All-append IsPieceRow (rows_from 1 1 xs) (rows_from 2 1 zs)
    (each_row 1 IsPieceRow 1 (1 + total xs) 1 xs (omega arith) (omega arith) made.each (λ m x lo hi is. record { part = 1; n = m; piece = x; is = refl; one_of_two = inl refl; from_one = lo; is_piece = is; fits = omega arith }))
    (each_row 2 IsPieceRow 1 (1 + total zs) 1 zs (omega arith) (omega arith) made.also (λ m x lo hi is. record { part = 2; n = m; piece = x; is = refl; one_of_two = inr refl; from_one = lo; is_piece = is; fits = omega arith })))

-- a row of this plane is as plain as it is
pub plain_rows : (rows : List (Row ℕ)) → map (plain_row (λ (n : ℕ). n)) rows ≡ rows
plain_rows [] = refl
plain_rows (row ∷ rows) = ap (λ (rs : List (Row ℕ)). row ∷ rs) (plain_rows rows)

pub found_rows : (nodes : List (Shape ℕ)) (k : ℕ) (span : Span) (found : List (Row ℕ)) → IsRoot nodes k → map (plain_row (λ (n : ℕ). n)) found ≡ filter (is_met span) (rows_of nodes k) → All IsPieceRow found
found_rows nodes k span found root e =
    subst (All IsPieceRow) (sym e ∙ plain_rows found) (All-filter (is_met span) IsPieceRow (rows_of nodes k) (document_rows (rows_of nodes k) root.document))

found_shown : (part : Part) (nodes : List (Shape ℕ)) (k : ℕ) (span : Span) (found : List (Row ℕ)) → IsRoot nodes k → IsTumbler span.start → map (plain_row (λ (n : ℕ). n)) found ≡ filter (is_met span) (rows_of nodes k)
    → shown_by_all (part_number part) span found ≡ positions_in span 1 (standing_in part (rows_of nodes k))
found_shown part nodes k span found root start e =
    ap (shown_by_all (part_number part) span) (sym (plain_rows found) ∙ e)
    ∙ (only_meeting (part_number part) span (rows_of nodes k) start (document_rows (rows_of nodes k) root.document) ∙ standing_shown part span (rows_of nodes k) root.document)

both_parts : (nodes : List (Shape ℕ)) (k : ℕ) (span : Span) (found slice also : List (Row ℕ)) (none spans all : List Span) → IsRoot nodes k → IsTumbler span.start → map (plain_row (λ (n : ℕ). n)) found ≡ filter (is_met span) (rows_of nodes k)
    → none ≡ [] → slice ≡ found → also ≡ found → spans ≡ none ++ intervals 1 (shown_by_all 1 span slice) → all ≡ spans ++ intervals 2 (shown_by_all 2 span also) → all ≡ intervals_in span (rows_of nodes k)
both_parts nodes k span found slice also none spans all root start e empty same same_too first second =
    let texts_shown : spans ≡ intervals 1 (positions_in span 1 (texts (rows_of nodes k))) =
    first ∙ (ap (λ (ss : List Span). ss ++ intervals 1 (shown_by_all 1 span slice)) empty ∙ ap (intervals 1) (ap (shown_by_all 1 span) same ∙ found_shown Text nodes k span found root start e)) in
    second
    ∙ (ap (λ (ss : List Span). ss ++ intervals 2 (shown_by_all 2 span also)) texts_shown
    ∙ ap (λ (ps : List ℕ). intervals 1 (positions_in span 1 (texts (rows_of nodes k))) ++ intervals 2 ps) (ap (shown_by_all 2 span) same_too ∙ found_shown Links nodes k span found root start e))

-- ---- what the code found

pub rows_found : (nodes arena : List (Shape ℕ)) (k : ℕ) (span : Span) (found slice : List (Row ℕ)) → arena ≡ nodes → IsRoot nodes k → map (plain_row (λ (n : ℕ). n)) found ≡ filter (is_met span) (rows_of arena k) → slice ≡ found → All IsPieceRow slice
rows_found nodes arena k span found slice same root e is = subst (All IsPieceRow) (sym is) (found_rows nodes k span found root (e ∙ ap (λ (ns : List (Shape ℕ)). filter (is_met span) (rows_of ns k)) same))

pub both_shown : (nodes arena : List (Shape ℕ)) (k : ℕ) (span : Span) (found slice also : List (Row ℕ)) (none spans all : List Span) → arena ≡ nodes → IsRoot nodes k → IsTumbler span.start
    → map (plain_row (λ (n : ℕ). n)) found ≡ filter (is_met span) (rows_of arena k) → none ≡ [] → slice ≡ found → also ≡ found → spans ≡ none ++ intervals 1 (shown_by_all 1 span slice) → all ≡ spans ++ intervals 2 (shown_by_all 2 span also)
    → all ≡ intervals_in span (rows_of nodes k)
both_shown nodes arena k span found slice also none spans all same root start e empty is is_too first second =
    both_parts nodes k span found slice also none spans all root start (e ∙ ap (λ (ns : List (Shape ℕ)). filter (is_met span) (rows_of ns k)) same) empty is is_too first second

pub ruleset found = (rows_found, both_shown)
