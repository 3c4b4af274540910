-- Text rows show content bytes that have come.
use Rattle.std.proofs.Common.{◌≡◌, ◌≢◌, ℕ, zero, suc, ◌+◌, ◌-◌, ◌<◌, ◌≤◌, ◌∙◌, ◌&&◌, Bool, true, false, not, List, [], ◌∷◌, ◌++◌, length, map, cond, ap, sym, refl, subst, arith, append_assoc, length-append}
use Rattle.std.specs.Prelude.{filter, All, Some}
use Rattle.std.specs.List.{fold, flat_map}
use Rattle.std.proofs.lemmas.Bool.{and_parts, true≢false}
use Rattle.std.proofs.lemmas.List.Elements.{filter-append, All-nil, All-cons, All-head, All-tail, All-append, All-filter, All-map, All-weaker}
use Rattle.std.proofs.lemmas.List.Sums.{length-filter}
use Rattle.tumbler.specs.declared.span.Span.{Span}
use Rattle.febe_data.specs.Plain.{PlainSpec, PlainEntry, PlainChange, restarted, began, ended, account_changed, document_opened, document_closed, document_created, version_made, copy_opened, text_inserted, span_deleted, blocks_swapped, specs_copied, link_made, document_published}
use Rattle.world_rules.specs.declared.rows.Part.TheVariants.{Text}
use Rattle.world_rules.specs.declared.rows.Row.{Row}
use Rattle.world_rules.specs.declared.rows.ByteRow.{ByteRow}
use Rattle.world_rules.specs.World.{World, empty_world, is_same, is_text, is_text_of, is_child_of, content_address, content_length, content_length_of}
use Rattle.world_rules.specs.Picking.{picks, picked_text, addresses_of, picked_by_spec, picked_addresses}
use Rattle.world_rules.specs.Edits.{Cuts, cuts_of, up_by, down_by, moved_to, moves_up, is_in_block, block, new_rows, rows_with, content_addresses, new_bytes, goes, gone_below, closed_up, rows_without, rows_swapped, rows_as}
use Rattle.world_rules.specs.Apply.{apply, change_world, link_row, world_of}
use Rattle.world_rules.specs.Placed.{ComesInAt, IsPlaced, AllPlaced}
use Rattle.world_rules.specs.Laws.{text_rows, ShowsNoneOf, ShowsWhatCame, ShowsOwnContent, InsertedReads, world_with}
use Rattle.world_rules.proofs.TextWith.{retrieve_after_insert}
use Rattle.world_rules.proofs.Rearranged.{across}
use Rattle.world_rules.proofs.Documents.{same_end, child}
use Rattle.world_rules.proofs.Orderly.{numbered_without_gaps}

-- ---- content bytes

-- a content address has one document and one number
same_content : (one other : List ℕ) (j i : ℕ) → content_address one j ≡ content_address other i → (one ≡ other) × (j ≡ i)
same_content one other j i e =
    let last = same_end (one ++ 0 ∷ 1 ∷ []) (other ++ 0 ∷ 1 ∷ []) j i (append_assoc one (0 ∷ 1 ∷ []) (j ∷ []) ∙ e ∙ sym (append_assoc other (0 ∷ 1 ∷ []) (i ∷ []))) in
    let middle = same_end (one ++ 0 ∷ []) (other ++ 0 ∷ []) 1 1 (append_assoc one (0 ∷ []) (1 ∷ []) ∙ last.0 ∙ sym (append_assoc other (0 ∷ []) (1 ∷ []))) in
    let first = same_end one other 0 0 middle.0 in
    (first.0, last.1)

content_is_child : (document : List ℕ) (n : ℕ) → is_child_of (document ++ 0 ∷ 1 ∷ []) (content_address document n) ≡ true
content_is_child document n = subst (λ (address : List ℕ). is_child_of (document ++ 0 ∷ 1 ∷ []) address ≡ true) (append_assoc document (0 ∷ 1 ∷ []) (n ∷ [])) (child (document ++ 0 ∷ 1 ∷ []) n)

-- the test of a document's content bytes
abbrev is_content : List ℕ → ByteRow → Bool
is_content document b = is_child_of (document ++ 0 ∷ 1 ∷ []) b.address

-- more bytes are more content, of any document
content-append : (document : List ℕ) (bytes more : List ByteRow) → content_length_of (bytes ++ more) document ≡ content_length_of bytes document + content_length_of more document
content-append document bytes more =
    sym (length-filter (is_content document) (bytes ++ more))
    ∙ ap length (filter-append (is_content document) bytes more)
    ∙ length-append (filter (is_content document) bytes) (filter (is_content document) more)
    ∙ (λ i. length-filter (is_content document) bytes i + length-filter (is_content document) more i)

length-new : (document : List ℕ) (first : ℕ) (text : List ℕ) → length (filter (is_content document) (new_bytes document first text)) ≡ length text
length-new document first [] = refl
length-new document first (b ∷ text) =
    let here : ByteRow = record { address = content_address document first; byte = b } in
    let rest : List ByteRow = filter (is_content document) (new_bytes document (first + 1) text) in
    ap (λ (passes : Bool). length (cond passes (here ∷ rest) rest)) (content_is_child document first) ∙ ap suc (length-new document (first + 1) text)

content-new : (document : List ℕ) (first : ℕ) (text : List ℕ) → content_length_of (new_bytes document first text) document ≡ length text
content-new document first text = sym (length-filter (is_content document) (new_bytes document first text)) ∙ length-new document first text

-- ---- addresses that have come

-- the address is no content byte that is yet to come, of any document
abbrev HasCome : List ByteRow → List ℕ → Type 0
HasCome bytes address = (document : List ℕ) (i : ℕ) → content_length_of bytes document < i → address ≢ content_address document i

-- if the row is text, its address has come
abbrev ShowsCome : List ByteRow → Row → Type 0
ShowsCome bytes row = is_text row.part ≡ true → HasCome bytes row.address

abbrev AllCome : World → Type 0
AllCome world = All (ShowsCome world.bytes) world.rows

still_come : (bytes more : List ByteRow) (rows : List Row) → All (ShowsCome bytes) rows → All (ShowsCome (bytes ++ more)) rows
still_come bytes more rows come =
    All-weaker (ShowsCome bytes) (ShowsCome (bytes ++ more)) (λ row is text document i lt. is text document i (omega (arith, content-append document bytes more))) rows come

-- ---- rows that come in

new_rows_come : (bytes : List ByteRow) (document : List ℕ) (n : ℕ) (addresses : List (List ℕ)) → All (HasCome bytes) addresses → All (ShowsCome bytes) (new_rows document n addresses)
new_rows_come bytes document n [] come = All-nil (ShowsCome bytes)
new_rows_come bytes document n (address ∷ addresses) come =
    All-cons (ShowsCome bytes) (record { document = document; part = Text; n = n; address = address }) (new_rows document (n + 1) addresses)
    (λ text. All-head (HasCome bytes) address addresses come)
    (new_rows_come bytes document (n + 1) addresses (All-tail (HasCome bytes) address addresses come))

content_come : (bytes : List ByteRow) (document : List ℕ) (first count : ℕ) → first + count ≤ content_length_of bytes document + 1 → All (HasCome bytes) (content_addresses document first count)
content_come bytes document first zero le = All-nil (HasCome bytes)
content_come bytes document first (suc count) le =
    All-cons (HasCome bytes) (content_address document first) (content_addresses document (first + 1) count)
    (λ other i lt e.
    let same = same_content document other first i e in
    let number : first ≡ i = same.1 in
    let counted : content_length_of bytes document ≡ content_length_of bytes other = ap (content_length_of bytes) same.0 in
    absurd (omega arith))
    (content_come bytes document (first + 1) count (omega arith))

with_come : (bytes : List ByteRow) (rows : List Row) (document : List ℕ) (at : ℕ) (addresses : List (List ℕ)) → All (HasCome bytes) addresses → All (ShowsCome bytes) rows → All (ShowsCome bytes) (rows_with rows document at addresses)
with_come bytes rows document at addresses new come =
    All-append (ShowsCome bytes) (filter (λ row. not (moves_up document at row)) rows ++ new_rows document at addresses) (map (up_by (length addresses)) (filter (moves_up document at) rows))
    (All-append (ShowsCome bytes) (filter (λ row. not (moves_up document at row)) rows) (new_rows document at addresses)
    (All-filter (λ row. not (moves_up document at row)) (ShowsCome bytes) rows come)
    (new_rows_come bytes document at addresses new))
    (All-map (ShowsCome bytes) (up_by (length addresses)) (filter (moves_up document at) rows) (All-filter (moves_up document at) (ShowsCome bytes) rows come))

insert_come : (world : World) (document : List ℕ) (at first : ℕ) (text : List ℕ) → ComesInAt world document at first → AllCome world → AllCome (world_with world document at first text)
insert_come world document at first text place come =
    let more : List ByteRow = new_bytes document first text in
    let is_next : first ≡ content_length world document + 1 = place.is_next in
    let grown : content_length_of (world.bytes ++ new_bytes document first text) document ≡ content_length world document + length text =
    content-append document world.bytes (new_bytes document first text) ∙ ap (λ n. content_length world document + n) (content-new document first text) in
    with_come (world.bytes ++ more) world.rows document at (content_addresses document first (length text))
    (content_come (world.bytes ++ more) document first (length text) (omega arith))
    (still_come world.bytes more world.rows come)

-- ---- copies

picked_step : (bytes : List ByteRow) (q : Row → Bool) (x : Row) (xs : List Row) (u : Bool) → q x ≡ u → (q x ≡ true → HasCome bytes x.address) → All (HasCome bytes) (addresses_of (filter q xs)) → All (HasCome bytes) (addresses_of (filter q (x ∷ xs)))
picked_step bytes q x xs true e here rest = rw e (All-cons (HasCome bytes) x.address (addresses_of (filter q xs)) (here e) rest)
picked_step bytes q x xs false e here rest = rw e rest

picked_come : (bytes : List ByteRow) (q : Row → Bool) → ((row : Row) → q row ≡ true → is_text row.part ≡ true) → (xs : List Row) → All (ShowsCome bytes) xs → All (HasCome bytes) (addresses_of (filter q xs))
picked_come bytes q text [] come = All-nil (HasCome bytes)
picked_come bytes q text (x ∷ xs) come =
    picked_step bytes q x xs (q x) refl (λ (e : q x ≡ true). All-head (ShowsCome bytes) x xs come (text x e)) (picked_come bytes q text xs (All-tail (ShowsCome bytes) x xs come))

all_flat : {X Y : Type 0} (P : Y → Type 0) (f : X → List Y) → ((x : X) → All P (f x)) → (xs : List X) → All P (flat_map f xs)
all_flat P f holds [] = All-nil P
all_flat P f holds (x ∷ xs) = All-append P (f x) (flat_map f xs) (holds x) (all_flat P f holds xs)

picks_text : (document : List ℕ) (span : Span) (row : Row) → (is_text_of document row && picks span row) ≡ true → is_text row.part ≡ true
picks_text document span row e = (and_parts (is_text row.part) (is_same row.document document) (and_parts (is_text_of document row) (picks span row) e).0).0

copies_come : (world : World) (specs : List PlainSpec) → AllCome world → All (HasCome world.bytes) (picked_addresses world specs)
copies_come world specs come =
    all_flat (HasCome world.bytes) (picked_by_spec world)
    (λ spec. all_flat (HasCome world.bytes) (λ (span : Span). addresses_of (picked_text world spec.document span))
    (λ span. picked_come world.bytes (λ row. is_text_of spec.document row && picks span row) (picks_text spec.document span) world.rows come) spec.spans)
    specs

-- ---- rows that move

closed_come : (bytes : List ByteRow) (k : ℕ) (row : Row) (own : Bool) → ShowsCome bytes row → ShowsCome bytes (cond own (down_by k row) row)
closed_come bytes k row true come = come
closed_come bytes k row false come = come

without_come : (bytes : List ByteRow) (rows : List Row) (document : List ℕ) (span : Span) → All (ShowsCome bytes) rows → All (ShowsCome bytes) (rows_without rows document span)
without_come bytes rows document span come =
    let stays : Row → Bool = λ row. not (goes document span row) in
    All-map (ShowsCome bytes) (closed_up rows document span) (filter stays rows)
    (All-weaker (ShowsCome bytes) (λ (row : Row). ShowsCome bytes (closed_up rows document span row)) (λ row is. closed_come bytes (gone_below rows document span row) row (is_same row.document document) is) (filter stays rows)
    (All-filter stays (ShowsCome bytes) rows come))

swapped_come : (bytes : List ByteRow) (rows : List Row) (document : List ℕ) (cuts : Cuts) → All (ShowsCome bytes) rows → All (ShowsCome bytes) (rows_swapped rows document cuts)
swapped_come bytes rows document cuts come =
    let P : Row → Type 0 = ShowsCome bytes in
    let a : List Row = filter (λ row. not (moves_up document cuts.first row)) rows in
    let b : List Row = map (down_by (cuts.third - cuts.first)) (block rows document cuts.third cuts.fourth) in
    let c : List Row = map (across cuts) (block rows document cuts.second cuts.third) in
    let d : List Row = map (up_by (cuts.fourth - cuts.second)) (block rows document cuts.first cuts.second) in
    let e : List Row = filter (moves_up document cuts.fourth) rows in
    All-append P (a ++ b ++ c ++ d) e
    (All-append P (a ++ b ++ c) d
    (All-append P (a ++ b) c
    (All-append P a b (All-filter (λ row. not (moves_up document cuts.first row)) P rows come)
    (All-map P (down_by (cuts.third - cuts.first)) (block rows document cuts.third cuts.fourth) (All-filter (is_in_block document cuts.third cuts.fourth) P rows come)))
    (All-map P (across cuts) (block rows document cuts.second cuts.third) (All-filter (is_in_block document cuts.second cuts.third) P rows come)))
    (All-map P (up_by (cuts.fourth - cuts.second)) (block rows document cuts.first cuts.second) (All-filter (is_in_block document cuts.first cuts.second) P rows come)))
    (All-filter (moves_up document cuts.fourth) P rows come)

swap_come : (world : World) (session : ℕ) (document cuts : List ℕ) (bounds : Cuts) → cuts_of cuts ≡ Some bounds → AllCome world → AllCome (change_world world session (blocks_swapped document cuts))
swap_come world session document cuts bounds e come = rw e (swapped_come world.bytes world.rows document bounds come)

version_come : (bytes : List ByteRow) (rows : List Row) (source document : List ℕ) → All (ShowsCome bytes) rows → All (ShowsCome bytes) (rows ++ rows_as rows source document)
version_come bytes rows source document come =
    All-append (ShowsCome bytes) rows (rows_as rows source document) come
    (All-map (ShowsCome bytes) (moved_to document) (filter (λ (row : Row). is_same row.document source) rows) (All-filter (λ (row : Row). is_same row.document source) (ShowsCome bytes) rows come))

link_come : (bytes : List ByteRow) (rows : List Row) (home : List ℕ) (number place : ℕ) → All (ShowsCome bytes) rows → All (ShowsCome bytes) (rows ++ link_row home number place ∷ [])
link_come bytes rows home number place come =
    All-append (ShowsCome bytes) rows (link_row home number place ∷ []) come
    (All-cons (ShowsCome bytes) (link_row home number place) [] (λ text. absurd (true≢false (sym text))) (All-nil (ShowsCome bytes)))

-- ---- a history

change_come : (world : World) (session : ℕ) (change : PlainChange) → IsPlaced world change → AllCome world → AllCome (change_world world session change)
change_come world session restarted placed come = come
change_come world session began placed come = come
change_come world session ended placed come = come
change_come world session (account_changed account) placed come = come
change_come world session (document_opened document mode) placed come = come
change_come world session (document_closed document) placed come = come
change_come world session (document_created document) placed come = come
change_come world session (version_made source document) placed come = version_come world.bytes world.rows source document come
change_come world session (copy_opened source document) placed come = version_come world.bytes world.rows source document come
change_come world session (text_inserted document at first text) placed come = insert_come world document at first text placed come
change_come world session (span_deleted document span) placed come = without_come world.bytes world.rows document span come
change_come world session (blocks_swapped document cuts) placed come = swap_come world session document cuts placed.bounds placed.are_cuts come
change_come world session (specs_copied document at specs) placed come = with_come world.bytes world.rows document at (picked_addresses world specs) (copies_come world specs come) come
change_come world session (link_made home number place from to three) placed come = link_come world.bytes world.rows home number place come
change_come world session (document_published document) placed come = come

come_along : (history : List PlainEntry) (world : World) → AllPlaced world history → AllCome world → AllCome (fold apply world history)
come_along [] world placed come = come
come_along (entry ∷ history) world placed come = come_along history (apply world entry) placed.1 (change_come world entry.session entry.change placed.0 come)

-- what the rows of a text show
text_come : (world : World) (shown : List ℕ) → AllCome world → All (λ (row : Row). HasCome world.bytes row.address) (text_rows world shown)
text_come world shown come = by_rows world.rows come
  where
    step : (x : Row) (xs : List Row) (u : Bool) → is_text_of shown x ≡ u → ShowsCome world.bytes x → All (λ (row : Row). HasCome world.bytes row.address) (filter (is_text_of shown) xs)
        → All (λ (row : Row). HasCome world.bytes row.address) (filter (is_text_of shown) (x ∷ xs))
    step x xs true e here rest = rw e (All-cons (λ (row : Row). HasCome world.bytes row.address) x (filter (is_text_of shown) xs) (here (and_parts (is_text x.part) (is_same x.document shown) e).0) rest)
    step x xs false e here rest = rw e rest

    by_rows : (xs : List Row) → All (ShowsCome world.bytes) xs → All (λ (row : Row). HasCome world.bytes row.address) (filter (is_text_of shown) xs)
    by_rows [] all = All-nil (λ (row : Row). HasCome world.bytes row.address)
    by_rows (x ∷ xs) all = step x xs (is_text_of shown x) refl (All-head (ShowsCome world.bytes) x xs all) (by_rows xs (All-tail (ShowsCome world.bytes) x xs all))

pub shows_what_came : ShowsWhatCame
shows_what_came history placed shown document i lt =
    let world : World = world_of history in
    All-weaker (λ (row : Row). HasCome world.bytes row.address) (λ (row : Row). row.address ≢ content_address document i) (λ row is. is document i lt) (text_rows world shown)
    (text_come world shown (come_along history empty_world placed (All-nil (ShowsCome []))))

pub shows_own_content : ShowsOwnContent
shows_own_content history placed document count =
    let world : World = world_of history in
    let few : ℕ = content_length world document in
    All-weaker (λ (row : Row). HasCome world.bytes row.address) (λ (row : Row). (i : ℕ) → few + 1 ≤ i → i < few + 1 + count → row.address ≢ content_address document i)
    (λ row is i low high. is document i (omega arith)) (text_rows world document)
    (text_come world document (come_along history empty_world placed (All-nil (ShowsCome []))))

pub inserted_reads : InsertedReads
inserted_reads history placed document at first text comes =
    retrieve_after_insert (world_of history) document at first text
    (record { numbered = (numbered_without_gaps history placed document).text; from_one = comes.from_one; to_end = comes.to_end })
    (subst (λ (next : ℕ). ShowsNoneOf (world_of history) document next (length text)) (sym comes.is_next) (shows_own_content history placed document (length text)))
