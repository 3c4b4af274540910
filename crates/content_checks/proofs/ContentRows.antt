-- Rows that have the contents of documents.
use Rattle.std.proofs.Common.{◌≡◌, ◌↔◌, ℕ, ◌+◌, ◌<◌, ◌≤◌, min, Bool, false, IsTrue, List, [], ◌∷◌, ◌++◌, length, take, get_or, arith, ap, sym, ◌∙◌}
use Rattle.std.specs.List.{All}
use Rattle.std.proofs.lemmas.List.{length-append, take_more, take_all, append-nil}
use Rattle.std.proofs.lemmas.List.Elements.{All-head, All-tail}
use Rattle.std.proofs.lemmas.Grind.{flat_map-append}
use Rattle.enfilade_core.specs.Summary.{most_count}
use Rattle.granfilade.specs.Puts.{IsLeaf, end_of_row, Linked}
use Rattle.page_tables.specs.declared.tables.TableDocument.{TableDocument}
use Rattle.poom.specs.Pieces.{addresses_from}
use Rattle.poom.proofs.Back.{length-addresses}
use Rattle.content_checks.specs.Listed.{bytes_of, listed_bytes}
use Rattle.content_checks.specs.Sound.{byte_addresses, AreContents}
use Rattle.content_checks.specs.inside.Steps.{HaveBytes}
use Rattle.content_checks.proofs.ByteRows.{ByteRow, rows_addresses}

-- ---- how many bytes are promised

one_more : (documents : List TableDocument) (i : ℕ) (item : TableDocument) → i < length documents → item ≡ get_or documents i item → length (listed_bytes (take (i + 1) documents)) ≡ length (listed_bytes (take i documents)) + item.content
one_more documents i item lt at =
    let here : take (i + 1) documents ≡ take i documents ++ item ∷ [] = take_more documents i item lt ∙ ap (λ (d : TableDocument). take i documents ++ d ∷ []) (sym at) in
    let bytes : listed_bytes (take (i + 1) documents) ≡ listed_bytes (take i documents) ++ listed_bytes (item ∷ []) = ap listed_bytes here ∙ flat_map-append bytes_of (take i documents) (item ∷ []) in
    let last : length (listed_bytes (item ∷ [])) ≡ item.content = ap length (append-nil (bytes_of item)) ∙ length-addresses 1 item.document 1 item.content in
    let parts = length-append (listed_bytes (take i documents)) (listed_bytes (item ∷ [])) in
    ap length bytes ∙ (parts ∙ ap (λ (n : ℕ). length (listed_bytes (take i documents)) + n) last)

pub promised_more : (documents : List TableDocument) (i : ℕ) (item : TableDocument) (old new : ℕ) → i < length documents → item ≡ get_or documents i item → old ≡ min (length (listed_bytes (take i documents))) most_count → new ≡ min (old + item.content) most_count
    → new ≡ min (length (listed_bytes (take (i + 1) documents))) most_count
promised_more documents i item old new lt at so_far is = let more = one_more documents i item lt at in omega arith

pub promised_all : (documents : List TableDocument) (i bytes : ℕ) → length documents ≤ i → bytes ≡ min (length (listed_bytes (take i documents))) most_count → bytes ≡ min (length (listed_bytes documents)) most_count
promised_all documents i bytes le is = is ∙ ap (λ (d : List TableDocument). min (length (listed_bytes d)) most_count) (take_all i documents le)

-- ---- no more rows than bytes

rows_few : (rows : List ByteRow) → All IsLeaf rows → length rows ≤ length (byte_addresses rows)
rows_few [] all = omega arith
rows_few (row ∷ rows) all =
    let leaf = All-head IsLeaf row rows all in
    let filled = leaf.filled in
    let n = leaf.address.number in
    let rest = rows_few rows (All-tail IsLeaf row rows all) in
    let are = ap length (rows_addresses leaf.document n row rows leaf.address.parts) ∙ length-append (addresses_from 1 leaf.document n (length row.leaf.items)) (byte_addresses rows) in
    let here = length-addresses 1 leaf.document n (length row.leaf.items) in
    omega arith

pub too_many_rows : (documents : List TableDocument) (rows : List ByteRow) (leaves promised : ℕ) → leaves ≡ min (length rows) most_count → promised ≡ min (length (listed_bytes documents)) most_count → promised < leaves → IsTrue false ↔ AreContents documents rows
too_many_rows documents rows leaves promised counted listed more =
    (λ never. absurd cc, λ are. let few = rows_few rows are.content.leaves in let same = ap length are.bytes in absurd (omega arith))

-- ---- apart, and with the documents' bytes

pub not_contents : (documents : List TableDocument) (rows : List ByteRow) → (Linked end_of_row rows → ⊥) → IsTrue false ↔ AreContents documents rows
not_contents documents rows not_linked = (λ never. absurd cc, λ are. absurd (not_linked are.content.apart))

pub contents_are : (documents : List TableDocument) (rows : List ByteRow) (b : Bool) → Linked end_of_row rows → IsTrue b ↔ HaveBytes rows (listed_bytes documents) → IsTrue b ↔ AreContents documents rows
contents_are documents rows b apart have =
    (λ yes. let h = have.0 yes in record { content = record { leaves = h.leaves; apart = apart }; bytes = h.are }, λ are. have.1 (record { leaves = are.content.leaves; are = are.bytes }))
