-- What a document reads after text came in.
use Rattle.std.proofs.Common.{◌≡◌, ◌≢◌, ℕ, ◌+◌, ◌-◌, ◌<◌, ◌≤◌, ◌∙◌, Bool, true, false, cond, List, [], ◌∷◌, ◌++◌, length, map, take, drop, get_or, ap, sym, refl, arith, append_assoc}
use Rattle.std.specs.Prelude.{Option, Some, None, if◌then◌else◌, All}
use Rattle.std.specs.List.{fold, filter_map, cons_option}
use Rattle.std.specs.Cmp.Lexicographic.{bytes_decides}
use Rattle.std.proofs.lemmas.Bool.{false_from_ne_true}
use Rattle.std.proofs.lemmas.Grind.{fold-append}
use Rattle.std.proofs.lemmas.List.{append_cancel_left}
use Rattle.std.proofs.lemmas.List.Elements.{filter_map-append, All-head, All-tail, All-take, All-drop}
use Rattle.world_rules.specs.declared.rows.Row.{Row}
use Rattle.world_rules.specs.declared.rows.ByteRow.{ByteRow}
use Rattle.world_rules.specs.World.{is_same, content_address, byte_at}
use Rattle.world_rules.specs.Edits.{new_rows, content_addresses, new_bytes, up_by}
use Rattle.world_rules.specs.Laws.{text_rows, RetrieveAfterInsert}
use Rattle.world_rules.proofs.RowsWith.{same_itself}
use Rattle.world_rules.proofs.Inserted.{inserts_rows}

-- the byte that was found so far, or the row's
abbrev found_more : List ℕ → Option ℕ → ByteRow → Option ℕ
found_more address found b = if is_same b.address address then Some b.byte else found

-- the address is none of those of count bytes from first on
abbrev IsNoneOf : List ℕ → List ℕ → ℕ → ℕ → Type 0
IsNoneOf address document first count = (i : ℕ) → first ≤ i → i < first + count → address ≢ content_address document i

differs : (document address : List ℕ) (i : ℕ) → address ≢ content_address document i → is_same (content_address document i) address ≡ false
differs document address i other = false_from_ne_true (is_same (content_address document i) address) (λ (e : is_same (content_address document i) address ≡ true). other (sym ((bytes_decides (content_address document i) address).0 e)))

pub same_number : (document : List ℕ) (i j : ℕ) → content_address document i ≡ content_address document j → i ≡ j
same_number document i j e = ap (λ (places : List ℕ). get_or places 2 0) (append_cancel_left document (0 ∷ 1 ∷ i ∷ []) (0 ∷ 1 ∷ j ∷ []) e)

-- bytes at other addresses change nothing
untouched : (document address : List ℕ) (first : ℕ) (text : List ℕ) (found : Option ℕ) → IsNoneOf address document first (length text) → fold (found_more address) found (new_bytes document first text) ≡ found
untouched document address first [] found none = refl
untouched document address first (b ∷ text) found none =
    ap (λ (same : Bool). fold (found_more address) (cond same (Some b) found) (new_bytes document (first + 1) text)) (differs document address first (none first (omega arith) (omega arith)))
    ∙ untouched document address (first + 1) text found (λ i low high. none i (omega arith) (omega arith))

-- ---- the new rows

new_text : (bytes : List ByteRow) (document : List ℕ) (n first : ℕ) (text : List ℕ) → filter_map (λ (row : Row). byte_at (bytes ++ new_bytes document first text) row.address) (new_rows document n (content_addresses document first (length text))) ≡ text
new_text bytes document n first [] = refl
new_text bytes document n first (b ∷ text) =
    let address : List ℕ = content_address document first in
    let here : ByteRow = record { address = address; byte = b } in
    let later : List ByteRow = new_bytes document (first + 1) text in
    let split : bytes ++ (here ∷ later) ≡ (bytes ++ here ∷ []) ++ later = sym (append_assoc bytes (here ∷ []) later) in
    let first_byte : byte_at (bytes ++ (here ∷ later)) address ≡ Some b =
    fold-append (found_more address) None bytes (here ∷ later)
    ∙ ap (λ (same : Bool). fold (found_more address) (cond same (Some b) (fold (found_more address) None bytes)) later) (same_itself address)
    ∙ untouched document address (first + 1) text (Some b) (λ i low high e. absurd (let same : first ≡ i = same_number document first i e in omega arith)) in
    let rest : filter_map (λ (row : Row). byte_at (bytes ++ (here ∷ later)) row.address) (new_rows document (n + 1) (content_addresses document (first + 1) (length text))) ≡ text =
    ap (λ (all : List ByteRow). filter_map (λ (row : Row). byte_at all row.address) (new_rows document (n + 1) (content_addresses document (first + 1) (length text)))) split
    ∙ new_text (bytes ++ here ∷ []) document (n + 1) (first + 1) text in
    λ i. cons_option (first_byte i) (rest i)

-- ---- the rows that were there

old_text : (bytes : List ByteRow) (document : List ℕ) (first : ℕ) (text : List ℕ) (rows : List Row) → All (λ (row : Row). IsNoneOf row.address document first (length text)) rows
    → filter_map (λ (row : Row). byte_at (bytes ++ new_bytes document first text) row.address) rows ≡ filter_map (λ (row : Row). byte_at bytes row.address) rows
old_text bytes document first text [] none = refl
old_text bytes document first text (row ∷ rows) none =
    let here : byte_at (bytes ++ new_bytes document first text) row.address ≡ byte_at bytes row.address =
    fold-append (found_more row.address) None bytes (new_bytes document first text)
    ∙ untouched document row.address first text (byte_at bytes row.address) (All-head (λ (r : Row). IsNoneOf r.address document first (length text)) row rows none) in
    let rest : filter_map (λ (r : Row). byte_at (bytes ++ new_bytes document first text) r.address) rows ≡ filter_map (λ (r : Row). byte_at bytes r.address) rows =
    old_text bytes document first text rows (All-tail (λ (r : Row). IsNoneOf r.address document first (length text)) row rows none) in
    λ i. cons_option (here i) (rest i)

moved_text : (bytes : List ByteRow) (k : ℕ) (rows : List Row) → filter_map (λ (row : Row). byte_at bytes row.address) (map (up_by k) rows) ≡ filter_map (λ (row : Row). byte_at bytes row.address) rows
moved_text bytes k [] = refl
moved_text bytes k (row ∷ rows) = ap (cons_option (byte_at bytes row.address)) (moved_text bytes k rows)

-- ---- the whole

pub retrieve_after_insert : RetrieveAfterInsert
retrieve_after_insert world document at first text place none =
    let old : List Row = text_rows world document in
    let before : List Row = take (at - 1) old in
    let after : List Row = drop (at - 1) old in
    let k : ℕ = length text in
    let shown : Row → Option ℕ = λ row. byte_at (world.bytes ++ new_bytes document first text) row.address in
    let other : Row → Type 0 = λ row. IsNoneOf row.address document first k in
    ap (filter_map shown) (inserts_rows world document at first text place)
    ∙ filter_map-append shown before (new_rows document at (content_addresses document first (length text)) ++ map (up_by k) after)
    ∙ ap (λ (bytes : List ℕ). filter_map shown before ++ bytes) (filter_map-append shown (new_rows document at (content_addresses document first (length text))) (map (up_by k) after))
    ∙ (λ i. old_text world.bytes document first text before (All-take other (at - 1) old none) i
    ++ (new_text world.bytes document at first text i
    ++ (moved_text (world.bytes ++ new_bytes document first text) k after ∙ old_text world.bytes document first text after (All-drop other (at - 1) old none)) i))
