-- The bytes of a text come in.
use Rattle.std.proofs.Common.{◌≡◌, ◌∙◌, ℕ, suc, ◌+◌, ◌<◌, ◌≤◌, ◌||◌, ◌++◌, Bool, true, false, cond, List, [], ◌∷◌, length, take, map, refl, sym, ap, subst, arith, true≢false, append_assoc, All, length-append}
use Rattle.std.specs.Prelude.{filter, IsPermutation}
use Rattle.std.specs.List.{list_any, AllByRecursion}
use Rattle.std.proofs.lemmas.Bool.{false_from_ne_true}
use Rattle.std.proofs.lemmas.List.{take_at}
use Rattle.std.proofs.lemmas.List.Elements.{All-nil, All-cons, All-head, All-tail, All-map, All-append, All-weaker, All-from_recursion, filter-append}
use Rattle.std.proofs.lemmas.List.Sorted.{IsPermutation-refl, IsPermutation-cons, IsPermutation-sym, IsPermutation-trans, IsPermutation-map, IsPermutation-append_comm, IsPermutation-append_left, All-permutation}
use Rattle.std.proofs.lemmas.List.Sums.{length-filter}
use Rattle.std.proofs.lemmas.List.{map-append}
use Rattle.tumbler.specs.Places.{IsBefore, comes_before, Fits, width_at, place_bound}
use Rattle.granfilade.specs.Steps.{last_of}
use Rattle.granfilade.proofs.Documents.{last-number}
use Rattle.granfilade.proofs.Stepping.{step_fits}
use Rattle.enfilade_core.specs.declared.tree.Node.{Node}
use Rattle.doc_table.specs.declared.rows.DocumentRow.{DocumentRow}
use Rattle.doc_table.specs.DocumentRows.{content_in}
use Rattle.granfilade.specs.Content.{ByteAt, so_far_on, laid_from, laid}
use Rattle.granfilade.specs.Puts.{IsBelow, IsNext, put_in}
use Rattle.tumbler.specs.Address.{IsDocument}
use Rattle.world_rules.specs.declared.rows.ByteRow.{ByteRow}
use Rattle.world_rules.specs.World.{is_same, is_child_of, content_address, content_length_of}
use Rattle.world_rules.specs.Edits.{new_bytes}
use Rattle.world_rules.proofs.Documents.{same_end, child}
use Rattle.tree_world.specs.Trees.{IsCounted}
use Rattle.tree_world.specs.Standing.{byte_row, EachOnce}
use Rattle.tree_world.proofs.Found.{both, number_is, address_is, address_alike}
use Rattle.tree_world.proofs.Within.{same_made}
use Rattle.tree_world.proofs.Ordered.{AreMade}
use Rattle.tree_world.proofs.Covering.{byte_far_on, bytes_before}

-- ---- addresses

-- a content address has one document and one number
pub same_content : (one other : List ℕ) (j i : ℕ) → content_address one j ≡ content_address other i → (one ≡ other) × (j ≡ i)
same_content one other j i e =
    let last = same_end (one ++ 0 ∷ 1 ∷ []) (other ++ 0 ∷ 1 ∷ []) j i (append_assoc one (0 ∷ 1 ∷ []) (j ∷ []) ∙ e ∙ sym (append_assoc other (0 ∷ 1 ∷ []) (i ∷ []))) in
    let middle = same_end (one ++ 0 ∷ []) (other ++ 0 ∷ []) 1 1 (append_assoc one (0 ∷ []) (1 ∷ []) ∙ last.0 ∙ sym (append_assoc other (0 ∷ []) (1 ∷ []))) in
    let first = same_end one other 0 0 middle.0 in
    (first.0, last.1)

-- ---- which bytes there are

put_moves : (start : List ℕ) (new held : List ByteAt) → IsPermutation (put_in start new held) (held ++ new)
put_moves start new [] = IsPermutation-refl new
put_moves start new (at ∷ held) = step (comes_before at.address start) (put_moves start new held)
  where
    step : (b : Bool) → IsPermutation (put_in start new held) (held ++ new) → IsPermutation (cond b (at ∷ put_in start new held) (new ++ at ∷ held)) (at ∷ held ++ new)
    step true rest = IsPermutation-cons at (put_in start new held) (held ++ new) rest
    step false rest = IsPermutation-append_comm new (at ∷ held)

laid_bytes : (document : List ℕ) (first k : ℕ) (text : List ℕ) → map byte_row (laid_from (content_address document first) k text) ≡ new_bytes document (first + k) text
laid_bytes document first k [] = refl
laid_bytes document first k (byte ∷ text) =
    let next : first + (k + 1) ≡ first + k + 1 = omega arith in
    λ i. record { address = byte_far_on document first k i; byte = byte } ∷ (laid_bytes document first (k + 1) text ∙ ap (λ n. new_bytes document n text) next) i

-- those of the world, and then the new ones
pub bytes_came : (document : List ℕ) (first : ℕ) (text : List ℕ) (old now : List ByteAt) (rows : List ByteRow) → now ≡ put_in (content_address document first) (laid (content_address document first) text) old → IsPermutation (map byte_row old) rows
    → IsPermutation (map byte_row now) (rows ++ new_bytes document first text)
bytes_came document first text old now rows put moved =
    let none : first + 0 ≡ first = omega arith in
    let new = laid (content_address document first) text in
    subst (λ (xs : List ByteAt). IsPermutation (map byte_row xs) (rows ++ new_bytes document first text)) (sym put)
    (IsPermutation-trans (map byte_row (put_in (content_address document first) new old)) (map byte_row (old ++ new)) (rows ++ new_bytes document first text)
    (IsPermutation-map byte_row (put_in (content_address document first) new old) (old ++ new) (put_moves (content_address document first) new old))
    (subst (λ (xs : List ByteRow). IsPermutation xs (rows ++ new_bytes document first text)) (sym (map-append byte_row old new))
    (subst (λ (ys : List ByteRow). IsPermutation (map byte_row old ++ ys) (rows ++ new_bytes document first text)) (sym (laid_bytes document first 0 text ∙ ap (λ n. new_bytes document n text) none))
    (IsPermutation-append_left (new_bytes document first text) (map byte_row old) rows moved))))

-- ---- each once

abbrev pub same_place : ByteRow → ByteRow → Bool
same_place a b = is_same a.address b.address

-- no byte of the document from this number on
abbrev IsEarlier : List ℕ → ℕ → List ℕ → Type 0
IsEarlier document first address = (n : ℕ) → address ≡ content_address document n → n < first

none_new : (document : List ℕ) (first : ℕ) (text : List ℕ) (row : ByteRow) → IsEarlier document first row.address → list_any (same_place row) (new_bytes document first text) ≡ false
none_new document first [] row below = refl
none_new document first (byte ∷ text) row below = step (is_same row.address (content_address document first)) refl (none_new document (first + 1) text row (λ n is. let lt = below n is in omega (arith, lt)))
  where
    step : (b : Bool) → is_same row.address (content_address document first) ≡ b → list_any (same_place row) (new_bytes document (first + 1) text) ≡ false → (b || list_any (same_place row) (new_bytes document (first + 1) text)) ≡ false
    step true e rest = let lt = below first (address_is row.address (content_address document first) e) in absurd (omega (arith, lt))
    step false e rest = rest

new_once : (document : List ℕ) (first : ℕ) (text : List ℕ) → EachOnce same_place (new_bytes document first text)
new_once document first [] = tt
new_once document first (byte ∷ text) =
    (none_new document (first + 1) text (record { address = content_address document first; byte = byte }) (λ n is. let same = (same_content document document first n is).1 in omega (arith, same)), new_once document (first + 1) text)

joined_once : (xs ys : List ByteRow) → EachOnce same_place xs → EachOnce same_place ys → All (λ (x : ByteRow). list_any (same_place x) ys ≡ false) xs → EachOnce same_place (xs ++ ys)
joined_once [] ys once others apart = others
joined_once (x ∷ xs) ys once others apart =
    (none_in xs once.0, joined_once xs ys once.1 others (All-tail (λ (z : ByteRow). list_any (same_place z) ys ≡ false) x xs apart))
  where
    none_in : (zs : List ByteRow) → list_any (same_place x) zs ≡ false → list_any (same_place x) (zs ++ ys) ≡ false
    none_in [] none = All-head (λ (z : ByteRow). list_any (same_place z) ys ≡ false) x xs apart
    none_in (z ∷ zs) none = both (same_place x z) none (none_in zs)
      where
        both : (b : Bool) → (b || list_any (same_place x) zs) ≡ false → (list_any (same_place x) zs ≡ false → list_any (same_place x) (zs ++ ys) ≡ false) → (b || list_any (same_place x) (zs ++ ys)) ≡ false
        both true h rest = absurd (true≢false h)
        both false h rest = rest h

pub bytes_once : (documents : List (DocumentRow Node)) (held : List ByteAt) (document : List ℕ) (first : ℕ) (text : List ℕ) (rows : List ByteRow) → All (IsCounted documents) held → content_in documents document < first
    → IsPermutation (map byte_row held) rows → EachOnce same_place rows → EachOnce same_place (rows ++ new_bytes document first text)
bytes_once documents held document first text rows counted past moved once =
    joined_once rows (new_bytes document first text) once (new_once document first text)
    (All-permutation (λ (row : ByteRow). list_any (same_place row) (new_bytes document first text) ≡ false) (map byte_row held) rows moved
    (All-map (λ (row : ByteRow). list_any (same_place row) (new_bytes document first text) ≡ false) byte_row held
    (All-weaker (IsCounted documents) (λ (at : ByteAt). list_any (same_place (byte_row at)) (new_bytes document first text) ≡ false)
    (λ at is. none_new document first text (byte_row at) (λ n e. let few = is document n e in omega (arith, few, past))) held counted)))

-- ---- how many

pub new_long : (document : List ℕ) (first : ℕ) (text : List ℕ) → length (new_bytes document first text) ≡ length text
new_long document first [] = refl
new_long document first (byte ∷ text) = ap suc (new_long document (first + 1) text)

abbrev is_content : List ℕ → ByteRow → Bool
is_content document b = is_child_of (document ++ 0 ∷ 1 ∷ []) b.address

content_is_child : (document : List ℕ) (n : ℕ) → is_child_of (document ++ 0 ∷ 1 ∷ []) (content_address document n) ≡ true
content_is_child document n = subst (λ (address : List ℕ). is_child_of (document ++ 0 ∷ 1 ∷ []) address ≡ true) (append_assoc document (0 ∷ 1 ∷ []) (n ∷ [])) (child (document ++ 0 ∷ 1 ∷ []) n)

content_joined : (document : List ℕ) (bytes more : List ByteRow) → content_length_of (bytes ++ more) document ≡ content_length_of bytes document + content_length_of more document
content_joined document bytes more =
    sym (length-filter (is_content document) (bytes ++ more)) ∙ ap length (filter-append (is_content document) bytes more) ∙ length-append (filter (is_content document) bytes) (filter (is_content document) more)
    ∙ (λ i. length-filter (is_content document) bytes i + length-filter (is_content document) more i)

own_new : (document : List ℕ) (first : ℕ) (text : List ℕ) → length (filter (is_content document) (new_bytes document first text)) ≡ length text
own_new document first [] = refl
own_new document first (b ∷ text) =
    let here : ByteRow = record { address = content_address document first; byte = b } in
    let rest : List ByteRow = filter (is_content document) (new_bytes document (first + 1) text) in
    ap (λ (passes : Bool). length (cond passes (here ∷ rest) rest)) (content_is_child document first) ∙ ap suc (own_new document (first + 1) text)

-- a byte of one document is none of another's
other_child : (other document : List ℕ) (n : ℕ) → is_same other document ≡ false → is_child_of (other ++ 0 ∷ 1 ∷ []) (content_address document n) ≡ false
other_child other document n differs = false_from_ne_true _ (λ e. true≢false (sym (subst (λ (a : List ℕ). is_same a document ≡ true) (sym (the_same e)) (address_alike document)) ∙ differs))
  where
    the_same : is_child_of (other ++ 0 ∷ 1 ∷ []) (content_address document n) ≡ true → other ≡ document
    the_same e =
        let parts = both _ _ e in
        let long : length (content_address document n) ≡ length (other ++ 0 ∷ 1 ∷ []) + 1 = number_is _ _ parts.0 in
        let whole : content_address document n ≡ (document ++ 0 ∷ 1 ∷ []) ++ n ∷ [] = sym (append_assoc document (0 ∷ 1 ∷ []) (n ∷ [])) in
        let one_more : length (content_address document n) ≡ length (document ++ 0 ∷ 1 ∷ []) + 1 = ap length whole ∙ length-append (document ++ 0 ∷ 1 ∷ []) (n ∷ []) in
        let as_long : length (document ++ 0 ∷ 1 ∷ []) ≡ length (other ++ 0 ∷ 1 ∷ []) = omega (arith, long, one_more) in
        let taken : take (length (other ++ 0 ∷ 1 ∷ [])) (content_address document n) ≡ document ++ 0 ∷ 1 ∷ [] =
        ap (take (length (other ++ 0 ∷ 1 ∷ []))) whole ∙ take_at (document ++ 0 ∷ 1 ∷ []) (n ∷ []) (length (other ++ 0 ∷ 1 ∷ [])) as_long in
        let fronts : document ++ 0 ∷ 1 ∷ [] ≡ other ++ 0 ∷ 1 ∷ [] = sym taken ∙ address_is _ _ parts.1 in
        let middle = same_end (document ++ 0 ∷ []) (other ++ 0 ∷ []) 1 1 (append_assoc document (0 ∷ []) (1 ∷ []) ∙ fronts ∙ sym (append_assoc other (0 ∷ []) (1 ∷ []))) in
        sym (same_end document other 0 0 middle.0).0

other_new : (other document : List ℕ) (first : ℕ) (text : List ℕ) → is_same other document ≡ false → length (filter (is_content other) (new_bytes document first text)) ≡ 0
other_new other document first [] differs = refl
other_new other document first (b ∷ text) differs =
    let here : ByteRow = record { address = content_address document first; byte = b } in
    let rest : List ByteRow = filter (is_content other) (new_bytes document (first + 1) text) in
    ap (λ (passes : Bool). length (cond passes (here ∷ rest) rest)) (other_child other document first differs) ∙ other_new other document (first + 1) text differs

-- the document has so many more, and others have as many
pub bytes_counted : (document d : List ℕ) (first : ℕ) (text : List ℕ) (rows : List ByteRow) (b : Bool) → is_same d document ≡ b → content_length_of (rows ++ new_bytes document first text) d ≡ cond b (content_length_of rows document + length text) (content_length_of rows d)
bytes_counted document d first text rows true e =
    let same = address_is d document e in
    content_joined d rows (new_bytes document first text)
    ∙ (λ i. content_length_of rows (same i) + content_length_of (new_bytes document first text) (same i))
    ∙ ap (λ n. content_length_of rows document + n) (sym (length-filter (is_content document) (new_bytes document first text)) ∙ own_new document first text)
bytes_counted document d first text rows false e =
    let nothing : content_length_of rows d + 0 ≡ content_length_of rows d = omega arith in
    content_joined d rows (new_bytes document first text)
    ∙ ap (λ n. content_length_of rows d + n) (sym (length-filter (is_content d) (new_bytes document first text)) ∙ other_new d document first text e)
    ∙ nothing

-- ---- all are counted

laid_counted : (P : ByteAt → Type 0) (start : List ℕ) (k : ℕ) (text : List ℕ) → ((j byte : ℕ) → k ≤ j → j < k + length text → P (record { address = so_far_on start j; byte = byte })) → All P (laid_from start k text)
laid_counted P start k [] each = All-nil P
laid_counted P start k (byte ∷ text) each =
    All-cons P (record { address = so_far_on start k; byte = byte }) (laid_from start (k + 1) text) (each k byte (omega arith) (omega arith))
    (laid_counted P start (k + 1) text (λ j b from to. each j b (omega (arith, from)) (omega (arith, to))))

pub still_counted : (documents now : List (DocumentRow Node)) (held new : List ByteAt) (document : List ℕ) (first : ℕ) (text : List ℕ) → All (IsCounted documents) held → ((d : List ℕ) → content_in documents d ≤ content_in now d) → first + length text ≤ content_in now document + 1
    → new ≡ put_in (content_address document first) (laid (content_address document first) text) held → All (IsCounted now) new
still_counted documents now held new document first text counted more enough put =
    subst (All (IsCounted now)) (sym put)
    (All-permutation (IsCounted now) (held ++ laid (content_address document first) text) (put_in (content_address document first) (laid (content_address document first) text) held)
    (IsPermutation-sym (put_in (content_address document first) (laid (content_address document first) text) held) (held ++ laid (content_address document first) text) (put_moves (content_address document first) (laid (content_address document first) text) held))
    (All-append (IsCounted now) held (laid (content_address document first) text)
    (All-weaker (IsCounted documents) (IsCounted now) (λ at is d n e. let few = is d n e in let up = more d in omega (arith, few, up)) held counted)
    (laid_counted (IsCounted now) (content_address document first) 0 text (λ j byte from to d n e.
    let same = same_content document d (first + j) n (sym (byte_far_on document first j) ∙ e) in
    let few : first + j ≤ content_in now document = omega (arith, to, enough) in
    subst (λ (x : List ℕ). n ≤ content_in now x) same.0 (subst (λ (m : ℕ). m ≤ content_in now document) same.1 few)))))

-- ---- where the new ones go

abbrev head_of : List ℕ → ℕ
head_of [] = 0
head_of (x ∷ xs) = x

-- what is in the document comes before the next number
pub is_next : (documents : List (DocumentRow Node)) (held : List ByteAt) (document : List ℕ) (first : ℕ) → AreMade held → All (IsCounted documents) held → IsDocument document → content_in documents document < first → IsNext (content_address document first) held
is_next documents held document first made counted is past = record {
  document = document;
  address = record { number = first; parts = refl; counted = omega (arith, past); document_address = is };
  above = All-from_recursion (λ (at : ByteAt). IsBelow at.address document → IsBefore at.address (content_address document first)) held (each held made counted);
}
  where
    each : (xs : List ByteAt) → AreMade xs → All (IsCounted documents) xs → AllByRecursion (λ (at : ByteAt). IsBelow at.address document → IsBefore at.address (content_address document first)) xs
    each [] m c = tt
    each (at ∷ xs) m c = (
      λ below.
          let parts = same_made m.0.document document (m.0.part ∷ m.0.number ∷ []) (1 ∷ below.rest) m.0.is_document is (sym m.0.is ∙ below.parts) in
          let is_one : m.0.part ≡ 1 = ap head_of parts.1 in
          let own : at.address ≡ content_address document m.0.number = m.0.is ∙ (λ i. parts.0 i ++ 0 ∷ is_one i ∷ m.0.number ∷ []) in
          let few = All-head (IsCounted documents) at xs c document m.0.number own in
          subst (λ (a : List ℕ). IsBefore a (content_address document first)) (sym own) (bytes_before document m.0.number first (omega (arith, few, past))),
      each xs m.1 (All-tail (IsCounted documents) at xs c),
    )

-- ---- the span of the new ones

pub last_new : (document : List ℕ) (first : ℕ) → IsDocument document → 1 ≤ first → last_of (content_address document first) ≡ first
last_new document first is from = last-number (content_address document first) document (record { number = first; parts = refl; counted = from; document_address = is })

pub text_fits : (document : List ℕ) (first count : ℕ) (start slice width : List ℕ) → IsDocument document → 1 ≤ first → first + count < place_bound → start ≡ content_address document first → slice ≡ start → width ≡ width_at (length slice) count → Fits start width
text_fits document first count start slice width is from few starts slices widths =
    let there : width ≡ width_at (length (content_address document first)) count = widths ∙ ap (λ (xs : List ℕ). width_at (length xs) count) (slices ∙ starts) in
    subst (λ (s : List ℕ). Fits s width) (sym starts) (subst (Fits (content_address document first)) (sym there)
    (step_fits (content_address document first) count (subst (λ (m : ℕ). m + count < place_bound) (sym (last_new document first is from)) few)))
