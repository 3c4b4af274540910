-- The requests that the program makes itself: an account, eight documents, requests that a generator draws about them,
-- and a quit. They depend on the number alone that the generator starts from.
use Rattle.std.specs.Prelude.{ℕ, zero, suc, ◌+◌, ◌-◌, ◌*◌, ◌/◌, ◌%◌, ◌==◌, if◌then◌else◌, nat_lt, min, List, [], ◌∷◌, ◌++◌, map, replicate, slice_index, slice_set}
use Rattle.std.specs.List.{range_with_len}
use Rattle.tumbler.specs.declared.span.Span.{Span}
use Rattle.febe_data.specs.Generator.{state_after, value_of}
use Rattle.febe_data.specs.Plain.{PlainSpec, PlainRequest, insert, copy, rearrange, create, delete, version, quit, find_documents, create_link, set_account}
use Rattle.session_generator.specs.declared.generating.Draw.{Draw}
use Rattle.session_generator.specs.declared.generating.Kind.{Kind}
use Rattle.session_generator.specs.declared.generating.Kind.TheVariants.{Insert, Delete, Copy, Rearrange, Version, Link, Find}

-- ---- addresses: the documents are counted from 0, and the bytes of a document from 1

abbrev pub account : List ℕ
account = 1 ∷ 1 ∷ 0 ∷ 1 ∷ []

abbrev pub document_at : ℕ → List ℕ
document_at j = 1 ∷ 1 ∷ 0 ∷ 1 ∷ 0 ∷ (1 + j) ∷ []

abbrev pub byte_at : ℕ → List ℕ
byte_at n = 1 ∷ n ∷ []

-- so many bytes, from the n-th on
abbrev pub bytes_from : (n many : ℕ) → Span
bytes_from n many = record { start = byte_at n; width = 0 ∷ many ∷ [] }

-- the first so many bytes of a document, as a spec set
abbrev pub first_bytes : (j many : ℕ) → List PlainSpec
first_bytes j many = record { document = document_at j; spans = bytes_from 1 many ∷ [] } ∷ []

-- ---- what the three numbers of a request choose

-- the document that the request is about, one of eight
abbrev pub document_of : Draw → ℕ
document_of draw = draw.first % 8

-- a number of bytes, from 1 to 16
abbrev pub size_of : Draw → ℕ
size_of draw = 1 + (draw.first / 8) % 16

-- another document, or the same
abbrev pub other_of : Draw → ℕ
other_of draw = (draw.first / 64) % 8

-- What the request does, where its document has so many bytes. Half of all operations put text in, and so do a delete
-- and a rearrangement for which there is too little.
abbrev pub kind_in : (operation other long : ℕ) → Kind
kind_in operation other long =
    if nat_lt operation 4 then Insert
    else if operation == 4 then (if long == 0 then Insert else Delete)
    else if operation == 5 then Copy
    else if operation == 6 then (if nat_lt long 3 then Insert else Rearrange)
    else if other == 0 then Version
    else if nat_lt other 4 then Link
    else Find

abbrev pub kind_of : Draw → ℕ → Kind
kind_of draw long = kind_in (draw.second % 8) (other_of draw) long

-- ---- requests

-- so many small letters as the alphabet goes on, the first of them k behind a; behind z comes a
abbrev pub letters : (k many : ℕ) → List ℕ
letters k many = map (λ m. 97 + (k + m) % 26) (range_with_len 0 many)

-- the request that is the k-th, where its document has so many bytes: text at one of its places; so many of its bytes;
-- the other document's first bytes at one of its places; its first and second third, swapped; a version of it; a link
-- from its first bytes to the other one's; and a search by its first bytes
abbrev pub request_of : Kind → (k : ℕ) → Draw → (long : ℕ) → PlainRequest
request_of Insert k draw long = insert (document_at (document_of draw)) (byte_at (1 + draw.third % (long + 1))) (letters k (size_of draw))
request_of Delete k draw long = delete (document_at (document_of draw)) (bytes_from (1 + draw.third % long) (size_of draw))
request_of Copy k draw long = copy (document_at (document_of draw)) (byte_at (1 + draw.third % (long + 1))) (first_bytes (other_of draw) 8)
request_of Rearrange k draw long = rearrange (document_at (document_of draw)) (byte_at 1 ∷ byte_at (1 + long / 3) ∷ byte_at (1 + 2 * (long / 3)) ∷ [])
request_of Version k draw long = version (document_at (document_of draw))
request_of Link k draw long = create_link (document_at (document_of draw)) (first_bytes (document_of draw) 4) (first_bytes (other_of draw) 4) []
request_of Find k draw long = find_documents (first_bytes (document_of draw) 4)

-- how many bytes the document has after it; what is deleted or copied ends where the document does
abbrev pub length_after : Kind → Draw → (long other : ℕ) → ℕ
length_after Insert draw long other = long + size_of draw
length_after Delete draw long other = long - min (size_of draw) (long - draw.third % long)
length_after Copy draw long other = long + min 8 other
length_after _ draw long other = long

-- ---- all of them

-- what is known between two requests: the generator's state, and how many bytes each document has
pub record MakerState : Type 0 where
  pub state : ℕ
  pub lengths : List ℕ

-- the next three numbers
unfoldable pub drawn_in : MakerState → Draw
drawn_in maker = record {
  first = value_of (state_after maker.state);
  second = value_of (state_after (state_after maker.state));
  third = value_of (state_after (state_after (state_after maker.state)));
}

-- the length of a document
abbrev pub length_in : MakerState → ℕ → ℕ
length_in maker j = slice_index maker.lengths j

-- what the next request does
abbrev pub kind_at : MakerState → Kind
kind_at maker = kind_of (drawn_in maker) (length_in maker (document_of (drawn_in maker)))

-- the next request, where it is the k-th
unfoldable pub request_at : (k : ℕ) → MakerState → PlainRequest
request_at k maker = request_of (kind_at maker) k (drawn_in maker) (length_in maker (document_of (drawn_in maker)))

-- the lengths after it
unfoldable pub lengths_after : MakerState → List ℕ
lengths_after maker =
    let draw : Draw = drawn_in maker in
    slice_set maker.lengths (document_of draw) (length_after (kind_at maker) draw (length_in maker (document_of draw)) (length_in maker (other_of draw)))

abbrev pub maker_after : MakerState → MakerState
maker_after maker = record {
  state = state_after (state_after (state_after maker.state));
  lengths = lengths_after maker;
}

-- what is known after so many requests
unfoldable pub maker_at : (start n : ℕ) → MakerState
maker_at start zero = record { state = start; lengths = replicate 8 0 }
maker_at start (suc n) = maker_after (maker_at start n)

-- the first so many requests that are drawn, counted from 1
unfoldable pub drawn_requests : (start n : ℕ) → List PlainRequest
drawn_requests start n = map (λ k. request_at k (maker_at start (k - 1))) (range_with_len 1 n)

-- all requests
unfoldable pub generated_requests : (start : ℕ) → List PlainRequest
generated_requests start = set_account account ∷ replicate 8 create ++ drawn_requests start 2000 ++ quit ∷ []
