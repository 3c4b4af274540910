-- Requests that are drawn, one more at a time.
use Rattle.std.proofs.Common.{◌≡◌, ◌≢◌, ℕ, zero, suc, ◌+◌, ◌-◌, ◌*◌, ◌%◌, ◌<◌, ◌≤◌, ◌∙◌, List, [], ◌∷◌, ◌++◌, length, map, get_or, All, ap, sym, subst, refl, arith, add-one}
use Rattle.std.specs.List.{AllByRecursion, range_with_len}
use Rattle.std.proofs.lemmas.List.FromFn.{map-range_with_len_more, length-map-range_with_len, get_or-map-range_with_len}
use Rattle.std.proofs.lemmas.List.{append_assoc, append-nil, get_or_past, map_push}
use Rattle.std.proofs.lemmas.List.Elements.{All-push, All-set, All-replicate}
use Rattle.febe_data.specs.Validity.{IsText, IsRequest}
use Rattle.febe_data.specs.declared.request.Request.{Request}
use Rattle.febe_data.specs.Plain.{PlainRequest, quit, plain_request}
use Rattle.session_generator.specs.declared.generating.Draw.{Draw}
use Rattle.session_generator.specs.declared.generating.Kind.{Kind}
use Rattle.session_generator.specs.declared.generating.Kind.TheVariants.{Insert, Delete, Copy, Rearrange, Version, Link, Find}
use Rattle.session_generator.specs.Generated.{letters, document_of, other_of, kind_at, length_in, request_of, length_after, lengths_after, MakerState, drawn_in, request_at, maker_after, maker_at, drawn_requests}

pub letters_more : (k many : ℕ) → letters k (many + 1) ≡ letters k many ++ (97 + (k + many) % 26) ∷ []
letters_more k many = map-range_with_len_more (λ m. 97 + (k + m) % 26) 0 many many (omega arith)

letters_length : (k many : ℕ) → length (letters k many) ≡ many
letters_length k many = length-map-range_with_len (λ m. 97 + (k + m) % 26) 0 many

letter_small : (k many i d : ℕ) → i < many → get_or (letters k many) i d < 256
letter_small k many i d lt =
    let is : get_or (letters k many) i d ≡ 97 + (k + i) % 26 = get_or-map-range_with_len (λ m. 97 + (k + m) % 26) 0 many i i d lt (omega arith) in
    omega (arith, is)

-- they are bytes, and few
pub letters_are_text : (k many : ℕ) → many ≤ 16 → IsText (letters k many)
letters_are_text k many few = record {
  short = omega (arith, letters_length k many);
  bytes = λ i d lt. letter_small k many i d (omega (arith, letters_length k many));
}

-- the state after one more request
pub maker_more : (start n : ℕ) → maker_at start (n + 1) ≡ maker_after (maker_at start n)
unfolding maker_at
maker_more start n = rw add-one refl

pub drawn_more : (start n : ℕ) → drawn_requests start (n + 1) ≡ drawn_requests start n ++ request_at (n + 1) (maker_at start n) ∷ []
unfolding drawn_requests
drawn_more start n =
    let here : maker_at start (n + 1 - 1) ≡ maker_at start n = ap (maker_at start) (omega arith) in
    map-range_with_len_more (λ k. request_at k (maker_at start (k - 1))) 1 n (n + 1) (omega arith) ∙ ap (λ (m : MakerState). drawn_requests start n ++ request_at (n + 1) m ∷ []) here

-- none so far
pub drawn_none : (start : ℕ) (requests : List PlainRequest) → requests ++ drawn_requests start 0 ≡ requests
unfolding drawn_requests
drawn_none start requests = append-nil requests

-- ---- a request adds 16 bytes at most

up_to_at : (most : ℕ) (lengths : List ℕ) (j : ℕ) → All (λ long. long ≤ most) lengths → get_or lengths j 0 ≤ most
up_to_at most lengths j each = grind (arith, each j 0, get_or_past lengths j 0)

length_grows : (kind : Kind) (draw : Draw) (long other most : ℕ) → long ≤ most → length_after kind draw long other ≤ most + 16
length_grows Insert draw long other most le = omega arith
length_grows Delete draw long other most le = omega arith
length_grows Copy draw long other most le = omega arith
length_grows Rearrange draw long other most le = omega arith
length_grows Version draw long other most le = omega arith
length_grows Link draw long other most le = omega arith
length_grows Find draw long other most le = omega arith

lengths_grow : (maker : MakerState) (most : ℕ) → All (λ long. long ≤ most) maker.lengths → All (λ long. long ≤ most + 16) (lengths_after maker)
unfolding lengths_after
lengths_grow maker most each =
    let draw = drawn_in maker in
    All-set (λ long. long ≤ most + 16) maker.lengths (document_of draw) _
    (length_grows (kind_at maker) draw (length_in maker (document_of draw)) (length_in maker (other_of draw)) most (up_to_at most maker.lengths (document_of draw) each))
    (λ k d lt. omega (arith, each k d lt))

pub lengths_few : (start n : ℕ) → All (λ long. long ≤ 16 * n) (maker_at start n).lengths
unfolding maker_at
lengths_few start zero = All-replicate (λ long. long ≤ 0) 8 0 (omega arith)
lengths_few start (suc n) = λ k d lt. omega (arith, lengths_grow (maker_at start n) (16 * n) (lengths_few start n) k d lt)

pub lengths_fit : (start n : ℕ) (maker : MakerState) → maker ≡ maker_at start n → n ≤ 2000 → All (λ long. long ≤ 65536) maker.lengths
lengths_fit start n maker e few = subst (λ (m : MakerState). All (λ long. long ≤ 65536) m.lengths) (sym e) (λ k d lt. omega (arith, lengths_few start n k d lt))

-- ---- one request more in the code's list

pub one_made : (made new : List Request) (request : Request) (front : List PlainRequest) (next : PlainRequest) → new ≡ made ++ request ∷ [] → plain_request request ≡ next → map plain_request made ≡ front → map plain_request new ≡ front ++ next ∷ []
one_made made new request front next e f g = cc (ap (map plain_request) e, map_push plain_request made request)

pub one_drawn : (made new : List Request) (request : Request) (front : List PlainRequest) (start n : ℕ) (maker : MakerState) → new ≡ made ++ request ∷ [] → maker ≡ maker_at start n → plain_request request ≡ request_at (n + 1) maker
    → map plain_request made ≡ front ++ drawn_requests start n → map plain_request new ≡ front ++ drawn_requests start (n + 1)
one_drawn made new request front start n maker e m f g =
    let last : PlainRequest = request_at (n + 1) (maker_at start n) in
    one_made made new request (front ++ drawn_requests start n) last e (f ∙ ap (request_at (n + 1)) m) g
    ∙ append_assoc front (drawn_requests start n) (last ∷ []) ∙ ap (λ (rest : List PlainRequest). front ++ rest) (sym (drawn_more start n))

pub one_valid : (made new : List Request) (request : Request) → new ≡ made ++ request ∷ [] → IsRequest (plain_request request) → All (λ r. IsRequest (plain_request r)) made → All (λ r. IsRequest (plain_request r)) new
one_valid made new request e valid each = subst (All (λ (r : Request). IsRequest (plain_request r))) (sym e) (All-push (λ (r : Request). IsRequest (plain_request r)) made request each valid)

-- ---- none of them is a quit

never_quits : (kind : Kind) (k : ℕ) (draw : Draw) (long : ℕ) → request_of kind k draw long ≢ quit
never_quits Insert k draw long e = absurd (let f = e in cc)
never_quits Delete k draw long e = absurd (let f = e in cc)
never_quits Copy k draw long e = absurd (let f = e in cc)
never_quits Rearrange k draw long e = absurd (let f = e in cc)
never_quits Version k draw long e = absurd (let f = e in cc)
never_quits Link k draw long e = absurd (let f = e in cc)
never_quits Find k draw long e = absurd (let f = e in cc)

none_of_map : (f : ℕ → PlainRequest) → ((k : ℕ) → f k ≢ quit) → (ks : List ℕ) → AllByRecursion (λ r. r ≢ quit) (map f ks)
none_of_map f never [] = tt
none_of_map f never (k ∷ ks) = (never k, none_of_map f never ks)

pub no_quit_drawn : (start n : ℕ) → AllByRecursion (λ r. r ≢ quit) (drawn_requests start n)
unfolding drawn_requests request_at
no_quit_drawn start n = none_of_map (λ k. request_at k (maker_at start (k - 1))) (λ k. never_quits _ k _ _) (range_with_len 1 n)
