-- The pieces between two positions, from the rows that overlap what is between.
use Rattle.std.proofs.Common.{◌≡◌, ◌≢◌, ℕ, zero, suc, ◌+◌, ◌-◌, ◌^◌, ◌<◌, ◌≤◌, ◌&&◌, Bool, true, false, List, [], ◌∷◌, ◌++◌, length, take, drop, map, min, get_or, eqb, refl, arith, ap, sym, subst, ◌∙◌, inl, inr, append-nil}
use Rattle.std.specs.Prelude.{◌⊎◌, if◌then◌else◌}
use Rattle.std.specs.List.{All, filter}
use Rattle.std.proofs.lemmas.Bool.{and_from, and_left, and_right, both_ways}
use Rattle.std.proofs.lemmas.Bool.Decides.{nat_tests}
use Rattle.std.proofs.lemmas.List.{take_more, take_all}
use Rattle.std.proofs.lemmas.List.Elements.{All-nil, All-cons, All-head, All-tail, All-append, All-get_or, filter-append}
use Rattle.std.proofs.lemmas.Grind.{flat_map-append}
use Rattle.tumbler.specs.Places.{place, comes_before, sum, width_at, Fits}
use Rattle.tumbler.specs.Address.{IsMadeIn}
use Rattle.tumbler.specs.Span.{SpanFits, end_of}
use Rattle.tumbler.specs.declared.span.Span.{Span}
use Rattle.tumbler.proofs.Widths.{length-width_at}
use Rattle.enfilade_core.specs.declared.tree.Row.{Row}
use Rattle.enfilade_core.specs.Rows.{Shape, rows_of}
use Rattle.enfilade_core.specs.Axes.{first_axis, later}
use Rattle.enfilade_core.specs.Plain.{plain_row}
use Rattle.enfilade_core.specs.Planes.{text_widths}
use Rattle.enfilade_search.specs.Meeting.{meets}
use Rattle.enfilade_search.proofs.Touching.{touches-some}
use Rattle.poom.specs.declared.piece.Piece.{Piece}
use Rattle.poom.specs.declared.part.Part.{Part}
use Rattle.poom.specs.declared.part.Part.TheVariants.{Text, Links}
use Rattle.poom.specs.Pieces.{IsPiece, addresses_from, piece_addresses, laid, total, piece_row, row_piece, rows_from, pieces_in}
use Rattle.poom.specs.Laid.{part_number, standing_in, IsOneDocument, IsRoot}
use Rattle.poom.specs.Cuts.{AreApart}
use Rattle.poom.specs.Positions.{StandsBetween, clip, laid_between}
use Rattle.poom.proofs.Places.{if_true, if_false, before_there, past_there}
use Rattle.poom.proofs.RowsFrom.{each_row, keeps_none}
use Rattle.poom.proofs.WellFormedRows.{sum-place}
use Rattle.poom.proofs.Back.{same_piece, length-addresses, text_pieces, link_pieces}
use Rattle.poom.proofs.Documents.{made_of}
use Rattle.poom.proofs.Looks.{fits_in}
use Rattle.poom.proofs.Cutting.{take-addresses, drop-addresses}
use Rattle.poom.proofs.Showing.{plain_rows}

-- ---- one row

pub record ClipTold (part from to : ℕ) (row : Row ℕ) : Type 0 where
  pub two : length row.first ≡ 2
  pub made : (document : List ℕ) × IsMadeIn row.second document
  pub order : from < to
  pub begins : place row.first 1 < to
  pub ends : from < place row.first 1 + (row_piece row).count
  pub is_piece : IsPiece (row_piece row)

told_piece : (part n from to : ℕ) (x : Piece) → (part ≡ 1) ⊎ (part ≡ 2) → IsPiece x → from < to → n < to → from < n + x.count → ClipTold part from to (piece_row part n x)
told_piece part n from to x one is h b e = record {
  order = h;
  two = refl;
  made = (x.document, record { part = part; number = x.first; parts = refl; byte_or_link = one; counted = is.from_one; document_address = is.document });
  begins = b;
  ends = e;
  is_piece = subst IsPiece (sym (same_piece part n x)) is;
}

pub clip_told : (part from to : ℕ) (row : Row ℕ) → StandsBetween part from to row → ClipTold part from to row
clip_told part from to row s = subst (ClipTold part from to) (sym s.is) (told_piece part s.n from to s.piece s.one_of_two s.is_piece s.order s.begins s.ends)

pub has_two : (part from to : ℕ) (row : Row ℕ) → StandsBetween part from to row → length row.first ≡ 2
has_two part from to row s = (clip_told part from to row s).two

pub was_made : (part from to : ℕ) (row : Row ℕ) → StandsBetween part from to row → (document : List ℕ) × IsMadeIn row.second document
was_made part from to row s = (clip_told part from to row s).made

pub begins_before : (part from to : ℕ) (row : Row ℕ) → StandsBetween part from to row → place row.first 1 ≤ to
begins_before part from to row s = let lt = (clip_told part from to row s).begins in omega arith

pub clip_room : (part from to before : ℕ) (row : Row ℕ) (piece : Piece) → StandsBetween part from to row → piece ≡ row_piece row → before ≡ from - place row.first 1 → piece.first + before < 2 ^ 32
clip_room part from to before row piece s e b =
    let told = clip_told part from to row s in
    let room = told.is_piece.fits in
    let ends = told.ends in
    subst (λ (p : Piece). p.first + before < 2 ^ 32) (sym e) (omega arith)

pub clip_order : (part from to before : ℕ) (row : Row ℕ) (piece : Piece) → StandsBetween part from to row → piece ≡ row_piece row → before ≡ from - place row.first 1 → before ≤ min piece.count (to - place row.first 1)
clip_order part from to before row piece s e b =
    let told = clip_told part from to row s in
    let h = told.order in
    let ends = told.ends in
    let begins = told.begins in
    subst (λ (p : Piece). before ≤ min p.count (to - place row.first 1)) (sym e) (omega arith)

pub clip_is : (part from to before m : ℕ) (places document : List ℕ) (row : Row ℕ) (piece : Piece) → places ≡ row.first → piece ≡ row_piece row → before ≡ from - place places 1 → document ≡ piece.document → m ≡ min piece.count (to - place places 1)
    → (let made : Piece = record { document = document; first = piece.first + before; count = m - before } in made) ≡ clip from to row
clip_is part from to before m places document row piece pe e b d c =
    let start : before ≡ from - place row.first 1 = b ∙ ap (λ (l : List ℕ). from - place l 1) pe in
    let end : m ≡ min (row_piece row).count (to - place row.first 1) = c ∙ (ap (λ (l : List ℕ). min piece.count (to - place l 1)) pe ∙ ap (λ (p : Piece). min p.count (to - place row.first 1)) e) in
    ap (λ (x : List ℕ). let made : Piece = record { document = x; first = piece.first + before; count = m - before } in made) (d ∙ ap (λ (p : Piece). p.document) e)
    ∙ (ap (λ (x : ℕ). let made : Piece = record { document = (row_piece row).document; first = x; count = m - before } in made) (ap (λ (p : Piece). p.first + before) e ∙ ap (λ (k : ℕ). (row_piece row).first + k) start)
    ∙ ap (λ (x : ℕ). let made : Piece = record { document = (row_piece row).document; first = (row_piece row).first + (from - place row.first 1); count = x } in made)
    (ap (λ (k : ℕ). k - before) end ∙ ap (λ (k : ℕ). min (row_piece row).count (to - place row.first 1) - k) start))

clip_piece : (part from to : ℕ) (row : Row ℕ) → StandsBetween part from to row → IsPiece (clip from to row)
clip_piece part from to row s =
    let told = clip_told part from to row s in
    let h = told.order in
    let is = told.is_piece in
    let room = is.fits in
    let one = is.from_one in
    let ends = told.ends in
    let begins = told.begins in
    record { document = is.document; is_tumbler = is.is_tumbler; from_one = omega arith; filled = omega arith; fits = omega arith }

pub clipped_piece : (part from to : ℕ) (row : Row ℕ) (result : Piece) → StandsBetween part from to row → result ≡ clip from to row → IsPiece result
clipped_piece part from to row result s e = subst IsPiece (sym e) (clip_piece part from to row s)

pub ruleset clipping = (has_two, was_made, begins_before, clip_room, clip_order)

-- ---- rows one after another

pub one_clip_more : (part from to i : ℕ) (rows : List (Row ℕ)) (row : Row ℕ) (now new : List Piece) (piece : Piece) → i < length rows → row ≡ get_or rows i row → laid part now ≡ laid_between part from to (take i rows)
    → laid part new ≡ laid part now ++ piece_addresses part piece → piece ≡ clip from to row → laid part new ≡ laid_between part from to (take (i + 1) rows)
one_clip_more part from to i rows row now new piece h is so step e =
    let f = (λ (r : Row ℕ). piece_addresses part (clip from to r)) in
    step
    ∙ (ap (λ (front : List (List ℕ)). front ++ piece_addresses part piece) so
    ∙ (ap (λ (p : Piece). laid_between part from to (take i rows) ++ piece_addresses part p) (e ∙ ap (clip from to) is)
    ∙ sym (ap (laid_between part from to) (take_more rows i row h) ∙ (flat_map-append f (take i rows) (get_or rows i row ∷ []) ∙ ap (λ (rest : List (List ℕ)). laid_between part from to (take i rows) ++ rest) (append-nil (f (get_or rows i row)))))))

pub all_clips : (part from to i : ℕ) (rows : List (Row ℕ)) (now : List Piece) → length rows ≤ i → laid part now ≡ laid_between part from to (take i rows) → laid part now ≡ laid_between part from to rows
all_clips part from to i rows now h so = so ∙ ap (laid_between part from to) (take_all i rows h)

pub no_clips : (part from to : ℕ) (rows : List (Row ℕ)) (none : List Piece) → none ≡ [] → rows ≡ [] → laid part none ≡ laid_between part from to rows
no_clips part from to rows none e n = ap (laid part) e ∙ sym (ap (laid_between part from to) n)

pub own_between : (part from to k : ℕ) (rows : List (Row ℕ)) (row : Row ℕ) → row ≡ get_or rows k row → k < length rows → All (StandsBetween part from to) rows → StandsBetween part from to row
own_between part from to k rows row is h each = subst (StandsBetween part from to) (sym is) (All-get_or (StandsBetween part from to) rows k row h each)

pub no_pieces : (none : List Piece) → none ≡ [] → All IsPiece none
no_pieces none e = subst (All IsPiece) (sym e) (All-nil IsPiece)

pub none_apart : (none : List Piece) → none ≡ [] → AreApart none
none_apart none e = subst AreApart (sym e) tt

pub ruleset clips = (one_clip_more, all_clips, no_clips, own_between, no_pieces, none_apart)

-- ---- which rows overlap

abbrev between_span : ℕ → ℕ → ℕ → Span
between_span part from to = record { start = part ∷ from ∷ []; width = width_at 2 (to - from) }

abbrev overlaps : ℕ → ℕ → ℕ → Row ℕ → Bool
overlaps part from to row = meets (first_axis text_widths) (between_span part from to) row

ends_at : (part from to : ℕ) → from < to → end_of (between_span part from to) ≡ part ∷ to ∷ []
ends_at part from to h = let there : from + (to - from) ≡ to = omega arith in sum-place part from (to - from) (omega arith) ∙ ap (λ (n : ℕ). part ∷ n ∷ []) there

-- the test on a row of a piece, taken apart
overlap_is : (part from to other n : ℕ) (x : Piece) → from < to → 1 ≤ x.count
    → overlaps part from to (piece_row other n x) ≡ (comes_before (later (part ∷ from ∷ []) (other ∷ n ∷ [])) (part ∷ to ∷ []) && comes_before (later (part ∷ from ∷ []) (other ∷ n ∷ [])) (other ∷ (n + x.count) ∷ []))
overlap_is part from to other n x h filled =
    let start = later (part ∷ from ∷ []) (other ∷ n ∷ []) in
    let wide : eqb (length (width_at 2 x.count)) 0 ≡ false = ap (λ (k : ℕ). eqb k 0) (length-width_at 2 x.count filled) in
    touches-some (part ∷ from ∷ []) (end_of (between_span part from to)) (other ∷ n ∷ []) (width_at 2 x.count) wide
    ∙ (ap (λ (end : List ℕ). comes_before start end && comes_before start (sum (other ∷ n ∷ []) (width_at 2 x.count))) (ends_at part from to h)
    ∙ ap (λ (end : List ℕ). comes_before start (part ∷ to ∷ []) && comes_before start end) (sum-place other n x.count filled))

-- a piece of the same part overlaps what is between where it begins before the end and ends past the start
record Overlap (part from to n : ℕ) (x : Piece) : Type 0 where
  yes_if : n < to → from < n + x.count → overlaps part from to (piece_row part n x) ≡ true
  not_late : to ≤ n → overlaps part from to (piece_row part n x) ≡ false
  not_early : n + x.count ≤ from → overlaps part from to (piece_row part n x) ≡ false

overlap : (part from to n : ℕ) (x : Piece) → from < to → 1 ≤ x.count → Overlap part from to n x
overlap part from to n x h filled =
    let is = overlap_is part from to part n x h filled in
    let a = part ∷ from ∷ [] in
    let b = part ∷ n ∷ [] in
    let split : (from < n) ⊎ (n ≤ from) = grind arith in
    elim split [
      | inl less ↦
          let start : later a b ≡ b = if_true (comes_before a b) b a (before_there part from n less) in
          let tests = is ∙ ap (λ (s : List ℕ). comes_before s (part ∷ to ∷ []) && comes_before s (part ∷ (n + x.count) ∷ [])) start in
          record {
            yes_if = λ l g. tests ∙ and_from (comes_before b (part ∷ to ∷ [])) (comes_before b (part ∷ (n + x.count) ∷ [])) (before_there part n to l) (before_there part n (n + x.count) (omega arith));
            not_late = λ l. tests ∙ and_left (comes_before b (part ∷ to ∷ [])) (comes_before b (part ∷ (n + x.count) ∷ [])) (past_there part n to l);
            not_early = λ l. absurd (omega arith);
          }
      | inr le ↦
          let start : later a b ≡ a = if_false (comes_before a b) b a (past_there part from n le) in
          let tests = is ∙ ap (λ (s : List ℕ). comes_before s (part ∷ to ∷ []) && comes_before s (part ∷ (n + x.count) ∷ [])) start in
          record {
            yes_if = λ l g. tests ∙ and_from (comes_before a (part ∷ to ∷ [])) (comes_before a (part ∷ (n + x.count) ∷ [])) (before_there part from to h) (before_there part from (n + x.count) g);
            not_late = λ l. absurd (omega arith);
            not_early = λ l. tests ∙ and_right (comes_before a (part ∷ to ∷ [])) (comes_before a (part ∷ (n + x.count) ∷ [])) (past_there part from (n + x.count) l);
          }
    ]

-- rows of the other part never do
link_never : (from to n : ℕ) (x : Piece) → from < to → 1 ≤ x.count → overlaps 1 from to (piece_row 2 n x) ≡ false
link_never from to n x h filled = overlap_is 1 from to 2 n x h filled

text_never : (from to n : ℕ) (x : Piece) → from < to → 1 ≤ x.count → overlaps 2 from to (piece_row 1 n x) ≡ false
text_never from to n x h filled = overlap_is 2 from to 1 n x h filled ∙ and_right (comes_before (2 ∷ from ∷ []) (2 ∷ to ∷ [])) (comes_before (2 ∷ from ∷ []) (1 ∷ (n + x.count) ∷ [])) refl

-- ---- addresses between

take-over : {X : Type 0} (j : ℕ) (a b : List X) → take j (a ++ b) ≡ take j a ++ take (j - length a) b
take-over zero a b = let none : 0 - length a ≡ 0 = omega arith in sym (ap (λ (k : ℕ). take k b) none)
take-over (suc j) [] b = let same : suc j ≡ suc j - 0 = omega arith in ap (λ (k : ℕ). take k b) same
take-over {X} (suc j) (x ∷ a) b = let same : suc j - length (x ∷ a) ≡ j - length a = omega arith in ap (λ (rest : List X). x ∷ rest) (take-over j a b) ∙ sym (ap (λ (k : ℕ). (x ∷ take j a) ++ take k b) same)

drop-over : {X : Type 0} (j : ℕ) (a b : List X) → drop j (a ++ b) ≡ drop j a ++ drop (j - length a) b
drop-over zero a b = let none : 0 - length a ≡ 0 = omega arith in sym (ap (λ (k : ℕ). a ++ drop k b) none)
drop-over (suc j) [] b = let same : suc j ≡ suc j - 0 = omega arith in ap (λ (k : ℕ). drop k b) same
drop-over (suc j) (x ∷ a) b = let same : suc j - length (x ∷ a) ≡ j - length a = omega arith in drop-over j a b ∙ sym (ap (λ (k : ℕ). drop j a ++ drop k b) same)

drop-past-all : {X : Type 0} (j : ℕ) (a : List X) → length a ≤ j → drop j a ≡ []
drop-past-all zero [] h = refl
drop-past-all zero (x ∷ a) h = absurd (omega arith)
drop-past-all (suc j) [] h = refl
drop-past-all (suc j) (x ∷ a) h = drop-past-all j a (omega arith)

take-nothing : {X : Type 0} (n : ℕ) → take {A = X} n [] ≡ []
take-nothing zero = refl
take-nothing (suc n) = refl

-- addresses that begin at position n: those from position `from` on and before position `to`
abbrev pub middle : ℕ → ℕ → ℕ → List (List ℕ) → List (List ℕ)
middle from to n xs = take (to - (n + (from - n))) (drop (from - n) xs)

length-dropped : {X : Type 0} (i : ℕ) (a : List X) → length (drop i a) ≡ length a - i
length-dropped zero a = omega arith
length-dropped (suc i) [] = omega arith
length-dropped (suc i) (x ∷ a) = let rest = length-dropped i a in omega arith

pub middle-over : (from to n m : ℕ) (a b : List (List ℕ)) → m ≡ n + length a → middle from to n (a ++ b) ≡ middle from to n a ++ middle from to m b
middle-over from to n m a b e =
    let j = to - (n + (from - n)) in
    let i = from - n in
    let D = drop i a in
    let long : length D ≡ length a - i = length-dropped i a in
    let next : i - length a ≡ from - m = omega arith in
    let rest : j - length D ≡ to - (m + (from - m)) = omega arith in
    ap (take j) (drop-over i a b)
    ∙ (take-over j D (drop (i - length a) b)
    ∙ (ap (λ (k : ℕ). take j D ++ take k (drop (i - length a) b)) rest ∙ ap (λ (k : ℕ). take j D ++ take (to - (m + (from - m))) (drop k b)) next))

-- of one piece
pub middle-own : (part from to n : ℕ) (x : Piece) → from < to → n < to → from < n + x.count → middle from to n (piece_addresses part x) ≡ piece_addresses part (clip from to (piece_row part n x))
middle-own part from to n x h b e =
    let j = to - (n + (from - n)) in
    let i = from - n in
    let left = x.count - i in
    let dropped : drop i (piece_addresses part x) ≡ addresses_from part x.document (x.first + i) left = drop-addresses part x.document x.first i x.count (x.first + i) left (omega arith) refl refl in
    let clipped : piece_addresses part (clip from to (piece_row part n x)) ≡ addresses_from part x.document (x.first + i) (min x.count (to - n) - i) =
    ap (λ (p : Piece). addresses_from part p.document (p.first + i) (min p.count (to - n) - i)) (same_piece part n x) in
    let split : (j ≤ left) ⊎ (left < j) = grind arith in
    ap (take j) dropped ∙ (elim split [
      | inl few ↦ let count : j ≡ min x.count (to - n) - i = omega arith in take-addresses part x.document (x.first + i) j left few ∙ ap (addresses_from part x.document (x.first + i)) count
      | inr many ↦
          let count : left ≡ min x.count (to - n) - i = omega arith in
          let long = length-addresses part x.document (x.first + i) left in
          take_all j (addresses_from part x.document (x.first + i) left) (omega arith) ∙ ap (addresses_from part x.document (x.first + i)) count
    ] ∙ sym clipped)

pub middle-late : (from to n : ℕ) (xs : List (List ℕ)) → to ≤ n → middle from to n xs ≡ []
middle-late from to n xs h = let none : to - (n + (from - n)) ≡ 0 = omega arith in ap (λ (k : ℕ). take k (drop (from - n) xs)) none

pub middle-early : (from to n : ℕ) (xs : List (List ℕ)) → n + length xs ≤ from → middle from to n xs ≡ []
middle-early from to n xs h = ap (take (to - (n + (from - n)))) (drop-past-all (from - n) xs (omega arith)) ∙ take-nothing (to - (n + (from - n)))

pub no-middle : (from to n : ℕ) → middle from to n [] ≡ []
no-middle from to n = ap (take (to - (n + (from - n)))) (drop-past-all (from - n) [] (omega arith)) ∙ take-nothing (to - (n + (from - n)))

-- of all pieces of a part
kept_one : (part from to n : ℕ) (x : Piece) (rows : List (Row ℕ)) (b : Bool) → overlaps part from to (piece_row part n x) ≡ b
    → laid_between part from to (filter (overlaps part from to) (piece_row part n x ∷ rows)) ≡ laid_between part from to (if b then piece_row part n x ∷ filter (overlaps part from to) rows else filter (overlaps part from to) rows)
kept_one part from to n x rows b e = ap (λ (t : Bool). laid_between part from to (if t then piece_row part n x ∷ filter (overlaps part from to) rows else filter (overlaps part from to) rows)) e

own_between_rows : (part from to n : ℕ) (xs : List Piece) → from < to → All IsPiece xs → laid_between part from to (filter (overlaps part from to) (rows_from part n xs)) ≡ middle from to n (laid part xs)
own_between_rows part from to n [] h each = sym (no-middle from to n)
own_between_rows part from to n (x ∷ xs) h each =
    let is = All-head IsPiece x xs each in
    let filled = is.filled in
    let told = overlap part from to n x h filled in
    let long = length-addresses part x.document x.first x.count in
    let rows = rows_from part (n + x.count) xs in
    let rest = own_between_rows part from to (n + x.count) xs h (All-tail IsPiece x xs each) in
    let whole : middle from to n (laid part (x ∷ xs)) ≡ middle from to n (piece_addresses part x) ++ middle from to (n + x.count) (laid part xs) = middle-over from to n (n + x.count) (piece_addresses part x) (laid part xs) (omega arith) in
    let split : (to ≤ n) ⊎ ((n + x.count ≤ from) ⊎ ((n < to) × (from < n + x.count))) = grind arith in
    elim split [
      | inl late ↦
          kept_one part from to n x rows false (told.not_late late) ∙ (rest ∙ sym (whole ∙ ap (λ (front : List (List ℕ)). front ++ middle from to (n + x.count) (laid part xs)) (middle-late from to n (piece_addresses part x) late)))
      | inr sooner ↦ elim sooner [
        | inl early ↦
            kept_one part from to n x rows false (told.not_early early)
            ∙ (rest ∙ sym (whole ∙ ap (λ (front : List (List ℕ)). front ++ middle from to (n + x.count) (laid part xs)) (middle-early from to n (piece_addresses part x) (omega arith))))
        | inr there ↦
            kept_one part from to n x rows true (told.yes_if there.0 there.1)
            ∙ (ap (λ (more : List (List ℕ)). piece_addresses part (clip from to (piece_row part n x)) ++ more) rest
            ∙ sym (whole ∙ ap (λ (front : List (List ℕ)). front ++ middle from to (n + x.count) (laid part xs)) (middle-own part from to n x h there.0 there.1)))
      ]
    ]

-- ---- all rows of a document

never_any : (part from to : ℕ) (rows : List (Row ℕ)) → All (λ row. overlaps part from to row ≡ false) rows → filter (overlaps part from to) rows ≡ []
never_any part from to rows none = keeps_none (overlaps part from to) rows none

links_never : (from to n : ℕ) (zs : List Piece) → from < to → All IsPiece zs → All (λ row. overlaps 1 from to row ≡ false) (rows_from 2 n zs)
links_never from to n zs h each = each_row 2 (λ row. overlaps 1 from to row ≡ false) n (n + total zs) n zs (omega arith) (omega arith) each (λ m x lo hi is. link_never from to m x h is.filled)

texts_never : (from to n : ℕ) (xs : List Piece) → from < to → All IsPiece xs → All (λ row. overlaps 2 from to row ≡ false) (rows_from 1 n xs)
texts_never from to n xs h each = each_row 1 (λ row. overlaps 2 from to row ≡ false) n (n + total xs) n xs (omega arith) (omega arith) each (λ m x lo hi is. text_never from to m x h is.filled)

found_between : (part : Part) (from to : ℕ) (xs zs : List Piece) → from < to → All IsPiece xs → All IsPiece zs
    → laid_between (part_number part) from to (filter (overlaps (part_number part) from to) (rows_from 1 1 xs ++ rows_from 2 1 zs)) ≡ middle from to 1 (laid (part_number part) (pieces_in (part_number part) (rows_from 1 1 xs ++ rows_from 2 1 zs)))
found_between Text from to xs zs h each also =
    ap (laid_between 1 from to) (filter-append (overlaps 1 from to) (rows_from 1 1 xs) (rows_from 2 1 zs)
    ∙ (ap (λ (rows : List (Row ℕ)). filter (overlaps 1 from to) (rows_from 1 1 xs) ++ rows) (never_any 1 from to (rows_from 2 1 zs) (links_never from to 1 zs h also)) ∙ append-nil (filter (overlaps 1 from to) (rows_from 1 1 xs))))
    ∙ (own_between_rows 1 from to 1 xs h each ∙ ap (λ (ps : List Piece). middle from to 1 (laid 1 ps)) (sym (text_pieces xs zs)))
found_between Links from to xs zs h each also =
    ap (laid_between 2 from to) (filter-append (overlaps 2 from to) (rows_from 1 1 xs) (rows_from 2 1 zs)
    ∙ ap (λ (rows : List (Row ℕ)). rows ++ filter (overlaps 2 from to) (rows_from 2 1 zs)) (never_any 2 from to (rows_from 1 1 xs) (texts_never from to 1 xs h each)))
    ∙ (own_between_rows 2 from to 1 zs h also ∙ ap (λ (ps : List Piece). middle from to 1 (laid 2 ps)) (sym (link_pieces xs zs)))

-- ---- what each row that overlaps says

kept_either : (test : Row ℕ → Bool) (P : Row ℕ → Type 0) (row : Row ℕ) (rows : List (Row ℕ)) (b : Bool) → test row ≡ b → (test row ≡ true → P row) → All P (filter test rows) → All P (filter test (row ∷ rows))
kept_either test P row rows true e says rest = subst (All P) (sym (if_true (test row) (row ∷ filter test rows) (filter test rows) e)) (All-cons P row (filter test rows) (says e) rest)
kept_either test P row rows false e says rest = subst (All P) (sym (if_false (test row) (row ∷ filter test rows) (filter test rows) e)) rest

kept_each : (test : Row ℕ → Bool) (P : Row ℕ → Type 0) (rows : List (Row ℕ)) → All (λ row. test row ≡ true → P row) rows → All P (filter test rows)
kept_each test P [] says = All-nil P
kept_each test P (row ∷ rows) says = kept_either test P row rows (test row) refl (All-head (λ r. test r ≡ true → P r) row rows says) (kept_each test P rows (All-tail (λ r. test r ≡ true → P r) row rows says))

says_own : (part from to n : ℕ) (x : Piece) → (part ≡ 1) ⊎ (part ≡ 2) → from < to → IsPiece x → n + x.count < 2 ^ 32 → overlaps part from to (piece_row part n x) ≡ true → StandsBetween part from to (piece_row part n x)
says_own part from to n x one h is room passes =
    let filled = is.filled in
    let told = overlap part from to n x h filled in
    let split : (to ≤ n) ⊎ ((n + x.count ≤ from) ⊎ ((n < to) × (from < n + x.count))) = grind arith in
    elim split [
      | inl late ↦ absurd (both_ways (overlaps part from to (piece_row part n x)) (told.not_late late) passes)
      | inr sooner ↦ elim sooner [
        | inl early ↦ absurd (both_ways (overlaps part from to (piece_row part n x)) (told.not_early early) passes)
        | inr there ↦ record { n = n; piece = x; is = refl; one_of_two = one; is_piece = is; fits = room; order = h; begins = there.0; ends = there.1 }
      ]
    ]

each_says : (part : Part) (from to : ℕ) (rows : List (Row ℕ)) → from < to → IsOneDocument rows → All (λ row. overlaps (part_number part) from to row ≡ true → StandsBetween (part_number part) from to row) rows
each_says Text from to rows h one =
    let made = made_of rows one in
    let P = (λ (row : Row ℕ). overlaps 1 from to row ≡ true → StandsBetween 1 from to row) in
    let xs = pieces_in 1 rows in
    let zs = pieces_in 2 rows in
    let few = made.few in
    subst (All P) (sym made.are) (All-append P (rows_from 1 1 xs) (rows_from 2 1 zs)
    (each_row 1 P 1 (1 + total xs) 1 xs (omega arith) (omega arith) made.each (λ m x lo hi is passes. says_own 1 from to m x (inl refl) h is (omega arith) passes))
    (each_row 2 P 1 (1 + total zs) 1 zs (omega arith) (omega arith) made.also (λ m x lo hi is passes. absurd (both_ways (overlaps 1 from to (piece_row 2 m x)) (link_never from to m x h is.filled) passes))))
each_says Links from to rows h one =
    let made = made_of rows one in
    let P = (λ (row : Row ℕ). overlaps 2 from to row ≡ true → StandsBetween 2 from to row) in
    let xs = pieces_in 1 rows in
    let zs = pieces_in 2 rows in
    let fewer = made.fewer in
    subst (All P) (sym made.are) (All-append P (rows_from 1 1 xs) (rows_from 2 1 zs)
    (each_row 1 P 1 (1 + total xs) 1 xs (omega arith) (omega arith) made.each (λ m x lo hi is passes. absurd (both_ways (overlaps 2 from to (piece_row 1 m x)) (text_never from to m x h is.filled) passes)))
    (each_row 2 P 1 (1 + total zs) 1 zs (omega arith) (omega arith) made.also (λ m x lo hi is passes. says_own 2 from to m x (inr refl) h is (omega arith) passes)))

-- ---- what the code found

span_is : (part from to : ℕ) (span : Span) → span.start ≡ part ∷ from ∷ [] → span.width ≡ width_at 2 (to - from) → span ≡ between_span part from to
span_is part from to span s w = ap (λ (start : List ℕ). let made : Span = record { start = start; width = span.width } in made) s ∙ ap (λ (width : List ℕ). let made : Span = record { start = part ∷ from ∷ []; width = width } in made) w

fits_two : (part n d : ℕ) → 0 < d → n + d < 2 ^ 32 → Fits (part ∷ n ∷ []) (width_at 2 d)
fits_two part n zero h room = absurd (omega arith)
fits_two part n (suc d) h room = grind (arith, nat_tests)

pub record IsFound (part : Part) (nodes : List (Shape ℕ)) (k from to : ℕ) (rows : List (Row ℕ)) : Type 0 where
  pub each : All (StandsBetween (part_number part) from to) rows
  pub laid : laid_between (part_number part) from to rows ≡ take (to - from) (drop (from - 1) (standing_in part (rows_of nodes k)))

found_rows : (part : Part) (nodes : List (Shape ℕ)) (k from to : ℕ) (rows : List (Row ℕ)) → IsRoot nodes k → 1 ≤ from → from < to → rows ≡ filter (overlaps (part_number part) from to) (rows_of nodes k) → IsFound part nodes k from to rows
found_rows part nodes k from to rows root one h e =
    let p = part_number part in
    let all = rows_of nodes k in
    let made = made_of all root.document in
    let count : to - (1 + (from - 1)) ≡ to - from = omega arith in
    record {
      each = subst (All (StandsBetween p from to)) (sym e) (kept_each (overlaps p from to) (StandsBetween p from to) all (each_says part from to all h root.document));
      laid = ap (laid_between p from to) e
          ∙ (ap (λ (rs : List (Row ℕ)). laid_between p from to (filter (overlaps p from to) rs)) made.are
          ∙ (found_between part from to (pieces_in 1 all) (pieces_in 2 all) h made.each made.also
          ∙ (ap (λ (rs : List (Row ℕ)). middle from to 1 (laid p (pieces_in p rs))) (sym made.are) ∙ ap (λ (c : ℕ). take c (drop (from - 1) (standing_in part all))) count)));
    }

pub found_in : (part : Part) (nodes arena : List (Shape ℕ)) (k from to : ℕ) (span : Span) (found slice : List (Row ℕ)) → IsRoot nodes k → 1 ≤ from → from ≤ to → to ≢ from → span.start ≡ part_number part ∷ from ∷ [] → span.width ≡ width_at 2 (to - from) → arena ≡ nodes
    → map (plain_row (λ (n : ℕ). n)) found ≡ filter (meets (first_axis text_widths) span) (rows_of arena k) → slice ≡ found → IsFound part nodes k from to slice
found_in part nodes arena k from to span found slice root one h other s w same e is =
    let less : from < to = omega arith in
    let which : span ≡ between_span (part_number part) from to = span_is (part_number part) from to span s w in
    found_rows part nodes k from to slice root one less
    (is ∙ (sym (plain_rows found) ∙ (e ∙ (ap (λ (ns : List (Shape ℕ)). filter (meets (first_axis text_widths) span) (rows_of ns k)) same ∙ ap (λ (sp : Span). filter (meets (first_axis text_widths) sp) (rows_of nodes k)) which))))

pub span_fits : (part : Part) (nodes : List (Shape ℕ)) (k from to : ℕ) (span : Span) → IsRoot nodes k → from ≤ to → to ≢ from → to ≤ 1 + length (standing_in part (rows_of nodes k)) → span.start ≡ part_number part ∷ from ∷ [] → span.width ≡ width_at 2 (to - from) → SpanFits span
span_fits part nodes k from to span root h other l s w =
    let few = fits_in part (rows_of nodes k) root.document in
    subst SpanFits (sym (span_is (part_number part) from to span s w)) (fits_two (part_number part) from (to - from) (omega arith) (omega arith))

pub found_laid : (part : Part) (nodes : List (Shape ℕ)) (k from to : ℕ) (rows : List (Row ℕ)) (made : List Piece) → IsFound part nodes k from to rows → laid (part_number part) made ≡ laid_between (part_number part) from to rows
    → laid (part_number part) made ≡ take (to - from) (drop (from - 1) (standing_in part (rows_of nodes k)))
found_laid part nodes k from to rows made found e = e ∙ found.laid

pub nothing_between : (part from to : ℕ) (none : List Piece) (xs : List (List ℕ)) → none ≡ [] → to ≡ from → laid part none ≡ take (to - from) xs
nothing_between part from to none xs e h = let same : to - from ≡ 0 = omega arith in ap (laid part) e ∙ ap (λ (k : ℕ). take k xs) (sym same)

pub ruleset betweens = (span_fits, nothing_between, no_pieces, none_apart)
