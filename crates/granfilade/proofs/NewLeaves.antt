-- New rows, one after another.
use Rattle.std.proofs.Common.{◌≡◌, ◌≢◌, ℕ, zero, suc, eqb, Bool, false, ◌+◌, ◌-◌, ◌<◌, ◌≤◌, List, [], ◌∷◌, ◌++◌, length, take, drop, min, map, cond, refl, arith, ap, ◌∙◌, sym, subst, append-nil}
use Rattle.std.specs.List.{All}
use Rattle.std.proofs.lemmas.Bool.{lt-ltb, false≢true}
use Rattle.std.proofs.lemmas.List.{length-append, length-take, length-drop, map-append, take_all}
use Rattle.std.proofs.lemmas.List.Elements.{All-nil, All-cons, All-weaker, All-push}
use Rattle.std.proofs.lemmas.Grind.{flat_map-append}
use Rattle.tumbler.specs.ListView.{ListView}
use Rattle.tumbler.specs.Places.{place_bound, IsTumbler, IsUpTo, sum, width_at}
use Rattle.tumbler.proofs.Order.{upto_upto, upto_itself}
use Rattle.tumbler.proofs.Sums.{sum-upto}
use Rattle.tumbler.proofs.Widths.{EndsWell-width_at, width_at-is_tumbler, width_at-not_zero, length-width_at}
use Rattle.enfilade_core.specs.Axes.{IsWellFormedRow}
use Rattle.enfilade_core.specs.Plain.{plain_row}
use Rattle.enfilade_core.specs.Planes.{as_place, content_widths, plain_text}
use Rattle.granfilade.specs.Content.{ByteAt, so_far_on, laid_from, laid, laid_row, laid_out}
use Rattle.granfilade.specs.Steps.{last_of}
use Rattle.granfilade.specs.Puts.{IsByteOf, IsByteAddress, IsLeaf, end_of_row}
use Rattle.granfilade.specs.Leaves.{AreLeaves}
use Rattle.granfilade.proofs.Stepping.{step_is_tumbler, steps-up_to}
use Rattle.granfilade.proofs.Documents.{address-last, last_of-last, step-none, step-in, step-byte, step-twice, last-number, not_nil, part_of}
use Rattle.granfilade.proofs.Picking.{take-none}
use Rattle.granfilade.proofs.Putting.{RowOf, linked-join}

-- ---- a well formed row

none_is_tumbler : IsTumbler []
none_is_tumbler = record { few = omega arith; small = All-nil (λ p. p < place_bound); ends = λ _. refl }

filled : (xs : List ℕ) → xs ≢ [] → 0 < length xs
filled [] some = absurd (some refl)
filled (x ∷ xs) some = omega arith

well_formed_zero : (first second : List ℕ) (leaf : ListView ℕ) → second ≡ [] → IsTumbler first → first ≢ [] → 0 < length leaf.items → last_of first + length leaf.items < place_bound
    → IsWellFormedRow content_widths (record { first = first; second = second; leaf = leaf })
well_formed_zero first second leaf none t some has room =
    let n = length leaf.items in
    let wide : as_place n ≡ n = ap (λ b. cond b n 0) (lt-ltb n place_bound (omega (arith, room))) in
    let back : width_at (length first) n ≡ width_at (length first) (as_place n) = ap (width_at (length first)) (sym wide) in
    let second_is : IsTumbler second = subst IsTumbler (sym none) none_is_tumbler in
    record {
      first_coordinate = t;
      second_coordinate = second_is;
      first_width = subst IsTumbler back (width_at-is_tumbler (length first) n t.few (omega (arith, room)));
      second_width = none_is_tumbler;
      first_end = subst (λ w. IsTumbler (sum first w)) back (step_is_tumbler first n t room);
      second_end = second_is;
      proper = (
        λ _. subst (λ w. (w ≢ []) × (length w ≡ length first)) back (width_at-not_zero (length first) n (filled first some) has, length-width_at (length first) n has),
        λ e. absurd (false≢true e),
      );
    }

-- ---- bytes laid out in two parts

laid_from-append : (start : List ℕ) (k : ℕ) (xs ys : List ℕ) → laid_from start k (xs ++ ys) ≡ laid_from start k xs ++ laid_from start (k + length xs) ys
laid_from-append start k [] ys = let e : k ≡ k + 0 = omega arith in ap (λ n. laid_from start n ys) e
laid_from-append start k (x ∷ xs) ys =
    let at : ByteAt = record { address = so_far_on start k; byte = x } in
    let e : k + 1 + length xs ≡ k + suc (length xs) = omega arith in
    ap (λ (bs : List ByteAt). at ∷ bs) (laid_from-append start (k + 1) xs ys ∙ ap (λ n. laid_from start (k + 1) xs ++ laid_from start n ys) e)

laid_from-step : (start document : List ℕ) (b : IsByteOf start document) (d k : ℕ) (ys : List ℕ) → laid_from (so_far_on start d) k ys ≡ laid_from start (d + k) ys
laid_from-step start document b d k [] = refl
laid_from-step start document b d k (y ∷ ys) =
    let e : d + (k + 1) ≡ d + k + 1 = omega arith in
    let at : List ℕ → ByteAt = λ a. record { address = a; byte = y } in
    ap (λ a. at a ∷ laid_from (so_far_on start d) (k + 1) ys) (step-twice start document b d k)
    ∙ ap (λ (bs : List ByteAt). at (so_far_on start (d + k)) ∷ bs) (laid_from-step start document b d (k + 1) ys ∙ ap (λ n. laid_from start n ys) e)

pub laid-append : (start document : List ℕ) (b : IsByteOf start document) (xs ys : List ℕ) → laid start (xs ++ ys) ≡ laid start xs ++ laid (so_far_on start (length xs)) ys
laid-append start document b xs ys =
    let d = length xs in
    let front : 0 + d ≡ d + 0 = omega arith in
    laid_from-append start 0 xs ys ∙ ap (λ n. laid start xs ++ laid_from start n ys) front ∙ ap (λ (bs : List ByteAt). laid start xs ++ bs) (sym (laid_from-step start document b d 0 ys))

-- ---- one row more

pub leaves-none : (start : List ℕ) → AreLeaves start [] []
leaves-none start = record {
  are_laid = refl;
  well_formed = All-nil (IsWellFormedRow content_widths);
  leaves = All-nil IsLeaf;
  past = All-nil (λ row. IsUpTo start row.first);
  ended = All-nil (λ row. IsUpTo (end_of_row row) (so_far_on start 0));
  apart = tt;
}

byte_filled : (x document : List ℕ) → IsByteOf x document → x ≢ []
byte_filled x document b = subst (λ a. a ≢ []) (sym (address-last x document b)) (not_nil (part_of document) b.number)

next-last : (start document : List ℕ) (b : IsByteOf start document) (d : ℕ) (x : List ℕ) → x ≡ so_far_on start d → last_of x ≡ last_of start + d
next-last start document b d x at =
    ap last_of (at ∙ step-in start document b d) ∙ last_of-last (part_of document) (b.number + d) ∙ ap (λ n. n + d) (sym (last-number start document b))

leaves-next : (start document : List ℕ) (b : IsByteOf start document) (front : List ℕ) (rows : List RowOf) (row : RowOf) → IsTumbler start → AreLeaves start front rows → row.first ≡ so_far_on start (length front) → row.second ≡ []
    → 0 < length row.leaf.items → length row.leaf.items ≤ 1024 → last_of start + (length front + length row.leaf.items) < place_bound → AreLeaves start (front ++ row.leaf.items) (rows ++ row ∷ [])
leaves-next start document b front rows row t h at none has short room =
    let d = length front in
    let bytes = row.leaf.items in
    let n = length bytes in
    let whole : length (front ++ bytes) ≡ d + n = length-append front bytes in
    let here : IsByteOf row.first document = subst (λ a. IsByteOf a document) (sym at) (step-byte start document b d) in
    let reach : end_of_row row ≡ so_far_on start (d + n) = ap (λ a. so_far_on a n) at ∙ step-twice start document b d n in
    let last : last_of row.first ≡ last_of start + d = next-last start document b d row.first at in
    let further : IsUpTo (so_far_on start d) (so_far_on start (d + n)) = steps-up_to start d (d + n) (byte_filled start document b) (omega arith) in
    let End : ℕ → RowOf → Type 0 = λ m r. IsUpTo (end_of_row r) (so_far_on start m) in
    let ended : All (End (d + n)) (rows ++ row ∷ []) =
    All-push (End (d + n)) rows row (All-weaker (End d) (End (d + n)) (λ r le. upto_upto (end_of_row r) (so_far_on start d) (so_far_on start (d + n)) le further) rows h.ended)
    (subst (λ a. IsUpTo a (so_far_on start (d + n))) (sym reach) (upto_itself (so_far_on start (d + n)))) in
    record {
      are_laid = flat_map-append laid_row rows (row ∷ [])
          ∙ ap (λ (bs : List ByteAt). laid_out rows ++ bs) (append-nil (laid_row row))
          ∙ ap (λ (bs : List ByteAt). bs ++ laid_row row) h.are_laid
          ∙ ap (λ a. laid start front ++ laid a bytes) at
          ∙ sym (laid-append start document b front bytes);
      well_formed = All-push (IsWellFormedRow content_widths) rows row h.well_formed
          (well_formed_zero row.first row.second row.leaf none (subst IsTumbler (sym at) (step_is_tumbler start d t (omega (arith, room)))) (byte_filled row.first document here) has (omega (arith, last, room)));
      leaves = All-push IsLeaf rows row h.leaves (record { document = document; address = here; second = none; filled = has; short = short });
      past = All-push (λ r. IsUpTo start r.first) rows row h.past (subst (IsUpTo start) (sym at) (sum-upto start (width_at (length start) d) (EndsWell-width_at (length start) d)));
      ended = subst (λ m. All (End m) (rows ++ row ∷ [])) (sym whole) ended;
      apart = linked-join end_of_row rows (row ∷ []) h.apart (All-nil (λ r. IsUpTo (end_of_row row) r.first), tt)
          (All-weaker (End d) (λ x. All (λ y. IsUpTo (end_of_row x) y.first) (row ∷ []))
          (λ x le. All-cons (λ y. IsUpTo (end_of_row x) y.first) row [] (subst (IsUpTo (end_of_row x)) (sym at) le) (All-nil (λ y. IsUpTo (end_of_row x) y.first))) rows h.ended);
    }

pub some_items : (xs : List ℕ) (none : Bool) → none ≡ eqb (length xs) 0 → none ≡ false → 0 < length xs
some_items [] none is e = absurd (false≢true (sym e ∙ is))
some_items (x ∷ xs) none is e = omega arith

-- all bytes in one row
pub leaves-one : (start : List ℕ) (row : RowOf) → IsByteAddress start → IsTumbler start → row.first ≡ start → row.second ≡ [] → 0 < length row.leaf.items → length row.leaf.items ≤ 1024 → last_of start + length row.leaf.items < place_bound
    → AreLeaves start row.leaf.items (row ∷ [])
leaves-one start row address t at none has short room =
    leaves-next start address.0 address.1 [] [] row t (leaves-none start) (at ∙ sym (step-none start)) none has short (omega (arith, room))

take-more : (m n : ℕ) (xs : List ℕ) → take m xs ++ take n (drop m xs) ≡ take (m + n) xs
take-more zero n xs = let e : n ≡ 0 + n = omega arith in ap (λ k. take k xs) e
take-more (suc m) n [] = take-none n ∙ sym (take-none (suc m + n))
take-more (suc m) n (x ∷ xs) = let e : suc m + n ≡ suc (m + n) = omega arith in ap (λ r. x ∷ r) (take-more m n xs) ∙ ap (λ k. take k (x ∷ xs)) (sym e)

-- the next part of the bytes: what is at most so many of the rest
pub leaves-more : (start bytes : List ℕ) (done count : ℕ) (rows next : List RowOf) (row : RowOf) → IsByteAddress start → IsTumbler start → last_of start + length bytes < place_bound → done < length bytes
    → AreLeaves start (take done bytes) (map (plain_row plain_text) rows) → count ≡ min (length (drop done bytes)) 1024 → row.first ≡ so_far_on start done → row.second ≡ [] → row.leaf.items ≡ take count (drop done bytes)
    → next ≡ rows ++ row ∷ [] → AreLeaves start (take (done + count) bytes) (map (plain_row plain_text) next)
leaves-more start bytes done count rows next row address t room short h is at none has pushed =
    let document = address.0 in
    let b = address.1 in
    let plain = map (plain_row plain_text) in
    let long : length (take done bytes) ≡ done = length-take done bytes ∙ omega (arith, short) in
    let left : length (drop done bytes) ≡ length bytes - done = length-drop done bytes in
    let n : length row.leaf.items ≡ count = ap length has ∙ length-take count (drop done bytes) ∙ omega (arith, is) in
    let some : 0 < length row.leaf.items = omega (arith, n, is, left, short) in
    let few : length row.leaf.items ≤ 1024 = omega (arith, n, is) in
    let fit : last_of start + (length (take done bytes) + length row.leaf.items) < place_bound = omega (arith, long, n, is, left, short, room) in
    let made = leaves-next start document b (take done bytes) (plain rows) (plain_row plain_text row) t h (at ∙ ap (so_far_on start) (sym long)) none some few fit in
    let bytes_are : take done bytes ++ row.leaf.items ≡ take (done + count) bytes = ap (λ bs. take done bytes ++ bs) has ∙ take-more done count bytes in
    subst (λ bs. AreLeaves start bs (plain next)) bytes_are (subst (AreLeaves start (take done bytes ++ row.leaf.items)) (sym (ap plain pushed ∙ map-append (plain_row plain_text) rows (row ∷ []))) made)

pub leaves-all : (start bytes : List ℕ) (done : ℕ) (rows : List RowOf) → length bytes ≤ done → AreLeaves start (take done bytes) rows → AreLeaves start bytes rows
leaves-all start bytes done rows le h = subst (λ bs. AreLeaves start bs rows) (take_all done bytes le) h
