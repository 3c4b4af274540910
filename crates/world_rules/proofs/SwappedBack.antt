-- A rearrange of an empty block, and one that takes another back.
use Rattle.std.proofs.Common.{◌≡◌, ℕ, ◌+◌, ◌-◌, ◌≤◌, ◌∙◌, List, [], ◌∷◌, ◌++◌, length, map, take, drop, ap, sym, refl, subst, arith, append_assoc, length-append, ⊎_elim}
use Rattle.std.specs.Prelude.{filter, Some}
use Rattle.std.proofs.lemmas.Bool.{le-leb}
use Rattle.std.proofs.lemmas.List.{take_at, drop_at, take-append-drop, drop-drop, length-take-le, length-map}
use Rattle.std.proofs.lemmas.List.Sums.{length-filter}
use Rattle.world_rules.specs.declared.rows.Row.{Row}
use Rattle.world_rules.specs.World.{World, is_text_of, text_length}
use Rattle.world_rules.specs.Edits.{Cuts, cuts_of, up_by, down_by, rows_swapped}
use Rattle.world_rules.specs.Laws.{text_rows, between, AreThreeCuts, world_swapped, EmptyBlockStays, SwapsBack}
use Rattle.world_rules.proofs.InRow.{InRow, row_head, row_tail, row_between, length-between}
use Rattle.world_rules.proofs.Inserted.{text_in_row}
use Rattle.world_rules.proofs.Rearranged.{InOrder, swapped, across, text_swapped, swapped_in_row}

-- ---- three cuts

abbrev pub three : (a b c : ℕ) → Cuts
three a b c = record { first = a; second = b; third = b; fourth = c }

three_cuts : (a b c : ℕ) → a ≤ b → b ≤ c → cuts_of (a ∷ b ∷ c ∷ []) ≡ Some (three a b c)
three_cuts a b c ab bc = rw (le-leb a b ab, le-leb b c bc) refl

three_swapped : (world : World) (document : List ℕ) (a b c : ℕ) → a ≤ b → b ≤ c → (world_swapped world document a b c).rows ≡ rows_swapped world.rows document (three a b c)
three_swapped world document a b c ab bc = rw (three_cuts a b c ab bc) refl

-- the text after the blocks between three cuts changed places
text_three : (world : World) (document : List ℕ) (a b c : ℕ) → InOrder (three a b c) (length (text_rows world document)) → InRow 1 (text_rows world document)
    → text_rows (world_swapped world document a b c) document ≡ swapped (three a b c) (text_rows world document)
text_three world document a b c order row =
    ap (filter (is_text_of document)) (three_swapped world document a b c order.to_second order.to_fourth) ∙ text_swapped world.rows document (three a b c) order row

-- ---- four parts

-- a list, cut three times
in_parts : (a b c : ℕ) (xs : List Row) → 1 ≤ a → a ≤ b → b ≤ c → xs ≡ take (a - 1) xs ++ (between a b xs ++ (between b c xs ++ drop (c - 1) xs))
in_parts a b c xs one ab bc =
    let to_b : a - 1 + (b - a) ≡ b - 1 = omega arith in
    let to_c : b - 1 + (c - b) ≡ c - 1 = omega arith in
    let after_b : drop (c - b) (drop (b - 1) xs) ≡ drop (c - 1) xs = drop-drop (c - b) (b - 1) xs ∙ ap (λ (n : ℕ). drop n xs) to_c in
    let from_b : drop (b - 1) xs ≡ between b c xs ++ drop (c - 1) xs = sym (take-append-drop (c - b) (drop (b - 1) xs)) ∙ ap (λ (ys : List Row). between b c xs ++ ys) after_b in
    let after_a : drop (b - a) (drop (a - 1) xs) ≡ drop (b - 1) xs = drop-drop (b - a) (a - 1) xs ∙ ap (λ (n : ℕ). drop n xs) to_b in
    let from_a : drop (a - 1) xs ≡ between a b xs ++ drop (b - 1) xs = sym (take-append-drop (b - a) (drop (a - 1) xs)) ∙ ap (λ (ys : List Row). between a b xs ++ ys) after_a in
    sym (take-append-drop (a - 1) xs) ∙ ap (λ (ys : List Row). take (a - 1) xs ++ ys) (from_a ∙ ap (λ (ys : List Row). between a b xs ++ ys) from_b)

-- the two in the middle change places
swapped_parts : (a b c : ℕ) (front left right back : List Row) → length front + 1 ≡ a → a + length left ≡ b → b + length right ≡ c
    → swapped (three a b c) (front ++ (left ++ (right ++ back))) ≡ front ++ (map (down_by (b - a)) right ++ (map (up_by (c - b)) left ++ back))
swapped_parts a b c front left right back at_a at_b at_c =
    let xs : List Row = front ++ (left ++ (right ++ back)) in
    let nothing : b - b ≡ 0 = omega arith in
    let from_a : drop (a - 1) (front ++ (left ++ (right ++ back))) ≡ left ++ (right ++ back) = drop_at front (left ++ (right ++ back)) (a - 1) (omega arith) in
    let two : front ++ (left ++ (right ++ back)) ≡ (front ++ left) ++ (right ++ back) = sym (append_assoc front left (right ++ back)) in
    let from_b : drop (b - 1) (front ++ (left ++ (right ++ back))) ≡ right ++ back = ap (drop (b - 1)) two ∙ drop_at (front ++ left) (right ++ back) (b - 1) (omega (arith, length-append front left)) in
    let all : front ++ (left ++ (right ++ back)) ≡ ((front ++ left) ++ right) ++ back = two ∙ sym (append_assoc (front ++ left) right back) in
    let from_c : drop (c - 1) (front ++ (left ++ (right ++ back))) ≡ back = ap (drop (c - 1)) all ∙ drop_at ((front ++ left) ++ right) back (c - 1) (omega (arith, length-append (front ++ left) right, length-append front left)) in
    λ i. take_at front (left ++ (right ++ back)) (a - 1) (omega arith) i
    ++ (map (down_by (b - a)) ((ap (take (c - b)) from_b ∙ take_at right back (c - b) (omega arith)) i)
    ++ (map (across (three a b c)) (take (nothing i) (drop (b - 1) xs))
    ++ (map (up_by (c - b)) ((ap (take (b - a)) from_a ∙ take_at left (right ++ back) (b - a) (omega arith)) i) ++ from_c i)))

-- ---- moves that come to nothing

down_none : (k : ℕ) (xs : List Row) → k ≡ 0 → map (down_by k) xs ≡ xs
down_none k [] none = refl
down_none k (x ∷ xs) none =
    let here : x.n - k ≡ x.n = omega arith in
    λ i. (record x { n = here i }) ∷ down_none k xs none i

up_none : (k : ℕ) (xs : List Row) → k ≡ 0 → map (up_by k) xs ≡ xs
up_none k [] none = refl
up_none k (x ∷ xs) none =
    let here : x.n + k ≡ x.n = omega arith in
    λ i. (record x { n = here i }) ∷ up_none k xs none i

up_and_down : (j k : ℕ) (xs : List Row) → j ≡ k → map (down_by j) (map (up_by k) xs) ≡ xs
up_and_down j k [] same = refl
up_and_down j k (x ∷ xs) same =
    let here : x.n + k - j ≡ x.n = omega arith in
    λ i. (record x { n = here i }) ∷ up_and_down j k xs same i

down_and_up : (j k a : ℕ) (xs : List Row) → j ≡ k → k ≤ a → InRow a xs → map (up_by j) (map (down_by k) xs) ≡ xs
down_and_up j k a [] same le row = refl
down_and_up j k a (x ∷ xs) same le row =
    let at : x.n ≡ a = row_head a x xs row in
    let here : x.n - k + j ≡ x.n = omega arith in
    λ i. (record x { n = here i }) ∷ down_and_up j k (a + 1) xs same (omega arith) (row_tail a x xs row) i

-- ---- the laws

order_of : (world : World) (document : List ℕ) (a b c : ℕ) → AreThreeCuts world document a b c → InOrder (three a b c) (length (text_rows world document))
order_of world document a b c cuts =
    let to_end : c ≤ text_length world document + 1 = cuts.to_end in
    let long : length (text_rows world document) ≡ text_length world document = length-filter (is_text_of document) world.rows in
    record { from_one = cuts.from_one; to_second = cuts.first_to_second; to_third = omega arith; to_fourth = cuts.second_to_third; to_end = omega arith }

-- the text after the change, in parts
swapped_once : (world : World) (document : List ℕ) (a b c : ℕ) → AreThreeCuts world document a b c
    → text_rows (world_swapped world document a b c) document
    ≡ take (a - 1) (text_rows world document)
    ++ (map (down_by (b - a)) (between b c (text_rows world document)) ++ (map (up_by (c - b)) (between a b (text_rows world document)) ++ drop (c - 1) (text_rows world document)))
swapped_once world document a b c cuts =
    let xs : List Row = text_rows world document in
    let order : InOrder (three a b c) (length (text_rows world document)) = order_of world document a b c cuts in
    let one : 1 ≤ a = order.from_one in
    let ab : a ≤ b = order.to_second in
    let bc : b ≤ c = order.to_fourth in
    let end : c ≤ length (text_rows world document) + 1 = order.to_end in
    let front : length (take (a - 1) (text_rows world document)) ≡ a - 1 = length-take-le (a - 1) (text_rows world document) (omega arith) in
    let left : length (between a b (text_rows world document)) ≡ b - a = length-between a b (text_rows world document) one ab (omega arith) in
    let right : length (between b c (text_rows world document)) ≡ c - b = length-between b c (text_rows world document) (omega arith) bc end in
    text_three world document a b c order (text_in_row world document cuts.numbered)
    ∙ ap (swapped (three a b c)) (in_parts a b c xs one ab bc)
    ∙ swapped_parts a b c (take (a - 1) xs) (between a b xs) (between b c xs) (drop (c - 1) xs) (omega arith) (omega arith) (omega arith)

pub empty_block_stays : EmptyBlockStays
empty_block_stays world document a b c cuts empty =
    let xs : List Row = text_rows world document in
    let one : 1 ≤ a = cuts.from_one in
    let ab : a ≤ b = cuts.first_to_second in
    let bc : b ≤ c = cuts.second_to_third in
    swapped_once world document a b c cuts
    ∙ ⊎_elim
    (λ (same : a ≡ b).
    let nothing : b - a ≡ 0 = omega arith in
    (λ i. take (a - 1) xs ++ (down_none (b - a) (between b c xs) nothing i ++ (map (up_by (c - b)) (take (nothing i) (drop (a - 1) xs)) ++ drop (c - 1) xs)))
    ∙ (λ i. take (a - 1) xs ++ (take (sym nothing i) (drop (a - 1) xs) ++ (between b c xs ++ drop (c - 1) xs))))
    (λ (same : b ≡ c).
    let nothing : c - b ≡ 0 = omega arith in
    (λ i. take (a - 1) xs ++ (map (down_by (b - a)) (take (nothing i) (drop (b - 1) xs)) ++ (up_none (c - b) (between a b xs) nothing i ++ drop (c - 1) xs)))
    ∙ (λ i. take (a - 1) xs ++ (between a b xs ++ (take (sym nothing i) (drop (b - 1) xs) ++ drop (c - 1) xs))))
    empty
    ∙ sym (in_parts a b c xs one ab bc)

pub swaps_back : SwapsBack
swaps_back world document a b c cuts =
    let xs : List Row = text_rows world document in
    let row : InRow 1 (text_rows world document) = text_in_row world document cuts.numbered in
    let order : InOrder (three a b c) (length (text_rows world document)) = order_of world document a b c cuts in
    let one : 1 ≤ a = order.from_one in
    let ab : a ≤ b = order.to_second in
    let bc : b ≤ c = order.to_fourth in
    let end : c ≤ length (text_rows world document) + 1 = order.to_end in
    let d : ℕ = a + (c - b) in
    let front : List Row = take (a - 1) xs in
    let left : List Row = map (down_by (b - a)) (between b c xs) in
    let right : List Row = map (up_by (c - b)) (between a b xs) in
    let back : List Row = drop (c - 1) xs in
    let once : text_rows (world_swapped world document a b c) document ≡ front ++ (left ++ (right ++ back)) = swapped_once world document a b c cuts in
    let long_front : length (take (a - 1) (text_rows world document)) ≡ a - 1 = length-take-le (a - 1) (text_rows world document) (omega arith) in
    let long_left : length (map (down_by (b - a)) (between b c (text_rows world document))) ≡ c - b = length-map (between b c (text_rows world document)) (down_by (b - a)) ∙ length-between b c (text_rows world document) (omega arith) bc end in
    let long_right : length (map (up_by (c - b)) (between a b (text_rows world document))) ≡ b - a = length-map (between a b (text_rows world document)) (up_by (c - b)) ∙ length-between a b (text_rows world document) one ab (omega arith) in
    let row_again : InRow 1 (text_rows (world_swapped world document a b c) document) = subst (InRow 1) (sym (text_three world document a b c order row)) (swapped_in_row (three a b c) xs order row) in
    let long : length (text_rows (world_swapped world document a b c) document) ≡ length front + (length left + (length right + length back)) =
    ap length once ∙ length-append front (left ++ (right ++ back)) ∙ ap (λ (n : ℕ). length front + n) (length-append left (right ++ back) ∙ ap (λ (n : ℕ). length left + n) (length-append right back)) in
    let again : InOrder (three a d c) (length (text_rows (world_swapped world document a b c) document)) = record { from_one = one; to_second = omega arith; to_third = omega arith; to_fourth = omega arith; to_end = omega arith } in
    text_three (world_swapped world document a b c) document a d c again row_again
    ∙ ap (swapped (three a d c)) once
    ∙ swapped_parts a d c front left right back (omega arith) (omega arith) (omega arith)
    ∙ (λ i. front ++ (up_and_down (d - a) (c - b) (between a b xs) (omega arith) i ++ (down_and_up (c - d) (b - a) b (between b c xs) (omega arith) (omega arith) (row_between b c xs (omega arith) (omega arith) row) i ++ back)))
    ∙ sym (in_parts a b c xs one ab bc)
