-- From rows to numbers: what is shared among rows is what their texts share.
use Rattle.std.proofs.Common.{◌≡◌, ℕ, zero, suc, ◌+◌, ◌-◌, ◌*◌, ◌<◌, ◌≤◌, ◌∙◌, ◌==◌, ◌&&◌, ◌||◌, ◌++◌, ◌∷◌, [], Bool, List, map, true, false, ap, sym, refl, subst, cond, arith, All, get_or, inl, inr}
use Rattle.std.specs.Prelude.{Contains, filter, nat_le, nat_lt, ◌⊎◌}
use Rattle.std.specs.List.{AllPairs}
use Rattle.std.specs.BTreeMap.{BTreeMap}
use Rattle.std.specs.Cmp.Lexicographic.{bytes_decides}
use Rattle.std.proofs.lemmas.Bool.Decides.{nat_tests}
use Rattle.std.proofs.lemmas.List.Elements.{All-nil, All-cons, All-head, All-tail, All-map, All-contains, Contains-append_right, Contains-get_or}
use Rattle.std.proofs.lemmas.List.Folds.{list_any-append}
use Rattle.std.proofs.lemmas.List.Kept.{AllPairs-cons, AllPairs-filter}
use Rattle.poom.specs.declared.piece.Piece.{Piece}
use Rattle.poom.specs.Pieces.{address_in, addresses_from}
use Rattle.poom.proofs.Back.{same_piece}
use Rattle.world_rules.specs.declared.pairs.Pair.{Pair}
use Rattle.world_rules.specs.declared.rows.Row.{Row}
use Rattle.world_rules.specs.declared.rows.Part.TheVariants.{Text}
use Rattle.world_rules.specs.World.{is_same}
use Rattle.world_rules.specs.Edits.{new_rows}
use Rattle.world_rules.specs.Picking.{content_of, number_of}
use Rattle.world_rules.specs.Relation.{pairs_of_row, is_pair, has_pair}
use Rattle.world_rules.specs.RelationLaws.{IsPairBefore}
use Rattle.world_rules.proofs.Later.{after_first, without_first, none_later}
use Rattle.poom_compare.specs.declared.placing.Placed.{Placed}
use Rattle.poom_compare.specs.declared.stretch.Stretch.{Stretch}
use Rattle.poom_compare.specs.Shared.{pairs_between}
use Rattle.poom_compare.specs.Segments.{is_same_byte, ArePairsOf}
use Rattle.poom_compare.specs.Placed.{IsPlaced, rows_at, rows_laid, number_in, AreNumbers, HasNumber, AreStretchesOf, RowsAscend, stretch_of, text_of, code_of, shown, IsStretch, AreStretches}
use Rattle.poom_compare.proofs.Lists.{here, there, none_there, first_or_rest, contains_flat, all_flat, pairs_map, pairs_flat}

abbrev Numbers : Type 0
Numbers = BTreeMap (List ℕ) ℕ

-- ---- bytes as numbers

-- the row shows byte `number` of the document, which has a number
pub record IsByte (numbers : Numbers) (row : Row) : Type 0 where
  document : List ℕ
  number : ℕ
  is : row.address ≡ address_in 1 document number
  has : HasNumber numbers document
  below : number < 4294967296

content_is : (document : List ℕ) (number : ℕ) → content_of (address_in 1 document number) ≡ document
content_is document number = ap (λ (p : Piece). p.document) (same_piece 1 0 (record { document = document; first = number; count = 0 }))

number_is : (document : List ℕ) (number : ℕ) → number_of (address_in 1 document number) ≡ number
number_is document number = ap (λ (p : Piece). p.first) (same_piece 1 0 (record { document = document; first = number; count = 0 }))

code_is : (numbers : Numbers) (document : List ℕ) (number : ℕ) → code_of numbers (address_in 1 document number) ≡ number_in numbers document * 4294967296 + number
code_is numbers document number = λ i. number_in numbers (content_is document number i) * 4294967296 + number_is document number i

code_at : (numbers : Numbers) (row : Row) (byte : IsByte numbers row) → code_of numbers row.address ≡ number_in numbers byte.document * 4294967296 + byte.number
code_at numbers row byte = ap (code_of numbers) byte.is ∙ code_is numbers byte.document byte.number

some_code : (numbers : Numbers) (row : Row) → IsByte numbers row → 1 ≤ code_of numbers row.address
some_code numbers row byte =
    let is = code_at numbers row byte in
    let one = byte.has.from_one in
    omega arith

code_parts : (a b m n : ℕ) → m < 4294967296 → n < 4294967296 → a * 4294967296 + m ≡ b * 4294967296 + n → (a ≡ b) × (m ≡ n)
code_parts a b m n i j e = (omega arith, omega arith)

same_code : (numbers : Numbers) → AreNumbers numbers → (a b : Row) → IsByte numbers a → IsByte numbers b → code_of numbers a.address ≡ code_of numbers b.address → a.address ≡ b.address
same_code numbers are a b byte byte' e =
    let parts = code_parts (number_in numbers byte.document) (number_in numbers byte'.document) byte.number byte'.number byte.below byte'.below (sym (code_at numbers a byte) ∙ (e ∙ code_at numbers b byte')) in
    let document : byte.document ≡ byte'.document = are.apart byte.document byte'.document byte.has.from_one parts.0 in
    byte.is ∙ ((λ i. address_in 1 (document i) (parts.1 i)) ∙ sym byte'.is)

-- ---- rows of runs

abbrev rest_of_run : (at x len first base rest : ℕ) → ℕ
rest_of_run at x len first base rest = cond (nat_le (at + 1) x && nat_lt x (at + 1 + len)) (base + (first + 1) + (x - (at + 1))) rest

next_shown : (at x len first base rest : ℕ) → cond (at == x) (base + first) (cond (nat_le (at + 1) x && nat_lt x (at + 1 + len)) (base + (first + 1) + (x - (at + 1))) rest) ≡ cond (nat_le at x && nat_lt x (at + suc len)) (base + first + (x - at)) rest
next_shown at x len first base rest = go (three at x)
  where
    three : (p q : ℕ) → (p ≡ q) ⊎ ((p < q) ⊎ (q < p))
    three p q = grind arith

    eq_yes : (p q : ℕ) → p ≡ q → (p == q) ≡ true
    eq_yes p q e = grind (arith, nat_tests)

    eq_no : (p q : ℕ) → (p ≡ q → ⊥) → (p == q) ≡ false
    eq_no p q e = grind (arith, nat_tests)

    in_yes : (p q y : ℕ) → p ≤ y → y < q → (nat_le p y && nat_lt y q) ≡ true
    in_yes p q y l m = grind (arith, nat_tests)

    in_high : (p q y : ℕ) → q ≤ y → (nat_le p y && nat_lt y q) ≡ false
    in_high p q y l = grind (arith, nat_tests)

    in_low : (p q y : ℕ) → y < p → (nat_le p y && nat_lt y q) ≡ false
    in_low p q y l = grind (arith, nat_tests)

    beyond : (p q : ℕ) → (p < q) ⊎ (q ≤ p)
    beyond p q = grind arith

    go : (at ≡ x) ⊎ ((at < x) ⊎ (x < at)) → cond (at == x) (base + first) (rest_of_run at x len first base rest) ≡ cond (nat_le at x && nat_lt x (at + suc len)) (base + first + (x - at)) rest
    go (inl e) =
        let value : base + first ≡ base + first + (x - at) = omega arith in
        ap (λ (b : Bool). cond b (base + first) (rest_of_run at x len first base rest)) (eq_yes at x e) ∙ (value ∙ sym (ap (λ (b : Bool). cond b (base + first + (x - at)) rest) (in_yes at (at + suc len) x (omega arith) (omega arith))))
    go (inr (inl lt)) = further_on (beyond x (at + suc len))
      where
        further_on : (x < at + suc len) ⊎ (at + suc len ≤ x) → cond (at == x) (base + first) (rest_of_run at x len first base rest) ≡ cond (nat_le at x && nat_lt x (at + suc len)) (base + first + (x - at)) rest
        further_on (inl in_it) =
            let value : base + (first + 1) + (x - (at + 1)) ≡ base + first + (x - at) = omega arith in
            ap (λ (b : Bool). cond b (base + first) (rest_of_run at x len first base rest)) (eq_no at x (λ e. omega arith))
            ∙ (ap (λ (b : Bool). cond b (base + (first + 1) + (x - (at + 1))) rest) (in_yes (at + 1) (at + 1 + len) x (omega arith) (omega arith))
            ∙ (value ∙ sym (ap (λ (b : Bool). cond b (base + first + (x - at)) rest) (in_yes at (at + suc len) x (omega arith) in_it))))
        further_on (inr past) =
            ap (λ (b : Bool). cond b (base + first) (rest_of_run at x len first base rest)) (eq_no at x (λ e. omega arith))
            ∙ (ap (λ (b : Bool). cond b (base + (first + 1) + (x - (at + 1))) rest) (in_high (at + 1) (at + 1 + len) x (omega arith))
            ∙ sym (ap (λ (b : Bool). cond b (base + first + (x - at)) rest) (in_high at (at + suc len) x past)))
    go (inr (inr lt)) =
        ap (λ (b : Bool). cond b (base + first) (rest_of_run at x len first base rest)) (eq_no at x (λ e. omega arith))
        ∙ (ap (λ (b : Bool). cond b (base + (first + 1) + (x - (at + 1))) rest) (in_low (at + 1) (at + 1 + len) x (omega arith))
        ∙ sym (ap (λ (b : Bool). cond b (base + first + (x - at)) rest) (in_low at (at + suc len) x lt)))

none_shown : (at x first base rest : ℕ) → rest ≡ cond (nat_le at x && nat_lt x (at + 0)) (base + first + (x - at)) rest
none_shown at x first base rest = sym (ap (λ (b : Bool). cond b (base + first + (x - at)) rest) (never at x))
  where
    never : (p y : ℕ) → (nat_le p y && nat_lt y (p + 0)) ≡ false
    never p y = grind (arith, nat_tests)

run_shown : (numbers : Numbers) (document : List ℕ) (first len at : ℕ) (rest : List Row) (x : ℕ)
    → shown numbers (new_rows [] at (addresses_from 1 document first len) ++ rest) x ≡ cond (nat_le at x && nat_lt x (at + len)) (number_in numbers document * 4294967296 + first + (x - at)) (shown numbers rest x)
run_shown numbers document first zero at rest x = none_shown at x first (number_in numbers document * 4294967296) (shown numbers rest x)
run_shown numbers document first (suc len) at rest x =
    (λ i. cond (at == x) (code_is numbers document first i) (run_shown numbers document (first + 1) len (at + 1) rest x i))
    ∙ next_shown at x len first (number_in numbers document * 4294967296) (shown numbers rest x)

pub text_shown : (numbers : Numbers) (all : List Placed) (x : ℕ) → shown numbers (rows_laid all) x ≡ text_of (map (stretch_of numbers) all) x
text_shown numbers [] x = refl
text_shown numbers (p ∷ ps) x =
    run_shown numbers p.document p.first p.length p.at (rows_laid ps) x
    ∙ ap (λ (r : ℕ). cond (nat_le p.at x && nat_lt x (p.at + p.length)) (number_in numbers p.document * 4294967296 + p.first + (x - p.at)) r) (text_shown numbers ps x)

run_bytes : (numbers : Numbers) (document : List ℕ) (first len at : ℕ) → HasNumber numbers document → first + len < 4294967296 → All (IsByte numbers) (new_rows [] at (addresses_from 1 document first len))
run_bytes numbers document first zero at has fits = All-nil (IsByte numbers)
run_bytes numbers document first (suc len) at has fits =
    All-cons (IsByte numbers) (record { document = []; part = Text; n = at; address = address_in 1 document first }) (new_rows [] (at + 1) (addresses_from 1 document (first + 1) len))
    (record { document = document; number = first; is = refl; has = has; below = omega arith }) (run_bytes numbers document (first + 1) len (at + 1) has (omega arith))

pub laid_bytes : (numbers : Numbers) (all : List Placed) → All IsPlaced all → All (λ (p : Placed). HasNumber numbers p.document) all → All (IsByte numbers) (rows_laid all)
laid_bytes numbers all each has = all_flat (IsByte numbers) rows_at all (λ k d lt. run_bytes numbers (get_or all k d).document (get_or all k d).first (get_or all k d).length (get_or all k d).at (has k d lt) (each k d lt).fits)

-- ---- what rows share

abbrev IsRowBefore : Row → Row → Type 0
IsRowBefore row later = row.n < later.n

absent : (numbers : Numbers) (rows : List Row) (y : ℕ) → All (λ (row : Row). y < row.n) rows → shown numbers rows y ≡ 0
absent numbers [] y later = refl
absent numbers (row ∷ rows) y later =
    ap (λ (b : Bool). cond b (code_of numbers row.address) (shown numbers rows y)) (differ row.n y (All-head (λ (r : Row). y < r.n) row rows later)) ∙ absent numbers rows y (All-tail (λ (r : Row). y < r.n) row rows later)
  where
    differ : (p q : ℕ) → q < p → (p == q) ≡ false
    differ p q l = grind (arith, nat_tests)

-- the test of one row on the right
row_cases : (x n y m a o later : ℕ) (same has : Bool) → same ≡ (o == a) → 1 ≤ a → has ≡ (x == n && is_same_byte a later) → (m ≡ y → later ≡ 0)
    → cond same ((x == n && y == m) || has) has ≡ (x == n && is_same_byte a (cond (m == y) o later))
row_cases x n y m a o later same has is some rest gone = go same (m == y) (x == n) is refl
  where
    same_yes' : (p q : ℕ) → true ≡ (q == p) → 1 ≤ p → is_same_byte p q ≡ true
    same_yes' p q e l = grind (arith, nat_tests)

    same_no : (p q : ℕ) → false ≡ (q == p) → is_same_byte p q ≡ false
    same_no p q e = grind (arith, nat_tests)

    zero_no : (p q : ℕ) → q ≡ 0 → is_same_byte p q ≡ false
    zero_no p q e = grind (arith, nat_tests)

    eq_is : (p q : ℕ) → (p == q) ≡ true → p ≡ q
    eq_is p q e = grind (arith, nat_tests)

    flip : (p q : ℕ) → (p == q) ≡ (q == p)
    flip p q = grind (arith, nat_tests)

    or_same : (b : Bool) (d : Bool) → ((b && true) || (b && d)) ≡ (b && true)
    or_same true d = refl
    or_same false d = refl

    and_no : (b : Bool) → (b && false) ≡ false
    and_no true = refl
    and_no false = refl

    go : (s t b : Bool) → s ≡ (o == a) → (m == y) ≡ t → cond s ((x == n && y == m) || has) has ≡ (x == n && is_same_byte a (cond t o later))
    go true true b e f =
        let at : (y == m) ≡ true = flip y m ∙ f in
        (λ i. (x == n && at i) || rest i) ∙ (or_same (x == n) (is_same_byte a later) ∙ ap (λ (d : Bool). x == n && d) (sym (same_yes' a o e some)))
    go true false b e f =
        let at : (y == m) ≡ false = flip y m ∙ f in
        (λ i. (x == n && at i) || has) ∙ (ap (λ (d : Bool). d || has) (and_no (x == n)) ∙ rest)
    go false true b e f =
        let none : later ≡ 0 = gone (eq_is m y f) in
        rest ∙ (ap (λ (d : Bool). x == n && d) (zero_no a later none) ∙ ap (λ (d : Bool). x == n && d) (sym (same_no a o e)))
    go false false b e f = rest

same_address : (numbers : Numbers) → AreNumbers numbers → (a o : Row) → IsByte numbers a → IsByte numbers o → is_same o.address a.address ≡ (code_of numbers o.address == code_of numbers a.address)
same_address numbers are a o byte byte' = go (is_same o.address a.address) (code_of numbers o.address == code_of numbers a.address) refl refl
  where
    eq_is : (p q : ℕ) → (p == q) ≡ true → p ≡ q
    eq_is p q e = grind (arith, nat_tests)

    eq_yes : (p q : ℕ) → p ≡ q → (p == q) ≡ true
    eq_yes p q e = grind (arith, nat_tests)

    go : (s t : Bool) → is_same o.address a.address ≡ s → (code_of numbers o.address == code_of numbers a.address) ≡ t → s ≡ t
    go true true e f = refl
    go false false e f = refl
    go true false e f = sym (eq_yes (code_of numbers o.address) (code_of numbers a.address) (ap (code_of numbers) ((bytes_decides o.address a.address).0 e))) ∙ f
    go false true e f =
        sym e ∙ (bytes_decides o.address a.address).1 (same_code numbers are o a byte' byte (eq_is (code_of numbers o.address) (code_of numbers a.address) f))

row_has : (numbers : Numbers) → AreNumbers numbers → (a : Row) → IsByte numbers a → (rows : List Row) → All (IsByte numbers) rows → AllPairs IsRowBefore rows → (p : Pair)
    → has_pair (pairs_of_row rows a) p ≡ (p.left == a.n && is_same_byte (code_of numbers a.address) (shown numbers rows p.right))
row_has numbers are a byte [] each ascend p = sym (ap (λ (d : Bool). p.left == a.n && d) (none_same (code_of numbers a.address)) ∙ and_no (p.left == a.n))
  where
    none_same : (q : ℕ) → is_same_byte q 0 ≡ false
    none_same q = grind (arith, nat_tests)

    and_no : (b : Bool) → (b && false) ≡ false
    and_no true = refl
    and_no false = refl
row_has numbers are a byte (o ∷ rows) each ascend p =
    step (is_same o.address a.address) (same_address numbers are a o byte (All-head (IsByte numbers) o rows each))
    (row_has numbers are a byte rows (All-tail (IsByte numbers) o rows each) (without_first IsRowBefore o rows ascend) p)
  where
    gone : o.n ≡ p.right → shown numbers rows p.right ≡ 0
    gone e = absent numbers rows p.right (λ k d lt. subst (λ (m : ℕ). m < (get_or rows k d).n) e (after_first IsRowBefore o rows ascend k d lt))

    step : (s : Bool) → s ≡ (code_of numbers o.address == code_of numbers a.address) → has_pair (pairs_of_row rows a) p ≡ (p.left == a.n && is_same_byte (code_of numbers a.address) (shown numbers rows p.right))
        → has_pair (map (λ (other : Row). record { left = a.n; right = other.n }) (cond s (o ∷ filter (λ (other : Row). is_same other.address a.address) rows) (filter (λ (other : Row). is_same other.address a.address) rows))) p
        ≡ (p.left == a.n && is_same_byte (code_of numbers a.address) (cond (o.n == p.right) (code_of numbers o.address) (shown numbers rows p.right)))
    step true e rest =
        row_cases p.left a.n p.right o.n (code_of numbers a.address) (code_of numbers o.address) (shown numbers rows p.right) true (has_pair (pairs_of_row rows a) p) e (some_code numbers a byte) rest gone
    step false e rest =
        row_cases p.left a.n p.right o.n (code_of numbers a.address) (code_of numbers o.address) (shown numbers rows p.right) false (has_pair (pairs_of_row rows a) p) e (some_code numbers a byte) rest gone

has_shared : (numbers : Numbers) → AreNumbers numbers → (rights : List Row) → All (IsByte numbers) rights → AllPairs IsRowBefore rights → (lefts : List Row) → All (IsByte numbers) lefts → AllPairs IsRowBefore lefts → (p : Pair)
    → has_pair (pairs_between lefts rights) p ≡ is_same_byte (shown numbers lefts p.left) (shown numbers rights p.right)
has_shared numbers are rights right_bytes right_ascend [] each ascend p = sym (none_same (shown numbers rights p.right))
  where
    none_same : (q : ℕ) → is_same_byte 0 q ≡ false
    none_same q = grind (arith, nat_tests)
has_shared numbers are rights right_bytes right_ascend (a ∷ lefts) each ascend p =
    let rest : has_pair (pairs_between lefts rights) p ≡ is_same_byte (shown numbers lefts p.left) (shown numbers rights p.right) =
    has_shared numbers are rights right_bytes right_ascend lefts (All-tail (IsByte numbers) a lefts each) (without_first IsRowBefore a lefts ascend) p in
    list_any-append (is_pair p) (pairs_of_row rights a) (pairs_between lefts rights)
    ∙ ((λ i. row_has numbers are a (All-head (IsByte numbers) a lefts each) rights right_bytes right_ascend p i || rest i) ∙ go (a.n == p.left) refl)
  where
    eq_is : (q r : ℕ) → (q == r) ≡ true → q ≡ r
    eq_is q r e = grind (arith, nat_tests)

    flip : (q r : ℕ) → (q == r) ≡ (r == q)
    flip q r = grind (arith, nat_tests)

    none_same : (q r : ℕ) → q ≡ 0 → is_same_byte q r ≡ false
    none_same q r e = grind (arith, nat_tests)

    or_no : (b : Bool) → (b || false) ≡ b
    or_no true = refl
    or_no false = refl

    go : (t : Bool) → (a.n == p.left) ≡ t
        → ((p.left == a.n && is_same_byte (code_of numbers a.address) (shown numbers rights p.right)) || is_same_byte (shown numbers lefts p.left) (shown numbers rights p.right))
        ≡ is_same_byte (cond t (code_of numbers a.address) (shown numbers lefts p.left)) (shown numbers rights p.right)
    go true e =
        let at : (p.left == a.n) ≡ true = flip p.left a.n ∙ e in
        let gone : shown numbers lefts p.left ≡ 0 = absent numbers lefts p.left (λ k d lt. subst (λ (m : ℕ). m < (get_or lefts k d).n) (eq_is a.n p.left e) (after_first IsRowBefore a lefts ascend k d lt)) in
        (λ i. (at i && is_same_byte (code_of numbers a.address) (shown numbers rights p.right)) || none_same (shown numbers lefts p.left) (shown numbers rights p.right) gone i)
        ∙ or_no (is_same_byte (code_of numbers a.address) (shown numbers rights p.right))
    go false e =
        let at : (p.left == a.n) ≡ false = flip p.left a.n ∙ e in
        λ i. (at i && is_same_byte (code_of numbers a.address) (shown numbers rights p.right)) || is_same_byte (shown numbers lefts p.left) (shown numbers rights p.right)

-- ---- in order

pairs_ordered : (lefts rights : List Row) → AllPairs IsRowBefore lefts → AllPairs IsRowBefore rights → AllPairs IsPairBefore (pairs_between lefts rights)
pairs_ordered lefts rights ascend ascend' =
    pairs_flat (λ (row : Row). row ≡ row) IsRowBefore IsPairBefore (pairs_of_row rights) one across lefts (λ k d lt. refl) ascend
  where
    same : Row → Row → Bool
    same row other = is_same other.address row.address

    one : (row : Row) → row ≡ row → AllPairs IsPairBefore (pairs_of_row rights row)
    one row _ =
        pairs_map (λ (r : Row). r ≡ r) IsRowBefore IsPairBefore (λ (other : Row). record { left = row.n; right = other.n }) (λ a b _ _ lt. inr (refl, lt)) (filter (λ (other : Row). is_same other.address row.address) rights) (λ k d lt. refl)
        (AllPairs-filter IsRowBefore (λ (other : Row). is_same other.address row.address) rights ascend')

    lefts_are : (row : Row) → All (λ (p : Pair). p.left ≡ row.n) (pairs_of_row rights row)
    lefts_are row = All-map (λ (p : Pair). p.left ≡ row.n) (λ (other : Row). record { left = row.n; right = other.n }) (filter (λ (other : Row). is_same other.address row.address) rights) (λ k d lt. refl)

    across : (a b : Row) → a ≡ a → b ≡ b → IsRowBefore a b → All (λ p. All (IsPairBefore p) (pairs_of_row rights b)) (pairs_of_row rights a)
    across a b _ _ lt k d within j e inside =
        let x = lefts_are a k d within in
        let y = lefts_are b j e inside in
        inl (omega arith)

pub are_pairs : (numbers : Numbers) → AreNumbers numbers → (lefts rights : List Placed) → All IsPlaced lefts → All IsPlaced rights → RowsAscend (rows_laid lefts) → RowsAscend (rows_laid rights)
    → (left right : List Stretch) → AreStretchesOf numbers lefts left → AreStretchesOf numbers rights right → ArePairsOf (text_of left) (text_of right) (pairs_between (rows_laid lefts) (rows_laid rights))
are_pairs numbers are lefts rights placed placed' ascend ascend' left right of of' = record {
  same = λ p.
      has_shared numbers are (rows_laid rights) (laid_bytes numbers rights placed' of'.numbered) ascend' (rows_laid lefts) (laid_bytes numbers lefts placed of.numbered) ascend p
      ∙ (λ i. is_same_byte (shown_is lefts left of p.left i) (shown_is rights right of' p.right i));
  in_order = pairs_ordered (rows_laid lefts) (rows_laid rights) ascend ascend';
}
  where
    shown_is : (all : List Placed) (stretches : List Stretch) → AreStretchesOf numbers all stretches → (x : ℕ) → shown numbers (rows_laid all) x ≡ text_of stretches x
    shown_is all stretches of x = text_shown numbers all x ∙ ap (λ (ss : List Stretch). text_of ss x) (sym of.is)

-- ---- stretches

record HasPosition (rows : List Row) (n : ℕ) : Type 0 where
  row : Row
  is_one : Contains rows row
  at : row.n ≡ n

run_position : (document : List ℕ) (first len at m : ℕ) → m < len → HasPosition (new_rows [] at (addresses_from 1 document first len)) (at + m)
run_position document first zero at m lt = absurd (omega arith)
run_position document first (suc len) at zero lt =
    let row : Row = record { document = []; part = Text; n = at; address = address_in 1 document first } in
    record { row = row; is_one = here row (new_rows [] (at + 1) (addresses_from 1 document (first + 1) len)); at = omega arith }
run_position document first (suc len) at (suc m) lt =
    let found = run_position document (first + 1) len (at + 1) m (omega arith) in
    let is = found.at in
    record { row = found.row; is_one = there (record { document = []; part = Text; n = at; address = address_in 1 document first }) found.row (new_rows [] (at + 1) (addresses_from 1 document (first + 1) len)) found.is_one; at = omega arith }

across_append : (xs ys : List Row) → AllPairs IsRowBefore (xs ++ ys) → (x y : Row) → Contains xs x → Contains ys y → x.n < y.n
across_append [] ys each x y in_xs in_ys = absurd (none_there x in_xs)
across_append (z ∷ xs) ys each x y in_xs in_ys = elim (first_or_rest z x xs in_xs) [
  | inl is ↦ subst (λ (w : Row). w.n < y.n) is (All-contains (IsRowBefore z) (xs ++ ys) y (after_first IsRowBefore z (xs ++ ys) each) (Contains-append_right xs ys y in_ys))
  | inr rest ↦ across_append xs ys (without_first IsRowBefore z (xs ++ ys) each) x y rest in_ys
]

rest_ascends : (xs ys : List Row) → AllPairs IsRowBefore (xs ++ ys) → AllPairs IsRowBefore ys
rest_ascends [] ys each = each
rest_ascends (x ∷ xs) ys each = rest_ascends xs ys (without_first IsRowBefore x (xs ++ ys) each)

placed_ascend : (all : List Placed) → All IsPlaced all → RowsAscend (rows_laid all) → AllPairs (λ (a : Placed) (b : Placed). a.at + a.length ≤ b.at) all
placed_ascend [] each ascend = none_later (λ (a : Placed) (b : Placed). a.at + a.length ≤ b.at)
placed_ascend (p ∷ ps) each ascend =
    AllPairs-cons (λ (a : Placed) (b : Placed). a.at + a.length ≤ b.at) p ps
    (λ k d lt.
    let q = get_or ps k d in
    let filled = (All-head IsPlaced p ps each).filled in
    let filled' = (All-tail IsPlaced p ps each k d lt).filled in
    let last = run_position p.document p.first p.length p.at (p.length - 1) (omega arith) in
    let first = run_position q.document q.first q.length q.at 0 (omega arith) in
    let less = across_append (rows_at p) (rows_laid ps) ascend last.row first.row last.is_one (contains_flat rows_at ps q first.row (Contains-get_or ps k d lt) first.is_one) in
    let x = last.at in
    let y = first.at in
    omega arith)
    (placed_ascend ps (All-tail IsPlaced p ps each) (rest_ascends (rows_at p) (rows_laid ps) ascend))

stretch_right : (numbers : Numbers) (p : Placed) → IsPlaced p → HasNumber numbers p.document → IsStretch (stretch_of numbers p)
stretch_right numbers p is has =
    let a = is.ends in
    let b = is.from_one in
    let d = is.fits in
    let e = has.below in
    record { from_one = is.at_from_one; filled = is.filled; ends = omega arith; numbered = omega arith; numbers_end = omega arith }

pub are_stretches : (numbers : Numbers) (all : List Placed) → All IsPlaced all → RowsAscend (rows_laid all) → (stretches : List Stretch) → AreStretchesOf numbers all stretches → AreStretches stretches
are_stretches numbers all each ascend stretches of = subst AreStretches (sym of.is) (record {
  each = All-map IsStretch (stretch_of numbers) all (λ k d lt. stretch_right numbers (get_or all k d) (each k d lt) (of.numbered k d lt));
  ascend = pairs_map IsPlaced (λ (a : Placed) (b : Placed). a.at + a.length ≤ b.at) (λ (a : Stretch) (b : Stretch). a.at + a.length ≤ b.at) (stretch_of numbers) (λ a b _ _ before. before) all each (placed_ascend all each ascend);
})
