-- What rows cover, by how far they reach.
use Rattle.std.proofs.Common.{◌≡◌, ℕ, zero, suc, ◌+◌, ◌<◌, ◌≤◌, ◌||◌, ◌&&◌, ◌⊎◌, not, Bool, true, false, List, [], ◌∷◌, ◌++◌, length, get_or, take, drop, refl, arith, ap, ◌∙◌, sym, subst, inl, inr, true≢false}
use Rattle.std.specs.Prelude.{IsTrue, ◌↔◌, nat_lt}
use Rattle.std.specs.List.{All, list_any, flat_map}
use Rattle.std.specs.Ordering.{nat_cmp, is_lt, is_le, is_eq, ordering_then, ordering_reverse}
use Rattle.std.specs.Cmp.Lexicographic.{slice_cmp, texts_ties}
use Rattle.std.specs.declared.cmp.Ordering.{Ordering}
use Rattle.std.specs.declared.cmp.Ordering.TheVariants.{Less, Equal, Greater}
use Rattle.std.proofs.lemmas.Bool.{cases_lt, lt-ltb, ltb-true}
use Rattle.std.proofs.lemmas.Bool.Decides.{nat_tests}
use Rattle.std.proofs.lemmas.Cmp.{nat_list_cmp_total, tied_itself}
use Rattle.std.proofs.lemmas.List.{take-append-drop}
use Rattle.std.proofs.lemmas.List.Elements.{All-nil, All-cons, All-head, All-tail, All-weaker}
use Rattle.std.specs.List.Sorted.{IsPermutation}
use Rattle.std.proofs.lemmas.List.Sorted.{list_any-IsPermutation, IsPermutation-sym}
use Rattle.std.proofs.lemmas.List.Folds.{list_any-append, list_any_none}
use Rattle.tumbler.specs.Places.{IsBefore, IsUpTo}
use Rattle.tumbler.proofs.Order.{before_by_first, before_by_rest, upto_if_before, upto_itself}
use Rattle.tumbler.proofs.Before.{false_if_up_to}
use Rattle.febe_data.specs.declared.run.Run.{Run}
use Rattle.enfilade_core.specs.declared.tree.Row.{Row}
use Rattle.spanfilade.specs.Index.{row_end}
use Rattle.world_rules.specs.World.{is_same, content_address}
use Rattle.poom.specs.Pieces.{addresses_from}
use Rattle.index_checks.specs.Covered.{covers}
use Rattle.index_checks.specs.declared.point.Point.{Point}
use Rattle.index_checks.specs.inside.Points.{is_point_before, row_start_point, row_end_point, starts_behind, ends_behind, IsReach, IsReachAt, IsCoveredBy, IsRunCoveredBy}
use Rattle.index_checks.proofs.Reaching.{points_rank, near_before}

-- ---- one row

one_row : (key from to back : Ordering) → from ≡ ordering_reverse back → (is_eq (ordering_reverse key) && (is_le from && is_lt to)) ≡ (not (is_lt (ordering_then key back)) && is_lt (ordering_then key to))
one_row Less from to back is = refl
one_row Equal from to Less is = ap (λ (r : Ordering). is_le r && is_lt to) is
one_row Equal from to Equal is = ap (λ (r : Ordering). is_le r && is_lt to) is
one_row Equal from to Greater is = ap (λ (r : Ordering). is_le r && is_lt to) is
one_row Greater from to back is = refl

-- a row covers what is neither before its start nor at its end or behind
covers_is : (p : Point) (row : Row (List ℕ)) → covers p.key p.place row ≡ (not (starts_behind p row) && ends_behind p row)
covers_is p row =
    let cmp = slice_cmp nat_cmp in
    (λ i. (texts_ties row.second p.key ∙ ap is_eq (nat_list_cmp_total.antisymm row.second p.key)) i && (is_le (cmp row.first p.place) && is_lt (cmp p.place (row_end row))))
    ∙ one_row (cmp p.key row.second) (cmp row.first p.place) (cmp p.place (row_end row)) (cmp p.place row.first) (nat_list_cmp_total.antisymm row.first p.place)

-- ---- many

any_same : {X : Type 0} (p q : X → Bool) (xs : List X) → All (λ x. p x ≡ q x) xs → list_any p xs ≡ list_any q xs
any_same p q [] all = refl
any_same {X} p q (x ∷ xs) all =
    let P : X → Type 0 = λ x. p x ≡ q x in
    (λ i. All-head P x xs all i || any_same p q xs (All-tail P x xs all) i)

front_covers : (p : Point) (rows : List (Row (List ℕ))) → All (λ (row : Row (List ℕ)). starts_behind p row ≡ false) rows → list_any (covers p.key p.place) rows ≡ list_any (ends_behind p) rows
front_covers p rows up_to =
    any_same (covers p.key p.place) (ends_behind p) rows
    (All-weaker (λ row. starts_behind p row ≡ false) (λ row. covers p.key p.place row ≡ ends_behind p row) (λ (row : Row (List ℕ)) h. covers_is p row ∙ ap (λ b. not b && ends_behind p row) h) rows up_to)

back_covers : (p : Point) (rows : List (Row (List ℕ))) → All (λ row. starts_behind p row ≡ true) rows → list_any (covers p.key p.place) rows ≡ false
back_covers p rows behind =
    list_any_none (covers p.key p.place) rows
    (All-weaker (λ row. starts_behind p row ≡ true) (λ row. covers p.key p.place row ≡ false) (λ (row : Row (List ℕ)) h. covers_is p row ∙ ap (λ b. not b && ends_behind p row) h) rows behind)

in_two : (at : ℕ) (p : Row (List ℕ) → Bool) (rows : List (Row (List ℕ))) → list_any p rows ≡ (list_any p (take at rows) || list_any p (drop at rows))
in_two at p rows = ap (list_any p) (sym (take-append-drop at rows)) ∙ list_any-append p (take at rows) (drop at rows)

or_none : (b : Bool) → (b || false) ≡ b
or_none true = refl
or_none false = refl

-- an address is covered exactly where it comes before the reach there
pub covered_by_reach : (rows : List (Row (List ℕ))) (p reach : Point) → IsReachAt rows p reach → list_any (covers p.key p.place) rows ≡ is_point_before p reach
covered_by_reach rows p reach h =
    in_two h.at (covers p.key p.place) rows
    ∙ (λ i. front_covers p (take h.at rows) h.up_to i || back_covers p (drop h.at rows) h.behind i)
    ∙ or_none (list_any (ends_behind p) (take h.at rows)) ∙ sym (h.is p)

-- so is what comes after it and before that reach
pub covered_on : (rows : List (Row (List ℕ))) (p next reach : Point) → IsReachAt rows p reach → is_point_before next p ≡ false → is_point_before next reach ≡ true → list_any (covers next.key next.place) rows ≡ true
covered_on rows p next reach h after before =
    in_two h.at (covers next.key next.place) rows
    ∙ (λ i. (front_covers next (take h.at rows) starts ∙ sym (h.is next) ∙ before) i || list_any (covers next.key next.place) (drop h.at rows))
  where
    starts : All (λ row. starts_behind next row ≡ false) (take h.at rows)
    starts =
        All-weaker (λ row. starts_behind p row ≡ false) (λ row. starts_behind next row ≡ false)
        (λ (row : Row (List ℕ)) up_to. points_rank.chain next p (row_start_point row) after up_to) (take h.at rows) h.up_to

-- ---- bytes of one content

bytes_before : (document : List ℕ) (m n : ℕ) → m < n → IsBefore (content_address document m) (content_address document n)
bytes_before [] m n lt = before_by_rest 0 (1 ∷ m ∷ []) (1 ∷ n ∷ []) (before_by_rest 1 (m ∷ []) (n ∷ []) (before_by_first m n [] [] lt))
bytes_before (x ∷ document) m n lt = before_by_rest x (content_address document m) (content_address document n) (bytes_before document m n lt)

bytes_up_to : (document : List ℕ) (m n : ℕ) → m ≤ n → IsUpTo (content_address document m) (content_address document n)
bytes_up_to document m n le = elim (cases_lt m n) [
  | inl lt ↦ upto_if_before (content_address document m) (content_address document n) (bytes_before document m n lt)
  | inr ge ↦ let same : m ≡ n = omega arith in subst (λ (k : ℕ). IsUpTo (content_address document m) (content_address document k)) same (upto_itself (content_address document m))
]

byte_order : (document : List ℕ) (m n : ℕ) → m ≤ n → is_lt (slice_cmp nat_cmp (content_address document n) (content_address document m)) ≡ false
byte_order document m n le = false_if_up_to (content_address document n) (content_address document m) (bytes_up_to document m n le)

abbrev pub byte_point : List ℕ → List ℕ → ℕ → Point
byte_point key content n = record { key = key; place = content_address content n }

same_key : (key : List ℕ) (r : Ordering) → is_lt (ordering_then (slice_cmp nat_cmp key key) r) ≡ is_lt r
same_key key r = ap (λ (k : Ordering). is_lt (ordering_then k r)) (tied_itself nat_list_cmp_total key)

-- a later byte is not before an earlier one
pub bytes_in_order : (key content : List ℕ) (m n : ℕ) → m ≤ n → is_point_before (byte_point key content n) (byte_point key content m) ≡ false
bytes_in_order key content m n le = same_key key (slice_cmp nat_cmp (content_address content n) (content_address content m)) ∙ byte_order content m n le

pub each_of : (P : List ℕ → Type 0) (document : List ℕ) (first count : ℕ) → ((n : ℕ) → first ≤ n → n < first + count → P (content_address document n)) → All P (addresses_from 1 document first count)
each_of P document first zero each = All-nil P
each_of P document first (suc count) each =
    All-cons P (content_address document first) (addresses_from 1 document (first + 1) count) (each first (omega arith) (omega arith)) (each_of P document (first + 1) count (λ n from to. each n (omega (arith, from)) (omega (arith, to))))

pub one_of : (P : List ℕ → Type 0) (document : List ℕ) (first count : ℕ) → All P (addresses_from 1 document first count) → (n : ℕ) → first ≤ n → n < first + count → P (content_address document n)
one_of P document first zero all n from to = absurd (omega arith)
one_of P document first (suc count) all n from to = elim (cases_lt first n) [
  | inl later ↦ one_of P document (first + 1) count (All-tail P (content_address document first) (addresses_from 1 document (first + 1) count) all) n (omega arith) (omega arith)
  | inr here ↦ let is : first ≡ n = omega arith in subst (λ (k : ℕ). P (content_address document k)) is (All-head P (content_address document first) (addresses_from 1 document (first + 1) count) all)
]

-- ---- up to a reach

pub before_on : (key content : List ℕ) (p reach : Point) (from mid : ℕ) → p ≡ byte_point key content mid → is_point_before p reach ≡ true → (n : ℕ) → from ≤ n → n < mid + 1 → is_point_before (byte_point key content n) reach ≡ true
before_on key content p reach from mid is before n ge lt =
    near_before (byte_point key content n) (byte_point key content mid) reach (bytes_in_order key content n mid (omega arith)) (ap (λ (x : Point). is_point_before x reach) (sym is) ∙ before)

pub beyond_on : (key content : List ℕ) (p reach : Point) (mid to : ℕ) → p ≡ byte_point key content mid → is_point_before p reach ≡ false → (n : ℕ) → mid ≤ n → n < to → is_point_before (byte_point key content n) reach ≡ false
beyond_on key content p reach mid to is beyond n ge lt =
    points_rank.chain (byte_point key content n) (byte_point key content mid) reach (bytes_in_order key content mid n (omega arith)) (ap (λ (x : Point). is_point_before x reach) (sym is) ∙ beyond)

not_less : (n m : ℕ) → m ≤ n → nat_lt n m ≡ false
not_less n m le = grind (arith, nat_tests)

pub told_by : (f : ℕ → Bool) (from to low high : ℕ) → ((n : ℕ) → from ≤ n → n < low → f n ≡ true) → ((n : ℕ) → high ≤ n → n < to → f n ≡ false) → high ≤ low → (n : ℕ) → from ≤ n → n < to → f n ≡ nat_lt n low
told_by f from to low high before beyond met n ge lt = elim (cases_lt n low) [
  | inl less ↦ before n ge less ∙ sym (lt-ltb n low less)
  | inr past ↦ beyond n (omega arith) lt ∙ sym (not_less n low past)
]

-- the bytes of a run from one on, of which it is told whether they come before a reach
abbrev pub AreTold : Run → Point → ℕ → ℕ → ℕ → Type 0
AreTold run reach at end next = (n : ℕ) → at ≤ n → n < end → is_point_before (byte_point run.origin run.content n) reach ≡ nat_lt n next

pub covered_up_to : (rows : List (Row (List ℕ))) (run : Run) (p reach : Point) (at end next : ℕ) → p ≡ byte_point run.origin run.content at → IsReachAt rows p reach → AreTold run reach at end next → next ≤ end
    → ((n : ℕ) → run.first ≤ n → n < at → IsCoveredBy rows run.origin (content_address run.content n)) → (n : ℕ) → run.first ≤ n → n < next → IsCoveredBy rows run.origin (content_address run.content n)
covered_up_to rows run p reach at end next is there told to before n from lt = elim (cases_lt n at) [
  | inl less ↦ before n from less
  | inr past ↦
      covered_on rows p (byte_point run.origin run.content n) reach there
      (ap (is_point_before (byte_point run.origin run.content n)) is ∙ bytes_in_order run.origin run.content at n past)
      (told n past (omega arith) ∙ lt-ltb n next lt)
]

pub never_covered : (rows : List (Row (List ℕ))) (run : Run) (p reach : Point) (at end next : ℕ) → p ≡ byte_point run.origin run.content at → IsReachAt rows p reach → AreTold run reach at end next
    → run.first ≤ at → at < end → end ≡ run.first + run.length → next ≡ at → IsRunCoveredBy rows run → ⊥
never_covered rows run p reach at end next is there told from lt end_is stays all =
    let covered : list_any (covers run.origin (content_address run.content at)) rows ≡ true = one_of (IsCoveredBy rows run.origin) run.content run.first run.length all at from (omega arith) in
    let not : nat_lt at next ≡ false = not_less at next (omega arith) in
    true≢false
    (sym covered
    ∙ ap (λ (x : Point). list_any (covers x.key x.place) rows) (sym is)
    ∙ covered_by_reach rows p reach there
    ∙ ap (λ (x : Point). is_point_before x reach) is ∙ told at (omega arith) lt ∙ not)

pub run_covered : (rows : List (Row (List ℕ))) (run : Run) (at end : ℕ) → end ≡ run.first + run.length → end ≤ at → ((n : ℕ) → run.first ≤ n → n < at → IsCoveredBy rows run.origin (content_address run.content n)) → IsRunCoveredBy rows run
run_covered rows run at end end_is done covered = each_of (IsCoveredBy rows run.origin) run.content run.first run.length (λ n from lt. covered n from (omega arith))

-- ---- the same rows in another order

pub covered_moved : (a b : List (Row (List ℕ))) → IsPermutation a b → (run : Run) → IsRunCoveredBy a run → IsRunCoveredBy b run
covered_moved a b moved run all =
    All-weaker (IsCoveredBy a run.origin) (IsCoveredBy b run.origin) (λ (address : List ℕ) h. sym (list_any-IsPermutation (covers run.origin address) a b moved) ∙ h) (addresses_from 1 run.content run.first run.length) all

pub all_moved : (a b : List (Row (List ℕ))) → IsPermutation a b → (runs : List Run) → All (IsRunCoveredBy a) runs ↔ All (IsRunCoveredBy b) runs
all_moved a b moved runs = (
  All-weaker (IsRunCoveredBy a) (IsRunCoveredBy b) (covered_moved a b moved) runs,
  All-weaker (IsRunCoveredBy b) (IsRunCoveredBy a) (covered_moved b a (IsPermutation-sym a b moved)) runs,
)
