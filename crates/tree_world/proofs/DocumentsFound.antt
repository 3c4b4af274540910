-- The documents that are found are those that show what specs pick.
use Rattle.std.proofs.Common.{◌≡◌, ◌∙◌, ◌⊎◌, inl, inr, ℕ, zero, suc, ◌+◌, ◌&&◌, ◌||◌, ◌++◌, Bool, true, false, not, List, [], ◌∷◌, Option, Some, None, map, cond, refl, sym, ap, subst, arith, true≢false, All}
use Rattle.std.specs.Prelude.{filter, IsTrue}
use Rattle.std.specs.List.{list_any, find, flat_map, AllByRecursion}
use Rattle.std.specs.BTreeMap.{is_at}
use Rattle.std.specs.Option.{option_map}
use Rattle.std.specs.declared.cmp.Ordering.{Ordering}
use Rattle.std.specs.declared.cmp.Ordering.TheVariants.{Less, Equal, Greater}
use Rattle.std.specs.Ordering.{nat_cmp, is_eq, is_lt, ordering_reverse}
use Rattle.std.specs.Cmp.Lexicographic.{slice_cmp, nat_list_cmp_total}
use Rattle.std.proofs.lemmas.List.Elements.{All-head, All-tail}
use Rattle.std.proofs.lemmas.List.Folds.{list_any-append}
use Rattle.std.proofs.lemmas.List.Sorted.{list_any-IsPermutation}
use Rattle.std.proofs.lemmas.Map.Lookups.{btree_set_from_contains}
use Rattle.tumbler.specs.Address.{IsDocument}
use Rattle.tumbler.specs.Places.{IsBefore, IsUpTo, comes_before, sum}
use Rattle.tumbler.specs.Span.{end_of}
use Rattle.tumbler.specs.declared.span.Span.{Span}
use Rattle.tumbler.proofs.Before.{true_if_before, before_if_true, up_to_if_false}
use Rattle.tumbler.proofs.Order.{upto_before, same_if_tied}
use Rattle.febe_data.specs.declared.run.Run.{Run}
use Rattle.febe_data.specs.Plain.{PlainSpec}
use Rattle.enfilade_core.specs.declared.tree.Node.{Node}
use Rattle.enfilade_core.specs.declared.tree.Row as placed
use Rattle.enfilade_core.specs.Axes.{later}
use Rattle.enfilade_core.specs.Rows.{Shape}
use Rattle.enfilade_search.specs.Meeting.{touches}
use Rattle.doc_table.specs.declared.rows.DocumentRow.{DocumentRow}
use Rattle.doc_table.specs.DocumentRows.{documents_in, root_in, is_of}
use Rattle.spanfilade.specs.Index.{rows_in_index, row_end}
use Rattle.spanfilade.specs.Keys.{is_met, is_met_by, keys_of, keys_met, with_keys}
use Rattle.tumbler.proofs.InOrder.{left_ascend}
use Rattle.spanfilade.proofs.Ascending.{among, with_keys-among, with_keys-ascends, none_ascends}
use Rattle.links.specs.LinkLists.{run_span}
use Rattle.poom.specs.declared.piece.Piece.{Piece}
use Rattle.poom.specs.Edited.{IsContentRun, run_addresses}
use Rattle.poom.specs.Laid.{IsRoot}
use Rattle.poom.specs.Picked.{is_picked}
use Rattle.poom.specs.Pieces.{IsPiece, address_in, addresses_from, laid}
use Rattle.world_rules.specs.declared.rows.Row.{Row}
use Rattle.world_rules.specs.World.{is_same, is_text, is_text_of, is_link_of, ascending, account_of_session}
use Rattle.world_rules.specs.Readable.{is_readable}
use Rattle.world_rules.specs.Edits.{new_rows}
use Rattle.world_rules.specs.Picking.{is_between, picked_addresses}
use Rattle.world_rules.specs.Finding.{shows_one_of, documents_found}
use Rattle.world_rules.specs.FlatView.{FlatView}
use Rattle.tree_world.specs.Trees.{Trees, text_at, links_at, text_in, links_in}
use Rattle.tree_world.specs.Standing.{Stands, link_rows, covers}
use Rattle.tree_world.specs.inside.Reads.{reads_in, shows_for}
use Rattle.tree_world.specs.inside.Seen.{has_picked, shows, addresses_by_specs}
use Rattle.tree_world.proofs.Options.{none_there}
use Rattle.tree_world.proofs.MayRead.{reads_are}
use Rattle.tree_world.proofs.Looked.{found_holds}
use Rattle.tree_world.proofs.Within.{IsMade, same_is, same_made, run_has}
use Rattle.tree_world.proofs.Retrieved.{run_end}
use Rattle.tree_world.proofs.Seen.{between_is, text_seen}

-- ---- tests of lists

yes_or_no : (b : Bool) → (b ≡ true) ⊎ (b ≡ false)
yes_or_no true = inl refl
yes_or_no false = inr refl

and_first : (a b : Bool) → (a && b) ≡ true → a ≡ true
and_first true b e = refl
and_first false b e = absurd (true≢false (sym e))

and_second : (a b : Bool) → (a && b) ≡ true → b ≡ true
and_second true b e = e
and_second false b e = absurd (true≢false (sym e))

and_both : (a b : Bool) → a ≡ true → b ≡ true → (a && b) ≡ true
and_both true true e f = refl
and_both false b e f = absurd (true≢false (sym e))
and_both true false e f = absurd (true≢false (sym f))

or_first : (a b : Bool) → a ≡ true → (a || b) ≡ true
or_first true b e = refl
or_first false b e = absurd (true≢false (sym e))

or_second : (a b : Bool) → b ≡ true → (a || b) ≡ true
or_second true b e = refl
or_second false b e = e

or_cases : (a b : Bool) → (a || b) ≡ true → (a ≡ true) ⊎ (b ≡ true)
or_cases true b e = inl refl
or_cases false b e = inr e

any_alike : {X : Type 0} (P : X → Type 0) (p q : X → Bool) → ((x : X) → P x → p x ≡ q x) → (xs : List X) → AllByRecursion P xs → list_any p xs ≡ list_any q xs
any_alike P p q alike [] all = refl
any_alike P p q alike (x ∷ xs) all = λ i. alike x all.0 i || any_alike P p q alike xs all.1 i

any_more : {X : Type 0} (p q : X → Bool) → ((x : X) → p x ≡ true → q x ≡ true) → (xs : List X) → list_any p xs ≡ true → list_any q xs ≡ true
any_more p q more [] e = e
any_more p q more (x ∷ xs) e = elim (or_cases (p x) (list_any p xs) e) [
  | inl here ↦ or_first (q x) (list_any q xs) (more x here)
  | inr there ↦ or_second (q x) (list_any q xs) (any_more p q more xs there)
]

any_none : {X : Type 0} (xs : List X) → list_any (λ (x : X). false) xs ≡ false
any_none [] = refl
any_none (x ∷ xs) = any_none xs

any_or : {X : Type 0} (p q : X → Bool) (xs : List X) → list_any (λ x. p x || q x) xs ≡ (list_any p xs || list_any q xs)
any_or p q [] = refl
any_or p q (x ∷ xs) = ap (λ (b : Bool). (p x || q x) || b) (any_or p q xs) ∙ across (p x) (q x) (list_any p xs) (list_any q xs)
  where
    across : (a b c d : Bool) → ((a || b) || (c || d)) ≡ ((a || c) || (b || d))
    across true b c d = refl
    across false true true d = refl
    across false true false d = refl
    across false false c d = refl

any_swap : {X Y : Type 0} (r : X → Y → Bool) (xs : List X) (ys : List Y) → list_any (λ x. list_any (r x) ys) xs ≡ list_any (λ y. list_any (λ x. r x y) xs) ys
any_swap r xs [] = any_none xs
any_swap r xs (y ∷ ys) = any_or (λ x. r x y) (λ x. list_any (r x) ys) xs ∙ ap (λ (b : Bool). list_any (λ x. r x y) xs || b) (any_swap r xs ys)

-- ---- the rows of a document

any_of_document : (p : List ℕ → Bool) (document : List ℕ) (rows : List Row)
    → list_any (λ (row : Row). is_same row.document document && p row.address) rows ≡ (list_any (λ (row : Row). p row.address) (filter (is_text_of document) rows) || list_any (λ (row : Row). p row.address) (filter (is_link_of document) rows))
any_of_document p document [] = refl
any_of_document p document (row ∷ rows) = step (is_text row.part) (is_same row.document document) (any_of_document p document rows)
  where
    shown : List Row → Bool
    shown some = list_any (λ (r : Row). p r.address) some

    or_front : (x a b : Bool) → (x || (a || b)) ≡ ((x || a) || b)
    or_front true a b = refl
    or_front false a b = refl

    or_middle : (x a b : Bool) → (x || (a || b)) ≡ (a || (x || b))
    or_middle true true b = refl
    or_middle true false b = refl
    or_middle false a b = refl

    step : (t s : Bool) → list_any (λ (r : Row). is_same r.document document && p r.address) rows ≡ (list_any (λ (r : Row). p r.address) (filter (is_text_of document) rows) || list_any (λ (r : Row). p r.address) (filter (is_link_of document) rows))
        → ((s && p row.address) || list_any (λ (r : Row). is_same r.document document && p r.address) rows)
        ≡ (list_any (λ (r : Row). p r.address) (cond (t && s) (row ∷ filter (is_text_of document) rows) (filter (is_text_of document) rows)) || list_any (λ (r : Row). p r.address) (cond (not t && s) (row ∷ filter (is_link_of document) rows) (filter (is_link_of document) rows)))
    step true true rest = ap (λ (b : Bool). p row.address || b) rest ∙ or_front (p row.address) (list_any (λ (r : Row). p r.address) (filter (is_text_of document) rows)) (list_any (λ (r : Row). p r.address) (filter (is_link_of document) rows))
    step false true rest = ap (λ (b : Bool). p row.address || b) rest ∙ or_middle (p row.address) (list_any (λ (r : Row). p r.address) (filter (is_text_of document) rows)) (list_any (λ (r : Row). p r.address) (filter (is_link_of document) rows))
    step true false rest = rest
    step false false rest = rest

any_text : (p : List ℕ → Bool) (document : List ℕ) (n : ℕ) (xs : List (List ℕ)) → list_any (λ (row : Row). p row.address) (new_rows document n xs) ≡ list_any p xs
any_text p document n [] = refl
any_text p document n (x ∷ xs) = ap (λ (b : Bool). p x || b) (any_text p document (n + 1) xs)

any_link : (p : List ℕ → Bool) (document : List ℕ) (n : ℕ) (xs : List (List ℕ)) → list_any (λ (row : Row). p row.address) (link_rows document n xs) ≡ list_any p xs
any_link p document n [] = refl
any_link p document n (x ∷ xs) = ap (λ (b : Bool). p x || b) (any_link p document (n + 1) xs)

-- ---- addresses of bytes and links

-- the n-th byte or link of a document
pub record IsOf (part : ℕ) (address : List ℕ) : Type 0 where
  pub document : List ℕ
  pub number : ℕ
  pub is : address ≡ address_in part document number
  pub is_document : IsDocument document

is_made : (part : ℕ) (a : List ℕ) → IsOf part a → IsMade a
is_made part a of = record { document = of.document; part = part; number = of.number; is = of.is; is_document = of.is_document }

all_joined : (P : List ℕ → Type 0) (xs ys : List (List ℕ)) → AllByRecursion P xs → AllByRecursion P ys → AllByRecursion P (xs ++ ys)
all_joined P [] ys h k = k
all_joined P (x ∷ xs) ys h k = (h.0, all_joined P xs ys h.1 k)

piece_made : (part : ℕ) (document : List ℕ) (first count : ℕ) → IsDocument document → AllByRecursion (IsOf part) (addresses_from part document first count)
piece_made part document first zero is = tt
piece_made part document first (suc count) is = (record { document = document; number = first; is = refl; is_document = is }, piece_made part document (first + 1) count is)

laid_made : (part : ℕ) (pieces : List Piece) → All IsPiece pieces → AllByRecursion (IsOf part) (laid part pieces)
laid_made part [] all = tt
laid_made part (piece ∷ pieces) all =
    all_joined (IsOf part) (addresses_from part piece.document piece.first piece.count) (laid part pieces) (piece_made part piece.document piece.first piece.count (All-head IsPiece piece pieces all).document) (laid_made part pieces (All-tail IsPiece piece pieces all))

text_made : (nodes : List (Shape ℕ)) (rows : List (DocumentRow Node)) (document : List ℕ) → All (λ (row : DocumentRow Node). IsRoot nodes row.root.0) rows → AllByRecursion (IsOf 1) (text_at nodes (root_in rows document))
text_made nodes rows document all = step (find (is_of document) rows) refl
  where
    step : (found : Option (DocumentRow Node)) → find (is_of document) rows ≡ found → AllByRecursion (IsOf 1) (text_at nodes (option_map (λ (row : DocumentRow Node). row.root) found))
    step None e = tt
    step (Some row) e = laid_made 1 _ (found_holds (λ r. IsRoot nodes r.root.0) rows document row all e).document.text_pieces

links_made : (nodes : List (Shape ℕ)) (rows : List (DocumentRow Node)) (document : List ℕ) → All (λ (row : DocumentRow Node). IsRoot nodes row.root.0) rows → AllByRecursion (IsOf 2) (links_at nodes (root_in rows document))
links_made nodes rows document all = step (find (is_of document) rows) refl
  where
    step : (found : Option (DocumentRow Node)) → find (is_of document) rows ≡ found → AllByRecursion (IsOf 2) (links_at nodes (option_map (λ (row : DocumentRow Node). row.root) found))
    step None e = tt
    step (Some row) e = laid_made 2 _ (found_holds (λ r. IsRoot nodes r.root.0) rows document row all e).document.link_pieces

-- ---- the spans of runs

-- an address is one of the runs' bytes where it is in one of their spans
in_runs : (runs : List Run) → All IsContentRun runs → (a : List ℕ) → IsMade a → list_any (is_same a) (run_addresses runs) ≡ list_any (λ (span : Span). is_picked span a) (map run_span runs)
in_runs [] all a made = refl
in_runs (run ∷ runs) all a made =
    list_any-append (is_same a) (addresses_from 1 run.content run.first run.length) (run_addresses runs)
    ∙ (λ i. sym one i || in_runs runs (All-tail IsContentRun run runs all) a made i)
  where
    one : is_picked (run_span run) a ≡ list_any (is_same a) (addresses_from 1 run.content run.first run.length)
    one =
        ap (λ (end : List ℕ). not (comes_before a (address_in 1 run.content run.first)) && comes_before a end) (run_end run)
        ∙ run_has run.content run.first run.length a (All-head IsContentRun run runs all).document made

-- a link is none of them
not_byte : (document : List ℕ) (first count : ℕ) → IsDocument document → (a : List ℕ) → IsOf 2 a → list_any (is_same a) (addresses_from 1 document first count) ≡ false
not_byte document first zero is a link = refl
not_byte document first (suc count) is a link = step (is_same a (address_in 1 document first)) refl (not_byte document (first + 1) count is a link)
  where
    second : List ℕ → ℕ
    second [] = 0
    second (x ∷ xs) = x

    step : (b : Bool) → is_same a (address_in 1 document first) ≡ b → list_any (is_same a) (addresses_from 1 document (first + 1) count) ≡ false → (b || list_any (is_same a) (addresses_from 1 document (first + 1) count)) ≡ false
    step true e rest =
        let parts = same_made link.document document (2 ∷ link.number ∷ []) (1 ∷ first ∷ []) link.is_document is (sym link.is ∙ same_is a (address_in 1 document first) e) in
        absurd (omega (arith, ap second parts.1))
    step false e rest = rest

no_link : (runs : List Run) → All IsContentRun runs → (a : List ℕ) → IsOf 2 a → list_any (is_same a) (run_addresses runs) ≡ false
no_link [] all a link = refl
no_link (run ∷ runs) all a link =
    list_any-append (is_same a) (addresses_from 1 run.content run.first run.length) (run_addresses runs)
    ∙ (λ i. not_byte run.content run.first run.length (All-head IsContentRun run runs all).document a link i || no_link runs (All-tail IsContentRun run runs all) a link i)

-- ---- keys

own_equal : (r : Ordering) → r ≡ ordering_reverse r → is_eq r ≡ true
own_equal Less e = absurd (true≢false (ap is_lt e))
own_equal Equal e = refl
own_equal Greater e = absurd (true≢false (ap is_lt (sym e)))

key_here : (q k : List ℕ) → is_same k q ≡ true → is_eq (slice_cmp nat_cmp q k) ≡ true
key_here q k e = subst (λ (x : List ℕ). is_eq (slice_cmp nat_cmp q x) ≡ true) (sym (same_is k q e)) (own_equal (slice_cmp nat_cmp q q) (nat_list_cmp_total.antisymm q q))

key_is : (q k : List ℕ) → is_eq (slice_cmp nat_cmp q k) ≡ true → q ≡ k
key_is q k e = same_if_tied q k (tied (slice_cmp nat_cmp q k) e)
  where
    tied : (r : Ordering) → is_eq r ≡ true → r ≡ Equal
    tied Less f = absurd (true≢false (sym f))
    tied Equal f = refl
    tied Greater f = absurd (true≢false (sym f))

key_among : (q : List ℕ) (keys : List (List ℕ)) → list_any (λ (k : List ℕ). is_same k q) keys ≡ true → among q keys ≡ true
key_among q keys e = any_more (λ (k : List ℕ). is_same k q) (is_at (slice_cmp nat_cmp q)) (key_here q) keys e

-- of some keys, those that pass
among_passing : (p : List ℕ → Bool) (q : List ℕ) (keys : List (List ℕ)) → among q (filter p keys) ≡ (among q keys && p q)
among_passing p q [] = refl
among_passing p q (k ∷ keys) = step (is_eq (slice_cmp nat_cmp q k)) (p k) refl refl (among_passing p q keys)
  where
    step : (at pass : Bool) → is_eq (slice_cmp nat_cmp q k) ≡ at → p k ≡ pass → among q (filter p keys) ≡ (among q keys && p q) → among q (cond pass (k ∷ filter p keys) (filter p keys)) ≡ ((at || among q keys) && p q)
    step true true e f rest = ap (λ (b : Bool). b || among q (filter p keys)) e ∙ sym (ap p (key_is q k e) ∙ f)
    step true false e f rest =
        let fails : p q ≡ false = ap p (key_is q k e) ∙ f in
        rest ∙ ap (λ (b : Bool). among q keys && b) fails ∙ none (among q keys) ∙ sym fails
      where
        none : (b : Bool) → (b && false) ≡ false
        none true = refl
        none false = refl
    step false true e f rest = ap (λ (b : Bool). b || among q (filter p keys)) e ∙ rest
    step false false e f rest = rest

-- a row of the index that covers an address of the span meets the span
row_met : (span : Span) (q a : List ℕ) (row : placed.Row (List ℕ)) → is_picked span a ≡ true → covers q a row ≡ true → (is_met span row && is_same row.second q) ≡ true
row_met span q a row picked covered =
    let of_key = and_first (is_same row.second q) (is_between row.first (row_end row) a) covered in
    let inside : is_picked (record { start = row.first; width = row.leaf }) a ≡ true = sym (between_is (record { start = row.first; width = row.leaf }) a) ∙ and_second (is_same row.second q) (is_between row.first (row_end row) a) covered in
    and_both (is_met span row) (is_same row.second q) (met row.leaf inside) of_key
  where
    front : (a b : Bool) → (not a && b) ≡ true → a ≡ false
    front true b e = absurd (true≢false (sym e))
    front false b e = refl

    back : (a b : Bool) → (not a && b) ≡ true → b ≡ true
    back true b e = absurd (true≢false (sym e))
    back false b e = e

    never : (b : Bool) → (not b && b) ≡ true → ⊥
    never true e = true≢false (sym e)
    never false e = true≢false (sym e)

    up_to : IsUpTo span.start a
    up_to = up_to_if_false a span.start (front (comes_before a span.start) (comes_before a (end_of span)) picked)

    ends : IsBefore a (end_of span)
    ends = before_if_true a (end_of span) (back (comes_before a span.start) (comes_before a (end_of span)) picked)

    later_up_to : IsUpTo row.first a → (b : Bool) → IsUpTo (cond b row.first span.start) a
    later_up_to le true = le
    later_up_to le false = up_to

    met : (leaf : List ℕ) → is_picked (record { start = row.first; width = leaf }) a ≡ true → touches span.start (end_of span) row.first leaf ≡ true
    met [] e = absurd (never (comes_before a row.first) e)
    met (x ∷ leaf) e =
        let le = later_up_to (up_to_if_false a row.first (front (comes_before a row.first) (comes_before a (sum row.first (x ∷ leaf))) e)) (comes_before span.start row.first) in
        let lt = before_if_true a (sum row.first (x ∷ leaf)) (back (comes_before a row.first) (comes_before a (sum row.first (x ∷ leaf))) e) in
        and_both (comes_before (later span.start row.first) (end_of span)) (comes_before (later span.start row.first) (sum row.first (x ∷ leaf)))
        (true_if_before (later span.start row.first) (end_of span) (upto_before (later span.start row.first) a (end_of span) le ends))
        (true_if_before (later span.start row.first) (sum row.first (x ∷ leaf)) (upto_before (later span.start row.first) a (sum row.first (x ∷ leaf)) le lt))

-- a row of the document that is met by the span
met_by_one : (rows : List (placed.Row (List ℕ))) (q : List ℕ) (span : Span) (xs : List (List ℕ)) → All (λ (a : List ℕ). IsTrue (list_any (covers q a) rows)) xs → has_picked span xs ≡ true
    → list_any (λ (row : placed.Row (List ℕ)). is_met span row && is_same row.second q) rows ≡ true
met_by_one rows q span [] all e = absurd (true≢false (sym e))
met_by_one rows q span (x ∷ xs) all e = elim (or_cases (is_picked span x) (has_picked span xs) e) [
  | inl here ↦ any_more (covers q x) (λ (row : placed.Row (List ℕ)). is_met span row && is_same row.second q) (λ row covered. row_met span q x row here covered) rows (All-head (λ (a : List ℕ). IsTrue (list_any (covers q a) rows)) x xs all)
  | inr there ↦ met_by_one rows q span xs (All-tail (λ (a : List ℕ). IsTrue (list_any (covers q a) rows)) x xs all) there
]

met_by_some : (rows : List (placed.Row (List ℕ))) (q : List ℕ) (spans : List Span) (xs : List (List ℕ)) → All (λ (a : List ℕ). IsTrue (list_any (covers q a) rows)) xs → list_any (λ (span : Span). has_picked span xs) spans ≡ true
    → list_any (λ (row : placed.Row (List ℕ)). is_met_by spans row && is_same row.second q) rows ≡ true
met_by_some rows q [] xs all e = absurd (true≢false (sym e))
met_by_some rows q (span ∷ spans) xs all e = elim (or_cases (has_picked span xs) (list_any (λ (s : Span). has_picked s xs) spans) e) [
  | inl here ↦ any_more (λ (row : placed.Row (List ℕ)). is_met span row && is_same row.second q) (λ (row : placed.Row (List ℕ)). (is_met span row || is_met_by spans row) && is_same row.second q)
      (λ row h. and_both (is_met span row || is_met_by spans row) (is_same row.second q) (or_first (is_met span row) (is_met_by spans row) (and_first (is_met span row) (is_same row.second q) h)) (and_second (is_met span row) (is_same row.second q) h)) rows (met_by_one rows q span xs all here)
  | inr there ↦ any_more (λ (row : placed.Row (List ℕ)). is_met_by spans row && is_same row.second q) (λ (row : placed.Row (List ℕ)). (is_met span row || is_met_by spans row) && is_same row.second q)
      (λ row h. and_both (is_met span row || is_met_by spans row) (is_same row.second q) (or_second (is_met span row) (is_met_by spans row) (and_first (is_met_by spans row) (is_same row.second q) h)) (and_second (is_met_by spans row) (is_same row.second q) h)) rows (met_by_some rows q spans xs all there)
]

-- its key is among those of the rows that are met
key_met : (rows : List (placed.Row (List ℕ))) (q : List ℕ) (spans : List Span) → list_any (λ (row : placed.Row (List ℕ)). is_met_by spans row && is_same row.second q) rows ≡ true → among q (keys_of (filter (is_met_by spans) rows)) ≡ true
key_met [] q spans e = absurd (true≢false (sym e))
key_met (row ∷ rows) q spans e = step (is_met_by spans row) (key_met rows q spans) e
  where
    step : (b : Bool) → (list_any (λ (r : placed.Row (List ℕ)). is_met_by spans r && is_same r.second q) rows ≡ true → among q (keys_of (filter (is_met_by spans) rows)) ≡ true)
        → ((b && is_same row.second q) || list_any (λ (r : placed.Row (List ℕ)). is_met_by spans r && is_same r.second q) rows) ≡ true → among q (keys_of (cond b (row ∷ filter (is_met_by spans) rows) (filter (is_met_by spans) rows))) ≡ true
    step true rest h = elim (or_cases (is_same row.second q) (list_any (λ (r : placed.Row (List ℕ)). is_met_by spans r && is_same r.second q) rows) h) [
      | inl here ↦ or_first (is_eq (slice_cmp nat_cmp q row.second)) (among q (keys_of (filter (is_met_by spans) rows))) (key_here q row.second here)
      | inr there ↦ or_second (is_eq (slice_cmp nat_cmp q row.second)) (among q (keys_of (filter (is_met_by spans) rows))) (rest there)
    ]
    step false rest h = rest h

-- a document that has a tree is one of the table's
there_if_some : (rows : List (DocumentRow Node)) (q : List ℕ) (root : Node) → root_in rows q ≡ Some root → list_any (λ (k : List ℕ). is_same k q) (documents_in rows) ≡ true
there_if_some [] q root e = absurd (none_there root (sym e))
there_if_some (row ∷ rows) q root e = step (is_of q row) (there_if_some rows q root) e
  where
    step : (b : Bool) → (root_in rows q ≡ Some root → list_any (λ (k : List ℕ). is_same k q) (documents_in rows) ≡ true) → option_map (λ (r : DocumentRow Node). r.root) (cond b (Some row) (find (is_of q) rows)) ≡ Some root
        → (b || list_any (λ (k : List ℕ). is_same k q) (documents_in rows)) ≡ true
    step true rest h = refl
    step false rest h = rest h

-- ---- in a world that trees stand for

module _ (trees : Trees) (view : FlatView) (stands : Stands trees view) (roots : All (λ (row : DocumentRow Node). IsRoot trees.nodes row.root.0) trees.documents) (runs : List Run) (all : All IsContentRun runs) where
  made_alike : (part : ℕ) (xs : List (List ℕ)) → AllByRecursion (IsOf part) xs → list_any (λ (a : List ℕ). list_any (is_same a) (run_addresses runs)) xs ≡ list_any (λ (span : Span). has_picked span xs) (map run_span runs)
  made_alike part xs of =
      any_alike (IsOf part) (λ (a : List ℕ). list_any (is_same a) (run_addresses runs)) (λ (a : List ℕ). list_any (λ (span : Span). is_picked span a) (map run_span runs)) (λ a made. in_runs runs all a (is_made part a made)) xs of
      ∙ any_swap (λ (a : List ℕ) (span : Span). is_picked span a) xs (map run_span runs)

  -- a document shows some of the runs' bytes in the trees where it does in the world
  shows_seen : (document : List ℕ) → shows_one_of view.world (run_addresses runs) document ≡ shows trees (map run_span runs) document
  shows_seen document =
      any_of_document (λ (a : List ℕ). list_any (is_same a) (run_addresses runs)) document view.world.rows
      ∙ (λ i. (ap (list_any (λ (row : Row). list_any (is_same row.address) (run_addresses runs))) (stands.texts document) ∙ any_text (λ (a : List ℕ). list_any (is_same a) (run_addresses runs)) document 1 (text_in trees document) ∙ made_alike 1 (text_in trees document) (text_made trees.nodes trees.documents document roots)) i
      || (ap (list_any (λ (row : Row). list_any (is_same row.address) (run_addresses runs))) (stands.links document) ∙ any_link (λ (a : List ℕ). list_any (is_same a) (run_addresses runs)) document 1 (links_in trees document) ∙ made_alike 2 (links_in trees document) (links_made trees.nodes trees.documents document roots)) i)
      ∙ sym (any_or (λ (span : Span). has_picked span (text_in trees document)) (λ (span : Span). has_picked span (links_in trees document)) (map run_span runs))

  -- it does by its text
  by_text : (document : List ℕ) → shows trees (map run_span runs) document ≡ true → list_any (λ (span : Span). has_picked span (text_in trees document)) (map run_span runs) ≡ true
  by_text document e = elim (or_cases (list_any (λ (span : Span). has_picked span (text_in trees document)) (map run_span runs)) (list_any (λ (span : Span). has_picked span (links_in trees document)) (map run_span runs)) (sym (any_or (λ (span : Span). has_picked span (text_in trees document)) (λ (span : Span). has_picked span (links_in trees document)) (map run_span runs)) ∙ e)) [
    | inl text ↦ text
    | inr linked ↦ absurd (true≢false (sym linked ∙ sym (made_alike 2 (links_in trees document) (links_made trees.nodes trees.documents document roots)) ∙ any_alike (IsOf 2) (λ (a : List ℕ). list_any (is_same a) (run_addresses runs)) (λ (a : List ℕ). false) (no_link runs all) (links_in trees document) (links_made trees.nodes trees.documents document roots) ∙ any_none (links_in trees document)))
  ]

  -- its key is met
  key_there : (document : List ℕ) → shows trees (map run_span runs) document ≡ true → among document (keys_met (map run_span runs) (rows_in_index trees.index)) ≡ true
  key_there document e =
      with_keys-among (keys_of (filter (is_met_by (map run_span runs)) (rows_in_index trees.index))) [] document
      ∙ key_met (rows_in_index trees.index) document (map run_span runs) (met_by_some (rows_in_index trees.index) document (map run_span runs) (text_in trees document) (stands.covered document) (by_text document e))

  -- and it is a document
  document_there : (document : List ℕ) → shows trees (map run_span runs) document ≡ true → among document (with_keys [] view.world.documents) ≡ true
  document_there document e = with_keys-among view.world.documents [] document ∙ sym (list_any-IsPermutation (is_at (slice_cmp nat_cmp document)) (documents_in trees.documents) view.world.documents stands.documents) ∙ step (root_in trees.documents document) refl (by_text document e)
    where
      step : (found : Option Node) → root_in trees.documents document ≡ found → list_any (λ (span : Span). has_picked span (text_at trees.nodes found)) (map run_span runs) ≡ true → among document (documents_in trees.documents) ≡ true
      step None f h = absurd (true≢false (sym h ∙ any_none (map run_span runs)))
      step (Some root) f h = key_among document (documents_in trees.documents) (there_if_some trees.documents document root f)

  and_alike : (a b s : Bool) → (s ≡ true → a ≡ true) → (s ≡ true → b ≡ true) → (a && s) ≡ (b && s)
  and_alike a b true f g = λ i. (f refl ∙ sym (g refl)) i && true
  and_alike true true false f g = refl
  and_alike true false false f g = refl
  and_alike false true false f g = refl
  and_alike false false false f g = refl

  module _ (may : List ℕ → Bool) where
    abbrev shown_for : List ℕ → Bool
    shown_for document = may document && shows trees (map run_span runs) document

    abbrev found_for : List ℕ → Bool
    found_for document = may document && shows_one_of view.world (run_addresses runs) document

    found_alike : (document : List ℕ) → among document (filter shown_for (keys_met (map run_span runs) (rows_in_index trees.index))) ≡ among document (ascending (filter found_for view.world.documents))
    found_alike document =
        among_passing shown_for document (keys_met (map run_span runs) (rows_in_index trees.index))
        ∙ and_alike (among document (keys_met (map run_span runs) (rows_in_index trees.index))) (among document view.world.documents) (shown_for document) (λ e. key_there document (and_second (may document) (shows trees (map run_span runs) document) e))
        (λ e. sym (with_keys-among view.world.documents [] document) ∙ document_there document (and_second (may document) (shows trees (map run_span runs) document) e))
        ∙ ap (λ (b : Bool). among document view.world.documents && (may document && b)) (sym (shows_seen document))
        ∙ sym (among_passing found_for document view.world.documents)
        ∙ sym (with_keys-among (filter found_for view.world.documents) [] document)

    pub found_is : filter shown_for (keys_met (map run_span runs) (rows_in_index trees.index)) ≡ ascending (filter found_for view.world.documents)
    found_is =
        btree_set_from_contains nat_list_cmp_total (record { keys = filter shown_for (keys_met (map run_span runs) (rows_in_index trees.index)) }) (record { keys = ascending (filter found_for view.world.documents) })
        (left_ascend (slice_cmp nat_cmp) shown_for (keys_met (map run_span runs) (rows_in_index trees.index)) (with_keys-ascends (keys_of (filter (is_met_by (map run_span runs)) (rows_in_index trees.index))) [] none_ascends))
        (with_keys-ascends (filter found_for view.world.documents) [] none_ascends)
        found_alike same_if_tied

-- the addresses that specs pick
addresses_seen : (trees : Trees) (view : FlatView) (stands : Stands trees view) (specs : List PlainSpec) → picked_addresses view.world specs ≡ addresses_by_specs trees specs
addresses_seen trees view stands specs = λ i. flat_map (λ (spec : PlainSpec). flat_map (λ (span : Span). text_seen view.world spec.document (text_in trees spec.document) span (stands.texts spec.document) i) spec.spans) specs

pub documents_are : (trees : Trees) (view : FlatView) → Stands trees view → All (λ (row : DocumentRow Node). IsRoot trees.nodes row.root.0) trees.documents → (session : ℕ) (account : Option (List ℕ)) → account ≡ account_of_session view.world session → (specs : List PlainSpec)
    → (runs : List Run) → All IsContentRun runs → run_addresses runs ≡ addresses_by_specs trees specs
    → (spans : List Span) (run_slice : List Run) (met documents made : List (List ℕ)) (span_slice : List Span)
    → run_slice ≡ runs → spans ≡ map run_span run_slice → met ≡ keys_met spans (rows_in_index trees.index) → documents ≡ met → span_slice ≡ spans → made ≡ filter (shows_for trees account span_slice) documents
    → made ≡ documents_found view.world session specs
documents_are trees view stands roots session account drawn specs runs all addresses spans run_slice met documents made span_slice a b d e f g =
    let spans_are : spans ≡ map run_span runs = b ∙ ap (map run_span) a in
    g ∙ (λ i. filter (shows_for trees account ((f ∙ spans_are) i)) ((e ∙ d ∙ ap (λ (ss : List Span). keys_met ss (rows_in_index trees.index)) spans_are) i))
    ∙ found_is trees view stands roots runs all (reads_in trees account)
    ∙ (λ i. ascending (filter (λ (document : List ℕ). reads_are trees view stands session account drawn document i && shows_one_of view.world (run_addresses runs) document) view.world.documents))
    ∙ ap (λ (xs : List (List ℕ)). ascending (filter (λ (document : List ℕ). is_readable view.world session document && shows_one_of view.world xs document) view.world.documents)) (addresses ∙ sym (addresses_seen trees view stands specs))
