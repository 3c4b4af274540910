-- Whether trees show content of spans, one span and one document after the other.
use Rattle.std.proofs.Common.{◌≡◌, ◌∙◌, ℕ, zero, suc, ◌+◌, ◌<◌, ◌≤◌, ◌==◌, ◌||◌, ◌++◌, Bool, true, false, not, List, [], ◌∷◌, length, take, map, get_or, cond, refl, sym, ap, arith, Option, None}
use Rattle.std.specs.Prelude.{filter, if◌then◌else◌}
use Rattle.std.specs.List.{list_any}
use Rattle.std.proofs.lemmas.Bool.Decides.{nat_tests}
use Rattle.std.proofs.lemmas.List.{take_more, take_all}
use Rattle.std.proofs.lemmas.List.Elements.{filter_more}
use Rattle.std.proofs.lemmas.List.Folds.{list_any-append}
use Rattle.tumbler.specs.declared.span.Span.{Span}
use Rattle.enfilade_core.specs.declared.tree.Node.{Node}
use Rattle.enfilade_core.specs.declared.tree.Row as placed
use Rattle.poom.specs.Laid.{texts, links}
use Rattle.poom.specs.Picked.{is_picked}
use Rattle.poom.specs.Runs.{stretches_on, is_next, interval, intervals}
use Rattle.poom.specs.Shown.{positions_in, intervals_in}
use Rattle.doc_table.specs.DocumentRows.{root_in}
use Rattle.tree_world.specs.Trees.{Trees, text_at, links_at}
use Rattle.tree_world.specs.inside.Seen.{has_picked, rows_show, shows}

abbrev some : {X : Type 0} → List X → Bool
some [] = false
some (x ∷ xs) = true

some_long : {X : Type 0} (xs : List X) (empty : Bool) → empty ≡ (length xs == 0) → not empty ≡ some xs
some_long [] empty e = ap not (e ∙ none)
  where
    none : (0 == 0) ≡ true
    none = grind (arith, nat_tests)
some_long (x ∷ xs) empty e = ap not (e ∙ more (length xs))
  where
    more : (n : ℕ) → (suc n == 0) ≡ false
    more n = grind (arith, nat_tests)

some_joined : {X : Type 0} (xs ys : List X) → some (xs ++ ys) ≡ (some xs || some ys)
some_joined [] ys = refl
some_joined (x ∷ xs) ys = refl

some_stretches : (part first last count : ℕ) (ns : List ℕ) → some (map (interval part) (stretches_on is_next first last count ns)) ≡ true
some_stretches part first last count [] = refl
some_stretches part first last count (n ∷ ns) = step (is_next last n) (some_stretches part first n (count + 1) ns)
  where
    step : (b : Bool) → some (map (interval part) (stretches_on is_next first n (count + 1) ns)) ≡ true
        → some (map (interval part) (cond b (stretches_on is_next first n (count + 1) ns) (record { first = first; count = count } ∷ stretches_on is_next n n 1 ns))) ≡ true
    step true rest = rest
    step false rest = refl

some_intervals : (part : ℕ) (ns : List ℕ) → some (intervals part ns) ≡ some ns
some_intervals part [] = refl
some_intervals part (n ∷ ns) = some_stretches part n n 1 ns

some_positions : (span : Span) (n : ℕ) (xs : List (List ℕ)) → some (positions_in span n xs) ≡ has_picked span xs
some_positions span n [] = refl
some_positions span n (x ∷ xs) = step (is_picked span x) (some_positions span (n + 1) xs)
  where
    step : (b : Bool) → some (positions_in span (n + 1) xs) ≡ has_picked span xs → some (cond b (n ∷ positions_in span (n + 1) xs) (positions_in span (n + 1) xs)) ≡ (b || has_picked span xs)
    step true rest = refl
    step false rest = rest

-- rows show content of a span where there is an interval of it
pub shown_is : (span : Span) (rows : List (placed.Row ℕ)) (found : List Span) (empty : Bool) → empty ≡ (length found == 0) → found ≡ intervals_in span rows → not empty ≡ ((has_picked span (texts rows) || has_picked span (links rows)) || false)
shown_is span rows found empty none is =
    some_long found empty none ∙ ap some is ∙ some_joined (intervals 1 (positions_in span 1 (texts rows))) (intervals 2 (positions_in span 1 (links rows)))
    ∙ (λ i. (some_intervals 1 (positions_in span 1 (texts rows)) ∙ some_positions span 1 (texts rows)) i || (some_intervals 2 (positions_in span 1 (links rows)) ∙ some_positions span 1 (links rows)) i)
    ∙ or_none (has_picked span (texts rows) || has_picked span (links rows))
  where
    or_none : (b : Bool) → b ≡ (b || false)
    or_none true = refl
    or_none false = refl

-- ---- one span more

or_no : (b : Bool) → (b || false) ≡ b
or_no true = refl
or_no false = refl

pub any_at : {X : Type 0} (p : X → Bool) (xs : List X) (i : ℕ) (d : X) → i < length xs → list_any p (take (i + 1) xs) ≡ (list_any p (take i xs) || p (get_or xs i d))
any_at p xs i d lt =
    ap (list_any p) (take_more xs i d lt) ∙ list_any-append p (take i xs) (get_or xs i d ∷ []) ∙ ap (λ (b : Bool). list_any p (take i xs) || b) (or_no (p (get_or xs i d)))

pub any_here : {X : Type 0} (p : X → Bool) (xs : List X) (i : ℕ) (d : X) → i < length xs → p (get_or xs i d) ≡ true → list_any p xs ≡ true
any_here p [] i d lt e = absurd (omega (arith, lt))
any_here p (x ∷ xs) zero d lt e = ap (λ (b : Bool). b || list_any p xs) e
any_here p (x ∷ xs) (suc i) d lt e = later (p x) (any_here p xs i d (omega (arith, lt)) e)
  where
    later : (b : Bool) → list_any p xs ≡ true → (b || list_any p xs) ≡ true
    later true h = refl
    later false h = h

pub show_none : (spans : List Span) (rows : List (placed.Row ℕ)) (i : ℕ) (span : Span) (here : Bool) → i < length spans → span ≡ get_or spans i span → here ≡ rows_show (span ∷ []) rows → here ≡ false → rows_show (take i spans) rows ≡ false
    → rows_show (take (i + 1) spans) rows ≡ false
show_none spans rows i span here lt at is no_one before =
    any_at (λ (s : Span). has_picked s (texts rows) || has_picked s (links rows)) spans i span lt
    ∙ (λ k. before k || (ap (λ (s : Span). has_picked s (texts rows) || has_picked s (links rows)) (sym at) ∙ sym (or_no (has_picked span (texts rows) || has_picked span (links rows))) ∙ sym is ∙ no_one) k)

pub show_one : (spans : List Span) (rows : List (placed.Row ℕ)) (i : ℕ) (span : Span) (here : Bool) → i < length spans → span ≡ get_or spans i span → here ≡ rows_show (span ∷ []) rows → here ≡ true → true ≡ rows_show spans rows
show_one spans rows i span here lt at is one =
    sym (any_here (λ (s : Span). has_picked s (texts rows) || has_picked s (links rows)) spans i span lt
    (ap (λ (s : Span). has_picked s (texts rows) || has_picked s (links rows)) (sym at) ∙ sym (or_no (has_picked span (texts rows) || has_picked span (links rows))) ∙ sym is ∙ one))

pub show_done : (spans : List Span) (rows : List (placed.Row ℕ)) (i : ℕ) → length spans ≤ i → rows_show (take i spans) rows ≡ false → false ≡ rows_show spans rows
show_done spans rows i le before = sym (ap (λ (ss : List Span). rows_show ss rows) (sym (take_all i spans le)) ∙ before)

pub show_nothing : (spans : List Span) → false ≡ list_any (λ (span : Span). has_picked span [] || has_picked span []) spans
show_nothing [] = refl
show_nothing (span ∷ spans) = show_nothing spans

-- ---- one document more

pub kept_at : (p : List ℕ → Bool) (documents : List (List ℕ)) (i : ℕ) (document : List ℕ) (old new : List (List ℕ)) → i < length documents → document ≡ get_or documents i document → old ≡ filter p (take i documents) → new ≡ old ++ (if p document then document ∷ [] else [])
    → new ≡ filter p (take (i + 1) documents)
kept_at p documents i document old new lt at before more =
    more ∙ (λ k. before k ++ (if p (at k) then at k ∷ [] else [])) ∙ sym (filter_more p documents i document lt)

-- what is no document shows nothing
pub no_tree : (trees shown : Trees) (spans : List Span) (document : List ℕ) (found : Option Node) → trees ≡ shown → found ≡ root_in trees.documents document → found ≡ None → false ≡ shows shown spans document
no_tree trees shown spans document found same is none =
    show_nothing spans ∙ ap (λ (root : Option Node). list_any (λ (span : Span). has_picked span (text_at trees.nodes root) || has_picked span (links_at trees.nodes root)) spans) (sym none ∙ is)
    ∙ ap (λ (t : Trees). shows t spans document) same
