-- Intervals that are put together one after another.
use Rattle.std.proofs.Common.{◌≡◌, ◌≢◌, ℕ, zero, suc, ◌+◌, ◌-◌, ◌^◌, ◌<◌, ◌≤◌, true, false, List, [], ◌∷◌, ◌++◌, length, take, map, get_or, refl, arith, ap, sym, subst, ◌∙◌, append_assoc, append-nil}
use Rattle.std.specs.List.{All}
use Rattle.std.proofs.lemmas.Bool.Decides.{nat_tests}
use Rattle.std.proofs.lemmas.List.{take_more, take_all}
use Rattle.std.proofs.lemmas.List.Elements.{All-get_or}
use Rattle.std.proofs.lemmas.Grind.{flat_map-append}
use Rattle.tumbler.specs.Places.{width_at}
use Rattle.tumbler.specs.declared.span.Span.{Span}
use Rattle.enfilade_core.specs.declared.tree.Row.{Row}
use Rattle.poom.specs.declared.shown.Interval.{Interval}
use Rattle.poom.specs.Runs.{is_next, interval, intervals}
use Rattle.poom.specs.Positions.{positions_from, positions_of, IsInterval, shown_by, shown_by_all, IsPieceRow, StandFor}
use Rattle.poom.proofs.Stretched.{IsChain, IsBreak, one_stretch}

-- ---- positions one after another

next_is : (n : ℕ) → is_next n (n + 1) ≡ true
next_is n = grind (arith, nat_tests)

not_next : (a b : ℕ) → b ≢ a + 1 → is_next a b ≡ false
not_next a b h = grind (arith, nat_tests)

chained : (n count last : ℕ) → last ≡ n + count → IsChain is_next n (positions_from (n + 1) count) last
chained n zero last e = omega arith
chained n (suc count) last e = (next_is n, chained (n + 1) count last (omega arith))

length-positions : (n count : ℕ) → length (positions_from n count) ≡ count
length-positions n zero = refl
length-positions n (suc count) = ap suc (length-positions (n + 1) count)

pub positions-append : (n k m l : ℕ) → m ≡ n + k → positions_from n (k + l) ≡ positions_from n k ++ positions_from m l
positions-append n zero m l e =
    let same : n ≡ m = omega arith in
    let none : 0 + l ≡ l = omega arith in
    ap (positions_from n) none ∙ ap (λ (x : ℕ). positions_from x l) same
positions-append n (suc k) m l e =
    let one : suc k + l ≡ suc (k + l) = omega arith in
    ap (positions_from n) one ∙ ap (λ (ps : List ℕ). n ∷ ps) (positions-append (n + 1) k m l (omega arith))

-- ---- an interval, and what comes behind it

alone : (part n k last : ℕ) (rest : List ℕ) → last ≡ n + k → IsBreak is_next last rest → intervals part (positions_from n (suc k) ++ rest) ≡ record { start = part ∷ n ∷ []; width = 0 ∷ suc k ∷ [] } ∷ intervals part rest
alone part n k last rest e behind =
    let long = length-positions (n + 1) k in
    ap (map (interval part)) (one_stretch is_next n last (suc k) (positions_from (n + 1) k) rest (chained n k last e) (omega arith) behind)

by_itself : (part n k : ℕ) → intervals part (positions_from n (suc k)) ≡ record { start = part ∷ n ∷ []; width = 0 ∷ suc k ∷ [] } ∷ []
by_itself part n k = ap (intervals part) (sym (append-nil (positions_from n (suc k)))) ∙ alone part n k (n + k) [] refl tt

pub behind_break : (part n count : ℕ) (rest : List ℕ) → IsBreak is_next ((n + count) - 1) rest → intervals part (positions_from n count ++ rest) ≡ intervals part (positions_from n count) ++ intervals part rest
behind_break part n zero rest behind = refl
behind_break part n (suc k) rest behind =
    let last : (n + suc k) - 1 ≡ n + k = omega arith in
    alone part n k (n + k) rest refl (subst (λ (l : ℕ). IsBreak is_next l rest) last behind)
    ∙ ap (λ (front : List Span). front ++ intervals part rest) (sym (by_itself part n k))

-- positions that begin elsewhere
apart : (last n count : ℕ) (rest : List ℕ) → count ≢ 0 → n ≢ last + 1 → IsBreak is_next last (positions_from n count ++ rest)
apart last n zero rest some h = absurd (some refl)
apart last n (suc count) rest some h = not_next last n h

-- ---- closing

pub nothing_closed : (part : ℕ) (held : Interval) (spans : List Span) → held.count ≡ 0 → spans ≡ spans ++ intervals part (positions_of held)
nothing_closed part held spans none = sym (ap (λ (n : ℕ). spans ++ intervals part (positions_from held.start n)) none ∙ append-nil spans)

one_span : (part n count : ℕ) → count ≢ 0 → intervals part (positions_from n count) ≡ record { start = part ∷ n ∷ []; width = width_at 2 count } ∷ []
one_span part n zero some = absurd (some refl)
one_span part n (suc k) some = by_itself part n k

pub closed : (part : ℕ) (held : Interval) (start width : List ℕ) (old new : List Span) → held.count ≢ 0 → start ≡ part ∷ held.start ∷ [] → width ≡ width_at 2 held.count → new ≡ old ++ record { start = start; width = width } ∷ []
    → new ≡ old ++ intervals part (positions_of held)
closed part held start width old new some s w e =
    e ∙ (ap (λ (at : List ℕ). old ++ record { start = at; width = width } ∷ []) s
    ∙ (ap (λ (wide : List ℕ). old ++ record { start = part ∷ held.start ∷ []; width = wide } ∷ []) w
    ∙ ap (λ (spans : List Span). old ++ spans) (sym (one_span part held.start held.count some))))

pub place_of : (held : Interval) → IsInterval held → 1 ≤ held.start
place_of held is = is.from_one

pub ruleset closing = (nothing_closed, closed, place_of)

-- ---- following

pub stays_open : (part : ℕ) (held next : Interval) (spans : List Span) → next.count ≡ 0 → StandFor part spans (positions_of held ++ positions_of next) spans held
stays_open part held next spans none = λ rest.
    ap (λ (n : ℕ). spans ++ intervals part ((positions_of held ++ positions_from next.start n) ++ rest)) none ∙ ap (λ (ps : List ℕ). spans ++ intervals part (ps ++ rest)) (append-nil (positions_of held))

pub longer_open : (part : ℕ) (held next now : Interval) (spans : List Span) → held.start + held.count ≡ next.start → now.start ≡ held.start → now.count ≡ held.count + next.count
    → StandFor part spans (positions_of held ++ positions_of next) spans now
longer_open part held next now spans touches start count = λ rest.
    ap (λ (ps : List ℕ). spans ++ intervals part (ps ++ rest)) (sym
    (ap (λ (n : ℕ). positions_from n now.count) start ∙ (ap (positions_from held.start) count ∙ positions-append held.start held.count next.start next.count (sym touches))))

pub next_open : (part : ℕ) (held next : Interval) (old new : List Span) → next.count ≢ 0 → held.start + held.count ≢ next.start → IsInterval held → new ≡ old ++ intervals part (positions_of held)
    → StandFor part old (positions_of held ++ positions_of next) new next
next_open part held next old new some elsewhere is e = λ rest.
    let one = is.from_one in
    let there : next.start ≢ ((held.start + held.count) - 1) + 1 = (λ same. elsewhere (omega arith)) in
    ap (λ (ps : List ℕ). old ++ intervals part ps) (append_assoc (positions_of held) (positions_of next) rest)
    ∙ (ap (λ (spans : List Span). old ++ spans) (behind_break part held.start held.count (positions_of next ++ rest) (apart ((held.start + held.count) - 1) next.start next.count rest some there))
    ∙ (sym (append_assoc old (intervals part (positions_of held)) (intervals part (positions_of next ++ rest)))
    ∙ ap (λ (spans : List Span). spans ++ intervals part (positions_of next ++ rest)) (sym e)))

pub longer_well_formed : (held next now : Interval) → IsInterval held → IsInterval next → held.start + held.count ≡ next.start → now.start ≡ held.start → now.count ≡ held.count + next.count → IsInterval now
longer_well_formed held next now is also touches start count =
    let one = is.from_one in
    let room = also.fits in
    record { from_one = omega arith; fits = omega arith }

pub open_room : (held : Interval) → IsInterval held → held.start + held.count < 2 ^ 32
open_room held is = is.fits

pub joined_room : (held next : Interval) → IsInterval next → held.start + held.count ≡ next.start → held.count + next.count < 2 ^ 32
joined_room held next also touches = let room = also.fits in omega arith

pub ruleset following = (stays_open, longer_open, next_open, longer_well_formed, open_room, joined_room)

-- ---- all rows

pub nothing_shown : (part : ℕ) (span : Span) (spans : List Span) (rows : List (Row ℕ)) (held : Interval) → rows ≡ [] → held.count ≡ 0 → StandFor part spans (shown_by_all part span rows) spans held
nothing_shown part span spans rows held none empty = λ rest.
    ap (λ (rs : List (Row ℕ)). spans ++ intervals part (shown_by_all part span rs ++ rest)) none ∙ ap (λ (n : ℕ). spans ++ intervals part (positions_from held.start n ++ rest)) (sym empty)

shown-more : (part : ℕ) (span : Span) (rows : List (Row ℕ)) (i : ℕ) (row : Row ℕ) → i < length rows → row ≡ get_or rows i row → shown_by_all part span (take (i + 1) rows) ≡ shown_by_all part span (take i rows) ++ shown_by part span row
shown-more part span rows i row h is =
    ap (shown_by_all part span) (take_more rows i row h)
    ∙ (flat_map-append (shown_by part span) (take i rows) (get_or rows i row ∷ [])
    ∙ ap (λ (ps : List ℕ). shown_by_all part span (take i rows) ++ ps) (append-nil (shown_by part span (get_or rows i row)) ∙ ap (shown_by part span) (sym is)))

pub one_row_more : (part : ℕ) (span : Span) (rows : List (Row ℕ)) (i : ℕ) (row : Row ℕ) (before spans new : List Span) (held next now : Interval) → i < length rows → row ≡ get_or rows i row
    → StandFor part before (shown_by_all part span (take i rows)) spans held → positions_of next ≡ shown_by part span row → StandFor part spans (positions_of held ++ positions_of next) new now
    → StandFor part before (shown_by_all part span (take (i + 1) rows)) new now
one_row_more part span rows i row before spans new held next now h is so shown step = λ rest.
    ap (λ (ps : List ℕ). before ++ intervals part (ps ++ rest)) (shown-more part span rows i row h is ∙ ap (λ (ps : List ℕ). shown_by_all part span (take i rows) ++ ps) (sym shown))
    ∙ (ap (λ (ps : List ℕ). before ++ intervals part ps) (append_assoc (shown_by_all part span (take i rows)) (positions_of next) rest)
    ∙ (so (positions_of next ++ rest)
    ∙ (ap (λ (ps : List ℕ). spans ++ intervals part ps) (sym (append_assoc (positions_of held) (positions_of next) rest))
    ∙ step rest)))

pub all_rows : (part : ℕ) (span : Span) (rows : List (Row ℕ)) (i : ℕ) (before spans new : List Span) (held : Interval) → length rows ≤ i → StandFor part before (shown_by_all part span (take i rows)) spans held
    → new ≡ spans ++ intervals part (positions_of held) → new ≡ before ++ intervals part (shown_by_all part span rows)
all_rows part span rows i before spans new held h so e =
    e
    ∙ (ap (λ (ps : List ℕ). spans ++ intervals part ps) (sym (append-nil (positions_of held)))
    ∙ (sym (so [])
    ∙ (ap (λ (ps : List ℕ). before ++ intervals part ps) (append-nil (shown_by_all part span (take i rows)))
    ∙ ap (λ (rs : List (Row ℕ)). before ++ intervals part (shown_by_all part span rs)) (take_all i rows h))))

pub own_row : (rows : List (Row ℕ)) (k : ℕ) (row : Row ℕ) → row ≡ get_or rows k row → k < length rows → All IsPieceRow rows → IsPieceRow row
own_row rows k row is h each = subst IsPieceRow (sym is) (All-get_or IsPieceRow rows k row h each)

pub first_open : (held : Interval) → held.start ≡ 1 → held.count ≡ 0 → IsInterval held
first_open held start count = record { from_one = omega arith; fits = omega arith }

pub ruleset showing = (nothing_shown, one_row_more, all_rows, own_row, first_open)
