-- An exchange in the rows of a bottom node that keeps its origin.
use Rattle.std.proofs.Common.{◌≡◌, inl, inr, not, ℕ, suc, ◌≤◌, ◌<◌, true, false, List, [], ◌∷◌, ◌++◌, length, get_or, take, drop, map, refl, arith, ap, ◌∙◌, sym, subst}
use Rattle.std.specs.List.{All}
use Rattle.std.proofs.lemmas.List.{length-map, length-take-le, map-append, take-map, drop-map}
use Rattle.std.proofs.lemmas.List.Elements.{All-head, All-tail, All-nil, All-cons, All-map, All-append, All-filter, All-drop}
use Rattle.tumbler.specs.Places.{EndsWell, IsUpTo, comes_before, sum, difference}
use Rattle.tumbler.specs.Laws.{StandsBefore}
use Rattle.tumbler.proofs.Alls.{All-front, All-back}
use Rattle.tumbler.proofs.Before.{up_to_if_false}
use Rattle.tumbler.proofs.Sums.{sum-upto, sum_comes_after}
use Rattle.tumbler.proofs.SumOrder.{EndsWell-difference}
use Rattle.tumbler.proofs.Differences.{difference_undoes_sum}
use Rattle.enfilade_core.specs.declared.tree.Row.{Row}
use Rattle.enfilade_core.specs.declared.gap.Gap.{Gap}
use Rattle.enfilade_core.specs.Rows.{moved}
use Rattle.enfilade_core.specs.Axes.{Widths, IsWellFormedRow, IsWellFormedRows}
use Rattle.enfilade_core.specs.Plain.{plain_row}
use Rattle.enfilade_core.specs.Edits.{taken_out, is_within, shift_coordinate, shift_row, shifted}
use Rattle.enfilade_core.specs.Exchange.{rows_before, rows_past, exchanged}
use Rattle.enfilade_core.specs.Packing.{back}
use Rattle.enfilade_core.specs.Touched.{IsSeenFrom, StaysPast, KeepsOrigin}
use Rattle.enfilade_core.proofs.Tells.{stands_off}
use Rattle.enfilade_core.proofs.GoneThrough.{mapped_at, item-well_formed}
use Rattle.enfilade_core.proofs.PackedOrigins.{stands_further}
use Rattle.enfilade_core.proofs.PackedRows.{RowIsSeen, seen-if_all_before}
use Rattle.enfilade_core.proofs.ExchangeLists.{NoneBefore, moved_past, split-front, split-back, split-between}
use Rattle.enfilade_core.proofs.ExchangeBottom.{count-short, count-later, count-plain, map-taken, map-dropped, past_passes, shift-is}
use Rattle.enfilade_core.proofs.SeenPlaces.{shift-still}

-- ---- rows seen from an origin, and where they stand

back-moved : {L : Type 0} (w : Widths L) (a b : List ℕ) (rows : List (Row L)) → All (IsWellFormedRow w) rows → map (back a b) (map (moved a b) rows) ≡ rows
back-moved w a b [] h = refl
back-moved {L} w a b (row ∷ rows) h =
    let well_formed = All-head (IsWellFormedRow w) row rows h in
    ap (λ (r : Row L). r ∷ map (back a b) (map (moved a b) rows)) (
    ap (λ (x : List ℕ). record row { first = x; second = difference (sum b row.second) b }) (difference_undoes_sum a row.first well_formed.first_coordinate.ends)
    ∙ ap (λ (x : List ℕ). record row { second = x }) (difference_undoes_sum b row.second well_formed.second_coordinate.ends))
    ∙ ap (λ (rs : List (Row L)). row ∷ rs) (back-moved w a b rows (All-tail (IsWellFormedRow w) row rows h))

count-seen : {L : Type 0} (w : Widths L) (at a b seen : List ℕ) (rows : List (Row L)) → IsSeenFrom at a seen → All (IsWellFormedRow w) rows → length (rows_before seen rows) ≡ length (rows_before at (map (moved a b) rows))
count-seen w at a b seen [] s h = refl
count-seen {L} w at a b seen (row ∷ rows) s h =
    let rest = count-seen w at a b seen rows s (All-tail (IsWellFormedRow w) row rows h) in
    let ends = (All-head (IsWellFormedRow w) row rows h).first_coordinate.ends in
    elim (comes_before row.first seen) as (λ t. comes_before row.first seen ≡ t → length (rows_before seen (row ∷ rows)) ≡ length (rows_before at (map (moved a b) (row ∷ rows)))) [
      | true ↦ λ e. rw (e, s.before row.first e) (ap (λ (n : ℕ). suc n) rest)
      | false ↦ λ e. rw (e, s.past row.first ends e) rest
    ] refl

-- as many come before the coordinate as it is seen, as stand before it
pub count-there : {L : Type 0} (plain : L → L) (w : Widths L) (at a b seen : List ℕ) (old : List (Row L)) (n : ℕ) → IsSeenFrom at a seen → All (IsWellFormedRow w) (map (plain_row plain) old) → n ≡ length (rows_before seen old) → n ≡ length (rows_before at (map (moved a b) (map (plain_row plain) old)))
count-there plain w at a b seen old n s own is = is ∙ count-plain plain seen old ∙ count-seen w at a b seen (map (plain_row plain) old) s own

-- what is known where rows that stay are copied as they are
pub record KeptAt {L : Type 0} (plain : L → L) (w : Widths L) (a b : List ℕ) (gap : Gap) (old : List (Row L)) (n m : ℕ) : Type 0 where
  pub up_to : IsUpTo gap.from gap.to
  pub own : All (IsWellFormedRow w) (map (plain_row plain) old)
  pub there : IsWellFormedRows w (map (moved a b) (map (plain_row plain) old))
  pub before : n ≡ length (rows_before gap.from (map (moved a b) (map (plain_row plain) old)))
  pub behind : m ≡ length (rows_before gap.to (map (moved a b) (map (plain_row plain) old)))

pub record KeptCounts {L : Type 0} (old : List (Row L)) (n m : ℕ) : Type 0 where
  pub short : n ≤ length old
  pub few : m ≤ length old
  pub later : n ≤ m

pub kept-counts : {L : Type 0} (plain : L → L) (w : Widths L) (a b : List ℕ) (gap : Gap) (old : List (Row L)) (n m : ℕ) → KeptAt plain w a b gap old n m → KeptCounts old n m
kept-counts plain w a b gap old n m at =
    let there = map (moved a b) (map (plain_row plain) old) in
    let long : length there ≡ length old = length-map (map (plain_row plain) old) (moved a b) ∙ length-map old (plain_row plain) in
    record {
      short = omega (arith, long, at.before, count-short gap.from there);
      few = omega (arith, long, at.behind, count-short gap.to there);
      later = omega (arith, at.before, at.behind, count-later gap.from gap.to there at.up_to);
    }

kept-before : {L : Type 0} (plain : L → L) (w : Widths L) (a b : List ℕ) (gap : Gap) (old : List (Row L)) (n m : ℕ) (before : List (Row L)) → KeptAt plain w a b gap old n m → before ≡ take n old → map (plain_row plain) before ≡ map (back a b) (rows_before gap.from (map (moved a b) (map (plain_row plain) old)))
kept-before {L} plain w a b gap old n m before at is =
    let own = map (plain_row plain) old in
    let there = map (moved a b) own in
    ap (map (plain_row plain)) is ∙ map-taken (plain_row plain) n old ∙ ap (take n) (sym (back-moved w a b own at.own)) ∙ take-map (back a b) n there
    ∙ ap (map (back a b)) (ap (λ (k : ℕ). take k there) at.before ∙ split-front gap.from there at.there.ordered)

pub kept-past : {L : Type 0} (plain : L → L) (w : Widths L) (a b : List ℕ) (gap : Gap) (old : List (Row L)) (n m : ℕ) (past : List (Row L)) → KeptAt plain w a b gap old n m → past ≡ drop m old → map (moved a b) (map (plain_row plain) past) ≡ rows_past gap.to (map (moved a b) (map (plain_row plain) old))
kept-past {L} plain w a b gap old n m past at is =
    let own = map (plain_row plain) old in
    let there = map (moved a b) own in
    ap (map (moved a b)) (ap (map (plain_row plain)) is ∙ map-dropped (plain_row plain) m old) ∙ sym (drop-map (moved a b) m own)
    ∙ ap (λ (k : ℕ). drop k there) at.behind ∙ split-back gap.to there at.there.ordered

pub kept-past_own : {L : Type 0} (plain : L → L) (w : Widths L) (a b : List ℕ) (gap : Gap) (old : List (Row L)) (n m : ℕ) (past : List (Row L)) → KeptAt plain w a b gap old n m → past ≡ drop m old → All (IsWellFormedRow w) (map (plain_row plain) past)
kept-past_own plain w a b gap old n m past at is =
    subst (All (IsWellFormedRow w)) (sym (ap (map (plain_row plain)) is ∙ map-dropped (plain_row plain) m old)) (All-drop (IsWellFormedRow w) m (map (plain_row plain) old) at.own)

pub kept-past_there : {L : Type 0} (plain : L → L) (w : Widths L) (a b : List ℕ) (gap : Gap) (old : List (Row L)) (n m : ℕ) (past : List (Row L)) → KeptAt plain w a b gap old n m → past ≡ drop m old → All (IsWellFormedRow w) (map (moved a b) (map (plain_row plain) past))
kept-past_there plain w a b gap old n m past at is =
    subst (All (IsWellFormedRow w)) (sym (kept-past plain w a b gap old n m past at is)) (All-filter (λ row. not (comes_before row.first gap.to)) (IsWellFormedRow w) (map (moved a b) (map (plain_row plain) old)) at.there.each)

pub kept-within : {L : Type 0} (plain : L → L) (w : Widths L) (a b : List ℕ) (gap : Gap) (old : List (Row L)) (n m : ℕ) (within : List (Row L)) → KeptAt plain w a b gap old n m → within ≡ drop (length (take n old)) (take m old)
    → map (moved a b) (map (plain_row plain) within) ≡ taken_out gap.from gap.to (map (moved a b) (map (plain_row plain) old))
kept-within {L} plain w a b gap old n m within at is =
    let own = map (plain_row plain) old in
    let there = map (moved a b) own in
    let counts = kept-counts plain w a b gap old n m at in
    ap (λ (rs : List (Row L)). map (moved a b) (map (plain_row plain) rs)) (is ∙ ap (λ (k : ℕ). drop k (take m old)) (length-take-le n old counts.short))
    ∙ ap (map (moved a b)) (map-dropped (plain_row plain) n (take m old) ∙ ap (drop n) (map-taken (plain_row plain) m old))
    ∙ map-dropped (moved a b) n (take m own) ∙ ap (drop n) (map-taken (moved a b) m own)
    ∙ ap (λ (k : ℕ). drop k (take m there)) at.before
    ∙ ap (λ (k : ℕ). drop (length (rows_before gap.from there)) (take k there)) at.behind
    ∙ split-between gap.from gap.to there at.there.ordered at.up_to

pub kept-within_there : {L : Type 0} (plain : L → L) (w : Widths L) (a b : List ℕ) (gap : Gap) (old : List (Row L)) (n m : ℕ) (within : List (Row L)) → KeptAt plain w a b gap old n m → within ≡ drop (length (take n old)) (take m old) → All (IsWellFormedRow w) (map (moved a b) (map (plain_row plain) within))
kept-within_there plain w a b gap old n m within at is =
    subst (All (IsWellFormedRow w)) (sym (kept-within plain w a b gap old n m within at is)) (All-filter (is_within gap.from gap.to) (IsWellFormedRow w) (map (moved a b) (map (plain_row plain) old)) at.there.each)

pub kept-made : {L : Type 0} (plain : L → L) (w : Widths L) (a b : List ℕ) (gap : Gap) (old : List (Row L)) (n m : ℕ) (new none first second third before past : List (Row L)) → KeptAt plain w a b gap old n m → before ≡ take n old → past ≡ drop m old
    → none ≡ [] → first ≡ none ++ map (plain_row plain) before → second ≡ first ++ map (back a b) new → third ≡ second ++ map (back a b) (shifted gap.to gap.onto (map (moved a b) (map (plain_row plain) past)))
    → third ≡ map (back a b) (exchanged gap new (map (moved a b) (map (plain_row plain) old)))
kept-made {L} plain w a b gap old n m new none first second third before past at before_is past_is e0 e1 e2 e3 =
    let there = map (moved a b) (map (plain_row plain) old) in
    let front = rows_before gap.from there in
    let behind = moved_past gap there in
    let b1 : first ≡ map (back a b) front = e1 ∙ ap (λ (r : List (Row L)). r ++ map (plain_row plain) before) e0 ∙ kept-before plain w a b gap old n m before at before_is in
    e3 ∙ ap (λ (r : List (Row L)). second ++ map (back a b) (shifted gap.to gap.onto r)) (kept-past plain w a b gap old n m past at past_is)
    ∙ ap (λ (r : List (Row L)). r ++ map (back a b) behind) (e2 ∙ ap (λ (r : List (Row L)). r ++ map (back a b) new) b1 ∙ sym (map-append (back a b) front new))
    ∙ sym (map-append (back a b) (front ++ new) behind)

-- ---- one row that moves

pub shift-past : (a to onto coordinate : List ℕ) → comes_before coordinate to ≡ false → EndsWell coordinate → StandsBefore a onto → StandsBefore a (shift_coordinate to onto coordinate)
shift-past a to onto coordinate e ends s =
    subst (StandsBefore a) (sym (shift-is to onto coordinate e)) (stands_further a onto (sum onto (difference coordinate to)) s (sum-upto onto (difference coordinate to) (EndsWell-difference coordinate to ends (up_to_if_false coordinate to e))))

-- a row behind the gap that moves with it
pub record PastAt {L : Type 0} (w : Widths L) (a b : List ℕ) (gap : Gap) (row : Row L) : Type 0 where
  pub fits : IsWellFormedRow w (moved a b row)
  pub past : comes_before (sum a row.first) gap.to ≡ false
  pub well_formed : IsWellFormedRow w (shift_row gap.to gap.onto (moved a b row))

pub row-past : {L : Type 0} (plain : L → L) (w : Widths L) (a b : List ℕ) (gap : Gap) (rows : List (Row L)) (i : ℕ) (row : Row L) → i < length rows → row ≡ get_or rows i row → All (IsWellFormedRow w) (map (moved a b) (map (plain_row plain) rows)) → NoneBefore gap.to (map (moved a b) (map (plain_row plain) rows))
    → All (IsWellFormedRow w) (shifted gap.to gap.onto (map (moved a b) (map (plain_row plain) rows))) → PastAt w a b gap (plain_row plain row)
row-past plain w a b gap rows i row lt is fits past well_formed =
    let there = map (moved a b) (map (plain_row plain) rows) in
    let m = mapped_at (plain_row plain) rows i row lt is in
    let n = mapped_at (moved a b) (map (plain_row plain) rows) i (plain_row plain row) m.short m.at in
    let q = mapped_at (shift_row gap.to gap.onto) there i (moved a b (plain_row plain row)) n.short n.at in
    record {
      fits = item-well_formed (IsWellFormedRow w) there i (moved a b (plain_row plain row)) n.short n.at fits;
      past = item-well_formed (λ r. comes_before r.first gap.to ≡ false) there i (moved a b (plain_row plain row)) n.short n.at past;
      well_formed = item-well_formed (IsWellFormedRow w) (shifted gap.to gap.onto there) i (shift_row gap.to gap.onto (moved a b (plain_row plain row))) q.short q.at well_formed;
    }

pub shifted-back : {L : Type 0} (plain : L → L) (row : Row L) (a b to onto coordinate distance stands first second : List ℕ) (leaf : L) → EndsWell row.second → comes_before (sum a row.first) to ≡ false → coordinate ≡ sum a row.first → distance ≡ difference coordinate to → stands ≡ sum onto distance → first ≡ difference stands a → second ≡ row.second → plain leaf ≡ plain row.leaf
    → plain_row plain (record { first = first; second = second; leaf = leaf }) ≡ back a b (shift_row to onto (moved a b (plain_row plain row)))
shifted-back {L} plain row a b to onto coordinate distance stands first second leaf ends past e0 e1 e2 e3 e4 e5 =
    let is : first ≡ difference (shift_coordinate to onto (sum a row.first)) a =
    e3 ∙ ap (λ (x : List ℕ). difference x a) (e2 ∙ ap (sum onto) (e1 ∙ ap (λ (x : List ℕ). difference x to) e0) ∙ sym (shift-is to onto (sum a row.first) past)) in
    let same : second ≡ difference (sum b row.second) b = e4 ∙ sym (difference_undoes_sum b row.second ends) in
    ap (λ (x : List ℕ). record { first = x; second = second; leaf = plain leaf }) is
    ∙ ap (λ (x : List ℕ). record { first = difference (shift_coordinate to onto (sum a row.first)) a; second = x; leaf = plain leaf }) same
    ∙ ap (λ (x : L). record { first = difference (shift_coordinate to onto (sum a row.first)) a; second = difference (sum b row.second) b; leaf = x }) e5

-- rows behind a gap behind which nothing moves
pub still-back : {L : Type 0} (w : Widths L) (a b : List ℕ) (gap : Gap) (rows : List (Row L)) → gap.to ≡ gap.onto → All (IsWellFormedRow w) rows → NoneBefore gap.to (map (moved a b) rows) → rows ≡ map (back a b) (shifted gap.to gap.onto (map (moved a b) rows))
still-back {L} w a b gap rows same own past =
    sym (ap (map (back a b)) (ap (λ (x : List ℕ). shifted gap.to x (map (moved a b) rows)) (sym same) ∙ shift-still gap.to (map (moved a b) rows) past) ∙ back-moved w a b rows own)

-- ---- all rows are seen from the origin

moved-seen : {L : Type 0} (w : Widths L) (a b : List ℕ) (rows : List (Row L)) → All (IsWellFormedRow w) rows → All (RowIsSeen w a b) (map (moved a b) rows)
moved-seen w a b [] h = All-nil (RowIsSeen w a b)
moved-seen w a b (row ∷ rows) h =
    let well_formed = All-head (IsWellFormedRow w) row rows h in
    let far = stands_off w row well_formed in
    All-cons (RowIsSeen w a b) (moved a b row) (map (moved a b) rows) record {
      first = record { up_to = sum-upto a row.first well_formed.first_coordinate.ends; before = λ strict. sum_comes_after a row.first well_formed.first_coordinate.ends (far.first strict) };
      second = record { up_to = sum-upto b row.second well_formed.second_coordinate.ends; before = λ strict. sum_comes_after b row.second well_formed.second_coordinate.ends (far.second strict) };
    } (moved-seen w a b rows (All-tail (IsWellFormedRow w) row rows h))

shifted-seen : {L : Type 0} (w : Widths L) (a b to onto : List ℕ) (rows : List (Row L)) → StandsBefore a onto → All (RowIsSeen w a b) rows → All (IsWellFormedRow w) rows → NoneBefore to rows → All (IsWellFormedRow w) (shifted to onto rows) → All (RowIsSeen w a b) (shifted to onto rows)
shifted-seen w a b to onto [] s seen fits past well_formed = All-nil (RowIsSeen w a b)
shifted-seen {L} w a b to onto (row ∷ rows) s seen fits past well_formed =
    let P : Row L → Type 0 = λ r. comes_before r.first to ≡ false in
    let moves = shift_row to onto row in
    let far = stands_off w moves (All-head (IsWellFormedRow w) moves (shifted to onto rows) well_formed) in
    let stands = shift-past a to onto row.first (All-head P row rows past) (All-head (IsWellFormedRow w) row rows fits).first_coordinate.ends s in
    All-cons (RowIsSeen w a b) moves (shifted to onto rows) record {
      first = record { up_to = stands.up_to; before = λ strict. stands.before (far.first strict) };
      second = (All-head (RowIsSeen w a b) row rows seen).second;
    } (shifted-seen w a b to onto rows s (All-tail (RowIsSeen w a b) row rows seen) (All-tail (IsWellFormedRow w) row rows fits) (All-tail P row rows past) (All-tail (IsWellFormedRow w) moves (shifted to onto rows) well_formed))

past-seen : {L : Type 0} (w : Widths L) (a b : List ℕ) (gap : Gap) (rows : List (Row L)) → StaysPast a gap → All (RowIsSeen w a b) rows → All (IsWellFormedRow w) rows → NoneBefore gap.to rows → All (IsWellFormedRow w) (shifted gap.to gap.onto rows) → All (RowIsSeen w a b) (shifted gap.to gap.onto rows)
past-seen {L} w a b gap rows (inl same) seen fits past well_formed = subst (λ (x : List ℕ). All (RowIsSeen w a b) (shifted gap.to x rows)) same (subst (All (RowIsSeen w a b)) (sym (shift-still gap.to rows past)) seen)
past-seen w a b gap rows (inr stands) seen fits past well_formed = shifted-seen w a b gap.to gap.onto rows stands seen fits past well_formed

pub kept-seen : {L : Type 0} (plain : L → L) (w : Widths L) (a b : List ℕ) (gap : Gap) (new rows : List (Row L)) → KeepsOrigin a b gap new → All (IsWellFormedRow w) rows → All (IsWellFormedRow w) (map (moved a b) rows) → All (IsWellFormedRow w) (exchanged gap (map (plain_row plain) new) (map (moved a b) rows))
    → All (RowIsSeen w a b) (exchanged gap (map (plain_row plain) new) (map (moved a b) rows))
kept-seen {L} plain w a b gap new rows keeps own fits well_formed =
    let there = map (moved a b) rows in
    let more = map (plain_row plain) new in
    let front = rows_before gap.from there in
    let past = rows_past gap.to there in
    let seen = moved-seen w a b rows own in
    let news = All-back (IsWellFormedRow w) front more (All-front (IsWellFormedRow w) (front ++ more) (moved_past gap there) well_formed) in
    All-append (RowIsSeen w a b) (front ++ more) (moved_past gap there)
    (All-append (RowIsSeen w a b) front more (All-filter (λ row. comes_before row.first gap.from) (RowIsSeen w a b) there seen)
    (seen-if_all_before w a b more (All-map (λ r. StandsBefore a r.first) (plain_row plain) new keeps.first) (All-map (λ r. StandsBefore b r.second) (plain_row plain) new keeps.second) news))
    (past-seen w a b gap past keeps.stays (All-filter (λ row. not (comes_before row.first gap.to)) (RowIsSeen w a b) there seen) (All-filter (λ row. not (comes_before row.first gap.to)) (IsWellFormedRow w) there fits) (past_passes gap.to there) (All-back (IsWellFormedRow w) (front ++ more) (moved_past gap there) well_formed))
