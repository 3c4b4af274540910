-- Tests ask whether the rows that an edit would leave are well formed, and call it then.
use Rattle.std.proofs.Common.{◌≡◌, ℕ, List, [], ◌++◌, ap, ◌∙◌, sym, subst}
use Rattle.std.specs.List.{All}
use Rattle.tumbler.proofs.Alls.{All-front, All-back}
use Rattle.enfilade_core.specs.declared.tree.Row.{Row}
use Rattle.enfilade_core.specs.declared.gap.Gap.{Gap}
use Rattle.enfilade_core.specs.Rows.{Shape, Rows}
use Rattle.enfilade_core.specs.Axes.{Widths, InOrder, IsWellFormedRow, IsWellFormedRows}
use Rattle.enfilade_core.specs.WellFormed.{IsWellFormed}
use Rattle.enfilade_core.specs.Edits.{put_before, shifted}
use Rattle.enfilade_core.specs.Exchange.{rows_before, rows_past, exchanged}
use Rattle.enfilade_core.proofs.EditsAre.{put_is, shift_is}

-- ---- what is asked is what an edit requires

pub asked_well_formed : {L : Type 0} (w : Widths L) (nodes : List (Shape L)) (left rows : List (Row L)) → left ≡ rows → IsWellFormed w nodes (Rows left) → IsWellFormedRows w rows
asked_well_formed w nodes left rows is well_formed = subst (IsWellFormedRows w) is record { each = well_formed.rows; ordered = well_formed.ordered }

-- a gap by its three places
abbrev gap_of : List ℕ → List ℕ → List ℕ → Gap
gap_of from to onto = record { from = from; to = to; onto = onto }

same_gap : (from to onto a b c : List ℕ) → a ≡ from → b ≡ to → c ≡ onto → gap_of a b c ≡ gap_of from to onto
same_gap from to onto a b c f t o = ap (λ x. gap_of x b c) f ∙ ap (λ x. gap_of from x c) t ∙ ap (gap_of from to) o

pub asked_rows : {L : Type 0} (w : Widths L) (at : List ℕ) (new old : List (Row L)) (a b c : List ℕ) → a ≡ at → b ≡ at → c ≡ at → IsWellFormedRows w (exchanged (record { from = a; to = b; onto = c }) new old) → All (IsWellFormedRow w) new
asked_rows w at new old a b c f t o well_formed = All-back (IsWellFormedRow w) (rows_before a old) new (All-front (IsWellFormedRow w) (rows_before a old ++ new) (shifted b c (rows_past b old)) well_formed.each)

pub asked_splice : {L : Type 0} (w : Widths L) (at : List ℕ) (new old : List (Row L)) (a b c : List ℕ) → a ≡ at → b ≡ at → c ≡ at → InOrder old → IsWellFormedRows w (exchanged (record { from = a; to = b; onto = c }) new old) → InOrder (put_before at new old)
asked_splice w at new old a b c f t o ordered well_formed =
    subst InOrder (ap (λ (gap : Gap). exchanged gap new old) (same_gap at at at a b c f t o) ∙ sym (put_is at new old ordered)) well_formed.ordered

pub asked_shift : {L : Type 0} (w : Widths L) (from to : List ℕ) (old none : List (Row L)) (a b c : List ℕ) → a ≡ from → b ≡ from → c ≡ to → none ≡ [] → InOrder old → IsWellFormedRows w (exchanged (record { from = a; to = b; onto = c }) none old) → IsWellFormedRows w (shifted from to old)
asked_shift w from to old none a b c f t o is ordered well_formed =
    subst (IsWellFormedRows w) (ap (λ (gap : Gap). exchanged gap none old) (same_gap from from to a b c f t o) ∙ ap (λ (new : List (Row _)). exchanged (gap_of from from to) new old) is ∙ sym (shift_is from to old ordered)) well_formed

pub ruleset asked = (asked_well_formed)
