-- Where a document shows what a span of content has.
use Rattle.std.specs.Prelude.{ℕ, ◌+◌, List, [], ◌∷◌, ◌++◌, if◌then◌else◌}
use Rattle.tumbler.specs.declared.span.Span.{Span}
use Rattle.enfilade_core.specs.declared.tree.Row.{Row}
use Rattle.poom.specs.Laid.{texts, links}
use Rattle.poom.specs.Picked.{is_picked}
use Rattle.poom.specs.Runs.{intervals}

-- of addresses that stand at positions n and on, the positions of those that are in the span, each in its place
abbrev pub positions_in : Span → ℕ → List (List ℕ) → List ℕ
positions_in span n [] = []
positions_in span n (address ∷ addresses) = if is_picked span address then n ∷ positions_in span (n + 1) addresses else positions_in span (n + 1) addresses

-- The maximal intervals of V-addresses that show content bytes, or links, whose addresses are in the span: those of
-- the text, then those of the links.
abbrev pub intervals_in : Span → List (Row ℕ) → List Span
intervals_in span rows = intervals 1 (positions_in span 1 (texts rows)) ++ intervals 2 (positions_in span 1 (links rows))
