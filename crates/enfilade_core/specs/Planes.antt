-- The widths of rows on the three planes.
use Rattle.std.specs.Prelude.{ℕ, nat_lt, true, false, if◌then◌else◌, List, [], length}
use Rattle.tumbler.specs.ListView.{ListView}
use Rattle.tumbler.specs.Places.{place_bound, width_at}
use Rattle.enfilade_core.specs.Axes.{Widths}

-- a number that is a coordinate, or 0 where it is too great for one
abbrev pub as_place : ℕ → ℕ
as_place n = if nat_lt n place_bound then n else 0

-- bytes are as wide as they are many, at the last of their place's places; on the second axis they have no width
abbrev pub content_widths : Widths (ListView ℕ)
content_widths = record { first = λ row. width_at (length row.first) (as_place (length row.leaf.items)); second = λ row. []; first_strict = true; second_strict = false }

-- a run is as wide as it is long: at the second of two places on the first axis, at the last of its place's
-- places on the second
abbrev pub text_widths : Widths ℕ
text_widths = record { first = λ row. width_at 2 row.leaf; second = λ row. width_at (length row.second) row.leaf; first_strict = false; second_strict = true }

-- a span is as wide as its leaf says, and its key has no width
abbrev pub key_widths : Widths (List ℕ)
key_widths = record { first = λ row. row.leaf; second = λ row. []; first_strict = false; second_strict = false }

-- bytes in order, with nothing kept in reserve
abbrev pub plain_text : ListView ℕ → ListView ℕ
plain_text text = record { items = text.items; spare = 0 }
