-- Where two texts show the same content.
use Rattle.std.specs.Prelude.{ℕ, ◌≡◌, ◌<◌, ◌≤◌, Bool, List, [], length, filter, All}
use Rattle.std.specs.List.{list_any, flat_map}
use Rattle.tumbler.specs.declared.span.Span.{Span}
use Rattle.febe_data.specs.declared.run.Diagonal.{Diagonal}
use Rattle.febe_data.specs.Plain.{PlainSpec}
use Rattle.febe_data.specs.Validity.{IsDiagonal}
use Rattle.world_rules.specs.declared.pairs.Pair.{Pair}
use Rattle.world_rules.specs.declared.rows.Row.{Row}
use Rattle.world_rules.specs.World.{World}
use Rattle.world_rules.specs.Picking.{picks}
use Rattle.world_rules.specs.Edits.{new_rows}
use Rattle.world_rules.specs.Laws.{text_rows}
use Rattle.world_rules.specs.Relation.{pairs_of_row, diagonals_of, diagonals}
use Rattle.poom_compare.specs.declared.compared.Compared.{Compared}
use Rattle.poom_compare.specs.declared.compared.Compared.TheVariants.{Diagonals, TooMany}

-- The rows of a text, position by position: the first address stands at `1.1`. Which document has them is left open,
-- since nothing here depends on it.
abbrev pub rows_of_text : List (List ℕ) → List Row
rows_of_text addresses = new_rows [] 1 addresses

-- some span picks the row
abbrev pub is_picked_by_some : List Span → Row → Bool
is_picked_by_some spans row = list_any (λ (span : Span). picks span row) spans

-- the rows of a text that some span picks, each once
abbrev pub rows_picked : List Span → List (List ℕ) → List Row
rows_picked spans addresses = filter (is_picked_by_some spans) (rows_of_text addresses)

-- all pairs of positions that show the same byte of content, one of each list
abbrev pub pairs_between : (left right : List Row) → List Pair
pairs_between left right = flat_map (pairs_of_row right) left

-- all maximal diagonals of two texts, of which some spans each pick, by left and then by right
abbrev pub shared : (left : List (List ℕ)) → List Span → (right : List (List ℕ)) → List Span → List Diagonal
shared left left_spans right right_spans = diagonals_of (pairs_between (rows_picked left_spans left) (rows_picked right_spans right))

-- the answer is these diagonals, or it says that there are more of them than may be listed
abbrev pub IsCompared : List Diagonal → Compared → Type 0
IsCompared wanted (Diagonals made) = (made.items ≡ wanted) × (length wanted ≤ 65536)
IsCompared wanted TooMany = 65536 < length wanted

-- The document's text rows in the world show these addresses, the first at `1.1` and so on.
abbrev pub Shows : World → List ℕ → List (List ℕ) → Type 0
Shows world document addresses = text_rows world document ≡ new_rows document 1 addresses

-- of documents that show these texts, it is the relation of the world
abbrev pub IsRelationOfWorld : Type 0
IsRelationOfWorld = (world : World) (left right : PlainSpec) (left_text right_text : List (List ℕ)) → Shows world left.document left_text → Shows world right.document right_text
    → diagonals world left right ≡ shared left_text left.spans right_text right.spans

-- of texts that are not too long, each diagonal is one that a reply can have
abbrev pub DiagonalsAreValid : Type 0
DiagonalsAreValid = (left : List (List ℕ)) (left_spans : List Span) (right : List (List ℕ)) (right_spans : List Span) → length left < 4294967296 → length right < 4294967296
    → All IsDiagonal (shared left left_spans right right_spans)

-- each diagonal that is listed is one that a reply can have
abbrev pub AreValid : Compared → Type 0
AreValid (Diagonals made) = All IsDiagonal made.items
AreValid TooMany = Unit {0}
