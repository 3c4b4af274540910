-- Tests by which rows are searched.
use Rattle.std.specs.Prelude.{ℕ, Bool, List}
use Rattle.tumbler.specs.Places.{comes_before}
use Rattle.page_tables.specs.declared.tables.TableDocument.{TableDocument}

-- the row's document comes before this one
abbrev pub is_before : List ℕ → TableDocument → Bool
is_before address row = comes_before row.document address
