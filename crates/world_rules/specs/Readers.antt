-- Readable by whatever knows which documents are published.
use Rattle.std.specs.Prelude.{ℕ, ◌||◌, Bool, List, Option}
use Rattle.world_rules.specs.Readable.{is_owned_by}

-- the document is published, by this test, or the account's own
abbrev pub reads_by : (List ℕ → Bool) → Option (List ℕ) → List ℕ → Bool
reads_by publishes account document = publishes document || is_owned_by account document
