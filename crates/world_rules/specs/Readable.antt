-- Which documents are published, whose they are, and which a session may read.
use Rattle.std.specs.Prelude.{ℕ, ◌||◌, Bool, false, List, Option, Some, None}
use Rattle.std.specs.List.{list_any}
use Rattle.world_rules.specs.World.{World, is_same, is_of_account, account_of_session}

abbrev pub is_one_of : List (List ℕ) → List ℕ → Bool
is_one_of documents document = list_any (λ d. is_same d document) documents

-- some publish named the document
abbrev pub is_published : World → List ℕ → Bool
is_published world document = is_one_of world.published document

-- the document is of the account, where there is one
abbrev pub is_owned_by : Option (List ℕ) → List ℕ → Bool
is_owned_by (Some account) document = is_of_account account document
is_owned_by None document = false

-- the document is of the session's account
abbrev pub owns : World → ℕ → List ℕ → Bool
owns world session document = is_owned_by (account_of_session world session) document

-- the document is one of the published ones, or the account's own
abbrev pub is_readable_by : (published : List (List ℕ)) → Option (List ℕ) → List ℕ → Bool
is_readable_by published account document = is_one_of published document || is_owned_by account document

-- the session may read the document: it is published, or of the session's account
abbrev pub is_readable : World → ℕ → List ℕ → Bool
is_readable world session document = is_readable_by world.published (account_of_session world session) document
