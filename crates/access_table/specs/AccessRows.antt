-- What the table of access shows: the rows that came in and were not taken back, each once and in order.
use Rattle.std.specs.Prelude.{◌≡◌, ℕ, ◌≤◌, ◌==◌, List, [], Option, Some}
use Rattle.std.specs.List.{find}
use Rattle.std.specs.Option.{option_map}
use Rattle.std.specs.declared.cmp.Ordering.{Ordering}
use Rattle.std.specs.Ordering.{nat_cmp, ordering_then}
use Rattle.std.specs.Cmp.Lexicographic.{slice_cmp}
use Rattle.std.specs.BTreeSet.{insert_key}
use Rattle.febe_data.specs.declared.access.Mode.{Mode}
use Rattle.febe_data.specs.declared.access.Mode.TheVariants.{Write}
use Rattle.world_rules.specs.declared.rows.OpenRow.{OpenRow}
use Rattle.world_rules.specs.declared.rows.AccountRow.{AccountRow}
use Rattle.world_rules.specs.World.{opens}
use Rattle.world_rules.specs.Apply.{without_session, accounts_without, without_opening}

-- the documents that sessions have open, by session and then by document, and the accounts, by session
pub record AccessRows : Type 0 where
  pub open_rows : List OpenRow
  pub accounts : List AccountRow

-- nothing came in
abbrev pub no_rows : AccessRows
no_rows = record { open_rows = []; accounts = [] }

-- ---- look-ups

-- what the session has the document open for, if it has it open
abbrev pub mode_in : List OpenRow → ℕ → List ℕ → Option Mode
mode_in rows session document = option_map (λ (r : OpenRow). r.mode) (find (opens session document) rows)

-- the account that the session has set, if it has
abbrev pub account_in : List AccountRow → ℕ → Option (List ℕ)
account_in rows session = option_map (λ (r : AccountRow). r.account) (find (λ r. r.session == session) rows)

-- the session has the document open for writing
abbrev pub Writes : List OpenRow → List ℕ → ℕ → Type 0
Writes rows document session = mode_in rows session document ≡ Some Write

-- it does, and none of a lesser number does
pub record IsFirstWriter (rows : List OpenRow) (document : List ℕ) (session : ℕ) : Type 0 where
  pub writes : Writes rows document session
  pub first : (other : ℕ) → Writes rows document other → session ≤ other

-- ---- order

-- rows go by session, and those of one session by document
abbrev pub row_cmp : OpenRow → OpenRow → Ordering
row_cmp a b = ordering_then (nat_cmp a.session b.session) (slice_cmp nat_cmp a.document b.document)

abbrev pub account_cmp : AccountRow → AccountRow → Ordering
account_cmp a b = nat_cmp a.session b.session

-- ---- changes

-- the one row of the session and the document comes in at its place
abbrev pub opened : AccessRows → ℕ → List ℕ → Mode → AccessRows
opened rows session document mode =
    record rows { open_rows = insert_key row_cmp (without_opening session document rows.open_rows) (record { session = session; document = document; mode = mode }) }

-- that row goes, if it is there
abbrev pub closed : AccessRows → ℕ → List ℕ → AccessRows
closed rows session document = record rows { open_rows = without_opening session document rows.open_rows }

-- the one account of the session comes in at its place
abbrev pub account_set : AccessRows → ℕ → List ℕ → AccessRows
account_set rows session account =
    record rows { accounts = insert_key account_cmp (accounts_without session rows.accounts) (record { session = session; account = account }) }

-- what the session had open goes, and its account
abbrev pub ended : AccessRows → ℕ → AccessRows
ended rows session = record { open_rows = without_session session rows.open_rows; accounts = accounts_without session rows.accounts }
