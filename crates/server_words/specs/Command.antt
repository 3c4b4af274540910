-- The command line as clap reads it.
use Rattle.std.specs.Prelude.{◌≡◌, true, List, ℕ, codes}
use Rattle.clap.specs.Matches.{found_of}
use Rattle.clap.specs.Walk.{Rule, Text, rows_of}
use Rattle.clap.specs.Simple.{App, matches_of, new_app, new_rule, with_rule}
use Rattle.clap.specs.declared.parser.matches.ArgMatches.{ArgMatches}

-- an argument that has to be there
abbrev pub needed : Text → Rule
needed id = record (new_rule id) { required = true }

-- a folder, an address, a number of workers, and a number of sessions that may be left out
abbrev pub server_app : App
server_app = with_rule (with_rule (with_rule (with_rule (new_app (codes "green_server")) (needed (codes "FOLDER"))) (needed (codes "ADDRESS"))) (needed (codes "WORKERS"))) (new_rule (codes "SESSIONS"))

-- these are the matches of the command on the words
abbrev pub AreMatches : List (List ℕ) → ArgMatches → Type 0
AreMatches words matches = rows_of (found_of matches) ≡ matches_of server_app words
