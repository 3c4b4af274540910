-- What is read of the words of a command line.
use Rattle.std.specs.Prelude.{◌≡◌, ℕ, List, [], ◌∷◌, Result, Ok, Err}
use Rattle.server_words.specs.declared.words.Form.{Form}
use Rattle.server_words.specs.declared.words.ServerWords.{ServerWords}
use Rattle.server_words.specs.Words.{Meaning, NameServer, SaysSessions}

-- what the words that were read say
abbrev pub meaning_of : ServerWords → Meaning
meaning_of words = record {
  folder = words.folder.items;
  address = words.address.items;
  workers = words.workers;
  sessions = words.sessions;
}

-- the three words name no server
abbrev pub NameNoServer : (folder address workers : List ℕ) → Type 0
NameNoServer folder address workers = (number : ℕ) → ¬ NameServer folder address workers number

-- the words have a form with these numbers
abbrev pub IsForm : List (List ℕ) → Form → Type 0
IsForm (name ∷ folder ∷ address ∷ workers ∷ more) form = NameServer folder address workers form.workers × SaysSessions more form.sessions
IsForm other form = ⊥
