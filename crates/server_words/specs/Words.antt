-- The words of a command line that are the form of the program.
use Rattle.std.specs.Prelude.{◌≡◌, ℕ, ◌≤◌, Bool, false, true, not, List, [], ◌∷◌, ◌++◌, ◌==◌, Option, Some, None, decimal}

-- a folder's word is not empty, and does not begin with a hyphen
abbrev pub is_folder : List ℕ → Bool
is_folder [] = false
is_folder (first ∷ word) = not (first == 45)

-- the word is this number in decimal, without sign or leading zeros, and the number is from the least to the most
pub record SpellsNumber (least most : ℕ) (word : List ℕ) (n : ℕ) : Type 0 where
  pub spelled : word ≡ decimal n
  pub above : least ≤ n
  pub below : n ≤ most

-- the word is no such number
abbrev pub SpellsNoNumber : (least most : ℕ) → List ℕ → Type 0
SpellsNoNumber least most word = (n : ℕ) → ¬ SpellsNumber least most word n

-- the word is some number from the least to the most
pub record IsNumber (least most : ℕ) (word : List ℕ) : Type 0 where
  pub number : ℕ
  pub spells : SpellsNumber least most word number

-- the word is a front, a mark and a rest, each of its kind
pub record AreJoined (mark : ℕ) (Front Rest : List ℕ → Type 0) (word : List ℕ) : Type 0 where
  pub front : List ℕ
  pub rest : List ℕ
  pub joined : word ≡ front ++ (mark ∷ rest)
  pub front_is : Front front
  pub rest_is : Rest rest

abbrev pub IsByteNumber : List ℕ → Type 0
IsByteNumber = IsNumber 0 255

abbrev pub IsPort : List ℕ → Type 0
IsPort = IsNumber 0 65535

-- two numbers up to 255, joined by a full stop (46)
abbrev pub IsPair : List ℕ → Type 0
IsPair = AreJoined 46 IsByteNumber IsByteNumber

abbrev pub IsTriple : List ℕ → Type 0
IsTriple = AreJoined 46 IsByteNumber IsPair

abbrev pub IsHost : List ℕ → Type 0
IsHost = AreJoined 46 IsByteNumber IsTriple

-- four numbers up to 255 joined by full stops, a colon (58), and a number up to 65535
abbrev pub IsAddress : List ℕ → Type 0
IsAddress = AreJoined 58 IsHost IsPort

-- what the words of a command line say
pub record Meaning : Type 0 where
  pub folder : List ℕ
  pub address : List ℕ
  pub workers : ℕ
  pub sessions : Option ℕ

-- the three words that are always there: a folder, an address, and this number of workers, from 1 to 64
pub record NameServer (folder address workers : List ℕ) (number : ℕ) : Type 0 where
  pub folder_right : is_folder folder ≡ true
  pub address_right : IsAddress address
  pub workers_are : SpellsNumber 1 64 workers number

-- what the three words say of the folder, the address and the workers
pub record SayServer (folder address workers : List ℕ) (meaning : Meaning) : Type 0 where
  pub folder_is : meaning.folder ≡ folder
  pub address_is : meaning.address ≡ address
  pub names : NameServer folder address workers meaning.workers

-- a word, where there is one, is this number of sessions, from 1 to 4294967295
abbrev pub SaysSessions : List (List ℕ) → Option ℕ → Type 0
SaysSessions [] None = Unit {0}
SaysSessions (word ∷ []) (Some number) = SpellsNumber 1 4294967295 word number
SaysSessions other number = ⊥

-- The words are the program's name, a folder, an address and a number of workers; or behind these a number of
-- sessions, where the server is to end.
abbrev pub AreWords : List (List ℕ) → Meaning → Type 0
AreWords (name ∷ folder ∷ address ∷ workers ∷ more) meaning = SayServer folder address workers meaning × SaysSessions more meaning.sessions
AreWords other meaning = ⊥

-- the words are not the form of the program
abbrev pub AreNoWords : List (List ℕ) → Type 0
AreNoWords words = (meaning : Meaning) → ¬ AreWords words meaning
