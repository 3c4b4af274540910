-- What comes into documents.
use Rattle.std.specs.Prelude.{◌≡◌, ℕ, ◌+◌, ◌^◌, ◌<◌, ◌≤◌, List}
use Rattle.std.specs.List.{flat_map}
use Rattle.tumbler.specs.Address.{IsDocument}
use Rattle.febe_data.specs.declared.run.Run.{Run}
use Rattle.poom.specs.declared.piece.Piece.{Piece}
use Rattle.poom.specs.Pieces.{address_in, addresses_from}

-- a run has one byte or more, and all of them are a document's content bytes
pub record IsContentRun (run : Run) : Type 0 where
  pub document : IsDocument run.content
  pub from_one : 1 ≤ run.first
  pub filled : 1 ≤ run.length
  pub fits : run.first + run.length < 2 ^ 32

-- the addresses of runs, one by one
abbrev pub run_addresses : List Run → List (List ℕ)
run_addresses runs = flat_map (λ (run : Run). addresses_from 1 run.content run.first run.length) runs

-- the address is a link's, and its number is below the greatest place
pub record IsLinkId (address : List ℕ) : Type 0 where
  pub home : List ℕ
  pub number : ℕ
  pub parts : address ≡ address_in 2 home number
  pub document : IsDocument home
  pub counted : 1 ≤ number
  pub fits : number < 4294967295

-- a piece of a text, read through a document
abbrev pub piece_run : List ℕ → Piece → Run
piece_run document piece = record { origin = document; content = piece.document; first = piece.first; length = piece.count }
