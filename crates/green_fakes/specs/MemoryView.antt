-- What contracts see of a source and a sink in memory, and what their calls do.
use Rattle.std.specs.Prelude.{◌≡◌, ◌⊎◌, ℕ, ◌+◌, ◌-◌, ◌^◌, ◌==◌, min, max, Bool, true, false, if◌then◌else◌, List, [], ◌∷◌, ◌++◌, length, drop}
use Rattle.std.specs.List.{list_any}
use Rattle.green_io.specs.declared.source.ReadAnswer.{ReadAnswer}
use Rattle.green_io.specs.declared.source.ReadAnswer.TheVariants.{Got, End, Failed}
use Rattle.green_io.specs.declared.sink.WriteAnswer.{WriteAnswer}
use Rattle.green_io.specs.declared.sink.WriteAnswer.TheVariants.{Took, Failed as WriteFailed}

-- the bytes left, how many each of the next reads gives at most, the calls so far, those that fail, and the faults
pub record SourceView : Type 0 where
  pub left : List ℕ
  pub pieces : List ℕ
  pub calls : ℕ
  pub failing : List ℕ
  pub faults : ℕ

-- the bytes taken, the calls so far, those that fail, and the faults
pub record SinkView : Type 0 where
  pub taken : List ℕ
  pub calls : ℕ
  pub failing : List ℕ
  pub faults : ℕ

-- one more, up to the greatest number of 64 bits
abbrev pub one_more : ℕ → ℕ
one_more count = min (count + 1) (2 ^ 64 - 1)

-- the call after so many calls, which are numbered from 1, is among those that fail
abbrev pub fails_next : ℕ → List ℕ → Bool
fails_next calls failing = list_any (λ number. number == one_more calls) failing

-- How many bytes the next read may give where there is room for so many: the next piece, of which 0 counts as 1.
-- Past the pieces there is no other bound.
abbrev pub piece_within : List ℕ → ℕ → ℕ
piece_within [] room = room
piece_within (piece ∷ pieces) room = min room (max piece 1)

-- how many bytes the next read gives, unless it fails: the least of the piece, the room and what is left
abbrev pub count_within : SourceView → ℕ → ℕ
count_within source room = min (length source.left) (piece_within source.pieces room)

-- the answer for a number of bytes
abbrev pub answer_of_count : ℕ → ReadAnswer
answer_of_count count = if count == 0 then End else Got count

-- what the next read answers where there is room for so many bytes
abbrev pub read_answer : SourceView → ℕ → ReadAnswer
read_answer source room = if fails_next source.calls source.failing then Failed else answer_of_count (count_within source room)

-- how many bytes that read gives
abbrev pub read_count : SourceView → ℕ → ℕ
read_count source room = if fails_next source.calls source.failing then 0 else count_within source room

-- the source after that read: a failed read gives nothing and uses up no piece
abbrev pub after_read : SourceView → ℕ → SourceView
after_read source room =
    if fails_next source.calls source.failing
    then record source { calls = one_more source.calls; faults = one_more source.faults }
    else record source { left = drop (count_within source room) source.left; pieces = drop 1 source.pieces; calls = one_more source.calls }

-- what a sink is after a write that failed
abbrev pub after_failed_write : SinkView → SinkView
after_failed_write sink = record sink { calls = one_more sink.calls; faults = one_more sink.faults }

-- what a sink is after a write that succeeded, which takes all bytes
abbrev pub after_write : SinkView → List ℕ → SinkView
after_write sink bytes = record sink { taken = sink.taken ++ bytes; calls = one_more sink.calls }

-- a write failed, and the sink has counted it
abbrev pub FailsToWrite : SinkView → SinkView → WriteAnswer → Type 0
FailsToWrite old new answer = (answer ≡ WriteFailed) × (new ≡ after_failed_write old)

-- a write took all the bytes
abbrev pub WritesAll : SinkView → SinkView → List ℕ → WriteAnswer → Type 0
WritesAll old new bytes answer = (answer ≡ Took (length bytes)) × (new ≡ after_write old bytes)

-- a write that is among those that fail, or that is not, which fails only where there is no memory for its bytes
abbrev pub WritesWhere : Bool → SinkView → SinkView → List ℕ → WriteAnswer → Type 0
WritesWhere true old new bytes answer = FailsToWrite old new answer
WritesWhere false old new bytes answer = WritesAll old new bytes answer ⊎ FailsToWrite old new answer

-- the next write
abbrev pub WritesNext : SinkView → SinkView → List ℕ → WriteAnswer → Type 0
WritesNext old new bytes answer = WritesWhere (fails_next old.calls old.failing) old new bytes answer
