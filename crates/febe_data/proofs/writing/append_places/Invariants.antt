use Rattle.std.proofs.Common.{◌≡◌, ◌++◌, take}
use Rattle.febe_data.specs.Spelling.{spell_places}
use Rattle.febe_data.proofs.writing.append_places.Given as goal

abbrev pub invariant-loop-place : goal.invariant-loop-place
invariant-loop-place l =
    l.out.items ≡ l.initial.out.items ++ spell_places (take l.place-index l.places)
