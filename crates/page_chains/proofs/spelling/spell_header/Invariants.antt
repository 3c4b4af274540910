-- The first of the starts stand behind what was in front of them.
use Rattle.std.proofs.Common.{◌≡◌, ◌++◌, take, flat_map}
use Rattle.page_chains.specs.Spelled.{start_bytes}
use Rattle.page_chains.proofs.spelling.spell_header.Given as goal

abbrev pub invariant-loop-start : goal.invariant-loop-start
invariant-loop-start l = l.page.items ≡ l.initial.page.items ++ flat_map start_bytes (take l.start-index l.starts)
