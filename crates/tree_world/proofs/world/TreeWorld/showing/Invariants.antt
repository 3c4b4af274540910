use Rattle.std.proofs.Common.{◌≡◌, take, All}
use Rattle.std.specs.Prelude.{filter}
use Rattle.tumbler.specs.Places.{IsTumbler}
use Rattle.tree_world.specs.inside.Asked.{IsAsked}
use Rattle.tree_world.specs.inside.Reads.{shows_for}
use Rattle.tree_world.proofs.world.TreeWorld.showing.Given as goal

abbrev pub invariant-loop-document : goal.invariant-loop-document
invariant-loop-document l = (l.made.items ≡ filter (shows_for l.self l.account l.spans) (take l.document-index l.documents)) × All IsTumbler l.made.items × IsAsked l.self l.spans l.last
