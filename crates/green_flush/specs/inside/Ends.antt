-- The indexes of links' ends. Only private functions cite this.
use Rattle.std.specs.Prelude.{List}
use Rattle.spanfilade.specs.Index.{IndexTree}
use Rattle.links.specs.LinkLists.{HoldsRuns}
use Rattle.world_rules.specs.World.{LinkRow}

-- the index of each end has exactly the links' runs of that end
pub record EndsHold (links : List LinkRow) (from to three : IndexTree) : Type 0 where
  pub from_is : HoldsRuns 1 links from
  pub to_is : HoldsRuns 2 links to
  pub three_is : HoldsRuns 3 links three
