-- Where a folder's files lie.
use Rattle.std.specs.Prelude.{◌≡◌, ℕ, List, ◌++◌, codes}
use Rattle.green_io.specs.declared.folder_files.Paths.{Paths}

-- what contracts see of a disk in a folder: its paths, and the number of faults
pub record FolderView : Type 0 where
  pub paths : Paths
  pub faults : ℕ

-- the files of the areas lie in the folder, under their names
pub record LieIn (folder : List ℕ) (paths : Paths) : Type 0 where
  pub itself : paths.folder.bytes.items ≡ folder
  pub log : paths.log.bytes.items ≡ folder ++ codes "/log"
  pub home : paths.home.bytes.items ≡ folder ++ codes "/home"
  pub journal : paths.journal.bytes.items ≡ folder ++ codes "/journal"
  pub second : paths.second.bytes.items ≡ folder ++ codes "/log2"
