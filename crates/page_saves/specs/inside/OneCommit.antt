-- What one commit of a save leaves.
use Rattle.std.specs.Prelude.{◌⊎◌}
use Rattle.green_io.specs.Areas.{Areas}
use Rattle.page_journal.specs.JournalBytes.{opened}
use Rattle.page_saves.specs.Courses.{Course, IsOn}

-- opening the image gives pages on one of these courses
abbrev pub GivesCourse : Course → Course → Course → Areas → Type 0
GivesCourse was from to image = (IsOn was (opened image) ⊎ IsOn from (opened image)) ⊎ IsOn to (opened image)
