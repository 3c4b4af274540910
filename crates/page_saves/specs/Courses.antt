-- What a save finds on the pages, what it leaves, and how its writes lead from the one to the other.
use Rattle.std.specs.Prelude.{◌≡◌, ◌⊎◌, ℕ, List, [], ◌∷◌, ◌++◌, Some}
use Rattle.green_io.specs.Areas.{Areas}
use Rattle.page_journal.specs.Pages.{Bytes, Pages, Writes, laid, AreSame, Extends}
use Rattle.page_journal.specs.JournalBytes.{opened}
use Rattle.page_chains.specs.Chains.{PlainChain}
use Rattle.page_chains.specs.Headers.{HasHeader}
use Rattle.page_chains.specs.Spelled.{HasWrites}

-- What pages may hold for a save: these pages and no others, which loading put aside; or a page 0 with these bytes, which
-- is a blank start; or what a save has kept, a header of these chains at this position.
pub data Saved : Type 0 where
  Aside : Pages → Saved
  Blank : Bytes → Saved
  Kept : List PlainChain → ℕ → Saved

-- these pages hold it
abbrev pub Holds : Saved → Pages → Type 0
Holds (Aside found) pages = AreSame found pages
Holds (Blank header) pages = pages 0 ≡ Some header
Holds (Kept chains position) pages = HasHeader pages chains position

-- how far a save has come: what pages held at its start they still hold, and these pages are written
pub record Course : Type 0 where
  pub saved : Saved
  pub written : Writes

-- a save that has written nothing yet
abbrev pub begun : Saved → Course
begun saved = record { saved = saved; written = [] }

-- a save that has written these pages
abbrev pub after : Saved → Writes → Course
after saved written = record { saved = saved; written = written }

-- the pages are on this course
pub record IsOn (course : Course) (pages : Pages) : Type 0 where
  pub holds : Holds course.saved pages
  pub has : HasWrites course.written pages

-- Pages on one course are on the other once these writes are laid over them, whatever more pages come.
abbrev pub Lead : Course → Writes → Course → Type 0
Lead from writes to = (pages new : Pages) → IsOn from pages → Extends (laid writes pages) new → IsOn to new

-- Each write, one after another, leaves what was held, and is there with those before it.
abbrev pub LeadsEach : Saved → Writes → Writes → Type 0
LeadsEach saved written [] = Unit {0}
LeadsEach saved written (write ∷ writes) =
    Lead (after saved written) (write ∷ []) (after saved (written ++ write ∷ [])) × LeadsEach saved (written ++ write ∷ []) writes

-- The writes leave what was held, however many of them are there, and the last ones then lead to what is to be held next.
pub record Leads (saved : Saved) (writes last : Writes) (next : Saved) : Type 0 where
  pub each : LeadsEach saved [] writes
  pub ends : Lead (after saved writes) last (begun next)

-- opening the image gives pages that hold one of these
abbrev pub GivesOne : Saved → Saved → Areas → Type 0
GivesOne was saved image = Holds was (opened image) ⊎ Holds saved (opened image)

abbrev pub GivesOneOf : Saved → Saved → Saved → Areas → Type 0
GivesOneOf was saved next image = GivesOne was saved image ⊎ Holds next (opened image)
