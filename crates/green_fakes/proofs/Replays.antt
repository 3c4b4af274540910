-- What is left at a moment.
use Rattle.std.proofs.Common.{◌≡◌, inl, inr, ℕ, ltb, Bool, true, false, if◌then◌else◌, List, [], ◌∷◌, refl, sym, subst}
use Rattle.std.proofs.lemmas.Bool.{ltb-false}
use Rattle.green_io.specs.Areas.{Areas}
use Rattle.green_fakes.specs.DiskView.{areas_after}
use Rattle.green_fakes.specs.DiskImages.{IsImage, IsImageFrom, changes_until}
use Rattle.green_fakes.specs.DiskLaws.{reads_left}
use Rattle.green_fakes.specs.declared.change.Change.{Change}

-- the areas as they read are an image
pub read_image : (first image : Areas) (changes : List Change) → image ≡ areas_after first changes → IsImage first changes image
read_image first image changes is = subst (IsImage first changes) (sym is) (reads_left first changes)

-- what was left at a moment is left since then
pub image_until : (first : Areas) (changes : List Change) (t : ℕ) (image : Areas) → IsImage first (changes_until t changes) image → IsImageFrom first changes t image
image_until first [] t image is = is
image_until first (change ∷ before) t image is = by (ltb change.before t) refl is (image_until first before t image)
  where
    by : (earlier : Bool) → ltb change.before t ≡ earlier → IsImage first (if earlier then change ∷ before else changes_until t before) image → (IsImage first (changes_until t before) image → IsImageFrom first before t image) → IsImageFrom first (change ∷ before) t image
    by true e here rest = inl here
    by false e here rest = inr (ltb-false change.before t e, rest here)
