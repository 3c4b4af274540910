-- One page more is copied.
use Rattle.std.proofs.Common.{◌≡◌, ℕ, ◌+◌, ◌<◌, List, [], ◌∷◌, ◌++◌, length, get_or, take, map, refl, ap, ◌∙◌, sym}
use Rattle.std.proofs.lemmas.List.{map-append, take_more}
use Rattle.page_journal.specs.declared.page_write.PageWrite.{PageWrite}
use Rattle.page_journal.specs.JournalBytes.{write_of, writes_of}
use Rattle.page_journal.specs.Pages.{PageBytes}

pub copied-more : (pages made now : List PageWrite) (i : ℕ) (page copy : PageWrite) → i < length pages → page ≡ get_or pages i page → writes_of made ≡ writes_of (take i pages) → now ≡ made ++ copy ∷ [] → write_of copy ≡ write_of page → writes_of now ≡ writes_of (take (i + 1) pages)
copied-more pages made now i page copy lt at so_far more same =
    ap writes_of more ∙ map-append write_of made (copy ∷ [])
    ∙ ap (λ (x : List PageBytes). x ++ write_of copy ∷ []) so_far
    ∙ ap (λ (x : PageBytes). writes_of (take i pages) ++ x ∷ []) same
    ∙ sym (map-append write_of (take i pages) (page ∷ []))
    ∙ ap writes_of (ap (λ (x : PageWrite). take i pages ++ x ∷ []) at ∙ sym (take_more pages i page lt))
