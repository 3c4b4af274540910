-- Pages that lead one by one lead together.
use Rattle.std.proofs.Common.{◌≡◌, List, [], ◌∷◌, ◌++◌, ap, sym, subst, append-nil}
use Rattle.std.proofs.lemmas.List.{append_assoc}
use Rattle.page_journal.specs.Pages.{Pages, PageBytes, Writes, put, laid, Extends}
use Rattle.page_saves.specs.Courses.{Saved, IsOn, after, Lead, LeadsEach}

-- the rest leads on from where the group ends
pub leads-behind : (saved : Saved) (written group rest : Writes) → LeadsEach saved written (group ++ rest) → LeadsEach saved (written ++ group) rest
leads-behind saved written [] rest each = subst (λ (x : Writes). LeadsEach saved x rest) (sym (append-nil written)) each
leads-behind saved written (w ∷ ws) rest each =
    subst (λ (x : Writes). LeadsEach saved x rest) (append_assoc written (w ∷ []) ws) (leads-behind saved (written ++ w ∷ []) ws rest each.1)

-- one page and more lead in one commit
pub lead-group : (saved : Saved) (written : Writes) (w : PageBytes) (ws rest : Writes) → LeadsEach saved written (w ∷ ws ++ rest) → Lead (after saved written) (w ∷ ws) (after saved (written ++ w ∷ ws))
lead-group saved written w [] rest each = each.0
lead-group saved written w (v ∷ vs) rest each = λ pages new on more.
    let next = each.0 pages (put w pages) on (λ k page is. is) in
    let there = lead-group saved (written ++ w ∷ []) v vs rest each.1 (put w pages) new next more in
    subst (λ (x : Writes). IsOn (after saved x) new) (append_assoc written (w ∷ []) (v ∷ vs)) there
