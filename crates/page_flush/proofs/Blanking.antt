-- A blank start.
use Rattle.std.proofs.Common.{◌≡◌, ◌⊎◌, inl, inr, ⊎_elim, ℕ, ◌<◌, ◌≤◌, Bool, true, false, List, [], ◌∷◌, ◌++◌, length, replicate, refl, ap, ◌∙◌, sym, subst, arith}
use Rattle.std.proofs.lemmas.List.{length-replicate}
use Rattle.green_io.specs.Areas.{Areas}
use Rattle.green_io.specs.Disk.{DiskState, LeavesOnly}
use Rattle.green_io.proofs.Crash.{weaker}
use Rattle.tumbler.specs.ListView.{ListView}
use Rattle.page_journal.specs.declared.page_write.PageWrite.{PageWrite}
use Rattle.page_journal.specs.JournalBytes.{AreWrites, writes_of, opened}
use Rattle.page_journal.specs.JournalView.{JournalView}
use Rattle.page_journal.specs.Pages.{Bytes, Writes, page_bytes}
use Rattle.page_saves.specs.Courses.{Saved, Blank, Holds, Leads, GivesOne, GivesOneOf, begun}
use Rattle.page_saves.specs.Resting.{RestsOn, IsSettledOn}
use Rattle.page_saves.proofs.EachBeside.{start-leads}
use Rattle.page_flush.specs.Saving.{blank_page}
use Rattle.page_flush.specs.inside.Blanks.{GivesBegun, IsBegun, IsNotBegun}

blank_whole : length blank_page ≡ 4096
unfolding blank_page
blank_whole = length-replicate {A = ℕ} 4096 0

pub blank_writes : (writes : Writes) → writes ≡ page_bytes 0 blank_page ∷ [] → AreWrites writes
blank_writes writes is =
    let low : 0 < 1099511627776 = omega arith in
    let one : AreWrites (page_bytes 0 blank_page ∷ []) = record { some = omega arith; few = omega arith; each = (record { low = low; whole = blank_whole }, tt) } in
    subst AreWrites (sym is) one

pub blank_leads : (saved : Saved) (writes : Writes) → writes ≡ page_bytes 0 blank_page ∷ [] → Leads saved [] writes (Blank blank_page)
blank_leads saved writes is = subst (λ (w : Writes). Leads saved [] w (Blank blank_page)) (sym is) (start-leads saved blank_page)

-- none is needed
pub begun_idle : (disk : DiskState) (journal : JournalView) (was saved : Saved) (needed : Bool) → needed ≡ false → RestsOn disk journal was saved → IsBegun disk journal was saved needed
begun_idle disk journal was saved needed is rests = subst (λ (b : Bool). IsBegun disk journal was saved b) (sym is) rests

pub begun_made : (disk : DiskState) (journal : JournalView) (was saved : Saved) (needed : Bool) → needed ≡ true → IsSettledOn disk journal (begun (Blank blank_page)) → IsBegun disk journal was saved needed
begun_made disk journal was saved needed is settled = subst (λ (b : Bool). IsBegun disk journal was saved b) (sym is) (inl (inl settled))

pub begun_gives : (a b : DiskState) (was saved : Saved) (needed : Bool) → needed ≡ true → LeavesOnly a b (GivesOneOf was saved (Blank blank_page)) → LeavesOnly a b (GivesBegun was saved needed)
begun_gives a b was saved needed is leaves = weaker a b (GivesOneOf was saved (Blank blank_page)) (GivesBegun was saved needed) leaves (λ i gives. ⊎_elim
    (λ (one : GivesOne was saved i). inl one)
    (λ (held : Holds (Blank blank_page) (opened i)). inr (is, held))
    gives)

-- a page of zeros, alone
pub blank_spelled : (items old : List PageWrite) (bytes : ListView ℕ) → bytes.items ≡ blank_page → old ≡ [] → items ≡ old ++ (let w : PageWrite = record { number = 0; bytes = bytes } in w) ∷ [] → writes_of items ≡ page_bytes 0 blank_page ∷ []
blank_spelled items old bytes is none more =
    ap writes_of (more ∙ ap (λ (l : List PageWrite). l ++ (let w : PageWrite = record { number = 0; bytes = bytes } in w) ∷ []) none) ∙ ap (λ (b : Bytes). page_bytes 0 b ∷ []) is
