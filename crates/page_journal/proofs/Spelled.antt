-- One page more in the record.
use Rattle.std.proofs.Common.{◌≡◌, ℕ, ◌+◌, ◌<◌, List, [], ◌∷◌, ◌++◌, length, get_or, take, flat_map, sym, ◌∙◌, ap, append_assoc, take_all, arith}
use Rattle.std.proofs.lemmas.List.{flat_map_more, map_push, take_more, length-map}
use Rattle.std.specs.Int.{w32, w64, to_be_bytes}
use Rattle.page_journal.specs.declared.page_write.PageWrite.{PageWrite}
use Rattle.page_journal.specs.Pages.{Bytes, Writes}
use Rattle.page_journal.specs.JournalBytes.{write_of, writes_of, entry_bytes, record_of}

pub spelled_more : (front kept now : Bytes) (pages : List PageWrite) (i : ℕ) (page : PageWrite) → i < length pages → page ≡ get_or pages i page → kept ≡ front ++ flat_map entry_bytes (writes_of (take i pages)) → now ≡ (kept ++ to_be_bytes w64 page.number) ++ page.bytes.items → now ≡ front ++ flat_map entry_bytes (writes_of (take (i + 1) pages))
spelled_more front kept now pages i page lt item was is =
    let last : take (i + 1) pages ≡ take i pages ++ page ∷ [] = take_more pages i page lt ∙ ap (λ (p : PageWrite). take i pages ++ p ∷ []) (sym item) in
    let more : writes_of (take i pages) ++ write_of page ∷ [] ≡ writes_of (take (i + 1) pages) = sym (map_push write_of (take i pages) page) ∙ ap writes_of (sym last) in
    is
    ∙ append_assoc kept (to_be_bytes w64 page.number) page.bytes.items
    ∙ ap (λ (l : Bytes). l ++ entry_bytes (write_of page)) was
    ∙ flat_map_more entry_bytes front (writes_of (take i pages)) (write_of page)
    ∙ ap (λ (w : Writes). front ++ flat_map entry_bytes w) more

all_taken : (pages : List PageWrite) (i : ℕ) → length pages ≡ i → take i pages ≡ pages
all_taken pages i all = take_all i pages (omega (arith, all))

pub spelled_all : (kept : Bytes) (pages : List PageWrite) (i count : ℕ) → length pages ≡ i → count ≡ length pages → kept ≡ to_be_bytes w32 count ++ flat_map entry_bytes (writes_of (take i pages)) → kept ≡ record_of (writes_of pages)
unfolding record_of
spelled_all kept pages i count all count_is is =
    is
    ∙ ap (λ (l : List PageWrite). to_be_bytes w32 count ++ flat_map entry_bytes (writes_of l)) (all_taken pages i all)
    ∙ ap (λ (n : ℕ). to_be_bytes w32 n ++ flat_map entry_bytes (writes_of pages)) (count_is ∙ sym (length-map pages write_of))
