-- What the loops have spelled.
use Rattle.std.proofs.Common.{◌≡◌, ℕ, ◌+◌, ◌-◌, ◌*◌, ◌<◌, ◌≤◌, min, List, [], ◌∷◌, ◌++◌, length, get_or, take, drop, replicate, flat_map, refl, sym, ◌∙◌, ap, ap₂, append_assoc, length-append, take_all, arith}
use Rattle.std.proofs.lemmas.List.{flat_map_more, take_more, map_push, take_min, drop_min}
use Rattle.std.specs.Int.{w64, to_be_bytes}
use Rattle.page_journal.specs.declared.page_write.PageWrite.{PageWrite}
use Rattle.page_journal.specs.JournalBytes.{write_of, writes_of}
use Rattle.page_journal.specs.Pages.{Bytes, PageBytes, page_bytes, Writes}
use Rattle.page_chains.specs.declared.start.Start.{Start}
use Rattle.page_chains.specs.Headers.{header_mark}
use Rattle.page_chains.specs.Spelled.{first_page, link_page, chain_writes, start_bytes, header_page}
use Rattle.page_chains.proofs.Heading.{header_long, long_starts}

link_long : (front body : Bytes) → length front ≡ 8 → 4096 - length (front ++ body) ≡ 4088 - length body
link_long front body eight = omega (arith, length-append front body, eight)

pub link_spelled : (number next : ℕ) (body a b c d word : Bytes) → word ≡ to_be_bytes w64 next → a ≡ [] → b ≡ a ++ word → c ≡ b ++ body → d ≡ c ++ replicate (4096 - length c) 0 → page_bytes number d ≡ page_bytes number (link_page next body)
unfolding link_page
link_spelled number next body a b c d word word_is none front both all =
    let b_is : b ≡ to_be_bytes w64 next = front ∙ ap₂ (λ (l m : Bytes). l ++ m) none word_is in
    let c_is : c ≡ to_be_bytes w64 next ++ body = both ∙ ap (λ (l : Bytes). l ++ body) b_is in
    ap (page_bytes number)
    (all ∙ ap (λ (l : Bytes). l ++ replicate (4096 - length l) 0) c_is
    ∙ ap (λ (k : ℕ). (to_be_bytes w64 next ++ body) ++ replicate k 0) (link_long (to_be_bytes w64 next) body refl))

-- one page more, taken off the stream that is left
pub chain_more : (was now : List PageWrite) (left behind : List ℕ) (number next mid : ℕ) (rest body more : Bytes) (page : PageWrite) (all : Writes) → left ≡ number ∷ behind → writes_of was ++ chain_writes left rest ≡ all → now ≡ was ++ page ∷ [] → write_of page ≡ page_bytes number (link_page next body) → next ≡ first_page behind → mid ≡ min 4088 (length rest) → body ≡ take mid rest → more ≡ drop mid rest → writes_of now ++ chain_writes behind more ≡ all
chain_more was now left behind number next mid rest body more page all first is next_is spelled next_page mid_is body_is more_is =
    let taken : body ≡ take 4088 rest = body_is ∙ ap (λ (k : ℕ). take k rest) mid_is ∙ take_min 4088 rest in
    let cut : more ≡ drop 4088 rest = more_is ∙ ap (λ (k : ℕ). drop k rest) mid_is ∙ drop_min 4088 rest in
    let wanted : write_of page ≡ page_bytes number (link_page (first_page behind) (take 4088 rest)) = spelled ∙ ap₂ (λ (k : ℕ) (b : Bytes). page_bytes number (link_page k b)) next_page taken in
    let pages : writes_of now ≡ writes_of was ++ page_bytes number (link_page (first_page behind) (take 4088 rest)) ∷ [] =
    ap writes_of next_is ∙ map_push write_of was page ∙ ap (λ (w : PageBytes). writes_of was ++ w ∷ []) wanted in
    ap₂ (λ (l : Writes) (b : Bytes). l ++ chain_writes behind b) pages cut
    ∙ append_assoc (writes_of was) (page_bytes number (link_page (first_page behind) (take 4088 rest)) ∷ []) (chain_writes behind (drop 4088 rest))
    ∙ ap (λ (l : List ℕ). writes_of was ++ chain_writes l rest) (sym first)
    ∙ is

pub start_put : (page mid now one two : Bytes) (start : Start) → one ≡ to_be_bytes w64 start.first → two ≡ to_be_bytes w64 start.count → mid ≡ page ++ one → now ≡ mid ++ two → now ≡ page ++ start_bytes start
start_put page mid now one two start one_is two_is half is =
    is ∙ ap₂ (λ (l m : Bytes). l ++ m) (half ∙ ap (λ (l : Bytes). page ++ l) one_is) two_is
    ∙ append_assoc page (to_be_bytes w64 start.first) (to_be_bytes w64 start.count)

pub header_more : (front page now : Bytes) (starts : List Start) (i : ℕ) (start : Start) → i < length starts → start ≡ get_or starts i start → page ≡ front ++ flat_map start_bytes (take i starts) → now ≡ page ++ start_bytes start → now ≡ front ++ flat_map start_bytes (take (i + 1) starts)
header_more front page now starts i start lt item was is =
    let last : take i starts ++ start ∷ [] ≡ take (i + 1) starts = ap (λ (s : Start). take i starts ++ s ∷ []) item ∙ sym (take_more starts i start lt) in
    is
    ∙ ap (λ (l : Bytes). l ++ start_bytes start) was
    ∙ flat_map_more start_bytes front (take i starts) start
    ∙ ap (λ (l : List Start). front ++ flat_map start_bytes l) last

front_long : (a b c d : Bytes) (n : ℕ) → length a ≡ 8 → length b ≡ 8 → length c ≡ 8 → length d ≡ 16 * n → 4096 - length (((a ++ b) ++ c) ++ d) ≡ 4072 - 16 * n
front_long a b c d n la lb lc ld = omega (arith, length-append ((a ++ b) ++ c) d, length-append (a ++ b) c, length-append a b, ld)

pub header_spelled : (first page now : Bytes) (starts : List Start) (i position used : ℕ) → length starts ≤ i → first ≡ (header_mark ++ to_be_bytes w64 position) ++ to_be_bytes w64 used → page ≡ first ++ flat_map start_bytes (take i starts) → now ≡ page ++ replicate (4096 - length page) 0 → now ≡ header_page position used starts
unfolding header_page
header_spelled first page now starts i position used all first_is was is =
    let front : Bytes = (header_mark ++ to_be_bytes w64 position) ++ to_be_bytes w64 used in
    let page_is : page ≡ front ++ flat_map start_bytes starts = was ∙ ap₂ (λ (f : Bytes) (l : List Start). f ++ flat_map start_bytes l) first_is (take_all i starts all) in
    is
    ∙ ap (λ (l : Bytes). l ++ replicate (4096 - length l) 0) page_is
    ∙ ap (λ (k : ℕ). (front ++ flat_map start_bytes starts) ++ replicate k 0)
    (front_long header_mark (to_be_bytes w64 position) (to_be_bytes w64 used) (flat_map start_bytes starts) (length starts) refl refl refl (long_starts starts))

pub header_whole : (first page now : Bytes) (starts : List Start) (i position used : ℕ) → length starts ≡ 7 → length starts ≤ i → first ≡ (header_mark ++ to_be_bytes w64 position) ++ to_be_bytes w64 used → page ≡ first ++ flat_map start_bytes (take i starts) → now ≡ page ++ replicate (4096 - length page) 0 → length now ≡ 4096
header_whole first page now starts i position used seven all first_is was is =
    ap length (header_spelled first page now starts i position used all first_is was is) ∙ header_long position used starts seven
