-- Reading a reply from left to right: the reply and the bytes after it, or nothing.
use Rattle.std.specs.Prelude.{ℕ, List, [], ◌∷◌, Option, Some, None, ◌==◌, ◌||◌, if◌then◌else◌}
use Rattle.febe_data.specs.declared.refusal.Refusal.{Refusal}
use Rattle.febe_data.specs.declared.refusal.Refusal.TheVariants as refusals
use Rattle.febe_data.specs.declared.run.Diagonal.{Diagonal}
use Rattle.febe_data.specs.Plain.{PlainItem, bytes, link, PlainReply, inserted, copied, rearranged, deleted, has_quit, account_set, closed, gave_span_set, gave_whole_span, retrieved, related, created, versioned, linked, opened, followed, found_documents, gave_end_sets, counted_links, found_links, gave_next_links, refused, published}
use Rattle.febe_fields.specs.Reading.{◌>>=◌, number_at, text_at, tumbler_at, tumblers_at, span_at, spans_at, specs_at, list_at}

-- ---- refusals

-- the refusal of this number
abbrev pub refusal_of : ℕ → Option Refusal
refusal_of n =
    if n == 1 then Some refusals.NoAccount else (
    if n == 2 then Some refusals.NoSuchDocument else (
    if n == 3 then Some refusals.NotOpen else (
    if n == 4 then Some refusals.NotOpenForWriting else (
    if n == 5 then Some refusals.NotOwner else (
    if n == 6 then Some refusals.Conflict else (
    if n == 7 then Some refusals.BadAddress else (
    if n == 8 then Some refusals.BadCuts else (
    if n == 9 then Some refusals.NoSuchLink else (
    if n == 10 then Some refusals.NoSuchEnd else (
    if n == 11 then Some refusals.TooLong else (
    if n == 12 then Some refusals.Full else (
    if n == 13 then Some refusals.Disk else (
    if n == 14 then Some refusals.Memory else (
    if n == 15 then Some refusals.Private else (
    None)))))))))))))))

-- a refusal, from behind its question mark
unfoldable pub refused_at : List ℕ → Option (PlainReply × List ℕ)
refused_at input = do
  n ← number_at input
  refusal ← refusal_of n.0
  Some (refused refusal, n.1)

-- ---- items

unfoldable pub text_item_at : List ℕ → Option (PlainItem × List ℕ)
text_item_at input = do
  text ← text_at input
  Some (bytes text.0, text.1)

unfoldable pub link_item_at : List ℕ → Option (PlainItem × List ℕ)
link_item_at input = do
  id ← tumbler_at input
  Some (link id.0, id.1)

-- a text where a t begins it, and else the id of a link
unfoldable pub item_at : List ℕ → Option (PlainItem × List ℕ)
item_at [] = None
item_at (b ∷ rest) = if b == 116 then text_item_at (b ∷ rest) else link_item_at (b ∷ rest)

unfoldable pub retrieved_at : List ℕ → Option (PlainReply × List ℕ)
retrieved_at input = do
  items ← list_at item_at input
  Some (retrieved items.0, items.1)

-- ---- diagonals

-- the text position of a V-address
abbrev pub position_of : List ℕ → Option ℕ
position_of [] = None
position_of (one ∷ []) = None
position_of (one ∷ position ∷ []) = if one == 1 then Some position else None
position_of (one ∷ position ∷ more ∷ places) = None

unfoldable pub text_address_at : List ℕ → Option (ℕ × List ℕ)
text_address_at input = do
  places ← tumbler_at input
  position ← position_of places.0
  Some (position, places.1)

unfoldable pub diagonal_at : List ℕ → Option (Diagonal × List ℕ)
diagonal_at input = do
  left ← text_address_at input
  right ← text_address_at left.1
  length ← number_at right.1
  Some (record { left = left.0; right = right.0; length = length.0 }, length.1)

unfoldable pub related_at : List ℕ → Option (PlainReply × List ℕ)
related_at input = do
  diagonals ← list_at diagonal_at input
  Some (related diagonals.0, diagonals.1)

-- ---- other replies, from behind their numbers

-- the reply of this number that gives nothing
abbrev pub reply_with_nothing : ℕ → Option PlainReply
reply_with_nothing n =
    if n == 0 then Some inserted else (
    if n == 2 then Some copied else (
    if n == 3 then Some rearranged else (
    if n == 12 then Some deleted else (
    if n == 16 then Some has_quit else (
    if n == 34 then Some account_set else (
    if n == 36 then Some closed else (
    if n == 40 then Some published else None)))))))

unfoldable pub with_nothing_at : ℕ → List ℕ → Option (PlainReply × List ℕ)
with_nothing_at n input = do
  reply ← reply_with_nothing n
  Some (reply, input)

-- the reply of this number that gives one tumbler
abbrev pub reply_with_tumbler : ℕ → List ℕ → Option PlainReply
reply_with_tumbler n places =
    if n == 11 then Some (created places) else (
    if n == 13 then Some (versioned places) else (
    if n == 27 then Some (linked places) else (
    if n == 35 then Some (opened places) else None)))

unfoldable pub with_tumbler_at : ℕ → List ℕ → Option (PlainReply × List ℕ)
with_tumbler_at n input = do
  places ← tumbler_at input
  reply ← reply_with_tumbler n places.0
  Some (reply, places.1)

-- the reply of this number that gives a list of tumblers
abbrev pub reply_with_tumblers : ℕ → List (List ℕ) → Option PlainReply
reply_with_tumblers n tumblers =
    if n == 22 then Some (found_documents tumblers) else (
    if n == 30 then Some (found_links tumblers) else (
    if n == 31 then Some (gave_next_links tumblers) else None))

unfoldable pub with_tumblers_at : ℕ → List ℕ → Option (PlainReply × List ℕ)
with_tumblers_at n input = do
  tumblers ← tumblers_at input
  reply ← reply_with_tumblers n tumblers.0
  Some (reply, tumblers.1)

unfoldable pub span_set_at : List ℕ → Option (PlainReply × List ℕ)
span_set_at input = do
  spans ← spans_at input
  Some (gave_span_set spans.0, spans.1)

unfoldable pub whole_span_at : List ℕ → Option (PlainReply × List ℕ)
whole_span_at input = do
  span ← span_at input
  Some (gave_whole_span span.0, span.1)

unfoldable pub followed_at : List ℕ → Option (PlainReply × List ℕ)
followed_at input = do
  specs ← specs_at input
  Some (followed specs.0, specs.1)

unfoldable pub end_sets_at : List ℕ → Option (PlainReply × List ℕ)
end_sets_at input = do
  from ← specs_at input
  to ← specs_at from.1
  three ← specs_at to.1
  Some (gave_end_sets from.0 to.0 three.0, three.1)

unfoldable pub link_count_at : List ℕ → Option (PlainReply × List ℕ)
link_count_at input = do
  count ← number_at input
  Some (counted_links count.0, count.1)

-- ---- replies

-- the reply of this number
unfoldable pub reply_of : ℕ → List ℕ → Option (PlainReply × List ℕ)
reply_of n input =
    if n == 1 then span_set_at input else (
    if n == 5 then retrieved_at input else (
    if n == 10 then related_at input else (
    if n == 14 then whole_span_at input else (
    if n == 18 then followed_at input else (
    if n == 28 then end_sets_at input else (
    if n == 29 then link_count_at input else (
    if n == 11 || n == 13 || n == 27 || n == 35 then with_tumbler_at n input else (
    if n == 22 || n == 30 || n == 31 then with_tumblers_at n input else (
    with_nothing_at n input)))))))))

-- the reply behind a number
unfoldable pub numbered_at : List ℕ → Option (PlainReply × List ℕ)
numbered_at input = do
  n ← number_at input
  reply_of n.0 n.1

-- a reply: a question mark and the number of a refusal, or a number, and what the reply gives
unfoldable pub reply_at : List ℕ → Option (PlainReply × List ℕ)
reply_at [] = None
reply_at (b ∷ rest) = if b == 63 then refused_at rest else numbered_at (b ∷ rest)
