-- What a retrieve gives can be spelled.
use Rattle.std.proofs.Common.{◌≡◌, ℕ, suc, ◌+◌, ◌-◌, ◌^◌, ◌<◌, ◌≤◌, lit<, min, ◌∙◌, ◌++◌, ◌∷◌, ◌==◌, [], Bool, true, false, All, List, length, refl, map, length-append, arith, None, Some}
use Rattle.std.specs.Prelude.{Option, if◌then◌else◌}
use Rattle.std.specs.List.{flat_map, filter_map, cons_option, sum_by}
use Rattle.std.proofs.lemmas.List.{map-append, length-map}
use Rattle.std.proofs.lemmas.List.Concat.{length-flat_map}
use Rattle.std.proofs.lemmas.List.Elements.{All-nil, All-cons, All-append, All-push, All-map, All-weaker}
use Rattle.std.proofs.lemmas.List.Sums.{sum_by-cons}
use Rattle.tumbler.specs.declared.span.Span.{Span}
use Rattle.febe_data.specs.declared.reply.Item.{Item}
use Rattle.febe_data.specs.Plain.{PlainItem, PlainSpec, plain_item, bytes, link}
use Rattle.febe_data.specs.Validity.{IsItem, IsList}
use Rattle.world_rules.specs.declared.rows.Row.{Row}
use Rattle.world_rules.specs.World.{World, byte_at}
use Rattle.world_rules.specs.Picking.{picked_text, picked_links}
use Rattle.world_rules.specs.Refusals.{span_bytes, span_items, total_of}
use Rattle.world_rules.specs.Answers.{text_of, text_item, items_of_span, items_of, NamesTumbler}

-- an item more
pub tumblers_push : (items more : List Item) (item : Item) → more ≡ items ++ item ∷ [] → NamesTumbler (plain_item item) → All NamesTumbler (map plain_item items) → All NamesTumbler (map plain_item more)
tumblers_push items more item e named all = rw (e, map-append) (All-push NamesTumbler (map plain_item items) (plain_item item) all named)

-- ---- how many items

text_items : (world : World) (rows : List Row) → length (text_item world rows) ≡ (if length rows == 0 then 0 else 1)
text_items world rows = by_case (length rows == 0)
  where
    by_case : (none : Bool) → length (if none then [] else bytes (text_of world rows) ∷ []) ≡ (if none then 0 else 1)
    by_case true = refl
    by_case false = refl

span_items_are : (world : World) (document : List ℕ) (span : Span) → length (items_of_span world document span) ≡ span_items world document span
span_items_are world document span =
    rw (length-append, length-map, text_items world (picked_text world document span)) refl

sums_agree : {X : Type 0} (f g : X → ℕ) → ((x : X) → f x ≡ g x) → (xs : List X) → sum_by f xs ≡ sum_by g xs
sums_agree f g same xs = λ i. sum_by (λ x. same x i) xs

items_are : (world : World) (specs : List PlainSpec) → length (items_of world specs) ≡ total_of (span_items world) specs
items_are world specs =
    length-flat_map (λ (spec : PlainSpec). flat_map (items_of_span world spec.document) spec.spans) specs
    ∙ sums_agree (λ (spec : PlainSpec). length (flat_map (items_of_span world spec.document) spec.spans)) (λ (spec : PlainSpec). sum_by (span_items world spec.document) spec.spans)
    (λ spec. length-flat_map (items_of_span world spec.document) spec.spans ∙ sums_agree (λ (span : Span). length (items_of_span world spec.document span)) (span_items world spec.document) (span_items_are world spec.document) spec.spans) specs

-- ---- how many bytes

-- an item is no longer than n, or it is a link
abbrev IsShort : ℕ → PlainItem → Type 0
IsShort n (bytes text) = length text ≤ n
IsShort n (link id) = Unit {0}

shorter : (m n : ℕ) → m ≤ n → (item : PlainItem) → IsShort m item → IsShort n item
shorter m n le (bytes text) short = omega (arith, le, short)
shorter m n le (link id) short = short

filter_map_shorter : {X Y : Type 0} (f : X → Option Y) (xs : List X) → length (filter_map f xs) ≤ length xs
filter_map_shorter f [] = omega arith
filter_map_shorter {Y = Y} f (x ∷ xs) = step (f x) (filter_map_shorter f xs)
  where
    step : (found : Option Y) → length (filter_map f xs) ≤ length xs → length (cons_option found (filter_map f xs)) ≤ suc (length xs)
    step None before = omega arith
    step (Some y) before = omega arith

-- what each part gives is no longer than its measure, so what all give is no longer than the sum
flat_map_short : {X : Type 0} (f : X → List PlainItem) (g : X → ℕ) → ((x : X) → All (IsShort (g x)) (f x)) → (xs : List X) → All (IsShort (sum_by g xs)) (flat_map f xs)
flat_map_short f g short [] = All-nil (IsShort 0)
flat_map_short f g short (x ∷ xs) =
    rw (sum_by-cons g x xs)
    (All-append (IsShort (g x + sum_by g xs)) (f x) (flat_map f xs)
    (All-weaker (IsShort (g x)) (IsShort (g x + sum_by g xs)) (shorter (g x) (g x + sum_by g xs) (omega arith)) (f x) (short x))
    (All-weaker (IsShort (sum_by g xs)) (IsShort (g x + sum_by g xs)) (shorter (sum_by g xs) (g x + sum_by g xs) (omega arith)) (flat_map f xs) (flat_map_short f g short xs)))

text_short : (world : World) (rows : List Row) → All (IsShort (length rows)) (text_item world rows)
text_short world rows = by_case (length rows == 0)
  where
    by_case : (none : Bool) → All (IsShort (length rows)) (if none then [] else bytes (text_of world rows) ∷ [])
    by_case true = All-nil (IsShort (length rows))
    by_case false = All-cons (IsShort (length rows)) (bytes (text_of world rows)) [] (filter_map_shorter (λ (row : Row). byte_at world.bytes row.address) rows) (All-nil (IsShort (length rows)))

links_short : (n : ℕ) (rows : List Row) → All (IsShort n) (map (λ (row : Row). link row.address) rows)
links_short n rows = All-map (IsShort n) (λ (row : Row). link row.address) rows (λ k d lt. tt)

span_short : (world : World) (document : List ℕ) (span : Span) → All (IsShort (span_bytes world document span)) (items_of_span world document span)
span_short world document span =
    All-append (IsShort (span_bytes world document span)) (text_item world (picked_text world document span)) (map (λ (row : Row). link row.address) (picked_links world document span))
    (text_short world (picked_text world document span)) (links_short (span_bytes world document span) (picked_links world document span))

items_short : (world : World) (specs : List PlainSpec) → All (IsShort (total_of (span_bytes world) specs)) (items_of world specs)
items_short world specs =
    flat_map_short (λ (spec : PlainSpec). flat_map (items_of_span world spec.document) spec.spans) (λ (spec : PlainSpec). sum_by (span_bytes world spec.document) spec.spans)
    (λ spec. flat_map_short (items_of_span world spec.document) (span_bytes world spec.document) (span_short world spec.document) spec.spans) specs

-- ---- both

item_of_both : (item : PlainItem) → IsShort 16777216 item → NamesTumbler item → IsItem item
item_of_both (bytes text) short named = short
item_of_both (link id) short named = named

pub are_items : (world : World) (specs : List PlainSpec) (items : List PlainItem) → items ≡ items_of world specs → All NamesTumbler items
    → total_of (span_bytes world) specs ≤ 16777216 → total_of (span_items world) specs ≤ 65536 → IsList IsItem items
are_items world specs items e named short few =
    let all : All (IsShort (total_of (span_bytes world) specs)) items = rw e (items_short world specs) in
    let count : length items ≤ 65536 = rw (e, items_are world specs) few in
    record { few = count; each = λ k d lt. item_of_both _ (shorter (total_of (span_bytes world) specs) 16777216 short _ (all k d lt)) (named k d lt) }

-- the sizes are told up to the greatest number of their type
short_enough : (n size most greatest : ℕ) → size ≡ min n greatest → size ≤ most → most < greatest → n ≤ most
short_enough n size most greatest is le lt = omega (arith, is, le, lt)

pub retrieved_valid : (world : World) (specs : List PlainSpec) (items : List Item) (bytes_size items_size : ℕ)
    → bytes_size ≡ min (total_of (span_bytes world) specs) (2 ^ 64 - 1) → items_size ≡ min (total_of (span_items world) specs) (2 ^ 64 - 1)
    → bytes_size ≤ 16777216 → items_size ≤ 65536 → map plain_item items ≡ items_of world specs → All NamesTumbler (map plain_item items) → IsList IsItem (map plain_item items)
retrieved_valid world specs items bytes_size items_size bytes_is items_is short few given named =
    are_items world specs (map plain_item items) given named
    (short_enough (total_of (span_bytes world) specs) bytes_size 16777216 (2 ^ 64 - 1) bytes_is short (lit< tt))
    (short_enough (total_of (span_items world) specs) items_size 65536 (2 ^ 64 - 1) items_is few (lit< tt))
