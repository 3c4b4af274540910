-- What is given, one row, span and spec after the other.
use Rattle.std.proofs.Common.{◌≡◌, ℕ, ◌+◌, ◌<◌, ◌∙◌, ◌++◌, ◌∷◌, ◌==◌, ◌&&◌, [], Bool, true, false, List, length, take, get_or, ap, sym, refl, map, append_assoc, length-append, arith, None, Some}
use Rattle.std.specs.Prelude.{Option, filter, if◌then◌else◌}
use Rattle.std.specs.List.{flat_map, cons_option}
use Rattle.std.specs.Option.{option_to_list, unwrap_or}
use Rattle.std.proofs.lemmas.Bool.Decides.{nat_tests}
use Rattle.std.proofs.lemmas.List.{map-append}
use Rattle.std.proofs.lemmas.List.Folds.{flat_map-map}
use Rattle.std.proofs.lemmas.List.Elements.{filter_map-append, All-head, All-tail}
use Rattle.tumbler.specs.declared.span.Span.{Span}
use Rattle.tumbler.specs.Span.{end_of}
use Rattle.febe_data.specs.declared.reply.Item.{Item}
use Rattle.febe_data.specs.declared.spec.Spec.{Spec}
use Rattle.febe_data.specs.Plain.{PlainItem, PlainSpec, plain_item, plain_spec, bytes, link}
use Rattle.world_rules.specs.declared.rows.Row.{Row}
use Rattle.world_rules.specs.World.{World, byte_at, is_text_of, is_link_of}
use Rattle.world_rules.specs.Picking.{is_within, picked_text, picked_links, addresses_of}
use Rattle.world_rules.specs.Answers.{items_of_span, items_of, text_of, text_item}
use Rattle.world_rules.proofs.ListTests.{flat_map_at}
use Rattle.flat_world.specs.inside.ByteIndex.{ByteIndex, HasByteAt, HasBytesOf, byte_of, bytes_of, item_of}
use Rattle.flat_rows.proofs.Picked.{filter_more_yes, filter_more_no}
use Rattle.flat_rows.proofs.Sizes.{span_fits_at, spec_fits_at}

-- the bytes with a row more
bytes_push : (index : ByteIndex) (rows : List Row) (row : Row) → bytes_of index (rows ++ row ∷ []) ≡ bytes_of index rows ++ option_to_list (byte_of index row.address)
bytes_push index rows row = filter_map-append (λ (r : Row). byte_of index r.address) rows (row ∷ []) ∙ ap (λ (last : List ℕ). bytes_of index rows ++ last) (one (byte_of index row.address))
  where
    one : (found : Option ℕ) → cons_option found [] ≡ option_to_list found
    one None = refl
    one (Some byte) = refl

-- a row that passes, and one that does not
pub bytes_more_yes : (index : ByteIndex) (p : Row → Bool) (rows : List Row) (i : ℕ) (d : Row) → i < length rows → p (get_or rows i d) ≡ true
    → bytes_of index (filter p (take (i + 1) rows)) ≡ bytes_of index (filter p (take i rows)) ++ option_to_list (byte_of index (get_or rows i d).address)
bytes_more_yes index p rows i d lt passes = ap (λ (rs : List Row). bytes_of index rs) (filter_more_yes p rows i d lt passes) ∙ bytes_push index (filter p (take i rows)) (get_or rows i d)

pub picked_more_yes : (p : Row → Bool) (rows : List Row) (i : ℕ) (d : Row) → i < length rows → p (get_or rows i d) ≡ true → (length (filter p (take (i + 1) rows)) == 0) ≡ false
picked_more_yes p rows i d lt passes = rw (filter_more_yes p rows i d lt passes, length-append) (grind (arith, nat_tests))

abbrev links_of : List Row → List PlainItem
links_of rows = map (λ (row : Row). link row.address) rows

-- the links with a row more, where it passes and where it does not
pub links_yes : (p : Row → Bool) (rows : List Row) (i : ℕ) (row : Row) (start : List PlainItem) (old new : List Item) (item : Item) → i < length rows → row ≡ get_or rows i row → p row ≡ true
    → new ≡ old ++ item ∷ [] → plain_item item ≡ link row.address → map plain_item old ≡ start ++ map (λ (r : Row). link r.address) (filter p (take i rows))
    → map plain_item new ≡ start ++ map (λ (r : Row). link r.address) (filter p (take (i + 1) rows))
links_yes p rows i row start old new item lt here passes pushed is_link before =
    let more : filter p (take (i + 1) rows) ≡ filter p (take i rows) ++ row ∷ [] = filter_more_yes p rows i row lt (ap p (sym here) ∙ passes) ∙ ap (λ (r : Row). filter p (take i rows) ++ r ∷ []) (sym here) in
    let mapped : links_of (filter p (take (i + 1) rows)) ≡ links_of (filter p (take i rows)) ++ link row.address ∷ [] = rw (more, map-append) refl in
    rw (pushed, map-append, is_link, before, mapped) (append_assoc start (links_of (filter p (take i rows))) (link row.address ∷ []))

pub links_no : (p : Row → Bool) (rows : List Row) (i : ℕ) (row : Row) (start items : List PlainItem) → i < length rows → row ≡ get_or rows i row → p row ≡ false
    → items ≡ start ++ map (λ (r : Row). link r.address) (filter p (take i rows)) → items ≡ start ++ map (λ (r : Row). link r.address) (filter p (take (i + 1) rows))
links_no p rows i row start items lt here fails before = before ∙ ap (λ (rs : List Row). start ++ links_of rs) (sym (filter_more_no p rows i row lt (ap p (sym here) ∙ fails)))

-- the text by the index is the text by the bytes
bytes_there : (world : World) (index : ByteIndex) (rows : List Row) → HasBytesOf world.bytes (addresses_of rows) index → bytes_of index rows ≡ text_of world rows
bytes_there world index [] there = refl
bytes_there world index (row ∷ rows) there =
    ap (λ (found : Option (Option ℕ)). cons_option (unwrap_or found None) (bytes_of index rows)) (All-head (HasByteAt world.bytes index) row.address (addresses_of rows) there)
    ∙ ap (λ (rest : List ℕ). cons_option (byte_at world.bytes row.address) rest) (bytes_there world index rows (All-tail (HasByteAt world.bytes index) row.address (addresses_of rows) there))

text_by_index : (world : World) (index : ByteIndex) (rows : List Row) → HasBytesOf world.bytes (addresses_of rows) index → item_of index rows ≡ text_item world rows
text_by_index world index rows there = ap (λ (text : List ℕ). if length rows == 0 then [] else bytes text ∷ []) (bytes_there world index rows there)

-- what a span gives, in two parts
pub span_is : (world : World) (document : List ℕ) (span : Span) (index : ByteIndex) (rows : List Row) (end : List ℕ) (before between after : List PlainItem)
    → rows ≡ world.rows → end ≡ end_of span → HasBytesOf world.bytes (addresses_of (picked_text world document span)) index
    → between ≡ before ++ item_of index (filter (λ (row : Row). is_text_of document row && is_within span.start end row) rows)
    → after ≡ between ++ map (λ (row : Row). link row.address) (filter (λ (row : Row). is_link_of document row && is_within span.start end row) rows)
    → after ≡ before ++ items_of_span world document span
span_is world document span index rows end before between after e f indexed text links =
    links ∙ rw (text, e, f, text_by_index world index (picked_text world document span) indexed) (append_assoc before (text_item world (picked_text world document span)) (map (λ (row : Row). link row.address) (picked_links world document span)))

pub spec_items_more : (world : World) (specs : List Spec) (i : ℕ) (d : Spec) → i < length specs
    → items_of world (map plain_spec (take (i + 1) specs)) ≡ items_of world (map plain_spec (take i specs)) ++ flat_map (items_of_span world (get_or specs i d).document) (get_or specs i d).spans.items
spec_items_more world specs i d lt =
    rw (flat_map-map (λ (spec : PlainSpec). flat_map (items_of_span world spec.document) spec.spans) plain_spec (take (i + 1) specs), flat_map-map (λ (spec : PlainSpec). flat_map (items_of_span world spec.document) spec.spans) plain_spec (take i specs))
    (flat_map_at (λ (spec : Spec). flat_map (items_of_span world spec.document) spec.spans.items) specs i d lt)

-- a test of two parts, by what the calls answered
pub both_true : (a b x y : Bool) → x ≡ a → x ≡ true → y ≡ b → y ≡ true → (a && b) ≡ true
both_true a b x y e t f u = rw (sym e ∙ t, sym f ∙ u) refl

pub first_false : (a b x : Bool) → x ≡ a → x ≡ false → (a && b) ≡ false
first_false a b x e t = rw (sym e ∙ t) refl

pub second_false : (a b y : Bool) → y ≡ b → y ≡ false → (a && b) ≡ false
second_false a b y f u = rw (sym f ∙ u) (last a)
  where
    last : (c : Bool) → (c && false) ≡ false
    last true = refl
    last false = refl

pub ruleset levels = (flat_map_at, spec_items_more, span_fits_at, spec_fits_at)
