-- What a retrieve gives, one run, link, span and spec after the other, and that it is what the world gives.
use Rattle.std.proofs.Common.{◌≡◌, ◌∙◌, ◌≢◌, ℕ, suc, ◌+◌, ◌-◌, ◌<◌, ◌≤◌, ◌++◌, ◌==◌, ◌&&◌, Bool, cond, false, not, List, [], ◌∷◌, length, take, drop, map, get_or, refl, sym, ap, arith, append_assoc, append-nil}
use Rattle.std.specs.Prelude.{filter}
use Rattle.std.proofs.lemmas.Bool.Decides.{nat_tests}
use Rattle.std.specs.List.{flat_map, cons_option}
use Rattle.std.proofs.lemmas.List.{take_more, map-append}
use Rattle.tumbler.specs.Places.{comes_before}
use Rattle.tumbler.specs.Span.{end_of}
use Rattle.tumbler.specs.declared.span.Span.{Span}
use Rattle.febe_data.specs.declared.reply.Item.{Item}
use Rattle.febe_data.specs.declared.run.Run.{Run}
use Rattle.febe_data.specs.Plain.{PlainItem, PlainSpec, plain_item, bytes, link}
use Rattle.granfilade.specs.Content.{ByteAt, ContentTree, so_far_on, content, tree_rows, bytes_in}
use Rattle.granfilade.specs.Puts.{IsContent}
use Rattle.granfilade.proofs.Documents.{step-last}
use Rattle.poom.specs.Edited.{IsContentRun}
use Rattle.poom.specs.Bounds.{IsBound}
use Rattle.poom.specs.Picked.{picked_from}
use Rattle.poom.specs.Pieces.{address_in, addresses_from}
use Rattle.poom.proofs.Picks.{picked_between}
use Rattle.links.specs.LinkLists.{run_span}
use Rattle.world_rules.specs.declared.rows.Row.{Row}
use Rattle.world_rules.specs.World.{byte_at}
use Rattle.world_rules.specs.Picking.{picked_text, picked_links, addresses_of}
use Rattle.world_rules.specs.Answers as wanted
use Rattle.world_rules.specs.Answers.{items_of_span, items_of}
use Rattle.world_rules.specs.FlatView.{FlatView}
use Rattle.tree_world.specs.Trees.{Trees, text_in, links_in}
use Rattle.tree_world.specs.Standing.{Stands}
use Rattle.tree_world.specs.inside.Seen.{byte_found, bytes_found, text_item, items_picked, items_by_specs}
use Rattle.tree_world.proofs.Within.{part_of, in_part}
use Rattle.tree_world.proofs.Ordered.{contents_ascend, contents_made}
use Rattle.tree_world.proofs.Contents.{run_bytes, same_byte}
use Rattle.tree_world.proofs.Seen.{text_seen, links_seen, count_picked}

-- ---- the bytes of runs

pub run_end : (run : Run) → end_of (run_span run) ≡ address_in 1 run.content (run.first + run.length)
run_end run =
    ap (λ (a : List ℕ). so_far_on a run.length) (in_part run.content run.first)
    ∙ step-last (part_of run.content) run.first run.length
    ∙ sym (in_part run.content (run.first + run.length))

pub run_read : (tree : ContentTree) (run : Run) → IsContent (tree_rows tree) → IsContentRun run → bytes_in (run_span run) (content tree) ≡ bytes_found (content tree) (addresses_from 1 run.content run.first run.length)
run_read tree run is one =
    ap (λ (end : List ℕ). map (λ (at : ByteAt). at.byte) (filter (λ (at : ByteAt). not (comes_before at.address (address_in 1 run.content run.first)) && comes_before at.address end) (content tree))) (run_end run)
    ∙ run_bytes run.content run.first run.length (content tree) one.document (contents_made (tree_rows tree) is) (contents_ascend (tree_rows tree) is)

-- ---- items

not_none : (n : ℕ) → (suc n == 0) ≡ false
not_none n = grind (arith, nat_tests)

-- of one address or more an item comes
item_of_some : (held : List ByteAt) (a : List ℕ) (addresses : List (List ℕ)) → text_item held (a ∷ addresses) ≡ bytes (bytes_found held (a ∷ addresses)) ∷ []
item_of_some held a addresses = ap (λ (none : Bool). cond none [] (bytes (bytes_found held (a ∷ addresses)) ∷ [])) (not_none (length addresses))

item_some : (held : List ByteAt) (addresses : List (List ℕ)) → length addresses ≢ 0 → text_item held addresses ≡ bytes (bytes_found held addresses) ∷ []
item_some held [] some = absurd (some refl)
item_some held (a ∷ addresses) some = item_of_some held a addresses

item_none : (held : List ByteAt) (addresses : List (List ℕ)) → length addresses ≡ 0 → text_item held addresses ≡ []
item_none held [] none = refl
item_none held (a ∷ addresses) none = absurd (omega (arith, none))

-- the item of what a span picks, told by the positions between which that stands
pub item_pushed : (held : List ByteAt) (from to : ℕ) (span : Span) (end : List ℕ) (long : ℕ) (standing : List (List ℕ)) (old new : List Item) (item : Item) (text : List ℕ) → end ≡ end_of span → IsBound 1 span.start long from → IsBound 1 end long to → long ≡ length standing → from < to
    → text ≡ bytes_found held (take (to - from) (drop (from - 1) standing)) → plain_item item ≡ bytes text → new ≡ old ++ item ∷ [] → map plain_item new ≡ map plain_item old ++ text_item held (picked_from 1 span 1 standing)
item_pushed held from to span end long standing old new item text e f t same lt is one pushed =
    let picked = picked_from 1 span 1 standing in
    let between = picked_between 1 from to span end long standing (take (to - from) (drop (from - 1) standing)) e f t same refl in
    let many = count_picked 1 from to span end long e f t standing same in
    ap (map plain_item) pushed ∙ map-append plain_item old (item ∷ [])
    ∙ ap (λ (xs : List PlainItem). map plain_item old ++ xs) ((λ i. (one ∙ ap bytes (is ∙ ap (bytes_found held) between)) i ∷ []) ∙ sym (item_some held picked (λ none. omega (arith, lt, many, none))))

pub none_pushed : (held : List ByteAt) (from to : ℕ) (span : Span) (end : List ℕ) (long : ℕ) (standing : List (List ℕ)) (old : List PlainItem) → end ≡ end_of span → IsBound 1 span.start long from → IsBound 1 end long to → long ≡ length standing → to ≤ from
    → old ≡ old ++ text_item held (picked_from 1 span 1 standing)
none_pushed held from to span end long standing old e f t same le =
    let many = count_picked 1 from to span end long e f t standing same in
    sym (ap (λ (xs : List PlainItem). old ++ xs) (item_none held (picked_from 1 span 1 standing) (omega (arith, le, many))) ∙ append-nil old)

pub link_more : (ids : List (List ℕ)) (i : ℕ) (id : List ℕ) (start : List PlainItem) (old new : List Item) (item : Item) → i < length ids → id ≡ get_or ids i id → new ≡ old ++ item ∷ [] → plain_item item ≡ link id
    → map plain_item old ≡ start ++ map link (take i ids) → map plain_item new ≡ start ++ map link (take (i + 1) ids)
link_more ids i id start old new item lt at pushed is before =
    ap (map plain_item) pushed ∙ map-append plain_item old (item ∷ [])
    ∙ (λ k. before k ++ (is ∙ ap link at) k ∷ [])
    ∙ append_assoc start (map link (take i ids)) (link (get_or ids i id) ∷ [])
    ∙ ap (λ (xs : List PlainItem). start ++ xs) (sym (map-append link (take i ids) (get_or ids i id ∷ [])) ∙ ap (map link) (sym (take_more ids i id lt)))

-- a span's text, and then its links
pub span_pushed : (found : List ByteAt) (picked addresses ids links : List (List ℕ)) (before between after : List PlainItem) → between ≡ before ++ text_item found addresses → addresses ≡ picked → after ≡ between ++ map link ids → ids ≡ links
    → after ≡ before ++ (text_item found picked ++ map link links)
span_pushed found picked addresses ids links before between after text same more ids_are =
    more ∙ (λ i. (text ∙ ap (λ (xs : List (List ℕ)). before ++ text_item found xs) same) i ++ map link (ids_are i))
    ∙ append_assoc before (text_item found picked) (map link links)

-- ---- in a world that trees stand for

module _ (trees : Trees) (view : FlatView) (stands : Stands trees view) (is : IsContent (tree_rows trees.contents)) where
  byte_seen : (a : List ℕ) → byte_at view.world.bytes a ≡ byte_found (content trees.contents) a
  byte_seen a = sym (same_byte a (content trees.contents) view.world.bytes (contents_ascend (tree_rows trees.contents) is) stands.bytes)

  bytes_seen : (rows : List Row) → wanted.text_of view.world rows ≡ bytes_found (content trees.contents) (addresses_of rows)
  bytes_seen [] = refl
  bytes_seen (row ∷ rows) = λ i. cons_option (byte_seen row.address i) (bytes_seen rows i)

  item_seen : (rows : List Row) → wanted.text_item view.world rows ≡ text_item (content trees.contents) (addresses_of rows)
  item_seen [] = refl
  item_seen (row ∷ rows) =
      ap (λ (none : Bool). cond none [] (bytes (wanted.text_of view.world (row ∷ rows)) ∷ [])) (not_none (length rows))
      ∙ ap (λ (text : List ℕ). bytes text ∷ []) (bytes_seen (row ∷ rows))
      ∙ sym (item_of_some (content trees.contents) row.address (addresses_of rows))

  link_items : (rows : List Row) → map (λ (row : Row). link row.address) rows ≡ map link (addresses_of rows)
  link_items [] = refl
  link_items (row ∷ rows) = ap (λ (items : List PlainItem). link row.address ∷ items) (link_items rows)

  span_seen : (document : List ℕ) (span : Span) → items_of_span view.world document span ≡ items_picked trees document span
  span_seen document span = λ i.
      (item_seen (picked_text view.world document span) ∙ ap (text_item (content trees.contents)) (text_seen view.world document (text_in trees document) span (stands.texts document))) i
      ++ (link_items (picked_links view.world document span) ∙ ap (map link) (links_seen view.world document (links_in trees document) span (stands.links document))) i

  pub items_seen : (specs : List PlainSpec) → items_of view.world specs ≡ items_by_specs trees specs
  items_seen specs = λ i. flat_map (λ (spec : PlainSpec). flat_map (λ (span : Span). span_seen spec.document span i) spec.spans) specs

pub ruleset link_steps = (link_more)
