-- Where a document shows the bytes of a run now, and which links and runs may be read.
use Rattle.std.proofs.Common.{◌≡◌, ◌∙◌, ℕ, zero, suc, ◌+◌, ◌<◌, ◌≤◌, ◌==◌, ◌&&◌, Bool, true, false, List, [], ◌∷◌, ◌++◌, length, take, get_or, map, Option, Some, None, cond, refl, sym, ap, subst, true≢false, All, append-nil}
use Rattle.std.specs.Prelude.{filter}
use Rattle.std.specs.List.{find, list_any}
use Rattle.std.specs.Cmp.Lexicographic.{bytes_decides}
use Rattle.std.proofs.lemmas.List.{map-append, take_all}
use Rattle.std.proofs.lemmas.List.Elements.{All-nil, All-cons, All-append, All-head, All-tail, All-weaker, filter_more}
use Rattle.tumbler.specs.Address.{IsDocument}
use Rattle.tumbler.specs.declared.span.Span.{Span}
use Rattle.febe_data.specs.declared.run.Run.{Run}
use Rattle.enfilade_core.specs.declared.tree.Node.{Node}
use Rattle.enfilade_core.specs.Rows.{rows_of}
use Rattle.poom.specs.declared.piece.Piece.{Piece}
use Rattle.poom.specs.Pieces.{IsPiece, address_in, addresses_from, laid}
use Rattle.poom.specs.Laid.{IsRoot, texts, links}
use Rattle.poom.specs.Picked.{is_picked}
use Rattle.poom.specs.Shown.{positions_in, intervals_in}
use Rattle.poom.specs.Runs as poom
use Rattle.doc_table.specs.DocumentRows.{root_in}
use Rattle.links.specs.LinkLists.{IsRun, run_span, link_in, is_of}
use Rattle.world_rules.specs.declared.rows.Row.{Row}
use Rattle.world_rules.specs.declared.rows.Part.TheVariants.{Text}
use Rattle.world_rules.specs.World.{World, LinkRow, is_same, is_text_of, account_of_session}
use Rattle.world_rules.specs.Readable.{is_readable}
use Rattle.world_rules.specs.Picking.{Stretch, stretches_on, stretches, interval, intervals, places_of, is_in_run}
use Rattle.world_rules.specs.Edits.{new_rows}
use Rattle.world_rules.specs.Finding.{link_at}
use Rattle.world_rules.specs.declared.ends.End.{End}
use Rattle.world_rules.specs.Ends.{run_now, runs_of_end}
use Rattle.world_rules.specs.Answers.{follow_of}
use Rattle.febe_data.specs.declared.spec.Spec.{Spec}
use Rattle.febe_data.specs.Plain.{PlainSpec, plain_spec}
use Rattle.world_rules.specs.FlatView.{FlatView}
use Rattle.world_rules.proofs.ListTests.{filter_both}
use Rattle.tree_world.specs.Trees.{Trees, text_at, text_in}
use Rattle.tree_world.specs.Standing.{Stands, EachIdOnce}
use Rattle.tree_world.specs.inside.Reads.{reads_in, link_if, now_for}
use Rattle.tree_world.proofs.Options.{one_value}
use Rattle.tree_world.proofs.Found.{both, either_none}
use Rattle.tree_world.proofs.MayRead.{reads_are}
use Rattle.tree_world.proofs.Lists.{none_passes, IsOnly, same_found}
use Rattle.tree_world.proofs.Places.{byte_met, link_unmet}

-- ---- intervals of both kinds

abbrev same_stretch : {X : Type 0} → poom.Stretch X → Stretch X
same_stretch s = record { first = s.first; count = s.count }

stretch_on : {X : Type 0} (follows : X → X → Bool) (first last : X) (count : ℕ) (xs : List X) → map same_stretch (poom.stretches_on follows first last count xs) ≡ stretches_on follows first last count xs
stretch_on follows first last count [] = refl
stretch_on {X} follows first last count (x ∷ xs) = step (follows last x) (stretch_on follows first x (count + 1) xs) (stretch_on follows x x 1 xs)
  where
    step : (b : Bool) → map same_stretch (poom.stretches_on follows first x (count + 1) xs) ≡ stretches_on follows first x (count + 1) xs → map same_stretch (poom.stretches_on follows x x 1 xs) ≡ stretches_on follows x x 1 xs
        → map same_stretch (cond b (poom.stretches_on follows first x (count + 1) xs) (record { first = first; count = count } ∷ poom.stretches_on follows x x 1 xs))
        ≡ cond b (stretches_on follows first x (count + 1) xs) (record { first = first; count = count } ∷ stretches_on follows x x 1 xs)
    step true more rest = more
    step false more rest = ap (λ (ss : List (Stretch X)). record { first = first; count = count } ∷ ss) rest

stretched : (positions : List ℕ) → map same_stretch (poom.stretches poom.is_next positions) ≡ stretches (λ a b. b == a + 1) positions
stretched [] = refl
stretched (x ∷ xs) = stretch_on poom.is_next x x 1 xs

their_spans : (list : List (poom.Stretch ℕ)) → map (poom.interval 1) list ≡ map interval (map same_stretch list)
their_spans [] = refl
their_spans (s ∷ list) = ap (λ (spans : List Span). poom.interval 1 s ∷ spans) (their_spans list)

pub intervals_are : (positions : List ℕ) → poom.intervals 1 positions ≡ intervals positions
intervals_are positions = their_spans (poom.stretches poom.is_next positions) ∙ ap (map interval) (stretched positions)

-- ---- addresses of pieces

-- the address of a byte or a link of some document
pub record IsAddress (part : ℕ) (address : List ℕ) : Type 0 where
  pub document : List ℕ
  pub number : ℕ
  pub is : address ≡ address_in part document number
  pub of : IsDocument document

addresses_right : (part : ℕ) (document : List ℕ) (first count : ℕ) → IsDocument document → All (IsAddress part) (addresses_from part document first count)
addresses_right part document first zero of = All-nil (IsAddress part)
addresses_right part document first (suc count) of =
    All-cons (IsAddress part) (address_in part document first) (addresses_from part document (first + 1) count) (record { document = document; number = first; is = refl; of = of }) (addresses_right part document (first + 1) count of)

pub laid_right : (part : ℕ) (pieces : List Piece) → All IsPiece pieces → All (IsAddress part) (laid part pieces)
laid_right part [] each = All-nil (IsAddress part)
laid_right part (piece ∷ pieces) each =
    All-append (IsAddress part) (addresses_from part piece.document piece.first piece.count) (laid part pieces) (addresses_right part piece.document piece.first piece.count (All-head IsPiece piece pieces each).document) (laid_right part pieces (All-tail IsPiece piece pieces each))

-- ---- positions

byte_in : (run : Run) → IsRun run → (address : List ℕ) → IsAddress 1 address → is_picked (run_span run) address ≡ is_in_run address run
byte_in run is address a = subst (λ (x : List ℕ). is_picked (run_span run) x ≡ is_in_run x run) (sym a.is) (byte_met a.document a.number run a.of is)

link_out : (run : Run) → IsRun run → (address : List ℕ) → IsAddress 2 address → is_picked (run_span run) address ≡ false
link_out run is address a = ap (is_picked (run_span run)) a.is ∙ link_unmet a.document a.number run a.of is

no_positions : (span : Span) (n : ℕ) (addresses : List (List ℕ)) → All (λ a. is_picked span a ≡ false) addresses → positions_in span n addresses ≡ []
no_positions span n [] all = refl
no_positions span n (a ∷ addresses) all =
    ap (λ (b : Bool). cond b (n ∷ positions_in span (n + 1) addresses) (positions_in span (n + 1) addresses)) (All-head (λ x. is_picked span x ≡ false) a addresses all)
    ∙ no_positions span (n + 1) addresses (All-tail (λ x. is_picked span x ≡ false) a addresses all)

abbrev row_in : Run → Row → Bool
row_in run row = is_in_run row.address run

positions_are : (run : Run) (document : List ℕ) (n : ℕ) (addresses : List (List ℕ)) → All (λ a. is_picked (run_span run) a ≡ is_in_run a run) addresses → positions_in (run_span run) n addresses ≡ places_of (filter (row_in run) (new_rows document n addresses))
positions_are run document n [] all = refl
positions_are run document n (a ∷ addresses) all =
    ap (λ (b : Bool). cond b (n ∷ positions_in (run_span run) (n + 1) addresses) (positions_in (run_span run) (n + 1) addresses)) (All-head (λ x. is_picked (run_span run) x ≡ is_in_run x run) a addresses all)
    ∙ step (is_in_run a run) (positions_are run document (n + 1) addresses (All-tail (λ x. is_picked (run_span run) x ≡ is_in_run x run) a addresses all))
  where
    step : (b : Bool) → positions_in (run_span run) (n + 1) addresses ≡ places_of (filter (row_in run) (new_rows document (n + 1) addresses))
        → cond b (n ∷ positions_in (run_span run) (n + 1) addresses) (positions_in (run_span run) (n + 1) addresses)
        ≡ places_of (cond b (record { document = document; part = Text; n = n; address = a } ∷ filter (row_in run) (new_rows document (n + 1) addresses)) (filter (row_in run) (new_rows document (n + 1) addresses)))
    step true rest = ap (λ (ps : List ℕ). n ∷ ps) rest
    step false rest = rest

-- ---- a run now

run_now_is : (view : FlatView) (shown : Trees) (run : Run) (text : List (List ℕ)) → Stands shown view → text ≡ text_in shown run.origin → (run_now view.world run).spans ≡ intervals (places_of (filter (row_in run) (new_rows run.origin 1 text)))
run_now_is view shown run text stands same =
    ap (λ (rows : List Row). intervals (places_of rows)) (filter_both (is_text_of run.origin) (row_in run) view.world.rows)
    ∙ ap (λ (rows : List Row). intervals (places_of (filter (row_in run) rows))) (stands.texts run.origin)
    ∙ ap (λ (all : List (List ℕ)). intervals (places_of (filter (row_in run) (new_rows run.origin 1 all)))) (sym same)

pub shown_now : (trees shown : Trees) (view : FlatView) (run : Run) (span : Span) (root : Node) (found : List Span) → trees ≡ shown → Some root ≡ root_in trees.documents run.origin → IsRoot trees.nodes root.0 → IsRun run → span ≡ run_span run
    → found ≡ intervals_in span (rows_of trees.nodes root.0) → Stands shown view → found ≡ (run_now view.world run).spans
shown_now trees shown view run span root found same at is right spans found_is stands =
    let rows = rows_of trees.nodes root.0 in
    let text = texts rows in
    let text_is : text ≡ text_in shown run.origin = ap (text_at trees.nodes) at ∙ ap (λ (t : Trees). text_in t run.origin) same in
    let bytes = All-weaker (IsAddress 1) (λ a. is_picked (run_span run) a ≡ is_in_run a run) (byte_in run right) text (laid_right 1 _ is.document.text_pieces) in
    let others = All-weaker (IsAddress 2) (λ a. is_picked (run_span run) a ≡ false) (link_out run right) (links rows) (laid_right 2 _ is.document.link_pieces) in
    found_is
    ∙ ap (λ (s : Span). intervals_in s rows) spans
    ∙ ap (λ (positions : List ℕ). poom.intervals 1 (positions_in (run_span run) 1 text) ++ poom.intervals 2 positions) (no_positions (run_span run) 1 (links rows) others)
    ∙ append-nil (poom.intervals 1 (positions_in (run_span run) 1 text))
    ∙ intervals_are (positions_in (run_span run) 1 text)
    ∙ ap intervals (positions_are run run.origin 1 text bytes)
    ∙ sym (run_now_is view shown run text stands text_is)

pub nothing_now : (trees shown : Trees) (view : FlatView) (run : Run) → trees ≡ shown → None ≡ root_in trees.documents run.origin → Stands shown view → [] ≡ (run_now view.world run).spans
nothing_now trees shown view run same at stands =
    sym (run_now_is view shown run [] stands (ap (text_at trees.nodes) at ∙ ap (λ (t : Trees). text_in t run.origin) same))

-- ---- a link by its id

same_places : (a b : List ℕ) → is_same a b ≡ true → a ≡ b
same_places a b e = (bytes_decides a b).0 e

module _ (p : LinkRow → Bool) (id : List ℕ) (of : (l : LinkRow) → p l ≡ true → is_of id l ≡ true) where
  none_of : (x : LinkRow) (rows : List LinkRow) → All (λ m. is_of id m ≡ false) rows → All (IsOnly p x) rows
  none_of x rows none = All-weaker (λ m. is_of id m ≡ false) (IsOnly p x) (λ m e passes. absurd (true≢false (sym (of m passes) ∙ e))) rows none

  -- of links that have one id, one passes
  one_of_id : (rows : List LinkRow) → EachIdOnce rows → (x : LinkRow) → find p rows ≡ Some x → All (IsOnly p x) rows
  one_of_id [] once x e = All-nil (IsOnly p x)
  one_of_id (l ∷ rows) once x e = step (p l) refl e (one_of_id rows once.1 x)
    where
      step : (b : Bool) → p l ≡ b → cond b (Some l) (find p rows) ≡ Some x → (find p rows ≡ Some x → All (IsOnly p x) rows) → All (IsOnly p x) (l ∷ rows)
      step true is h rest =
          let own : l ≡ x = one_value l x h in
          let none = none_of x rows (subst (λ (i : List ℕ). All (λ m. is_of i m ≡ false) rows) (same_places l.id id (of l is)) (none_passes (is_of l.id) rows once.0)) in
          All-cons (IsOnly p x) l rows (λ _. own) none
      step false is h rest = All-cons (IsOnly p x) l rows (λ passes. absurd (true≢false (sym passes ∙ is))) (rest h)

module _ (may : List ℕ → Bool) (id : List ℕ) where
  abbrev is_open : LinkRow → Bool
  is_open link = may link.home && is_of id link

  none_open : (rows : List LinkRow) → list_any (is_of id) rows ≡ false → find is_open rows ≡ None
  none_open [] none = refl
  none_open (l ∷ rows) none =
      let parts = either_none (is_of id l) (list_any (is_of id) rows) none in
      ap (λ (b : Bool). cond (may l.home && b) (Some l) (find is_open rows)) parts.0 ∙ passed (may l.home) ∙ none_open rows parts.1
    where
      passed : (m : Bool) → cond (m && false) (Some l) (find is_open rows) ≡ find is_open rows
      passed true = refl
      passed false = refl

  -- looked up by the id, and then asked for its home
  found_if : (rows : List LinkRow) → EachIdOnce rows → link_if may (find (is_of id) rows) ≡ find is_open rows
  found_if [] once = refl
  found_if (l ∷ rows) once = step (is_of id l) (may l.home) refl refl (found_if rows once.1)
    where
      step : (b m : Bool) → is_of id l ≡ b → may l.home ≡ m → link_if may (find (is_of id) rows) ≡ find is_open rows → link_if may (cond b (Some l) (find (is_of id) rows)) ≡ cond (m && b) (Some l) (find is_open rows)
      step true true e f rest = ap (λ (c : Bool). cond c (Some l) None) f
      step true false e f rest = ap (λ (c : Bool). cond c (Some l) None) f ∙ sym (none_open rows (subst (λ (i : List ℕ). list_any (is_of i) rows ≡ false) (same_places l.id id e) once.0))
      step false true e f rest = rest
      step false false e f rest = rest

module _ (shown : Trees) (view : FlatView) (stands : Stands shown view) (session : ℕ) (account : Option (List ℕ)) (drawn : account ≡ account_of_session view.world session) (id : List ℕ) where
  pub link_is : link_if (reads_in shown account) (link_in shown.links.links id) ≡ link_at view.world session id
  link_is =
      let p = λ (link : LinkRow). is_readable view.world session link.home && is_same link.id id in
      found_if (reads_in shown account) id shown.links.links stands.ids
      ∙ (λ i. find (λ (link : LinkRow). reads_are shown view stands session account drawn link.home i && is_of id link) shown.links.links)
      ∙ same_found p shown.links.links view.world.links stands.link_table (one_of_id p id (λ l e. (both (is_readable view.world session l.home) (is_of id l) e).1) shown.links.links stands.ids)

  pub nowhere_now : (end : End) (made : List Spec) → None ≡ link_if (reads_in shown account) (link_in shown.links.links id) → made ≡ [] → map plain_spec made ≡ follow_of view.world session (link_at view.world session id) (Some end)
  nowhere_now end made none empty = ap (map plain_spec) empty ∙ ap (λ (found : Option LinkRow). follow_of view.world session found (Some end)) (none ∙ link_is)

  pub there_now : (end : End) (link : LinkRow) (runs : List Run) (made : List Spec) → Some link ≡ link_if (reads_in shown account) (link_in shown.links.links id) → runs ≡ runs_of_end end link → map plain_spec made ≡ now_for view.world shown account runs
      → map plain_spec made ≡ follow_of view.world session (link_at view.world session id) (Some end)
  there_now end link runs made there are is =
      is
      ∙ ap (now_for view.world shown account) are
      ∙ (λ i. map (run_now view.world) (filter (λ (run : Run). reads_are shown view stands session account drawn run.origin i) (runs_of_end end link)))
      ∙ ap (λ (found : Option LinkRow). follow_of view.world session found (Some end)) (there ∙ link_is)

-- ---- one run after the other

module _ (world : World) (trees : Trees) (account : Option (List ℕ)) where
  now_or_not : (b : Bool) (some : List Run) (run : Run) → map (run_now world) some ++ cond b (run_now world run ∷ []) [] ≡ map (run_now world) (some ++ cond b (run ∷ []) [])
  now_or_not true some run = sym (map-append (run_now world) some (run ∷ []))
  now_or_not false some run = append-nil (map (run_now world) some) ∙ sym (ap (map (run_now world)) (append-nil some))

  pub now_more : (runs : List Run) (k : ℕ) (run : Run) (old new : List PlainSpec) → k < length runs → run ≡ get_or runs k run → old ≡ now_for world trees account (take k runs)
      → new ≡ old ++ cond (reads_in trees account run.origin) (run_now world run ∷ []) [] → new ≡ now_for world trees account (take (k + 1) runs)
  now_more runs k run old new lt here before is =
      let may = λ (r : Run). reads_in trees account r.origin in
      is
      ∙ ap (λ (specs : List PlainSpec). specs ++ cond (may run) (run_now world run ∷ []) []) before
      ∙ now_or_not (may run) (filter may (take k runs)) run
      ∙ ap (λ (r : Run). map (run_now world) (filter may (take k runs) ++ cond (may r) (r ∷ []) [])) here
      ∙ ap (map (run_now world)) (sym (filter_more may runs k run lt))

  pub now_all : (runs : List Run) (k : ℕ) (made : List PlainSpec) → length runs ≤ k → made ≡ now_for world trees account (take k runs) → made ≡ now_for world trees account runs
  now_all runs k made past is = is ∙ ap (now_for world trees account) (take_all k runs past)
