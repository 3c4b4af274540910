-- Lists of spans and specs, one more at a time, and when they can be spelled.
use Rattle.std.proofs.Common.{◌≡◌, ℕ, ◌+◌, ◌<◌, ◌++◌, ◌∷◌, ◌∙◌, [], Bool, true, false, List, length, take, get_or, map, All, cond, ap, sym, append-nil, refl, Option, Some, None}
use Rattle.std.specs.Prelude.{filter, ◌&&◌}
use Rattle.std.specs.List.{find, list_any}
use Rattle.std.specs.Option.{option_map}
use Rattle.std.proofs.lemmas.List.{map-append, take_more}
use Rattle.std.proofs.lemmas.List.Elements.{All-push, filter_agree, filter_more}
use Rattle.tumbler.specs.declared.span.Span.{Span}
use Rattle.tumbler.specs.Span.{end_of}
use Rattle.std.specs.BTreeMap.{BTreeMap}
use Rattle.febe_data.specs.ListView.{ListView}
use Rattle.febe_data.specs.declared.spec.Spec.{Spec}
use Rattle.febe_data.specs.Plain.{PlainSpec, plain_spec}
use Rattle.flat_rows.specs.declared.links.LinkRow.{LinkRow}
use Rattle.world_rules.specs.World as world
use Rattle.world_rules.specs.World.{is_same, is_text_of, account_of_session}
use Rattle.world_rules.specs.Readable.{is_readable_by}
use Rattle.febe_data.specs.declared.run.Run.{Run}
use Rattle.world_rules.specs.declared.ends.End.{End}
use Rattle.flat_world.specs.declared.ends.Extent.{Extent}
use Rattle.world_rules.specs.declared.rows.Row.{Row}
use Rattle.world_rules.specs.Picking.{picks, is_within, picked_once, places_of, intervals}
use Rattle.flat_rows.specs.PlainLink.{plain_link}
use Rattle.world_rules.specs.Finding.{link_at}
use Rattle.world_rules.specs.Ends.{NamesSpans, runs_of_end, run_now, is_in_end, end_set}
use Rattle.world_rules.specs.Answers.{follow_of}
use Rattle.flat_rows.specs.declared.end_index.Piece.{Piece}
use Rattle.flat_rows.specs.EndIndex.{is_indexed, is_in_end_by, indexed_of, Indexes}
use Rattle.world_rules.proofs.Specs.{list_any-map}

-- the first of the plain links that passes, as of those of the code
find_link : (test : world.LinkRow → Bool) (links : List LinkRow) → option_map plain_link (find (λ (l : LinkRow). test (plain_link l)) links) ≡ find test (map plain_link links)
find_link test [] = refl
find_link test (link ∷ links) = by_case (test (plain_link link)) (find_link test links)
  where
    by_case : (found : Bool) → option_map plain_link (find (λ (l : LinkRow). test (plain_link l)) links) ≡ find test (map plain_link links)
        → option_map plain_link (cond found (Some link) (find (λ (l : LinkRow). test (plain_link l)) links)) ≡ cond found (Some (plain_link link)) (find test (map plain_link links))
    by_case true behind = refl
    by_case false behind = behind

-- the first of that id whose home the account reads, of lists that are the world's
pub link_by : (w : world.World) (account : Option (List ℕ)) (id : List ℕ) (links : List LinkRow) (marked : List (List ℕ)) (found : Option LinkRow) → map plain_link links ≡ w.links → marked ≡ w.published
    → found ≡ find (λ (l : LinkRow). is_readable_by marked account l.home && is_same l.id id) links
    → option_map plain_link found ≡ find (λ (l : world.LinkRow). is_readable_by w.published account l.home && is_same l.id id) w.links
link_by w account id links marked found are_links are_marked is =
    ap (option_map plain_link) is ∙ find_link (λ (l : world.LinkRow). is_readable_by marked account l.home && is_same l.id id) links
    ∙ (λ i. find (λ (l : world.LinkRow). is_readable_by (are_marked i) account l.home && is_same l.id id) (are_links i))

-- so is the session's, by its account
pub link_of : (w : world.World) (session : ℕ) (id : List ℕ) (account : Option (List ℕ)) (found : Option world.LinkRow) → account ≡ account_of_session w session
    → found ≡ find (λ (l : world.LinkRow). is_readable_by w.published account l.home && is_same l.id id) w.links → found ≡ link_at w session id
link_of w session id account found of_session is = is ∙ (λ i. find (λ (l : world.LinkRow). is_readable_by w.published (of_session i) l.home && is_same l.id id) w.links)

-- where no link is found
pub nothing_by : (w : world.World) (session : ℕ) (id : List ℕ) (end : End) (found : Option world.LinkRow) → found ≡ link_at w session id → found ≡ None → [] ≡ follow_of w session (link_at w session id) (Some end)
nothing_by w session id end found is lacks = ap (λ (o : Option world.LinkRow). follow_of w session o (Some end)) (sym lacks ∙ is)

-- the runs of an end that are read, where they show now
pub end_by : (w : world.World) (session : ℕ) (id : List ℕ) (end : End) (account : Option (List ℕ)) (marked : List (List ℕ)) (found : Option world.LinkRow) (link : world.LinkRow) (runs : List Run)
    → account ≡ account_of_session w session → marked ≡ w.published → found ≡ link_at w session id → found ≡ Some link
    → runs ≡ filter (λ (run : Run). is_readable_by marked account run.origin) (runs_of_end end link)
    → map (run_now w) runs ≡ follow_of w session (link_at w session id) (Some end)
end_by w session id end account marked found link runs of_session are_marked is there are_runs =
    ap (map (run_now w)) (are_runs ∙ (λ i. filter (λ (run : Run). is_readable_by (are_marked i) (of_session i) run.origin) (runs_of_end end link)))
    ∙ ap (λ (o : Option world.LinkRow). follow_of w session o (Some end)) (sym there ∙ is)

-- one more spec
pub specs_more : {X : Type 0} (f : X → PlainSpec) (xs : List X) (i : ℕ) (d : X) (old new : List Spec) (spec : Spec) → i < length xs → new ≡ old ++ spec ∷ [] → plain_spec spec ≡ f (get_or xs i d)
    → map plain_spec old ≡ map f (take i xs) → map plain_spec new ≡ map f (take (i + 1) xs)
specs_more f xs i d old new spec lt pushed is before = rw (pushed, map-append, before, is, take_more xs i d lt, map-append) refl

pub specs_valid : (old new : List Spec) (spec : Spec) → new ≡ old ++ spec ∷ [] → NamesSpans (plain_spec spec) → All NamesSpans (map plain_spec old) → All NamesSpans (map plain_spec new)
specs_valid old new spec pushed named before = rw (pushed, map-append) (All-push NamesSpans (map plain_spec old) (plain_spec spec) before named)

-- ---- positions

-- a row that passes, and one that does not
pub places_yes : (p : Row → Bool) (rows : List Row) (i : ℕ) (row : Row) (old new : List ℕ) → i < length rows → row ≡ get_or rows i row → p row ≡ true → new ≡ old ++ row.n ∷ []
    → old ≡ places_of (filter p (take i rows)) → new ≡ places_of (filter p (take (i + 1) rows))
places_yes p rows i row old new lt here passes pushed before =
    let more : filter p (take (i + 1) rows) ≡ filter p (take i rows) ++ row ∷ [] =
    filter_more p rows i row lt ∙ ap (λ (r : Row). filter p (take i rows) ++ cond (p r) (r ∷ []) []) (sym here) ∙ ap (λ (b : Bool). filter p (take i rows) ++ cond b (row ∷ []) []) passes in
    rw (pushed, before, more, map-append) refl

pub places_no : (p : Row → Bool) (rows : List Row) (i : ℕ) (row : Row) (old : List ℕ) → i < length rows → row ≡ get_or rows i row → p row ≡ false
    → old ≡ places_of (filter p (take i rows)) → old ≡ places_of (filter p (take (i + 1) rows))
places_no p rows i row old lt here fails before =
    let same : filter p (take (i + 1) rows) ≡ filter p (take i rows) =
    filter_more p rows i row lt ∙ ap (λ (r : Row). filter p (take i rows) ++ cond (p r) (r ∷ []) []) (sym here) ∙ ap (λ (b : Bool). filter p (take i rows) ++ cond b (row ∷ []) []) fails ∙ append-nil (filter p (take i rows)) in
    before ∙ ap places_of (sym same)

-- ---- what is picked and in an end of some link

filter_both : {X : Type 0} (p q : X → Bool) (xs : List X) → filter (λ x. p x && q x) xs ≡ filter q (filter p xs)
filter_both p q [] = refl
filter_both {X} p q (x ∷ xs) = by_case (p x) (filter_both p q xs)
  where
    by_case : (first : Bool) → filter (λ x. p x && q x) xs ≡ filter q (filter p xs) → cond (first && q x) (x ∷ filter (λ x. p x && q x) xs) (filter (λ x. p x && q x) xs) ≡ filter q (cond first (x ∷ filter p xs) (filter p xs))
    by_case true behind = ap (λ (rest : List X). cond (q x) (x ∷ rest) rest) behind
    by_case false behind = behind

pub picks_indexed : (w : world.World) (index : BTreeMap (List ℕ) (ListView Piece)) (spec : Spec) (extents : List Extent) (rows : List Row) → rows ≡ w.rows
    → extents ≡ map (λ (span : Span). record { start = span.start; end = end_of span }) spec.spans.items
    → filter (λ row. (is_text_of spec.document row && list_any (λ (extent : Extent). is_within extent.start extent.end row) extents) && is_indexed index row.address) rows
    ≡ filter (λ (row : Row). is_indexed index row.address) (picked_once w (plain_spec spec))
picks_indexed w index spec extents rows of_rows of_spans =
    rw (of_rows, of_spans)
    (filter_agree _ (λ (row : Row). (is_text_of spec.document row && list_any (λ (span : Span). picks span row) spec.spans.items) && is_indexed index row.address)
    (λ row. rw list_any-map refl) w.rows
    ∙ filter_both (λ (row : Row). is_text_of spec.document row && list_any (λ (span : Span). picks span row) spec.spans.items) (λ (row : Row). is_indexed index row.address) w.rows)

-- by an index of what is in that end of the links whose homes are read
pub index_by : (w : world.World) (session : ℕ) (end : End) (index : BTreeMap (List ℕ) (ListView Piece)) (links : List LinkRow) (marked : List (List ℕ)) (account : Option (List ℕ)) (specs : List PlainSpec)
    → map plain_link links ≡ w.links → marked ≡ w.published → account ≡ account_of_session w session
    → Indexes (λ address. list_any (λ (link : LinkRow). is_in_end_by marked account end (plain_link link) address) links) index → map (indexed_of w index) specs ≡ end_set w session end specs
index_by w session end index links marked account specs are_links are_marked of_session indexed =
    let here : (address : List ℕ) → is_indexed index address ≡ is_in_end w session end address =
    λ address. indexed address ∙ sym (list_any-map plain_link (λ (link : world.LinkRow). is_in_end_by marked account end link address) links)
    ∙ (λ i. list_any (λ (link : world.LinkRow). is_in_end_by (are_marked i) (of_session i) end link address) (are_links i)) in
    λ i. map (λ (spec : PlainSpec). record { document = spec.document; spans = intervals (places_of (filter (λ (row : Row). here row.address i) (picked_once w spec))) }) specs
