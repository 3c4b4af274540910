-- What is found, one tumbler, row and document after the other.
use Rattle.std.proofs.Common.{◌≡◌, ℕ, ◌+◌, ◌<◌, ◌∙◌, ◌++◌, ◌∷◌, ◌&&◌, ◌||◌, [], Bool, true, false, cond, List, Option, length, take, get_or, ap, sym, refl, map, All, append_assoc, append-nil}
use Rattle.std.specs.Prelude.{filter}
use Rattle.std.specs.List.{list_any}
use Rattle.std.specs.BTreeSet.{BTreeSet, Updates}
use Rattle.std.specs.Ordering.{nat_cmp}
use Rattle.std.specs.Cmp.Lexicographic.{slice_cmp, texts_ties}
use Rattle.std.proofs.lemmas.Cmp.{nat_list_eq_equiv}
use Rattle.std.proofs.lemmas.List.Folds.{list_any_more}
use Rattle.std.proofs.lemmas.List.{take_more, map-append}
use Rattle.std.proofs.lemmas.List.Elements.{All-push, filter-append}
use Rattle.tumbler.specs.Places.{IsTumbler}
use Rattle.febe_data.specs.Plain.{PlainSpec, PlainWant}
use Rattle.world_rules.specs.declared.rows.Row.{Row}
use Rattle.world_rules.specs.declared.lookups.WantedRuns.{WantedRuns}
use Rattle.world_rules.specs.World.{World, LinkRow, is_same, ascending, account_of_session}
use Rattle.world_rules.specs.Readable.{is_readable, is_readable_by}
use Rattle.world_rules.specs.World as plain
use Rattle.flat_rows.specs.declared.links.LinkRow as rows
use Rattle.flat_rows.specs.PlainLink.{plain_link}
use Rattle.flat_rows.specs.Meeting.{is_met, is_met_by}
use Rattle.world_rules.specs.Wanted.{AreWantedRuns}
use Rattle.flat_rows.specs.Sets.{is_in_set, IsSetOf, IsSetShowing}
use Rattle.world_rules.specs.Picking.{picked_addresses}
use Rattle.world_rules.specs.Finding.{shows_one_of, documents_found, is_wanted, links_found}
use Rattle.flat_rows.proofs.SharedBytes.{end_is_met}

-- ---- lists of tumblers

-- the next tumbler of what is left comes to what is made
pub pushed_more : (all old new left rest : List (List ℕ)) (tumbler : List ℕ) → left ≡ tumbler ∷ rest → new ≡ old ++ tumbler ∷ [] → IsTumbler tumbler
    → old ++ left ≡ all → All IsTumbler old → (new ++ rest ≡ all) × All IsTumbler new
pushed_more all old new left rest tumbler next pushed valid before each =
    (rw pushed (append_assoc old (tumbler ∷ []) rest ∙ ap (λ (more : List (List ℕ)). old ++ more) (sym next) ∙ before), rw pushed (All-push IsTumbler old tumbler each valid))

-- ---- sets

or_else : (a b : Bool) → cond a true b ≡ (b || a)
or_else true true = refl
or_else true false = refl
or_else false true = refl
or_else false false = refl

same_back : (a b : List ℕ) → is_same a b ≡ is_same b a
same_back a b = nat_list_eq_equiv.symm a b

-- one tumbler more
in_set_more : (old new : BTreeSet (List ℕ)) (key tumbler : List ℕ) → Updates (slice_cmp nat_cmp) old new key true → is_in_set new tumbler ≡ (is_in_set old tumbler || is_same key tumbler)
in_set_more old new key tumbler updates =
    updates.0 tumbler
    ∙ ap (λ (same : Bool). cond same true (is_in_set old tumbler)) (sym (texts_ties key tumbler))
    ∙ or_else (is_same key tumbler) (is_in_set old tumbler)

pub set_more : (tumblers : List (List ℕ)) (i : ℕ) (d : List ℕ) (old new : BTreeSet (List ℕ)) → i < length tumblers → IsSetOf (take i tumblers) old
    → Updates (slice_cmp nat_cmp) old new (get_or tumblers i d) true → IsSetOf (take (i + 1) tumblers) new
set_more tumblers i d old new lt before updates tumbler =
    in_set_more old new (get_or tumblers i d) tumbler updates
    ∙ ap (λ (b : Bool). b || is_same (get_or tumblers i d) tumbler) (before tumbler)
    ∙ ap (λ (b : Bool). list_any (is_same tumbler) (take i tumblers) || b) (same_back (get_or tumblers i d) tumbler)
    ∙ sym (list_any_more (is_same tumbler) tumblers i d lt)

-- the documents that rows show, with a row more: one that has an address, and one that has none
showing_more : (addresses : BTreeSet (List ℕ)) (rows : List Row) (i : ℕ) (d : Row) (document : List ℕ) (has : Bool) → i < length rows → has ≡ is_in_set addresses (get_or rows i d).address
    → list_any (λ (row : Row). is_same row.document document && is_in_set addresses row.address) (take (i + 1) rows)
    ≡ (list_any (λ (row : Row). is_same row.document document && is_in_set addresses row.address) (take i rows) || (is_same (get_or rows i d).document document && has))
showing_more addresses rows i d document has lt e = rw e (list_any_more (λ (row : Row). is_same row.document document && is_in_set addresses row.address) rows i d lt)

and_true : (b : Bool) → (b && true) ≡ b
and_true true = refl
and_true false = refl

or_and_false : (a b : Bool) → (a || (b && false)) ≡ a
or_and_false true b = refl
or_and_false false true = refl
or_and_false false false = refl

pub showing_yes : (addresses : BTreeSet (List ℕ)) (rows : List Row) (i : ℕ) (row : Row) (key : List ℕ) (has : Bool) (old new : BTreeSet (List ℕ)) → i < length rows → row ≡ get_or rows i row
    → key ≡ row.document → has ≡ is_in_set addresses row.address → has ≡ true → IsSetShowing (take i rows) addresses old
    → Updates (slice_cmp nat_cmp) old new key true → IsSetShowing (take (i + 1) rows) addresses new
showing_yes addresses rows i row key has old new lt here key_is has_is holds before updates document =
    let at_row : is_same key document ≡ is_same (get_or rows i row).document document = ap (λ (k : List ℕ). is_same k document) (key_is ∙ ap (λ (r : Row). r.document) here) in
    let has_here : true ≡ is_in_set addresses (get_or rows i row).address = sym holds ∙ has_is ∙ ap (λ (r : Row). is_in_set addresses r.address) here in
    in_set_more old new key document updates
    ∙ ap (λ (b : Bool). b || is_same key document) (before document)
    ∙ ap (λ (b : Bool). list_any (λ (r : Row). is_same r.document document && is_in_set addresses r.address) (take i rows) || b) (at_row ∙ sym (and_true (is_same (get_or rows i row).document document)))
    ∙ sym (showing_more addresses rows i row document true lt has_here)

pub showing_no : (addresses : BTreeSet (List ℕ)) (rows : List Row) (i : ℕ) (row : Row) (has : Bool) (old : BTreeSet (List ℕ)) → i < length rows → row ≡ get_or rows i row
    → has ≡ is_in_set addresses row.address → has ≡ false → IsSetShowing (take i rows) addresses old → IsSetShowing (take (i + 1) rows) addresses old
showing_no addresses rows i row has old lt here has_is fails before document =
    let has_here : false ≡ is_in_set addresses (get_or rows i row).address = sym fails ∙ has_is ∙ ap (λ (r : Row). is_in_set addresses r.address) here in
    before document
    ∙ sym (or_and_false (list_any (λ (r : Row). is_same r.document document && is_in_set addresses r.address) (take i rows)) (is_same (get_or rows i row).document document))
    ∙ sym (showing_more addresses rows i row document false lt has_here)

pub ruleset set_steps = (set_more)

-- ---- documents

-- the same sets of addresses, of rows and of documents
pub documents_are : (world : World) (session : ℕ) (addresses : List (List ℕ)) (picked shown : BTreeSet (List ℕ)) → IsSetOf addresses picked → IsSetShowing world.rows picked shown
    → filter (λ (document : List ℕ). is_readable world session document && is_in_set shown document) world.documents
    ≡ filter (λ (document : List ℕ). is_readable world session document && shows_one_of world addresses document) world.documents
documents_are world session addresses picked shown picks shows =
    λ i. filter (λ (document : List ℕ). is_readable world session document && shown_by document i) world.documents
  where
    shown_by : (document : List ℕ) → is_in_set shown document ≡ shows_one_of world addresses document
    shown_by document = shows document ∙ (λ i. list_any (λ (row : Row). is_same row.document document && picks row.address i) world.rows)

pub found_are : (world : World) (session : ℕ) (specs : List PlainSpec) (addresses : List (List ℕ)) (picked shown found : BTreeSet (List ℕ)) (rows : List Row) (documents marked made : List (List ℕ)) (account : Option (List ℕ))
    → addresses ≡ picked_addresses world specs → rows ≡ world.rows → documents ≡ world.documents → marked ≡ world.published → account ≡ account_of_session world session
    → IsSetOf addresses picked → IsSetShowing rows picked shown
    → found.keys ≡ ascending (filter (λ (document : List ℕ). is_readable_by marked account document && is_in_set shown document) documents) → made ≡ found.keys → made ≡ documents_found world session specs
found_are world session specs addresses picked shown found rows documents marked made account are_picked are_rows are_documents are_marked of_session picks shows keys listed =
    let shows_rows : IsSetShowing world.rows picked shown = rw (sym are_rows) shows in
    listed ∙ keys ∙ (λ i. ascending (filter (λ (document : List ℕ). is_readable_by (are_marked i) (of_session i) document && is_in_set shown document) (are_documents i)))
    ∙ ap ascending (documents_are world session addresses picked shown picks shows_rows)
    ∙ ap (λ (all : List (List ℕ)). ascending (filter (λ (document : List ℕ). is_readable world session document && shows_one_of world all document) world.documents)) are_picked

-- ---- links

-- where the runs that are looked for are those that the specs pick, links are met exactly if they are wanted
wanted_is : (world : World) (want : PlainWant) (wanted : WantedRuns) (link : LinkRow) → AreWantedRuns world want wanted → is_met want wanted link ≡ is_wanted world want link
wanted_is world want wanted link runs =
    rw (runs.from_is, runs.to_is, runs.three_is, end_is_met world want.from link.from, end_is_met world want.to link.to, end_is_met world want.three link.three) refl

-- so are those that are met of lists that are the world's
pub links_by : (world : World) (session : ℕ) (want : PlainWant) (wanted : WantedRuns) (marked : List (List ℕ)) (account : Option (List ℕ)) (links : List rows.LinkRow)
    → marked ≡ world.published → account ≡ account_of_session world session → map plain_link links ≡ world.links → AreWantedRuns world want wanted
    → filter (is_met_by marked account want wanted) (map plain_link links) ≡ links_found world session want
links_by world session want wanted marked account links are_marked of_session are_links runs =
    (λ i. filter (is_met_by (are_marked i) (of_session i) want wanted) (are_links i))
    ∙ (λ i. filter (λ (link : LinkRow). is_readable world session link.home && wanted_is world want wanted link runs i) world.links)

-- a link more
filter_map_more : {X Y : Type 0} (f : X → Y) (p : Y → Bool) (xs : List X) (i : ℕ) (d : X) → i < length xs
    → filter p (map f (take (i + 1) xs)) ≡ filter p (map f (take i xs)) ++ cond (p (f (get_or xs i d))) (f (get_or xs i d) ∷ []) []
filter_map_more f p xs i d lt = rw (take_more xs i d lt, map-append, filter-append) refl

pub met_yes : (p : plain.LinkRow → Bool) (links : List rows.LinkRow) (i : ℕ) (d : rows.LinkRow) → i < length links → p (plain_link (get_or links i d)) ≡ true
    → filter p (map plain_link (take (i + 1) links)) ≡ filter p (map plain_link (take i links)) ++ plain_link (get_or links i d) ∷ []
met_yes p links i d lt holds = filter_map_more plain_link p links i d lt ∙ ap (λ (b : Bool). filter p (map plain_link (take i links)) ++ cond b (plain_link (get_or links i d) ∷ []) []) holds

pub met_no : (p : plain.LinkRow → Bool) (links : List rows.LinkRow) (i : ℕ) (d : rows.LinkRow) → i < length links → p (plain_link (get_or links i d)) ≡ false
    → filter p (map plain_link (take (i + 1) links)) ≡ filter p (map plain_link (take i links))
met_no p links i d lt fails =
    filter_map_more plain_link p links i d lt
    ∙ ap (λ (b : Bool). filter p (map plain_link (take i links)) ++ cond b (plain_link (get_or links i d) ∷ []) []) fails ∙ append-nil (filter p (map plain_link (take i links)))

pub ruleset met_steps = (met_yes, met_no)
