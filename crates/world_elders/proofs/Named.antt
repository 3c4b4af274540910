-- What rows name is there, whatever edits do to the rows.
use Rattle.std.proofs.Common.{◌≡◌, ℕ, suc, ◌+◌, ◌-◌, ◌≤◌, ◌&&◌, Bool, true, false, not, cond, List, [], ◌∷◌, ◌++◌, length, map, All, sym, arith}
use Rattle.std.specs.Prelude.{filter}
use Rattle.std.specs.List.{flat_map}
use Rattle.std.proofs.lemmas.Bool.{and_parts, true≢false}
use Rattle.std.proofs.lemmas.List.Elements.{All-nil, All-cons, All-append, All-filter, All-map, All-weaker, filter_passes}
use Rattle.tumbler.specs.declared.span.Span.{Span}
use Rattle.febe_data.specs.declared.run.Run.{Run}
use Rattle.febe_data.specs.Plain.{PlainSpec}
use Rattle.world_rules.specs.declared.rows.Part.{Part}
use Rattle.world_rules.specs.declared.rows.Part.TheVariants.{Text, Links}
use Rattle.world_rules.specs.declared.rows.Row.{Row}
use Rattle.world_rules.specs.declared.cuts.Cuts.{Cuts}
use Rattle.world_rules.specs.World.{World, LinkRow, is_same, is_text, is_text_of, is_link_of, has_document, content_length, links_made_in, link_address}
use Rattle.world_rules.specs.Picking.{picks, picked_text, addresses_of, picked_by_spec, picked_addresses}
use Rattle.world_rules.specs.Edits.{up_by, down_by, moved_to, moves_up, is_in_block, block, new_rows, rows_with, goes, gone_below, closed_up, rows_without, rows_swapped, rows_as}
use Rattle.world_rules.specs.Apply.{link_row}
use Rattle.world_rules.specs.Laws.{text_rows, link_rows}
use Rattle.world_rules.proofs.Rearranged.{across}
use Rattle.world_elders.specs.Whole.{IsByteThere, IsLinkThere, IsRunThere, HasRunsThere}

-- the address in a row of the part is of a content byte, or of a link, that is there
abbrev pub IsThere : World → Part → List ℕ → Type 0
IsThere world Text address = IsByteThere world address
IsThere world Links address = IsLinkThere world address

abbrev pub Names : World → Row → Type 0
Names world row = IsThere world row.part row.address

-- ---- worlds that grow

-- what was there is there
pub record Grows (before after : World) : Type 0 where
  pub documents : (document : List ℕ) → has_document before document ≡ true → has_document after document ≡ true
  pub content : (document : List ℕ) → content_length before document ≤ content_length after document
  pub links : (home : List ℕ) → links_made_in before home ≤ links_made_in after home

module _ (before after : World) (grows : Grows before after) where
  pub byte_stays : (address : List ℕ) → IsByteThere before address → IsByteThere after address
  byte_stays address is = record {
    document = is.document;
    number = is.number;
    parts = is.parts;
    there = grows.documents is.document is.there;
    from_one = is.from_one;
    to_length = omega (arith, is.to_length, grows.content is.document);
  }

  pub link_stays : (address : List ℕ) → IsLinkThere before address → IsLinkThere after address
  link_stays address is = record {
    home = is.home;
    number = is.number;
    parts = is.parts;
    there = grows.documents is.home is.there;
    from_one = is.from_one;
    to_count = omega (arith, is.to_count, grows.links is.home);
  }

  stays : (part : Part) (address : List ℕ) → IsThere before part address → IsThere after part address
  stays Text address is = byte_stays address is
  stays Links address is = link_stays address is

  pub names_stay : (rows : List Row) → All (Names before) rows → All (Names after) rows
  names_stay rows named = All-weaker (Names before) (Names after) (λ row. stays row.part row.address) rows named

  run_stays : (run : Run) → IsRunThere before run → IsRunThere after run
  run_stays run is = record {
    origin = grows.documents run.origin is.origin;
    there = grows.documents run.content is.there;
    from_one = is.from_one;
    some = is.some;
    to_length = omega (arith, is.to_length, grows.content run.content);
  }

  pub runs_stay : (link : LinkRow) → HasRunsThere before link → HasRunsThere after link
  runs_stay link are = record {
    from = All-weaker (IsRunThere before) (IsRunThere after) run_stays link.from are.from;
    to = All-weaker (IsRunThere before) (IsRunThere after) run_stays link.to are.to;
    three = All-weaker (IsRunThere before) (IsRunThere after) run_stays link.three are.three;
  }

-- ---- rows of one part

-- what holds of all of those that pass, and that they pass
pub all_passing : {X : Type 0} (P Q : X → Type 0) (q : X → Bool) → ((x : X) → q x ≡ true → P x → Q x) → (xs : List X) → All P xs → All Q (filter q xs)
all_passing P Q q both xs all k d lt = both _ (filter_passes q xs k d lt) (All-filter q P xs all k d lt)

module _ (world : World) where
  text_names : (part : Part) (address : List ℕ) → is_text part ≡ true → IsThere world part address → IsByteThere world address
  text_names Text address e is = is
  text_names Links address e is = absurd (true≢false (sym e))

  link_names : (part : Part) (address : List ℕ) → not (is_text part) ≡ true → IsThere world part address → IsLinkThere world address
  link_names Text address e is = absurd (true≢false (sym e))
  link_names Links address e is = is

  -- text rows show bytes
  pub texts_show : (q : Row → Bool) → ((row : Row) → q row ≡ true → is_text row.part ≡ true) → (rows : List Row) → All (Names world) rows → All (λ (row : Row). IsByteThere world row.address) (filter q rows)
  texts_show q text rows named = all_passing (Names world) (λ (row : Row). IsByteThere world row.address) q (λ row e. text_names row.part row.address (text row e)) rows named

  pub text_shows : (document : List ℕ) → All (Names world) world.rows → All (λ (row : Row). IsByteThere world row.address) (text_rows world document)
  text_shows document named = texts_show (is_text_of document) (λ row e. (and_parts (is_text row.part) (is_same row.document document) e).0) world.rows named

  pub links_name : (document : List ℕ) → All (Names world) world.rows → All (λ (row : Row). IsLinkThere world row.address) (link_rows world document)
  links_name document named =
      all_passing (Names world) (λ (row : Row). IsLinkThere world row.address) (is_link_of document)
      (λ row e. link_names row.part row.address (and_parts (not (is_text row.part)) (is_same row.document document) e).0) world.rows named

  -- ---- what specs pick

  pub picked_are_there : (document : List ℕ) (span : Span) → All (Names world) world.rows → All (IsByteThere world) (addresses_of (picked_text world document span))
  picked_are_there document span named =
      All-map (IsByteThere world) (λ (row : Row). row.address) (picked_text world document span)
      (texts_show (λ row. is_text_of document row && picks span row)
      (λ row e. (and_parts (is_text row.part) (is_same row.document document) (and_parts (is_text_of document row) (picks span row) e).0).0)
      world.rows named)

pub all_flat : {X Y : Type 0} (P : Y → Type 0) (f : X → List Y) → ((x : X) → All P (f x)) → (xs : List X) → All P (flat_map f xs)
all_flat P f holds [] = All-nil P
all_flat P f holds (x ∷ xs) = All-append P (f x) (flat_map f xs) (holds x) (all_flat P f holds xs)

pub copies_are_there : (world : World) (specs : List PlainSpec) → All (Names world) world.rows → All (IsByteThere world) (picked_addresses world specs)
copies_are_there world specs named =
    all_flat (IsByteThere world) (picked_by_spec world)
    (λ spec. all_flat (IsByteThere world) (λ (span : Span). addresses_of (picked_text world spec.document span)) (λ span. picked_are_there world spec.document span named) spec.spans)
    specs

-- ---- rows after edits

module _ (world : World) where
  new_named : (document : List ℕ) (n : ℕ) (addresses : List (List ℕ)) → All (IsByteThere world) addresses → All (Names world) (new_rows document n addresses)
  new_named document n [] there = All-nil (Names world)
  new_named document n (address ∷ addresses) there =
      All-cons (Names world) (record { document = document; part = Text; n = n; address = address }) (new_rows document (n + 1) addresses)
      (there 0 address (omega arith)) (new_named document (n + 1) addresses (λ k d lt. there (suc k) d (omega arith)))

  pub with_named : (rows : List Row) (document : List ℕ) (at : ℕ) (addresses : List (List ℕ)) → All (IsByteThere world) addresses → All (Names world) rows → All (Names world) (rows_with rows document at addresses)
  with_named rows document at addresses there named =
      let P : Row → Type 0 = Names world in
      let stay : List Row = filter (λ row. not (moves_up document at row)) rows in
      let new : List Row = new_rows document at addresses in
      let up : List Row = filter (moves_up document at) rows in
      All-append P (stay ++ new) (map (up_by (length addresses)) up)
      (All-append P stay new (All-filter (λ row. not (moves_up document at row)) P rows named) (new_named document at addresses there))
      (All-map P (up_by (length addresses)) up (All-filter (moves_up document at) P rows named))

  closed_named : (k : ℕ) (row : Row) (own : Bool) → Names world row → Names world (cond own (down_by k row) row)
  closed_named k row true named = named
  closed_named k row false named = named

  pub without_named : (rows : List Row) (document : List ℕ) (span : Span) → All (Names world) rows → All (Names world) (rows_without rows document span)
  without_named rows document span named =
      let P : Row → Type 0 = Names world in
      let stays_in : Row → Bool = λ row. not (goes document span row) in
      All-map P (closed_up rows document span) (filter stays_in rows)
      (All-weaker P (λ (row : Row). P (closed_up rows document span row)) (λ row is. closed_named (gone_below rows document span row) row (is_same row.document document) is) (filter stays_in rows)
      (All-filter stays_in P rows named))

  pub swapped_named : (rows : List Row) (document : List ℕ) (cuts : Cuts) → All (Names world) rows → All (Names world) (rows_swapped rows document cuts)
  swapped_named rows document cuts named =
      let P : Row → Type 0 = Names world in
      let a : List Row = filter (λ row. not (moves_up document cuts.first row)) rows in
      let b : List Row = map (down_by (cuts.third - cuts.first)) (block rows document cuts.third cuts.fourth) in
      let c : List Row = map (across cuts) (block rows document cuts.second cuts.third) in
      let d : List Row = map (up_by (cuts.fourth - cuts.second)) (block rows document cuts.first cuts.second) in
      let e : List Row = filter (moves_up document cuts.fourth) rows in
      All-append P (a ++ b ++ c ++ d) e
      (All-append P (a ++ b ++ c) d
      (All-append P (a ++ b) c
      (All-append P a b (All-filter (λ row. not (moves_up document cuts.first row)) P rows named)
      (All-map P (down_by (cuts.third - cuts.first)) (block rows document cuts.third cuts.fourth) (All-filter (is_in_block document cuts.third cuts.fourth) P rows named)))
      (All-map P (across cuts) (block rows document cuts.second cuts.third) (All-filter (is_in_block document cuts.second cuts.third) P rows named)))
      (All-map P (up_by (cuts.fourth - cuts.second)) (block rows document cuts.first cuts.second) (All-filter (is_in_block document cuts.first cuts.second) P rows named)))
      (All-filter (moves_up document cuts.fourth) P rows named)

  pub version_named : (rows : List Row) (source document : List ℕ) → All (Names world) rows → All (Names world) (rows ++ rows_as rows source document)
  version_named rows source document named =
      let P : Row → Type 0 = Names world in
      let of_source : Row → Bool = λ row. is_same row.document source in
      All-append P rows (rows_as rows source document) named (All-map P (moved_to document) (filter of_source rows) (All-filter of_source P rows named))

  pub link_named : (rows : List Row) (home : List ℕ) (number place : ℕ) → IsLinkThere world (link_address home number) → All (Names world) rows → All (Names world) (rows ++ link_row home number place ∷ [])
  link_named rows home number place there named =
      All-append (Names world) rows (link_row home number place ∷ []) named (All-cons (Names world) (link_row home number place) [] there (All-nil (Names world)))
