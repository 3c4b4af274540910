-- A query of a session is answered by what the session sees.
use Rattle.std.proofs.Common.{◌≡◌, ◌⊎◌, inl, inr, ℕ, ◌+◌, ◌∙◌, ◌==◌, ◌&&◌, ◌||◌, Bool, true, false, not, List, [], ◌∷◌, ◌++◌, length, map, take, ap, sym, refl, arith}
use Rattle.std.specs.Prelude.{filter, Option, Some, None, count_by, is_none, nat_lt, if◌then◌else◌}
use Rattle.std.specs.List.{list_any, find, flat_map, filter_map, sum_by}
use Rattle.std.specs.Ordering.{nat_cmp, is_lt}
use Rattle.std.specs.Cmp.Lexicographic.{slice_cmp, bytes_decides}
use Rattle.std.proofs.lemmas.Bool.{and_parts, or_parts, not-false, true≢false}
use Rattle.std.proofs.lemmas.List.Sums.{length-filter}
use Rattle.tumbler.specs.declared.span.Span.{Span}
use Rattle.febe_data.specs.declared.run.Run.{Run}
use Rattle.febe_data.specs.declared.refusal.Refusal.TheVariants.{NoSuchDocument, Private, NotOpen, BadAddress, NoSuchLink, NoSuchEnd, TooLong}
use Rattle.febe_data.specs.LimitsView.{LimitsView}
use Rattle.febe_data.specs.Validity.{spans_in_all}
use Rattle.febe_data.specs.Plain.{PlainSpec, PlainWant, PlainItem, bytes, link, PlainRequest, span_set, whole_span, retrieve, relate, follow, find_documents, end_sets, count_links, find_links, next_links, PlainReply, gave_span_set, gave_whole_span, retrieved, related, followed, found_documents, gave_end_sets, counted_links, found_links, gave_next_links}
use Rattle.world_rules.specs.declared.rows.Row.{Row}
use Rattle.world_rules.specs.declared.ends.End.{End}
use Rattle.world_rules.specs.declared.ends.End.TheVariants.{From, To, Three}
use Rattle.world_rules.specs.World.{World, LinkRow, is_same, ascending, has_document, mode_of, is_text, is_text_of, is_link_of, text_length, link_length, byte_at}
use Rattle.world_rules.specs.Readable.{is_owned_by, is_readable}
use Rattle.world_rules.specs.Picking.{picks, picked_text, picked_links, is_picked_by, picked_once, addresses_of, picked_addresses, stretches, is_next_byte, run_of, runs_of, is_in_run, is_in_runs, intervals, places_of}
use Rattle.world_rules.specs.Relation.{diagonals, diagonals_of, pairs_of, pairs_of_row}
use Rattle.world_rules.specs.Finding.{shows_one_of, documents_found, is_home_wanted, is_end_wanted, is_wanted, links_found, ids_found, ids_after, link_at}
use Rattle.world_rules.specs.Ends.{end_numbered, runs_of_end, run_now, runs_readable, end_now, is_in_end, end_set_of, end_set}
use Rattle.world_rules.specs.Answers.{text_of, items_of_span, items_of, span_of_part, span_set_of, span_over, whole_span_of, follow_of, answer}
use Rattle.world_rules.specs.Refusals.{Check, first_holding, checks, wanted, lacks_document, hides_document, hides_document_of, lacks_opening, has_bad_span, has_bad_span_in, is_too_long, span_bytes, span_items, total_of, runs_in_all, reading, picking, finding}
use Rattle.world_rules.specs.Queries.{is_query}
use Rattle.world_rules.specs.Isolated.{documents_seen, rows_seen, bytes_seen, links_seen, SeesSame, Answers, Isolates}
use Rattle.world_rules.proofs.Placed.{none_holds}
use Rattle.world_laws.proofs.Seen.{then_filter, then_any, then_find, filter_stay, any_stay, map_passing, filter_passing, map_good, flat_good, any_good, sum_good, shown_alike}

-- ---- two worlds in which a session sees the same

module _ (session : ℕ) (left right : World) (same : SeesSame session left right) where
  -- it may read the same documents
  readable : (document : List ℕ) → is_readable left session document ≡ is_readable right session document
  readable document = λ i. same.marks document i || is_owned_by (same.account i) document

  reads_too : (document : List ℕ) → is_readable left session document ≡ true → is_readable right session document ≡ true
  reads_too document reads = sym (readable document) ∙ reads

  -- one that it may read is there in both or in none
  there : (document : List ℕ) → is_readable left session document ≡ true → has_document left document ≡ has_document right document
  there document reads =
      let test : List ℕ → Bool = λ d. is_same d document in
      sym (any_stay (is_readable left session) test (λ d is. ap (is_readable left session) ((bytes_decides d document).0 is) ∙ reads) left.documents)
      ∙ ap (list_any test) same.documents
      ∙ any_stay (is_readable right session) test (λ d is. ap (is_readable right session) ((bytes_decides d document).0 is) ∙ reads_too document reads) right.documents

  -- ---- rows

  -- a test that rows of other documents do not pass
  rows_same : (test : Row → Bool) → ((row : Row) → test row ≡ true → is_readable left session row.document ≡ true) → filter test left.rows ≡ filter test right.rows
  rows_same test own =
      sym (filter_stay (λ (row : Row). is_readable left session row.document) test own left.rows)
      ∙ ap (filter test) same.rows
      ∙ filter_stay (λ (row : Row). is_readable right session row.document) test (λ row is. reads_too row.document (own row is)) right.rows

  -- rows of one that it may read
  of_readable : (document : List ℕ) → is_readable left session document ≡ true → (row : Row) → is_same row.document document ≡ true → is_readable left session row.document ≡ true
  of_readable document reads row is = ap (is_readable left session) ((bytes_decides row.document document).0 is) ∙ reads

  of_text : (document : List ℕ) → is_readable left session document ≡ true → (row : Row) → is_text_of document row ≡ true → is_readable left session row.document ≡ true
  of_text document reads row is = of_readable document reads row (and_parts (is_text row.part) (is_same row.document document) is).1

  of_links : (document : List ℕ) → is_readable left session document ≡ true → (row : Row) → is_link_of document row ≡ true → is_readable left session row.document ≡ true
  of_links document reads row is = of_readable document reads row (and_parts (not (is_text row.part)) (is_same row.document document) is).1

  text_same : (document : List ℕ) → is_readable left session document ≡ true → text_length left document ≡ text_length right document
  text_same document reads = sym (length-filter (is_text_of document) left.rows) ∙ ap length (rows_same (is_text_of document) (of_text document reads)) ∙ length-filter (is_text_of document) right.rows

  links_same : (document : List ℕ) → is_readable left session document ≡ true → link_length left document ≡ link_length right document
  links_same document reads = sym (length-filter (is_link_of document) left.rows) ∙ ap length (rows_same (is_link_of document) (of_links document reads)) ∙ length-filter (is_link_of document) right.rows

  -- the bytes that such rows show
  bytes_same : (test : Row → Bool) → ((row : Row) → test row ≡ true → is_readable left session row.document ≡ true) → text_of left (filter test left.rows) ≡ text_of right (filter test right.rows)
  bytes_same test own =
      let old : Row → Option ℕ = λ row. byte_at left.bytes row.address in
      let new : Row → Option ℕ = λ row. byte_at right.bytes row.address in
      let alike : map old (rows_seen right session) ≡ map new (rows_seen right session) = ap (map old) (sym same.rows) ∙ same.bytes in
      ap (filter_map old) (sym (filter_stay (λ (row : Row). is_readable left session row.document) test own left.rows) ∙ ap (filter test) same.rows)
      ∙ shown_alike old new test (rows_seen right session) alike
      ∙ ap (filter_map new) (filter_stay (λ (row : Row). is_readable right session row.document) test (λ row is. reads_too row.document (own row is)) right.rows)

  -- ---- what spans pick

  of_picked : (document : List ℕ) (span : Span) → is_readable left session document ≡ true → (row : Row) → (is_text_of document row && picks span row) ≡ true → is_readable left session row.document ≡ true
  of_picked document span reads row is = of_text document reads row (and_parts (is_text_of document row) (picks span row) is).0

  picked_same : (document : List ℕ) (span : Span) → is_readable left session document ≡ true → picked_text left document span ≡ picked_text right document span
  picked_same document span reads = rows_same (λ row. is_text_of document row && picks span row) (of_picked document span reads)

  picked_links_same : (document : List ℕ) (span : Span) → is_readable left session document ≡ true → picked_links left document span ≡ picked_links right document span
  picked_links_same document span reads = rows_same (λ row. is_link_of document row && picks span row) (λ row is. of_links document reads row (and_parts (is_link_of document row) (picks span row) is).0)

  picked_bytes_same : (document : List ℕ) (span : Span) → is_readable left session document ≡ true → text_of left (picked_text left document span) ≡ text_of right (picked_text right document span)
  picked_bytes_same document span reads = bytes_same (λ row. is_text_of document row && picks span row) (of_picked document span reads)

  once_same : (spec : PlainSpec) → is_readable left session spec.document ≡ true → picked_once left spec ≡ picked_once right spec
  once_same spec reads =
      rows_same (is_picked_by spec) (λ row is. of_text spec.document reads row (and_parts (is_text_of spec.document row) (list_any (λ (span : Span). picks span row) spec.spans) is).0)

  span_items_same : (document : List ℕ) (span : Span) → is_readable left session document ≡ true → items_of_span left document span ≡ items_of_span right document span
  span_items_same document span reads = λ i.
      (if length (picked_same document span reads i) == 0 then [] else bytes (picked_bytes_same document span reads i) ∷ [])
      ++ map (λ (row : Row). link row.address) (picked_links_same document span reads i)

  bytes_counted_same : (document : List ℕ) (span : Span) → is_readable left session document ≡ true → span_bytes left document span ≡ span_bytes right document span
  bytes_counted_same document span reads = ap length (picked_same document span reads)

  items_counted_same : (document : List ℕ) (span : Span) → is_readable left session document ≡ true → span_items left document span ≡ span_items right document span
  items_counted_same document span reads = λ i. (if bytes_counted_same document span reads i == 0 then 0 else 1) + length (picked_links_same document span reads i)

  -- ---- specs of which none is hidden

  items_same : (specs : List PlainSpec) → hides_document left session specs ≡ false → items_of left specs ≡ items_of right specs
  items_same specs none =
      flat_good (λ (spec : PlainSpec). not (is_readable left session spec.document)) (λ spec. flat_map (items_of_span left spec.document) spec.spans) (λ spec. flat_map (items_of_span right spec.document) spec.spans)
      (λ spec good i. flat_map (λ (span : Span). span_items_same spec.document span (not-false (is_readable left session spec.document) good) i) spec.spans) specs none

  total_bytes_same : (specs : List PlainSpec) → hides_document left session specs ≡ false → total_of (span_bytes left) specs ≡ total_of (span_bytes right) specs
  total_bytes_same specs none =
      sum_good (λ (spec : PlainSpec). not (is_readable left session spec.document)) (λ spec. sum_by (span_bytes left spec.document) spec.spans) (λ spec. sum_by (span_bytes right spec.document) spec.spans)
      (λ spec good i. sum_by (λ (span : Span). bytes_counted_same spec.document span (not-false (is_readable left session spec.document) good) i) spec.spans) specs none

  total_items_same : (specs : List PlainSpec) → hides_document left session specs ≡ false → total_of (span_items left) specs ≡ total_of (span_items right) specs
  total_items_same specs none =
      sum_good (λ (spec : PlainSpec). not (is_readable left session spec.document)) (λ spec. sum_by (span_items left spec.document) spec.spans) (λ spec. sum_by (span_items right spec.document) spec.spans)
      (λ spec good i. sum_by (λ (span : Span). items_counted_same spec.document span (not-false (is_readable left session spec.document) good) i) spec.spans) specs none

  addresses_same : (specs : List PlainSpec) → hides_document left session specs ≡ false → picked_addresses left specs ≡ picked_addresses right specs
  addresses_same specs none =
      flat_good (λ (spec : PlainSpec). not (is_readable left session spec.document))
      (λ spec. flat_map (λ (span : Span). addresses_of (picked_text left spec.document span)) spec.spans) (λ spec. flat_map (λ (span : Span). addresses_of (picked_text right spec.document span)) spec.spans)
      (λ spec good i. flat_map (λ (span : Span). addresses_of (picked_same spec.document span (not-false (is_readable left session spec.document) good) i)) spec.spans) specs none

  runs_same : (specs : List PlainSpec) → hides_document left session specs ≡ false → runs_of left specs ≡ runs_of right specs
  runs_same specs none =
      flat_good (λ (spec : PlainSpec). not (is_readable left session spec.document))
      (λ spec. flat_map (λ (span : Span). map (run_of spec.document) (stretches is_next_byte (addresses_of (picked_text left spec.document span)))) spec.spans)
      (λ spec. flat_map (λ (span : Span). map (run_of spec.document) (stretches is_next_byte (addresses_of (picked_text right spec.document span)))) spec.spans)
      (λ spec good i. flat_map (λ (span : Span). map (run_of spec.document) (stretches is_next_byte (addresses_of (picked_same spec.document span (not-false (is_readable left session spec.document) good) i)))) spec.spans) specs none

  -- ---- what is asked of documents

  lacks_same : (specs : List PlainSpec) → hides_document left session specs ≡ false → lacks_document left specs ≡ lacks_document right specs
  lacks_same specs none =
      any_good (λ (spec : PlainSpec). not (is_readable left session spec.document)) (λ spec. not (has_document left spec.document)) (λ spec. not (has_document right spec.document))
      (λ spec good. ap not (there spec.document (not-false (is_readable left session spec.document) good))) specs none

  hides_same : (specs : List PlainSpec) → hides_document left session specs ≡ hides_document right session specs
  hides_same specs = λ i. list_any (λ (spec : PlainSpec). not (readable spec.document i)) specs

  opens_same : (specs : List PlainSpec) → lacks_opening left session specs ≡ lacks_opening right session specs
  opens_same specs = λ i. list_any (λ (spec : PlainSpec). is_none (same.opened spec.document i)) specs

  reading_same : (document : List ℕ) → is_readable left session document ≡ true → reading left session document ≡ reading right session document
  reading_same document reads = λ i. (not (there document reads i), NoSuchDocument) ∷ (not (readable document i), Private) ∷ (is_none (same.opened document i), NotOpen) ∷ []

  picking_same : (specs : List PlainSpec) → hides_document left session specs ≡ false → picking left session specs ≡ picking right session specs
  picking_same specs none = λ i. (lacks_same specs none i, NoSuchDocument) ∷ (hides_same specs i, Private) ∷ (opens_same specs i, NotOpen) ∷ (has_bad_span specs, BadAddress) ∷ []

  -- ---- one query in both

  by_both : (limits : LimitsView) (in_left in_right : ℕ) (request : PlainRequest) (reply : PlainReply) → Answers limits in_left left session request reply
      → checks limits in_left left session request ≡ checks limits in_right right session request → answer left session request ≡ answer right session request → Answers limits in_right right session request reply
  by_both limits in_left in_right request reply given asked answered = record { allowed = sym (ap first_holding asked) ∙ given.allowed; reply_is = given.reply_is ∙ answered }

  -- a document that is asked for may be read
  span_set_reads : (limits : LimitsView) (counted : ℕ) (document : List ℕ) → wanted limits counted left session (span_set document) ≡ None → is_readable left session document ≡ true
  span_set_reads limits counted document none =
      let shown : not (is_readable left session document) ≡ false = none_holds (checks limits counted left session (span_set document)) 1 (false, BadAddress) (omega arith) none in
      not-false (is_readable left session document) shown

  whole_span_reads : (limits : LimitsView) (counted : ℕ) (document : List ℕ) → wanted limits counted left session (whole_span document) ≡ None → is_readable left session document ≡ true
  whole_span_reads limits counted document none =
      let shown : not (is_readable left session document) ≡ false = none_holds (checks limits counted left session (whole_span document)) 1 (false, BadAddress) (omega arith) none in
      not-false (is_readable left session document) shown

  span_set_isolated : (limits : LimitsView) (in_left in_right : ℕ) (document : List ℕ) (reply : PlainReply) → Answers limits in_left left session (span_set document) reply → Answers limits in_right right session (span_set document) reply
  span_set_isolated limits in_left in_right document reply given =
      let reads = span_set_reads limits in_left document given.allowed in
      by_both limits in_left in_right (span_set document) reply given (reading_same document reads)
      (λ i. gave_span_set (span_of_part 1 (text_same document reads i) ++ span_of_part 2 (links_same document reads i)))

  whole_span_isolated : (limits : LimitsView) (in_left in_right : ℕ) (document : List ℕ) (reply : PlainReply) → Answers limits in_left left session (whole_span document) reply → Answers limits in_right right session (whole_span document) reply
  whole_span_isolated limits in_left in_right document reply given =
      let reads = whole_span_reads limits in_left document given.allowed in
      by_both limits in_left in_right (whole_span document) reply given (reading_same document reads)
      (λ i. gave_whole_span (span_over (links_same document reads i) (span_of_part 1 (text_same document reads i) ++ span_of_part 2 (links_same document reads i))))

  retrieve_isolated : (limits : LimitsView) (in_left in_right : ℕ) (specs : List PlainSpec) (reply : PlainReply) → Answers limits in_left left session (retrieve specs) reply → Answers limits in_right right session (retrieve specs) reply
  retrieve_isolated limits in_left in_right specs reply given =
      let none : hides_document left session specs ≡ false = none_holds (checks limits in_left left session (retrieve specs)) 1 (false, BadAddress) (omega arith) given.allowed in
      by_both limits in_left in_right (retrieve specs) reply given
      (λ i. picking_same specs none i ++ (nat_lt 16777216 (total_bytes_same specs none i), TooLong) ∷ (is_too_long (total_items_same specs none i), TooLong) ∷ [])
      (ap retrieved (items_same specs none))

  -- ---- relations

  first_shown : (spec : PlainSpec) (specs : List PlainSpec) → hides_document left session (spec ∷ specs) ≡ false → (is_readable left session spec.document ≡ true) × (hides_document left session specs ≡ false)
  first_shown spec specs none =
      let parts = or_parts (not (is_readable left session spec.document)) (hides_document left session specs) none in
      (not-false (is_readable left session spec.document) parts.0, parts.1)

  diagonals_same : (one other : PlainSpec) → hides_document left session (one ∷ other ∷ []) ≡ false → diagonals left one other ≡ diagonals right one other
  diagonals_same one other none =
      let first = first_shown one (other ∷ []) none in
      let second = first_shown other [] first.1 in
      λ i. diagonals_of (flat_map (pairs_of_row (once_same other second.0 i)) (once_same one first.0 i))

  relate_isolated : (limits : LimitsView) (in_left in_right : ℕ) (one other : PlainSpec) (reply : PlainReply) → Answers limits in_left left session (relate one other) reply → Answers limits in_right right session (relate one other) reply
  relate_isolated limits in_left in_right one other reply given =
      let none : hides_document left session (one ∷ other ∷ []) ≡ false = none_holds (checks limits in_left left session (relate one other)) 1 (false, BadAddress) (omega arith) given.allowed in
      by_both limits in_left in_right (relate one other) reply given
      (λ i. picking_same (one ∷ other ∷ []) none i ++ (is_too_long (length (diagonals_same one other none i)), TooLong) ∷ [])
      (ap related (diagonals_same one other none))

  -- ---- documents

  -- a document that it may read shows the same
  shows_same : (addresses : List (List ℕ)) (document : List ℕ) → is_readable left session document ≡ true → shows_one_of left addresses document ≡ shows_one_of right addresses document
  shows_same addresses document reads =
      let test : Row → Bool = λ row. is_same row.document document && list_any (is_same row.address) addresses in
      let own : (row : Row) → (is_same row.document document && list_any (is_same row.address) addresses) ≡ true → is_readable left session row.document ≡ true =
      λ row is. of_readable document reads row (and_parts (is_same row.document document) (list_any (is_same row.address) addresses) is).0 in
      sym (any_stay (λ (row : Row). is_readable left session row.document) test own left.rows)
      ∙ ap (list_any test) same.rows
      ∙ any_stay (λ (row : Row). is_readable right session row.document) test (λ row is. reads_too row.document (own row is)) right.rows

  found_same : (specs : List PlainSpec) → hides_document left session specs ≡ false → documents_found left session specs ≡ documents_found right session specs
  found_same specs none =
      let old : List ℕ → Bool = shows_one_of left (picked_addresses left specs) in
      let new : List ℕ → Bool = shows_one_of right (picked_addresses right specs) in
      let alike : (document : List ℕ) → is_readable left session document ≡ true → shows_one_of left (picked_addresses left specs) document ≡ shows_one_of right (picked_addresses right specs) document =
      λ document reads. shows_same (picked_addresses left specs) document reads ∙ ap (λ (addresses : List (List ℕ)). shows_one_of right addresses document) (addresses_same specs none) in
      ap ascending
      (sym (then_filter (is_readable left session) old left.documents)
      ∙ filter_passing old new (is_readable left session) alike left.documents
      ∙ ap (filter new) same.documents
      ∙ then_filter (is_readable right session) new right.documents)

  find_documents_isolated : (limits : LimitsView) (in_left in_right : ℕ) (specs : List PlainSpec) (reply : PlainReply) → Answers limits in_left left session (find_documents specs) reply → Answers limits in_right right session (find_documents specs) reply
  find_documents_isolated limits in_left in_right specs reply given =
      let none : hides_document left session specs ≡ false = none_holds (checks limits in_left left session (find_documents specs)) 1 (false, BadAddress) (omega arith) given.allowed in
      by_both limits in_left in_right (find_documents specs) reply given
      (λ i. picking_same specs none i ++ (is_too_long (length (runs_same specs none i)), TooLong) ∷ (is_too_long (length (found_same specs none i)), TooLong) ∷ [])
      (ap found_documents (found_same specs none))

  -- ---- ends of links

  link_same : (id : List ℕ) → link_at left session id ≡ link_at right session id
  link_same id =
      let test : LinkRow → Bool = λ l. is_same l.id id in
      sym (then_find (λ (l : LinkRow). is_readable left session l.home) test left.links)
      ∙ ap (find test) same.links
      ∙ then_find (λ (l : LinkRow). is_readable right session l.home) test right.links

  run_same : (run : Run) → is_readable left session run.origin ≡ true → run_now left run ≡ run_now right run
  run_same run reads =
      let rows : filter (λ row. is_text_of run.origin row && is_in_run row.address run) left.rows ≡ filter (λ row. is_text_of run.origin row && is_in_run row.address run) right.rows =
      rows_same (λ row. is_text_of run.origin row && is_in_run row.address run) (λ row is. of_text run.origin reads row (and_parts (is_text_of run.origin row) (is_in_run row.address run) is).0) in
      λ i. record { document = run.origin; spans = intervals (places_of (rows i)) }

  end_now_same : (end : End) (l : LinkRow) → end_now left session end l ≡ end_now right session end l
  end_now_same end l =
      map_passing (run_now left) (run_now right) (λ (run : Run). is_readable left session run.origin) (λ run reads. run_same run reads) (runs_of_end end l)
      ∙ (λ i. map (run_now right) (filter (λ (run : Run). readable run.origin i) (runs_of_end end l)))

  follow_step : (found : Option LinkRow) (end : Option End) → follow_of left session found end ≡ follow_of right session found end
  follow_step (Some found) (Some end) = end_now_same end found
  follow_step (Some found) None = refl
  follow_step None end = refl

  follow_same : (id : List ℕ) (end : Option End) → follow_of left session (link_at left session id) end ≡ follow_of right session (link_at right session id) end
  follow_same id end = follow_step (link_at left session id) end ∙ ap (λ (found : Option LinkRow). follow_of right session found end) (link_same id)

  follow_isolated : (limits : LimitsView) (in_left in_right : ℕ) (id : List ℕ) (end : ℕ) (reply : PlainReply) → Answers limits in_left left session (follow id end) reply → Answers limits in_right right session (follow id end) reply
  follow_isolated limits in_left in_right id end reply given =
      by_both limits in_left in_right (follow id end) reply given
      (λ i. (is_none (link_same id i), NoSuchLink) ∷ (is_none (end_numbered end), NoSuchEnd) ∷ (is_too_long (spans_in_all (follow_same id (end_numbered end) i)), TooLong) ∷ [])
      (ap followed (follow_same id (end_numbered end)))

  in_end_same : (end : End) (address : List ℕ) → is_in_end left session end address ≡ is_in_end right session end address
  in_end_same end address =
      let test : LinkRow → Bool = λ l. is_in_runs (runs_of_end end l) address in
      sym (then_any (λ (l : LinkRow). is_readable left session l.home) test left.links)
      ∙ ap (list_any test) same.links
      ∙ then_any (λ (l : LinkRow). is_readable right session l.home) test right.links

  end_set_same : (end : End) (specs : List PlainSpec) → hides_document left session specs ≡ false → end_set left session end specs ≡ end_set right session end specs
  end_set_same end specs none =
      map_good (λ (spec : PlainSpec). not (is_readable left session spec.document)) (end_set_of left session end) (end_set_of right session end)
      (λ spec good i. record { document = spec.document; spans = intervals (places_of (filter (λ (row : Row). in_end_same end row.address i) (once_same spec (not-false (is_readable left session spec.document) good) i))) }) specs none

  end_sets_isolated : (limits : LimitsView) (in_left in_right : ℕ) (specs : List PlainSpec) (reply : PlainReply) → Answers limits in_left left session (end_sets specs) reply → Answers limits in_right right session (end_sets specs) reply
  end_sets_isolated limits in_left in_right specs reply given =
      let none : hides_document left session specs ≡ false = none_holds (checks limits in_left left session (end_sets specs)) 1 (false, BadAddress) (omega arith) given.allowed in
      by_both limits in_left in_right (end_sets specs) reply given
      (λ i. picking_same specs none i
      ++ (is_too_long (spans_in_all (end_set_same From specs none i)), TooLong) ∷ (is_too_long (spans_in_all (end_set_same To specs none i)), TooLong) ∷ (is_too_long (spans_in_all (end_set_same Three specs none i)), TooLong) ∷ [])
      (λ i. gave_end_sets (end_set_same From specs none i) (end_set_same To specs none i) (end_set_same Three specs none i))

  -- ---- links

  end_wanted_same : (specs : List PlainSpec) (runs : List Run) → hides_document left session specs ≡ false → is_end_wanted left specs runs ≡ is_end_wanted right specs runs
  end_wanted_same [] runs none = refl
  end_wanted_same (spec ∷ specs) runs none = ap (list_any (is_in_runs runs)) (addresses_same (spec ∷ specs) none)

  none_in_want : (want : PlainWant) → hides_document_of left session want ≡ false
      → (hides_document left session want.from ≡ false) × ((hides_document left session want.to ≡ false) × (hides_document left session want.three ≡ false))
  none_in_want want none =
      let last = or_parts (hides_document left session want.from || hides_document left session want.to) (hides_document left session want.three) none in
      let first = or_parts (hides_document left session want.from) (hides_document left session want.to) last.0 in
      (first.0, (first.1, last.1))

  wanted_same : (want : PlainWant) → hides_document_of left session want ≡ false → (l : LinkRow) → is_wanted left want l ≡ is_wanted right want l
  wanted_same want none l =
      let each = none_in_want want none in
      λ i. is_home_wanted want.homes l.home && end_wanted_same want.from l.from each.0 i && end_wanted_same want.to l.to each.1.0 i && end_wanted_same want.three l.three each.1.1 i

  links_found_same : (want : PlainWant) → hides_document_of left session want ≡ false → links_found left session want ≡ links_found right session want
  links_found_same want none =
      sym (then_filter (λ (l : LinkRow). is_readable left session l.home) (is_wanted left want) left.links)
      ∙ ap (filter (is_wanted left want)) same.links
      ∙ (λ i. filter (λ (l : LinkRow). wanted_same want none l i) (links_seen right session))
      ∙ then_filter (λ (l : LinkRow). is_readable right session l.home) (is_wanted right want) right.links

  ids_same : (want : PlainWant) → hides_document_of left session want ≡ false → ids_found left session want ≡ ids_found right session want
  ids_same want none = ap (λ (links : List LinkRow). ascending (map (λ (l : LinkRow). l.id) links)) (links_found_same want none)

  ids_after_same : (want : PlainWant) (after : List ℕ) (limit : ℕ) → hides_document_of left session want ≡ false → ids_after left session want after limit ≡ ids_after right session want after limit
  ids_after_same want after limit none = ap (λ (ids : List (List ℕ)). take limit (filter (λ (id : List ℕ). is_lt (slice_cmp nat_cmp after id)) ids)) (ids_same want none)

  finding_same : (want : PlainWant) → hides_document_of left session want ≡ false → finding left session want ≡ finding right session want
  finding_same want none =
      let each = none_in_want want none in
      λ i. (lacks_same want.from each.0 i || lacks_same want.to each.1.0 i || lacks_same want.three each.1.1 i, NoSuchDocument)
      ∷ (hides_same want.from i || hides_same want.to i || hides_same want.three i, Private)
      ∷ (opens_same want.from i || opens_same want.to i || opens_same want.three i, NotOpen)
      ∷ (has_bad_span_in want, BadAddress)
      ∷ (is_too_long (length (runs_same want.from each.0 i) + length (runs_same want.to each.1.0 i) + length (runs_same want.three each.1.1 i)), TooLong)
      ∷ []

  count_links_isolated : (limits : LimitsView) (in_left in_right : ℕ) (want : PlainWant) (reply : PlainReply) → Answers limits in_left left session (count_links want) reply → Answers limits in_right right session (count_links want) reply
  count_links_isolated limits in_left in_right want reply given =
      let none : hides_document_of left session want ≡ false = none_holds (checks limits in_left left session (count_links want)) 1 (false, BadAddress) (omega arith) given.allowed in
      by_both limits in_left in_right (count_links want) reply given (finding_same want none) (ap (λ (links : List LinkRow). counted_links (length links)) (links_found_same want none))

  find_links_isolated : (limits : LimitsView) (in_left in_right : ℕ) (want : PlainWant) (reply : PlainReply) → Answers limits in_left left session (find_links want) reply → Answers limits in_right right session (find_links want) reply
  find_links_isolated limits in_left in_right want reply given =
      let none : hides_document_of left session want ≡ false = none_holds (checks limits in_left left session (find_links want)) 1 (false, BadAddress) (omega arith) given.allowed in
      by_both limits in_left in_right (find_links want) reply given
      (λ i. finding_same want none i ++ (is_too_long (length (ids_same want none i)), TooLong) ∷ [])
      (ap found_links (ids_same want none))

  next_links_isolated : (limits : LimitsView) (in_left in_right : ℕ) (want : PlainWant) (after : List ℕ) (limit : ℕ) (reply : PlainReply) → Answers limits in_left left session (next_links want after limit) reply → Answers limits in_right right session (next_links want after limit) reply
  next_links_isolated limits in_left in_right want after limit reply given =
      let none : hides_document_of left session want ≡ false = none_holds (checks limits in_left left session (next_links want after limit)) 1 (false, BadAddress) (omega arith) given.allowed in
      by_both limits in_left in_right (next_links want after limit) reply given
      (λ i. finding_same want none i ++ (is_too_long (length (ids_after_same want after limit none i)), TooLong) ∷ [])
      (ap gave_next_links (ids_after_same want after limit none))

-- ---- all queries

pub isolates : Isolates
isolates limits session left right in_left in_right (span_set document) reply same query given = span_set_isolated session left right same limits in_left in_right document reply given
isolates limits session left right in_left in_right (whole_span document) reply same query given = whole_span_isolated session left right same limits in_left in_right document reply given
isolates limits session left right in_left in_right (retrieve specs) reply same query given = retrieve_isolated session left right same limits in_left in_right specs reply given
isolates limits session left right in_left in_right (relate one other) reply same query given = relate_isolated session left right same limits in_left in_right one other reply given
isolates limits session left right in_left in_right (follow id end) reply same query given = follow_isolated session left right same limits in_left in_right id end reply given
isolates limits session left right in_left in_right (find_documents specs) reply same query given = find_documents_isolated session left right same limits in_left in_right specs reply given
isolates limits session left right in_left in_right (end_sets specs) reply same query given = end_sets_isolated session left right same limits in_left in_right specs reply given
isolates limits session left right in_left in_right (count_links want) reply same query given = count_links_isolated session left right same limits in_left in_right want reply given
isolates limits session left right in_left in_right (find_links want) reply same query given = find_links_isolated session left right same limits in_left in_right want reply given
isolates limits session left right in_left in_right (next_links want after limit) reply same query given = next_links_isolated session left right same limits in_left in_right want after limit reply given
isolates limits session left right in_left in_right other reply same query given = absurd (true≢false (sym query))
