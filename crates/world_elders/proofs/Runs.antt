-- The runs of what specs pick are there.
use Rattle.std.proofs.Common.{◌≡◌, ℕ, ◌+◌, ◌≤◌, ◌∙◌, ◌&&◌, eqb, Bool, true, false, cond, List, [], ◌∷◌, map, All, ap, sym, refl, subst, arith}
use Rattle.std.specs.Prelude.{filter}
use Rattle.std.specs.Cmp.Lexicographic.{bytes_decides}
use Rattle.std.proofs.lemmas.Bool.{and_parts, eqb-true}
use Rattle.std.proofs.lemmas.List.Elements.{All-nil, All-cons, All-head, All-tail, All-map}
use Rattle.tumbler.specs.declared.span.Span.{Span}
use Rattle.febe_data.specs.Plain.{PlainSpec}
use Rattle.world_rules.specs.declared.rows.Row.{Row}
use Rattle.world_rules.specs.World.{World, is_same, is_text, is_text_of, has_document, content_length}
use Rattle.world_rules.specs.Picking.{Stretch, stretches, stretches_on, is_next_byte, run_of, content_of, number_of, addresses_of, picks, picked_text, runs_of_span, runs_of_spec, runs_of}
use Rattle.world_rules.specs.Laws.{rows_of}
use Rattle.world_rules.proofs.Filters.{all_stay}
use Rattle.world_elders.specs.Whole.{IsByteThere, IsRunThere}
use Rattle.world_elders.proofs.Addresses.{content_is, number_is}
use Rattle.world_elders.proofs.Named.{Names, picked_are_there, all_flat}

-- what an address of a content byte says of itself
record IsSeen (world : World) (address : List ℕ) : Type 0 where
  there : has_document world (content_of address) ≡ true
  from_one : 1 ≤ number_of address
  to_length : number_of address ≤ content_length world (content_of address)

seen : (world : World) (address : List ℕ) → IsByteThere world address → IsSeen world address
seen world address is =
    let content : content_of address ≡ is.document = ap content_of is.parts ∙ content_is is.document is.number in
    let number : number_of address ≡ is.number = ap number_of is.parts ∙ number_is is.document is.number in
    record {
      there = ap (has_document world) content ∙ is.there;
      from_one = omega (arith, is.from_one);
      to_length = subst (λ (d : List ℕ). number_of address ≤ content_length world d) (sym content) (omega (arith, is.to_length));
    }

-- ---- stretches

-- an open stretch: its first byte and its last one are there, in one content, and so far apart
record IsOpen (world : World) (first last : List ℕ) (count : ℕ) : Type 0 where
  begins : IsSeen world first
  ends : IsSeen world last
  same : content_of last ≡ content_of first
  far : number_of last + 1 ≡ number_of first + count
  some : 1 ≤ count

-- the run of a stretch is there
abbrev IsPicked : World → List ℕ → Stretch (List ℕ) → Type 0
IsPicked world origin stretch = IsRunThere world (run_of origin stretch)

module _ (world : World) (origin : List ℕ) (origin_there : has_document world origin ≡ true) where
  closes : (first last : List ℕ) (count : ℕ) → IsOpen world first last count → IsPicked world origin (record { first = first; count = count })
  closes first last count on =
      let most : number_of last ≤ content_length world (content_of first) = subst (λ (d : List ℕ). number_of last ≤ content_length world d) on.same on.ends.to_length in
      record { origin = origin_there; there = on.begins.there; from_one = on.begins.from_one; some = on.some; to_length = omega (arith, on.far) }

  one_open : (x : List ℕ) → IsSeen world x → IsOpen world x x 1
  one_open x is = record { begins = is; ends = is; same = refl; far = refl; some = omega arith }

  goes_on : (first last x : List ℕ) (count : ℕ) → is_next_byte last x ≡ true → IsSeen world x → IsOpen world first last count → IsOpen world first x (count + 1)
  goes_on first last x count e is on =
      let parts = and_parts (is_same (content_of last) (content_of x)) (eqb (number_of x) (number_of last + 1)) e in
      let content : content_of last ≡ content_of x = (bytes_decides (content_of last) (content_of x)).0 parts.0 in
      let number : number_of x ≡ number_of last + 1 = eqb-true (number_of x) (number_of last + 1) parts.1 in
      record { begins = on.begins; ends = is; same = sym content ∙ on.same; far = omega (arith, on.far); some = omega (arith, on.some) }

  cut_by : (first last x : List ℕ) (count : ℕ) (xs : List (List ℕ)) (follows : Bool) → is_next_byte last x ≡ follows
      → stretches_on is_next_byte first last count (x ∷ xs) ≡ cond follows (stretches_on is_next_byte first x (count + 1) xs) (record { first = first; count = count } ∷ stretches_on is_next_byte x x 1 xs)
  cut_by first last x count xs follows e =
      ap (λ (b : Bool). cond b (stretches_on is_next_byte first x (count + 1) xs) (record { first = first; count = count } ∷ stretches_on is_next_byte x x 1 xs)) e

  on_step : (first last x : List ℕ) (count : ℕ) (xs : List (List ℕ)) (follows : Bool) → is_next_byte last x ≡ follows → IsSeen world x → IsOpen world first last count
      → ((first last : List ℕ) (count : ℕ) → IsOpen world first last count → All (IsPicked world origin) (stretches_on is_next_byte first last count xs))
      → All (IsPicked world origin) (stretches_on is_next_byte first last count (x ∷ xs))
  on_step first last x count xs true e is on rest =
      subst (All (IsPicked world origin)) (sym (cut_by first last x count xs true e)) (rest first x (count + 1) (goes_on first last x count e is on))
  on_step first last x count xs false e is on rest =
      subst (All (IsPicked world origin)) (sym (cut_by first last x count xs false e))
      (All-cons (IsPicked world origin) (record { first = first; count = count }) (stretches_on is_next_byte x x 1 xs) (closes first last count on) (rest x x 1 (one_open x is)))

  stretches_there : (xs : List (List ℕ)) → All (IsSeen world) xs → (first last : List ℕ) (count : ℕ) → IsOpen world first last count → All (IsPicked world origin) (stretches_on is_next_byte first last count xs)
  stretches_there [] are first last count on = All-cons (IsPicked world origin) (record { first = first; count = count }) [] (closes first last count on) (All-nil (IsPicked world origin))
  stretches_there (x ∷ xs) are first last count on =
      on_step first last x count xs (is_next_byte last x) refl (All-head (IsSeen world) x xs are) on (stretches_there xs (All-tail (IsSeen world) x xs are))

  all_stretches : (xs : List (List ℕ)) → All (IsSeen world) xs → All (IsPicked world origin) (stretches is_next_byte xs)
  all_stretches [] are = All-nil (IsPicked world origin)
  all_stretches (x ∷ xs) are = stretches_there xs (All-tail (IsSeen world) x xs are) x x 1 (one_open x (All-head (IsSeen world) x xs are))

-- ---- what specs pick

-- of a document that is not there nothing is picked
none_picked : (world : World) (document : List ℕ) (span : Span) → rows_of world document ≡ [] → picked_text world document span ≡ []
none_picked world document span none =
    let picked : Row → Bool = λ row. is_text_of document row && picks span row in
    let own : Row → Bool = λ row. is_same row.document document in
    sym (all_stay picked own (λ row e. (and_parts (is_text row.part) (is_same row.document document) (and_parts (is_text_of document row) (picks span row) e).0).1) world.rows)
    ∙ ap (filter picked) none

module _ (world : World) (named : All (Names world) world.rows) (owned : (document : List ℕ) → has_document world document ≡ false → rows_of world document ≡ []) where
  span_step : (document : List ℕ) (span : Span) (there : Bool) → has_document world document ≡ there → All (IsRunThere world) (runs_of_span world document span)
  span_step document span true e =
      let addresses : List (List ℕ) = addresses_of (picked_text world document span) in
      let are : All (IsByteThere world) (addresses_of (picked_text world document span)) = picked_are_there world document span named in
      All-map (IsRunThere world) (run_of document) (stretches is_next_byte addresses) (all_stretches world document e addresses (λ k d lt. seen world _ (are k d lt)))
  span_step document span false e =
      let none : runs_of_span world document span ≡ [] = ap (λ (rows : List Row). map (run_of document) (stretches is_next_byte (addresses_of rows))) (none_picked world document span (owned document e)) in
      subst (All (IsRunThere world)) (sym none) (All-nil (IsRunThere world))

  pub runs_there : (specs : List PlainSpec) → All (IsRunThere world) (runs_of world specs)
  runs_there specs =
      all_flat (IsRunThere world) (runs_of_spec world)
      (λ spec. all_flat (IsRunThere world) (runs_of_span world spec.document) (λ span. span_step spec.document span (has_document world spec.document) refl) spec.spans)
      specs
