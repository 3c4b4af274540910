-- The change of a request that nothing refuses fits.
use Rattle.std.proofs.Common.{◌≡◌, ◌⊎◌, ℕ, ◌+◌, ◌<◌, ◌≤◌, get_or, ◌&&◌, ◌||◌, Bool, true, false, not, cond, List, [], ◌∷◌, ◌++◌, length, map, All, sym, refl, subst, inl, inr, arith}
use Rattle.std.specs.Prelude.{Option, Some, None, IfSome, unwrap_or, nat_lt, is_none}
use Rattle.std.specs.List.{list_any}
use Rattle.std.proofs.lemmas.Bool.{and_parts, or_parts, not-false, ltb-true, ltb-false, true≢false}
use Rattle.std.proofs.lemmas.List.Elements.{All-nil, All-cons, All-head, All-tail}
use Rattle.tumbler.specs.declared.span.Span.{Span}
use Rattle.tumbler.specs.Places.{fits}
use Rattle.tumbler.specs.Span.{SpanFits}
use Rattle.tumbler.specs.Address.{IsAccount}
use Rattle.febe_data.specs.declared.access.Mode.{Mode}
use Rattle.febe_data.specs.declared.access.Mode.TheVariants.{Read, Write}
use Rattle.febe_data.specs.declared.access.Rule.{Rule}
use Rattle.febe_data.specs.declared.access.Rule.TheVariants.{Refuse, Copy, Always}
use Rattle.febe_data.specs.declared.refusal.Refusal.TheVariants.{BadAddress}
use Rattle.febe_data.specs.LimitsView.{LimitsView}
use Rattle.febe_data.specs.Plain.{PlainSpec, PlainRequest, insert, copy, rearrange, create, delete, version, quit, create_link, set_account, opens, closes, publish, PlainChange, document_created, version_made, text_inserted, span_deleted, blocks_swapped, specs_copied, link_made}
use Rattle.world_rules.specs.World.{World, has_document, account_of_session, next_version, next_document, is_of_account, text_length, content_length, link_length, links_made_in}
use Rattle.world_rules.specs.Picking.{picked_addresses, runs_of}
use Rattle.world_rules.specs.Apply.{world_of}
use Rattle.world_rules.specs.History.{durable_entries, is_durable, next_serial}
use Rattle.world_rules.specs.Refusals.{wanted, checks, position_of, has_bad_span, is_bad_span, lacks_document, opens_version, wants_account, runs_in_all, is_too_large, is_too_long}
use Rattle.world_rules.specs.Effects.{Effect, effect, maker_of, version_to_come, document_to_come, opening}
use Rattle.world_rules.specs.Placed.{IsPlaced}
use Rattle.world_rules.proofs.Placed.{placed}
use Rattle.world_rules.proofs.Accounts.{sets_accounts}
use Rattle.world_rules.proofs.Kept.{keeps_contents}
use Rattle.world_rules.proofs.Placed.{none_holds}
use Rattle.entry_fits.specs.Fits.{IsUnder, IsBeside, IsVersionOf, SpecFits, ChangeFits}
use Rattle.entry_fits.specs.Laws.{AcceptedFits}
use Rattle.entry_fits.proofs.SameContents.{fits_too}
use Rattle.entry_fits.proofs.Sessions.{live_has_begun, from_one, new_serial, kept_new}

-- ---- spans and specs

spans_fit : (spans : List Span) → list_any is_bad_span spans ≡ false → All SpanFits spans
spans_fit [] good = All-nil SpanFits
spans_fit (span ∷ spans) good =
    let parts = or_parts (is_bad_span span) (list_any is_bad_span spans) good in
    All-cons SpanFits span spans (not-false (fits span.start span.width) parts.0) (spans_fit spans parts.1)

specs_fit : (world : World) (specs : List PlainSpec) → lacks_document world specs ≡ false → has_bad_span specs ≡ false → All (SpecFits world) specs
specs_fit world [] there good = All-nil (SpecFits world)
specs_fit world (spec ∷ specs) there good =
    let a = or_parts (not (has_document world spec.document)) (lacks_document world specs) there in
    let b = or_parts (list_any is_bad_span spec.spans) (has_bad_span specs) good in
    All-cons (SpecFits world) spec specs (record { there = not-false (has_document world spec.document) a.0; spans = spans_fit spec.spans b.0 }) (specs_fit world specs a.1 b.1)

all_parts : {X : Type 0} (P : X → Type 0) (xs ys : List X) → All P (xs ++ ys) → All P xs × All P ys
all_parts P [] ys all = (All-nil P, all)
all_parts P (x ∷ xs) ys all =
    let others = all_parts P xs ys (All-tail P x (xs ++ ys) all) in
    (All-cons P x xs (All-head P x (xs ++ ys) all) others.0, others.1)

-- ---- documents

maker_is : (account : Option (List ℕ)) → is_none account ≡ false → IfSome account IsAccount → IsAccount (unwrap_or account [])
maker_is (Some account) some is = is
maker_is None some is = absurd (true≢false some)

version_step : (world : World) (source account : List ℕ) (under : Bool) → (is_of_account account source && nat_lt (length source) 20) ≡ under → IsAccount account
    → IsUnder world source (cond under (next_version world source) (next_document world account)) ⊎ IsBeside world source (cond under (next_version world source) (next_document world account))
version_step world source account true e is = inl (record { room = ltb-true (length source) 20 (and_parts (is_of_account account source) (nat_lt (length source) 20) e).1; is_next = refl })
version_step world source account false e is = inr (record { account = account; next_of = record { is_account = is; is_next = refl }; cause = apart (is_of_account account source) (nat_lt (length source) 20) refl refl e })
  where
    apart : (own room : Bool) → is_of_account account source ≡ own → nat_lt (length source) 20 ≡ room → (own && room) ≡ false → (is_of_account account source ≡ false) ⊎ (20 ≤ length source)
    apart true true o r e = absurd (true≢false e)
    apart true false o r e = inr (ltb-false (length source) 20 r)
    apart false room o r e = inl o

version_fits : (world : World) (session : ℕ) (source : List ℕ) → has_document world source ≡ true → IsAccount (maker_of world session) → IsVersionOf world source (version_to_come world session source)
version_fits world session source there is = record { there = there; place = version_step world source (maker_of world session) (is_of_account (maker_of world session) source && nat_lt (length source) 20) refl is }

-- where opening makes a version, it wants an account
wants_step : (world : World) (session : ℕ) (document : List ℕ) (mode : Mode) (rule : Rule) → opens_version world session document mode rule ≡ true → wants_account mode rule ≡ true
wants_step world session document Read Refuse e = absurd (true≢false (sym e))
wants_step world session document Read Copy e = absurd (true≢false (sym e))
wants_step world session document Read Always e = refl
wants_step world session document Write Refuse e = refl
wants_step world session document Write Copy e = refl
wants_step world session document Write Always e = refl

both_false : (a b : Bool) → (a && b) ≡ false → a ≡ true → b ≡ false
both_false true b e is = e
both_false false b e is = absurd (true≢false (sym is))

-- ---- each request

module _ (limits : LimitsView) (counted : ℕ) (world : World) (session : ℕ) (content : limits.text ≤ 1073741824) (account : IfSome (account_of_session world session) IsAccount) where
  -- the test at k does not hold
  abbrev Passed : (request : PlainRequest) → Type 0
  Passed request = wanted limits counted world session request ≡ None

  test : (request : PlainRequest) (k : ℕ) → k < length (checks limits counted world session request) → Passed request → (get_or (checks limits counted world session request) k (false, BadAddress)).0 ≡ false
  test request k lt none = none_holds (checks limits counted world session request) k (false, BadAddress) lt none

  abbrev FitsAs : PlainRequest → PlainChange → Type 0
  FitsAs request change = Passed request → IsPlaced world change → ChangeFits world change

  insert_fits : (document at text : List ℕ) → FitsAs (insert document at text) (text_inserted document (position_of at) (content_length world document + 1) text)
  insert_fits document at text none place =
      let long : is_too_large (text_length world document + length text) ≡ false = test (insert document at text) 5 (omega arith) none in
      let full : nat_lt limits.text (length world.bytes + length text) ≡ false = test (insert document at text) 7 (omega arith) none in
      record {
        comes_in = place;
        positions = ltb-false 1073741824 (text_length world document + length text) long;
        content = omega (arith, content, ltb-false limits.text (length world.bytes + length text) full);
      }

  copy_fits : (document at : List ℕ) (specs : List PlainSpec) → FitsAs (copy document at specs) (specs_copied document (position_of at) specs)
  copy_fits document at specs none place =
      let lacks : (not (has_document world document) || lacks_document world specs) ≡ false = test (copy document at specs) 0 (omega arith) none in
      let bad = test (copy document at specs) 4 (omega arith) none in
      let long : is_too_large (text_length world document + length (picked_addresses world specs)) ≡ false = test (copy document at specs) 5 (omega arith) none in
      let many : is_too_long (length (runs_of world specs)) ≡ false = test (copy document at specs) 6 (omega arith) none in
      record {
        comes_in = place;
        each = specs_fit world specs (or_parts (not (has_document world document)) (lacks_document world specs) lacks).1 (or_parts _ (has_bad_span specs) bad).1;
        runs = ltb-false 65536 (length (runs_of world specs)) many;
        positions = ltb-false 1073741824 (text_length world document + length (picked_addresses world specs)) long;
      }

  rearrange_fits : (document : List ℕ) (cuts : List (List ℕ)) → FitsAs (rearrange document cuts) (blocks_swapped document (map position_of cuts))
  rearrange_fits document cuts none place = (not-false (has_document world document) (test (rearrange document cuts) 0 (omega arith) none), place)

  create_fits : FitsAs create (document_created (document_to_come world session))
  create_fits none place = record { account = maker_of world session; next_of = record { is_account = maker_is (account_of_session world session) (test create 0 (omega arith) none) account; is_next = refl } }

  delete_fits : (document : List ℕ) (span : Span) → FitsAs (delete document span) (span_deleted document span)
  delete_fits document span none place =
      (not-false (has_document world document) (test (delete document span) 0 (omega arith) none), not-false (fits span.start span.width) (test (delete document span) 4 (omega arith) none))

  version_request_fits : (document : List ℕ) → FitsAs (version document) (version_made document (version_to_come world session document))
  version_request_fits document none place =
      version_fits world session document (not-false (has_document world document) (test (version document) 1 (omega arith) none)) (maker_is (account_of_session world session) (test (version document) 0 (omega arith) none) account)

  link_fits : (home : List ℕ) (from to three : List PlainSpec) → FitsAs (create_link home from to three) (link_made home (links_made_in world home + 1) (link_length world home + 1) from to three)
  link_fits home from to three none place =
      let lacks : (not (has_document world home) || lacks_document world (from ++ to ++ three)) ≡ false = test (create_link home from to three) 0 (omega arith) none in
      let bad : has_bad_span (from ++ to ++ three) ≡ false = test (create_link home from to three) 4 (omega arith) none in
      let many : is_too_long (runs_in_all world from to three) ≡ false = test (create_link home from to three) 5 (omega arith) none in
      let all = specs_fit world (from ++ to ++ three) (or_parts (not (has_document world home)) (lacks_document world (from ++ to ++ three)) lacks).1 bad in
      let outer = all_parts (SpecFits world) (from ++ to) three all in
      let inner = all_parts (SpecFits world) from to outer.0 in
      record { comes_in = place; from_each = inner.0; to_each = inner.1; three_each = outer.1; runs = ltb-false 65536 (runs_in_all world from to three) many }

  open_fits : (document : List ℕ) (mode : Mode) (rule : Rule) (copies : Bool) → opens_version world session document mode rule ≡ copies → Passed (opens document mode rule)
      → is_durable (opening world session document mode copies).change ≡ true → ChangeFits world (opening world session document mode copies).change
  open_fits document mode rule true e none counts =
      let wants : (wants_account mode rule && is_none (account_of_session world session)) ≡ false = test (opens document mode rule) 0 (omega arith) none in
      let some : is_none (account_of_session world session) ≡ false = both_false (wants_account mode rule) (is_none (account_of_session world session)) wants (wants_step world session document mode rule e) in
      version_fits world session document (not-false (has_document world document) (test (opens document mode rule) 1 (omega arith) none)) (maker_is (account_of_session world session) some account)
  open_fits document mode rule false e none counts = absurd (true≢false (sym counts))

  by_effect : (request : PlainRequest) (one made : Effect) → Some one ≡ Some made → IsPlaced world made.change → is_durable made.change ≡ true
      → (IsPlaced world one.change → is_durable one.change ≡ true → ChangeFits world one.change) → ChangeFits world made.change
  by_effect request one made e place counts then =
      let same : one ≡ made = cc in
      subst (λ (m : Effect). ChangeFits world m.change) same (then (subst (λ (m : Effect). IsPlaced world m.change) (sym same) place) (subst (λ (m : Effect). is_durable m.change ≡ true) (sym same) counts))

  change_fits : (request : PlainRequest) (made : Effect) → Passed request → effect world session request ≡ Some made → IsPlaced world made.change → is_durable made.change ≡ true → ChangeFits world made.change
  change_fits (insert document at text) made none e place counts = by_effect (insert document at text) _ made e place counts (λ p c. insert_fits document at text none p)
  change_fits (copy document at specs) made none e place counts = by_effect (copy document at specs) _ made e place counts (λ p c. copy_fits document at specs none p)
  change_fits (rearrange document cuts) made none e place counts = by_effect (rearrange document cuts) _ made e place counts (λ p c. rearrange_fits document cuts none p)
  change_fits create made none e place counts = by_effect create _ made e place counts (λ p c. create_fits none p)
  change_fits (delete document span) made none e place counts = by_effect (delete document span) _ made e place counts (λ p c. delete_fits document span none p)
  change_fits (version document) made none e place counts = by_effect (version document) _ made e place counts (λ p c. version_request_fits document none p)
  change_fits quit made none e place counts = by_effect quit _ made e place counts (λ p c. absurd (true≢false (sym c)))
  change_fits (create_link home from to three) made none e place counts = by_effect (create_link home from to three) _ made e place counts (λ p c. link_fits home from to three none p)
  change_fits (set_account account_to_set) made none e place counts = by_effect (set_account account_to_set) _ made e place counts (λ p c. absurd (true≢false (sym c)))
  change_fits (opens document mode rule) made none e place counts =
      by_effect (opens document mode rule) _ made e place counts (λ p c. open_fits document mode rule (opens_version world session document mode rule) refl none c)
  change_fits (closes document) made none e place counts = by_effect (closes document) _ made e place counts (λ p c. absurd (true≢false (sym c)))
  change_fits (publish document) made none e place counts = by_effect (publish document) _ made e place counts (λ p c. p)
  change_fits other made none e place counts = cc

-- ---- the entry

pub accepted_fits : AcceptedFits
accepted_fits limits history session request made content regular accepted =
    let world : World = world_of history in
    let place : IsPlaced world made.change = placed limits (length (durable_entries history)) world session request made accepted.allowed accepted.effect_is in
    let here : ChangeFits world made.change =
    change_fits limits (length (durable_entries history)) world session content (sets_accounts history regular.placed session) request made accepted.allowed accepted.effect_is place accepted.counted in
    record {
      session = from_one history session regular.sessions accepted.live;
      serial = omega arith;
      is_new = kept_new history session (next_serial history session) (new_serial history session (regular.serials session (live_has_begun history session accepted.live)));
      change = fits_too (world_of (durable_entries history)) world (keeps_contents history) made.change here;
    }
