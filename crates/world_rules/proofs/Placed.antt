-- The change of a request that nothing refuses.
use Rattle.std.proofs.Common.{◌≡◌, ℕ, zero, suc, ◌+◌, ◌<◌, get_or, ◌≤◌, ◌==◌, ◌&&◌, ◌||◌, Bool, true, false, not, cond, List, [], ◌∷◌, ◌++◌, length, map, sym, refl, subst, inl, inr, arith}
use Rattle.std.specs.Prelude.{Option, Some, None, unwrap_or, slice_index, nat_le, nat_lt, is_none}
use Rattle.std.proofs.lemmas.Bool.{and_parts, or_parts, leb-true, ltb-true, not-false, true≢false}
use Rattle.tumbler.specs.Address.{IsAccount, account_test}
use Rattle.tumbler.proofs.AccountTest.{account_tested}
use Rattle.febe_data.specs.declared.access.Mode.{Mode}
use Rattle.febe_data.specs.declared.access.Mode.TheVariants.{Read, Write}
use Rattle.febe_data.specs.declared.access.Rule.{Rule}
use Rattle.febe_data.specs.declared.access.Rule.TheVariants.{Refuse, Copy, Always}
use Rattle.febe_data.specs.LimitsView.{LimitsView}
use Rattle.febe_data.specs.declared.refusal.Refusal.{Refusal}
use Rattle.febe_data.specs.declared.refusal.Refusal.TheVariants.{BadAddress}
use Rattle.febe_data.specs.Plain.{PlainSpec, PlainRequest, insert, copy, rearrange, create, delete, version, quit, create_link, set_account, opens, closes, publish}
use Rattle.world_rules.specs.World.{World, account_of_session, has_document, next_version, next_document, is_of_account, text_length, content_length, link_length, links_made_in}
use Rattle.world_rules.specs.Edits.{Cuts, cuts_of}
use Rattle.world_rules.specs.Refusals.{wanted, checks, is_place, position_of, has_bad_span, has_bad_cut, lacks_document, opens_version, wants_account, Check, first_holding}
use Rattle.world_rules.specs.Effects.{Effect, effect, maker_of, version_to_come, opening}
use Rattle.world_rules.specs.Placed.{IsKnownAccount, IsNext, ComesInAt, IsCopiedTo, IsCutAt, IsLinkedAt, IsPlaced}
use Rattle.world_rules.specs.Laws.{ServedIsPlaced}
use Rattle.world_rules.proofs.Accounts.{set_account_is}
use Rattle.world_rules.proofs.Rearranged.{three_test, four_test}

-- ---- tests

-- where nothing is refused, no test holds
none_holds_step : (holds : Bool) (refusal : Refusal) (others : Option Refusal) → cond holds (Some refusal) others ≡ None → (holds ≡ false) × (others ≡ None)
none_holds_step true refusal others e = cc
none_holds_step false refusal others e = (refl, e)

pub none_holds : (tests : List Check) (k : ℕ) (d : Check) → k < length tests → first_holding tests ≡ None → (get_or tests k d).0 ≡ false
none_holds [] k d lt none = absurd (omega arith)
none_holds (test ∷ tests) zero d lt none = (none_holds_step test.0 test.1 (first_holding tests) none).0
none_holds (test ∷ tests) (suc k) d lt none = none_holds tests k d (omega arith) (none_holds_step test.0 test.1 (first_holding tests) none).1

-- ---- places

-- a place has its number where text can come in
place_within : (rows : ℕ) (at : List ℕ) → is_place rows at ≡ true → (1 ≤ slice_index at 1) × (slice_index at 1 ≤ rows + 1)
place_within rows at holds =
    let all = and_parts (length at == 2 && slice_index at 0 == 1 && nat_le 1 (slice_index at 1)) (nat_le (slice_index at 1) (rows + 1)) holds in
    let low = and_parts (length at == 2 && slice_index at 0 == 1) (nat_le 1 (slice_index at 1)) all.0 in
    (leb-true 1 (slice_index at 1) low.1, leb-true (slice_index at 1) (rows + 1) all.1)

insert_comes_in : (limits : LimitsView) (counted : ℕ) (world : World) (session : ℕ) (document at text : List ℕ) → wanted limits counted world session (insert document at text) ≡ None
    → ComesInAt world document (slice_index at 1) (content_length world document + 1)
insert_comes_in limits counted world session document at text none =
    let is_not_there : not (has_document world document) ≡ false = none_holds (checks limits counted world session (insert document at text)) 0 (false, BadAddress) (omega arith) none in
    let is_no_place : not (is_place (text_length world document) at) ≡ false = none_holds (checks limits counted world session (insert document at text)) 4 (false, BadAddress) (omega arith) none in
    let within = place_within (text_length world document) at (not-false (is_place (text_length world document) at) is_no_place) in
    record { there = not-false (has_document world document) is_not_there; from_one = within.0; to_end = within.1; is_next = refl }

copy_comes_in : (limits : LimitsView) (counted : ℕ) (world : World) (session : ℕ) (document at : List ℕ) (specs : List PlainSpec) → wanted limits counted world session (copy document at specs) ≡ None
    → IsCopiedTo world document (slice_index at 1)
copy_comes_in limits counted world session document at specs none =
    let lacks : (not (has_document world document) || lacks_document world specs) ≡ false = none_holds (checks limits counted world session (copy document at specs)) 0 (false, BadAddress) (omega arith) none in
    let bad : (not (is_place (text_length world document) at) || has_bad_span specs) ≡ false = none_holds (checks limits counted world session (copy document at specs)) 4 (false, BadAddress) (omega arith) none in
    let is_not_there : not (has_document world document) ≡ false = (or_parts (not (has_document world document)) (lacks_document world specs) lacks).0 in
    let is_no_place : not (is_place (text_length world document) at) ≡ false = (or_parts (not (is_place (text_length world document) at)) (has_bad_span specs) bad).0 in
    let within = place_within (text_length world document) at (not-false (is_place (text_length world document) at) is_no_place) in
    record { there = not-false (has_document world document) is_not_there; from_one = within.0; to_end = within.1 }

link_comes_in : (limits : LimitsView) (counted : ℕ) (world : World) (session : ℕ) (home : List ℕ) (from to three : List PlainSpec) → wanted limits counted world session (create_link home from to three) ≡ None
    → IsLinkedAt world home (links_made_in world home + 1) (link_length world home + 1)
link_comes_in limits counted world session home from to three none =
    let lacks : (not (has_document world home) || lacks_document world (from ++ to ++ three)) ≡ false = none_holds (checks limits counted world session (create_link home from to three)) 0 (false, BadAddress) (omega arith) none in
    let is_not_there : not (has_document world home) ≡ false = (or_parts (not (has_document world home)) (lacks_document world (from ++ to ++ three)) lacks).0 in
    record { there = not-false (has_document world home) is_not_there; is_next = refl; at_end = refl }

-- ---- cuts

-- none of the cuts is bad
first_good : (rows : ℕ) (cut : List ℕ) (cuts : List (List ℕ)) → has_bad_cut rows (cut ∷ cuts) ≡ false → (is_place rows cut ≡ true) × (has_bad_cut rows cuts ≡ false)
first_good rows cut cuts good =
    let parts = or_parts (not (is_place rows cut)) (has_bad_cut rows cuts) good in
    (not-false (is_place rows cut) parts.0, parts.1)

-- what such cuts bound is between 1 and one more than the rows
pub record AreWithin (rows : ℕ) (bounds : Cuts) : Type 0 where
  pub from_one : 1 ≤ bounds.first
  pub to_end : bounds.fourth ≤ rows + 1

cuts_within : (rows : ℕ) (cuts : List (List ℕ)) (bounds : Cuts) → has_bad_cut rows cuts ≡ false → cuts_of (map position_of cuts) ≡ Some bounds → AreWithin rows bounds
cuts_within rows [] bounds good e = cc
cuts_within rows (a ∷ []) bounds good e = cc
cuts_within rows (a ∷ b ∷ []) bounds good e = cc
cuts_within rows (a ∷ b ∷ c ∷ []) bounds good e =
    let given = three_test (nat_le (position_of a) (position_of b) && nat_le (position_of b) (position_of c)) (position_of a) (position_of b) (position_of c) bounds e in
    let first = first_good rows a (b ∷ c ∷ []) good in
    let second = first_good rows b (c ∷ []) first.1 in
    let third = first_good rows c [] second.1 in
    subst (AreWithin rows) (sym given.1) (record { from_one = (place_within rows a first.0).0; to_end = (place_within rows c third.0).1 })
cuts_within rows (a ∷ b ∷ c ∷ d ∷ []) bounds good e =
    let given = four_test (nat_le (position_of a) (position_of b) && nat_le (position_of b) (position_of c) && nat_le (position_of c) (position_of d)) (position_of a) (position_of b) (position_of c) (position_of d) bounds e in
    let first = first_good rows a (b ∷ c ∷ d ∷ []) good in
    let second = first_good rows b (c ∷ d ∷ []) first.1 in
    let third = first_good rows c (d ∷ []) second.1 in
    let fourth = first_good rows d [] third.1 in
    subst (AreWithin rows) (sym given.1) (record { from_one = (place_within rows a first.0).0; to_end = (place_within rows d fourth.0).1 })
cuts_within rows (a ∷ b ∷ c ∷ d ∷ x ∷ more) bounds good e = cc

cut_at_step : (world : World) (document : List ℕ) (cuts : List (List ℕ)) (bounds : Option Cuts) → cuts_of (map position_of cuts) ≡ bounds → has_bad_cut (text_length world document) cuts ≡ false → is_none bounds ≡ false
    → IsCutAt world document (map position_of cuts)
cut_at_step world document cuts (Some bounds) e good some =
    let within = cuts_within (text_length world document) cuts bounds good e in
    record { bounds = bounds; are_cuts = e; from_one = within.from_one; to_end = within.to_end }
cut_at_step world document cuts None e good some = cc

rearrange_cuts : (limits : LimitsView) (counted : ℕ) (world : World) (session : ℕ) (document : List ℕ) (cuts : List (List ℕ)) → wanted limits counted world session (rearrange document cuts) ≡ None
    → IsCutAt world document (map position_of cuts)
rearrange_cuts limits counted world session document cuts none =
    cut_at_step world document cuts (cuts_of (map position_of cuts)) refl
    (none_holds (checks limits counted world session (rearrange document cuts)) 4 (false, BadAddress) (omega arith) none)
    (none_holds (checks limits counted world session (rearrange document cuts)) 5 (false, BadAddress) (omega arith) none)

-- ---- documents

-- where a session has an account, that is known
known_step : (world : World) (session : ℕ) (set : Option (List ℕ)) → account_of_session world session ≡ set → is_none set ≡ false → IsKnownAccount world (unwrap_or set [])
known_step world session (Some account) e some = inl (set_account_is session world.accounts account e)
known_step world session None e some = cc

maker_known : (world : World) (session : ℕ) → is_none (account_of_session world session) ≡ false → IsKnownAccount world (maker_of world session)
maker_known world session some = known_step world session (account_of_session world session) refl some

-- the next document of an account is the next one below `account.0`
next_of_account : (world : World) (account : List ℕ) → IsKnownAccount world account → IsNext world (next_document world account)
next_of_account world account known = record { front = account ++ 0 ∷ []; is_front = inl (record { account = account; parts = refl; known = known }); is_next = refl }

next_version_step : (world : World) (source account : List ℕ) (under : Bool) → IsKnownAccount world account → has_document world source ≡ true → (is_of_account account source && nat_lt (length source) 20) ≡ under
    → IsNext world (cond under (next_version world source) (next_document world account))
next_version_step world source account true known there e =
    record { front = source; is_front = inr (record { there = there; room = ltb-true (length source) 20 (and_parts (is_of_account account source) (nat_lt (length source) 20) e).1 }); is_next = refl }
next_version_step world source account false known there e = next_of_account world account known

next_of_version : (world : World) (session : ℕ) (source : List ℕ) → is_none (account_of_session world session) ≡ false → has_document world source ≡ true → IsNext world (version_to_come world session source)
next_of_version world session source some there =
    next_version_step world source (maker_of world session) (is_of_account (maker_of world session) source && nat_lt (length source) 20) (maker_known world session some) there refl

create_next : (limits : LimitsView) (counted : ℕ) (world : World) (session : ℕ) → wanted limits counted world session create ≡ None → IsNext world (next_document world (maker_of world session))
create_next limits counted world session none =
    next_of_account world (maker_of world session) (maker_known world session (none_holds (checks limits counted world session create) 0 (false, BadAddress) (omega arith) none))

version_next : (limits : LimitsView) (counted : ℕ) (world : World) (session : ℕ) (source : List ℕ) → wanted limits counted world session (version source) ≡ None → IsNext world (version_to_come world session source)
version_next limits counted world session source none =
    let missing : not (has_document world source) ≡ false = none_holds (checks limits counted world session (version source)) 1 (false, BadAddress) (omega arith) none in
    next_of_version world session source (none_holds (checks limits counted world session (version source)) 0 (false, BadAddress) (omega arith) none) (not-false (has_document world source) missing)

-- who opens a version has an account
copies_wants : (world : World) (session : ℕ) (document : List ℕ) (mode : Mode) (rule : Rule) → opens_version world session document mode rule ≡ true → wants_account mode rule ≡ true
copies_wants world session document mode Always e = refl
copies_wants world session document Write Copy e = refl
copies_wants world session document Read Copy e = absurd (true≢false (sym e))
copies_wants world session document Write Refuse e = refl
copies_wants world session document Read Refuse e = absurd (true≢false (sym e))

opened : (world : World) (session : ℕ) (document : List ℕ) (mode : Mode) (copies : Bool) → (copies ≡ true → is_none (account_of_session world session) ≡ false) → has_document world document ≡ true
    → IsPlaced world (opening world session document mode copies).change
opened world session document mode true some there = next_of_version world session document (some refl) there
opened world session document mode false some there = tt

opens_placed : (limits : LimitsView) (counted : ℕ) (world : World) (session : ℕ) (document : List ℕ) (mode : Mode) (rule : Rule) → wanted limits counted world session (opens document mode rule) ≡ None
    → IsPlaced world (opening world session document mode (opens_version world session document mode rule)).change
opens_placed limits counted world session document mode rule none =
    let wants : (wants_account mode rule && is_none (account_of_session world session)) ≡ false = none_holds (checks limits counted world session (opens document mode rule)) 0 (false, BadAddress) (omega arith) none in
    let missing : not (has_document world document) ≡ false = none_holds (checks limits counted world session (opens document mode rule)) 1 (false, BadAddress) (omega arith) none in
    opened world session document mode (opens_version world session document mode rule)
    (λ (e : opens_version world session document mode rule ≡ true). rw (copies_wants world session document mode rule e) at wants)
    (not-false (has_document world document) missing)

-- ---- accounts

account_is_account : (limits : LimitsView) (counted : ℕ) (world : World) (session : ℕ) (account : List ℕ) → wanted limits counted world session (set_account account) ≡ None → IsAccount account
account_is_account limits counted world session account none =
    (account_tested account).0 (not-false (account_test account) (none_holds (checks limits counted world session (set_account account)) 0 (false, BadAddress) (omega arith) none))

-- ---- publish

publish_there : (limits : LimitsView) (counted : ℕ) (world : World) (session : ℕ) (document : List ℕ) → wanted limits counted world session (publish document) ≡ None → has_document world document ≡ true
publish_there limits counted world session document none =
    let missing : not (has_document world document) ≡ false = none_holds (checks limits counted world session (publish document)) 0 (false, BadAddress) (omega arith) none in
    not-false (has_document world document) missing

-- ---- all requests

by_effect : (world : World) (one made : Effect) → Some one ≡ Some made → IsPlaced world one.change → IsPlaced world made.change
by_effect world one made e placed = let same : one ≡ made = cc in subst (λ (m : Effect). IsPlaced world m.change) same placed

pub placed : (limits : LimitsView) (counted : ℕ) (world : World) (session : ℕ) (request : PlainRequest) (made : Effect)
    → wanted limits counted world session request ≡ None → effect world session request ≡ Some made → IsPlaced world made.change
placed limits counted world session (insert document at text) made none e = by_effect world _ made e (insert_comes_in limits counted world session document at text none)
placed limits counted world session (copy document at specs) made none e = by_effect world _ made e (copy_comes_in limits counted world session document at specs none)
placed limits counted world session (rearrange document cuts) made none e = by_effect world _ made e (rearrange_cuts limits counted world session document cuts none)
placed limits counted world session create made none e = by_effect world _ made e (create_next limits counted world session none)
placed limits counted world session (delete document span) made none e = by_effect world _ made e tt
placed limits counted world session (version document) made none e = by_effect world _ made e (version_next limits counted world session document none)
placed limits counted world session quit made none e = by_effect world _ made e tt
placed limits counted world session (create_link home from to three) made none e = by_effect world _ made e (link_comes_in limits counted world session home from to three none)
placed limits counted world session (set_account account) made none e = by_effect world _ made e (account_is_account limits counted world session account none)
placed limits counted world session (opens document mode rule) made none e = by_effect world _ made e (opens_placed limits counted world session document mode rule none)
placed limits counted world session (closes document) made none e = by_effect world _ made e tt
placed limits counted world session (publish document) made none e = by_effect world _ made e (publish_there limits counted world session document none)
placed limits counted world session other made none e = cc

pub served_is_placed : ServedIsPlaced
served_is_placed = placed
