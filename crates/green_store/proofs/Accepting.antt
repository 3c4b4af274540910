-- The change of a valid request that nothing refuses may be kept, where it is counted.
use Rattle.std.proofs.Common.{◌≡◌, ℕ, ◌<◌, get_or, ◌&&◌, Bool, true, false, List, [], ◌∷◌, length, All, subst, arith}
use Rattle.std.specs.Prelude.{Some, None, nat_le}
use Rattle.std.proofs.lemmas.Bool.Decides.{nat_tests}
use Rattle.std.proofs.lemmas.List.{length-map}
use Rattle.std.proofs.lemmas.List.Elements.{All-nil, All-cons, All-head, All-tail, All-map}
use Rattle.tumbler.specs.Places.{IsTumbler, place_bound}
use Rattle.febe_data.specs.declared.access.Mode.{Mode}
use Rattle.febe_data.specs.declared.access.Rule.{Rule}
use Rattle.febe_data.specs.declared.refusal.Refusal.TheVariants.{BadAddress}
use Rattle.febe_data.specs.LimitsView.{LimitsView, AreLimits}
use Rattle.febe_data.specs.Plain.{PlainRequest, insert, copy, rearrange, create, delete, version, quit, create_link, set_account, opens, closes, publish, PlainEntry}
use Rattle.febe_data.specs.Validity.{IsRequest}
use Rattle.entry_codec.specs.Bodies.{IsU32, IsEncodable}
use Rattle.world_rules.specs.World.{World}
use Rattle.world_rules.specs.Apply.{world_of}
use Rattle.world_rules.specs.History.{durable_entries, is_durable, is_live}
use Rattle.world_rules.specs.Refusals.{wanted, checks, position_of, opens_version, history_full}
use Rattle.world_rules.specs.Effects.{Effect, effect, opening}
use Rattle.world_rules.specs.Legal.{wanted_after}
use Rattle.world_rules.proofs.Placed.{served_is_placed, none_holds}
use Rattle.entry_fits.specs.Laws.{IsRegular}
use Rattle.entry_fits.proofs.Accepted.{accepted_fits}
use Rattle.green_store.specs.inside.{IsTyped, MayBeKept}

-- ---- there is room for one more

not_above : (a b : ℕ) → nat_le a b ≡ false → b < a
not_above a b is = grind (arith, nat_tests)

module _ (limits : LimitsView) (counted : ℕ) (world : World) (session : ℕ) where
  test : (request : PlainRequest) (k : ℕ) → k < length (checks limits counted world session request) → wanted limits counted world session request ≡ None
      → (get_or (checks limits counted world session request) k (false, BadAddress)).0 ≡ false
  test request k lt none = none_holds (checks limits counted world session request) k (false, BadAddress) lt none

  room : history_full limits counted ≡ false → counted < limits.entries
  room full = not_above limits.entries counted full

  of_effect : (one made : Effect) → Some one ≡ Some made → is_durable made.change ≡ true → (is_durable one.change ≡ true → counted < limits.entries) → counted < limits.entries
  of_effect one made e counts then = let same : made ≡ one = cc in then (subst (λ (m : Effect). is_durable m.change ≡ true) same counts)

  opens_room : (document : List ℕ) (mode : Mode) (rule : Rule) (copies : Bool) → (copies && history_full limits counted) ≡ false → is_durable (opening world session document mode copies).change ≡ true → counted < limits.entries
  opens_room document mode rule true full counts = room full
  opens_room document mode rule false full counts = absurd cc

  room_left : (request : PlainRequest) (made : Effect) → wanted limits counted world session request ≡ None → effect world session request ≡ Some made → is_durable made.change ≡ true → counted < limits.entries
  room_left (insert document at text) made none e counts = room (test (insert document at text) 6 (omega arith) none)
  room_left (copy document at specs) made none e counts = room (test (copy document at specs) 7 (omega arith) none)
  room_left (rearrange document cuts) made none e counts = room (test (rearrange document cuts) 6 (omega arith) none)
  room_left create made none e counts = room (test create 1 (omega arith) none)
  room_left (delete document span) made none e counts = room (test (delete document span) 5 (omega arith) none)
  room_left (version document) made none e counts = room (test (version document) 4 (omega arith) none)
  room_left quit made none e counts = of_effect _ made e counts (λ c. absurd cc)
  room_left (create_link home from to three) made none e counts = room (test (create_link home from to three) 6 (omega arith) none)
  room_left (set_account account) made none e counts = of_effect _ made e counts (λ c. absurd cc)
  room_left (opens document mode rule) made none e counts =
      of_effect _ made e counts (opens_room document mode rule (opens_version world session document mode rule) (test (opens document mode rule) 5 (omega arith) none))
  room_left (closes document) made none e counts = of_effect _ made e counts (λ c. absurd cc)
  room_left (publish document) made none e counts = room (test (publish document) 4 (omega arith) none)
  room_left other made none e counts = cc

-- ---- there is a body for it

-- a position is a place of a tumbler, or 0
position_small : (at : List ℕ) → All (λ p. p < place_bound) at → IsU32 (position_of at)
position_small [] small = omega arith
position_small (x ∷ []) small = omega arith
position_small (x ∷ n ∷ at) small = All-head (λ p. p < place_bound) n at (All-tail (λ p. p < place_bound) x (n ∷ at) small)

all_small : (cuts : List (List ℕ)) → All IsTumbler cuts → All (λ cut. IsU32 (position_of cut)) cuts
all_small [] all = All-nil (λ cut. IsU32 (position_of cut))
all_small (cut ∷ cuts) all =
    All-cons (λ cut. IsU32 (position_of cut)) cut cuts (position_small cut (All-head IsTumbler cut cuts all).small) (all_small cuts (All-tail IsTumbler cut cuts all))

abbrev IsCounted : Effect → Type 0
IsCounted made = is_durable made.change ≡ true

module _ (world : World) (session : ℕ) where
  as_logged : (one made : Effect) → Some one ≡ Some made → is_durable made.change ≡ true → IsTyped made.change → (is_durable one.change ≡ true → IsTyped one.change → IsEncodable one.change) → IsEncodable made.change
  as_logged one made e counts typed then =
      let same : one ≡ made = cc in
      subst (λ (m : Effect). IsCounted m → IsTyped m.change → IsEncodable m.change) same then counts typed

  opens_logged : (document : List ℕ) (mode : Mode) (rule : Rule) (copies : Bool) → IsRequest (opens document mode rule) → is_durable (opening world session document mode copies).change ≡ true → IsTyped (opening world session document mode copies).change → IsEncodable (opening world session document mode copies).change
  opens_logged document mode rule true valid counts typed = (valid.0, typed)
  opens_logged document mode rule false valid counts typed = absurd cc

  logged : (request : PlainRequest) (made : Effect) → IsRequest request → effect world session request ≡ Some made → is_durable made.change ≡ true → IsTyped made.change → IsEncodable made.change
  logged (insert document at text) made valid e counts typed = as_logged _ made e counts typed (λ c t. (valid.0, t.0, t.1, valid.1.1.0))
  logged (copy document at specs) made valid e counts typed = as_logged _ made e counts typed (λ c t. (valid.0, t, valid.1.1.0))
  logged (rearrange document cuts) made valid e counts typed = as_logged _ made e counts typed (λ c t. (valid.0, record { few = omega (arith, length-map cuts position_of, valid.1.0.few); each = All-map IsU32 position_of cuts (all_small cuts valid.1.0.each) }))
  logged create made valid e counts typed = as_logged _ made e counts typed (λ c t. t)
  logged (delete document span) made valid e counts typed = as_logged _ made e counts typed (λ c t. (valid.0, valid.1.0))
  logged (version document) made valid e counts typed = as_logged _ made e counts typed (λ c t. (valid.0, t))
  logged quit made valid e counts typed = as_logged _ made e counts typed (λ c t. absurd cc)
  logged (create_link home from to three) made valid e counts typed = as_logged _ made e counts typed (λ c t. (valid.0, t.0, t.1, valid.1.0, valid.1.1.0, valid.1.1.1.0))
  logged (set_account account) made valid e counts typed = as_logged _ made e counts typed (λ c t. absurd cc)
  logged (opens document mode rule) made valid e counts typed = as_logged _ made e counts typed (opens_logged document mode rule (opens_version world session document mode rule) valid)
  logged (closes document) made valid e counts typed = as_logged _ made e counts typed (λ c t. absurd cc)
  logged (publish document) made valid e counts typed = as_logged _ made e counts typed (λ c t. valid.0)
  logged other made valid e counts typed = cc

-- ---- both

pub may_be_kept : (limits : LimitsView) (history : List PlainEntry) (session : ℕ) (request : PlainRequest) (made : Effect) → AreLimits limits.entries limits.text limits.flush → IsRegular history → is_live history session ≡ true
    → wanted_after limits history session request ≡ None → effect (world_of history) session request ≡ Some made → is_durable made.change ≡ true → IsRequest request → IsTyped made.change → MayBeKept history session made
may_be_kept limits history session request made bounds regular live allowed e counts valid typed = record {
  counted = counts;
  placed = served_is_placed limits (length (durable_entries history)) (world_of history) session request made allowed e;
  logged = logged (world_of history) session request made valid e counts typed;
  fits = accepted_fits limits history session request made bounds.text_bound regular (record { live = live; allowed = allowed; effect_is = e; counted = counts });
  room = omega (arith, room_left limits (length (durable_entries history)) (world_of history) session request made allowed e counts, bounds.entries_bound);
}
