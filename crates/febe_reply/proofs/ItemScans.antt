-- Items, byte by byte: what is taken is the spelling of right items, and each such spelling is taken.
use Rattle.std.proofs.Common.{◌≡◌, ℕ, zero, suc, ◌-◌, ◌<◌, false, List, [], ◌∷◌, ◌++◌, length, All, refl, sym, ap, subst, ◌∙◌, append_assoc, arith, inl, inr}
use Rattle.std.specs.Prelude.{◌==◌}
use Rattle.std.specs.List.{flat_map}
use Rattle.std.specs.Fmt.{decimal}
use Rattle.std.proofs.lemmas.Bool.{cases_Bool, eqb-true, ne_eqb}
use Rattle.std.proofs.lemmas.List.{append-nil}
use Rattle.std.proofs.lemmas.List.Elements.{All-nil, All-cons, All-head, All-tail}
use Rattle.tumbler.specs.Places.{IsTumbler}
use Rattle.febe_data.specs.Plain.{PlainItem, bytes, link}
use Rattle.febe_data.specs.Spelling.{spell_tumbler, spell_text, spell_item, spell_list}
use Rattle.febe_data.specs.Validity.{IsText, IsList, IsItem}
use Rattle.febe_fields.specs.declared.scanner.Field.TheVariants as fields
use Rattle.febe_fields.specs.Fields.{takes, follows}
use Rattle.febe_fields.specs.Scanning.{Outcome, goes, done, fails}
use Rattle.febe_fields.specs.Machine.{State, opened, field_step}
use Rattle.febe_fields.proofs.Scans.{takes_some, takes_one, one_taken}
use Rattle.febe_fields.proofs.FieldsTaken.{fields_take}
use Rattle.febe_fields.proofs.FieldsAgain.{field_again}
use Rattle.febe_reply.specs.declared.scan.NumberRole.TheVariants.{Items}
use Rattle.febe_reply.specs.ReplyGrammar.{HoldsBytes}
use Rattle.febe_reply.specs.inside.ReplyMachine.{at_item, in_item, at_number, items_next, item_goes, item_opened, reply_step}
use Rattle.febe_reply.proofs.CountScans.{count_takes, count_again}

-- ---- an item's fields within the reply

-- an item's own bytes, in front of what comes behind
record TakesPrefix (s : State) (more : ℕ) (input : List ℕ) : Type 0 where
  prefix : List ℕ
  behind : List ℕ
  taken : takes field_step s prefix
  spelled : input ≡ prefix ++ behind
  ended : follows reply_step (items_next more) behind

prefix_takes : (s : State) (more : ℕ) (input : List ℕ) → takes reply_step (in_item s more) input → TakesPrefix s more input
prefix_takes s more [] h = absurd (takes_some reply_step (in_item s more) h)
prefix_takes s more (b ∷ input) h = by_outcome (λ t. prefix_takes t more input) (field_step s b) refl (takes_one reply_step (in_item s more) b input h) where
  by_outcome : ((t : State) → takes reply_step (in_item t more) input → TakesPrefix t more input) → (o : Outcome State) → field_step s b ≡ o → follows reply_step (item_goes more o) input → TakesPrefix s more (b ∷ input)
  by_outcome on (goes t) e h =
      let r = on t h in
      record {
        prefix = b ∷ r.prefix;
        behind = r.behind;
        taken = one_taken field_step s b r.prefix (subst (λ (o : Outcome State). follows field_step o r.prefix) (sym e) r.taken);
        spelled = ap (λ (ds : List ℕ). b ∷ ds) r.spelled;
        ended = r.ended;
      }
  by_outcome on done e h = record {
    prefix = b ∷ [];
    behind = input;
    taken = one_taken field_step s b [] (subst (λ (o : Outcome State). follows field_step o []) (sym e) refl);
    spelled = refl;
    ended = h;
  }
  by_outcome on fails e h = absurd h

pub prefix_again : (s : State) (more : ℕ) (prefix behind : List ℕ) → takes field_step s prefix → follows reply_step (items_next more) behind → takes reply_step (in_item s more) (prefix ++ behind)
prefix_again s more [] behind h ended = absurd (takes_some field_step s h)
prefix_again s more (b ∷ prefix) behind h ended = one_taken reply_step (in_item s more) b (prefix ++ behind) (by_outcome (λ t g. prefix_again t more prefix behind g ended) (field_step s b) (takes_one field_step s b prefix h)) where
  by_outcome : ((t : State) → takes field_step t prefix → takes reply_step (in_item t more) (prefix ++ behind)) → (o : Outcome State) → follows field_step o prefix → follows reply_step (item_goes more o) (prefix ++ behind)
  by_outcome on (goes t) h = on t h
  by_outcome on done h = subst (λ (ds : List ℕ). follows reply_step (items_next more) (ds ++ behind)) (sym h) ended
  by_outcome on fails h = absurd h

-- ---- one item

-- a right item, in front of what comes behind
pub record TakesItem (more : ℕ) (input : List ℕ) : Type 0 where
  pub item : PlainItem
  pub behind : List ℕ
  pub is : IsItem item
  pub holds : HoldsBytes item
  pub spelled : input ≡ spell_item item ++ behind
  pub ended : follows reply_step (items_next more) behind

joined : (input prefix spelling behind : List ℕ) → input ≡ prefix ++ behind → prefix ≡ spelling ++ [] → input ≡ spelling ++ behind
joined input prefix spelling behind e f = e ∙ ap (λ (ds : List ℕ). ds ++ behind) (f ∙ append-nil spelling)

text_takes : (more : ℕ) (input : List ℕ) → takes reply_step (in_item (opened fields.Text []) more) input → TakesItem more input
text_takes more input h =
    let t = prefix_takes (opened fields.Text []) more input h in
    let s = fields_take (fields.Text ∷ []) t.prefix t.taken in
    record {
      item = bytes s.values.0;
      behind = t.behind;
      is = s.valid.0.short;
      holds = s.valid.0.bytes;
      spelled = joined input t.prefix (spell_text s.values.0) t.behind t.spelled s.spelled;
      ended = t.ended;
    }

link_takes : (more : ℕ) (input : List ℕ) → takes reply_step (in_item (opened fields.Tumbler []) more) input → TakesItem more input
link_takes more input h =
    let t = prefix_takes (opened fields.Tumbler []) more input h in
    let s = fields_take (fields.Tumbler ∷ []) t.prefix t.taken in
    record {
      item = link s.values.0;
      behind = t.behind;
      is = s.valid.0;
      holds = tt;
      spelled = joined input t.prefix (spell_tumbler s.values.0) t.behind t.spelled s.spelled;
      ended = t.ended;
    }

item_takes : (more : ℕ) (input : List ℕ) → takes reply_step (at_item more) input → TakesItem more input
item_takes more [] h = absurd (takes_some reply_step (at_item more) h)
item_takes more (b ∷ input) h =
    let within : takes reply_step (in_item (item_opened b) more) (b ∷ input) = one_taken reply_step (in_item (item_opened b) more) b input (takes_one reply_step (at_item more) b input h) in
    elim (cases_Bool (b == 116)) [
      | inl is ↦ text_takes more (b ∷ input) (rw is at within)
      | inr other ↦ link_takes more (b ∷ input) (rw other at within)
    ]

text_begins : (more : ℕ) (input : List ℕ) → takes reply_step (in_item (opened fields.Text []) more) (116 ∷ input) → takes reply_step (at_item more) (116 ∷ input)
text_begins more input h = one_taken reply_step (at_item more) 116 input (takes_one reply_step (in_item (opened fields.Text []) more) 116 input h)

-- no tumbler begins with a t
link_begins : (more : ℕ) (input : List ℕ) → takes reply_step (in_item (opened fields.Tumbler []) more) input → takes reply_step (at_item more) input
link_begins more [] h = absurd (takes_some reply_step (in_item (opened fields.Tumbler []) more) h)
link_begins more (b ∷ input) h =
    let f = takes_one reply_step (in_item (opened fields.Tumbler []) more) b input h in
    elim (cases_Bool (b == 116)) [
      | inl is ↦ absurd (subst (λ (c : ℕ). follows reply_step (item_goes more (field_step (opened fields.Tumbler []) c)) input) (eqb-true _ _ is) f)
      | inr other ↦ one_taken reply_step (at_item more) b input (rw other f)
    ]

pub item_again : (item : PlainItem) (more : ℕ) (behind : List ℕ) → IsItem item → HoldsBytes item → follows reply_step (items_next more) behind → takes reply_step (at_item more) (spell_item item ++ behind)
item_again (bytes text) more behind is holds ended =
    let valid : IsText text = record { short = is; bytes = holds } in
    let alone : takes field_step (opened fields.Text []) (spell_text text) = subst (takes field_step (opened fields.Text [])) (append-nil (spell_text text)) (field_again fields.Text [] [] refl text valid) in
    text_begins more (((decimal (length text) ++ 58 ∷ []) ++ text) ++ behind) (prefix_again (opened fields.Text []) more (spell_text text) behind alone ended)
item_again (link id) more behind is holds ended =
    let alone : takes field_step (opened fields.Tumbler []) (spell_tumbler id) = subst (takes field_step (opened fields.Tumbler [])) (append-nil (spell_tumbler id)) (field_again fields.Tumbler [] [] refl id is) in
    link_begins more (spell_tumbler id ++ behind) (prefix_again (opened fields.Tumbler []) more (spell_tumbler id) behind alone ended)

-- ---- so many items

record TakesItems (count : ℕ) (input : List ℕ) : Type 0 where
  items : List PlainItem
  count_is : length items ≡ count
  are : All IsItem items
  hold : All HoldsBytes items
  spelled : input ≡ flat_map spell_item items

items_take : (count : ℕ) (input : List ℕ) → follows reply_step (items_next count) input → TakesItems count input
items_take zero input h = record { items = []; count_is = refl; are = All-nil IsItem; hold = All-nil HoldsBytes; spelled = h }
items_take (suc n) input h =
    let left : (suc n == 0) ≡ false = ne_eqb _ _ (λ e. omega arith) in
    let one : suc n - 1 ≡ n = omega arith in
    let t = item_takes n input (rw (left, one) at h) in
    let on = items_take n t.behind t.ended in
    record {
      items = t.item ∷ on.items;
      count_is = ap suc on.count_is;
      are = All-cons IsItem t.item on.items t.is on.are;
      hold = All-cons HoldsBytes t.item on.items t.holds on.hold;
      spelled = t.spelled ∙ ap (λ (ds : List ℕ). spell_item t.item ++ ds) on.spelled;
    }

pub items_again : (items : List PlainItem) → All IsItem items → All HoldsBytes items → follows reply_step (items_next (length items)) (flat_map spell_item items)
items_again [] are hold = refl
items_again (item ∷ items) are hold =
    let on = items_again items (All-tail IsItem item items are) (All-tail HoldsBytes item items hold) in
    let left : (suc (length items) == 0) ≡ false = ne_eqb _ _ (λ e. omega arith) in
    let one : suc (length items) - 1 ≡ length items = omega arith in
    rw (left, one) (item_again item (length items) (flat_map spell_item items) (All-head IsItem item items are) (All-head HoldsBytes item items hold) on)

no_places : IsTumbler []
no_places = record { few = omega arith; small = All-nil (λ p. p < 4294967296); ends = λ e. refl }

pub items_go_on : (n : ℕ) → (input : List ℕ) × follows reply_step (items_next n) input
items_go_on zero = ([], refl)
items_go_on (suc n) =
    let left : (suc n == 0) ≡ false = ne_eqb _ _ (λ e. omega arith) in
    let one : suc n - 1 ≡ n = omega arith in
    let on = items_go_on n in
    (spell_item (link []) ++ on.0, rw (left, one) (item_again (link []) n on.0 no_places tt on.1))

pub one_item_goes_on : (more : ℕ) → (input : List ℕ) × takes reply_step (at_item more) input
one_item_goes_on more =
    let on = items_go_on more in
    (spell_item (link []) ++ on.0, item_again (link []) more on.0 no_places tt on.1)

-- ---- a list of items

pub record SpellsItems (input : List ℕ) : Type 0 where
  pub items : List PlainItem
  pub valid : IsList IsItem items
  pub texts : All HoldsBytes items
  pub spelled : input ≡ spell_list spell_item items

list_joined : (input mid : List ℕ) (n : ℕ) (items : List PlainItem) → input ≡ decimal n ++ 126 ∷ mid → mid ≡ flat_map spell_item items → length items ≡ n → input ≡ spell_list spell_item items
list_joined input mid n items e f len = e ∙ rw (f, len) (sym (append_assoc (decimal n) (126 ∷ []) (flat_map spell_item items)))

pub list_takes : (input : List ℕ) → takes reply_step (at_number Items) input → SpellsItems input
list_takes input h =
    let n = count_takes Items input h in
    let t = items_take n.number n.behind n.ended in
    record {
      items = t.items;
      valid = record { few = omega (arith, t.count_is, n.bound); each = t.are };
      texts = t.hold;
      spelled = list_joined input n.behind n.number t.items n.spelled t.spelled t.count_is;
    }

pub list_again : (items : List PlainItem) → IsList IsItem items → All HoldsBytes items → takes reply_step (at_number Items) (spell_list spell_item items)
list_again items valid hold =
    subst (takes reply_step (at_number Items)) (sym (append_assoc (decimal (length items)) (126 ∷ []) (flat_map spell_item items)))
    (count_again Items (length items) (flat_map spell_item items) valid.few (λ e. absurd cc) (items_again items valid.each hold))
