-- Lists that are laid out one after another, gone through side by side.
use Rattle.std.proofs.Common.{◌≡◌, ◌≢◌, ℕ, zero, suc, ◌+◌, ◌-◌, ◌<◌, ◌≤◌, Bool, true, false, min, List, [], ◌∷◌, ◌++◌, length, get_or, take, drop, refl, arith, ap, ◌∙◌, sym, subst, inl, inr, append_assoc, append-nil}
use Rattle.std.specs.Prelude.{◌⊎◌, ◌↔◌, IsTrue, nat_eq}
use Rattle.std.specs.List.{All, flat_map}
use Rattle.std.proofs.lemmas.List.{drop_more, drop-append-le, drop-drop, drop_all, drop_at, take_at, take-append-drop, append_cancel_left, get_or_default, length-append, length-drop, length-take-le}
use Rattle.std.proofs.lemmas.List.Elements.{All-get_or}
use Rattle.std.proofs.lemmas.Bool.{cases_lt, false≢true, eqb-true, eq-eqb}
use Rattle.tree_compare.specs.declared.place.Place.{Place}
use Rattle.tree_compare.specs.inside.Rests.{rest, IsBehind, IsPlace, GoTogether, AreBeside}

-- ---- what is behind a place

rest-here : {X A : Type 0} (lay : X → List A) (items : List X) (i w : ℕ) (item : X) → i < length items → item ≡ get_or items i item → w ≤ length (lay item)
    → drop w (flat_map lay (drop i items)) ≡ drop w (lay item) ++ flat_map lay (drop (i + 1) items)
rest-here {X} {A} lay items i w item lt at le =
    let more = drop (i + 1) items in
    let split : drop i items ≡ item ∷ more = drop_more items i item lt ∙ ap (λ (x : X). x ∷ more) (sym at) in
    ap (λ (xs : List X). drop w (flat_map lay xs)) split ∙ drop-append-le w (lay item) (flat_map lay more) le

pub rest-on : {X A : Type 0} (lay : X → List A) (items : List X) (place next : Place) (item : X) (count : ℕ) → place.item < length items → item ≡ get_or items place.item item → place.within + count ≤ length (lay item)
    → IsBehind place count (length (lay item)) next → rest lay items place ≡ take count (drop place.within (lay item)) ++ rest lay items next
rest-on {X} {A} lay items place next item count lt at le behind =
    let own = lay item in
    let more = flat_map lay (drop (place.item + 1) items) in
    let part = take count (drop place.within own) in
    let after = drop (place.within + count) own in
    let here : rest lay items place ≡ drop place.within own ++ more = rest-here lay items place.item place.within item lt at (omega arith) in
    let parts : drop place.within own ≡ part ++ after = sym (take-append-drop count (drop place.within own)) ∙ ap (λ (r : List A). part ++ r) (drop-drop count place.within own) in
    elim (cases_lt (place.within + count) (length own)) [
      | inl inside ↦
          let to = behind.stays inside in
          let there : rest lay items next ≡ after ++ more =
          ap (λ (n : ℕ). drop next.within (flat_map lay (drop n items))) to.0 ∙ ap (λ (n : ℕ). drop n (flat_map lay (drop place.item items))) to.1
          ∙ rest-here lay items place.item (place.within + count) item lt at (omega arith) in
          here ∙ ap (λ (r : List A). r ++ more) parts ∙ append_assoc part after more ∙ ap (λ (r : List A). part ++ r) (sym there)
      | inr ends ↦
          let to = behind.passes ends in
          let none : after ≡ [] = drop_all (place.within + count) own ends in
          let there : rest lay items next ≡ more = ap (λ (n : ℕ). drop next.within (flat_map lay (drop n items))) to.0 ∙ ap (λ (n : ℕ). drop n more) to.1 in
          here ∙ ap (λ (r : List A). r ++ more) (parts ∙ ap (λ (r : List A). part ++ r) none ∙ append-nil part) ∙ ap (λ (r : List A). part ++ r) (sym there)
    ]

-- behind the last item there is nothing
rest-none : {X A : Type 0} (lay : X → List A) (items : List X) (place : Place) → length items ≤ place.item → rest lay items place ≡ []
rest-none {X} lay items place le = ap (λ (xs : List X). drop place.within (flat_map lay xs)) (drop_all place.item items le) ∙ drop_all place.within [] (omega arith)

-- in front of an element there is something
rest-some : {X A : Type 0} (lay : X → List A) (items : List X) (place : Place) (item : X) → place.item < length items → item ≡ get_or items place.item item → place.within < length (lay item) → rest lay items place ≢ []
rest-some {X} {A} lay items place item lt at less none =
    let own = lay item in
    let more = flat_map lay (drop (place.item + 1) items) in
    let here : [] ≡ drop place.within own ++ more = sym none ∙ rest-here lay items place.item place.within item lt at (omega arith) in
    absurd (omega (arith, ap length here, length-append (drop place.within own) more, length-drop place.within own))

-- ---- places

pub place-first : {X : Type 0} (count : X → ℕ) (items : List X) (place : Place) → All (λ x. 1 ≤ count x) items → place.item ≡ 0 → place.within ≡ 0 → IsPlace count items place
place-first count items place filled i w = record {
  up_to = omega arith;
  inside = λ item lt at.
      let some : 1 ≤ count item = subst (λ x. 1 ≤ count x) (sym at) (All-get_or (λ x. 1 ≤ count x) items place.item item lt filled) in
      omega (arith, some, w);
}

pub place-on : {X : Type 0} (count : X → ℕ) (items : List X) (place next : Place) (item : X) (n : ℕ) → All (λ x. 1 ≤ count x) items → place.item < length items → item ≡ get_or items place.item item → place.within + n ≤ count item
    → IsBehind place n (count item) next → IsPlace count items next
place-on {X} count items place next item n filled lt at le behind = elim (cases_lt (place.within + n) (count item)) [
  | inl inside ↦
      let to = behind.stays inside in
      let here = to.0 in
      let there = to.1 in
      record {
        up_to = omega (arith, here, lt);
        inside = λ other less is.
            let same : other ≡ item = is ∙ ap (λ (k : ℕ). get_or items k other) here ∙ get_or_default items place.item other item lt ∙ sym at in
            subst (λ (x : X). next.within < count x) (sym same) (omega (arith, there, inside));
      }
  | inr ends ↦
      let to = behind.passes ends in
      let here = to.0 in
      let there = to.1 in
      record {
        up_to = omega (arith, here, lt);
        inside = λ other less is.
            let some : 1 ≤ count other = subst (λ x. 1 ≤ count x) (sym is) (All-get_or (λ x. 1 ≤ count x) items next.item other less filled) in
            omega (arith, some, there);
      }
]

-- ---- side by side

pub together-first : {X A : Type 0} (lay : X → List A) (one other : List X) (left right : Place) → left.item ≡ 0 → left.within ≡ 0 → right.item ≡ 0 → right.within ≡ 0 → GoTogether lay one other left right
together-first lay one other left right i w j v =
    let here : rest lay one left ≡ flat_map lay one = ap (λ (n : ℕ). drop left.within (flat_map lay (drop n one))) i ∙ ap (λ (n : ℕ). drop n (flat_map lay one)) w in
    let there : rest lay other right ≡ flat_map lay other = ap (λ (n : ℕ). drop right.within (flat_map lay (drop n other))) j ∙ ap (λ (n : ℕ). drop n (flat_map lay other)) v in
    record { onward = λ e. here ∙ e ∙ sym there; back = λ e. sym here ∙ e ∙ there }

pub together-on : {X A : Type 0} (lay : X → List A) (one other : List X) (left right next further : Place) (part also : List A) → GoTogether lay one other left right → rest lay one left ≡ part ++ rest lay one next → rest lay other right ≡ also ++ rest lay other further → part ≡ also
    → GoTogether lay one other next further
together-on {X} {A} lay one other left right next further part also before here there same =
    let front : part ++ rest lay other further ≡ also ++ rest lay other further = ap (λ (p : List A). p ++ rest lay other further) same in
    record {
      onward = λ e. append_cancel_left part (rest lay one next) (rest lay other further) (sym here ∙ before.onward e ∙ there ∙ sym front);
      back = λ e. before.back (here ∙ ap (λ (r : List A). part ++ r) e ∙ front ∙ sym there);
    }

-- where the fronts differ the wholes do
pub together-differ : {X A : Type 0} (lay : X → List A) (one other : List X) (left right next further : Place) (part also : List A) → GoTogether lay one other left right → rest lay one left ≡ part ++ rest lay one next → rest lay other right ≡ also ++ rest lay other further
    → length part ≡ length also → part ≢ also → flat_map lay one ≢ flat_map lay other
together-differ {X} {A} lay one other left right next further part also before here there long differ e =
    let both : part ++ rest lay one next ≡ also ++ rest lay other further = sym here ∙ before.onward e ∙ there in
    differ (sym (take_at part (rest lay one next) (length part) refl) ∙ ap (take (length part)) both ∙ take_at also (rest lay other further) (length part) (sym long))

-- an item by its number
item-at : {X : Type 0} (items : List X) (i : ℕ) → i < length items → (x : X) × (x ≡ get_or items i x)
item-at [] i lt = absurd (omega (arith, lt))
item-at (x ∷ items) zero lt = (x, refl)
item-at (x ∷ items) (suc i) lt = item-at items i (omega (arith, lt))

rest-there : {X A : Type 0} (lay : X → List A) (count : X → ℕ) (items : List X) (place : Place) → ((x : X) → count x ≡ length (lay x)) → IsPlace count items place → place.item < length items → rest lay items place ≢ []
rest-there lay count items place counted is lt =
    let found = item-at items place.item lt in
    let inside = is.inside found.0 lt found.1 in
    rest-some lay items place found.0 lt found.1 (omega (arith, inside, counted found.0))

-- where the first list has come to its end and the second one has not
end-differs : {X A : Type 0} (lay : X → List A) (count : X → ℕ) (one other : List X) (left right : Place) → ((x : X) → count x ≡ length (lay x)) → AreBeside lay count one other left right → length one ≤ left.item → right.item < length other → flat_map lay one ≢ flat_map lay other
end-differs lay count one other left right counted beside le lt e =
    rest-there lay count other right counted beside.there lt (sym (beside.together.onward e) ∙ rest-none lay one left le)

-- where both have
ends-same : {X A : Type 0} (lay : X → List A) (count : X → ℕ) (one other : List X) (left right : Place) → AreBeside lay count one other left right → length one ≤ left.item → right.item ≡ length other → flat_map lay one ≡ flat_map lay other
ends-same lay count one other left right beside le at = beside.together.back (rest-none lay one left le ∙ sym (rest-none lay other right (omega (arith, at))))

-- ---- what the loops ask

pub beside-first : {X A : Type 0} (lay : X → List A) (count : X → ℕ) (one other : List X) (left right : Place) → All (λ x. 1 ≤ count x) one → All (λ x. 1 ≤ count x) other → left.item ≡ 0 → left.within ≡ 0 → right.item ≡ 0 → right.within ≡ 0
    → AreBeside lay count one other left right
beside-first lay count one other left right filled also i w j v = record {
  together = together-first lay one other left right i w j v;
  here = place-first count one left filled i w;
  there = place-first count other right also j v;
}

-- one step: so many elements of an item of each
pub record IsStep {X A : Type 0} (lay : X → List A) (count : X → ℕ) (one other : List X) (left right : Place) (here there : X) (n : ℕ) : Type 0 where
  pub counted : (x : X) → count x ≡ length (lay x)
  pub beside : AreBeside lay count one other left right
  pub in_one : left.item < length one
  pub in_other : right.item < length other
  pub at_one : here ≡ get_or one left.item here
  pub at_other : there ≡ get_or other right.item there
  pub fits_one : left.within + n ≤ count here
  pub fits_other : right.within + n ≤ count there

on : {X A : Type 0} (lay : X → List A) (count : X → ℕ) (items : List X) (place next : Place) (item : X) (n : ℕ) → ((x : X) → count x ≡ length (lay x)) → place.item < length items → item ≡ get_or items place.item item → place.within + n ≤ count item
    → IsBehind place n (count item) next → rest lay items place ≡ take n (drop place.within (lay item)) ++ rest lay items next
on lay count items place next item n counted lt at le behind =
    rest-on lay items place next item n lt at (omega (arith, le, counted item)) (subst (λ (long : ℕ). IsBehind place n long next) (counted item) behind)

pub beside-on : {X A : Type 0} (lay : X → List A) (count : X → ℕ) (one other : List X) (left right next further : Place) (here there : X) (n : ℕ) → IsStep lay count one other left right here there n → All (λ x. 1 ≤ count x) one → All (λ x. 1 ≤ count x) other
    → take n (drop left.within (lay here)) ≡ take n (drop right.within (lay there)) → IsBehind left n (count here) next → IsBehind right n (count there) further → AreBeside lay count one other next further
beside-on lay count one other left right next further here there n step filled also same behind beyond = record {
  together = together-on lay one other left right next further (take n (drop left.within (lay here))) (take n (drop right.within (lay there))) step.beside.together
      (on lay count one left next here n step.counted step.in_one step.at_one step.fits_one behind) (on lay count other right further there n step.counted step.in_other step.at_other step.fits_other beyond) same;
  here = place-on count one left next here n filled step.in_one step.at_one step.fits_one behind;
  there = place-on count other right further there n also step.in_other step.at_other step.fits_other beyond;
}

-- a place that is so many elements further on
ahead : (place : Place) (n long : ℕ) → place.within + n ≤ long → (next : Place) × IsBehind place n long next
ahead place n long le = elim (cases_lt (place.within + n) long) [
  | inl lt ↦ (record { item = place.item; within = place.within + n }, record { stays = λ _. (refl, refl); passes = λ ge. absurd (omega (arith, lt, ge)) })
  | inr ge ↦ (record { item = place.item + 1; within = 0 }, record { stays = λ lt. absurd (omega (arith, lt, ge)); passes = λ _. (refl, refl) })
]

part-long : {A : Type 0} (xs : List A) (k n : ℕ) → k + n ≤ length xs → length (take n (drop k xs)) ≡ n
part-long xs k n le = length-take-le n (drop k xs) (omega (arith, length-drop k xs, le))

pub beside-differ : {X A : Type 0} (lay : X → List A) (count : X → ℕ) (one other : List X) (left right : Place) (here there : X) (n : ℕ) → IsStep lay count one other left right here there n → take n (drop left.within (lay here)) ≢ take n (drop right.within (lay there)) → flat_map lay one ≢ flat_map lay other
beside-differ lay count one other left right here there n step differ =
    let to = ahead left n (count here) step.fits_one in
    let beyond = ahead right n (count there) step.fits_other in
    let fits = step.fits_one in
    let also = step.fits_other in
    together-differ lay one other left right to.0 beyond.0 (take n (drop left.within (lay here))) (take n (drop right.within (lay there))) step.beside.together
    (on lay count one left to.0 here n step.counted step.in_one step.at_one step.fits_one to.1) (on lay count other right beyond.0 there n step.counted step.in_other step.at_other step.fits_other beyond.1)
    (part-long (lay here) left.within n (omega (arith, fits, step.counted here)) ∙ sym (part-long (lay there) right.within n (omega (arith, also, step.counted there)))) differ

-- where the second list has come to its end and the first one has not
pub other-ended : {X A : Type 0} (lay : X → List A) (count : X → ℕ) (one other : List X) (left right : Place) → ((x : X) → count x ≡ length (lay x)) → AreBeside lay count one other left right → left.item < length one → right.item ≡ length other → IsTrue false ↔ flat_map lay one ≡ flat_map lay other
other-ended lay count one other left right counted beside lt at = (
  λ e. absurd (false≢true e),
  λ e. absurd (rest-there lay count one left counted beside.here lt (beside.together.onward e ∙ rest-none lay other right (omega (arith, at)))),
)

pub parts-differ : {X A : Type 0} (lay : X → List A) (count : X → ℕ) (one other : List X) (left right : Place) (here there : X) (n : ℕ) → IsStep lay count one other left right here there n → (take n (drop left.within (lay here)) ≡ take n (drop right.within (lay there)) → ⊥)
    → IsTrue false ↔ flat_map lay one ≡ flat_map lay other
parts-differ lay count one other left right here there n step differ = (λ e. absurd (false≢true e), λ e. absurd (beside-differ lay count one other left right here there n step differ e))

pub both-ended : {X A : Type 0} (lay : X → List A) (count : X → ℕ) (one other : List X) (left right : Place) → ((x : X) → count x ≡ length (lay x)) → AreBeside lay count one other left right → length one ≤ left.item → IsTrue (nat_eq right.item (length other)) ↔ flat_map lay one ≡ flat_map lay other
both-ended lay count one other left right counted beside le = (
  λ e. ends-same lay count one other left right beside le (eqb-true right.item (length other) e),
  λ e. elim (cases_lt right.item (length other)) [
    | inl lt ↦ absurd (end-differs lay count one other left right counted beside le lt e)
    | inr ge ↦ let up_to = beside.there.up_to in eq-eqb right.item (length other) (omega (arith, ge, up_to))
  ],
)

-- as many elements as the item that ends first has left
pub step-least : {X A : Type 0} (lay : X → List A) (count : X → ℕ) (one other : List X) (left right : Place) (here there : X) (n : ℕ) → ((x : X) → count x ≡ length (lay x)) → AreBeside lay count one other left right → left.item < length one → (right.item ≡ length other → ⊥)
    → here ≡ get_or one left.item here → there ≡ get_or other right.item there → n ≡ min (count here - left.within) (count there - right.within) → IsStep lay count one other left right here there n
step-least lay count one other left right here there n counted beside lt differ at also is =
    let up_to = beside.there.up_to in
    let less : right.item < length other = omega (arith, up_to, differ) in
    let inside = beside.here.inside here lt at in
    let within = beside.there.inside there less also in
    record {
      counted = counted;
      beside = beside;
      in_one = lt;
      in_other = less;
      at_one = at;
      at_other = also;
      fits_one = omega (arith, inside, is);
      fits_other = omega (arith, within, is);
    }

-- one element
pub step-one : {X A : Type 0} (lay : X → List A) (count : X → ℕ) (one other : List X) (left right : Place) (here there : X) → ((x : X) → count x ≡ length (lay x)) → AreBeside lay count one other left right → left.item < length one → (right.item ≡ length other → ⊥)
    → here ≡ get_or one left.item here → there ≡ get_or other right.item there → IsStep lay count one other left right here there 1
step-one lay count one other left right here there counted beside lt differ at also =
    let up_to = beside.there.up_to in
    let less : right.item < length other = omega (arith, up_to, differ) in
    let inside = beside.here.inside here lt at in
    let within = beside.there.inside there less also in
    record {
      counted = counted;
      beside = beside;
      in_one = lt;
      in_other = less;
      at_one = at;
      at_other = also;
      fits_one = omega (arith, inside);
      fits_other = omega (arith, within);
    }
