-- Numbers of contents.
use Rattle.std.proofs.Common.{◌≡◌, ℕ, suc, ◌+◌, ◌*◌, ◌<◌, ◌≤◌, ◌∙◌, ◌++◌, ◌∷◌, [], Bool, List, length, take, map, true, false, ap, sym, refl, subst, cond, arith, All, get_or, Some, None}
use Rattle.std.specs.Prelude.{Option, if◌then◌else◌}
use Rattle.std.specs.Option.{unwrap_or}
use Rattle.std.specs.BTreeMap.{BTreeMap, Updates, get, btree_map_len}
use Rattle.std.specs.Ordering.{nat_cmp}
use Rattle.std.specs.Cmp.Lexicographic.{slice_cmp, texts_ties, bytes_decides}
use Rattle.std.proofs.lemmas.Bool.{true≢false}
use Rattle.std.proofs.lemmas.List.{take_all, take_more, map-append}
use Rattle.std.proofs.lemmas.List.Elements.{All-more, All-weaker, All-nil}
use Rattle.world_rules.specs.World.{is_same}
use Rattle.poom_compare.specs.declared.placing.Placed.{Placed}
use Rattle.poom_compare.specs.declared.stretch.Stretch.{Stretch}
use Rattle.poom_compare.specs.Placed.{AreNumbers, KeepsNumbers, HasNumber, AreStretchesOf, number_in, stretch_of}

abbrev Numbers : Type 0
Numbers = BTreeMap (List ℕ) ℕ

-- what an update of one content leaves
put_number : (old new : Numbers) (document : List ℕ) (next : ℕ) → Updates (slice_cmp nat_cmp) old new document (Some next) → (other : List ℕ) → number_in new other ≡ (if is_same document other then next else number_in old other)
put_number old new document next updates other =
    ap (λ (o : Option ℕ). unwrap_or o 0) (updates.0 other) ∙ (ap (λ (b : Bool). unwrap_or (cond b (Some next) (get (slice_cmp nat_cmp) old other)) 0) (sym (texts_ties document other)) ∙ by_case (is_same document other))
  where
    by_case : (b : Bool) → unwrap_or (cond b (Some next) (get (slice_cmp nat_cmp) old other)) 0 ≡ (if b then next else number_in old other)
    by_case true = refl
    by_case false = refl

same_document : (document other : List ℕ) → is_same document other ≡ true → document ≡ other
same_document document other e = (bytes_decides document other).0 e

module _ (old new : Numbers) (document : List ℕ) (next : ℕ) (are : AreNumbers old) (none : number_in old document ≡ 0) (is_next : next ≡ btree_map_len old + 1) (updates : Updates (slice_cmp nat_cmp) old new document (Some next)) where
  -- each content has its old number, or it is the one that gets the next
  by_content : (P : ℕ → Type 0) (other : List ℕ) → (document ≡ other → P next) → (is_same document other ≡ false → P (number_in old other)) → P (number_in new other)
  by_content P other yes' others = subst P (sym (put_number old new document next updates other)) (go (is_same document other) refl)
    where
      go : (b : Bool) → is_same document other ≡ b → P (if b then next else number_in old other)
      go true e = yes' (same_document document other e)
      go false e = others e

  pub next_here : number_in new document ≡ next
  next_here = by_content (λ n. n ≡ next) document (λ e. refl) (λ e. absurd (true≢false (sym ((bytes_decides document document).1 refl) ∙ e)))

  pub numbers_keep : KeepsNumbers old new
  numbers_keep other some = by_content (λ n. n ≡ number_in old other) other (λ e. let is : number_in old other ≡ 0 = ap (number_in old) (sym e) ∙ none in absurd (omega arith)) (λ e. refl)

  pub numbers_are : btree_map_len new ≡ btree_map_len old + 1 → btree_map_len old < 1073741823 → AreNumbers new
  numbers_are long room = record {
    few = omega arith;
    upto = λ other. by_content (λ n. n ≤ btree_map_len new) other (λ e. omega arith) (λ e. let le = are.upto other in omega arith);
    none = nothing;
    apart = apart';
  }
    where
      nothing : (other : List ℕ) → number_in new other ≡ 0 → get (slice_cmp nat_cmp) new other ≡ None
      nothing other zero' = go (is_same document other) refl
        where
          go : (b : Bool) → is_same document other ≡ b → get (slice_cmp nat_cmp) new other ≡ None
          go true e =
              let here' : number_in new other ≡ next = put_number old new document next updates other ∙ ap (λ (t : Bool). if t then next else number_in old other) e in
              absurd (omega arith)
          go false e =
              updates.2 other (sym (texts_ties document other) ∙ e) ∙ are.none other (sym (put_number old new document next updates other ∙ ap (λ (t : Bool). if t then next else number_in old other) e) ∙ zero')

      apart' : (a b : List ℕ) → 1 ≤ number_in new a → number_in new a ≡ number_in new b → a ≡ b
      apart' a b some same = go (is_same document a) (is_same document b) refl refl
        where
          at : (t : Bool) (other : List ℕ) → is_same document other ≡ t → number_in new other ≡ (if t then next else number_in old other)
          at t other e = put_number old new document next updates other ∙ ap (λ (u : Bool). if u then next else number_in old other) e

          go : (s t : Bool) → is_same document a ≡ s → is_same document b ≡ t → a ≡ b
          go true true e f = sym (same_document document a e) ∙ same_document document b f
          go true false e f =
              let x : number_in new a ≡ next = at true a e in
              let y : number_in new b ≡ number_in old b = at false b f in
              let le = are.upto b in
              absurd (omega arith)
          go false true e f =
              let x : number_in new a ≡ number_in old a = at false a e in
              let y : number_in new b ≡ next = at true b f in
              let le = are.upto a in
              absurd (omega arith)
          go false false e f =
              let x : number_in new a ≡ number_in old a = at false a e in
              let y : number_in new b ≡ number_in old b = at false b f in
              are.apart a b (omega arith) (omega arith)

-- a number that is there already
pub found_number : (numbers : Numbers) (document : List ℕ) → AreNumbers numbers → (number_in numbers document ≡ 0 → ⊥) → HasNumber numbers document
found_number numbers document are some =
    let le = are.upto document in
    let few = are.few in
    record { from_one = omega arith; below = omega arith }

pub same_numbers : (numbers : Numbers) → KeepsNumbers numbers numbers
same_numbers numbers document some = refl

-- ---- stretches

pub has_still : (old new : Numbers) (document : List ℕ) → KeepsNumbers old new → HasNumber old document → HasNumber new document
has_still old new document keeps has =
    let is = keeps document has.from_one in
    let one = has.from_one in
    let below = has.below in
    record { from_one = omega arith; below = omega arith }

stretches_still : (old new : Numbers) (all : List Placed) → KeepsNumbers old new → All (λ (p : Placed). HasNumber old p.document) all → map (stretch_of old) all ≡ map (stretch_of new) all
stretches_still old new [] keeps has = refl
stretches_still old new (p ∷ ps) keeps has =
    let is : number_in new p.document ≡ number_in old p.document = keeps p.document (has 0 p (omega arith)).from_one in
    let rest = stretches_still old new ps keeps (λ k d lt. has (suc k) d (omega arith)) in
    λ i. record { at = p.at; first = sym is i * 4294967296 + p.first; length = p.length } ∷ rest i

pub still_are : (old new : Numbers) (all : List Placed) (stretches : List Stretch) → KeepsNumbers old new → AreStretchesOf old all stretches → AreStretchesOf new all stretches
still_are old new all stretches keeps are = record {
  is = are.is ∙ stretches_still old new all keeps are.numbered;
  numbered = All-weaker (λ (p : Placed). HasNumber old p.document) (λ (p : Placed). HasNumber new p.document) (λ p has. has_still old new p.document keeps has) all are.numbered;
}

pub stretches_more : (old new : Numbers) (all : List Placed) (k n : ℕ) (p : Placed) (now made : List Stretch) (s : Stretch) → KeepsNumbers old new → AreStretchesOf old (take k all) now → k < length all → p ≡ get_or all k p → HasNumber new p.document
    → s ≡ stretch_of new p → made ≡ now ++ s ∷ [] → n ≡ k + 1 → AreStretchesOf new (take n all) made
stretches_more old new all k n p now made s keeps are lt at has is pushed next =
    let still = still_are old new (take k all) now keeps are in
    let taken : take n all ≡ take k all ++ p ∷ [] = ap (λ (m : ℕ). take m all) next ∙ (take_more all k p lt ∙ ap (λ (q : Placed). take k all ++ q ∷ []) (sym at)) in
    record {
      is = pushed ∙ (ap (λ (ss : List Stretch). ss ++ s ∷ []) still.is ∙ (ap (λ (t : Stretch). map (stretch_of new) (take k all) ++ t ∷ []) is ∙ (sym (map-append (stretch_of new) (take k all) (p ∷ [])) ∙ ap (map (stretch_of new)) (sym taken))));
      numbered = subst (λ (m : ℕ). All (λ (q : Placed). HasNumber new q.document) (take m all)) (sym next) (All-more (λ (q : Placed). HasNumber new q.document) all k p lt still.numbered (subst (λ (q : Placed). HasNumber new q.document) at has));
    }

pub stretches_none : (numbers : Numbers) → AreStretchesOf numbers [] []
stretches_none numbers = record { is = refl; numbered = All-nil (λ (p : Placed). HasNumber numbers p.document) }

pub stretches_all : (numbers : Numbers) (all : List Placed) (k : ℕ) (made : List Stretch) → length all ≤ k → AreStretchesOf numbers (take k all) made → AreStretchesOf numbers all made
stretches_all numbers all k made le are = subst (λ (ps : List Placed). AreStretchesOf numbers ps made) (take_all k all le) are

pub keeps_both : (a b d : Numbers) → KeepsNumbers a b → KeepsNumbers b d → KeepsNumbers a d
keeps_both a b d keeps keeps' document some =
    let is = keeps document some in
    keeps' document (omega arith) ∙ is
