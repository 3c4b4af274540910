-- Each step keeps the rule of the lock.
use Rattle.std.proofs.Common.{◌≡◌, ◌≢◌, ◌⊎◌, ℕ, zero, suc, ◌≤◌, Bool, true, false, true≢false, eqb, Option, Some, None, List, [], ◌∷◌, ◌++◌, length, drop, get_or, set, sym, refl, ap, ◌∙◌, subst, inl, inr, ⊎_elim, arith, append-nil, length-set, get_or-set_same, get_or-set_other, eq-eqb, ne_eqb}
use mathlib.Core.Logic.{dite}
use mathlib.Core.Option.{some, none, some-injective, some-ne-none}
use mathlib.Core.Option as maybe
use native.Mathlib.Decide.{ℕ_discrete}
use lib.ListN.{get_elem?}
use prog.Atomic.{either}
use Rattle.std.proofs.lemmas.Bool.{cases_Bool}
use Rattle.std.proofs.lemmas.Option.{none-some}
use Rattle.std.proofs.lemmas.List.{set-get_or}
use Rattle.std.proofs.lemmas.List.Elements.{All-nil}
use Rattle.std.proofs.Math.Seq.{drop-append_seam}
use Rattle.atomic_table.specs.Table.{State, Me, step, keeps, takes, gives, put_back, stepped, opening, Allows, Splits, Joins}
use Rattle.atomic_table.proofs.Lists.{at_set, set_here, set_else, set_again, at_longer, at_snoc}
use Rattle.history_lock.specs.declared.view.View.{View}
use Rattle.history_lock.specs.declared.view.Held.{Held}
use Rattle.history_lock.specs.Histories.{entries_of, Extends, Adds}
use Rattle.history_lock.specs.Passes.{same_number, times_ended, AreApart, Fits, newcomer, finding, looking, all_ended, taking_in}
use Rattle.history_lock.specs.inside.Rule.{total, times_known, EachView, IsKept}
use Rattle.history_lock.specs.inside.Steps.{hold, holding, closing, released, successor, spent_view, later_number, counted, IsIdle, HasPlayed, HasCounted, acquired, closed_off, recounted, freed, looked}
use Rattle.history_lock.proofs.Counting.{total_set, total_snoc, total_at, total_two, total_none, same_number-is, same_number-other, times_ended-append, times_all_ended, times_known-live, times_known-spent}
use Rattle.history_lock.proofs.Growing.{fits_later, fits_own, none_known, fits_same, later_number-is, fits_looking, fits_successor, fits_taking_in}

module _ {A : Type 0} where
  abbrev value_or : A → Option A → A
  value_or d (Some x) = x
  value_or d None = d

  pub same_some : (a b : A) → Some a ≡ Some b → a ≡ b
  same_some a b e = ap (value_or a) e

  none_or_some : (x : Option A) → (x ≡ None) ⊎ ((a : A) × (x ≡ Some a))
  none_or_some (Some a) = inr (a, refl)
  none_or_some None = inl refl

  none_from : (x : Option A) → ((a : A) → x ≡ Some a → ⊥) → x ≡ None
  none_from (Some a) never = absurd (never a refl)
  none_from None never = refl

  set_at : (l : List A) (i : ℕ) (a b : A) → get_elem? l i ≡ some a → get_elem? (set l i b) i ≡ some b
  set_at [] i a b e = absurd (some-ne-none a (sym e))
  set_at (x ∷ xs) zero a b e = refl
  set_at (x ∷ xs) (suc i) a b e = set_at xs i a b e

  set_swap : (l : List A) (i j : ℕ) (a b : A) → j ≢ i → set (set l i a) j b ≡ set (set l j b) i a
  set_swap [] i j a b ne = refl
  set_swap (x ∷ xs) zero zero a b ne = absurd (ne refl)
  set_swap (x ∷ xs) zero (suc j) a b ne = refl
  set_swap (x ∷ xs) (suc i) zero a b ne = refl
  set_swap (x ∷ xs) (suc i) (suc j) a b ne = ap (λ l. x ∷ l) (set_swap xs i j a b (λ e. ne (ap suc e)))

module _ {E : Type 0} where
  each_set : (F : ℕ → View E → Type 0) (views : List (View E)) (id : ℕ) (w : View E) → F id w → ((j : ℕ) (u : View E) → j ≢ id → get_elem? views j ≡ some u → F j u) → EachView (set views id w) F
  each_set F views id w mine others j u e = ⊎_elim (λ (t : (j ≡ id) × (w ≡ u)). subst (λ (x : ℕ × View E). F x.0 x.1) (λ i. (sym t.0 i, t.1 i)) mine)
      (λ (t : (j ≢ id) × (get_elem? views j ≡ some u)). others j u t.0 t.1) (at_set views id j w u e)

  each_snoc : (F : View E → Type 0) (views : List (View E)) (w : View E) → F w → EachView views (λ _ u. F u) → EachView (views ++ w ∷ []) (λ _ u. F u)
  each_snoc F views w mine others j u e = ⊎_elim (λ (t : get_elem? views j ≡ some u). others j u t) (λ (t : w ≡ u). subst F t mine) (at_snoc views w u j e)

  only : (F : ℕ → View E → Type 0) (v : View E) → F 0 v → EachView (v ∷ []) F
  only F v mine zero u e = subst (F 0) (some-injective v u e) mine
  only F v mine (suc j) u e = absurd (some-ne-none u (sym e))

module _ {T E : Type 0} (history_of : T → List E) (owner : E → ℕ) (fixed_of : T → List ℕ) where
  abbrev V : Type 0
  V = View E

  abbrev St : Type 0
  St = State (Option T) V

  abbrev M : Type 0
  M = Me (Option T) V

  abbrev Rule : St → Type 0
  Rule = IsKept history_of owner fixed_of

  abbrev table : List ℕ → List (maybe.Option (Option T)) → List V → St
  table words homes views = record { words = words; homes = homes; views = views }

  -- the first state
  pub starts : (kept : T) (count : ℕ) → count ≡ length (history_of kept) → Rule (opening (0 ∷ count ∷ []) (Some kept ∷ []) (newcomer (history_of kept) (fixed_of kept)))
  starts kept count is = let v : V = newcomer (history_of kept) (fixed_of kept) in record {
    history = history_of kept;
    numbers = fixed_of kept;
    holder = 0;
    words = refl;
    slots = refl;
    count = is;
    free = λ _. only (λ _ u. u.held ≡ None) v refl;
    taken = λ nz. absurd (nz refl);
    held = only (λ seat u. (h : Held E) → u.held ≡ Some h → (seat ≡ 0) × (h.history ≡ history_of kept)) v (λ h e. absurd (none-some h e));
    out = only (λ _ u. u.out ≡ true → (u.held ≢ None) × (get_elem? (some (Some kept) ∷ []) 0 ≡ some none)) v (λ e. absurd (true≢false (sym e)));
    home = λ _. (kept, refl);
    value = λ y e. let same : y ≡ kept = sym (same_some kept y (some-injective (Some kept) (Some y) (some-injective (some (Some kept)) (some (Some y)) e))) in (ap history_of same, ap fixed_of same);
    each = only (λ _ u. u.spent ≡ false → Fits owner (history_of kept) (fixed_of kept) u) v (λ _. record {
      fixed = refl;
      seen = ([], sym (append-nil (history_of kept)), refl, refl);
      heard = (history_of kept, refl);
      unnumbered = λ _. refl;
      numbered = λ nz. absurd (nz refl);
      ended = All-nil (λ (pair : ℕ × List E). (pair.0 ≢ 0) × (pair.1 ≡ entries_of owner pair.0 (history_of kept)) × (pair.1 ≢ []));
    });
    apart = λ n nz. let none = same_number-other 0 n (λ e. nz (sym e)) in omega arith;
  }

  pub starts_from : (kept about : T) (count : ℕ) (items : List (Option T)) → items ≡ Some kept ∷ [] → about ≡ kept → count ≡ length (history_of kept)
      → Rule (opening (0 ∷ count ∷ []) items (newcomer (history_of about) (fixed_of about)))
  starts_from kept about count items one same is = subst (λ (z : List (Option T) × T). Rule (opening (0 ∷ count ∷ []) z.0 (newcomer (history_of z.1) (fixed_of z.1)))) (λ i. (sym one i, sym same i)) (starts kept count is)

  -- nobody holds the lock but the holder
  others_free : (s : St) (r : Rule s) (id : ℕ) (v : V) (h : Held E) → get_elem? s.views id ≡ some v → v.held ≡ Some h → (j : ℕ) (u : V) → j ≢ id → get_elem? s.views j ≡ some u → u.held ≡ None
  others_free s r id v h at has j u other e = none_from u.held (λ g held. other ((r.held j u e g held).0 ∙ sym ((r.held id v at h has).0)))

  -- one view changes, which holds as much as before. The history and the fixed numbers are as they were
  revised_same : (s : St) (r : Rule s) (id : ℕ) (v w : V) → get_elem? s.views id ≡ some v → w.held ≡ v.held → w.out ≡ v.out → (w.spent ≡ false → Fits owner r.history r.numbers w)
      → ((n : ℕ) → n ≢ 0 → total (times_known n) (set s.views id w) ≤ 1)
      → (k : Rule (table s.words s.homes (set s.views id w))) × (k.history ≡ r.history) × (k.numbers ≡ r.numbers)
  revised_same s r id v w at same_held same_out fits apart = (
    record {
      history = r.history;
      numbers = r.numbers;
      holder = r.holder;
      words = r.words;
      slots = r.slots;
      count = r.count;
      free = λ z. each_set (λ _ u. u.held ≡ None) s.views id w (same_held ∙ r.free z id v at) (λ j u _ e. r.free z j u e);
      taken = λ nz. let t = r.taken nz in (
        t.0,
        dite (ℕ_discrete r.holder id)
            (λ here. let is : t.1.0 ≡ v = some-injective t.1.0 v (sym t.1.2 ∙ (ap (get_elem? s.views) here ∙ at)) in
            (w, t.1.1, ap (get_elem? (set s.views id w)) here ∙ set_at s.views id v w at, same_held ∙ (ap (λ (u : V). u.held) (sym is) ∙ t.1.3)))
            (λ other. (t.1.0, t.1.1, set_else s.views id r.holder w other ∙ t.1.2, t.1.3)),
      );
      held = each_set (λ seat u. (h : Held E) → u.held ≡ Some h → (seat ≡ r.holder) × (h.history ≡ r.history)) s.views id w (λ h e. r.held id v at h (sym same_held ∙ e)) (λ j u _ e. r.held j u e);
      out = each_set (λ _ u. u.out ≡ true → (u.held ≢ None) × (get_elem? s.homes 0 ≡ some none)) s.views id w (λ o. let t = r.out id v at (sym same_out ∙ o) in ((λ z. t.0 (sym same_held ∙ z)), t.1)) (λ j u _ e. r.out j u e);
      home = λ all. r.home (λ j u e. dite (ℕ_discrete j id)
          (λ here. let is : v ≡ u = some-injective v u (sym at ∙ (ap (get_elem? s.views) (sym here) ∙ e)) in ap (λ (x : V). x.out) (sym is) ∙ (sym same_out ∙ all id w (set_at s.views id v w at)))
          (λ other. all j u (set_else s.views id j w other ∙ e)));
      value = r.value;
      each = each_set (λ _ u. u.spent ≡ false → Fits owner r.history r.numbers u) s.views id w fits (λ j u _ e. r.each j u e);
      apart = apart;
    },
    refl,
    refl,
  )

  revised : (s : St) (r : Rule s) (id : ℕ) (v w : V) → get_elem? s.views id ≡ some v → w.held ≡ v.held → w.out ≡ v.out → (w.spent ≡ false → Fits owner r.history r.numbers w)
      → ((n : ℕ) → n ≢ 0 → total (times_known n) (set s.views id w) ≤ 1) → Rule (table s.words s.homes (set s.views id w))
  revised s r id v w at same_held same_out fits apart = (revised_same s r id v w at same_held same_out fits apart).0

  -- numbers stand as often as before where a view keeps its own
  as_often : (s : St) (r : Rule s) (id : ℕ) (v w : V) → get_elem? s.views id ≡ some v → ((n : ℕ) → times_known n w ≡ times_known n v) → (n : ℕ) → n ≢ 0 → total (times_known n) (set s.views id w) ≤ 1
  as_often s r id v w at same n nz = let t = total_set (times_known n) s.views id v w at in let p = r.apart n nz in let k = same n in omega arith

  fits_found : (history : List E) (numbers : List ℕ) (v : V) (words : List ℕ) → Fits owner history numbers v → Fits owner history numbers (finding v words)
  fits_found history numbers v words f = record { fixed = f.fixed; seen = f.seen; heard = f.heard; unnumbered = f.unnumbered; numbered = f.numbered; ended = f.ended }

  fits_holding : (history : List E) (numbers : List ℕ) (v : V) (held : Option (Held E)) (out : Bool) → Fits owner history numbers v → Fits owner history numbers (record v { held = held; out = out })
  fits_holding history numbers v held out f = record { fixed = f.fixed; seen = f.seen; heard = f.heard; unnumbered = f.unnumbered; numbered = f.numbered; ended = f.ended }

  -- the word keeps what was found
  word_again : (ws : List ℕ) (i : ℕ) → set ws i (get_or ws i 0) ≡ ws
  word_again ws i = set-get_or ws i 0

  pub forks : (id : ℕ) (v : V) → v.spent ≡ false → Splits Rule id v v (successor v)
  forks id v live s r at = let w : V = successor v in subst (λ (l : List V). Rule (table s.words s.homes (l ++ w ∷ []))) (sym (set_again s.views id v at)) (record {
    history = r.history;
    numbers = r.numbers;
    holder = r.holder;
    words = r.words;
    slots = r.slots;
    count = r.count;
    free = λ z. each_snoc (λ u. u.held ≡ None) s.views w refl (r.free z);
    taken = λ nz. let t = r.taken nz in (t.0, (t.1.0, t.1.1, at_longer s.views (w ∷ []) r.holder t.1.0 t.1.2, t.1.3));
    held = λ j u e h has. ⊎_elim (λ (k : get_elem? s.views j ≡ some u). r.held j u k h has) (λ (k : w ≡ u). absurd (none-some h (ap (λ (x : V). x.held) k ∙ has))) (at_snoc s.views w u j e);
    out = each_snoc (λ u. u.out ≡ true → (u.held ≢ None) × (get_elem? s.homes 0 ≡ some none)) s.views w (λ o. absurd (true≢false (sym o))) r.out;
    home = λ all. r.home (λ j u e. all j u (at_longer s.views (w ∷ []) j u e));
    value = r.value;
    each = each_snoc (λ u. u.spent ≡ false → Fits owner r.history r.numbers u) s.views w (λ _. fits_successor owner r.history r.numbers v (r.each id v at live)) r.each;
    apart = λ n nz. let t = total_snoc (times_known n) s.views w in let p = r.apart n nz in let k = same_number-other 0 n (λ e. nz (sym e)) in let is = times_known-live n w refl in omega arith;
  })

  pub merges : (id other : ℕ) (v w : V) → v.spent ≡ false → w.spent ≡ false → w.held ≡ None → w.out ≡ false → Joins Rule id v other w (taking_in v w) spent_view
  merges id other v w live live_other free_other in_other s r at apart at_other =
      let both : V = taking_in v w in
      let there : get_elem? s.views other ≡ some w = sym (set_else s.views id other both apart) ∙ at_other in
      let mid : St = table s.words s.homes (set s.views other spent_view) in
      let again = revised_same s r other w spent_view there (sym free_other) (sym in_other) (λ gone. absurd (true≢false gone))
      (λ n nz. let t = total_set (times_known n) s.views other w spent_view there in let p = r.apart n nz in let left : V = spent_view in let gone = times_known-spent n left refl in omega arith) in
      let kept : Rule mid = again.0 in
      let both_fit : Fits owner kept.history kept.numbers both = subst (λ (k : List E × List ℕ). Fits owner k.0 k.1 both) (λ i. (sym again.1 i, sym again.2 i)) (fits_taking_in owner r.history r.numbers v w (r.each id v at live) (r.each other w there live_other)) in
      let here : get_elem? mid.views id ≡ some v = set_else s.views other id spent_view (λ e. apart (sym e)) ∙ at in
      let done : Rule (table s.words s.homes (set mid.views id both)) = revised mid kept id v both here refl refl (λ _. both_fit)
      (λ n nz.
      let t = total_set (times_known n) s.views other w spent_view there in
      let t' = total_set (times_known n) mid.views id v both here in
      let left : V = spent_view in let gone = times_known-spent n left refl in
      let a = times_known-live n v live in let b = times_known-live n w live_other in let c = times_known-live n both live in
      let more = times_ended-append n v.ended (all_ended w) in let all = times_all_ended n w nz in
      let p = r.apart n nz in omega arith) in
      subst (λ (l : List V). Rule (table s.words s.homes l)) (sym (set_swap s.views id other both spent_view apart)) done

  pub looks : (slots id : ℕ) (me : M) → me.0.spent ≡ false → Allows Rule slots id me 1 (λ x. x) (looked owner (step slots 1 0 0 none) me)
  looks slots id me live s r _ at _ = let v : V = me.0 in let w : V = looking v r.history in let f = r.each id v at live in (
    w,
    keeps,
    tt,
    subst (λ (ws : List ℕ). Rule (table ws s.homes (set s.views id w))) (sym (word_again s.words 1))
        (revised s r id v w at refl refl (λ _. fits_looking owner r.history r.numbers v f) (as_often s r id v w at (λ n. refl))),
    record { history = r.history; extends = f.seen; heard = f.heard; count = r.count; seat = refl },
  )

  -- the lock was held, and the exchange changed nothing
  missed : (s : St) (r : Rule s) (id : ℕ) (v : V) → get_elem? s.views id ≡ some v → (n : ℕ) → n ≡ get_or s.words 0 0 → Rule (table (set s.words 0 n) s.homes (set s.views id (finding v (1 ∷ []))))
  missed s r id v at n is = let w : V = finding v (1 ∷ []) in
      subst (λ (ws : List ℕ). Rule (table ws s.homes (set s.views id w))) (sym (ap (set s.words 0) is ∙ word_again s.words 0))
      (revised s r id v w at refl refl (λ live. fits_found r.history r.numbers v (1 ∷ []) (r.each id v at live)) (as_often s r id v w at (λ n. refl)))

  -- where the lock is free no value is out, so one is at home
  at_home : (s : St) (r : Rule s) → get_or s.words 0 0 ≡ 0 → (kept : T) × (get_elem? s.homes 0 ≡ some (some (Some kept)))
  at_home s r free = r.home (λ j u e. ⊎_elim (λ (o : u.out ≡ true). absurd ((r.out j u e o).0 (r.free free j u e))) (λ (i : u.out ≡ false). i) (cases_Bool u.out))

  -- the lock goes from free to held by this seat, which has the slot from now on, or leaves it
  seized : (s : St) (r : Rule s) (id : ℕ) (v w : V) (h : Held E) (homes : List (maybe.Option (Option T))) → get_elem? s.views id ≡ some v → get_or s.words 0 0 ≡ 0 → w.held ≡ Some h → h.history ≡ r.history → length homes ≡ 1
      → (w.out ≡ true → get_elem? homes 0 ≡ some none)
      → (w.out ≡ false → homes ≡ s.homes)
      → ((kept : T) → get_elem? homes 0 ≡ some (some (Some kept)) → (history_of kept ≡ r.history) × (fixed_of kept ≡ r.numbers))
      → (w.spent ≡ false → Fits owner r.history r.numbers w) → ((n : ℕ) → times_known n w ≡ times_known n v) → Rule (table (set s.words 0 1) homes (set s.views id w))
  seized s r id v w h homes at free has is long away near value fits same =
      let one : get_or (set s.words 0 1) 0 0 ≡ 1 = get_or-set_same s.words 0 1 0 (let l = r.words in omega arith) in record {
        history = r.history;
        numbers = r.numbers;
        holder = id;
        words = length-set s.words 0 1 ∙ r.words;
        slots = long;
        count = get_or-set_other s.words 0 1 1 0 (λ e. omega arith) ∙ r.count;
        free = λ z. absurd (omega arith);
        taken = λ _. (one, (w, h, set_at s.views id v w at, has));
        held = each_set (λ seat u. (g : Held E) → u.held ≡ Some g → (seat ≡ id) × (g.history ≡ r.history)) s.views id w
            (λ g e. (refl, ap (λ (x : Held E). x.history) (same_some g h (sym e ∙ has)) ∙ is)) (λ j u _ e g held. absurd (none-some g (sym (r.free free j u e) ∙ held)));
        out = each_set (λ _ u. u.out ≡ true → (u.held ≢ None) × (get_elem? homes 0 ≡ some none)) s.views id w
            (λ o. ((λ z. none-some h (sym z ∙ has)), away o)) (λ j u _ e o. absurd ((r.out j u e o).0 (r.free free j u e)));
        home = λ all. let t = at_home s r free in (t.0, ap (λ (l : List (maybe.Option (Option T))). get_elem? l 0) (near (all id w (set_at s.views id v w at))) ∙ t.1);
        value = value;
        each = each_set (λ _ u. u.spent ≡ false → Fits owner r.history r.numbers u) s.views id w fits (λ j u _ e. r.each j u e);
        apart = as_often s r id v w at same;
      }

  pub acquires : (marks_of : T → List ℕ) (slots id : ℕ) (me : M) → IsIdle me → Allows Rule slots id me 0 (λ x. either (eqb x 0) 1 x) (acquired history_of owner fixed_of marks_of (step slots 0 0 1 none) me)
  acquires marks_of slots id me idle s r _ at _ = let x : ℕ = get_or s.words 0 0 in let v : V = me.0 in dite (ℕ_discrete x 0)
      (λ hit.
      let t = at_home s r hit in let kept : T = t.0 in let is = r.value kept t.1 in
      let f = r.each id v at idle.3 in
      let mid : V = finding v (0 ∷ []) in
      let w : V = holding mid (history_of kept) (marks_of kept) in
      let emptied : List (maybe.Option (Option T)) = set s.homes 0 none in
      let gone : get_elem? emptied 0 ≡ some none = set_here s.homes 0 none (let l = r.slots in omega arith) in (
        w,
        takes 0 (Some kept),
        t.1,
        subst (λ b. Rule (stepped s 0 (either b 1 x) id me.1 w (takes 0 (Some kept)))) (sym (eq-eqb x 0 hit))
            (seized s r id v w (hold (history_of kept) (marks_of kept)) emptied at hit refl is.0 (length-set s.homes 0 none ∙ r.slots) (λ _. gone) (λ i. absurd (true≢false i))
            (λ y e. absurd (some-ne-none (Some y) (sym (some-injective none (some (Some y)) (sym gone ∙ e)))))
            (λ _. fits_holding r.history r.numbers mid w.held true (fits_found r.history r.numbers v (0 ∷ []) f)) (λ n. refl)),
        (
          (λ _. record {
            kept = kept;
            extends = subst (λ (l : List E). Extends owner v.number v.seen l) (sym is.0) f.seen;
            fixed = is.1 ∙ sym f.fixed;
            seat = ap (λ (c : List (ℕ × Option T)). (w, (0, Some kept) ∷ c)) idle.0;
          }),
          λ not. absurd (not hit),
        ),
      ))
      (λ miss.
      let w : V = finding v (1 ∷ []) in (
        w,
        keeps,
        tt,
        missed s r id v at (either (eqb x 0) 1 x) (ap (λ b. either b 1 x) (ne_eqb x 0 miss)),
        ((λ hit. absurd (miss hit)), λ _. ap (λ (c : List (ℕ × Option T)). (w, c)) idle.0),
      ))

  pub closes : (marks_of : T → List ℕ) (slots id : ℕ) (me : M) → IsIdle me → Allows Rule slots id me 0 (λ x. either (eqb x 0) 1 x) (closed_off history_of owner fixed_of marks_of (step slots 0 0 1 none) me)
  closes marks_of slots id me idle s r _ at _ = let x : ℕ = get_or s.words 0 0 in let v : V = me.0 in dite (ℕ_discrete x 0)
      (λ hit.
      let f = r.each id v at idle.3 in
      let mid : V = finding v (0 ∷ []) in
      let w : V = closing mid r.history in (
        w,
        keeps,
        tt,
        subst (λ b. Rule (stepped s 0 (either b 1 x) id me.1 w keeps)) (sym (eq-eqb x 0 hit))
            (seized s r id v w (hold r.history []) s.homes at hit refl refl r.slots (λ o. absurd (true≢false (sym o))) (λ _. refl) r.value
            (λ _. fits_holding r.history r.numbers mid w.held false (fits_found r.history r.numbers v (0 ∷ []) f)) (λ n. refl)),
        ((λ _. (r.history, ap (λ (c : List (ℕ × Option T)). (w, c)) idle.0)), λ not. absurd (not hit)),
      ))
      (λ miss.
      let w : V = finding v (1 ∷ []) in (
        w,
        keeps,
        tt,
        missed s r id v at (either (eqb x 0) 1 x) (ap (λ b. either b 1 x) (ne_eqb x 0 miss)),
        ((λ hit. absurd (miss hit)), λ _. ap (λ (c : List (ℕ × Option T)). (w, c)) idle.0),
      ))

  -- what the holder has out is back in its slot, and the lock is free
  pub frees : (slots id : ℕ) (me : M) → HasCounted history_of fixed_of me → Allows Rule slots id me 0 (λ _. 0) (λ _. freed (step slots 0 0 0 none) me 0)
  frees slots id me c s r _ at _ =
      let v : V = me.0 in let w : V = released v in
      let f = r.each id v at c.live in
      let mine = r.held id v at c.before c.held in
      let inside = r.words in let one = r.slots in
      let homes : List (maybe.Option (Option T)) = set s.homes 0 (some (Some c.kept)) in
      let here : get_elem? homes 0 ≡ some (some (Some c.kept)) = set_here s.homes 0 (some (Some c.kept)) (omega arith) in
      let zero_now : get_or (set s.words 0 0) 0 0 ≡ 0 = get_or-set_same s.words 0 0 0 (omega arith) in
      let free : (j : ℕ) (u : V) → j ≢ id → get_elem? s.views j ≡ some u → u.held ≡ None = others_free s r id v c.before at c.held in
      let done : Rule (table (set s.words 0 0) homes (set s.views id w)) = record {
        history = r.history;
        numbers = r.numbers;
        holder = id;
        words = length-set s.words 0 0 ∙ r.words;
        slots = length-set s.homes 0 (some (Some c.kept)) ∙ r.slots;
        count = get_or-set_other s.words 0 1 0 0 (λ e. omega arith) ∙ r.count;
        free = λ _. each_set (λ _ u. u.held ≡ None) s.views id w refl free;
        taken = λ nz. absurd (nz zero_now);
        held = each_set (λ seat u. (h : Held E) → u.held ≡ Some h → (seat ≡ id) × (h.history ≡ r.history)) s.views id w
            (λ h e. absurd (none-some h e)) (λ j u other e h held. absurd (none-some h (sym (free j u other e) ∙ held)));
        out = each_set (λ _ u. u.out ≡ true → (u.held ≢ None) × (get_elem? homes 0 ≡ some none)) s.views id w
            (λ o. absurd (true≢false (sym o))) (λ j u other e o. absurd ((r.out j u e o).0 (free j u other e)));
        home = λ _. (c.kept, here);
        value = λ y e.
            let same : y ≡ c.kept = sym (same_some c.kept y (some-injective (Some c.kept) (Some y) (some-injective (some (Some c.kept)) (some (Some y)) (sym here ∙ e)))) in
            (ap history_of same ∙ (c.history ∙ mine.1), ap fixed_of same ∙ (c.fixed ∙ f.fixed));
        each = each_set (λ _ u. u.spent ≡ false → Fits owner r.history r.numbers u) s.views id w (λ _. fits_holding r.history r.numbers v None false f) (λ j u _ e. r.each j u e);
        apart = as_often s r id v w at (λ n. refl);
      } in
      (w, gives, tt, subst (λ (k : List (ℕ × Option T)). Rule (table (set s.words 0 0) (put_back s.homes k) (set s.views id w))) (sym c.carried) done, refl)

  -- numbers stand once at most where a play gives the holder its number
  apart_after : (s : St) (r : Rule s) (id : ℕ) (v w : V) (after : ℕ) → get_elem? s.views id ≡ some v → v.spent ≡ false → w.spent ≡ false → w.number ≡ after → w.ended ≡ v.ended
      → (v.number ≡ 0 → entries_of owner after r.history ≡ []) → (v.number ≢ 0 → after ≡ v.number) → (n : ℕ) → n ≢ 0 → total (times_known n) (set s.views id w) ≤ 1
  apart_after s r id v w after at live live' number ended new old n nz =
      let t = total_set (times_known n) s.views id v w at in let p = r.apart n nz in
      let a = times_known-live n v live in let b = times_known-live n w live' in
      let same : times_ended n w.ended ≡ times_ended n v.ended = ap (times_ended n) ended in
      let its : same_number w.number n ≡ same_number after n = ap (λ k. same_number k n) number in
      dite (ℕ_discrete v.number 0)
      (λ z. dite (ℕ_discrete after n)
      (λ is.
      let none : total (times_known n) s.views ≡ 0 = total_none (times_known n) s.views (λ j u e. none_known owner r.history r.numbers n nz (ap (λ k. entries_of owner k r.history) (sym is) ∙ new z) u (r.each j u e)) in
      let one = same_number-is after n is in
      let le = total_at (times_known n) s.views id v at in
      omega arith)
      (λ other. let none = same_number-other after n other in omega arith))
      (λ k. let keeps_it : same_number after n ≡ same_number v.number n = ap (λ m. same_number m n) (old k) in omega arith)

  -- all that passes know after a play of this seat
  known_after : (s : St) (r : Rule s) (id : ℕ) (v w : V) (after : ℕ) (added : List E) → get_elem? s.views id ≡ some v → v.spent ≡ false → (later : List E) → later ≡ r.history ++ added
      → Adds owner v.number r.history after added → w.number ≡ after → w ≡ record v { number = w.number; seen = later; mine = w.mine; acts = w.acts; held = w.held } → w.mine ≡ v.mine ++ added → Fits owner r.history r.numbers v
      → EachView (set s.views id w) (λ _ u. u.spent ≡ false → Fits owner later r.numbers u) × ((n : ℕ) → n ≢ 0 → total (times_known n) (set s.views id w) ≤ 1)
  known_after s r id v w after added at live later later_is (inl stays) number is mine f =
      let same : later ≡ r.history = later_is ∙ (ap (λ (l : List E). r.history ++ l) stays.0 ∙ append-nil r.history) in
      let its : w.number ≡ v.number = number ∙ stays.1 in
      let own : Fits owner r.history r.numbers w = fits_same owner r.history r.numbers v f w its (ap (λ (x : V). x.seen) is ∙ same) (mine ∙ (ap (λ (l : List E). v.mine ++ l) stays.0 ∙ append-nil v.mine))
      (ap (λ (x : V). x.heard) is) (ap (λ (x : V). x.ended) is) (ap (λ (x : V). x.fixed) is) in (
        subst (λ (l : List E). EachView (set s.views id w) (λ _ u. u.spent ≡ false → Fits owner l r.numbers u)) (sym same)
            (each_set (λ _ u. u.spent ≡ false → Fits owner r.history r.numbers u) s.views id w (λ _. own) (λ j u _ e. r.each j u e)),
        as_often s r id v w at (λ n. ap (λ (x : V). times_known n x) is ∙ ap (λ k. times_known n (record v { number = k })) its),
      )
  known_after s r id v w after added at live later later_is (inr one) number is mine f =
      let e : E = one.0 in
      let same : later ≡ r.history ++ e ∷ [] = later_is ∙ ap (λ (l : List E). r.history ++ l) one.1 in
      let live' : w.spent ≡ false = ap (λ (x : V). x.spent) is ∙ live in
      let ended : w.ended ≡ v.ended = ap (λ (x : V). x.ended) is in
      let apart = apart_after s r id v w after at live live' number ended one.4 one.5 in
      let once = apart after one.3 in
      let w_at = set_at s.views id v w at in
      let w_times = times_known-live after w live' in
      let w_number = same_number-is w.number after number in
      let w_total = total_at (times_known after) (set s.views id w) id w w_at in
      let none_ended : times_ended after w.ended ≡ 0 = omega arith in
      let own : Fits owner (r.history ++ e ∷ []) r.numbers w = fits_own owner r.history e after one.2 one.3 r.numbers v one.4 one.5 (ap (times_ended after) (sym ended) ∙ none_ended) f w
      number (ap (λ (x : V). x.seen) is ∙ same) (mine ∙ ap (λ (l : List E). v.mine ++ l) one.1) (ap (λ (x : V). x.heard) is) ended (ap (λ (x : V). x.fixed) is) in
      let others : (j : ℕ) (u : V) → j ≢ id → get_elem? s.views j ≡ some u → u.spent ≡ false → Fits owner (r.history ++ e ∷ []) r.numbers u = λ j u other at' live_u.
      let two = total_two (times_known after) (set s.views id w) id j w u other w_at (set_else s.views id j w other ∙ at') in
      let u_times = times_known-live after u live_u in
      let none_number : same_number u.number after ≡ 0 = omega arith in
      let none_ended_u : times_ended after u.ended ≡ 0 = omega arith in
      fits_later owner r.history e after one.2 one.3 r.numbers u none_number none_ended_u (r.each j u at' live_u) in (
        subst (λ (l : List E). EachView (set s.views id w) (λ _ u. u.spent ≡ false → Fits owner l r.numbers u)) (sym same)
            (each_set (λ _ u. u.spent ≡ false → Fits owner (r.history ++ e ∷ []) r.numbers u) s.views id w (λ _. own) others),
        apart,
      )

  abbrev carried_or : T → List (ℕ × Option T) → T
  carried_or d [] = d
  carried_or d (x ∷ xs) = value_or d x.1

  -- the length of the history after a play is stored
  pub recounts : (marks_of : T → List ℕ) (slots id count : ℕ) (me : M) (p : HasPlayed history_of owner fixed_of me) → count ≡ length (history_of p.kept)
      → Allows Rule slots id me 1 (λ _. count) (λ _. recounted history_of owner marks_of (step slots 1 count 0 none) me count)
  recounts marks_of slots id count me p is s r _ at _ =
      let v : V = me.0 in
      let kept : T = p.kept in let before : Held E = p.before in
      let later : List E = history_of kept in
      let w : V = counted owner v before later (marks_of kept) in
      let h : Held E = hold later (marks_of kept) in
      let f = r.each id v at p.live in
      let mine = r.held id v at before p.held in
      let away = (r.out id v at p.out).1 in
      let added_is : drop (length before.history) later ≡ p.added = ap (drop (length before.history)) p.history ∙ drop-append_seam before.history p.added in
      let number_is : w.number ≡ p.number = ap (later_number owner v.number) added_is ∙ later_number-is owner v.number before.history p.number p.added p.adds in
      let mine_is : w.mine ≡ v.mine ++ p.added = ap (λ (l : List E). v.mine ++ l) added_is in
      let later_is : later ≡ r.history ++ p.added = p.history ∙ ap (λ (l : List E). l ++ p.added) mine.1 in
      let free : (j : ℕ) (u : V) → j ≢ id → get_elem? s.views j ≡ some u → u.held ≡ None = others_free s r id v before at p.held in
      let inside = r.words in
      let word_same : get_or (set s.words 1 count) 0 0 ≡ get_or s.words 0 0 = get_or-set_other s.words 1 0 count 0 (λ e. omega arith) in
      let grown = known_after s r id v w p.number p.added at p.live later later_is (subst (λ (l : List E). Adds owner v.number l p.number p.added) mine.1 p.adds) number_is refl mine_is f in (
        w,
        keeps,
        tt,
        record {
          history = later;
          numbers = r.numbers;
          holder = id;
          words = length-set s.words 1 count ∙ r.words;
          slots = r.slots;
          count = get_or-set_same s.words 1 count 0 (omega arith) ∙ is;
          free = λ z. absurd (none-some before (sym (r.free (sym word_same ∙ z) id v at) ∙ p.held));
          taken = λ nz. (word_same ∙ (r.taken (λ z. nz (word_same ∙ z))).0, (w, h, set_at s.views id v w at, refl));
          held = each_set (λ seat u. (g : Held E) → u.held ≡ Some g → (seat ≡ id) × (g.history ≡ later)) s.views id w
              (λ g e. (refl, ap (λ (x : Held E). x.history) (same_some g h (sym e)))) (λ j u other e g held. absurd (none-some g (sym (free j u other e) ∙ held)));
          out = each_set (λ _ u. u.out ≡ true → (u.held ≢ None) × (get_elem? s.homes 0 ≡ some none)) s.views id w
              (λ _. ((λ z. none-some h (sym z)), away)) (λ j u other e o. absurd ((r.out j u e o).0 (free j u other e)));
          home = λ all. absurd (true≢false (sym p.out ∙ all id w (set_at s.views id v w at)));
          value = λ y e. absurd (some-ne-none (Some y) (sym (some-injective none (some (Some y)) (sym away ∙ e))));
          each = grown.0;
          apart = grown.1;
        },
        λ y g carried held.
            let same_kept : kept ≡ y = ap (carried_or kept) (sym p.carried ∙ carried) in
            let same_held : before ≡ g = same_some before g (sym p.held ∙ held) in
            ap (λ (z : T × Held E). (counted owner v z.1 (history_of z.0) (marks_of z.0), me.1)) (λ i. (same_kept i, same_held i)),
      )

  -- where a seat holds the lock and has left the value in its slot, it is the value that the slot has
  pub closed_value : (s : St) (r : Rule s) (id : ℕ) (v : V) (h : Held E) → get_elem? s.views id ≡ some v → v.held ≡ Some h → v.out ≡ false → v.spent ≡ false
      → (kept : T) × (get_elem? s.homes 0 ≡ some (some (Some kept))) × Fits owner (history_of kept) (fixed_of kept) v × AreApart (all_ended v)
  closed_value s r id v h at has inside live =
      let t = r.home (λ j u e. ⊎_elim (λ (o : u.out ≡ true). absurd ((r.out j u e o).0 (dite (ℕ_discrete j id)
      (λ here. absurd (true≢false (sym o ∙ (ap (λ (x : V). x.out) (sym (some-injective v u (sym at ∙ (ap (get_elem? s.views) (sym here) ∙ e)))) ∙ inside))))
      (λ other. others_free s r id v h at has j u other e)))) (λ (i : u.out ≡ false). i) (cases_Bool u.out)) in
      let is = r.value t.0 t.1 in
      let apart : AreApart (all_ended v) = λ n nz. let most = r.apart n nz in let le = total_at (times_known n) s.views id v at in let known = times_known-live n v live in let its = times_all_ended n v nz in omega arith in
      (t.0, t.1, subst (λ (k : List E × List ℕ). Fits owner k.0 k.1 v) (λ i. (sym is.0 i, sym is.1 i)) (r.each id v at live), apart)
