-- A play, step by step, over plain variables.
use Rattle.std.proofs.Common.{◌≡◌, ℕ, zero, suc, false, Option, Some, None, List, [], ◌∷◌, ◌++◌, length, drop, replicate, sym, refl, ap, ◌∙◌, subst, append_assoc, append-nil}
use mathlib.Core.Option.{some, some-injective}
use lib.ListN.{get_elem?}
use Rattle.std.proofs.Math.Seq.{drop-append_seam}
use Rattle.atomic_table.specs.Table.{Me, rest, Final, Seen}
use Rattle.history_lock.specs.declared.view.View.{View}
use Rattle.history_lock.specs.declared.view.Held.{Held}
use Rattle.history_lock.specs.Histories.{Adds, Grows}
use Rattle.history_lock.specs.Passes.{Fits, all_ended, AreApart, finding}
use Rattle.history_lock.specs.inside.Rule.{IsKept}
use Rattle.history_lock.specs.inside.Steps.{hold, closing, released, later_number, counted, HasTaken, IsHolding, HasPlayed, HasCounted, HasFinished, Recounted}
use Rattle.history_lock.proofs.Growing.{later_number-is}
use Rattle.history_lock.proofs.RuleKept.{same_some, closed_value}

again : (n : ℕ) → ◌++◌ {A = ℕ} (replicate n 1) (1 ∷ []) ≡ replicate (suc n) 1
again zero = refl
again (suc n) = ap (λ (l : List ℕ). 1 ∷ l) (again n)

module _ {E : Type 0} (v : View E) where
  -- exchanges that found the lock held n times
  pub found_none : finding v [] ≡ v
  found_none = ap (λ (l : List ℕ). record v { finds = l }) (append-nil v.finds)

  pub found_again : (n : ℕ) → finding (finding v (replicate n 1)) (1 ∷ []) ≡ finding v (replicate (suc n) 1)
  found_again n = ap (λ (l : List ℕ). record v { finds = l }) (append_assoc v.finds (replicate n 1) (1 ∷ []) ∙ ap (λ (l : List ℕ). v.finds ++ l) (again n))

  pub found_free : (n : ℕ) → finding (finding v (replicate n 1)) (0 ∷ []) ≡ finding v (replicate n 1 ++ 0 ∷ [])
  found_free n = ap (λ (l : List ℕ). record v { finds = l }) (append_assoc v.finds (replicate n 1) (0 ∷ []))

module _ {S E : Type 0} where
  pub busy_again : (v : View E) (n : ℕ) (mid after : Me S (View E)) → mid ≡ (finding v (replicate n 1), []) → after ≡ (finding mid.0 (1 ∷ []), []) → after ≡ (finding v (replicate (suc n) 1), [])
  busy_again v n mid after e k = k ∙ (ap (λ (m : Me S (View E)). (finding m.0 (1 ∷ []), [])) e ∙ ap (λ (u : View E). (u, [])) (found_again v n))

module _ {T E : Type 0} (history_of : T → List E) (owner : E → ℕ) (fixed_of marks_of : T → List ℕ) where
  abbrev V : Type 0
  V = View E

  abbrev M : Type 0
  M = Me (Option T) V

  abbrev first_or : Option T → List (ℕ × Option T) → Option T
  first_or d [] = d
  first_or d (x ∷ xs) = x.1

  pub taken_after : (v : V) (n : ℕ) (after mid : M) → mid ≡ (finding v (replicate n 1), []) → HasTaken history_of owner fixed_of marks_of (finding mid.0 (0 ∷ [])) after → HasTaken history_of owner fixed_of marks_of (finding v (replicate n 1 ++ 0 ∷ [])) after
  taken_after v n after mid e h = subst (λ (u : V). HasTaken history_of owner fixed_of marks_of u after) (ap (λ (m : M). finding m.0 (0 ∷ [])) e ∙ found_free v n) h

  -- what was taken out of the slot is the value that the seat holds
  pub same_value : (me : M) (h : IsHolding history_of fixed_of marks_of me) (out : Option T) (kept : T) → me.1 ≡ (0, out) ∷ rest me.1 → out ≡ Some kept → h.kept ≡ kept
  same_value me h out kept e is = same_some h.kept kept (ap (first_or out) (sym h.carried ∙ e) ∙ is)

  pub is_some : (me : M) (h : IsHolding history_of fixed_of marks_of me) (out : Option T) → me.1 ≡ (0, out) ∷ rest me.1 → out ≡ Some h.kept
  is_some me h out e = ap (first_or out) (sym e ∙ h.carried)

  pub has_slot : (me : M) → IsHolding history_of fixed_of marks_of me → (out : Option T) × (me.1 ≡ (0, out) ∷ rest me.1)
  has_slot me h = (Some h.kept, h.carried ∙ ap (λ (l : List (ℕ × Option T)). (0, Some h.kept) ∷ rest l) (sym h.carried))

  -- the seat with another value in its slot
  pub put_in : (me mid after : M) (h : IsHolding history_of fixed_of marks_of me) (a : Option T) (kept : T) → mid ≡ (me.0, (0, a) ∷ rest me.1) → after ≡ (mid.0, (0, Some kept) ∷ rest mid.1) → after ≡ (me.0, (0, Some kept) ∷ [])
  put_in me mid after h a kept e k = k ∙ (ap (λ (m : M). (m.0, (0, Some kept) ∷ rest m.1)) e ∙ ap (λ (l : List (ℕ × Option T)). (me.0, (0, Some kept) ∷ rest l)) h.carried)

  module _ (me : M) (h : IsHolding history_of fixed_of marks_of me) (old kept : T) (number after : ℕ) (same : h.kept ≡ old) (its : number ≡ me.0.number) (stays : fixed_of kept ≡ fixed_of old)
      (grows : Grows owner number (history_of old) after (history_of kept)) where
    abbrev v : V
    v = me.0

    abbrev before : Held E
    before = hold (history_of h.kept) (marks_of h.kept)

    abbrev added : List E
    added = grows.0

    history_is : history_of kept ≡ before.history ++ added
    history_is = grows.1 ∙ ap (λ (x : T). history_of x ++ added) (sym same)

    adds_is : Adds owner v.number before.history after added
    adds_is = subst (λ (z : ℕ × T). Adds owner z.0 (history_of z.1) after added) (λ i. (its i, sym same i)) grows.2

    fixed_is : fixed_of kept ≡ v.fixed
    fixed_is = stays ∙ (ap fixed_of (sym same) ∙ h.fixed)

    pub has_played : (seat : M) → seat ≡ (v, (0, Some kept) ∷ []) → (played : HasPlayed history_of owner fixed_of seat) × (played.kept ≡ kept)
    has_played seat e = (
      record {
        kept = kept;
        before = before;
        added = added;
        number = after;
        carried = ap (λ (m : M). m.1) e;
        held = ap (λ (m : M). m.0.held) e ∙ h.held;
        out = ap (λ (m : M). m.0.out) e ∙ h.out;
        live = ap (λ (m : M). m.0.spent) e ∙ h.live;
        history = history_is;
        adds = subst (λ k. Adds owner k before.history after added) (sym (ap (λ (m : M). m.0.number) e)) adds_is;
        fixed = fixed_is ∙ sym (ap (λ (m : M). m.0.fixed) e);
      },
      refl,
    )

    abbrev late : V
    late = counted owner v before (history_of kept) (marks_of kept)

    recounted_to : (seat next : M) → seat ≡ (v, (0, Some kept) ∷ []) → Recounted history_of owner marks_of seat next → next ≡ (late, (0, Some kept) ∷ [])
    recounted_to seat next e r = r kept before (ap (λ (m : M). m.1) e) (ap (λ (m : M). m.0.held) e ∙ h.held) ∙ ap (λ (m : M). (counted owner m.0 before (history_of kept) (marks_of kept), m.1)) e

    pub has_counted : (seat next : M) → seat ≡ (v, (0, Some kept) ∷ []) → Recounted history_of owner marks_of seat next → HasCounted history_of fixed_of next
    has_counted seat next e r = let k = recounted_to seat next e r in record {
      kept = kept;
      before = hold (history_of kept) (marks_of kept);
      carried = ap (λ (m : M). m.1) k;
      held = ap (λ (m : M). m.0.held) k;
      out = ap (λ (m : M). m.0.out) k ∙ h.out;
      live = ap (λ (m : M). m.0.spent) k ∙ h.live;
      history = refl;
      fixed = fixed_is ∙ sym (ap (λ (m : M). m.0.fixed) k);
    }

    added_is : drop (length before.history) (history_of kept) ≡ added
    added_is = ap (drop (length before.history)) history_is ∙ drop-append_seam before.history added

    pub number_after : (seat next last : M) → seat ≡ (v, (0, Some kept) ∷ []) → Recounted history_of owner marks_of seat next → last ≡ (released next.0, []) → after ≡ last.0.number
    number_after seat next last e r f = let k = recounted_to seat next e r in
        sym (ap (λ (m : M). m.0.number) f ∙ (ap (λ (m : M). m.0.number) k ∙ (ap (later_number owner v.number) added_is ∙ later_number-is owner v.number before.history after added adds_is)))

    -- the view after a play, of what was added, the history after it, the exchanges and the number
    abbrev shaped : List E → List E → List ℕ → ℕ → V
    shaped a later finds n = record v {
      number = n;
      seen = later;
      mine = v.mine ++ a;
      finds = finds;
      acts = v.acts ++ record { before = before.marks; after = marks_of kept; point = length later } ∷ [];
      held = None;
      out = false;
    }

    pub has_finished : {J A : Type 0} (plays : List ℕ → List E → ℕ → J → A → ℕ → List E → List ℕ → List ℕ → Type 0) (job : J) (answer : A) (point : ℕ) (seat next last : M)
        → plays (fixed_of old) (history_of old) number job answer after (history_of kept) (marks_of old) (marks_of kept) → point ≡ length (history_of kept)
        → seat ≡ (v, (0, Some kept) ∷ []) → Recounted history_of owner marks_of seat next → last ≡ (released next.0, []) → HasFinished owner plays v job answer point last
    has_finished plays job answer point seat next last played is e r f =
        let k = recounted_to seat next e r in
        let n = number_after seat next last e r f in
        let number_is : later_number owner v.number (drop (length before.history) (history_of kept)) ≡ last.0.number = ap (later_number owner v.number) added_is ∙ (later_number-is owner v.number before.history after added adds_is ∙ n) in
        record {
          before = before;
          held = h.held;
          added = added;
          marks = marks_of kept;
          adds = subst (λ m. Adds owner v.number before.history m added) n adds_is;
          played = subst (λ (z : List ℕ × (ℕ × ℕ) × List E × T). plays z.0 (history_of z.3) z.1.0 job answer z.1.1 z.2 (marks_of z.3) (marks_of kept))
              (λ i. ((ap fixed_of (sym same) ∙ h.fixed) i, (its i, n i), history_is i, sym same i)) played;
          point = is ∙ ap (λ (l : List E). length l) history_is;
          seat = f ∙ (ap (λ (m : M). (released m.0, [])) k
              ∙ ap (λ (z : List E × List E × List ℕ × ℕ). (shaped z.0 z.1 z.2 z.3, [])) (λ i. (added_is i, history_is i, sym (append-nil v.finds) i, number_is i)));
        }

  -- the value that is left when the lock is closed
  pub left : (words : List ℕ) (slots : List (Option T)) (id : ℕ) (v w : V) (history : List E) → w ≡ closing (finding v (0 ∷ [])) history → v.spent ≡ false
      → Final (Seen (IsKept history_of owner fixed_of) id w) words slots → (kept : T) × (get_elem? slots 0 ≡ some (Some kept)) × Fits owner (history_of kept) (fixed_of kept) v × AreApart (all_ended v)
  left words slots id v w history is live final =
      let s = final.0 in
      let t = closed_value history_of owner fixed_of s final.1.0 id w (hold history []) final.1.1 (ap (λ (x : V). x.held) is) (ap (λ (x : V). x.out) is) (ap (λ (x : V). x.spent) is ∙ live) in
      let f = subst (λ (x : V). Fits owner (history_of t.0) (fixed_of t.0) x) is t.2 in
      (t.0, final.4 0 (Some t.0) t.1, record { fixed = f.fixed; seen = f.seen; heard = f.heard; unnumbered = f.unnumbered; numbered = f.numbered; ended = f.ended }, subst (λ (x : V). AreApart (all_ended x)) is t.3)

  pub same_left : (slots : List (Option T)) (kept : T) (out : Option T) → get_elem? slots 0 ≡ some (Some kept) → get_elem? slots 0 ≡ some out → out ≡ Some kept
  same_left slots kept out e k = some-injective out (Some kept) (sym k ∙ e)
