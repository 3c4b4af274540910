-- The documents that are open for writing, beside those that are open.
use Rattle.std.proofs.Common.{◌≡◌, ◌∙◌, ℕ, ◌≤◌, ◌&&◌, Bool, true, false, cond, List, [], ◌∷◌, Option, Some, None, Ordering, Less, Equal, Greater, refl, sym, ap, subst, nat_cmp, true≢false, arith, ltb-false, eq-eqb, is_gt, is_lt}
use Rattle.std.proofs.lemmas.Map.Lookups.{exact_bytes}
use Rattle.std.specs.Prelude.{IfSome}
use Rattle.std.specs.List.{slice_get}
use Rattle.std.specs.Cmp.Lexicographic.{slice_cmp, nat_list_cmp_total, texts_ties}
use Rattle.std.specs.Cmp.{both_tied, nat_cmp_total}
use Rattle.std.specs.declared.ops.Bound.TheVariants.{Included, Unbounded}
use Rattle.std.specs.Ordering.{is_eq, ordering_then, ordering_reverse}
use Rattle.std.specs.Map.{remove_entry}
use Rattle.std.specs.BTreeMap as tree
use Rattle.std.specs.BTreeMap.{BTreeMap, insert_entry, is_at}
use Rattle.std.specs.BTreeMap.Range.{IsInRange, IsLeBy}
use Rattle.std.specs.BTreeSet as sorted
use Rattle.std.specs.BTreeSet.{BTreeSet, insert_key, IsKeyInRange, IsKeyRangeOf}
use Rattle.febe_data.specs.declared.access.Mode.{Mode}
use Rattle.febe_data.specs.declared.access.Mode.TheVariants.{Read, Write}
use Rattle.world_rules.specs.declared.rows.OpenRow.{OpenRow}
use Rattle.world_rules.specs.World.{is_same}
use Rattle.world_rules.specs.Apply.{without_opening}
use Rattle.access_table.specs.AccessRows.{row_cmp, Writes, IsFirstWriter}
use Rattle.access_table.specs.inside.Keys.{opening_cmp, writing_cmp, open_rows, found_writing, HoldsWriters}
use Rattle.access_table.proofs.Keyed.{opening_exact, opening_looked_up, opening_removed, opening_inserted}

-- ---- what the rows become

pub closed_rows : (session : ℕ) (document held : List ℕ) (m n : BTreeMap (ℕ × List ℕ) Mode) (shown : List OpenRow) → held ≡ document → open_rows m ≡ shown → tree.IsOrdered opening_cmp m
    → n.entries ≡ remove_entry (is_at (opening_cmp (session, held))) m.entries
    → open_rows n ≡ without_opening session document shown
closed_rows session document held m n shown same shows s is = rw (← same, ← shows) (opening_removed session held m n s is)

pub opened_rows : (session : ℕ) (document held : List ℕ) (mode : Mode) (m n : BTreeMap (ℕ × List ℕ) Mode) (shown : List OpenRow) → held ≡ document → open_rows m ≡ shown → tree.IsOrdered opening_cmp m
    → n.entries ≡ insert_entry opening_cmp m.entries (session, held) mode
    → open_rows n ≡ insert_key row_cmp (without_opening session document shown) (record { session = session; document = document; mode = mode })
opened_rows session document held mode m n shown same shows s is = rw (← same, ← shows) (opening_inserted session held mode m n s is)

-- ---- the writers stay as the open rows say

tied_then : (a b : Ordering) → is_eq (ordering_then a b) ≡ (is_eq a && is_eq b)
tied_then a b = sym (both_tied _ _ a b refl refl)

both_swap : (a b : Bool) → (a && b) ≡ (b && a)
both_swap true true = refl
both_swap true false = refl
both_swap false true = refl
both_swap false false = refl

swapped : (session s : ℕ) (document d : List ℕ) → is_at (writing_cmp (document, session)) (d, s) ≡ is_at (opening_cmp (session, document)) (s, d)
swapped session s document d =
    tied_then (slice_cmp nat_cmp document d) (nat_cmp session s) ∙ both_swap (is_eq (slice_cmp nat_cmp document d)) (is_eq (nat_cmp session s)) ∙ sym (tied_then (nat_cmp session s) (slice_cmp nat_cmp document d))

changed_step : (at : Bool) (v old : Option Mode) (b was : Bool) → found_writing v ≡ b → was ≡ found_writing old → cond at b was ≡ found_writing (cond at v old)
changed_step true v old b was e h = sym e
changed_step false v old b was e h = h

pub writers_changed : (session : ℕ) (document held found : List ℕ) (m n : BTreeMap (ℕ × List ℕ) Mode) (w x : BTreeSet (List ℕ × ℕ)) (v : Option Mode) (b : Bool) → held ≡ document → found ≡ document
    → found_writing v ≡ b → HoldsWriters m w
    → ((q : ℕ × List ℕ) → tree.get opening_cmp n q ≡ cond (is_at (opening_cmp (session, held)) q) v (tree.get opening_cmp m q))
    → ((q : List ℕ × ℕ) → sorted.contains writing_cmp x q ≡ cond (is_at (writing_cmp (found, session)) q) b (sorted.contains writing_cmp w q))
    → HoldsWriters n x
writers_changed session document held found m n w x v b same alike is holds opened written s d =
    rw (written (d, s), opened (s, d), same, alike, swapped session s document d) (changed_step _ v _ b _ is (holds s d))

back_step : (session s : ℕ) (document d : List ℕ) (m : BTreeMap (ℕ × List ℕ) Mode) (was : Bool) (at : Bool) → is_at (opening_cmp (session, document)) (s, d) ≡ at → tree.get opening_cmp m (session, document) ≡ None
    → was ≡ found_writing (tree.get opening_cmp m (s, d)) → cond at false (cond at true was) ≡ found_writing (tree.get opening_cmp m (s, d))
back_step session s document d m was true is none h =
    let key = opening_exact (session, document) (s, d) (equal_from (opening_cmp (session, document) (s, d)) is) in
    let found : tree.get opening_cmp m (s, d) ≡ None = subst (λ k. tree.get opening_cmp m k ≡ None) key none in
    sym (ap found_writing found)
  where
    equal_from : (r : Ordering) → is_eq r ≡ true → r ≡ Equal
    equal_from Less e = absurd (true≢false (sym e))
    equal_from Equal e = refl
    equal_from Greater e = absurd (true≢false (sym e))
back_step session s document d m was false is none h = h

pub writers_back : (session : ℕ) (document held found gone : List ℕ) (m n : BTreeMap (ℕ × List ℕ) Mode) (w x y : BTreeSet (List ℕ × ℕ)) → held ≡ document → found ≡ document → gone ≡ document
    → HoldsWriters m w → tree.get opening_cmp m (session, held) ≡ None → n.entries ≡ m.entries
    → ((q : List ℕ × ℕ) → sorted.contains writing_cmp x q ≡ cond (is_at (writing_cmp (found, session)) q) true (sorted.contains writing_cmp w q))
    → ((q : List ℕ × ℕ) → sorted.contains writing_cmp y q ≡ cond (is_at (writing_cmp (gone, session)) q) false (sorted.contains writing_cmp x q))
    → HoldsWriters n y
writers_back session document held found gone m n w x y same alike likewise holds none is written taken s d =
    let absent : tree.get opening_cmp m (session, document) ≡ None = subst (λ k. tree.get opening_cmp m (session, k) ≡ None) same none in
    rw (taken (d, s), written (d, s), alike, likewise, swapped session s document d, is) (back_step session s document d m _ _ refl absent (holds s d))

-- ---- who writes

pub writes_held : (m : BTreeMap (ℕ × List ℕ) Mode) (w : BTreeSet (List ℕ × ℕ)) (document : List ℕ) (session : ℕ) → HoldsWriters m w → Writes (open_rows m) document session → sorted.contains writing_cmp w (document, session) ≡ true
writes_held m w document session holds writes = holds session document ∙ ap found_writing (sym (opening_looked_up session document m) ∙ writes)

writing : (found : Option Mode) → found_writing found ≡ true → found ≡ Some Write
writing None e = absurd (true≢false (sym e))
writing (Some Read) e = absurd (true≢false (sym e))
writing (Some Write) e = refl

pub held_writes : (m : BTreeMap (ℕ × List ℕ) Mode) (w : BTreeSet (List ℕ × ℕ)) (document : List ℕ) (session : ℕ) → HoldsWriters m w → sorted.contains writing_cmp w (document, session) ≡ true → Writes (open_rows m) document session
held_writes m w document session holds is = opening_looked_up session document m ∙ writing _ (sym (holds session document) ∙ is)

-- ---- the first in a range

itself : (r : Ordering) → r ≡ ordering_reverse r → r ≡ Equal
itself Less e = absurd (true≢false (ap is_lt e))
itself Equal e = refl
itself Greater e = absurd (true≢false (ap is_gt e))

pub number_itself : (n : ℕ) → nat_cmp n n ≡ Equal
number_itself n = itself _ (nat_cmp_total.antisymm n n)

document_itself : (document : List ℕ) → slice_cmp nat_cmp document document ≡ Equal
document_itself document = itself _ (nat_list_cmp_total.antisymm document document)

none_below : (session : ℕ) → is_gt (nat_cmp 0 session) ≡ false
none_below session = below _ _ (λ e. let h = ltb-false 0 session e in eq-eqb 0 session (omega (arith, h)))
  where
    below : (t u : Bool) → (t ≡ false → u ≡ true) → is_gt (cond t Less (cond u Equal Greater)) ≡ false
    below true u h = refl
    below false u h = rw (h refl) refl

from_least : (document : List ℕ) (session : ℕ) → IsInRange writing_cmp (Included (document, 0)) Unbounded (document, session)
from_least document session = (rw (document_itself document) (none_below session), tt)

pub up_to : (a b : ℕ) → is_gt (nat_cmp a b) ≡ false → a ≤ b
up_to a b e = grind (arith, e)

both_up_to : (a b : List ℕ) (m n k l : ℕ) (r : Ordering) → slice_cmp nat_cmp a b ≡ r → is_gt (writing_cmp (a, m) (b, n)) ≡ false → is_gt (writing_cmp (b, k) (a, l)) ≡ false → slice_cmp nat_cmp a b ≡ Equal
both_up_to a b m n k l Less is h g = absurd (true≢false (subst (λ o. is_gt (ordering_then o (nat_cmp k l)) ≡ false) (nat_list_cmp_total.antisymm b a ∙ ap ordering_reverse is) g))
both_up_to a b m n k l Equal is h g = is
both_up_to a b m n k l Greater is h g = absurd (true≢false (subst (λ o. is_gt (ordering_then o (nat_cmp m n)) ≡ false) is h))

equal_is : (r : Ordering) → is_eq r ≡ true → r ≡ Equal
equal_is Less e = absurd (true≢false (sym e))
equal_is Equal e = refl
equal_is Greater e = absurd (true≢false (sym e))

module _ (m : BTreeMap (ℕ × List ℕ) Mode) (w : BTreeSet (List ℕ × ℕ)) (shown : List OpenRow) (document held : List ℕ) (r : List (List ℕ × ℕ)) (same : held ≡ document) (shows : open_rows m ≡ shown) (holds : HoldsWriters m w)
    (range : IsKeyRangeOf writing_cmp (Included (held, 0)) Unbounded w r) where
  within : (session : ℕ) → IsInRange writing_cmp (Included (held, 0)) Unbounded (document, session)
  within session = subst (λ d. IsInRange writing_cmp (Included (d, 0)) Unbounded (document, session)) (sym same) (from_least document session)

  kept : (session : ℕ) → Writes shown document session → sorted.contains writing_cmp w (document, session) ≡ true
  kept session writes = writes_held m w document session holds (subst (λ rows. Writes rows document session) (sym shows) writes)

  -- nothing is in the range
  pub no_writer : r ≡ [] → (session : ℕ) → Writes shown document session → ⊥
  no_writer is session writes = true≢false (sym (kept session writes) ∙ range.5 is (document, session) (within session))

  module _ (k : List ℕ × ℕ) (ks : List (List ℕ × ℕ)) (is : r ≡ k ∷ ks) where
    first : IsKeyInRange writing_cmp (Included (held, 0)) Unbounded w k
    first = subst (λ xs. IfSome (slice_get xs 0) (IsKeyInRange writing_cmp (Included (held, 0)) Unbounded w)) is range.1

    before : (session : ℕ) → Writes shown document session → is_gt (writing_cmp k (document, session)) ≡ false
    before session writes =
        subst (λ xs. IfSome (slice_get xs 0) (λ x. IsLeBy writing_cmp x (document, session))) is (range.2 (document, session) (within session) (kept session writes))

    -- the first in the range is of another document
    pub other_writer : is_same k.0 document ≡ false → (session : ℕ) → Writes shown document session → ⊥
    other_writer other session writes =
        let least = subst (λ d. is_gt (writing_cmp (d, 0) k) ≡ false) same first.0.0 in
        let both = both_up_to k.0 document k.1 session 0 k.1 _ refl (before session writes) least in
        true≢false (sym (texts_ties k.0 document ∙ ap is_eq both) ∙ other)

    -- it is of this document
    pub first_writer : is_same k.0 document ≡ true → IsFirstWriter shown document k.1
    first_writer it =
        let alike : slice_cmp nat_cmp k.0 document ≡ Equal = equal_is _ (sym (texts_ties k.0 document) ∙ it) in
        let there : sorted.contains writing_cmp w (document, k.1) ≡ true = subst (λ d. sorted.contains writing_cmp w (d, k.1) ≡ true) (exact_bytes k.0 document alike) first.1 in
        record {
          writes = subst (λ rows. Writes rows document k.1) shows (held_writes m w document k.1 holds there);
          first = λ other writes. up_to k.1 other (subst (λ o. is_gt (ordering_then o (nat_cmp k.1 other)) ≡ false) alike (before other writes));
        }
