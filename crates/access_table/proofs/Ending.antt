-- What a session has open goes one by one, until nothing is left.
use Rattle.std.proofs.Common.{◌≡◌, ◌∙◌, ℕ, ◌<◌, ◌≤◌, ◌&&◌, Bool, true, false, cond, not, List, [], ◌∷◌, map, length, Option, Some, None, Ordering, Less, Equal, Greater, refl, sym, ap, subst, nat_cmp, true≢false, arith, is_gt}
use Rattle.std.specs.Prelude.{◌==◌, IsSome, IfSome, filter}
use Rattle.std.specs.List.{slice_get, find}
use Rattle.std.specs.Option.{option_map}
use Rattle.std.specs.Cmp.Lexicographic.{slice_cmp}
use Rattle.std.specs.declared.ops.Bound.TheVariants.{Included, Unbounded}
use Rattle.std.specs.Ordering.{ordering_then}
use Rattle.std.specs.Map.{lookup}
use Rattle.std.specs.BTreeMap as tree
use Rattle.std.specs.BTreeMap.{BTreeMap, is_at}
use Rattle.std.specs.BTreeMap.Range.{IsInRange, IsLeBy, IsEntryInRange, IsRangeOf}
use Rattle.febe_data.specs.declared.access.Mode.{Mode}
use Rattle.world_rules.specs.declared.rows.OpenRow.{OpenRow}
use Rattle.world_rules.specs.World.{is_same, opens}
use Rattle.world_rules.specs.Apply.{without_session, without_opening}
use Rattle.world_rules.proofs.Filters.{all_stay}
use Rattle.access_table.specs.AccessRows.{mode_in}
use Rattle.access_table.specs.inside.Keys.{opening_cmp, open_row, open_rows}
use Rattle.access_table.proofs.Keyed.{opens_seen, document_alike}
use Rattle.access_table.proofs.Writers.{number_itself, up_to}

-- ---- none is left

some_none : {X : Type 0} (x : X) → Some x ≡ None → ⊥
some_none x e = true≢false (ap is_there e)
  where
    is_there : {Y : Type 0} → Option Y → Bool
    is_there (Some y) = true
    is_there None = false

module _ (session : ℕ) where
  abbrev other : OpenRow → Bool
  other row = not (row.session == session)

  rest_step : (b : Bool) (mode : Mode) (rest : Option Mode) → cond b (Some mode) rest ≡ None → rest ≡ None
  rest_step true mode rest e = absurd (some_none mode e)
  rest_step false mode rest e = e

  found_step : (b : Bool) (mode : Mode) (rest : Option Mode) → b ≡ true → cond b (Some mode) rest ≡ None → ⊥
  found_step true mode rest is e = some_none mode e
  found_step false mode rest is e = true≢false (sym is)

  left_step : (e : (ℕ × List ℕ) × Mode) (es : List ((ℕ × List ℕ) × Mode)) (b : Bool) → (e.0.0 == session) ≡ b → lookup (is_at (opening_cmp (session, e.0.1))) (e ∷ es) ≡ None
      → filter other (map open_row es) ≡ map open_row es → filter other (map open_row (e ∷ es)) ≡ map open_row (e ∷ es)
  left_step e es true is none rest = absurd (found_step _ e.1 _ (sym (opens_seen session e.0.1 e) ∙ ap (λ b. b && is_same e.0.1 e.0.1) is ∙ document_alike e.0.1) none)
  left_step e es false is none rest = rw is (ap (λ (rows : List OpenRow). open_row e ∷ rows) rest)

  none_left : (es : List ((ℕ × List ℕ) × Mode)) → ((d : List ℕ) → lookup (is_at (opening_cmp (session, d))) es ≡ None) → filter other (map open_row es) ≡ map open_row es
  none_left [] none = refl
  none_left (e ∷ es) none = left_step e es (e.0.0 == session) refl (none e.0.1) (none_left es (λ d. rest_step _ e.1 _ (none d)))

-- ---- the first in a range

first_of_two : (r o : Ordering) → is_gt (ordering_then r o) ≡ false → is_gt r ≡ false
first_of_two Less o e = refl
first_of_two Equal o e = refl
first_of_two Greater o e = e

zero_first : (d : List ℕ) → is_gt (slice_cmp nat_cmp [] d) ≡ false
zero_first [] = refl
zero_first (x ∷ d) = refl

none_where : (found : Option Mode) → (IsSome found → ⊥) → found ≡ None
none_where None lacks = refl
none_where (Some mode) lacks = absurd (lacks refl)

module _ (session : ℕ) (least : List ℕ) (m : BTreeMap (ℕ × List ℕ) Mode) (shown : List OpenRow) (r : List ((ℕ × List ℕ) × Mode)) (is_zero : least ≡ []) (shows : open_rows m ≡ shown)
    (range : IsRangeOf opening_cmp (Included (session, least)) Unbounded m r) where
  within : (d : List ℕ) → IsInRange opening_cmp (Included (session, least)) Unbounded (session, d)
  within d = (rw (is_zero, number_itself session) (zero_first d), tt)

  -- nothing is in the range
  pub nothing_open : r ≡ [] → without_session session shown ≡ shown
  nothing_open is = subst (λ rows. without_session session rows ≡ rows) shows (none_left session m.entries (λ d. range.5 is (session, d) (within d)))

  module _ (e : (ℕ × List ℕ) × Mode) (es : List ((ℕ × List ℕ) × Mode)) (is : r ≡ e ∷ es) where
    first : IsEntryInRange opening_cmp (Included (session, least)) Unbounded m e
    first = subst (λ xs. IfSome (slice_get xs 0) (IsEntryInRange opening_cmp (Included (session, least)) Unbounded m)) is range.1

    before : (d : List ℕ) → IsSome (tree.get opening_cmp m (session, d)) → is_gt (opening_cmp e.0 (session, d)) ≡ false
    before d there = subst (λ xs. IfSome (slice_get xs 0) (λ x. IsLeBy opening_cmp x.0 (session, d))) is (range.2 (session, d) (within d) there)

    same_session : (d : List ℕ) → IsSome (tree.get opening_cmp m (session, d)) → e.0.0 ≡ session
    same_session d there =
        let low = up_to e.0.0 session (first_of_two _ _ (before d there)) in
        let high = up_to session e.0.0 (first_of_two _ _ first.0.0) in
        omega (arith, low, high)

    -- the first in the range is of another session
    pub others_open : (e.0.0 ≡ session → ⊥) → without_session session shown ≡ shown
    others_open apart =
        subst (λ rows. without_session session rows ≡ rows) shows (none_left session m.entries (λ d. none_where _ (λ there. apart (same_session d there))))

-- ---- one goes

pub fewer_left : (session : ℕ) (document : List ℕ) (rows : List OpenRow) → without_session session (without_opening session document rows) ≡ without_session session rows
fewer_left session document rows = all_stay (λ (r : OpenRow). not (r.session == session)) (λ (r : OpenRow). not (opens session document r)) (λ r. unopened (r.session == session) (is_same r.document document)) rows
  where
    unopened : (a b : Bool) → not a ≡ true → not (a && b) ≡ true
    unopened true b e = absurd (true≢false (sym e))
    unopened false b e = refl

module _ (session : ℕ) (document : List ℕ) where
  abbrev stays : OpenRow → Bool
  stays row = not (opens session document row)

  kept_step : (row : OpenRow) (rows : List OpenRow) (b : Bool) → length (filter stays rows) ≤ length rows → length (cond b (row ∷ filter stays rows) (filter stays rows)) ≤ length (row ∷ rows)
  kept_step row rows true h = omega (arith, h)
  kept_step row rows false h = omega (arith, h)

  kept : (rows : List OpenRow) → length (filter stays rows) ≤ length rows
  kept [] = omega arith
  kept (row ∷ rows) = kept_step row rows (stays row) (kept rows)

  shorter_step : (row : OpenRow) (rows : List OpenRow) (b : Bool) → (IsSome (mode_in rows session document) → length (filter stays rows) < length rows)
      → IsSome (option_map (λ (r : OpenRow). r.mode) (cond b (Some row) (find (opens session document) rows)))
      → length (cond (not b) (row ∷ filter stays rows) (filter stays rows)) < length (row ∷ rows)
  shorter_step row rows true rest there = let h = kept rows in omega (arith, h)
  shorter_step row rows false rest there = let h = rest there in omega (arith, h)

  pub shorter : (rows : List OpenRow) → IsSome (mode_in rows session document) → length (without_opening session document rows) < length rows
  shorter [] there = absurd (true≢false (sym there))
  shorter (row ∷ rows) there = shorter_step row rows (opens session document row) (shorter rows) there
