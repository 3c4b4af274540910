-- The rows of a tree whose last row in front of a put became longer.
use Rattle.std.proofs.Common.{◌≡◌, ℕ, suc, ◌+◌, ◌<◌, ◌&&◌, not, Bool, true, false, cond, refl, Some, List, [], ◌∷◌, ◌++◌, length, map, arith, ap, ◌∙◌, sym, subst, append_assoc, append-nil}
use Rattle.std.specs.List.{All, filter}
use Rattle.std.proofs.lemmas.List.{length-append, length-map}
use Rattle.std.proofs.lemmas.List.Elements.{All-nil, All-cons, All-weaker, All-head, All-tail, All-append, All-filter, filter-append, filter_passes}
use Rattle.std.proofs.lemmas.Grind.{flat_map-append}
use Rattle.tumbler.specs.Places.{place_bound, IsBefore, IsUpTo, comes_before, width_at}
use Rattle.tumbler.proofs.Alls.{All-front, All-back}
use Rattle.tumbler.proofs.Order.{upto_upto, upto_if_before, upto_itself, before_upto}
use Rattle.tumbler.proofs.Sums.{sum-upto}
use Rattle.tumbler.proofs.Widths.{EndsWell-width_at}
use Rattle.tumbler.proofs.Before.{before_if_true, true_if_before, false_if_up_to, up_to_if_false}
use Rattle.enfilade_core.specs.Axes.{InOrder, IsWellFormedRow, IsWellFormedRows}
use Rattle.enfilade_core.specs.Planes.{content_widths}
use Rattle.enfilade_core.specs.Exchange.{exchanged, rows_before, rows_past}
use Rattle.enfilade_core.specs.Edits.{last_before, is_within, taken_out, shifted}
use Rattle.enfilade_core.specs.declared.gap.Gap.{Gap}
use Rattle.enfilade_core.proofs.ExchangeLists.{filter-all, filter-none}
use Rattle.enfilade_core.proofs.Orders.{All-flat}
use Rattle.granfilade.specs.Content.{ByteAt, so_far_on, laid, laid_row, laid_out}
use Rattle.granfilade.specs.Steps.{last_of}
use Rattle.granfilade.specs.Lengthening.{Lengthens}
use Rattle.granfilade.specs.declared.lengthened.Lengthened.{Lengthened}
use Rattle.granfilade.specs.Puts.{IsByteOf, IsByteAddress, IsNext, IsLeaf, end_of_row, Linked, IsContent, ComesIn, put_in}
use Rattle.granfilade.specs.Leaves.{AreLeaves}
use Rattle.granfilade.proofs.Stepping.{steps-before}
use Rattle.granfilade.proofs.WellFormedRows.{row_filled, row_some}
use Rattle.granfilade.proofs.Documents.{step-none, step-twice, last-step}
use Rattle.granfilade.proofs.Beside.{StaysBelow, back-past, front-row}
use Rattle.granfilade.proofs.NewLeaves.{laid-append}
use Rattle.granfilade.proofs.Putting.{RowOf, linked-join, linked_if_ordered, ordered_if_linked, linked-weaker, put_in-front, put_in-row}
use Rattle.granfilade.proofs.PutRows.{all_both, stay_below, first_up_to_end}
use Rattle.granfilade.proofs.LastRow.{SplitAt, split_at_last, past_are, byte_from_end}

linked-filter : (said : RowOf → List ℕ) (p : RowOf → Bool) (rows : List RowOf) → Linked said rows → Linked said (filter p rows)
linked-filter said p [] h = tt
linked-filter said p (row ∷ rows) h = filtered (p row) (All-filter p (λ r. IsUpTo (said row) r.first) rows h.0) (linked-filter said p rows h.1)
  where
    filtered : (b : Bool) → All (λ r. IsUpTo (said row) r.first) (filter p rows) → Linked said (filter p rows) → Linked said (cond b (row ∷ filter p rows) (filter p rows))
    filtered true all more = (all, more)
    filtered false all more = more

pub linked-back : (said : RowOf → List ℕ) (xs ys : List RowOf) → Linked said (xs ++ ys) → Linked said ys
linked-back said [] ys h = h
linked-back said (x ∷ xs) ys h = linked-back said xs ys h.1

linked-front : (said : RowOf → List ℕ) (xs ys : List RowOf) → Linked said (xs ++ ys) → Linked said xs
linked-front said [] ys h = tt
linked-front said (x ∷ xs) ys h = (All-front (λ r. IsUpTo (said x) r.first) xs ys h.0, linked-front said xs ys h.1)

-- each row in front ends at or before the row behind
pub linked-seam : (said : RowOf → List ℕ) (xs : List RowOf) (row : RowOf) (ys : List RowOf) → Linked said (xs ++ row ∷ ys) → All (λ x. IsUpTo (said x) row.first) xs
linked-seam said [] row ys h = All-nil (λ x. IsUpTo (said x) row.first)
linked-seam said (x ∷ xs) row ys h =
    All-cons (λ x. IsUpTo (said x) row.first) x xs (All-head (λ r. IsUpTo (said x) r.first) row ys (All-back (λ r. IsUpTo (said x) r.first) xs (row ∷ ys) h.0)) (linked-seam said xs row ys h.1)

-- rows up to a place, new ones from there on and up to another, and rows from that on
record Between (said : RowOf → List ℕ) (from reach : List ℕ) (front new back : List RowOf) : Type 0 where
  order : IsUpTo from reach
  front_linked : Linked said front
  new_linked : Linked said new
  back_linked : Linked said back
  front_ends : All (λ x. IsUpTo (said x) from) front
  new_past : All (λ y. IsUpTo from y.first) new
  new_ends : All (λ x. IsUpTo (said x) reach) new
  back_past : All (λ y. IsUpTo reach y.first) back

up_to_all : (said : RowOf → List ℕ) (at : List ℕ) (xs ys : List RowOf) → All (λ x. IsUpTo (said x) at) xs → All (λ y. IsUpTo at y.first) ys → All (λ x. All (λ y. IsUpTo (said x) y.first) ys) xs
up_to_all said at xs ys ends past =
    All-weaker (λ x. IsUpTo (said x) at) (λ x. All (λ y. IsUpTo (said x) y.first) ys)
    (λ x le. All-weaker (λ y. IsUpTo at y.first) (λ y. IsUpTo (said x) y.first) (λ y more. upto_upto (said x) at y.first le more) ys past) xs ends

linked-between : (said : RowOf → List ℕ) (from reach : List ℕ) (front new back : List RowOf) → Between said from reach front new back → Linked said (front ++ new ++ back)
linked-between said from reach front new back b =
    linked-join said (front ++ new) back (linked-join said front new b.front_linked b.new_linked (up_to_all said from front new b.front_ends b.new_past)) b.back_linked
    (up_to_all said reach (front ++ new) back
    (All-append (λ x. IsUpTo (said x) reach) front new (All-weaker (λ x. IsUpTo (said x) from) (λ x. IsUpTo (said x) reach) (λ x le. upto_upto (said x) from reach le b.order) front b.front_ends) b.new_ends) b.back_past)

-- ---- the longer row and those behind it

pub well_formed_of_last : (start : List ℕ) (rows : List RowOf) (row : RowOf) → All (IsWellFormedRow content_widths) rows → InOrder rows → last_before start rows ≡ Some row → IsWellFormedRow content_widths row
well_formed_of_last start rows row well_formed order last =
    let s = split_at_last start rows row order last in
    All-head (IsWellFormedRow content_widths) row s.back (All-back (IsWellFormedRow content_widths) s.front (row ∷ s.back) (subst (All (IsWellFormedRow content_widths)) s.is well_formed))

-- a put that lengthens the last row, which is the row of a tree
pub record IsLonger (start bytes : List ℕ) (rows : List RowOf) (row : RowOf) (new : List RowOf) : Type 0 where
  pub next : IsNext start (laid_out rows)
  pub well_formed : All (IsWellFormedRow content_widths) rows
  pub order : InOrder rows
  pub parts : SplitAt start rows row
  pub ends : end_of_row row ≡ start
  pub made : AreLeaves row.first (row.leaf.items ++ bytes) new

-- ---- rows in front, of which a gap takes none

not_one : (n a b : ℕ) → suc n ≡ 1 → n ≡ a + suc b → ⊥
not_one n a b e sum = omega (arith, e, sum)

empty_front : {X : Type 0} (xs : List X) (y : X) (ys : List X) → length (xs ++ y ∷ ys) ≡ 1 → xs ≡ []
empty_front [] y ys e = refl
empty_front (x ∷ xs) y ys e = absurd (not_one (length (xs ++ y ∷ ys)) (length xs) (length ys) e (length-append xs (y ∷ ys)))

taken_some : (b : Bool) (r : RowOf) (rs : List RowOf) → b ≡ true → cond b (r ∷ rs) rs ≡ [] → ⊥
taken_some true r rs is e = let never : ⊥ = cc in never
taken_some false r rs is e = let never : ⊥ = cc in never

none_within : (from to : List ℕ) (front : List RowOf) → All (λ r. comes_before r.first to ≡ true) front → filter (is_within from to) front ≡ [] → All (λ r. comes_before r.first from ≡ true) front
none_within from to [] all none = All-nil (λ r. comes_before r.first from ≡ true)
none_within from to (r ∷ rs) all none =
    by_test (comes_before r.first from) refl (All-head (λ r. comes_before r.first to ≡ true) r rs all) none (λ none. none_within from to rs (All-tail (λ r. comes_before r.first to ≡ true) r rs all) none)
  where
    by_test : (b : Bool) → comes_before r.first from ≡ b → comes_before r.first to ≡ true → cond (not b && comes_before r.first to) (r ∷ filter (is_within from to) rs) (filter (is_within from to) rs) ≡ []
        → (filter (is_within from to) rs ≡ [] → All (λ r. comes_before r.first from ≡ true) rs) → All (λ r. comes_before r.first from ≡ true) (r ∷ rs)
    by_test true is here none more = All-cons (λ r. comes_before r.first from ≡ true) r rs is (more none)
    by_test false is here none more = absurd (taken_some (comes_before r.first to) r (filter (is_within from to) rs) here none)

pub one_taken : {X : Type 0} (f : X → RowOf) (out : List X) (n : ℕ) (from to first start : List ℕ) (rows : List RowOf) → map f out ≡ taken_out from to rows → from ≡ first → to ≡ start → n ≡ length out → n ≡ 1 → length (taken_out first start rows) ≡ 1
one_taken f out n from to first start rows outs from_is to_is long one =
    ap (λ a. length (taken_out a start rows)) (sym from_is) ∙ ap (λ a. length (taken_out from a rows)) (sym to_is) ∙ sym (ap length outs) ∙ length-map out f ∙ sym long ∙ one

module _ (start bytes : List ℕ) (rows : List RowOf) (row : RowOf) (new : List RowOf) (h : IsLonger start bytes rows row new) where
  row_well_formed : IsWellFormedRow content_widths row
  row_well_formed = let s = h.parts in All-head (IsWellFormedRow content_widths) row s.back (All-back (IsWellFormedRow content_widths) s.front (row ∷ s.back) (subst (All (IsWellFormedRow content_widths)) s.is h.well_formed))

  pub row_byte : IsByteOf row.first h.next.document
  row_byte = byte_from_end start h.next.document row h.next.address row_well_formed.first_coordinate (row_filled row row_well_formed) h.ends

  back_well_formed : All (IsWellFormedRow content_widths) h.parts.back
  back_well_formed = let s = h.parts in All-tail (IsWellFormedRow content_widths) row s.back (All-back (IsWellFormedRow content_widths) s.front (row ∷ s.back) (subst (All (IsWellFormedRow content_widths)) s.is h.well_formed))

  stays : All (StaysBelow start h.next.document) (h.parts.front ++ row ∷ h.parts.back)
  stays = subst (All (StaysBelow start h.next.document)) h.parts.is (stay_below start rows h.next)

  back_stays : All (StaysBelow start h.next.document) h.parts.back
  back_stays = let s = h.parts in All-tail (StaysBelow start h.next.document) row s.back (All-back (StaysBelow start h.next.document) s.front (row ∷ s.back) stays)

  reach_is : so_far_on row.first (length (row.leaf.items ++ bytes)) ≡ so_far_on start (length bytes)
  reach_is =
      ap (so_far_on row.first) (length-append row.leaf.items bytes) ∙ sym (step-twice row.first h.next.document row_byte (length row.leaf.items) (length bytes)) ∙ ap (λ a. so_far_on a (length bytes)) h.ends

  far_rows : All (λ y. IsUpTo (so_far_on start (length bytes)) y.first) h.parts.back
  far_rows = far h.parts.back back_well_formed back_stays h.parts.past
    where
      far : (back : List RowOf) → All (IsWellFormedRow content_widths) back → All (StaysBelow start h.next.document) back → All (λ r. comes_before r.first start ≡ false) back → All (λ y. IsUpTo (so_far_on start (length bytes)) y.first) back
      far [] well_formed stay past = All-nil (λ y. IsUpTo (so_far_on start (length bytes)) y.first)
      far (r ∷ rs) well_formed stay past =
          All-cons (λ y. IsUpTo (so_far_on start (length bytes)) y.first) r rs
          (back-past start h.next.document r (length bytes) h.next.address (row_some r (All-head (IsWellFormedRow content_widths) r rs well_formed)) (All-head (StaysBelow start h.next.document) r rs stay)
          (up_to_if_false r.first start (All-head (λ r. comes_before r.first start ≡ false) r rs past)))
          (far rs (All-tail (IsWellFormedRow content_widths) r rs well_formed) (All-tail (StaysBelow start h.next.document) r rs stay) (All-tail (λ r. comes_before r.first start ≡ false) r rs past))

  start_reach : IsUpTo row.first (so_far_on start (length bytes))
  start_reach =
      upto_upto row.first start (so_far_on start (length bytes)) (subst (IsUpTo row.first) h.ends (first_up_to_end row)) (sum-upto start (width_at (length start) (length bytes)) (EndsWell-width_at (length start) (length bytes)))

  new_reach : All (λ x. IsUpTo (end_of_row x) (so_far_on start (length bytes))) new
  new_reach = subst (λ a. All (λ x. IsUpTo (end_of_row x) a) new) reach_is h.made.ended

  back_linked : (said : RowOf → List ℕ) → Linked said rows → Linked said h.parts.back
  back_linked said l = (linked-back said h.parts.front (row ∷ h.parts.back) (subst (Linked said) h.parts.is l)).1

  exchanged-is : (gap : Gap) → gap.from ≡ row.first → gap.to ≡ start → gap.onto ≡ start → exchanged gap new rows ≡ rows_before row.first rows ++ new ++ h.parts.back
  exchanged-is gap f t o =
      ap (λ a. rows_before a rows ++ new ++ shifted gap.to gap.onto (rows_past gap.to rows)) f
      ∙ ap (λ a. rows_before row.first rows ++ new ++ shifted a gap.onto (rows_past a rows)) t
      ∙ ap (λ a. rows_before row.first rows ++ new ++ shifted start a (rows_past start rows)) o
      ∙ ap (λ (xs : List RowOf). rows_before row.first rows ++ new ++ xs) (past_are start rows row h.parts)

  ordered_now : InOrder (rows_before row.first rows ++ new ++ h.parts.back)
  ordered_now =
      let first : RowOf → List ℕ = λ r. r.first in
      let reach = so_far_on start (length bytes) in
      let test : RowOf → Bool = λ r. comes_before r.first row.first in
      let linked = linked_if_ordered rows h.order in
      ordered_if_linked (rows_before row.first rows ++ new ++ h.parts.back)
      (linked-between first row.first reach (rows_before row.first rows) new h.parts.back record {
        order = start_reach;
        front_linked = linked-filter first test rows linked;
        new_linked = linked-weaker end_of_row first first_up_to_end new h.made.apart;
        back_linked = back_linked first linked;
        front_ends = All-weaker (λ r. test r ≡ true) (λ r. IsUpTo r.first row.first) (λ r e. upto_if_before r.first row.first (before_if_true r.first row.first e)) (rows_before row.first rows) (filter_passes test rows);
        new_past = h.made.past;
        new_ends = All-weaker (λ r. IsUpTo (end_of_row r) reach) (λ r. IsUpTo r.first reach) (λ r le. upto_upto r.first (end_of_row r) reach (first_up_to_end r) le) new new_reach;
        back_past = far_rows;
      })

  pub longer-well_formed : (gap : Gap) → gap.from ≡ row.first → gap.to ≡ start → gap.onto ≡ start → IsWellFormedRows content_widths (exchanged gap new rows)
  longer-well_formed gap f t o = subst (IsWellFormedRows content_widths) (sym (exchanged-is gap f t o)) record {
    each = All-append (IsWellFormedRow content_widths) (rows_before row.first rows ++ new) h.parts.back
        (All-append (IsWellFormedRow content_widths) (rows_before row.first rows) new (All-filter (λ r. comes_before r.first row.first) (IsWellFormedRow content_widths) rows h.well_formed) h.made.well_formed) back_well_formed;
    ordered = ordered_now;
  }

  -- ---- where the rows were content

  front_leaves : IsContent rows → All IsLeaf h.parts.front
  front_leaves old = All-front IsLeaf h.parts.front (row ∷ h.parts.back) (subst (All IsLeaf) h.parts.is old.leaves)

  row_back_leaves : IsContent rows → All IsLeaf (row ∷ h.parts.back)
  row_back_leaves old = All-back IsLeaf h.parts.front (row ∷ h.parts.back) (subst (All IsLeaf) h.parts.is old.leaves)

  front_seam : IsContent rows → All (λ x. IsUpTo (end_of_row x) row.first) h.parts.front
  front_seam old = linked-seam end_of_row h.parts.front row h.parts.back (subst (Linked end_of_row) h.parts.is old.apart)

  front_before : IsContent rows → All (λ r. comes_before r.first row.first ≡ true) h.parts.front
  front_before old =
      let s = h.parts in
      all_both (IsWellFormedRow content_widths) (λ x. IsUpTo (end_of_row x) row.first) (λ r. comes_before r.first row.first ≡ true)
      (λ r well_formed le. true_if_before r.first row.first (before_upto r.first (end_of_row r) row.first
      (subst (λ a. IsBefore a (end_of_row r)) (step-none r.first) (steps-before r.first 0 (length r.leaf.items) (row_filled r well_formed) (row_some r well_formed))) le))
      s.front (All-front (IsWellFormedRow content_widths) s.front (row ∷ s.back) (subst (All (IsWellFormedRow content_widths)) s.is h.well_formed)) (front_seam old)

  before_are : All (λ r. comes_before r.first row.first ≡ true) h.parts.front → rows_before row.first rows ≡ h.parts.front
  before_are all_before =
      let s = h.parts in
      let test : RowOf → Bool = λ r. comes_before r.first row.first in
      let reach = so_far_on start (length bytes) in
      ap (filter test) s.is ∙ filter-append test s.front (row ∷ s.back)
      ∙ ap (λ (xs : List RowOf). xs ++ filter test (row ∷ s.back)) (filter-all test s.front all_before)
      ∙ ap (λ (xs : List RowOf). s.front ++ xs) (filter-none test (row ∷ s.back) (All-cons (λ r. test r ≡ false) row s.back (false_if_up_to row.first row.first (upto_itself row.first))
      (All-weaker (λ y. IsUpTo reach y.first) (λ r. test r ≡ false) (λ r le. false_if_up_to r.first row.first (upto_upto row.first reach r.first start_reach le)) s.back far_rows)))
      ∙ append-nil s.front

  now_is : (gap : Gap) → gap.from ≡ row.first → gap.to ≡ start → gap.onto ≡ start → All (λ r. comes_before r.first row.first ≡ true) h.parts.front → exchanged gap new rows ≡ h.parts.front ++ new ++ h.parts.back
  now_is gap f t o all_before = exchanged-is gap f t o ∙ ap (λ (xs : List RowOf). xs ++ new ++ h.parts.back) (before_are all_before)

  pub longer-content : (gap : Gap) → gap.from ≡ row.first → gap.to ≡ start → gap.onto ≡ start → IsContent rows → IsContent (exchanged gap new rows)
  longer-content gap f t o old =
      let s = h.parts in
      subst IsContent (sym (now_is gap f t o (front_before old))) record {
        leaves = All-append IsLeaf (s.front ++ new) s.back (All-append IsLeaf s.front new (front_leaves old) h.made.leaves) (All-tail IsLeaf row s.back (row_back_leaves old));
        apart = linked-between end_of_row row.first (so_far_on start (length bytes)) s.front new s.back record {
          order = start_reach;
          front_linked = linked-front end_of_row s.front (row ∷ s.back) (subst (Linked end_of_row) s.is old.apart);
          new_linked = h.made.apart;
          back_linked = back_linked end_of_row old.apart;
          front_ends = front_seam old;
          new_past = h.made.past;
          new_ends = new_reach;
          back_past = far_rows;
        };
      }

  new_laid : laid_out new ≡ laid_row row ++ laid start bytes
  new_laid = h.made.are_laid ∙ laid-append row.first h.next.document row_byte row.leaf.items bytes ∙ ap (λ a. laid_row row ++ laid a bytes) h.ends

  back_in : put_in start (laid start bytes) (laid_out h.parts.back) ≡ laid start bytes ++ laid_out h.parts.back
  back_in = placed h.parts.back back_well_formed h.parts.past
    where
      placed : (back : List RowOf) → All (IsWellFormedRow content_widths) back → All (λ r. comes_before r.first start ≡ false) back → put_in start (laid start bytes) (laid_out back) ≡ laid start bytes ++ laid_out back
      placed [] well_formed past = sym (append-nil (laid start bytes))
      placed (r ∷ rs) well_formed past =
          put_in-row start (laid start bytes) r.first r.leaf.items (laid_out rs) (row_some r (All-head (IsWellFormedRow content_widths) r rs well_formed)) (All-head (λ r. comes_before r.first start ≡ false) r rs past)

  front_bytes : IsContent rows → All (λ (at : ByteAt). comes_before at.address start ≡ true) (laid_out h.parts.front)
  front_bytes old =
      let s = h.parts in
      let document = h.next.document in
      let Before : RowOf → Type 0 = λ r. comes_before r.first start ≡ true in
      let Both : RowOf → Type 0 = λ r. StaysBelow start document r × Before r in
      let both : All Both s.front = all_both (StaysBelow start document) Before Both (λ r stay e. (stay, e)) s.front (All-front (StaysBelow start document) s.front (row ∷ s.back) stays) s.before in
      All-flat (λ (at : ByteAt). comes_before at.address start ≡ true) laid_row s.front
      (all_both IsLeaf Both (λ r. All (λ (at : ByteAt). comes_before at.address start ≡ true) (laid_row r))
      (λ r leaf b. front-row start document r h.next.address leaf b.0 (before_if_true r.first start b.1)) s.front (front_leaves old) both)

  row_bytes : IsContent rows → All (λ (at : ByteAt). comes_before at.address start ≡ true) (laid_row row)
  row_bytes old =
      let s = h.parts in
      front-row start h.next.document row h.next.address (All-head IsLeaf row s.back (row_back_leaves old)) (All-head (StaysBelow start h.next.document) row s.back (All-back (StaysBelow start h.next.document) s.front (row ∷ s.back) stays))
      (before_if_true row.first start s.here)

  pub longer-laid : (gap : Gap) → gap.from ≡ row.first → gap.to ≡ start → gap.onto ≡ start → IsContent rows → laid_out (exchanged gap new rows) ≡ put_in start (laid start bytes) (laid_out rows)
  longer-laid gap f t o old =
      let s = h.parts in
      let N = laid start bytes in
      let F = laid_out s.front in
      let R = laid_row row in
      let B = laid_out s.back in
      ap laid_out (now_is gap f t o (front_before old))
      ∙ flat_map-append laid_row (s.front ++ new) s.back
      ∙ ap (λ (bs : List ByteAt). bs ++ B) (flat_map-append laid_row s.front new ∙ ap (λ (bs : List ByteAt). F ++ bs) new_laid)
      ∙ append_assoc F (R ++ N) B
      ∙ ap (λ (bs : List ByteAt). F ++ bs) (append_assoc R N B ∙ ap (λ (bs : List ByteAt). R ++ bs) (sym back_in) ∙ sym (put_in-front start N R B (row_bytes old)))
      ∙ sym (put_in-front start N F (R ++ B) (front_bytes old))
      ∙ ap (put_in start N) (sym (ap laid_out s.is ∙ flat_map-append laid_row s.front (row ∷ s.back)))

  -- ---- where no other row begins as it does

  alone_before : length (taken_out row.first start rows) ≡ 1 → All (λ r. comes_before r.first row.first ≡ true) h.parts.front
  alone_before one =
      let s = h.parts in
      let within : RowOf → Bool = is_within row.first start in
      let here : within row ≡ true = ap (λ t. not t && comes_before row.first start) (false_if_up_to row.first row.first (upto_itself row.first)) ∙ s.here in
      let parted : taken_out row.first start rows ≡ filter within s.front ++ row ∷ filter within s.back =
      ap (filter within) s.is ∙ filter-append within s.front (row ∷ s.back) ∙ ap (λ t. filter within s.front ++ cond t (row ∷ filter within s.back) (filter within s.back)) here in
      none_within row.first start s.front s.before (empty_front (filter within s.front) row (filter within s.back) (sym (ap length parted) ∙ one))

  pub longer-comes_in : (gap : Gap) → gap.from ≡ row.first → gap.to ≡ start → gap.onto ≡ start → length (taken_out row.first start rows) ≡ 1 → ComesIn (laid start bytes) (laid_out rows) (laid_out (exchanged gap new rows))
  longer-comes_in gap f t o one =
      let s = h.parts in
      let N = laid start bytes in
      let F = laid_out s.front in
      let R = laid_row row in
      let B = laid_out s.back in
      record {
        front = F ++ R;
        back = B;
        was = ap laid_out s.is ∙ flat_map-append laid_row s.front (row ∷ s.back) ∙ sym (append_assoc F R B);
        is =
            ap laid_out (now_is gap f t o (alone_before one))
            ∙ flat_map-append laid_row (s.front ++ new) s.back
            ∙ ap (λ (bs : List ByteAt). bs ++ B) (flat_map-append laid_row s.front new ∙ ap (λ (bs : List ByteAt). F ++ bs) new_laid)
            ∙ ap (λ (bs : List ByteAt). bs ++ B) (sym (append_assoc F R N));
      }

-- ---- from what the code has

abbrev last_split : (start bytes : List ℕ) (rows : List RowOf) (made : Lengthened) → InOrder rows → (l : Lengthens start bytes rows made) → SplitAt start rows l.row
last_split start bytes rows made order l = split_at_last start rows l.row order l.last

pub longer : (start bytes : List ℕ) (rows : List RowOf) (made : Lengthened) (text : List ℕ) (new : List RowOf) → IsNext start (laid_out rows) → All (IsWellFormedRow content_widths) rows → InOrder rows → (l : Lengthens start bytes rows made)
    → text ≡ made.text.items → AreLeaves made.from text new → IsLonger start bytes rows l.row new
longer start bytes rows made text new next well_formed order l is leaves = record {
  next = next;
  well_formed = well_formed;
  order = order;
  parts = last_split start bytes rows made order l;
  ends = l.ends;
  made = subst (λ a. AreLeaves a (l.row.leaf.items ++ bytes) new) l.place (subst (λ bs. AreLeaves made.from bs new) (is ∙ l.text) leaves);
}

-- the longer row begins at a content byte's address, and there is room for all its bytes
pub record HasRoom (from : List ℕ) (count : ℕ) : Type 0 where
  pub address : IsByteAddress from
  pub room : last_of from + count < place_bound

pub longer-room : (start bytes : List ℕ) (rows : List RowOf) (made : Lengthened) (text : List ℕ) → IsNext start (laid_out rows) → All (IsWellFormedRow content_widths) rows → InOrder rows → (l : Lengthens start bytes rows made) → text ≡ made.text.items
    → last_of start + length bytes < place_bound → HasRoom made.from (length text)
longer-room start bytes rows made text next well_formed order l is room =
    let row = l.row in
    let n = length row.leaf.items in
    let r = well_formed_of_last start rows row well_formed order l.last in
    let b = byte_from_end start next.document row next.address r.first_coordinate (row_filled row r) l.ends in
    let long : length text ≡ n + length bytes = ap length (is ∙ l.text) ∙ length-append row.leaf.items bytes in
    let last : last_of start ≡ last_of row.first + n = ap last_of (sym l.ends) ∙ last-step row.first next.document b n in
    let from : last_of made.from ≡ last_of row.first = ap last_of l.place in
    record { address = (next.document, subst (λ a. IsByteOf a next.document) (sym l.place) b); room = omega (arith, long, last, from, room) }
