-- Of spans that come one after another, the last one that starts before the end of a run meets it if any does.
use Rattle.std.proofs.Common.{◌≡◌, ◌≢◌, ◌⊎◌, ℕ, zero, suc, ◌+◌, ◌-◌, ◌<◌, ◌≤◌, Bool, true, false, ◌||◌, cond, List, [], ◌∷◌, length, get_or, refl, sym, ap, ◌∙◌, subst, arith, true≢false, inl, inr}
use Rattle.std.proofs.Math.Numerals.{one-add}
use Rattle.std.specs.List.{list_any, prefix_len}
use Rattle.std.specs.List.Sorted.{IsPartitionedBy}
use Rattle.std.proofs.lemmas.Bool.{and_parts, and_from, cases_lt}
use Rattle.std.proofs.lemmas.List.Elements.{All-tail}
use Rattle.tumbler.specs.Places.{IsBefore, comes_before, sum}
use Rattle.tumbler.specs.Span.{end_of}
use Rattle.tumbler.specs.declared.span.Span.{Span}
use Rattle.tumbler.proofs.Order.{upto_before, before_before, upto_if_before}
use Rattle.tumbler.proofs.Before.{before_if_true, true_if_before}
use Rattle.enfilade_core.specs.Axes.{later}
use Rattle.enfilade_core.proofs.Later.{later-first}
use Rattle.enfilade_search.specs.Meeting.{touches}
use Rattle.enfilade_search.proofs.Touching.{first_up_to_later, second_up_to_later}
use Rattle.spanfilade.specs.Apart.{HasPlaces, EndsBefore, AreApart}
use Rattle.links.specs.Finding.{spans_meet}

-- ---- spans that are apart

apart_rest : (s : Span) (spans : List Span) → AreApart (s ∷ spans) → AreApart spans
apart_rest s spans apart = record {
  filled = All-tail HasPlaces s spans apart.filled;
  apart = λ i j d lt within. apart.apart (suc i) (suc j) d (omega arith) (omega arith);
}

starts_before_later : (spans : List Span) → AreApart spans → (i j : ℕ) (d : Span) → i < j → j < length spans → IsBefore (get_or spans i d).start (get_or spans j d).start
starts_before_later spans apart i j d lt within =
    before_before (get_or spans i d).start (end_of (get_or spans i d)) (get_or spans j d).start (apart.filled i d (omega arith)) (apart.apart i j d lt within)

pub starts_parted : (place : List ℕ) (spans : List Span) → AreApart spans → IsPartitionedBy (λ (span : Span). comes_before span.start place) spans
starts_parted place spans apart i j d upto within passes = step (cases_lt i j)
  where
    step : (i < j) ⊎ (j ≤ i) → comes_before (get_or spans i d).start place ≡ true
    step (inl below) =
        true_if_before (get_or spans i d).start place
        (before_before (get_or spans i d).start (get_or spans j d).start place (starts_before_later spans apart i j d below within) (before_if_true (get_or spans j d).start place passes))
    step (inr above) = let same : j ≡ i = omega arith in subst (λ (k : ℕ). comes_before (get_or spans k d).start place ≡ true) same passes

-- ---- one run

module _ (place : List ℕ) (x : ℕ) (width : List ℕ) where
  abbrev last : List ℕ
  last = sum place (x ∷ width)

  abbrev meets : Span → Bool
  meets span = touches span.start (end_of span) place (x ∷ width)

  abbrev starts : Span → Bool
  starts span = comes_before span.start last

  parts : (span : Span) → meets span ≡ true → IsBefore (later span.start place) (end_of span) × IsBefore (later span.start place) last
  parts span is =
      let p = and_parts (comes_before (later span.start place) (end_of span)) (comes_before (later span.start place) last) is in
      (before_if_true (later span.start place) (end_of span) p.0, before_if_true (later span.start place) last p.1)

  meets-starts : (span : Span) → meets span ≡ true → starts span ≡ true
  meets-starts span is = true_if_before span.start last (upto_before span.start (later span.start place) last (first_up_to_later span.start place) (parts span is).1)

  meets-later : (a b : Span) → meets a ≡ true → EndsBefore a b → HasPlaces b → starts b ≡ true → meets b ≡ true
  meets-later a b is apart filled start =
      let reached : IsBefore place (end_of a) = upto_before place (later a.start place) (end_of a) (second_up_to_later a.start place) (parts a is).0 in
      let here : later b.start place ≡ b.start = later-first b.start place (upto_if_before place b.start (before_before place (end_of a) b.start reached apart)) in
      and_from (comes_before (later b.start place) (end_of b)) (comes_before (later b.start place) last)
      (ap (λ (s : List ℕ). comes_before s (end_of b)) here ∙ true_if_before b.start (end_of b) filled)
      (ap (λ (s : List ℕ). comes_before s last) here ∙ start)

  -- ---- the spans that start before its end

  abbrev counted : List Span → ℕ
  counted spans = prefix_len starts spans

  counted_more : (s : Span) (spans : List Span) → starts s ≡ true → counted (s ∷ spans) ≡ suc (counted spans)
  counted_more s spans is = ap (λ (b : Bool). cond b (1 + counted spans) 0) is ∙ one-add (counted spans)

  counted_none : (s : Span) (spans : List Span) → starts s ≡ false → counted (s ∷ spans) ≡ 0
  counted_none s spans is = ap (λ (b : Bool). cond b (1 + counted spans) 0) is

  starts_in : (spans : List Span) (k : ℕ) (d : Span) → k < counted spans → starts (get_or spans k d) ≡ true
  starts_in [] k d lt = absurd (omega arith)
  starts_in (s ∷ spans) k d lt = step (starts s) refl k lt (λ j. starts_in spans j d)
    where
      step : (b : Bool) → starts s ≡ b → (k : ℕ) → k < counted (s ∷ spans) → ((j : ℕ) → j < counted spans → starts (get_or spans j d) ≡ true) → starts (get_or (s ∷ spans) k d) ≡ true
      step false e k lt rest = let none = counted_none s spans e in absurd (omega arith)
      step true e zero lt rest = e
      step true e (suc k) lt rest = let more = counted_more s spans e in rest k (omega arith)

  counted_within : (spans : List Span) → counted spans ≤ length spans
  counted_within [] = omega arith
  counted_within (s ∷ spans) = step (starts s) refl (counted_within spans)
    where
      step : (b : Bool) → starts s ≡ b → counted spans ≤ length spans → counted (s ∷ spans) ≤ length (s ∷ spans)
      step false e le = let none = counted_none s spans e in omega arith
      step true e le = let more = counted_more s spans e in omega arith

  any_at : (spans : List Span) (k : ℕ) (d : Span) → k < length spans → meets (get_or spans k d) ≡ true → list_any meets spans ≡ true
  any_at [] k d lt is = absurd (omega arith)
  any_at (s ∷ spans) zero d lt is = ap (λ (b : Bool). b || list_any meets spans) is
  any_at (s ∷ spans) (suc k) d lt is = step (meets s) (any_at spans k d (omega arith) is)
    where
      step : (b : Bool) → list_any meets spans ≡ true → (b || list_any meets spans) ≡ true
      step true e = refl
      step false e = e

  -- the last span that starts before the run's end
  record LastMeets (spans : List Span) : Type 0 where
    some : 0 < counted spans
    meets_it : (d : Span) → meets (get_or spans (counted spans - 1) d) ≡ true

  last_meets : (spans : List Span) → AreApart spans → list_any meets spans ≡ true → LastMeets spans
  last_meets [] apart is = absurd (true≢false (sym is))
  last_meets (s ∷ spans) apart is = by_start (last_meets spans (apart_rest s spans apart)) (starts s) refl (meets s) refl (list_any meets spans) refl is
    where
      in_rest : starts s ≡ true → LastMeets spans → LastMeets (s ∷ spans)
      in_rest e found =
          let more = counted_more s spans e in
          let some = found.some in
          let at : counted (s ∷ spans) - 1 ≡ suc (counted spans - 1) = omega arith in
          record { some = omega arith; meets_it = λ d. subst (λ (k : ℕ). meets (get_or (s ∷ spans) k d) ≡ true) (sym at) (found.meets_it d) }

      -- only the first one meets it
      first_only : starts s ≡ true → meets s ≡ true → LastMeets (s ∷ spans)
      first_only e m =
          let more = counted_more s spans e in
          record { some = omega arith; meets_it = λ d. subst (λ (k : ℕ). meets (get_or (s ∷ spans) k d) ≡ true) (omega arith) (at_count d (counted spans) refl) }
        where
          at_count : (d : Span) (n : ℕ) → counted spans ≡ n → meets (get_or (s ∷ spans) n d) ≡ true
          at_count d zero none = m
          at_count d (suc n) some =
              let within = counted_within spans in
              meets-later s (get_or spans n d) m (apart.apart 0 (suc n) d (omega arith) (omega arith)) (apart.filled (suc n) d (omega arith)) (starts_in spans n d (omega arith))

      -- a span behind one that starts too late starts too late
      not_behind : starts s ≡ false → LastMeets spans → ⊥
      not_behind e found =
          let some = found.some in
          let within = counted_within spans in
          let first : IsBefore (get_or spans 0 s).start last = before_if_true (get_or spans 0 s).start last (starts_in spans 0 s some) in
          let ordered : IsBefore s.start (get_or spans 0 s).start = starts_before_later (s ∷ spans) apart 0 1 s (omega arith) (omega arith) in
          true≢false (sym (true_if_before s.start last (before_before s.start (get_or spans 0 s).start last ordered first)) ∙ e)

      by_start : (list_any meets spans ≡ true → LastMeets spans) → (b : Bool) → starts s ≡ b → (m : Bool) → meets s ≡ m → (r : Bool) → list_any meets spans ≡ r → (m || r) ≡ true → LastMeets (s ∷ spans)
      by_start rest_is false e true m r rest either = absurd (true≢false (sym (meets-starts s m) ∙ e))
      by_start rest_is false e false m true rest either = absurd (not_behind e (rest_is rest))
      by_start rest_is b e false m false rest either = absurd (true≢false (sym either))
      by_start rest_is true e m met true rest either = in_rest e (rest_is rest)
      by_start rest_is true e true m false rest either = first_only e m

  pub none_there : (spans : List Span) (count : ℕ) → AreApart spans → count ≡ counted spans → count ≡ 0 → false ≡ list_any meets spans
  none_there spans count apart is none = step (list_any meets spans) refl
    where
      step : (b : Bool) → list_any meets spans ≡ b → false ≡ b
      step false e = refl
      step true e = let found = last_meets spans apart e in let some = found.some in absurd (omega arith)

  pub last_tells : (spans : List Span) (count : ℕ) (one : Span) → AreApart spans → count ≡ counted spans → (count ≡ 0 → ⊥) → one ≡ get_or spans (count - 1) one → meets one ≡ list_any meets spans
  last_tells spans count one apart is some at = step (meets one) refl (list_any meets spans) refl
    where
      step : (a : Bool) → meets one ≡ a → (b : Bool) → list_any meets spans ≡ b → a ≡ b
      step true e true h = refl
      step false e false h = refl
      step true e false h =
          let within = counted_within spans in
          absurd (true≢false (sym (any_at spans (count - 1) one (omega arith) (subst (λ (s : Span). meets s ≡ true) at e)) ∙ h))
      step false e true h =
          let found = last_meets spans apart h in
          let there : meets (get_or spans (count - 1) one) ≡ true = subst (λ (n : ℕ). meets (get_or spans (n - 1) one) ≡ true) (sym is) (found.meets_it one) in
          absurd (true≢false (sym (subst (λ (s : Span). meets s ≡ true) (sym at) there) ∙ e))

-- ---- as the code has it

-- how many start before the other span ends
abbrev pub starting : Span → List Span → ℕ
starting other spans = prefix_len (λ (span : Span). comes_before span.start (end_of other)) spans

pub none_meets : (other : Span) (spans : List Span) (count : ℕ) → other.width ≢ [] → AreApart spans → count ≡ starting other spans → count ≡ 0 → false ≡ list_any (λ (span : Span). spans_meet span other) spans
none_meets other spans count wide apart is none = by_width other.width refl wide
  where
    by_width : (width : List ℕ) → other.width ≡ width → width ≢ [] → false ≡ list_any (λ (span : Span). spans_meet span other) spans
    by_width [] e wide = absurd (wide refl)
    by_width (x ∷ width) e wide =
        subst (λ (w : List ℕ). false ≡ list_any (λ (span : Span). touches span.start (end_of span) other.start w) spans) (sym e)
        (none_there other.start x width spans count apart (subst (λ (w : List ℕ). count ≡ prefix_len (λ (span : Span). comes_before span.start (sum other.start w)) spans) e is) none)

pub one_tells : (other : Span) (spans : List Span) (count : ℕ) (one : Span) → other.width ≢ [] → AreApart spans → count ≡ starting other spans → (count ≡ 0 → ⊥) → one ≡ get_or spans (count - 1) one → spans_meet one other ≡ list_any (λ (span : Span). spans_meet span other) spans
one_tells other spans count one wide apart is some at = by_width other.width refl wide
  where
    by_width : (width : List ℕ) → other.width ≡ width → width ≢ [] → spans_meet one other ≡ list_any (λ (span : Span). spans_meet span other) spans
    by_width [] e wide = absurd (wide refl)
    by_width (x ∷ width) e wide =
        subst (λ (w : List ℕ). touches one.start (end_of one) other.start w ≡ list_any (λ (span : Span). touches span.start (end_of span) other.start w) spans) (sym e)
        (last_tells other.start x width spans count one apart (subst (λ (w : List ℕ). count ≡ prefix_len (λ (span : Span). comes_before span.start (sum other.start w)) spans) e is) some at)
