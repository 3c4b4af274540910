-- Spans that are sorted and joined come one after another.
use Rattle.std.proofs.Common.{◌≡◌, ◌⊎◌, ℕ, zero, suc, ◌+◌, ◌-◌, ◌<◌, Bool, true, false, ◌||◌, List, [], ◌∷◌, ◌++◌, length, get_or, take, refl, arith, ap, ◌∙◌, sym, subst, inl, inr}
use Rattle.std.specs.List.{All}
use Rattle.std.specs.Ordering.{nat_cmp, is_lt}
use Rattle.std.specs.Cmp.{IsStrictWeakOrder}
use Rattle.std.specs.Cmp.Lexicographic.{slice_cmp}
use Rattle.std.specs.List.Sorted.{IsSortedBy}
use Rattle.std.proofs.lemmas.Bool.{false_from_ne_true, true≢false, cases_lt}
use Rattle.std.proofs.lemmas.Cmp.{nat_list_cmp_total}
use Rattle.std.proofs.lemmas.List.{length-take-le, get_or-take}
use Rattle.std.proofs.lemmas.List.Elements.{All-nil, All-push, All-take, All-weaker}
use Rattle.std.proofs.lemmas.List.Quantifiers.{all_pairs_push}
use Rattle.std.proofs.lemmas.List.Sorted.{ranks_by, sorted_far}
use Rattle.tumbler.specs.declared.span.Span.{Span}
use Rattle.tumbler.specs.Places.{IsBefore, IsUpTo, comes_before}
use Rattle.tumbler.specs.Span.{end_of, SpanFits}
use Rattle.tumbler.proofs.Order.{upto_upto, before_upto, upto_itself}
use Rattle.tumbler.proofs.Before.{before_if_true, true_if_before, up_to_if_false}
use Rattle.tumbler.proofs.OrLaws.{or_none}
use Rattle.enfilade_core.specs.declared.tree.Row.{Row}
use Rattle.spanfilade.specs.Apart.{HasPlaces, EndsBefore, AreApart, StartsUpTo, IsByStart, IsJoined}
use Rattle.spanfilade.specs.Keys.{is_met, is_met_by}
use Rattle.spanfilade.proofs.AsOne.{touches-starts}

-- within a list it does not matter what stands past its end
same_there : (xs : List Span) (n : ℕ) (a b : Span) → n < length xs → get_or xs n a ≡ get_or xs n b
same_there [] n a b lt = absurd (omega arith)
same_there (x ∷ xs) zero a b lt = refl
same_there (x ∷ xs) (suc n) a b lt = same_there xs n a b (omega arith)

-- ---- sorted

-- one span starts before another
abbrev pub starts_before : Span → Span → Bool
starts_before a b = is_lt (slice_cmp nat_cmp a.start b.start)

pub starts_rank : IsStrictWeakOrder starts_before
starts_rank = ranks_by nat_list_cmp_total (λ (span : Span). span.start)

pub by_start_if : (spans : List Span) → IsSortedBy starts_before spans → IsByStart spans
by_start_if spans up i j d lt within = up_to_if_false (get_or spans j d).start (get_or spans i d).start (sorted_far starts_before starts_rank spans up i j d (omega arith) within)

-- ---- no place

pub none_meets : (span : Span) → comes_before span.start (end_of span) ≡ false → (row : Row (List ℕ)) → is_met span row ≡ false
none_meets span none row = false_from_ne_true (is_met span row) (λ is.
    let start = touches-starts span.start (end_of span) row.first row.leaf is in
    true≢false (sym (true_if_before span.start (end_of span) start) ∙ none))

pub met_without : (spans : List Span) (span : Span) (has : Bool) → has ≡ comes_before span.start (end_of span) → has ≡ false → (row : Row (List ℕ)) → is_met_by spans row ≡ (is_met_by spans row || is_met span row)
met_without spans span has is none row = or_none (is_met_by spans row) ∙ ap (λ (b : Bool). is_met_by spans row || b) (sym (none_meets span (sym is ∙ none) row))

-- ---- one more span

last_or_before : (k n : ℕ) → k < n → (k < n - 1) ⊎ (k ≡ n - 1)
last_or_before k n lt = elim (cases_lt k (n - 1)) [ inl before ↦ inl before | inr past ↦ inr (omega arith) ]

pub last_pushed : (at : List ℕ) (spans : List Span) (span : Span) → IsJoined at spans → SpanFits span → HasPlaces span → at ≡ span.start → ((d : Span) → 0 < length spans → EndsBefore (get_or spans (length spans - 1) d) span) → IsJoined at (spans ++ span ∷ [])
last_pushed at spans span joined fits filled at_is behind = record {
  fits = All-push SpanFits spans span joined.fits fits;
  apart = record {
    filled = All-push HasPlaces spans span joined.apart.filled filled;
    apart = all_pairs_push EndsBefore spans span joined.apart.apart (λ k d within. step k d within (last_or_before k (length spans) within));
  };
  starts = All-push (StartsUpTo at) spans span joined.starts (subst (IsUpTo span.start) (sym at_is) (upto_itself span.start));
}
  where
    step : (k : ℕ) (d : Span) → k < length spans → (k < length spans - 1) ⊎ (k ≡ length spans - 1) → EndsBefore (get_or spans k d) span
    step k d within (inr is) = subst (λ (j : ℕ). EndsBefore (get_or spans j d) span) (sym is) (behind d (omega arith))
    step k d within (inl before) =
        let last = get_or spans (length spans - 1) d in
        let up : IsUpTo last.start at = joined.starts (length spans - 1) d (omega arith) in
        before_upto (end_of (get_or spans k d)) last.start span.start (joined.apart.apart k (length spans - 1) d before (omega arith)) (subst (IsUpTo last.start) at_is up)

pub first_pushed : (at : List ℕ) (spans : List Span) (span : Span) (count : ℕ) (has : Bool) → IsJoined at spans → SpanFits span → has ≡ comes_before span.start (end_of span) → has ≡ true → at ≡ span.start → count ≡ length spans → count ≡ 0 → IsJoined at (spans ++ span ∷ [])
first_pushed at spans span count has joined fits has_is is at_is counted none =
    last_pushed at spans span joined fits (before_if_true span.start (end_of span) (sym has_is ∙ is)) at_is (λ d some. absurd (omega arith))

pub behind_pushed : (at : List ℕ) (spans : List Span) (span last : Span) (count : ℕ) (has : Bool) → IsJoined at spans → SpanFits span → has ≡ comes_before span.start (end_of span) → has ≡ true → at ≡ span.start → count ≡ length spans
    → last ≡ get_or spans (count - 1) last → IsBefore (end_of last) span.start → IsJoined at (spans ++ span ∷ [])
behind_pushed at spans span last count has joined fits has_is is at_is counted last_is behind =
    last_pushed at spans span joined fits (before_if_true span.start (end_of span) (sym has_is ∙ is)) at_is
    (λ d some. subst (λ (x : Span). EndsBefore x span) (last_is ∙ ap (λ (n : ℕ). get_or spans (n - 1) last) counted ∙ same_there spans (length spans - 1) last d (omega arith)) behind)

-- ---- the last one made longer

pub last_longer : (at : List ℕ) (spans now : List Span) (last one : Span) (count : ℕ) → IsJoined at spans → count ≡ length spans → 0 < length spans → last ≡ get_or spans (count - 1) last → SpanFits one → one.start ≡ last.start → IsUpTo (end_of last) (end_of one)
    → now ≡ take (count - 1) spans ++ one ∷ [] → IsJoined at now
last_longer at spans now last one count joined counted some last_is fits begins reaches is =
    let front = take (count - 1) spans in
    let long : length front ≡ count - 1 = length-take-le (count - 1) spans (omega arith) in
    let last_at : (d : Span) → get_or spans (count - 1) d ≡ last = λ d. same_there spans (count - 1) d last (omega arith) ∙ sym last_is in
    let last_filled : HasPlaces last = subst HasPlaces (last_at last) (joined.apart.filled (count - 1) last (omega arith)) in
    let last_up : IsUpTo last.start at = subst (StartsUpTo at) (last_at last) (joined.starts (count - 1) last (omega arith)) in
    subst (IsJoined at) (sym is) record {
      fits = All-push SpanFits front one (All-take SpanFits (count - 1) spans joined.fits) fits;
      apart = record {
        filled = All-push HasPlaces front one (All-take HasPlaces (count - 1) spans joined.apart.filled)
            (subst (λ (s : List ℕ). IsBefore s (end_of one)) (sym begins) (before_upto last.start (end_of last) (end_of one) last_filled reaches));
        apart = all_pairs_push EndsBefore front one
            (λ i j d lt within. rw (get_or-take (count - 1) spans i d (omega arith), get_or-take (count - 1) spans j d (omega arith)) (joined.apart.apart i j d lt (omega arith)))
            (λ k d within. rw (get_or-take (count - 1) spans k d (omega arith))
            (subst (IsBefore (end_of (get_or spans k d))) (ap (λ (s : Span). s.start) (last_at d) ∙ sym begins) (joined.apart.apart k (count - 1) d (omega arith) (omega arith))));
      };
      starts = All-push (StartsUpTo at) front one (All-take (StartsUpTo at) (count - 1) spans joined.starts) (subst (λ (s : List ℕ). IsUpTo s at) (sym begins) last_up);
    }

pub last_starts : (at : List ℕ) (spans : List Span) (last span : Span) (count : ℕ) → IsJoined at spans → at ≡ span.start → count ≡ length spans → 0 < length spans → last ≡ get_or spans (count - 1) last → IsUpTo last.start span.start
last_starts at spans last span count joined at_is counted some last_is =
    let there = joined.starts (count - 1) last (omega arith) in
    subst (IsUpTo last.start) at_is (subst (StartsUpTo at) (sym last_is) there)

-- ---- span by span

-- up to here the spans are joined, and none of them starts behind a place that none of those so far starts behind
pub record AreJoinedUpTo (so_far made : List Span) : Type 0 where
  pub fits : All SpanFits made
  pub apart : AreApart made
  pub starts : (at : List ℕ) → All (StartsUpTo at) so_far → All (StartsUpTo at) made

pub none_joined : (so_far made : List Span) → made ≡ [] → AreJoinedUpTo so_far made
none_joined so_far made is = subst (AreJoinedUpTo so_far) (sym is) record {
  fits = All-nil SpanFits;
  apart = record { filled = All-nil HasPlaces; apart = λ i j d lt within. absurd (omega arith) };
  starts = λ at all. All-nil (StartsUpTo at);
}

pub joined_here : (sorted items made : List Span) (k : ℕ) (span : Span) → items ≡ sorted → IsByStart sorted → k < length items → span ≡ get_or items k span → AreJoinedUpTo (take k items) made → IsJoined span.start made
joined_here sorted items made k span is up lt at joined = record {
  fits = joined.fits;
  apart = joined.apart;
  starts = joined.starts span.start (λ j d within.
      let short = length-take-le k items (omega arith) in
      rw (get_or-take k items j d (omega arith))
      (subst (λ (s : Span). IsUpTo (get_or items j d).start s.start) (same_there items k d span lt ∙ sym at) (subst IsByStart (sym is) up j k d (omega arith) lt)));
}

pub joined_on : (items now : List Span) (k : ℕ) (span : Span) → k < length items → span ≡ get_or items k span → IsJoined span.start now → AreJoinedUpTo (take (k + 1) items) now
joined_on items now k span lt at joined = record {
  fits = joined.fits;
  apart = joined.apart;
  starts = λ place all.
      let long = length-take-le (k + 1) items (omega arith) in
      let there : IsUpTo (get_or (take (k + 1) items) k span).start place = all k span (omega arith) in
      let here : IsUpTo span.start place = subst (λ (s : Span). IsUpTo s.start place) (get_or-take (k + 1) items k span (omega arith) ∙ sym at) there in
      All-weaker (StartsUpTo span.start) (StartsUpTo place) (λ (s : Span) le. upto_upto s.start span.start place le here) now joined.starts;
}
