-- The logged area has one format, and is read in one way.
use Rattle.std.proofs.Common.{◌≡◌, ◌≢◌, ◌⊎◌, inl, inr, ℕ, ◌+◌, List, [], refl, sym, ◌∙◌, ap, subst}
use Rattle.entry_codec.specs.Logged.{PlainLogged}
use Rattle.entry_codec.specs.Laws.{OneBody, BodySaysLength}
use Rattle.entry_codec.specs.declared.format.LogFormat.{LogFormat}
use Rattle.entry_codec.specs.declared.format.LogFormat.TheVariants.{Old, New}
use Rattle.green_io.specs.Areas.{Areas}
use Rattle.edit_log.specs.Log.{IsEnd, ReadsAs, IsDamagedAt}
use Rattle.edit_log.specs.Second.{IsOpened, InFormat, begins_at, ReadsIn, IsDamagedIn}
use Rattle.edit_log.specs.Laws.{EachHasOneReading}
use Rattle.edit_log.proofs.Readings.{one_list, one_place, none_is_both}
use Rattle.edit_log.proofs.Unique.{tail_of}

-- an area that is open does not read like the end of a log
pub open_is_no_end : (fact : List ℕ → Type 0) (second : List ℕ) → IsOpened fact second → ¬ IsEnd second
open_is_no_end fact second opened ends = gate_is_one 1 refl (subst IsEnd opened.parts ends)
  where
    gate_is_one : (gate : ℕ) → gate ≡ 1 → (gate ≢ 1) ⊎ (opened.rest ≡ []) → ⊥
    gate_is_one gate is (inl other) = other is
    gate_is_one gate is (inr none) = opened.more none

-- what an open area has behind its gate is one thing
pub same_rest : (f g : List ℕ → Type 0) (second : List ℕ) → (a : IsOpened f second) → (b : IsOpened g second) → a.rest ≡ b.rest
same_rest f g second a b = tail_of 1 a.rest b.rest (sym a.parts ∙ b.parts)

-- two facts of one area, each of a format of its own, are of one format, and hold of the same bytes
record InBoth (f g : LogFormat) (fact gact : List ℕ → Type 0) : Type 0 where
  same : f ≡ g
  log : List ℕ
  one : fact log
  other : gact log

in_both : (f g : LogFormat) (fact gact : List ℕ → Type 0) (areas : Areas) → InFormat f fact areas → InFormat g gact areas → InBoth f g fact gact
in_both Old Old fact gact areas a b = record { same = refl; log = areas.log; one = a.1; other = b.1 }
in_both Old New fact gact areas a b = absurd (open_is_no_end gact areas.second b a.0)
in_both New Old fact gact areas a b = absurd (open_is_no_end fact areas.second a b.0)
in_both New New fact gact areas a b = record { same = refl; log = a.rest; one = a.has; other = subst gact (sym (same_rest fact gact areas.second a b)) b.has }

one_format : OneBody → BodySaysLength → (f g : LogFormat) (a b : List PlainLogged) (areas : Areas) → ReadsIn f a areas → ReadsIn g b areas → (f ≡ g) × (a ≡ b)
one_format one says f g a b areas first second =
    let both = in_both f g (ReadsAs f a) (ReadsAs g b) areas first second in
    (both.same, one_list one says f both.log a b both.one (subst (λ (h : LogFormat). ReadsAs h b both.log) (sym both.same) both.other))

one_damage : OneBody → (f g : LogFormat) (a b : ℕ) (areas : Areas) → IsDamagedIn f a areas → IsDamagedIn g b areas → (f ≡ g) × (a ≡ b)
one_damage one f g a b areas first second =
    let both = in_both f g (IsDamagedAt f first.0) (IsDamagedAt g second.0) areas first.2 second.2 in
    let offset : first.0 ≡ second.0 = one_place one f both.log first.0 second.0 both.one (subst (λ (h : LogFormat). IsDamagedAt h second.0 both.log) (sym both.same) both.other) in (
      both.same,
      first.1 ∙ ap (λ (n : ℕ). begins_at f + n) offset ∙ ap (λ (h : LogFormat). begins_at h + second.0) both.same ∙ sym second.1,
    )

none_both : OneBody → BodySaysLength → (f g : LogFormat) (rows : List PlainLogged) (place : ℕ) (areas : Areas) → ReadsIn f rows areas → ¬ IsDamagedIn g place areas
none_both one says f g rows place areas reads damaged =
    let both = in_both f g (ReadsAs f rows) (IsDamagedAt g damaged.0) areas reads damaged.2 in
    none_is_both one says f both.log rows damaged.0 both.one (subst (λ (h : LogFormat). IsDamagedAt h damaged.0 both.log) (sym both.same) both.other)

pub one_reading : OneBody → BodySaysLength → EachHasOneReading
one_reading one says areas = record {
  rows = λ f g a b first second. one_format one says f g a b areas first second;
  place = λ f g a b first second. one_damage one f g a b areas first second;
  apart = λ f g rows place reads damaged. none_both one says f g rows place areas reads damaged;
}
