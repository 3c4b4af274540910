-- Spans and specs that fit: the first ones, one more, and all.
use Rattle.std.proofs.Common.{◌≡◌, ◌∙◌, ◌↔◌, ℕ, ◌+◌, ◌<◌, ◌≤◌, Bool, true, false, IsTrue, List, [], ◌∷◌, ◌++◌, length, map, take, All, get_or, refl, sym, ap, subst, arith}
use Rattle.std.proofs.lemmas.Bool.{true≢false}
use Rattle.std.proofs.lemmas.List.{take_all, map_more, length-map, get_or-map}
use Rattle.std.proofs.lemmas.List.Elements.{All-push, All-more}
use Rattle.tumbler.specs.declared.span.Span.{Span}
use Rattle.tumbler.specs.Span.{SpanFits}
use Rattle.febe_data.specs.declared.spec.Spec.{Spec}
use Rattle.febe_data.specs.Plain.{plain_spec}
use Rattle.world_rules.specs.World.{World, has_document}
use Rattle.entry_fits.specs.Fits.{SpecFits}

pub one_more_span : (spans : List Span) (i : ℕ) (span : Span) → i < length spans → span ≡ get_or spans i span → SpanFits span → All SpanFits (take i spans) → All SpanFits (take (i + 1) spans)
one_more_span spans i span lt is fit front = All-more SpanFits spans i span lt front (subst SpanFits is fit)

-- where the first ones are all there are
pub all_spans : (spans : List Span) (i : ℕ) → length spans ≤ i → All SpanFits (take i spans) → IsTrue true ↔ All SpanFits spans
all_spans spans i past front = ((λ yes. subst (All SpanFits) (take_all i spans past) front), (λ all. refl))

module _ (world : World) (specs : List Spec) (i : ℕ) where
  pub all_specs : length specs ≤ i → All (SpecFits world) (map plain_spec (take i specs)) → IsTrue true ↔ All (SpecFits world) (map plain_spec specs)
  all_specs past front = ((λ yes. subst (λ (s : List Spec). All (SpecFits world) (map plain_spec s)) (take_all i specs past) front), (λ all. refl))

  module _ (spec : Spec) (lt : i < length specs) (is : spec ≡ get_or specs i spec) where
    pub one_more : (has : Bool) → has ≡ has_document world spec.document → IsTrue has → (spans : List Span) → spans ≡ spec.spans.items → All SpanFits spans → All (SpecFits world) (map plain_spec (take i specs)) → All (SpecFits world) (map plain_spec (take (i + 1) specs))
    one_more has tells there spans are fit front =
        let grown : map plain_spec (take (i + 1) specs) ≡ map plain_spec (take i specs) ++ plain_spec spec ∷ [] = map_more plain_spec specs i spec lt ∙ ap (λ (s : Spec). map plain_spec (take i specs) ++ plain_spec s ∷ []) (sym is) in
        rw grown (All-push (SpecFits world) (map plain_spec (take i specs)) (plain_spec spec) front (record { there = sym tells ∙ there; spans = subst (All SpanFits) are fit }))

    fits_at : All (SpecFits world) (map plain_spec specs) → SpecFits world (plain_spec spec)
    fits_at all =
        let within : i < length (map plain_spec specs) = omega (arith, length-map specs plain_spec) in
        let there : get_or (map plain_spec specs) i (plain_spec spec) ≡ plain_spec spec = get_or-map plain_spec specs i spec (plain_spec spec) lt ∙ ap plain_spec (sym is) in
        subst (SpecFits world) there (all i (plain_spec spec) within)

    pub not_there : (has : Bool) → has ≡ has_document world spec.document → has ≡ false → IsTrue false ↔ All (SpecFits world) (map plain_spec specs)
    not_there has tells lacks = ((λ yes. absurd (true≢false (sym yes))), (λ all. absurd (true≢false (sym (fits_at all).there ∙ sym tells ∙ lacks))))

    pub bad_spans : (fit : Bool) (spans : List Span) → spans ≡ spec.spans.items → IsTrue fit ↔ All SpanFits spans → fit ≡ false → IsTrue false ↔ All (SpecFits world) (map plain_spec specs)
    bad_spans fit spans are iff bad = ((λ yes. absurd (true≢false (sym yes))), (λ all. absurd (true≢false (sym (iff.1 (subst (All SpanFits) (sym are) (fits_at all).spans)) ∙ bad))))
