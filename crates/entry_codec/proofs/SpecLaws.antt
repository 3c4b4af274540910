-- Spans, specs and lists of specs that are read are those that are written so, and what is written so is read again.
use Rattle.std.proofs.Common.{◌≡◌, ℕ, ◌≤◌, cond, List, ◌++◌, Some, None, refl, sym, ap, subst, ◌∙◌, append_assoc}
use Rattle.std.specs.Prelude.{nat_lt}
use Rattle.std.proofs.lemmas.Bool.{le-ltb, ltb-false}
use Rattle.std.proofs.lemmas.Option.{some_pair_parts}
use Rattle.tumbler.specs.declared.span.Span.{Span}
use Rattle.tumbler.specs.Places.{IsTumbler}
use Rattle.febe_data.specs.Plain.{PlainSpec}
use Rattle.febe_data.specs.Validity.{IsSpan, IsSpec, IsList, IsSpecSet, spans_in_all}
use Rattle.febe_fields.specs.Reading.{◌>>=◌}
use Rattle.febe_fields.proofs.FieldLaws.{cond_none}
use Rattle.febe_fields.proofs.ListLaws.{ReadsAgain}
use Rattle.entry_codec.specs.Format.{tumbler_bytes, span_bytes, list_bytes, spec_bytes, specs_bytes}
use Rattle.entry_codec.specs.Reading.{tumbler_at, span_at, spans_at, spec_at, list_at, specs_at}
use Rattle.entry_codec.proofs.FieldLaws.{ReadsRight, field, tumbler_right, tumbler_again, list_right, list_again}

-- two fields, one behind the other, and what stands behind them
pub two : (bytes a behind b rest : List ℕ) → bytes ≡ a ++ behind → behind ≡ b ++ rest → bytes ≡ (a ++ b) ++ rest
two bytes a behind b rest e f = e ∙ ap (λ (ds : List ℕ). a ++ ds) f ∙ sym (append_assoc a b rest)

pub span_right : ReadsRight IsSpan span_at span_bytes
unfolding span_at
span_right bytes rest span are e =
    let start = field IsTumbler tumbler_at tumbler_bytes tumbler_right bytes are (λ start. tumbler_at start.1 >>= λ width. Some (record { start = start.0; width = width.0 }, width.1)) (span, rest) e in
    let width = field IsTumbler tumbler_at tumbler_bytes tumbler_right start.rest start.are (λ width. Some (record { start = start.value; width = width.0 }, width.1)) (span, rest) start.goes in
    let made : Span = record { start = start.value; width = width.value } in
    let p = some_pair_parts made span width.rest rest width.goes in
    subst (λ (s : Span). (bytes ≡ span_bytes s ++ rest) × IsSpan s) p.0
    (two bytes (tumbler_bytes start.value) start.rest (tumbler_bytes width.value) rest start.split (width.split ∙ ap (λ (ds : List ℕ). tumbler_bytes width.value ++ ds) p.1), record { start = start.right; width = width.right })

pub span_again : ReadsAgain IsSpan span_at span_bytes
unfolding span_at
span_again span rest h =
    ap span_at (append_assoc (tumbler_bytes span.start) (tumbler_bytes span.width) rest)
    ∙ rw (tumbler_again span.start (tumbler_bytes span.width ++ rest) h.start, tumbler_again span.width rest h.width) refl

spans_right : ReadsRight (IsList IsSpan) spans_at (list_bytes span_bytes)
spans_right = list_right IsSpan span_at span_bytes span_right

spans_again : ReadsAgain (IsList IsSpan) spans_at (list_bytes span_bytes)
spans_again = list_again IsSpan span_at span_bytes span_again

pub spec_right : ReadsRight IsSpec spec_at spec_bytes
unfolding spec_at
spec_right bytes rest spec are e =
    let document = field IsTumbler tumbler_at tumbler_bytes tumbler_right bytes are (λ document. spans_at document.1 >>= λ spans. Some (record { document = document.0; spans = spans.0 }, spans.1)) (spec, rest) e in
    let spans = field (IsList IsSpan) spans_at (list_bytes span_bytes) spans_right document.rest document.are (λ spans. Some (record { document = document.value; spans = spans.0 }, spans.1)) (spec, rest) document.goes in
    let made : PlainSpec = record { document = document.value; spans = spans.value } in
    let p = some_pair_parts made spec spans.rest rest spans.goes in
    subst (λ (s : PlainSpec). (bytes ≡ spec_bytes s ++ rest) × IsSpec s) p.0
    (two bytes (tumbler_bytes document.value) document.rest (list_bytes span_bytes spans.value) rest document.split (spans.split ∙ ap (λ (ds : List ℕ). list_bytes span_bytes spans.value ++ ds) p.1), record { document = document.right; spans = spans.right })

pub spec_again : ReadsAgain IsSpec spec_at spec_bytes
unfolding spec_at
spec_again spec rest h =
    ap spec_at (append_assoc (tumbler_bytes spec.document) (list_bytes span_bytes spec.spans) rest)
    ∙ rw (tumbler_again spec.document (list_bytes span_bytes spec.spans ++ rest) h.document, spans_again spec.spans rest h.spans) refl

pub specs_right : ReadsRight IsSpecSet specs_at specs_bytes
unfolding specs_at
specs_right bytes rest specs are e =
    let list = field (IsList IsSpec) (list_at spec_at) (list_bytes spec_bytes) (list_right IsSpec spec_at spec_bytes spec_right) bytes are (λ specs. cond (nat_lt 65536 (spans_in_all specs.0)) None (Some (specs.0, specs.1))) (specs, rest) e in
    let g = cond_none (nat_lt 65536 (spans_in_all list.value)) (list.value, list.rest) (specs, rest) list.goes in
    let few : spans_in_all list.value ≤ 65536 = ltb-false _ _ g.0 in
    subst (λ (p : List PlainSpec × List ℕ). (bytes ≡ specs_bytes p.0 ++ p.1) × IsSpecSet p.0) g.1 (list.split, record { list = list.right; few_spans = few })

pub specs_again : ReadsAgain IsSpecSet specs_at specs_bytes
unfolding specs_at
specs_again specs rest h =
    rw (list_again IsSpec spec_at spec_bytes spec_again specs rest h.list, le-ltb _ _ h.few_spans) refl
