-- Lists of spans and specs that a reply can spell.
use Rattle.std.proofs.Common.{◌≡◌, ℕ, ◌+◌, ◌≤◌, ◌++◌, ◌∷◌, [], false, List, length, map, All, length-append, arith, refl}
use Rattle.std.proofs.lemmas.Bool.{ltb-false}
use Rattle.std.proofs.lemmas.List.{length-map}
use Rattle.std.proofs.lemmas.List.Elements.{All-push}
use Rattle.std.proofs.lemmas.List.Sums.{get_or-le-sum_by}
use Rattle.febe_data.specs.declared.spec.Spec.{Spec}
use Rattle.febe_data.specs.Plain.{PlainSpec, plain_spec}
use Rattle.febe_data.specs.Validity.{IsList, IsSpecSet, spans_in_all}
use Rattle.world_rules.specs.World as world
use Rattle.world_rules.specs.declared.ends.End.{End}
use Rattle.world_rules.specs.Ends.{NamesSpans, end_set}
use Rattle.world_rules.specs.Refusals.{is_too_long}

-- one more in a list that has room for it
pub list_push : {X : Type 0} (IsWellFormed : X → Type 0) (xs more : List X) (x : X) → more ≡ xs ++ x ∷ [] → IsWellFormed x → IsList IsWellFormed xs → length xs + 1 ≤ 65536 → IsList IsWellFormed more
list_push IsWellFormed xs more x e right before room =
    rw e (record { few = rw length-append (omega (arith, room)); each = All-push IsWellFormed xs x before.each right })

-- specs that are no more than a list may have, and no more of whose spans
pub are_specs : (specs : List PlainSpec) → All NamesSpans specs → length specs ≤ 65536 → spans_in_all specs ≤ 65536 → IsSpecSet specs
are_specs specs named few few_spans = record {
  list = record {
    few = few;
    each = λ k d lt. record {
      document = (named k d lt).document;
      spans = record { few = omega (arith, few_spans, get_or-le-sum_by (λ (spec : PlainSpec). length spec.spans) specs k d lt); each = (named k d lt).spans };
    };
  };
  few_spans = few_spans;
}

-- as many specs as were asked for, with no more spans than a list may have
pub end_set_valid : (w : world.World) (session : ℕ) (end : End) (specs made : List Spec) → map plain_spec made ≡ end_set w session end (map plain_spec specs) → All NamesSpans (map plain_spec made)
    → is_too_long (length specs) ≡ false → is_too_long (spans_in_all (map plain_spec made)) ≡ false → IsSpecSet (map plain_spec made)
end_set_valid w session end specs made value named few few_spans =
    let same : length (map plain_spec made) ≡ length specs = rw (value, length-map, length-map) refl in
    are_specs (map plain_spec made) named (rw same (ltb-false 65536 (length specs) few)) (ltb-false 65536 (spans_in_all (map plain_spec made)) few_spans)
