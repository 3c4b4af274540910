use Rattle.std.proofs.Common.{◌≡◌, ◌∙◌, false, length, map, sym}
use Rattle.febe_data.specs.Plain.{plain_spec}
use Rattle.world_rules.specs.declared.ends.End.TheVariants.{From, To, Three}
use Rattle.febe_data.specs.Validity.{spans_in_all}
use Rattle.world_rules.specs.Refusals.{is_too_long}
use Rattle.world_rules.proofs.Spelled.{end_set_valid}
use Rattle.world_rules.proofs.reading.serve_end_sets.Goals as goal

pub returns-clause-valid : goal.returns-clause-valid
returns-clause-valid g c view stands =
    let world = view.world in
    let specs = c.args.specs.now in
    let few : is_too_long (length specs) ≡ false = sym c.is_too_long.ensures ∙ c.if-is_too_long.false in
    let from : is_too_long (spans_in_all (map plain_spec c.in_ok-from.from.items)) ≡ false = rw (← c.as_slice.ensures, ← c.has_too_many_spans.ensures) c.if-has_too_many_spans.false in
    let to : is_too_long (spans_in_all (map plain_spec c.in_ok-to.to.items)) ≡ false = rw (← c.as_slice-2.ensures, ← c.has_too_many_spans-2.ensures) c.if-has_too_many_spans-2.false in
    let three : is_too_long (spans_in_all (map plain_spec c.in_ok-three.three.items)) ≡ false = rw (← c.as_slice-3.ensures, ← c.has_too_many_spans-3.ensures) c.if-has_too_many_spans-3.false in (
      end_set_valid world c.args.session From specs c.in_ok-from.from.items (c.in_ok-from.ensures.value view stands) c.in_ok-from.ensures.valid few from,
      (
        end_set_valid world c.args.session To specs c.in_ok-to.to.items (c.in_ok-to.ensures.value view stands) c.in_ok-to.ensures.valid few to,
        (
          end_set_valid world c.args.session Three specs c.in_ok-three.three.items (c.in_ok-three.ensures.value view stands) c.in_ok-three.ensures.valid few three,
          tt,
        ),
      ),
    )
