-- The documents and the links are not looked at.
use Rattle.std.proofs.Common.{◌≡◌, ◌-◌, ◌^◌, min, map}
use Rattle.febe_data.specs.Plain.{plain_spec}
use Rattle.world_rules.specs.Refusals.{total_of, span_bytes, span_items}
use Rattle.world_rows.proofs.Turns.{turned_has}
use Rattle.world_rows.proofs.turned.TurnedWorldFind.retrieved_size.Goals as goal

pub returns-clause-bytes : goal.returns-clause-bytes
returns-clause-bytes g c view of = turned_has (λ v. c.retrieved_size.result.bytes ≡ min (total_of (span_bytes v.world) (map plain_spec c.args.specs.now)) (2 ^ 64 - 1)) of.base view of.turned (c.retrieved_size.ensures.bytes of.base of.stood)

pub returns-clause-items : goal.returns-clause-items
returns-clause-items g c view of = turned_has (λ v. c.retrieved_size.result.items ≡ min (total_of (span_items v.world) (map plain_spec c.args.specs.now)) (2 ^ 64 - 1)) of.base view of.turned (c.retrieved_size.ensures.items of.base of.stood)
