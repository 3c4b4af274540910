-- The documents and the links are not looked at.
use Rattle.std.proofs.Common.{◌≡◌, length, map}
use Rattle.std.specs.Prelude.{IfOk}
use Rattle.febe_data.specs.Plain.{plain_spec}
use Rattle.world_rules.specs.Picking.{picked_addresses}
use Rattle.world_rows.proofs.Turns.{turned_has}
use Rattle.world_rows.proofs.turned.TurnedWorldFind.picked_length.Goals as goal

pub returns : goal.returns
returns g c view of = turned_has (λ v. IfOk c.picked_length.result (λ picked. picked ≡ length (picked_addresses v.world (map plain_spec c.args.specs.now)))) of.base view of.turned (c.picked_length.ensures of.base of.stood)
