-- The documents and the links are not looked at.
use Rattle.std.proofs.Common.{◌≡◌, ◌+◌, ◌^◌, ◌<◌}
use Rattle.std.specs.Prelude.{IsOk, IfOk}
use Rattle.tumbler.specs.Address.{IsDocument}
use Rattle.world_rules.specs.World.{content_length}
use Rattle.world_rows.proofs.Turns.{turned_has}
use Rattle.world_rows.proofs.turned.TurnedWorldLookUp.next_content.Goals as goal

pub returns-clause-value : goal.returns-clause-value
returns-clause-value g c view of = turned_has (λ v. IfOk c.next_content.result (λ number. number ≡ content_length v.world c.args.document.now + 1)) of.base view of.turned (c.next_content.ensures.value of.base of.stood)

pub returns-clause-accepted : goal.returns-clause-accepted
returns-clause-accepted g c view of = turned_has (λ v. IsDocument c.args.document.now → content_length v.world c.args.document.now + 1 < 2 ^ 32 → IsOk c.next_content.result) of.base view of.turned (c.next_content.ensures.accepted of.base of.stood)
