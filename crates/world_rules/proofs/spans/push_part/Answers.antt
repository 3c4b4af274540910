use Rattle.febe_data.specs.Validity.{IsSpan}
use Rattle.world_rules.proofs.Spelled.{list_push}
use Rattle.world_rules.proofs.spans.push_part.Goals as goal

pub returns-clause-valid : goal.returns-clause-valid
returns-clause-valid c =
    λ before room. list_push IsSpan c.args.spans.now.items c.push.new.self.items c.in_ok-span_from.field-0 c.in_ok-push.ensures.ok c.in_ok-span_from.ensures.valid before room
