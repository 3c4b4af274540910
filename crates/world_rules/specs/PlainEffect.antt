-- An effect as a plain value.
use Rattle.febe_data.specs.Plain.{plain_change, plain_reply}
use Rattle.world_rules.specs.declared.effects.Effect.{Effect}
use Rattle.world_rules.specs.Effects as plain

abbrev pub plain_effect : Effect → plain.Effect
plain_effect e = record { change = plain_change e.change; reply = plain_reply e.reply }
