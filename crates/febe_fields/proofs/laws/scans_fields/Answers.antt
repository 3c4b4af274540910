use Rattle.febe_fields.proofs.FieldsTaken.{fields_take}
use Rattle.febe_fields.proofs.FieldsAgain.{fields_taken}
use Rattle.febe_fields.proofs.laws.scans_fields.Goals as goal

pub returns : goal.returns
returns c = λ fields bytes. (fields_take fields bytes, fields_taken fields bytes)
