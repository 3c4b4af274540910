use Rattle.std.proofs.Common.{arith}
use Rattle.entry_codec.proofs.FieldLaws.{are_bytes}
use Rattle.entry_codec.proofs.BodyLaws.{decoded}
use Rattle.entry_codec.proofs.body.decode.Goals as goal

pub returns : goal.returns
returns c = decoded c.body_row.result c.args.bytes.now (are_bytes c.args.bytes.now (λ i. omega (arith, c.type_inv.bytes i))) c.body_row.ensures
