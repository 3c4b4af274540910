use Rattle.std.proofs.Common.{arith}
use Rattle.disk_fields.proofs.FieldLaws.{are_bytes}
use Rattle.page_tables.proofs.TableCodecs.{tables_are_read}
use Rattle.page_tables.proofs.whole.read_tables.Goals as goal

pub returns : goal.returns
returns c = tables_are_read c.whole_tables.result c.args.bytes.now (are_bytes c.args.bytes.now (λ i. omega (arith, c.type_inv.bytes i))) c.whole_tables.ensures
