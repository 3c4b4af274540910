use Rattle.std.proofs.Common.{arith}
use Rattle.febe_data.specs.Plain.{plain_entry}
use Rattle.entry_codec.specs.declared.format.LogFormat.TheVariants.{Old}
use Rattle.entry_codec.proofs.FieldLaws.{are_bytes}
use Rattle.entry_codec.proofs.BodyLaws.{none_decoded, old_decoded}
use Rattle.entry_codec.proofs.body.decode_old.Goals as goal

pub returns-in_default : goal.returns-in_default
returns-in_default c = none_decoded Old c.args.bytes.now (rw c.in_default.is at c.in_ok-logged.ensures)

pub returns : goal.returns
returns c =
    let logged = c.in-Some.logged in
    old_decoded c.args.bytes.now (plain_entry logged.entry) logged.moment (are_bytes c.args.bytes.now (λ i. omega (arith, c.type_inv.bytes i))) (rw c.in-Some.is at c.in_ok-logged.ensures)
