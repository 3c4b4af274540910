use Rattle.std.proofs.Common.{[], ◌∷◌}
use Rattle.febe_data.specs.Plain.{plain_change}
use Rattle.entry_codec.specs.Format.{u64_bytes, kind_of, change_bytes}
use Rattle.entry_codec.specs.declared.format.LogFormat.TheVariants.{New}
use Rattle.entry_codec.proofs.Written.{six_more}
use Rattle.entry_codec.proofs.body.append_logged.Goals as goal

pub returns : goal.returns
returns c =
    let entry = c.args.entry.now in
    let change = plain_change entry.change in
    six_more c.append_change.result c.args.out.now.items
    (2 ∷ []) (u64_bytes c.args.moment) (u64_bytes entry.session) (u64_bytes entry.serial) (kind_of change ∷ []) (change_bytes New change)
    c.append_u8.new.out.items c.append_u64.new.out.items c.append_u64-2.new.out.items c.append_u64-3.new.out.items c.append_u8-2.new.out.items c.append_change.new.out.items
    (rw c.number_of.ensures at c.in_ok-append_u8.ensures) c.in_ok-append_u64.ensures c.in_ok-append_u64-2.ensures c.in_ok-append_u64-3.ensures (rw c.kind_of.ensures at c.in_ok-append_u8-2.ensures) c.append_change.ensures
