use Rattle.std.proofs.Common.{◌++◌, map}
use Rattle.febe_data.specs.Plain.{plain_spec}
use Rattle.entry_codec.specs.Format.{u32_bytes, specs_bytes}
use Rattle.entry_codec.proofs.Written.{three_more}
use Rattle.entry_codec.proofs.writing.append_link.Goals as goal

pub returns : goal.returns
returns c =
    three_more c.append_ends.result c.args.out.now.items (u32_bytes c.args.number) (u32_bytes c.args.place)
    (specs_bytes (map plain_spec c.args.from.now) ++ (specs_bytes (map plain_spec c.args.to.now) ++ specs_bytes (map plain_spec c.args.three.now)))
    c.append_u32.new.out.items c.append_u32-2.new.out.items c.append_ends.new.out.items c.in_ok-append_u32.ensures c.in_ok-append_u32-2.ensures c.append_ends.ensures
