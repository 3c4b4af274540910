use Rattle.std.proofs.Common.{◌++◌}
use Rattle.entry_codec.specs.Format.{u32_bytes, tumbler_bytes, text_bytes}
use Rattle.entry_codec.specs.declared.format.LogFormat.TheVariants.{New}
use Rattle.entry_codec.proofs.Written.{three_more}
use Rattle.entry_codec.proofs.writing.append_insert.Goals as goal

pub returns : goal.returns
returns c =
    three_more c.append_content.result c.args.out.now.items (tumbler_bytes c.args.document.now) (u32_bytes c.args.at) (u32_bytes c.args.first ++ text_bytes New c.args.text.now)
    c.append_tumbler.new.out.items c.append_u32.new.out.items c.append_content.new.out.items c.in_ok-append_tumbler.ensures c.in_ok-append_u32.ensures c.append_content.ensures
