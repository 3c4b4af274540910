use Rattle.entry_codec.specs.Format.{u32_bytes, text_bytes}
use Rattle.entry_codec.specs.declared.format.LogFormat.TheVariants.{New}
use Rattle.entry_codec.proofs.Written.{two_more}
use Rattle.entry_codec.proofs.writing.append_content.Goals as goal

pub returns : goal.returns
returns c =
    two_more c.append_text.result c.args.out.now.items (u32_bytes c.args.first) (text_bytes New c.args.text.now)
    c.append_u32.new.out.items c.append_text.new.out.items c.in_ok-append_u32.ensures c.append_text.ensures
