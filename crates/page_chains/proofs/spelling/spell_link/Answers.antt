-- The number of the next page, the bytes and the zeros are the page.
use Rattle.std.proofs.Common.{◌∙◌}
use Rattle.page_chains.proofs.SpelledPages.{link_spelled}
use Rattle.page_chains.proofs.spelling.spell_link.Goals as goal

pub returns : goal.returns
returns c = link_spelled c.args.number c.args.next c.args.body.now c.reserve.new.self.items c.extend_from_slice.new.self.items c.extend_from_slice-2.new.self.items c.pad.new.page.items c.to_be_bytes.result c.to_be_bytes.ensures (c.in_ok-reserve.ensures.items ∙ c.new-bytes.ensures.items) c.in_ok-extend_from_slice.ensures.ok c.in_ok-extend_from_slice-2.ensures.ok c.in_ok-pad.ensures
