-- The two numbers, one behind the other.
use Rattle.page_chains.proofs.SpelledPages.{start_put}
use Rattle.page_chains.proofs.spelling.put_start.Goals as goal

pub returns : goal.returns
returns c = start_put c.args.page.now.items c.extend_from_slice.new.self.items c.extend_from_slice-2.new.self.items c.to_be_bytes.result c.to_be_bytes-2.result c.args.start.now c.to_be_bytes.ensures c.to_be_bytes-2.ensures c.in_ok-extend_from_slice.ensures.ok c.in_ok-extend_from_slice-2.ensures.ok
