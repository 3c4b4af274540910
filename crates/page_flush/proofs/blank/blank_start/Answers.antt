-- The page is all zeros.
use Rattle.page_flush.specs.Saving.{blank_page}
use Rattle.page_flush.proofs.Blanking.{blank_spelled}
use Rattle.page_flush.proofs.blank.blank_start.Goals as goal

pub returns : goal.returns
unfolding blank_page
returns c = blank_spelled c.push.new.self.items c.new-pages.result.items c.in_ok-bytes.bytes c.in_ok-bytes.ensures.items c.new-pages.ensures.items c.in_ok-push.ensures.ok
