use Rattle.entry_codec.proofs.Lengths.{cuts_counted}
use Rattle.entry_codec.proofs.counting.change_size.Goals as goal

pub returns-in-Rearrange-clause-is : goal.returns-in-Rearrange-clause-is
returns-in-Rearrange-clause-is c =
    rw c.in-Rearrange.is (cuts_counted c.in-Rearrange.document c.in-Rearrange.cuts.items _ _ c.tumbler_size-in-Rearrange.ensures.is c.len.ensures)
