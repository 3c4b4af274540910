-- What the end of the input is answered as.
use Rattle.std.specs.Prelude.{length, ◌==◌, if◌then◌else◌}
use Rattle.febe_feed.specs.FeedView.{FeedView, later}
use Rattle.green_session.specs.declared.take.Taken.{Taken}
use Rattle.green_session.specs.declared.take.Taken.TheVariants.{End, Truncated}

-- an end where no bytes are held, and else an input that is cut off
abbrev pub answer_at_end : FeedView → Taken
answer_at_end feed = if length feed.held == 0 then End else Truncated (later feed.offset (length feed.held))
