-- What comes next in a session's input.
use Rattle.std.specs.Prelude.{Option, Some, None, Result, Ok, Err}
use Rattle.febe_data.specs.declared.request.Request.{Request}
use Rattle.green_session.specs.declared.take.Taken.{Taken}
use Rattle.green_session.specs.declared.take.Taken.TheVariants as take_answers
use Rattle.green_top.specs.declared.session_end.SessionEnd.{SessionEnd}
use Rattle.green_top.specs.declared.session_end.SessionEnd.TheVariants as ends

-- what is said of what was taken holds: of the greeting, of a request, or of what ends the session
abbrev pub NextIs : (Taken → Type 0) → Result (Option Request) SessionEnd → Type 0
NextIs Holds (Ok None) = Holds take_answers.Greeting
NextIs Holds (Ok (Some request)) = Holds (take_answers.Request request)
NextIs Holds (Err ends.End) = Holds take_answers.End
NextIs Holds (Err (ends.Malformed at)) = Holds (take_answers.Malformed at)
NextIs Holds (Err (ends.Truncated at)) = Holds (take_answers.Truncated at)
NextIs Holds (Err ends.ReadFault) = Holds take_answers.ReadFault
NextIs Holds (Err ends.Memory) = Holds take_answers.Memory
NextIs Holds (Err ends.Budget) = Holds take_answers.Budget
NextIs Holds (Err other) = ⊥
