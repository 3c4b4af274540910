-- The forms of the program's words.
use Rattle.std.specs.Prelude.{◌≡◌, ℕ, List, []}
use Rattle.febe_data.specs.LimitsView.{LimitsView, standard_limits}
use Rattle.green_top.specs.declared.words.Form.{Form}
use Rattle.green_top.specs.declared.words.Form.TheVariants as forms
use Rattle.febe_data.specs.Plain.{PlainEntry}
use Rattle.world_rules.specs.Legal.{Exchange}
use Rattle.green_top.specs.declared.session_end.SessionEnd.{SessionEnd}
use Rattle.green_top.specs.GeneratedRun.{IsGeneratedRun, inner_end}
use Rattle.green_top.specs.IoState.{IoState}
use Rattle.green_top.specs.Outcome.{IsRun}
use Rattle.green_top.specs.Times.{RunStep, AreTends}
use Rattle.green_top.specs.Words.{AreWords, AreGenerateWords}

-- the limits of a run of this form
abbrev pub limits_of : Form → LimitsView
limits_of (forms.Session limits) = limits
limits_of (forms.Generate start) = standard_limits

-- the words have this form
abbrev pub IsForm : List (List ℕ) → Form → Type 0
IsForm words (forms.Session limits) = AreWords words limits
IsForm words (forms.Generate start) = AreGenerateWords words start

-- a run of this form, whose session has this number or none
abbrev pub IsFormRun : Form → (session : ℕ) → (before after : IoState) → (history : List PlainEntry) → List Exchange → (points : List ℕ) → (bytes_read : ℕ) → SessionEnd → Type 0
IsFormRun (forms.Session limits) session before after history exchanges points bytes_read end = IsRun limits session before after history exchanges points bytes_read end
IsFormRun (forms.Generate start) session before after history exchanges points bytes_read end = IsGeneratedRun start session before after history exchanges points end × (bytes_read ≡ 0)

-- a run of this form makes its requests itself
abbrev pub IsGenerated : Form → Type 0
IsGenerated (forms.Session limits) = ⊥
IsGenerated (forms.Generate start) = Unit {0}

-- how the session itself ended, in a run of this form that ended so
abbrev pub own_end : Form → SessionEnd → SessionEnd
own_end (forms.Session limits) end = end
own_end (forms.Generate start) end = inner_end end

-- what is done behind the session: nothing; or, behind one that was generated, trees and pages are put right
abbrev pub IsBehind : Form → List RunStep → Type 0
IsBehind (forms.Session limits) steps = steps ≡ []
IsBehind (forms.Generate start) steps = AreTends steps
