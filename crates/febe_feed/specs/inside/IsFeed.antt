-- What holds inside a feed.
use Rattle.std.specs.Prelude.{◌≡◌, ℕ, ◌≤◌, List, ◌++◌, length, take, Option, Some}
use Rattle.febe_fields.specs.declared.scanned.Scanned.TheVariants.{Bad}
use Rattle.febe_fields.specs.Scanning.{behind, scan}
use Rattle.febe_wire.specs.declared.scan.RequestScanner.{RequestScanner}
use Rattle.febe_wire.specs.RequestMachine.{state_of, at_start, request_step}

-- A scan of the first bytes held stands where the scanner is. Where they are known to be bad, a scan of
-- them all says so.
pub record IsFeed (held : List ℕ) (scanned : ℕ) (scanner : RequestScanner) (bad : Option ℕ) : Type 0 where
  pub within : scanned ≤ length held
  pub stands : (more : List ℕ) → scan request_step at_start (take scanned held ++ more) ≡ behind scanned (scan request_step (state_of scanner) more)
  pub bad_is : (at : ℕ) → bad ≡ Some at → scan request_step at_start held ≡ Bad at
