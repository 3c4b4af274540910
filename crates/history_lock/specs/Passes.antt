-- What a pass knows, and what each call tells it.
use Rattle.std.specs.Prelude.{◌≡◌, ◌≢◌, ◌==◌, ◌+◌, ◌≤◌, ℕ, false, List, [], ◌∷◌, ◌++◌, length, if◌then◌else◌, All, None}
use Rattle.history_lock.specs.declared.view.View.{View}
use Rattle.history_lock.specs.declared.view.MarkedAct.{MarkedAct}
use Rattle.history_lock.specs.declared.lock.HistoryLock.{HistoryLock}
use Rattle.history_lock.specs.declared.pass.Token.{Token}
use Rattle.history_lock.specs.declared.tried.Trial.{Trial}
use Rattle.history_lock.specs.declared.tried.Trial.TheVariants.{Done, Busy}
use Rattle.history_lock.specs.declared.tried.Acted.{Acted}
use Rattle.history_lock.specs.Histories.{StartsWith, entries_of, Extends, Adds}

-- what a pass knows
abbrev pub known : {T E : Type 0} → Token T E → View E
known pass = pass.seat.me.0

-- it is a pass of this lock
abbrev pub IsPassOf : {T J A E : Type 0} → HistoryLock T J A E → Token T E → Type 0
IsPassOf lock pass = pass.seat.table_id ≡ lock.table.shared.table_id

-- what a call tried came to: it was done, or the job came back
abbrev pub MatchTried : {A J : Type 0} → Trial A J → (Acted A → Type 0) → (J → Type 0) → Type 0
MatchTried (Done acted) done busy = done acted
MatchTried (Busy job) done busy = busy job

-- 1 where the numbers are the same, else 0
abbrev pub same_number : ℕ → ℕ → ℕ
same_number m n = if m == n then 1 else 0

module _ {E : Type 0} where
  -- a pass that has no number and made no call
  abbrev pub newcomer : List E → List ℕ → View E
  newcomer seen fixed = record { number = 0; seen = seen; mine = []; heard = []; ended = []; fixed = fixed; finds = []; acts = []; held = None; out = false; spent = false }

  -- an exchange on the lock's word has found these
  abbrev pub finding : View E → List ℕ → View E
  finding v words = record v { finds = v.finds ++ words }

  -- the history was seen
  abbrev pub looking : View E → List E → View E
  looking v history = record v { seen = history; heard = [] }

  -- a play was made with this history before it, which added these entries
  abbrev pub acted : View E → List ℕ → MarkedAct → ℕ → List E → List E → View E
  acted v found marks number history added = record v { number = number; seen = history ++ added; mine = v.mine ++ added; finds = v.finds ++ found; acts = v.acts ++ marks ∷ []; held = None; out = false }

  -- the numbers and entries of a pass: those that it took in, and its own where it has a number
  abbrev pub all_ended : View E → List (ℕ × List E)
  all_ended v = if v.number == 0 then v.ended else (v.number, v.mine) ∷ v.ended

  -- how often the number stands among these
  abbrev pub times_ended : ℕ → List (ℕ × List E) → ℕ
  times_ended number [] = 0
  times_ended number (pair ∷ pairs) = same_number pair.0 number + times_ended number pairs

  -- no number but 0 stands twice
  abbrev pub AreApart : List (ℕ × List E) → Type 0
  AreApart pairs = (number : ℕ) → number ≢ 0 → times_ended number pairs ≤ 1

  -- another pass was taken in
  abbrev pub taking_in : View E → View E → View E
  taking_in v other = record v { ended = v.ended ++ all_ended other; heard = other.seen }

module _ {E : Type 0} (owner : E → ℕ) where
  -- the list is not empty, and is all that the history has of this number, which is not 0
  abbrev pub IsWhole : List E → ℕ × List E → Type 0
  IsWhole history pair = (pair.0 ≢ 0) × (pair.1 ≡ entries_of owner pair.0 history) × (pair.1 ≢ [])

  -- what a pass knows is true of this history, and of these fixed numbers
  pub record Fits (history : List E) (numbers : List ℕ) (v : View E) : Type 0 where
    pub fixed : v.fixed ≡ numbers
    pub seen : Extends owner v.number v.seen history
    pub heard : StartsWith history v.heard
    pub unnumbered : v.number ≡ 0 → v.mine ≡ []
    pub numbered : v.number ≢ 0 → IsWhole history (v.number, v.mine)
    pub ended : All (IsWhole history) v.ended

  -- The pass has seen the history as it is now, which extends all that it had seen.
  pub record HasLooked (v : View E) (answer : ℕ) (w : View E) : Type 0 where
    pub history : List E
    pub extends : Extends owner v.number v.seen history
    pub count : answer ≡ length history
    pub view : w ≡ looking v history

  -- The pass has taken in the other, and has then seen the history, which extends all that either had seen.
  pub record HasTakenIn (v other w : View E) : Type 0 where
    pub history : List E
    pub extends : Extends owner v.number v.seen history
    pub extends_other : StartsWith history other.seen
    pub view : w ≡ looking (taking_in v other) history

  -- A play was made. The history before it extends all that the pass had seen, the play's relation holds,
  -- the point is the length of the history after it, and the pass gains just the entry that was added, if there is one.
  pub record HasActed {J A : Type 0} (plays : List ℕ → List E → ℕ → J → A → ℕ → List E → List ℕ → List ℕ → Type 0) (v : View E) (job : J) (answer : A) (length_after : ℕ) (found : List ℕ) (w : View E) : Type 0 where
    pub history : List E
    pub added : List E
    pub marks : MarkedAct
    pub extends : Extends owner v.number v.seen history
    pub adds : Adds owner v.number history w.number added
    pub played : plays v.fixed history v.number job answer w.number (history ++ added) marks.before marks.after
    pub point : length_after ≡ length (history ++ added)
    pub marked : marks.point ≡ length_after
    pub view : w ≡ acted v found marks w.number history added
