-- How a session is played, whoever plays it: on a history to which other sessions may add between its own steps.
use Rattle.std.specs.Prelude.{◌≡◌, ◌≢◌, ◌⊎◌, ℕ, ◌+◌, ◌^◌, ◌<◌, Bool, true, false, List, [], ◌∷◌, ◌++◌, length, Option, None, Some}
use Rattle.febe_data.specs.LimitsView.{LimitsView}
use Rattle.febe_data.specs.Plain.{PlainRequest, PlainReply, PlainEntry}
use Rattle.world_rules.specs.History.{is_live, entries_of}
use Rattle.world_rules.specs.Legal.{IsLegal, Exchange}
use Rattle.green_store.specs.Sessions.{greatest_session, begin_entry, end_entry}
use Rattle.green_top.specs.Ends.{AllNumbersTaken}
use Rattle.green_top.specs.Times.{Coming, begin_step, CutsShort, WithoutSession}
use Rattle.green_top.specs.declared.exchange.Closing.{Closing}
use Rattle.green_top.specs.declared.session_end.SessionEnd.{SessionEnd}
use Rattle.green_top.specs.declared.plays.Beginning.{Beginning}
use Rattle.green_top.specs.declared.plays.Beginning.TheVariants as beginnings

-- These are entries of others: none is of this session, and behind any history they leave it live, or not, as it was.
pub record IsOthers (session : ℕ) (past : List PlainEntry) : Type 0 where
  pub none_own : entries_of session past ≡ []
  pub live_stays : (history : List PlainEntry) → is_live (history ++ past) session ≡ is_live history session

-- The session has begun with the next number, behind what others had added since the history was seen.
pub record BeginsAt (session : ℕ) (seen after : List PlainEntry) : Type 0 where
  pub past : List PlainEntry
  pub number_is : session ≡ greatest_session (seen ++ past) + 1
  pub has_number : session < 2 ^ 64
  pub grows : after ≡ (seen ++ past) ++ begin_entry session ∷ []

-- what came of a Begin: a session; or none, and the number is 0, since each number was taken, or for want of memory
abbrev pub BeginIs : (seen : List PlainEntry) → (session : ℕ) → (after : List PlainEntry) → Beginning → Type 0
BeginIs seen session after beginnings.Begun = BeginsAt session seen after
BeginIs seen session after beginnings.NoNumber = (session ≡ 0) × AllNumbersTaken after
BeginIs seen session after beginnings.Memory = session ≡ 0

-- The session has ended, behind what others had added.
pub record EndsAt (session : ℕ) (seen after : List PlainEntry) : Type 0 where
  pub past : List PlainEntry
  pub others : IsOthers session past
  pub grows : after ≡ (seen ++ past) ++ end_entry (seen ++ past) session ∷ []

module _ {F S : Type 0} (Tells : F → S → Coming → Exchange → F → S → Coming → Type 0) where
  -- A request of the session had this reply, by a legal step behind what others had added, and this is told of its exchange.
  pub record HasReplied (limits : LimitsView) (session : ℕ) (seen : List PlainEntry) (first : F) (second : S) (coming : Coming) (request : PlainRequest) (reply : PlainReply) (point : ℕ) (after : List PlainEntry) (first' : F) (second' : S) (coming' : Coming) : Type 0 where
    pub past : List PlainEntry
    pub added : List PlainEntry
    pub rose : Bool
    pub others : IsOthers session past
    pub legal : IsLegal limits session (seen ++ past) request reply added rose
    pub grows : after ≡ (seen ++ past) ++ added
    pub point_is : point ≡ length after
    pub told : Tells first second coming (record { request = request; reply = reply; point = point; added = added; rose = rose }) first' second' coming'

-- From the first, the second and what a clock was to give lead to others these exchanges, each of which its step tells, and
-- behind each of them what is then done: it is done behind the last one too where the flag is true.
pub data Chain {F S : Type 0} (Tells : F → S → Coming → Exchange → F → S → Coming → Type 0) (Tended : F → S → Coming → F → S → Coming → Type 0) (first : F) (second : S) (coming : Coming) : List Exchange → Bool → F → S → Coming → Type 0 where
  nothing : (exchanges : List Exchange) (done : Bool) (first' : F) (second' : S) (coming' : Coming) → exchanges ≡ [] → done ≡ true → first' ≡ first → second' ≡ second → coming' ≡ coming
      → Chain Tells Tended first second coming exchanges done first' second' coming'
  asked : (exchanges before : List Exchange) (exchange : Exchange) (done : Bool) (between : F) (between' : S) (coming_between : Coming) (first' : F) (second' : S) (coming' : Coming) → exchanges ≡ before ++ exchange ∷ [] → done ≡ false
      → Chain Tells Tended first second coming before true between between' coming_between → Tells between between' coming_between exchange first' second' coming' → Chain Tells Tended first second coming exchanges done first' second' coming'
  tended : (exchanges : List Exchange) (done : Bool) (between : F) (between' : S) (coming_between : Coming) (first' : F) (second' : S) (coming' : Coming) → done ≡ true → Chain Tells Tended first second coming exchanges false between between' coming_between
      → Tended between between' coming_between first' second' coming' → Chain Tells Tended first second coming exchanges done first' second' coming'

module _ {F S : Type 0} (Tells : F → S → Coming → Exchange → F → S → Coming → Type 0) where
  -- nothing was asked; or one request was, in this exchange
  abbrev pub AsksOnce : F → S → Coming → List Exchange → F → S → Coming → Type 0
  AsksOnce first second coming exchanges first' second' coming' =
      ((exchanges ≡ []) × (first' ≡ first) × (second' ≡ second) × (coming' ≡ coming))
      ⊎ ((exchange : Exchange) × (exchanges ≡ exchange ∷ []) × Tells first second coming exchange first' second' coming')

-- all is done behind the last exchange of a session that ended so, or its reply could not be written
abbrev pub IsDoneAt : SessionEnd → (done : Bool) → Type 0
IsDoneAt end true = Unit {0}
IsDoneAt end false = CutsShort end

module _ {F S : Type 0} (Tells : F → S → Coming → Exchange → F → S → Coming → Type 0) (Tended : F → S → Coming → F → S → Coming → Type 0) where
  -- such a chain leads to this end, and all is done behind the last exchange, unless its reply could not be written
  abbrev pub Leads : SessionEnd → F → S → Coming → List Exchange → F → S → Coming → Type 0
  Leads end first second coming exchanges first' second' coming' = (done : Bool) × IsDoneAt end done × Chain Tells Tended first second coming exchanges done first' second' coming'

  -- and where nothing ends the conversation, all is done
  abbrev pub LeadsOn : Option Closing → F → S → Coming → List Exchange → F → S → Coming → Type 0
  LeadsOn None first second coming exchanges first' second' coming' = Chain Tells Tended first second coming exchanges true first' second' coming'
  LeadsOn (Some closing) first second coming exchanges first' second' coming' = Leads closing.end first second coming exchanges first' second' coming'

module _ {F S : Type 0} (seen : F → S → List PlainEntry) (number : F → ℕ) (Begun : F → S → Coming → F → S → Coming → Type 0) (Tells : F → S → Coming → Exchange → F → S → Coming → Type 0) (Tended Ended : F → S → Coming → F → S → Coming → Type 0) where
  -- Where the session was still live, it was ended; else nothing more was done.
  abbrev pub IsLast : F → S → Coming → F → S → Coming → Type 0
  IsLast first second coming first' second' coming' =
      ((is_live (seen first second) (number first) ≡ true) × Ended first second coming first' second' coming')
      ⊎ ((is_live (seen first second) (number first) ≡ false) × (first' ≡ first) × (second' ≡ second) × (coming' ≡ coming))

  -- a session was played up to this end: it began, these exchanges followed, and it was ended where it was still live
  pub record IsSat (end : SessionEnd) (first : F) (second : S) (coming : Coming) (exchanges : List Exchange) (first' : F) (second' : S) (coming' : Coming) : Type 0 where
    pub begun : F
    pub begun' : S
    pub coming_begun : Coming
    pub left : F
    pub left' : S
    pub coming_left : Coming
    pub done : Bool
    pub is_done_at : IsDoneAt end done
    pub begins : Begun first second coming begun begun' coming_begun
    pub numbered : number begun ≢ 0
    pub chain : Chain Tells Tended begun begun' coming_begun exchanges done left left' coming_left
    pub last : IsLast left left' coming_left first' second' coming'

  -- a Begin was made, and no session came of it, for a reason that this end tells
  pub record DidNotBegin (end : SessionEnd) (first : F) (second : S) (coming : Coming) (exchanges : List Exchange) (first' : F) (second' : S) (coming' : Coming) : Type 0 where
    pub none_answered : exchanges ≡ []
    pub unnumbered : number first' ≡ 0
    pub only_begin : WithoutSession end (begin_step ∷ [])
    pub begins : Begun first second coming first' second' coming'

  -- no Begin was made before this end, and nothing else: the clock was not asked
  pub record IsUntouched (end : SessionEnd) (first : F) (second : S) (coming : Coming) (exchanges : List Exchange) (first' : F) (second' : S) (coming' : Coming) : Type 0 where
    pub none_answered : exchanges ≡ []
    pub no_step : WithoutSession end []
    pub first_stays : first' ≡ first
    pub second_stays : second' ≡ second
    pub coming_stays : coming' ≡ coming

  -- what was done of a session that ended so, once it was greeted
  abbrev pub HasSat : SessionEnd → F → S → Coming → List Exchange → F → S → Coming → Type 0
  HasSat end first second coming exchanges first' second' coming' =
      DidNotBegin end first second coming exchanges first' second' coming' ⊎ IsSat end first second coming exchanges first' second' coming'

  -- and in all
  abbrev pub HasServed : SessionEnd → F → S → Coming → List Exchange → F → S → Coming → Type 0
  HasServed end first second coming exchanges first' second' coming' =
      IsUntouched end first second coming exchanges first' second' coming' ⊎ HasSat end first second coming exchanges first' second' coming'
