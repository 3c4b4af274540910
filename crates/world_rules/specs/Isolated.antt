-- What a session may see of a world, and that its queries are answered by nothing else.
use Rattle.std.specs.Prelude.{◌≡◌, ◌⊎◌, ℕ, Bool, true, List, map, filter, Option, None}
use Rattle.febe_data.specs.declared.refusal.Refusal.TheVariants.{Memory}
use Rattle.febe_data.specs.LimitsView.{LimitsView}
use Rattle.febe_data.specs.Plain.{PlainRequest, PlainReply, refused, PlainEntry}
use Rattle.world_rules.specs.declared.rows.Row.{Row}
use Rattle.world_rules.specs.World.{World, LinkRow, account_of_session, mode_of, byte_at}
use Rattle.world_rules.specs.Readable.{is_published, is_readable}
use Rattle.world_rules.specs.Apply.{world_of}
use Rattle.world_rules.specs.Refusals.{wanted}
use Rattle.world_rules.specs.Answers.{answer}
use Rattle.world_rules.specs.Queries.{is_query}
use Rattle.world_rules.specs.Legal.{wanted_after, IsLegal}

-- the documents that the session may read
abbrev pub documents_seen : World → ℕ → List (List ℕ)
documents_seen world session = filter (is_readable world session) world.documents

-- their rows
abbrev pub rows_seen : World → ℕ → List Row
rows_seen world session = filter (λ (row : Row). is_readable world session row.document) world.rows

-- the bytes that these rows show
abbrev pub bytes_seen : World → ℕ → List (Option ℕ)
bytes_seen world session = map (λ (row : Row). byte_at world.bytes row.address) (rows_seen world session)

-- the links whose home it may read
abbrev pub links_seen : World → ℕ → List LinkRow
links_seen world session = filter (λ (link : LinkRow). is_readable world session link.home) world.links

-- The session sees the same in two worlds: what it may read, what is published, its account, and what it has open.
-- Whatever is published may be read.
pub record SeesSame (session : ℕ) (left right : World) : Type 0 where
  pub documents : documents_seen left session ≡ documents_seen right session
  pub rows : rows_seen left session ≡ rows_seen right session
  pub bytes : bytes_seen left session ≡ bytes_seen right session
  pub links : links_seen left session ≡ links_seen right session
  pub marks : (document : List ℕ) → is_published left document ≡ is_published right document
  pub account : account_of_session left session ≡ account_of_session right session
  pub opened : (document : List ℕ) → mode_of left session document ≡ mode_of right session document

-- nothing refuses the request in the world, and this is its answer
pub record Answers (limits : LimitsView) (counted : ℕ) (world : World) (session : ℕ) (request : PlainRequest) (reply : PlainReply) : Type 0 where
  pub allowed : wanted limits counted world session request ≡ None
  pub reply_is : reply ≡ answer world session request

-- A query that one of two such worlds answers the other answers too, and in the same way. How many entries are counted
-- is of no account to a query.
abbrev pub Isolates : Type 0
Isolates = (limits : LimitsView) (session : ℕ) (left right : World) (in_left in_right : ℕ) (request : PlainRequest) (reply : PlainReply)
    → SeesSame session left right → is_query request ≡ true → Answers limits in_left left session request reply → Answers limits in_right right session request reply

-- The reply of a step is isolated: after each other history in which the session sees the same, and which refuses the
-- query nothing, it is that history's answer, or there was no memory.
abbrev pub IsIsolated : LimitsView → ℕ → List PlainEntry → PlainRequest → PlainReply → Type 0
IsIsolated limits session before request reply = (other : List PlainEntry) → SeesSame session (world_of before) (world_of other) → is_query request ≡ true
    → wanted_after limits other session request ≡ None → (reply ≡ answer (world_of other) session request) ⊎ (reply ≡ refused Memory)

-- the reply of each legal step is
abbrev pub LegalStepsIsolate : Type 0
LegalStepsIsolate = (limits : LimitsView) (session : ℕ) (before : List PlainEntry) (request : PlainRequest) (reply : PlainReply) (added : List PlainEntry) (rose : Bool)
    → IsLegal limits session before request reply added rose → IsIsolated limits session before request reply

-- two legal steps of such a query, after two such histories
pub record AreSteps (limits : LimitsView) (session : ℕ) (before other : List PlainEntry) (request : PlainRequest) (reply given : PlainReply) (added more : List PlainEntry) (rose fell : Bool) : Type 0 where
  pub sees_same : SeesSame session (world_of before) (world_of other)
  pub query : is_query request ≡ true
  pub allowed : wanted_after limits other session request ≡ None
  pub one : IsLegal limits session before request reply added rose
  pub another : IsLegal limits session other request given more fell

-- they give the same reply, or there was no memory in one of them
abbrev pub SameReplies : Type 0
SameReplies = (limits : LimitsView) (session : ℕ) (before other : List PlainEntry) (request : PlainRequest) (reply given : PlainReply) (added more : List PlainEntry) (rose fell : Bool)
    → AreSteps limits session before other request reply given added more rose fell → (reply ≡ given) ⊎ ((reply ≡ refused Memory) ⊎ (given ≡ refused Memory))
