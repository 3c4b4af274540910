-- What each step does to a store, and what it is answered.
use Rattle.std.specs.Prelude.{◌≡◌, ◌⊎◌, ℕ, ◌+◌, ◌-◌, ◌*◌, ◌<◌, ◌≤◌, ◌^◌, Bool, IsTrue, true, false, length}
use Rattle.febe_data.specs.declared.refusal.Refusal.TheVariants.{Memory}
use Rattle.febe_data.specs.Plain.{PlainRequest, plain_request, PlainReply, plain_reply, refused}
use Rattle.febe_data.specs.Validity.{IsRequest, IsReply}
use Rattle.world_rules.specs.History.{is_live, durable_entries}
use Rattle.world_rules.specs.Queries.{is_query}
use Rattle.tree_world.specs.Condition.{StaysInShape}
use Rattle.tree_world.specs.Nodes.{AllGrown}
use Rattle.green_flush.specs.Standing.{IsRenewed}
use Rattle.green_store.specs.declared.step.Step.{Step}
use Rattle.green_store.specs.declared.step.Step.TheVariants as steps
use Rattle.green_store.specs.declared.step.StepAnswer.{StepAnswer}
use Rattle.green_store.specs.declared.step.StepAnswer.TheVariants as answers
use Rattle.green_store.specs.Sessions.{greatest_session, begin_entry, end_entry}
use Rattle.green_store.specs.Steps.{Steps}
use Rattle.green_store.specs.StoreView.{StoreView, with_one, StandsStill, PagesStandStill, StandsAsBefore}

-- there is a number above those of all sessions so far
abbrev pub HasNumber : StoreView → Type 0
HasNumber before = greatest_session before.history + 1 < 2 ^ 64

-- the session with the next number has begun: its Begin is added
pub record IsBegun (before : StoreView) (session : ℕ) (after : StoreView) : Type 0 where
  pub has_number : HasNumber before
  pub number_is : session ≡ greatest_session before.history + 1
  pub grows : after ≡ with_one before (begin_entry session)

-- the greatest number is taken, and nothing changed
pub record HasNoNumber (before after : StoreView) : Type 0 where
  pub last_taken : greatest_session before.history + 1 ≡ 2 ^ 64
  pub stays : after ≡ before

-- there is a number, but there was no memory, and nothing changed
pub record HadNoMemory (before after : StoreView) : Type 0 where
  pub has_number : HasNumber before
  pub stays : after ≡ before

-- the session is not live, and nothing changed
pub record IsNotLive (before : StoreView) (session : ℕ) (after : StoreView) : Type 0 where
  pub not_live : is_live before.history session ≡ false
  pub stays : after ≡ before

-- the request can't be spelled: it is refused as if there were no memory, and nothing changed
pub record IsRefusedAsInvalid (before : StoreView) (reply : PlainReply) (after : StoreView) : Type 0 where
  pub reply_is : reply ≡ refused Memory
  pub stays : after ≡ before

-- a valid request is replied to by a legal step, in which the count of disk faults rose or not, and one that is not valid
-- is refused
abbrev pub IsGiven : StoreView → ℕ → PlainRequest → PlainReply → StoreView → Bool → Type 0
IsGiven before session request reply after rose =
    (IsRequest request × Steps before.limits session before.history request reply after.history rose)
    ⊎ ((¬ IsRequest request) × IsRefusedAsInvalid before reply after)

-- this holds where the reply is a refusal
abbrev pub OnRefused : PlainReply → Type 0 → Type 0
OnRefused (refused refusal) fact = fact
OnRefused other fact = Unit {0}

-- this holds unless an entry was kept
abbrev pub UnlessKept : StoreView → StoreView → Type 0 → Type 0
UnlessKept before after fact = durable_entries after.history ≡ durable_entries before.history → fact

-- The live session's request has this reply, with the number of entries after it: by a legal step where the
-- request is valid. Whichever refusal it is given, the history, the trees and their nodes are as they were. So are the trees
-- unless an entry was kept: after each query, and after a change of the session alone. Nodes only come in behind those that
-- are there, and the pages stay.
pub record IsReplied (before : StoreView) (session : ℕ) (request : PlainRequest) (reply : PlainReply) (point : ℕ) (after : StoreView) (rose : Bool) : Type 0 where
  pub live : IsTrue (is_live before.history session)
  pub limits_stay : after.limits ≡ before.limits
  pub point_is : point ≡ length after.history
  pub valid : IsReply reply
  pub given : IsGiven before session request reply after rose
  pub refusal_stays : OnRefused reply (StandsAsBefore before after)
  pub trees_stay : UnlessKept before after (after.trees ≡ before.trees)
  pub base_stays : after.base ≡ before.base
  pub grown : AllGrown before.nodes after.nodes
  pub pages_stay : PagesStandStill before after

-- the live session has ended: its End is added
pub record HasEnded (before : StoreView) (session : ℕ) (after : StoreView) : Type 0 where
  pub live : IsTrue (is_live before.history session)
  pub grows : after ≡ with_one before (end_entry before.history session)

-- ---- background steps

-- what is put right first: a tree allows a step of the balancer
abbrev pub MayBalance : StoreView → Type 0
MayBalance before = before.trees.allows ≡ true

-- how many kept entries stand behind those for which the pages stand
abbrev pub unsaved : StoreView → ℕ
unsaved store = length (durable_entries store.history) - store.flushed

-- and then: none does, and so many kept entries as the limits say stand behind those for which the pages stand
pub record MayFlush (before : StoreView) : Type 0 where
  pub balanced : before.trees.allows ≡ false
  pub many : before.limits.flush ≤ unsaved before

-- and then: neither is so, and the arenas hold over twice as many nodes as after the last sweep or at opening,
-- and 1,024 more
pub record MaySweep (before : StoreView) : Type 0 where
  pub balanced : before.trees.allows ≡ false
  pub saved : unsaved before < before.limits.flush
  pub many : 2 * before.base + 1024 < before.trees.nodes

-- one step was made in a tree, and all trees together owe less; nodes only came in
pub record IsBalanced (before after : StoreView) : Type 0 where
  pub may : MayBalance before
  pub lowers : after.trees.debt + 1 ≤ before.trees.debt
  pub base_stays : after.base ≡ before.base
  pub grown : AllGrown before.nodes after.nodes
  pub still : StandsStill before after
  pub pages_stay : PagesStandStill before after

-- the pages stand for all kept entries, and all else is as it was
pub record IsFlushed (before after : StoreView) : Type 0 where
  pub may : MayFlush before
  pub flushed_is : after.flushed ≡ length (durable_entries before.history)
  pub still : after ≡ record before { flush = after.flush; flushed = after.flushed }

-- the disk failed meanwhile, and all is as it was, but for what is known of the pages
pub record IsFlushStopped (before after : StoreView) (rose : Bool) : Type 0 where
  pub may : MayFlush before
  pub failed : IsTrue rose
  pub still : after ≡ record before { flush = after.flush }

-- the arenas hold exactly as many nodes as the trees' roots reached, none that no root reaches, and the trees stay in shape;
-- the next save writes every stream anew, and until then the pages stand for what they stood for
pub record IsSwept (before after : StoreView) : Type 0 where
  pub may : MaySweep before
  pub count : after.trees.nodes ≡ before.trees.reached
  pub none_left : after.trees.unreached ≡ 0
  pub shape_stays : StaysInShape before.trees after.trees
  pub base_is : after.base ≡ after.trees.nodes
  pub still : StandsStill before after
  pub renewed : IsRenewed before.flush after.flush
  pub flushed_stays : after.flushed ≡ before.flushed

-- nothing is to be put right, and nothing changed
pub record IsIdle (before after : StoreView) : Type 0 where
  pub balanced : before.trees.allows ≡ false
  pub saved : unsaved before < before.limits.flush
  pub few : before.trees.nodes ≤ 2 * before.base + 1024
  pub stays : after ≡ before

-- something is to be put right, but there was no memory for it, and all is as it was, but for what is known of the pages, where
-- these were to be written
pub record IsPutOff (before after : StoreView) : Type 0 where
  pub may : MayBalance before ⊎ MayFlush before ⊎ MaySweep before
  pub still : after ≡ record before { flush = after.flush }
  pub stays : unsaved before < before.limits.flush → after ≡ before

-- A step, from the store before it to the one after it, its answer, and whether the count of disk faults rose meanwhile. What is
-- not listed never happens.
abbrev pub IsStep : StoreView → Step → StoreView → StepAnswer → Bool → Type 0
IsStep before steps.Begin after (answers.Begun session) rose = IsBegun before session after
IsStep before steps.Begin after answers.NoNumber rose = HasNoNumber before after
IsStep before steps.Begin after answers.Memory rose = HadNoMemory before after
IsStep before (steps.Ask session request) after (answers.Reply reply point) rose = IsReplied before session (plain_request request) (plain_reply reply) point after rose
IsStep before (steps.Ask session request) after answers.NoSession rose = IsNotLive before session after
IsStep before (steps.End session) after answers.Ended rose = HasEnded before session after
IsStep before (steps.End session) after answers.NoSession rose = IsNotLive before session after
IsStep before steps.Background after answers.Balanced rose = IsBalanced before after
IsStep before steps.Background after answers.Flushed rose = IsFlushed before after
IsStep before steps.Background after answers.Disk rose = IsFlushStopped before after rose
IsStep before steps.Background after answers.Swept rose = IsSwept before after
IsStep before steps.Background after answers.Idle rose = IsIdle before after
IsStep before steps.Background after answers.Memory rose = IsPutOff before after
IsStep before step after answer rose = ⊥

-- this holds unless a session makes a request
abbrev pub UnlessAsked : Step → Type 0 → Type 0
UnlessAsked (steps.Ask session request) fact = Unit {0}
UnlessAsked other fact = fact

-- this holds if a session makes a query
abbrev pub OnQuery : Step → Type 0 → Type 0
OnQuery (steps.Ask session request) fact = is_query (plain_request request) ≡ true → fact
OnQuery other fact = Unit {0}

-- this holds unless a step has let go of nodes
abbrev pub UnlessSwept : StepAnswer → Type 0 → Type 0
UnlessSwept answers.Swept fact = Unit {0}
UnlessSwept other fact = fact

-- this holds unless a step has written all to pages
abbrev pub UnlessFlushed : StepAnswer → Type 0 → Type 0
UnlessFlushed answers.Flushed fact = Unit {0}
UnlessFlushed other fact = fact

-- this holds if it has
abbrev pub OnFlushed : StepAnswer → Type 0 → Type 0
OnFlushed answers.Flushed fact = fact
OnFlushed other fact = Unit {0}

-- this holds unless trees and pages are put right
abbrev pub UnlessTended : Step → Type 0 → Type 0
UnlessTended steps.Background fact = Unit {0}
UnlessTended other fact = fact

-- this holds if they are
abbrev pub OnTended : Step → Type 0 → Type 0
OnTended steps.Background fact = fact
OnTended other fact = Unit {0}
