-- What only private functions cite.
use Rattle.std.specs.Prelude.{◌≡◌, ◌⊎◌, ℕ, ◌+◌, ◌*◌, ◌<◌, ◌≤◌, Bool, true, false, List, ◌∷◌, [], ◌++◌, length, Option, None, Some, Result, Ok, Err, IsTrue}
use Rattle.tumbler.specs.declared.memory.Memory.{Memory}
use Rattle.tumbler.specs.Places.{IsTumbler}
use Rattle.febe_data.specs.declared.refusal.Refusal.TheVariants.{Disk}
use Rattle.febe_data.specs.Plain.{PlainChange, document_created, version_made, copy_opened, text_inserted, specs_copied, link_made, PlainReply, refused, PlainEntry}
use Rattle.entry_codec.specs.Bodies.{IsU32, IsEncodable}
use Rattle.entry_codec.specs.Logged.{PlainLogged}
use Rattle.green_io.specs.Disk.{DiskState}
use Rattle.world_rules.specs.Apply.{world_of}
use Rattle.world_rules.specs.History.{durable_entries, is_durable}
use Rattle.world_rules.specs.Effects.{Effect}
use Rattle.world_rules.specs.Legal.{entry_after}
use Rattle.world_rules.specs.Placed.{IsPlaced}
use Rattle.entry_fits.specs.Fits.{Fits}
use Rattle.edit_log.specs.Log.{most_entries}
use Rattle.edit_log.specs.LogView.{LogView}
use Rattle.tree_world.specs.Condition.{Condition, StaysInShape}
use Rattle.green_store.specs.declared.tending.Tended.{Tended}
use Rattle.green_store.specs.declared.tending.Tended.TheVariants as tended
use Rattle.green_store.specs.Durable.{Keeps, StaysPending, IsThat, LogHas}
use Rattle.green_store.specs.IsStep.{MayBalance, IsBalanced, unsaved}
use Rattle.green_store.specs.StoreView.{StoreView}

-- one edit is pending behind these entries, of which this holds
pub record PendsOneOf (disk : DiskState) (log : LogView) (rows : List PlainLogged) (MayPend : PlainLogged → Type 0) : Type 0 where
  pub row : PlainLogged
  pub which : MayPend row
  pub has : LogHas disk log rows (Some row)

-- what the types of a kept change's fields say of them, where a request does not say it
abbrev pub IsTyped : PlainChange → Type 0
IsTyped (document_created document) = IsTumbler document
IsTyped (version_made source document) = IsTumbler document
IsTyped (copy_opened source document) = IsTumbler document
IsTyped (text_inserted document at first text) = IsU32 at × IsU32 first
IsTyped (specs_copied document at specs) = IsU32 at
IsTyped (link_made home number place from to three) = IsU32 number × IsU32 place
IsTyped other = Unit {0}

-- After this history the session's change may be kept: it is placed, there is a body for it, and its entry fits as the next
-- one of a log that has room.
pub record MayBeKept (history : List PlainEntry) (session : ℕ) (made : Effect) : Type 0 where
  pub counted : is_durable made.change ≡ true
  pub placed : IsPlaced (world_of history) made.change
  pub logged : IsEncodable made.change
  pub fits : Fits (durable_entries history) (entry_after history session made)
  pub room : length (durable_entries history) < most_entries

-- the change is made: its reply is given, and its entry is added
pub record IsKept (before : List PlainEntry) (session : ℕ) (made : Effect) (reply : PlainReply) (after : List PlainEntry) : Type 0 where
  pub reply_is : reply ≡ made.reply
  pub grows : after ≡ before ++ entry_after before session made ∷ []

-- the disk failed meanwhile, and nothing is added
pub record IsTakenBack (before : List PlainEntry) (reply : PlainReply) (after : List PlainEntry) (rose : Bool) : Type 0 where
  pub failed : IsTrue rose
  pub reply_is : reply ≡ refused Disk
  pub stays : after ≡ before

-- one or the other
abbrev pub IsKeptOrTakenBack : List PlainEntry → ℕ → Effect → PlainReply → List PlainEntry → Bool → Type 0
IsKeptOrTakenBack before session made reply after rose = IsKept before session made reply after ⊎ IsTakenBack before reply after rose

-- The disk has the kept entries as they are then. Or none was kept, and an edit is pending: the one that was before, or this
-- one, which was refused since the disk failed.
abbrev pub KeepsEdit : StoreView → Option PlainLogged → PlainLogged → StoreView → PlainReply → DiskState → Type 0
KeepsEdit before pending row after reply disk =
    Keeps disk after None
    ⊎ StaysPending before after disk (λ other. IsThat pending other ⊎ ((other ≡ row) × (reply ≡ refused Disk)))

-- One step has put this right in the trees, which are in one condition before it and in the other after it; and so many
-- nodes they had after the last sweep, before the step and after it.
abbrev pub IsTended : Condition → ℕ → Tended → Condition → ℕ → Type 0
IsTended old base tended.Balanced new after = (old.allows ≡ true) × (new.debt + 1 ≤ old.debt) × (after ≡ base)
IsTended old base tended.Swept new after = (old.allows ≡ false) × (2 * base + 1024 < old.nodes) × (new.nodes ≡ old.reached) × (new.unreached ≡ 0) × StaysInShape old new × (after ≡ new.nodes)
IsTended old base tended.Idle new after = (old.allows ≡ false) × (old.nodes ≤ 2 * base + 1024) × (new ≡ old) × (after ≡ base)

-- nodes that no root reaches were let go, since they were many, or they are few, and nothing changed
abbrev pub IsSweeping : Condition → ℕ → Bool → Condition → ℕ → Type 0
IsSweeping old base true new after = (2 * base + 1024 < old.nodes) × (new.nodes ≡ old.reached) × (new.unreached ≡ 0) × StaysInShape old new × (after ≡ new.nodes)
IsSweeping old base false new after = (old.nodes ≤ 2 * base + 1024) × (new ≡ old) × (after ≡ base)

-- something is to be put right, but there was no memory for it, and nothing changed
abbrev pub IsPutOffFor : Condition → ℕ → Condition → ℕ → Type 0
IsPutOffFor old base new after = ((old.allows ≡ true) ⊎ ((old.allows ≡ false) × (2 * base + 1024 < old.nodes))) × (new ≡ old) × (after ≡ base)

-- A step of the balancer was made, where some tree allows one; or none does, and nothing changed; or there was no memory for
-- it, and nothing changed.
abbrev pub IsBalancing : Result Bool Memory → StoreView → StoreView → Type 0
IsBalancing (Ok true) before after = IsBalanced before after
IsBalancing (Ok false) before after = (before.trees.allows ≡ false) × (after ≡ before)
IsBalancing (Err error) before after = MayBalance before × (after ≡ before)

-- no tree allows a step of the balancer, and too few kept entries stand behind those for which the pages stand
pub record IsSpared (before : StoreView) : Type 0 where
  pub balanced : before.trees.allows ≡ false
  pub saved : unsaved before < before.limits.flush
