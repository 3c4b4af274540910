-- A kept change: what may be appended for it, and what the disk has after it.
use Rattle.std.proofs.Common.{◌≡◌, ◌∙◌, ◌⊎◌, inl, inr, ℕ, ◌+◌, ◌<◌, true, false, List, [], ◌∷◌, ◌++◌, length, Option, None, Some, Result, Ok, Err, ap, refl, sym, subst}
use Rattle.std.specs.Prelude.{IfOk, OnOk}
use Rattle.tumbler.specs.declared.memory.Memory.{Memory as NoMemory}
use Rattle.febe_data.specs.declared.reply.Reply.{Reply}
use Rattle.febe_data.specs.declared.refusal.Refusal.TheVariants.{Disk}
use Rattle.febe_data.specs.Plain.{PlainRequest, PlainEntry, PlainReply, plain_reply, refused}
use Rattle.entry_codec.specs.Format.{body_of}
use Rattle.entry_codec.specs.Logged.{PlainLogged, made_at_moment, timed}
use Rattle.entry_codec.specs.declared.format.LogFormat.TheVariants.{New}
use Rattle.green_io.specs.Areas.{Areas}
use Rattle.green_io.specs.Disk.{DiskState, LeavesOnly}
use Rattle.green_io.proofs.Crash.{weaker}
use Rattle.world_rules.specs.FlatView.{view_of, entries_in}
use Rattle.world_rules.specs.History.{durable_entries, is_durable}
use Rattle.world_rules.specs.Effects.{Effect}
use Rattle.world_rules.specs.Legal.{entry_after}
use Rattle.edit_log.specs.Images.{AreEntries, IsAppendable, IsOpen}
use Rattle.edit_log.specs.LogView.{LogView}
use Rattle.green_store.specs.Durable.{kept_rows, Keeps, LogHas, IsThat, StaysPending, HoldsWith, IsDurableEntry, IsDurableRow, HoldsRequest, KeepsRequest}
use Rattle.green_store.specs.inside.{MayBeKept, PendsOneOf, KeepsEdit}
use Rattle.green_store.specs.StoreView.{StoreView, with_one}
use Rattle.green_store.proofs.Moments.{timed_push, may_come}
use Rattle.green_store.proofs.Regulars.{kept_counted, kept_other}
use Rattle.green_store.proofs.Stores.{entry_is}

-- the record of the entry that the code makes may be appended
pub appendable : (h : List PlainEntry) (moments : List ℕ) (session n : ℕ) (made : Effect) (moment : ℕ) (bytes : List ℕ) → MayBeKept h session made → length moments ≡ length (durable_entries h) → AreEntries (timed (durable_entries h) moments)
    → session < 18446744073709551616 → n + 1 < 18446744073709551616 → moment < 18446744073709551616 → n ≡ entries_in (view_of h).sessions session
    → bytes ≡ body_of New (made_at_moment (record { session = session; serial = n + 1; change = made.change }) moment) ++ (0 ∷ [])
    → IsAppendable (timed (durable_entries h) moments) (made_at_moment (entry_after h session made) moment) bytes
appendable h moments session n made moment bytes may all are number serial small counted spelled =
    let same = entry_is h session n made.change counted in
    let next : n + 1 ≡ (entry_after h session made).serial = ap (λ (e : PlainEntry). e.serial) same in
    record {
      before = are;
      next = may_come h moments session made moment may all number (subst (λ (k : ℕ). k < 18446744073709551616) next serial) small;
      parts = spelled ∙ ap (λ (e : PlainEntry). body_of New (made_at_moment e moment) ++ (0 ∷ [])) same;
    }

-- once it is appended, the disk has what is kept
pub has_one_more : (disk : DiskState) (log : LogView) (h after : List PlainEntry) (moments later : List ℕ) (e : PlainEntry) (moment : ℕ) → is_durable e.change ≡ true → after ≡ h ++ e ∷ [] → later ≡ moments ++ moment ∷ []
    → length moments ≡ length (durable_entries h) → IsOpen disk log (timed (durable_entries h) moments ++ made_at_moment e moment ∷ []) → IsOpen disk log (timed (durable_entries after) later)
has_one_more disk log h after moments later e moment counted grows comes all has =
    subst (IsOpen disk log) (sym (ap (λ (es : List PlainEntry). timed es later) (ap durable_entries grows ∙ kept_counted h e counted) ∙ (ap (timed (durable_entries h ++ e ∷ [])) comes ∙ timed_push (durable_entries h) moments e moment all))) has

-- the same kept entries with the same moments
pub same_rows : (before after : StoreView) → durable_entries after.history ≡ durable_entries before.history → after.moments ≡ before.moments → kept_rows after ≡ kept_rows before
same_rows before after kept moments = ap (λ (es : List PlainEntry). timed es after.moments) kept ∙ ap (timed (durable_entries before.history)) moments

-- where it was not, an edit is pending
pub stays_pending : (before after : StoreView) (disk : DiskState) (pending : Option PlainLogged) (row : PlainLogged) (reply : PlainReply) → after.history ≡ before.history → after.moments ≡ before.moments → reply ≡ refused Disk
    → PendsOneOf disk after.log (kept_rows before) (λ other. IsThat pending other ⊎ (other ≡ row)) → KeepsEdit before pending row after reply disk
stays_pending before after disk pending row reply stays moments is pends = inr (record {
  row = pends.row;
  which = which pends.row pends.which;
  none_kept = ap durable_entries stays;
  keeps = subst (λ (rows : List PlainLogged). LogHas disk after.log rows (Some pends.row)) (sym (same_rows before after (ap durable_entries stays) moments)) pends.has;
})
  where
    which : (other : PlainLogged) → IsThat pending other ⊎ (other ≡ row) → IsThat pending other ⊎ ((other ≡ row) × (reply ≡ refused Disk))
    which other (inl that) = inl that
    which other (inr own) = inr (own, is)

-- ---- what a request leaves on the disk

pub holds_more : (rows : List PlainLogged) (P Q : PlainLogged → Type 0) → ((row : PlainLogged) → P row → Q row) → (image : Areas) → HoldsWith rows P image → HoldsWith rows Q image
holds_more rows P Q follows image (inl without) = inl without
holds_more rows P Q follows image (inr with) = inr (with.0, follows with.0 with.1, with.2)

-- where nothing is kept and the log is as it was, the disk has what it had
pub stays_kept : (before after : StoreView) (disk : DiskState) (MayStay : PlainLogged → Type 0) (pending : Option PlainLogged) → durable_entries after.history ≡ durable_entries before.history → after.moments ≡ before.moments → after.log ≡ before.log
    → Keeps disk before pending → Keeps disk after None ⊎ StaysPending before after disk (λ row. IsThat pending row ⊎ MayStay row)
stays_kept before after disk MayStay None same moments log has = inl (rw (same, moments, log) has)
stays_kept before after disk MayStay (Some p) same moments log has = inr (record { row = p; which = inl refl; none_kept = same; keeps = rw (same, moments, log) has })

module _ (before after : StoreView) (old new : DiskState) (pending : Option PlainLogged) (moment session : ℕ) (request : PlainRequest) where
  -- the request's own edit
  abbrev Own : PlainLogged → Type 0
  Own row = IsDurableRow before.limits before.history session request moment row

  -- an entry that is not kept
  pub other_keeps : (entry : PlainEntry) (reply : PlainReply) → is_durable entry.change ≡ false → after ≡ with_one before entry → Keeps old before pending → KeepsRequest before pending moment session request after reply old
  other_keeps entry reply other grows has =
      stays_kept before after old (λ row. Own row × (reply ≡ refused Disk)) pending
      (ap (λ (v : StoreView). durable_entries v.history) grows ∙ kept_other before.history entry other) (ap (λ (v : StoreView). v.moments) grows) (ap (λ (v : StoreView). v.log) grows) has

  pub made_keeps : (r : Result Reply NoMemory) (entry : PlainEntry) → is_durable entry.change ≡ false → OnOk r (after ≡ with_one before entry) → Keeps old before pending
      → IfOk r (λ reply. KeepsRequest before pending moment session request after (plain_reply reply) old)
  made_keeps (Ok reply) entry other grows has = other_keeps entry (plain_reply reply) other grows has
  made_keeps (Err error) entry other grows has = tt

  module _ (entry : PlainEntry) (edit : IsDurableEntry before.limits before.history session request entry) where
    is_own : (row : PlainLogged) → row ≡ made_at_moment entry moment → Own row
    is_own row is = subst Own (sym is) (refl, edit)

    own_edit : (row : PlainLogged) → IsThat pending row ⊎ (row ≡ made_at_moment entry moment) → IsThat pending row ⊎ Own row
    own_edit row (inl that) = inl that
    own_edit row (inr is) = inr (is_own row is)

    pub edit_leaves : LeavesOnly old new (HoldsWith (kept_rows before) (λ row. IsThat pending row ⊎ (row ≡ made_at_moment entry moment))) → LeavesOnly old new (HoldsRequest before pending moment session request)
    edit_leaves leaves =
        weaker old new (HoldsWith (kept_rows before) (λ row. IsThat pending row ⊎ (row ≡ made_at_moment entry moment))) (HoldsRequest before pending moment session request) leaves
        (holds_more (kept_rows before) (λ row. IsThat pending row ⊎ (row ≡ made_at_moment entry moment)) (λ row. IsThat pending row ⊎ Own row) own_edit)

    which_edit : (row : PlainLogged) (reply : PlainReply) → IsThat pending row ⊎ ((row ≡ made_at_moment entry moment) × (reply ≡ refused Disk)) → IsThat pending row ⊎ (Own row × (reply ≡ refused Disk))
    which_edit row reply (inl that) = inl that
    which_edit row reply (inr own) = inr (is_own row own.0, own.1)

    edit_keeps : (reply : PlainReply) → KeepsEdit before pending (made_at_moment entry moment) after reply new → KeepsRequest before pending moment session request after reply new
    edit_keeps reply (inl has) = inl has
    edit_keeps reply (inr stays) = inr (record { row = stays.row; which = which_edit stays.row reply stays.which; none_kept = stays.none_kept; keeps = stays.keeps })

    pub kept_keeps : (r : Result Reply NoMemory) → IfOk r (λ reply. KeepsEdit before pending (made_at_moment entry moment) after (plain_reply reply) new) → IfOk r (λ reply. KeepsRequest before pending moment session request after (plain_reply reply) new)
    kept_keeps (Ok reply) keeps = edit_keeps (plain_reply reply) keeps
    kept_keeps (Err error) keeps = tt
