-- What stands in the log after a mend and an append, whether an edit was pending before them or not.
use Rattle.std.proofs.Common.{◌≡◌, ◌≢◌, ◌⊎◌, inl, inr, ℕ, List, Option, None, Some, refl, subst, sym}
use Rattle.entry_codec.specs.Logged.{PlainLogged}
use Rattle.green_io.specs.Areas.{Areas}
use Rattle.green_io.specs.Disk.{DiskState, LeavesOnly}
use Rattle.green_io.proofs.Crash.{weaker, same, none_called}
use Rattle.edit_log.specs.declared.log.Appended.{Appended}
use Rattle.edit_log.specs.declared.log.Appended.TheVariants.{Ok as Done, Disk as Failed}
use Rattle.edit_log.specs.declared.pending.Pending.{Pending}
use Rattle.edit_log.specs.declared.pending.Pending.TheVariants.{Nothing, Gated}
use Rattle.edit_log.specs.Answers.{OnFailed}
use Rattle.edit_log.specs.Images.{IsOpen, IsPending, IsAppendable, IsMendable, HoldsEither}
use Rattle.edit_log.specs.LogView.{LogView}
use Rattle.green_store.specs.Durable.{LogHas, HoldsWith, IsThat}
use Rattle.green_store.specs.inside.{PendsOneOf}

-- the pending edit, or this one
abbrev ThatOr : Option PlainLogged → PlainLogged → PlainLogged → Type 0
ThatOr pending row other = IsThat pending other ⊎ (other ≡ row)

abbrev Holds : List PlainLogged → Option PlainLogged → PlainLogged → Areas → Type 0
Holds rows pending row image = HoldsWith rows (λ other. IsThat pending other ⊎ (other ≡ row)) image

either_of_two : (rows : List PlainLogged) (pending : Option PlainLogged) (row other : PlainLogged) → ThatOr pending row other → (image : Areas) → HoldsEither rows other image → Holds rows pending row image
either_of_two rows pending row other which image (inl without) = inl without
either_of_two rows pending row other which image (inr with) = inr (other, which, with)

-- a disk and a log before and after a mend
module _ (a b : DiskState) (l m : LogView) (r : Appended) (rows : List PlainLogged) (row : PlainLogged) (untouched : l.pending ≡ Nothing → b ≡ a) (idle : l.pending ≡ Nothing → (r ≡ Done) × (m ≡ l)) where
  pub mend_leaves : (pending : Option PlainLogged) → LogHas a l rows pending
      → ((e : PlainLogged) → IsMendable rows e → IsPending a l rows e → LeavesOnly a b (HoldsEither rows e)) → LeavesOnly a b (Holds rows pending row)
  mend_leaves None has moment = subst (λ (d : DiskState). LeavesOnly a d (Holds rows None row)) (sym (untouched has.idle)) (none_called a (Holds rows None row))
  mend_leaves (Some p) has moment = weaker a b (HoldsEither rows p) (Holds rows (Some p) row) (moment p has.0 has.1) (either_of_two rows (Some p) row p (inl refl))

  pub mend_opens : (pending : Option PlainLogged) → LogHas a l rows pending → ((e : PlainLogged) → IsMendable rows e → IsPending a l rows e → IsOpen b m rows) → IsOpen b m rows
  mend_opens None has opened =
      subst (λ (d : DiskState). IsOpen d m rows) (sym (untouched has.idle)) (subst (λ (v : LogView). IsOpen a v rows) (sym (idle has.idle).1) has)
  mend_opens (Some p) has opened = opened p has.0 has.1

  pub mend_pends : (pending : Option PlainLogged) → LogHas a l rows pending → r ≡ Failed → ((e : PlainLogged) → IsMendable rows e → IsPending a l rows e → IsPending b m rows e)
      → PendsOneOf b m rows (λ other. IsThat pending other ⊎ (other ≡ row))
  mend_pends None has failed pends = absurd (neither (idle has.idle).0 failed)
    where
      neither : r ≡ Done → r ≡ Failed → ⊥
      neither x y = cc
  mend_pends (Some p) has failed pends = record { row = p; which = inl refl; has = (has.0, pends p has.0 has.1) }

-- and then an append
module _ (b c : DiskState) (m n : LogView) (rows : List PlainLogged) (pending : Option PlainLogged) (row : PlainLogged) (bytes : List ℕ) (may : IsAppendable rows row bytes) where
  pub append_leaves : (a : DiskState) → LeavesOnly a b (Holds rows pending row) → LeavesOnly b c (HoldsEither rows row) → LeavesOnly a c (Holds rows pending row)
  append_leaves a first then =
      same a b c (Holds rows pending row) first (weaker b c (HoldsEither rows row) (Holds rows pending row) then (either_of_two rows pending row row (inr refl)))

  pub append_pends : IsPending c n rows row → PendsOneOf c n rows (λ other. IsThat pending other ⊎ (other ≡ row))
  append_pends is = record { row = row; which = inr refl; has = (record { before = may.before; next = may.next }, is) }

pub not_gated : (p : Pending) → p ≡ Nothing → p ≢ Gated
not_gated p e f = cc

pub on_failed : (r : Appended) (P Q : Type 0) → (P → Q) → OnFailed r P → OnFailed r Q
on_failed Done P Q follows is = tt
on_failed Failed P Q follows is = follows is
