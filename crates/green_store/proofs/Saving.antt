-- What a save does to a store, and which background step is made.
use Rattle.std.proofs.Common.{◌≡◌, ℕ, ◌<◌, ◌≤◌, Bool, true, false, Ok, inl, inr, length, ap, sym, ◌∙◌, subst, arith}
use Rattle.std.specs.Prelude.{IsTrue, nat_le}
use Rattle.std.proofs.lemmas.Bool.{true≢false}
use Rattle.std.proofs.lemmas.Bool.Decides.{nat_tests}
use Rattle.green_io.specs.Disk.{DiskState}
use Rattle.world_rules.specs.History.{durable_entries}
use Rattle.green_flush.specs.Standing.{FlushView}
use Rattle.green_store.specs.declared.step.Step.TheVariants as steps
use Rattle.green_store.specs.declared.step.StepAnswer.{StepAnswer}
use Rattle.green_store.specs.declared.step.StepAnswer.TheVariants as answers
use Rattle.green_store.specs.inside.{IsBalancing, IsSpared}
use Rattle.green_store.specs.IsStep.{IsStep, MayBalance, MayFlush, IsBalanced, IsFlushed, IsFlushStopped, IsPutOff, OnFlushed, unsaved}
use Rattle.green_store.specs.Paged.{HasPages}
use Rattle.green_store.specs.StoreView.{StoreView}
use Rattle.green_store.proofs.Paging.{stay_paged, swept_paged}

module _ (inside before : StoreView) (same : inside ≡ before) (may : MayFlush before) (flush : FlushView) where
  pub made : (kept : ℕ) → kept ≡ length (durable_entries inside.history) → IsFlushed before (record inside { flush = flush; flushed = kept })
  made kept counted = record {
    may = may;
    flushed_is = counted ∙ ap (λ (v : StoreView). length (durable_entries v.history)) same;
    still = ap (λ (v : StoreView). record v { flush = flush; flushed = kept }) same;
  }

  pub stopped : (rose : Bool) → IsTrue rose → IsFlushStopped before (record inside { flush = flush }) rose
  stopped rose failed = record { may = may; failed = failed; still = ap (λ (v : StoreView). record v { flush = flush }) same }

  pub put_off : IsPutOff before (record inside { flush = flush })
  put_off = record {
    may = inr (inl may);
    still = ap (λ (v : StoreView). record v { flush = flush }) same;
    stays = λ few. absurd (apart (unsaved before) before.limits.flush may.many few);
  }
    where
      apart : (m n : ℕ) → n ≤ m → m < n → ⊥
      apart m n le lt = omega arith

-- ---- which step is made

pub balanced_so : (made : Bool) (before after : StoreView) → IsBalancing (Ok made) before after → made ≡ true → IsBalanced before after
balanced_so true before after is same = is
balanced_so false before after is same = absurd (true≢false (sym same))

pub idle_so : (made : Bool) (before after : StoreView) → IsBalancing (Ok made) before after → made ≡ false → (before.trees.allows ≡ false) × (after ≡ before)
idle_so false before after is same = is
idle_so true before after is same = absurd (true≢false same)

pub not_balanced : (before after : StoreView) → MayBalance before → after ≡ before → IsPutOff before after
not_balanced before after may stays = record {
  may = inl may;
  still = stays ∙ ap (λ (v : StoreView). record before { flush = v.flush }) (sym stays);
  stays = λ few. stays;
}

pub is_many : (told : Bool) (m n : ℕ) → told ≡ nat_le m n → told ≡ true → m ≤ n
is_many told m n is same = within m n (sym is ∙ same)
  where
    within : (m n : ℕ) → nat_le m n ≡ true → m ≤ n
    within m n le = grind (arith, nat_tests)

pub are_few : (told : Bool) (m n : ℕ) → told ≡ nat_le m n → told ≡ false → n < m
are_few told m n is same = beyond m n (sym is ∙ same)
  where
    beyond : (m n : ℕ) → nat_le m n ≡ false → n < m
    beyond m n le = grind (arith, nat_tests)

-- ---- where no pages are to be written

apart : (before : StoreView) → IsSpared before → MayFlush before → ⊥
apart before spared may = never (unsaved before) before.limits.flush may.many spared.saved
  where
    never : (m n : ℕ) → n ≤ m → m < n → ⊥
    never m n le lt = omega arith

as_it_was : (disk : DiskState) (before after : StoreView) → after ≡ before → HasPages disk before → HasPages disk after
as_it_was disk before after same has = subst (λ (v : StoreView). HasPages disk v) (sym same) has

pub spared_paged : (disk : DiskState) (before after : StoreView) (answer : StepAnswer) (rose : Bool) → IsSpared before → IsStep before steps.Background after answer rose → HasPages disk before → HasPages disk after
spared_paged disk before after answers.Balanced rose spared step has = stay_paged before after step.pages_stay.flush step.grown disk has
spared_paged disk before after answers.Flushed rose spared step has = absurd (apart before spared step.may)
spared_paged disk before after answers.Disk rose spared step has = absurd (apart before spared step.may)
spared_paged disk before after answers.Swept rose spared step has = swept_paged disk before after step.renewed has
spared_paged disk before after answers.Idle rose spared step has = as_it_was disk before after step.stays has
spared_paged disk before after answers.Memory rose spared step has = as_it_was disk before after (step.stays spared.saved) has
spared_paged disk before after other rose spared step has = absurd step

pub spared_flushes_none : (before after : StoreView) (answer : StepAnswer) (rose : Bool) (fact : Type 0) → IsSpared before → IsStep before steps.Background after answer rose → OnFlushed answer fact
spared_flushes_none before after answers.Flushed rose fact spared step = absurd (apart before spared step.may)
spared_flushes_none before after other rose fact spared step = tt
