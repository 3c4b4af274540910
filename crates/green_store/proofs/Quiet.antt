-- Begins and ends of sessions and background steps keep no entry, so no moment comes, and leave what is known of the log alone.
use Rattle.std.proofs.Common.{◌≡◌, ℕ, Bool, false, ap, refl, ◌∙◌}
use Rattle.febe_data.specs.Plain.{PlainEntry}
use Rattle.world_rules.specs.History.{durable_entries, is_durable}
use Rattle.green_store.specs.declared.step.Step.TheVariants as steps
use Rattle.green_store.specs.declared.step.StepAnswer.{StepAnswer}
use Rattle.green_store.specs.declared.step.StepAnswer.TheVariants as answers
use Rattle.green_store.specs.IsStep.{IsStep}
use Rattle.green_store.specs.Sessions.{begin_entry, end_entry}
use Rattle.green_store.specs.StoreView.{StoreView, with_one, StandsStill}
use Rattle.green_store.proofs.Regulars.{kept_other}

pub record IsQuiet (before after : StoreView) : Type 0 where
  pub none_kept : durable_entries after.history ≡ durable_entries before.history
  pub moments_stay : after.moments ≡ before.moments
  pub same_log : after.log ≡ before.log

with_other : (before after : StoreView) (entry : PlainEntry) → is_durable entry.change ≡ false → after ≡ with_one before entry → IsQuiet before after
with_other before after entry other grows = record {
  none_kept = ap (λ (v : StoreView). durable_entries v.history) grows ∙ kept_other before.history entry other;
  moments_stay = ap (λ (v : StoreView). v.moments) grows;
  same_log = ap (λ (v : StoreView). v.log) grows;
}

as_before : (before after : StoreView) → after ≡ before → IsQuiet before after
as_before before after stays = record { none_kept = ap (λ (v : StoreView). durable_entries v.history) stays; moments_stay = ap (λ (v : StoreView). v.moments) stays; same_log = ap (λ (v : StoreView). v.log) stays }

pub begin_is_quiet : (before after : StoreView) (answer : StepAnswer) (rose : Bool) → IsStep before steps.Begin after answer rose → IsQuiet before after
begin_is_quiet before after (answers.Begun session) rose step = with_other before after (begin_entry session) refl step.grows
begin_is_quiet before after answers.NoNumber rose step = as_before before after step.stays
begin_is_quiet before after answers.Memory rose step = as_before before after step.stays
begin_is_quiet before after other rose step = absurd step

pub end_is_quiet : (before after : StoreView) (session : ℕ) (answer : StepAnswer) (rose : Bool) → IsStep before (steps.End session) after answer rose → IsQuiet before after
end_is_quiet before after session answers.Ended rose step = with_other before after (end_entry before.history session) refl step.grows
end_is_quiet before after session answers.NoSession rose step = as_before before after step.stays
end_is_quiet before after session other rose step = absurd step

standing : (before after : StoreView) → StandsStill before after → IsQuiet before after
standing before after still = record { none_kept = ap durable_entries still.history; moments_stay = still.moments; same_log = still.log }

pub background_is_quiet : (before after : StoreView) (answer : StepAnswer) (rose : Bool) → IsStep before steps.Background after answer rose → IsQuiet before after
background_is_quiet before after answers.Balanced rose step = standing before after step.still
background_is_quiet before after answers.Flushed rose step = record { none_kept = ap (λ (v : StoreView). durable_entries v.history) step.still; moments_stay = ap (λ (v : StoreView). v.moments) step.still; same_log = ap (λ (v : StoreView). v.log) step.still }
background_is_quiet before after answers.Disk rose step = record { none_kept = ap (λ (v : StoreView). durable_entries v.history) step.still; moments_stay = ap (λ (v : StoreView). v.moments) step.still; same_log = ap (λ (v : StoreView). v.log) step.still }
background_is_quiet before after answers.Swept rose step = standing before after step.still
background_is_quiet before after answers.Idle rose step = as_before before after step.stays
background_is_quiet before after answers.Memory rose step = record { none_kept = ap (λ (v : StoreView). durable_entries v.history) step.still; moments_stay = ap (λ (v : StoreView). v.moments) step.still; same_log = ap (λ (v : StoreView). v.log) step.still }
background_is_quiet before after other rose step = absurd step
