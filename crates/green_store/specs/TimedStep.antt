-- What a step does to the moments of a store's kept entries.
use Rattle.std.specs.Prelude.{◌≡◌, ◌⊎◌, ℕ, [], ◌∷◌, ◌++◌}
use Rattle.febe_data.specs.Plain.{PlainEntry}
use Rattle.world_rules.specs.History.{durable_entries}
use Rattle.green_store.specs.StoreView.{StoreView}

-- no entry was kept, and no moment came
pub record AddsNoMoment (before after : StoreView) : Type 0 where
  pub none_kept : durable_entries after.history ≡ durable_entries before.history
  pub moments_stay : after.moments ≡ before.moments

-- one entry was kept, and this moment came
pub record AddsMoment (before : StoreView) (moment : ℕ) (after : StoreView) : Type 0 where
  pub entry : PlainEntry
  pub one_kept : durable_entries after.history ≡ durable_entries before.history ++ entry ∷ []
  pub moment_comes : after.moments ≡ before.moments ++ moment ∷ []

-- Each kept entry has the moment that its step was given.
abbrev pub IsTimedStep : StoreView → ℕ → StoreView → Type 0
IsTimedStep before moment after = AddsNoMoment before after ⊎ AddsMoment before moment after
