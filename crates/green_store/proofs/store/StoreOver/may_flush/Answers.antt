-- The world has counted the kept entries, and the pages stand for no more.
use Rattle.std.proofs.Common.{◌≡◌, ◌-◌, ◌∙◌, ℕ, length, ap, arith}
use Rattle.std.specs.Prelude.{nat_le}
use Rattle.febe_data.specs.Plain.{plain_history}
use Rattle.world_rules.specs.FlatView.{view_of}
use Rattle.world_rules.specs.History.{durable_entries}
use Rattle.world_rules.proofs.Folded.{counts_kept}
use Rattle.green_store.specs.IsStep.{unsaved}
use Rattle.green_store.specs.StoreView.{StoreView}
use Rattle.green_store.proofs.store.StoreOver.may_flush.Goals as goal

pub overflow_sub-result : goal.overflow_sub-result
overflow_sub-result g c =
    let h = plain_history c.self.inside.history.items in
    let counted : c.counted.result ≡ length (durable_entries h) = c.counted.ensures (view_of h) c.self.invariant.world_stands ∙ counts_kept h in
    omega (arith, c.self.invariant.saved, counted)

pub returns : goal.returns
returns g c =
    let h = plain_history c.self.inside.history.items in
    let counted : c.counted.result ≡ length (durable_entries h) = c.counted.ensures (view_of h) c.self.invariant.world_stands ∙ counts_kept h in
    ap (λ (n : ℕ). nat_le n (c.counted.result - c.self.inside.flushed)) (c.from.ensures ∙ c.flush.ensures.value)
    ∙ ap (λ (n : ℕ). nat_le c.self.inside.limits.flush (n - c.self.inside.flushed)) counted
    ∙ ap (λ (v : StoreView). nat_le v.limits.flush (unsaved v)) c.self.view_is
