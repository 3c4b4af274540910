use Rattle.std.proofs.Common.{◌≡◌, ℕ, take, ◌∙◌}
use Rattle.std.specs.Prelude.{replicate}
use Rattle.std.proofs.lemmas.List.{take-replicate}
use Rattle.febe_fields.proofs.fields.zeros.Goals as goal

pub returns-clause-items : goal.returns-clause-items
returns-clause-items c =
    let first = c.split_at.ensures.front in
    let e : take c.args.count (replicate {A = ℕ} 24 0) ≡ replicate c.args.count 0 = take-replicate {X = ℕ} c.args.count 24 0 c.requires in
    (rw c.unwrap.ensures at c.from_slice.ensures.ok) ∙ first ∙ e
