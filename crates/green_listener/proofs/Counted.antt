-- Jobs that were served and counted are as many as were counted.
use Rattle.std.proofs.Common.{ℕ, refl, ◌∙◌}
use Rattle.history_lock.specs.declared.view.View.{View}
use Rattle.session_pool.specs.Serving.{HasPooled}

pub by_count : {E : Type 0} (owner : E → ℕ) (v w : View E) (given count : ℕ) → HasPooled owner v given count w → HasPooled owner v count count w
by_count owner v w given count p = record { served = p.served; passes = p.passes; each = p.counted ∙ p.each; counted = refl }
