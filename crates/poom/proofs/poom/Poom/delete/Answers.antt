use Rattle.std.proofs.Common.{◌∙◌, ℕ, List, length, ap, sym, subst}
use Rattle.enfilade_core.specs.Rows.{Shape}
use Rattle.enfilade_core.specs.Exchange.{Grows}
use Rattle.poom.proofs.Roots.{grows_on, grows_back}
use Rattle.poom.proofs.poom.Poom.delete.Goals as goal

pub returns-in_default-clause-grows : goal.returns-in_default-clause-grows
returns-in_default-clause-grows c =
    grows_back c.args.self.now c.self-2.inside.arena c.truncate.new.self c.mark-mark.result
    (subst (λ (nodes : List (Shape ℕ)). Grows c.args.self.now nodes) (sym c.self-2.view_is) (grows_on c.args.self.now c.delete_in.new.self c.delete_in-2.new.self c.delete_in.ensures.grows c.delete_in-2.ensures.grows))
    (c.mark-mark.ensures ∙ ap length c.self.view_is) c.truncate.ensures
