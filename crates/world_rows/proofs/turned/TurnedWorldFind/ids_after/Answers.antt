-- Ids ascend, in whatever order the links are.
use Rattle.std.proofs.Common.{◌≡◌, ℕ, List, take, subst}
use Rattle.std.specs.Prelude.{IfOk}
use Rattle.std.specs.List.{filter}
use Rattle.std.specs.Ordering.{nat_cmp, is_lt}
use Rattle.std.specs.Cmp.Lexicographic.{slice_cmp}
use Rattle.febe_data.specs.Plain.{plain_want}
use Rattle.world_rows.proofs.Turns.{ids_moved, of_itself}
use Rattle.world_rows.proofs.turned.TurnedWorldFind.ids_after.Goals as goal

pub ids_after-requires : goal.ids_after-requires
ids_after-requires g c view stood = c.requires view (of_itself _ view stood)

pub returns-clause-items : goal.returns-clause-items
returns-clause-items g c view of =
    subst (λ (found : List (List ℕ)). IfOk c.ids_after.result (λ made. made.items ≡ take c.args.limit (filter (λ id. is_lt (slice_cmp nat_cmp c.args.after.now id)) found))) (ids_moved of.base view c.args.session (plain_want c.args.want.now) of.turned)
    (c.ids_after.ensures.items of.base of.stood)
