use Rattle.std.proofs.Common.{ℕ, ◌++◌, List, ap, ◌∙◌}
use Rattle.std.proofs.lemmas.Result.{on_ok_weaker}
use Rattle.granfilade.proofs.WholeRows.{whole-found}
use Rattle.granfilade.proofs.granfilade.Granfilade.bytes_from.Goals as goal

pub returns-in-Some-clause-ok : goal.returns-in-Some-clause-ok
returns-in-Some-clause-ok c =
    on_ok_weaker c.extend_from_slice.result
    (λ e. e ∙ ap (λ (bs : List ℕ). c.args.into.now.items ++ bs) (whole-found c.args.self.now c.parts.result.0.now c.parts.result.1.0 c.args.start.now c.args.count c.in-Some.bytes.now c.parts.ensures.arena c.parts.ensures.root c.requires.content c.in-Some.ensures))
    c.extend_from_slice.ensures.ok
