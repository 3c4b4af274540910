use Rattle.std.proofs.Common.{IfNone, Option, Result, Ok, Err, sym, subst, IsOk}
use Rattle.std.specs.Result.{result_ok}
use Rattle.febe_data.specs.LimitsView.{LimitsView}
use Rattle.green_top.specs.Words.{SpellNoLimits}
use Rattle.green_top.proofs.WordForms.{past_bounds}
use Rattle.green_top.proofs.words.named_limits.Goals as goal

none_of_error : {T E : Type 0} (P : Type 0) (result : Result T E) → ((IsOk result → ⊥) → P) → IfNone (result_ok result) P
none_of_error P (Ok value) f = tt
none_of_error P (Err error) f = f (λ ok. let e = ok in cc)

pub returns-clause-none : goal.returns-clause-none
returns-clause-none c =
    let P = SpellNoLimits c.args.entries.now c.args.text.now c.args.flush.now in
    subst (λ (o : Option LimitsView). IfNone o P) (sym c.ok.ensures.value)
    (none_of_error P c.new.result (λ wrong. past_bounds c.args.entries.now c.args.text.now c.args.flush.now c.in_ok-entries.entries c.in_ok-text.text c.in_ok-flush.flush c.in_ok-entries.ensures.some c.in_ok-text.ensures.some c.in_ok-flush.ensures.some (search) (search) (search) (λ are. wrong (c.new.ensures.accepted.1 are))))
