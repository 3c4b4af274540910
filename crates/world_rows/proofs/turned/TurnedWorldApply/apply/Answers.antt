-- An entry comes to both, and what it makes stands behind the others.
use Rattle.std.specs.Prelude.{IsOk}
use Rattle.febe_data.specs.Plain.{plain_entry}
use Rattle.world_rules.specs.FlatView.{after_entry}
use Rattle.world_rules.specs.InPlace.{HasRoom}
use Rattle.world_rows.proofs.Entries.{entry_turns, on_ok, on_err}
use Rattle.world_rows.proofs.Turns.{turned_has}
use Rattle.world_rows.proofs.turned.TurnedWorldApply.apply.Goals as goal

pub returns-clause-ok : goal.returns-clause-ok
returns-clause-ok g c view of =
    let entry = plain_entry c.args.entry.now in
    on_ok c.apply.result _ _ (c.apply.ensures.ok of.base of.stood)
    (λ stood. record { base = after_entry of.base entry; stood = stood; turned = entry_turns of.base view entry of.turned })

pub returns-clause-err : goal.returns-clause-err
returns-clause-err g c view of = on_err c.apply.result _ _ (c.apply.ensures.err of.base of.stood) (λ stood. record { base = of.base; stood = stood; turned = of.turned })

pub returns-clause-in_place : goal.returns-clause-in_place
returns-clause-in_place g c view of drops =
    turned_has (λ v. HasRoom v.sessions c.args.entry.now.session → IsOk c.apply.result) of.base view of.turned (c.apply.ensures.in_place of.base of.stood drops)
