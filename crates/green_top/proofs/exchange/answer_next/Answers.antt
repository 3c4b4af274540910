use Rattle.std.proofs.Common.{◌≢◌, ◌∙◌, [], inr, refl, sym}
use Rattle.febe_data.specs.Plain.{plain_request, quit}
use Rattle.green_top.specs.declared.session_end.SessionEnd.TheVariants as ends
use Rattle.green_top.proofs.Chains.{leads_nothing, leads_asked, leads_turn, chain_turn}
use Rattle.green_top.proofs.Rounds.{ended, handled_later, was_asked, asked, asked_quit, live_still}
use Rattle.green_top.proofs.exchange.answer_next.Goals as goal

pub returns-in-Err-clause-round : goal.returns-in-Err-clause-round
returns-in-Err-clause-round g c = ([], (ended _ _ _ _ c.in-Err.end (record { history = refl; points = refl; taken = refl; faults = refl; disk_faults = refl }) c.in-Err.ensures.next, c.requires.live), leads_nothing _ _ c.in-Err.end _ _ _)

pub returns-in-WriteFault-clause-round : goal.returns-in-WriteFault-clause-round
returns-in-WriteFault-clause-round g c =
    let one = c.answer_one-put.ensures in
    let handled = one.answered in (
      handled.0,
      (
        (plain_request c.in-Ok-Some.request, asked _ _ _ handled.0 _ _ _ c.in-WriteFault.is _ _ _ _ _ _ _ _ _ _ refl (rw c.in-Ok-Some.field-0-is at c.in-Ok-Some.ensures.next) handled.1),
        live_still (g.P.PlaySession.seen c.answer_one-put.new.first c.answer_one-put.new.second) (g.P.PlaySession.seen c.answer_one-put.new.first c.answer_one-put.new.second) _ _ _ refl (sym one.number) one.live,
      ),
      leads_asked _ _ ends.WriteFault tt _ _ _ _ _ _ _ handled.2,
    )

pub returns-in-Memory-clause-round : goal.returns-in-Memory-clause-round
returns-in-Memory-clause-round g c =
    let one = c.answer_one-put.ensures in
    let handled = one.answered in (
      handled.0,
      (
        inr (plain_request c.in-Ok-Some.request, asked _ _ _ handled.0 _ _ _ c.in-Memory.is _ _ _ _ _ _ _ _ _ _ refl (rw c.in-Ok-Some.field-0-is at c.in-Ok-Some.ensures.next) handled.1),
        live_still (g.P.PlaySession.seen c.answer_one-put.new.first c.answer_one-put.new.second) (g.P.PlaySession.seen c.answer_one-put.new.first c.answer_one-put.new.second) _ _ _ refl (sym one.number) one.live,
      ),
      leads_asked _ _ ends.Memory tt _ _ _ _ _ _ _ handled.2,
    )

pub returns-then-quits-clause-round : goal.returns-then-quits-clause-round
returns-then-quits-clause-round g c =
    let one = c.answer_one-put.ensures in
    let handled = one.answered in (
      handled.0,
      (
        asked_quit _ _ _ handled.0 c.in-Ok-Some.request _ _ c.in-Done.is _ _ _ _ _ _ _ _ _ _ c.tend.ensures.seen (rw c.in-Ok-Some.field-0-is at c.in-Ok-Some.ensures.next) (handled_later _ _ _ _ _ _ _ _ _ _ _ handled.0 c.in-Done.is c.tend.ensures.never_falls handled.1) (c.if-quits.ensures.0 refl),
        live_still _ _ _ _ _ c.tend.ensures.seen (sym one.number) one.live,
      ),
      leads_turn _ _ ends.Quit _ _ _ _ _ _ _ _ _ _ (was_asked _ _ _ _ _ _ _ c.in-Done.is handled.1) handled.2 c.tend.ensures.tended,
    )

pub returns-clause-round : goal.returns-clause-round
returns-clause-round g c =
    let one = c.answer_one-put.ensures in
    let handled = one.answered in
    let no_quit : plain_request c.in-Ok-Some.request ≢ quit = λ quits. absurd (let never = c.if-quits.ensures.1 quits in cc) in (
      handled.0,
      (
        (plain_request c.in-Ok-Some.request, no_quit, asked _ _ _ handled.0 c.in-Ok-Some.request _ _ c.in-Done.is _ _ _ _ _ _ _ _ _ _ c.tend.ensures.seen (rw c.in-Ok-Some.field-0-is at c.in-Ok-Some.ensures.next) (handled_later _ _ _ _ _ _ _ _ _ _ _ handled.0 c.in-Done.is c.tend.ensures.never_falls handled.1)),
        live_still _ _ _ _ _ c.tend.ensures.seen (sym one.number) (one.live ∙ one.stays no_quit),
      ),
      chain_turn _ _ _ _ _ _ _ _ _ _ _ _ (was_asked _ _ _ _ _ _ _ c.in-Done.is handled.1) handled.2 c.tend.ensures.tended,
    )
