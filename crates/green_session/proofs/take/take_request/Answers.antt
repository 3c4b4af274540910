use Rattle.std.proofs.Common.{◌≡◌, ℕ, List, ◌++◌, length, take, refl, sym, ap, subst, ◌∙◌, arith}
use Rattle.std.proofs.lemmas.List.{length-take-le}
use Rattle.febe_feed.specs.FeedView.{with_piece, Waits}
use Rattle.green_session.specs.Taking.{TurnsView, with_taken, read_state, IsWithin}
use Rattle.green_session.proofs.Known.{consumes_kept}
use Rattle.green_session.proofs.Reading.{NextRead, nothing_read, reads_more, cut_off, at_end, waits_for, was_refused}
use Rattle.green_session.proofs.take.take_request.Goals as goal

pub loop-request-init : goal.loop-request-init
loop-request-init g c = nothing_read (read_state (g.S.Source.left c.args.source.now) (g.S.Source.fault_count c.args.source.now) c.args.feed.now (record { limit = c.turns.inside.limit; taken = c.turns.inside.taken })) c.turns.invariant.taken_bound

pub returns-then-is_err : goal.returns-then-is_err
returns-then-is_err g c =
    let answer = c.in-Got.ensures.answer in
    let h = c.loop-request.invariant in
    let waits : c.next.new.self ≡ c.loop-request.feed = (rw c.in-Ok-NotYet.field-0-is at c.in-Ok-NotYet.ensures.next).stays in
    let stays : c.push.new.self ≡ c.loop-request.feed = was_refused c.push.result (c.push.new.self ≡ c.take_room.new.self) (sym c.is_err.ensures.value ∙ c.if-is_err.true) c.push.ensures.err ∙ c.take_room.ensures ∙ waits in
    let next : NextRead (read_state (g.S.Source.left c.loop-request.source) (g.S.Source.fault_count c.loop-request.source) c.loop-request.feed (record { limit = c.loop-request.turns-inside.limit; taken = c.loop-request.turns-inside.taken }))
    (g.S.Source.left c.read.new.self) (g.S.Source.fault_count c.read.new.self) (take c.in-Got.n c.read.new.into) c.in-Got.n = record {
      consumed = answer.2;
      rises = c.in-Got.ensures.never_falls;
      count = sym (length-take-le c.in-Got.n c.read.new.into answer.1);
      most = omega (arith, answer.1, c.read.auto.into);
      awaits_more = (rw c.in-Ok-NotYet.field-0-is at c.in-Ok-NotYet.ensures.next).prefix;
      allowed = search;
      bound = omega (arith, c.turns.invariant.limit_bound, ap (λ (t : TurnsView). t.limit) h.reads.counted);
    } in
    let r = reads_more _ _ h _ _ _ _ next c.push.new.self in
    let read : List ℕ = h.read ++ take c.in-Got.n c.read.new.into in
    record {
      taken = record {
        read = read;
        reads = record {
          consumed = r.consumed;
          never_falls = r.never_falls;
          counted = ap (λ (n : ℕ). record { limit = c.loop-request.turns-inside.limit; taken = n }) c.saturating_add-turns-inside.ensures ∙ r.counted ∙ ap (λ (turns : TurnsView). with_taken turns (length read)) c.turns.view_is;
          within = subst (λ (turns : TurnsView). IsWithin c.args.feed.now turns read) c.turns.view_is r.within;
        };
        comes = cut_off _ _ h _ _ _ _ next c.push.new.self stays;
      };
    }

pub returns-in-End : goal.returns-in-End
returns-in-End g c =
    let h = c.loop-request.invariant in
    record {
      taken = record {
        read = h.read;
        reads = record {
          consumed = consumes_kept _ _ _ h.read h.reads.consumed c.in-End.ensures.answer.0;
          never_falls = omega (arith, h.reads.never_falls, c.in-End.ensures.never_falls);
          counted = h.reads.counted ∙ ap (λ (turns : TurnsView). with_taken turns (length h.read)) c.turns.view_is;
          within = subst (λ (turns : TurnsView). IsWithin c.args.feed.now turns h.read) c.turns.view_is h.reads.within;
        };
        comes = at_end _ _ h.read (subst (Waits (with_piece c.args.feed.now h.read)) (sym c.take_room.ensures) (waits_for c.args.feed.now c.loop-request.feed c.next.new.self h.read h.pushed (rw c.in-Ok-NotYet.field-0-is at c.in-Ok-NotYet.ensures.next))) c.in-End.ensures.answer.1 (search) c.answer_at_end.result c.answer_at_end.ensures;
      };
    }
