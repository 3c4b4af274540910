use Rattle.std.proofs.Common.{◌≡◌, ℕ, true, false, append_assoc, refl, inl, inr, sym, subst, ◌∙◌, [], ◌++◌, le_refl}
use Rattle.febe_wire.specs.Sessions.{greeting}
use Rattle.green_top.specs.declared.session_end.SessionEnd.TheVariants as ends
use Rattle.green_top.proofs.EndedSessions.{begins_at, is_numbered, ends_live_under, ends_over_under, did_not_begin}
use Rattle.green_top.specs.inside.Conversation.{state_by}
use Rattle.green_top.specs.inside.Play.{EndsAt}
use Rattle.green_top.proofs.Rounds.{live_still}
use Rattle.green_top.proofs.session.run_session.Goals as goal

pub converse-end-requires-clause-begun : goal.converse-end-requires-clause-begun
converse-end-requires-clause-begun g c =
    let begun = c.in-Begun.ensures.begins in
    record {
      greeted = record { greeted = c.requires.greeted.greeted; place = c.requires.greeted.place; turns_are = c.requires.greeted.turns_are; within = c.requires.greeted.within };
      opened = g.P.PlaySession.seen c.args.first.now c.args.second.now ++ begun.past;
      begins = begins_at _ _ _ begun;
      no_points = c.requires.no_points;
    }

pub returns-in-NoNumber-clause-session : goal.returns-in-NoNumber-clause-session
returns-in-NoNumber-clause-session g c =
    let none = c.in-NoNumber.ensures in (
      [],
      did_not_begin _ _ ends.NoNumber _ _ _ c.requires.greeted c.requires.no_points none.begins.0 none.never_falls (none.begins.1, (c.args.talk.now.feed.held ++ [], append_assoc greeting c.args.talk.now.feed.held [])) tt,
      inl (record { none_answered = refl; unnumbered = none.begins.0; only_begin = refl; begins = none.begun }),
    )

pub returns-in-Memory-clause-session : goal.returns-in-Memory-clause-session
returns-in-Memory-clause-session g c =
    let none = c.in-Memory.ensures in (
      [],
      did_not_begin _ _ ends.Memory _ _ _ c.requires.greeted c.requires.no_points none.begins none.never_falls tt tt,
      inl (record { none_answered = refl; unnumbered = none.begins; only_begin = inr refl; begins = none.begun }),
    )

pub returns-then-over-clause-session : goal.returns-then-over-clause-session
returns-then-over-clause-session g c =
    let begun = c.in-Begun.ensures in
    let conv = c.converse-end.ensures in
    let dead : c.converse-end.result.live ≡ false = c.if-over.true in
    let h = g.P.PlaySession.seen c.converse-end.new.first c.converse-end.new.second in (
      conv.conversed.0,
      ends_over_under _ _ begun.limits _ _ conv.number
          (state_by g.P.PlaySession.seen g.P.PlaySession.faults g.S.Source.left g.S.Source.fault_count g.K.Sink.taken g.K.Sink.fault_count c.args.first.now c.args.second.now c.args.source.now c.args.sink.now c.args.talk.now)
          (state_by g.P.PlaySession.seen g.P.PlaySession.faults g.S.Source.left g.S.Source.fault_count g.K.Sink.taken g.K.Sink.fault_count c.converse-end.new.first c.converse-end.new.second c.converse-end.new.source c.converse-end.new.sink c.converse-end.new.talk)
          (g.P.PlaySession.seen c.begin.new.first c.begin.new.second) (g.P.PlaySession.faults c.begin.new.first c.begin.new.second) (g.P.PlaySession.faults c.converse-end.new.first c.converse-end.new.second) begun.never_falls (le_refl _) begun.begins _ conv.conversed.0 conv.conversed.1
          (live_still h h _ _ _ refl (sym conv.number) (conv.live ∙ dead)),
      inr (record {
        begun = c.begin.new.first;
        begun' = c.begin.new.second;
        coming_begun = g.C.Clock.coming c.begin.new.clock;
        left = c.converse-end.new.first;
        left' = c.converse-end.new.second;
        coming_left = g.C.Clock.coming c.converse-end.new.clock;
        done = conv.conversed.2.0;
        is_done_at = conv.conversed.2.1;
        begins = begun.begun;
        numbered = is_numbered _ _ _ begun.begins;
        chain = conv.conversed.2.2;
        last = inr (conv.live ∙ dead, refl, refl, refl);
      }),
    )

pub returns-clause-session : goal.returns-clause-session
returns-clause-session g c =
    let begun = c.in-Begun.ensures in
    let conv = c.converse-end.ensures in
    let alive : c.converse-end.result.live ≡ true = c.if-over.false in
    let h = g.P.PlaySession.seen c.converse-end.new.first c.converse-end.new.second in
    let after = g.P.PlaySession.seen c.end.new.first c.end.new.second in (
      conv.conversed.0,
      ends_live_under _ _ begun.limits _ _ (c.end.ensures.number ∙ conv.number)
          (state_by g.P.PlaySession.seen g.P.PlaySession.faults g.S.Source.left g.S.Source.fault_count g.K.Sink.taken g.K.Sink.fault_count c.args.first.now c.args.second.now c.args.source.now c.args.sink.now c.args.talk.now)
          (state_by g.P.PlaySession.seen g.P.PlaySession.faults g.S.Source.left g.S.Source.fault_count g.K.Sink.taken g.K.Sink.fault_count c.converse-end.new.first c.converse-end.new.second c.converse-end.new.source c.converse-end.new.sink c.converse-end.new.talk)
          (g.P.PlaySession.seen c.begin.new.first c.begin.new.second) (g.P.PlaySession.faults c.begin.new.first c.begin.new.second) (g.P.PlaySession.faults c.end.new.first c.end.new.second) begun.never_falls c.end.ensures.never_falls begun.begins _ conv.conversed.0 conv.conversed.1 after
          (live_still h h _ _ _ refl (sym conv.number) (conv.live ∙ alive)) (subst (λ (n : ℕ). EndsAt n h after) conv.number c.end.ensures.ends),
      inr (record {
        begun = c.begin.new.first;
        begun' = c.begin.new.second;
        coming_begun = g.C.Clock.coming c.begin.new.clock;
        left = c.converse-end.new.first;
        left' = c.converse-end.new.second;
        coming_left = g.C.Clock.coming c.converse-end.new.clock;
        done = conv.conversed.2.0;
        is_done_at = conv.conversed.2.1;
        begins = begun.begun;
        numbered = is_numbered _ _ _ begun.begins;
        chain = conv.conversed.2.2;
        last = inl (conv.live ∙ alive, c.end.ensures.ended);
      }),
    )
