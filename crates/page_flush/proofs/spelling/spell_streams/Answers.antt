-- One stream more is spelled.
use Rattle.std.proofs.Common.{◌∙◌, List, take_all, subst, arith}
use Rattle.page_journal.specs.JournalBytes.{writes_of}
use Rattle.page_flush.specs.declared.stream_bytes.StreamBytes.{StreamBytes}
use Rattle.page_flush.specs.FlushView.{plain_streams}
use Rattle.page_flush.specs.inside.Spells.{AreSpelled}
use Rattle.page_flush.proofs.SpellSteps.{spelled_none, spelled_more}
use Rattle.page_flush.proofs.spelling.spell_streams.Goals as goal

pub loop-place-init : goal.loop-place-init
loop-place-init c = record {
  spelled = spelled_none c.args.spared.now c.args.draft.now.next (plain_streams c.args.kept.now) c.reserve.new.self.items (writes_of c.args.draft.now.pages.items) (c.in_ok-reserve.ensures.items ∙ c.new-streams.ensures.items);
  room = omega (arith, c.in_ok-reserve.ensures.ok);
}

pub loop-place-preserved : goal.loop-place-preserved
loop-place-preserved c = record {
  spelled = spelled_more c.args.spared.now c.args.draft.now.next c.loop-place.draft.next c.spell_given.new.draft.next (plain_streams c.args.kept.now) c.args.given.now c.loop-place.place c.index-given-place.result c.loop-place.streams.items c.push_reserved.new.self.items c.in_ok-stream.stream (writes_of c.args.draft.now.pages.items) (writes_of c.loop-place.draft.pages.items) (writes_of c.spell_given.new.draft.pages.items) (omega arith) c.index-given-place.is c.push_reserved.ensures.items c.loop-place.invariant.spelled c.in_ok-stream.ensures;
  room = omega (arith, c.loop-place.invariant.room, c.push_reserved.ensures.spare, c.loop-place-test.true);
}

pub returns : goal.returns
returns c = subst (λ (l : List StreamBytes). AreSpelled c.args.spared.now c.args.draft.now.next c.loop-place.draft.next (plain_streams c.args.kept.now) l (plain_streams c.loop-place.streams.items) (writes_of c.args.draft.now.pages.items) (writes_of c.loop-place.draft.pages.items)) (take_all c.loop-place.place c.args.given.now (omega arith)) c.loop-place.invariant.spelled
