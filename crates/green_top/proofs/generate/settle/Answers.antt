use Rattle.std.proofs.Common.{◌∙◌, refl}
use Rattle.green_top.proofs.Alone.{tended_history, settled_not, settled_more}
use Rattle.green_top.proofs.generate.settle.Goals as goal

pub returns-then-not-put_right : goal.returns-then-not-put_right
returns-then-not-put_right g c = record {
  number = c.put_right.ensures.tended.number_stays ∙ c.loop.invariant.number;
  history = tended_history _ _ _ _ _ _ _ _ c.put_right.ensures.tended ∙ c.loop.invariant.history;
  settles = settled_more _ _ _ _ _ _ _ _ _ _ _ _ c.loop.invariant.settles c.put_right.ensures.tended;
}

pub loop-init : goal.loop-init
loop-init g c = record { number = refl; history = refl; settles = settled_not g.D.Disk.state g.D.Disk.fault_count _ _ _ _ }

pub loop-preserved : goal.loop-preserved
loop-preserved g c = record {
  number = c.put_right.ensures.tended.number_stays ∙ c.loop.invariant.number;
  history = tended_history _ _ _ _ _ _ _ _ c.put_right.ensures.tended ∙ c.loop.invariant.history;
  settles = settled_more _ _ _ _ _ _ _ _ _ _ _ _ c.loop.invariant.settles c.put_right.ensures.tended;
}
