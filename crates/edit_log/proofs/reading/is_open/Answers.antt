-- Nothing was written after the sync, so what it made stable stays so.
use Rattle.std.proofs.Common.{◌∙◌}
use Rattle.green_io.specs.declared.disk.Area.TheVariants as area
use Rattle.green_io.specs.Disk.{Nothing}
use Rattle.green_io.proofs.Crash.{same, now_was}
use Rattle.edit_log.proofs.Durable.{durable_where}
use Rattle.edit_log.proofs.reading.is_open.Goals as goal

pub returns-then-count-le1-clause-durable : goal.returns-then-count-le1-clause-durable
returns-then-count-le1-clause-durable g c =
    durable_where area.Second _ _ _ _ (c.length.ensures.reads ∙ c.sync.ensures.reads)
    (now_was _ _ (g.met.D.Disk.is_disk c.length.new.self) c.length.ensures.crash) c.in_ok-sync.ensures.durable

pub returns-clause-durable : goal.returns-clause-durable
returns-clause-durable g c =
    let leaves = same _ _ _ Nothing c.length.ensures.crash c.has_open_gate.ensures.crash in
    durable_where area.Second _ _ _ _ (c.has_open_gate.ensures.reads ∙ c.length.ensures.reads ∙ c.sync.ensures.reads)
    (now_was _ _ (g.met.D.Disk.is_disk c.has_open_gate.new.disk) leaves) c.in_ok-sync.ensures.durable
