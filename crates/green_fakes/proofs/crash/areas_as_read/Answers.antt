-- The areas as they read are an image.
use Rattle.std.proofs.Common.{reverse, rules}
use Rattle.green_fakes.proofs.Replays.{read_image}
use Rattle.green_fakes.proofs.crash.areas_as_read.Goals as goal

pub returns-clause-image : goal.returns-clause-image
returns-clause-image c =
    read_image c.args.first.now (record { log = c.in_ok-log.log.reads; home = c.in_ok-home.home.reads; journal = c.in_ok-journal.journal.reads; second = c.in_ok-second.second.reads }) (reverse c.args.changes.now) (search rules)
