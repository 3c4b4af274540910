use Rattle.store_tests.proofs.NoneLater.{grown_by_one}
use Rattle.store_tests.proofs.locked.sums.SumsKept.play.Goals as goal

pub returns-clause-grows : goal.returns-clause-grows
returns-clause-grows c = let pushed = c.in-Ok.ensures in let own = c.own_number-own.ensures in
    grown_by_one c.args.self.now.last c.args.number c.own_number-own.result c.args.job c.args.self.now.entries.items _ c.args.self.now.no_later pushed.items own.new own.old
