use Rattle.std.proofs.Common.{ℕ, ap}
use Rattle.tumbler.specs.ListView.{ListView}
use Rattle.green_flush.proofs.Opening.{over-made}
use Rattle.green_flush.proofs.loading.Opened.over.Goals as goal

pub returns : goal.returns
returns c =
    over-made c.args.header.now.position c.args.journal c.in-Some.trees c.in_ok-trees.field-0 c.in_ok-flush.flush c.with_tables.result c.in_ok-tables.tables.items c.as_slice-chains.result.now c.args.header.now.chains.items
    c.in_ok-trees.ensures c.in-Some.is c.as_slice-chains.ensures c.in_ok-tables.ensures c.with_tables.ensures.trees (ap (λ (x : ListView ℕ). x.items) c.with_tables.ensures.tables)
    c.in_ok-flush.ensures.journal c.in_ok-flush.ensures.knows c.in_ok-flush.ensures.goes_on c.in_ok-flush.ensures.counts
