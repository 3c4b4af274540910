use Rattle.std.proofs.Common.{◌++◌}
use Rattle.disk_fields.specs.Format.{u64_bytes}
use Rattle.page_tables.proofs.Appended.{then_more}
use Rattle.page_tables.proofs.whole.append_roots.Goals as goal

pub returns-clause-spelled : goal.returns-clause-spelled
returns-clause-spelled c =
    let tables = c.args.tables.now in
    let r = c.append_u64-5.result in
    then_more r _ (u64_bytes tables.granfilade) (u64_bytes tables.spanfilade ++ (u64_bytes tables.from ++ (u64_bytes tables.to ++ u64_bytes tables.three))) _ _ c.in_ok-append_u64.ensures
    (then_more r _ (u64_bytes tables.spanfilade) (u64_bytes tables.from ++ (u64_bytes tables.to ++ u64_bytes tables.three)) _ _ c.in_ok-append_u64-2.ensures
    (then_more r _ (u64_bytes tables.from) (u64_bytes tables.to ++ u64_bytes tables.three) _ _ c.in_ok-append_u64-3.ensures
    (then_more r _ (u64_bytes tables.to) (u64_bytes tables.three) _ _ c.in_ok-append_u64-4.ensures c.append_u64-5.ensures)))
