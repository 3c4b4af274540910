use Rattle.std.proofs.Common.{◌++◌}
use Rattle.disk_fields.specs.Format.{u32_bytes, u64_bytes, tumbler_bytes}
use Rattle.page_tables.proofs.Appended.{then_more}
use Rattle.page_tables.proofs.documents.append_document.Goals as goal

pub returns-clause-spelled : goal.returns-clause-spelled
returns-clause-spelled c =
    let row = c.args.row.now in
    then_more c.append_u32.result _ (tumbler_bytes row.document) (u64_bytes row.root ++ u32_bytes row.content) _ _ c.in_ok-append_tumbler.ensures
    (then_more c.append_u32.result _ (u64_bytes row.root) (u32_bytes row.content) _ _ c.in_ok-append_u64.ensures c.append_u32.ensures)
