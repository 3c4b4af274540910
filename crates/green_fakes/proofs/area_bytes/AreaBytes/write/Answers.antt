-- The bytes have grown up to the end of what is written.
use Rattle.std.proofs.Common.{◌∙◌, arith}
use Rattle.green_fakes.proofs.Bytes.{overwritten, whole_back}
use Rattle.green_fakes.proofs.area_bytes.AreaBytes.write.Goals as goal

pub returns-clause-written : goal.returns-clause-written
returns-clause-written c =
    let back = whole_back _ c.overwrite.new.bytes _ (c.overwrite.ensures.length ∙ c.as_mut_slice.ensures.len) in
    back
    ∙ overwritten c.args.at c.in-Some.end c.args.bytes.now c.args.self.now c.as_mut_slice.result.now _ (omega (arith, c.in-Some.ensures))
    (c.as_mut_slice.ensures.value ∙ c.self.view_is ∙ c.in_ok-grow.ensures.grown)
    c.overwrite.ensures.others
