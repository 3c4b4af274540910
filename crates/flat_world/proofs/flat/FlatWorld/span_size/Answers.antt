use Rattle.std.proofs.Common.{◌≡◌, arith, length, rules}
use Rattle.std.proofs.lemmas.Bool.Decides.{nat_tests}
use Rattle.world_rules.specs.Picking.{picked_links}
use Rattle.world_rules.specs.Refusals.{span_bytes}
use Rattle.flat_rows.proofs.Sizes.{bytes_counted, links_counted}
use Rattle.flat_world.proofs.flat.FlatWorld.span_size.Goals as goal
use Rattle.flat_world.proofs.flat.FlatWorld.span_size.Goals.{then-bytes-eq0, else-bytes-eq0}

pub returns-clause-bytes : goal.returns-clause-bytes
returns-clause-bytes c = bytes_counted c.args.self.now.world c.args.document.now c.args.span.now c.as_slice-rows.result.now c.add-end.result c.text_rows-bytes.result (search rules) c.add-end.ensures c.text_rows-bytes.ensures

pub returns-clause-items : goal.returns-clause-items
returns-clause-items c =
    let bytes : c.text_rows-bytes.result ≡ span_bytes c.args.self.now.world c.args.document.now c.args.span.now = bytes_counted c.args.self.now.world c.args.document.now c.args.span.now c.as_slice-rows.result.now c.add-end.result c.text_rows-bytes.result (search rules) c.add-end.ensures c.text_rows-bytes.ensures in
    let links : c.link_rows-links.result ≡ length (picked_links c.args.self.now.world c.args.document.now c.args.span.now) = links_counted c.args.self.now.world c.args.document.now c.args.span.now c.as_slice-rows.result.now c.add-end.result c.link_rows-links.result (search rules) c.add-end.ensures c.link_rows-links.ensures in
    elim c.if-bytes-eq0.branch [ then-bytes-eq0 w ↦ grind (arith, nat_tests) | else-bytes-eq0 w ↦ grind (arith, nat_tests) ]
