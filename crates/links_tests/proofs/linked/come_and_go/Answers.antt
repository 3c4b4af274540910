use Rattle.std.proofs.Common.{rules, ◌≡◌, false, subst}
use Rattle.std.specs.Prelude.{OnOk}
use Rattle.links.specs.LinkLists.{plain_link, added, has_in}
use Rattle.links.proofs.Trials.{links_again, from_again, to_again, three_again}
use Rattle.links_tests.proofs.linked.come_and_go.Goals as goal

pub back-requires-clause-from : goal.back-requires-clause-from
back-requires-clause-from g c =
    let lacks : has_in c.args.links.now.links c.link-link.result.id ≡ false = search rules in
    from_again (plain_link c.link-link.result) c.copy-id.result c.marks-marks.result c.args.links.now c.add.new.self c.copy-id.ensures lacks c.marks-marks.ensures.value
    (subst (λ r. OnOk r (c.add.new.self.links ≡ added c.args.links.now.links (plain_link c.link-link.result))) c.expect.ensures c.add.ensures.added)
    c.add.ensures.grows c.marks-marks.ensures.from

pub back-requires-clause-to : goal.back-requires-clause-to
back-requires-clause-to g c =
    let lacks : has_in c.args.links.now.links c.link-link.result.id ≡ false = search rules in
    to_again (plain_link c.link-link.result) c.copy-id.result c.marks-marks.result c.args.links.now c.add.new.self c.copy-id.ensures lacks c.marks-marks.ensures.value
    (subst (λ r. OnOk r (c.add.new.self.links ≡ added c.args.links.now.links (plain_link c.link-link.result))) c.expect.ensures c.add.ensures.added)
    c.add.ensures.grows c.marks-marks.ensures.to

pub back-requires-clause-three : goal.back-requires-clause-three
back-requires-clause-three g c =
    let lacks : has_in c.args.links.now.links c.link-link.result.id ≡ false = search rules in
    three_again (plain_link c.link-link.result) c.copy-id.result c.marks-marks.result c.args.links.now c.add.new.self c.copy-id.ensures lacks c.marks-marks.ensures.value
    (subst (λ r. OnOk r (c.add.new.self.links ≡ added c.args.links.now.links (plain_link c.link-link.result))) c.expect.ensures c.add.ensures.added)
    c.add.ensures.grows c.marks-marks.ensures.three

pub returns : goal.returns
returns g c =
    let lacks : has_in c.args.links.now.links c.link-link.result.id ≡ false = search rules in
    links_again (plain_link c.link-link.result) c.copy-id.result c.marks-marks.result c.args.links.now c.add.new.self c.copy-id.ensures lacks c.marks-marks.ensures.value
    (subst (λ r. OnOk r (c.add.new.self.links ≡ added c.args.links.now.links (plain_link c.link-link.result))) c.expect.ensures c.add.ensures.added)
    c.back.new.self c.back.ensures.value
