use Rattle.std.proofs.Common.{rules, ◌≡◌, false, subst}
use Rattle.std.specs.Prelude.{OnOk}
use Rattle.links.specs.LinkLists.{plain_link, added, has_in}
use Rattle.links.proofs.Trials.{counted_again, from_again, to_again, three_again}
use Rattle.links_tests.proofs.linked.random.come.Goals as goal

pub returns-clause-counted : goal.returns-clause-counted
returns-clause-counted g c =
    let lacks : has_in c.args.links.now.links c.link_of-link.result.id ≡ false = search rules in
    counted_again (plain_link c.link_of-link.result) c.copy-id.result c.marks-marks.result c.args.links.now c.add.new.self c.copy-id.ensures lacks c.marks-marks.ensures.value
    (subst (λ r. OnOk r (c.add.new.self.links ≡ added c.args.links.now.links (plain_link c.link_of-link.result))) c.expect.ensures c.add.ensures.added)
    c.add.ensures.grows

pub returns-clause-from : goal.returns-clause-from
returns-clause-from g c =
    let lacks : has_in c.args.links.now.links c.link_of-link.result.id ≡ false = search rules in
    from_again (plain_link c.link_of-link.result) c.copy-id.result c.marks-marks.result c.args.links.now c.add.new.self c.copy-id.ensures lacks c.marks-marks.ensures.value
    (subst (λ r. OnOk r (c.add.new.self.links ≡ added c.args.links.now.links (plain_link c.link_of-link.result))) c.expect.ensures c.add.ensures.added)
    c.add.ensures.grows c.marks-marks.ensures.from

pub returns-clause-to : goal.returns-clause-to
returns-clause-to g c =
    let lacks : has_in c.args.links.now.links c.link_of-link.result.id ≡ false = search rules in
    to_again (plain_link c.link_of-link.result) c.copy-id.result c.marks-marks.result c.args.links.now c.add.new.self c.copy-id.ensures lacks c.marks-marks.ensures.value
    (subst (λ r. OnOk r (c.add.new.self.links ≡ added c.args.links.now.links (plain_link c.link_of-link.result))) c.expect.ensures c.add.ensures.added)
    c.add.ensures.grows c.marks-marks.ensures.to

pub returns-clause-three : goal.returns-clause-three
returns-clause-three g c =
    let lacks : has_in c.args.links.now.links c.link_of-link.result.id ≡ false = search rules in
    three_again (plain_link c.link_of-link.result) c.copy-id.result c.marks-marks.result c.args.links.now c.add.new.self c.copy-id.ensures lacks c.marks-marks.ensures.value
    (subst (λ r. OnOk r (c.add.new.self.links ≡ added c.args.links.now.links (plain_link c.link_of-link.result))) c.expect.ensures c.add.ensures.added)
    c.add.ensures.grows c.marks-marks.ensures.three
