use Rattle.std.proofs.Common.{arith, subst, List, map, sym, ◌∙◌, length, eqb-true}
use Rattle.std.proofs.lemmas.List.{take_all}
use Rattle.page_tables.specs.declared.tables.TableLink.{TableLink}
use Rattle.page_tables.specs.Plain.{plain_link}
use Rattle.table_checks.specs.Sound.{AreNumbered}
use Rattle.table_checks.proofs.Tested.{yes_iff, no_iff, refuted}
use Rattle.table_checks.proofs.Numbered.{none_seen, seen_more, seen_refuted, none_numbered}
use Rattle.table_checks.proofs.numbers.are_numbered.Goals as goal

pub returns-then-is_empty : goal.returns-then-is_empty
returns-then-is_empty c = yes_iff (none_numbered c.args.links.now (eqb-true (length c.args.links.now) 0 (sym c.is_empty.ensures ∙ c.if-is_empty.true)))

pub loop-link-init : goal.loop-link-init
loop-link-init c = record { seen = none_seen _; small = omega arith }

pub number_behind-number-requires : goal.number_behind-number-requires
number_behind-number-requires c = omega (arith, c.loop-link.invariant.small)

pub returns-then-not-is_link_address : goal.returns-then-not-is_link_address
returns-then-not-is_link_address c =
    no_iff (seen_refuted c.args.links.now c.loop-link.link-index c.link-item.result c.loop-link.home c.loop-link.number c.number_behind-number.result c.loop-link-test.true c.link-item.is c.requires.ascend c.requires.homes c.loop-link.invariant.seen
    c.number_behind-number.ensures (refuted c.is_link_address.result c.is_link_address.ensures.value c.if-not-is_link_address.true))

pub loop-link-preserved : goal.loop-link-preserved
loop-link-preserved c = record {
  seen = seen_more c.args.links.now c.loop-link.link-index c.link-item.result c.loop-link.home c.loop-link.number c.number_behind-number.result c.loop-link-test.true c.link-item.is c.requires.ascend c.requires.homes c.loop-link.invariant.seen
      c.number_behind-number.ensures (c.is_link_address.ensures.value.0 c.if-not-is_link_address.false);
  small = c.is_link_address.ensures.small c.if-not-is_link_address.false;
}

pub returns : goal.returns
returns c = yes_iff (subst (λ (links : List TableLink). AreNumbered (map plain_link links)) (take_all c.loop-link.link-index c.args.links.now c.loop-link-test.false) c.loop-link.invariant.seen.numbered)
