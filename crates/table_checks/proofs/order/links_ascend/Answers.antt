use Rattle.std.proofs.Common.{◌-◌, arith, subst, sym}
use Rattle.page_tables.specs.declared.tables.TableLink.{TableLink}
use Rattle.table_checks.specs.Sound.{Ascend}
use Rattle.table_checks.proofs.Tested.{yes_iff, no_iff, refuted}
use Rattle.table_checks.proofs.Ordered.{none_adjacent, adjacent_more, not_ascending, ascends_whole, ids_seen}
use Rattle.table_checks.proofs.order.links_ascend.Goals as goal

pub returns-then-not-is_before : goal.returns-then-not-is_before
returns-then-not-is_before c =
    no_iff (λ ascends. not_ascending (λ (link : TableLink). link.id) c.args.links.now c.loop-k.k (c.loop-k.k - 1) c.index-links-at.result c.index-links-k.result (omega (arith, c.loop-k.auto.k)) c.loop-k-test.true c.index-links-at.is c.index-links-k.is
    (refuted c.is_before.result c.is_before.ensures.before c.if-not-is_before.true) (subst Ascend (ids_seen c.args.links.now) ascends))

pub loop-k-init : goal.loop-k-init
loop-k-init c = none_adjacent (λ (link : TableLink). link.id) c.args.links.now

pub loop-k-preserved : goal.loop-k-preserved
loop-k-preserved c =
    adjacent_more (λ (link : TableLink). link.id) c.args.links.now c.loop-k.k (c.loop-k.k - 1) c.index-links-at.result c.index-links-k.result (omega (arith, c.loop-k.auto.k)) c.loop-k-test.true c.index-links-at.is c.index-links-k.is
    (c.is_before.ensures.before.0 c.if-not-is_before.false) c.loop-k.invariant

pub returns : goal.returns
returns c = yes_iff (subst Ascend (sym (ids_seen c.args.links.now)) (ascends_whole (λ (link : TableLink). link.id) c.args.links.now c.loop-k.k c.loop-k-test.false c.loop-k.invariant))
