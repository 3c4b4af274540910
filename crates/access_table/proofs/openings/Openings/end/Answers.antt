use Rattle.std.proofs.Common.{◌∙◌, ap, sym, refl}
use Rattle.access_table.proofs.Ending.{fewer_left, shorter}
use Rattle.world_rules.specs.Apply.{without_session}
use Rattle.access_table.proofs.openings.Openings.end.Goals as goal

pub loop-document-init : goal.loop-document-init
loop-document-init c = refl

pub loop-document-smaller : goal.loop-document-smaller
loop-document-smaller c = rw c.close.ensures (shorter c.args.session c.in-Some.document c.loop-document.self c.in-Some.ensures.found)

pub loop-document-preserved : goal.loop-document-preserved
loop-document-preserved c = ap (without_session c.args.session) c.close.ensures ∙ fewer_left c.args.session c.in-Some.document c.loop-document.self ∙ c.loop-document.invariant

pub returns : goal.returns
returns c = sym c.in_default.ensures.none ∙ c.loop-document.invariant
