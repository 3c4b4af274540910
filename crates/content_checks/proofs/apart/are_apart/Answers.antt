-- One row after another is taken off.
use Rattle.std.proofs.Common.{map, ap}
use Rattle.std.proofs.lemmas.List.{nil_from_length}
use Rattle.enfilade_core.specs.Plain.{plain_row}
use Rattle.enfilade_core.specs.Planes.{plain_text}
use Rattle.content_checks.proofs.ApartRows.{begins, first_right, behind_ordered, goes_on, not_apart, all_apart}
use Rattle.content_checks.proofs.apart.are_apart.Goals as goal

pub loop-row-init : goal.loop-row-init
loop-row-init c = begins (map (plain_row plain_text) c.args.rows.now) c.requires.each c.requires.ordered

pub ends_before-requires : goal.ends_before-requires
ends_before-requires c = record {
  well_formed = first_right (map (plain_row plain_text) c.args.rows.now) (map (plain_row plain_text) c.loop-row.rest.now) (map (plain_row plain_text) c.in-Some.behind.now) (plain_row plain_text c.in-Some.row.now) (ap (map (plain_row plain_text)) c.in-Some.ensures.cases.0) c.loop-row.invariant;
  ordered = behind_ordered (map (plain_row plain_text) c.args.rows.now) (map (plain_row plain_text) c.loop-row.rest.now) (map (plain_row plain_text) c.in-Some.behind.now) (plain_row plain_text c.in-Some.row.now) (ap (map (plain_row plain_text)) c.in-Some.ensures.cases.0) c.loop-row.invariant;
}

pub loop-row-preserved : goal.loop-row-preserved
loop-row-preserved c =
    goes_on (map (plain_row plain_text) c.args.rows.now) (map (plain_row plain_text) c.loop-row.rest.now) (map (plain_row plain_text) c.in-Some.behind.now) (plain_row plain_text c.in-Some.row.now)
    (ap (map (plain_row plain_text)) c.in-Some.ensures.cases.0) (c.ends_before.ensures.0 c.if-not-ends_before.false) c.loop-row.invariant

pub returns-then-not-ends_before : goal.returns-then-not-ends_before
returns-then-not-ends_before c =
    not_apart (map (plain_row plain_text) c.args.rows.now) (map (plain_row plain_text) c.loop-row.rest.now) (map (plain_row plain_text) c.in-Some.behind.now) (plain_row plain_text c.in-Some.row.now)
    (ap (map (plain_row plain_text)) c.in-Some.ensures.cases.0) (λ past. let yes = c.ends_before.ensures.1 past in let no' = c.if-not-ends_before.true in absurd cc) c.loop-row.invariant

pub returns : goal.returns
returns c =
    all_apart (map (plain_row plain_text) c.args.rows.now) (map (plain_row plain_text) c.loop-row.rest.now) (ap (map (plain_row plain_text)) (nil_from_length c.loop-row.rest.now c.in_default.ensures.cases)) c.loop-row.invariant
