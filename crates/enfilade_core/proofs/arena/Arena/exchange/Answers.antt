use Rattle.std.proofs.Common.{ℕ, ◌+◌, ◌∙◌, ap, map, List}
use Rattle.enfilade_core.specs.declared.tree.Row.{Row}
use Rattle.enfilade_core.specs.Rows.{rows_of}
use Rattle.enfilade_core.specs.Plain.{shape, plain_row}
use Rattle.enfilade_core.specs.Summary.{height_of}
use Rattle.enfilade_core.specs.Exchange.{exchanged}
use Rattle.enfilade_core.proofs.Rooted.{grows_keeps, grows_twice, may_be_root, root_rows, root_level}
use Rattle.enfilade_core.proofs.arena.Arena.exchange.Goals as goal

pub returns-in_err-children-clause-kept : goal.returns-in_err-children-clause-kept
returns-in_err-children-clause-kept g c = grows_keeps c.args.self.now c.root_exchanged.new.self c.in_err-children.ensures.grows

pub rooted-requires : goal.rooted-requires
rooted-requires g c =
    may_be_root g.P.Plane.widths c.root_exchanged.new.self (height_of g.P.Plane.widths c.args.self.now c.args.root.0)
    (exchanged c.args.gap.now (map (plain_row g.P.Plane.plain) c.as_slice.result.now) (rows_of c.args.self.now c.args.root.0))
    (shape g.P.Plane.plain c.in_ok-children.children) c.in_ok-children.ensures.rows

pub returns-in_err-root-clause-kept : goal.returns-in_err-root-clause-kept
returns-in_err-root-clause-kept g c =
    grows_keeps c.args.self.now c.rooted.new.self (grows_twice c.args.self.now c.root_exchanged.new.self c.rooted.new.self c.in_ok-children.ensures.grows c.in_err-root.ensures.grows)

pub returns-in_err-root-clause-grows : goal.returns-in_err-root-clause-grows
returns-in_err-root-clause-grows g c =
    grows_twice c.args.self.now c.root_exchanged.new.self c.rooted.new.self c.in_ok-children.ensures.grows c.in_err-root.ensures.grows

pub returns-clause-kept : goal.returns-clause-kept
returns-clause-kept g c =
    grows_keeps c.args.self.now c.rooted.new.self (grows_twice c.args.self.now c.root_exchanged.new.self c.rooted.new.self c.in_ok-children.ensures.grows c.in_ok-root.ensures.grows)

pub returns-clause-grows : goal.returns-clause-grows
returns-clause-grows g c =
    grows_twice c.args.self.now c.root_exchanged.new.self c.rooted.new.self c.in_ok-children.ensures.grows c.in_ok-root.ensures.grows

pub returns-clause-rows : goal.returns-clause-rows
returns-clause-rows g c =
    let new = map (plain_row g.P.Plane.plain) c.as_slice.result.now in
    let old = rows_of c.args.self.now c.args.root.0 in
    c.in_ok-root.ensures.rows
    ∙ root_rows g.P.Plane.widths c.root_exchanged.new.self (height_of g.P.Plane.widths c.args.self.now c.args.root.0) (exchanged c.args.gap.now new old) (shape g.P.Plane.plain c.in_ok-children.children) c.in_ok-children.ensures.rows
    ∙ ap (λ (rs : List (Row _)). exchanged c.args.gap.now (map (plain_row g.P.Plane.plain) rs) old) c.as_slice.ensures

pub returns-clause-level : goal.returns-clause-level
returns-clause-level g c = λ some.
    let new = map (plain_row g.P.Plane.plain) c.as_slice.result.now in
    let old = rows_of c.args.self.now c.args.root.0 in
    ap (λ (n : ℕ). n + 1) (
    c.in_ok-root.ensures.level (λ none. some (c.in_ok-root.ensures.rows ∙ none))
    ∙ root_level g.P.Plane.widths c.root_exchanged.new.self (height_of g.P.Plane.widths c.args.self.now c.args.root.0) (exchanged c.args.gap.now new old) (shape g.P.Plane.plain c.in_ok-children.children) c.in_ok-children.ensures.rows (λ none. some (c.in_ok-root.ensures.rows ∙ none)))
