use Rattle.std.proofs.Common.{◌≡◌, ◌<◌, ◌++◌, ◌∙◌, List, get_or, map, IfOk, OnOk, refl, arith, ap, sym, subst}
use Rattle.std.proofs.lemmas.Result.{IfOk-weaker}
use Rattle.enfilade_core.specs.Rows.{Shape, Branches, moved, rows_of, branch_rows, rows_in, rows_table, node_at, branches_under}
use Rattle.enfilade_core.specs.Touched.{branches_at, with_middle, MayBePacked}
use Rattle.std.specs.List.{All}
use Rattle.enfilade_core.specs.WellFormed.{IsWellFormed}
use Rattle.enfilade_core.specs.Axes.{IsWellFormedRows}
use Rattle.enfilade_core.specs.Summary.{height_of}
use Rattle.enfilade_core.specs.Plain.{plain_row}
use Rattle.enfilade_core.specs.Edits.{taken_out}
use Rattle.enfilade_core.specs.Exchange.{exchanged, MayHaveRows, IsWhole, LevelRows, branches_if}
use Rattle.enfilade_core.proofs.OpenedAt.{at-of_part}
use Rattle.enfilade_core.proofs.GoneThrough.{item-well_formed}
use Rattle.enfilade_core.proofs.ExchangeGrown.{grows-same, grows-more, part-grown}
use Rattle.enfilade_core.proofs.ExchangeBranches.{RestAt, rest-start, rest-part, rest-well_formed, rest-more, rest-all, BranchesAt, chosen-part, chosen-well_formed, chosen-rest, branches-made, branches-taken, lone-chosen, lone-made, lone-taken}
use Rattle.enfilade_core.proofs.RestBehind.{moved-well_formed}
use Rattle.enfilade_core.proofs.ExchangeNodes.{mapped-none}
use Rattle.enfilade_core.proofs.ExchangeMiddle.{node-ready, node-rows, node-taken, may-packed}
use Rattle.enfilade_core.proofs.arena.Arena.+exchanging.Goals as goal

pub branch_exchanged-parts_exchanged-requires : goal.branch_exchanged-parts_exchanged-requires
branch_exchanged-parts_exchanged-requires g t c κs within =
    (omega (arith, c.decreases), (within.0, (within.1, (c.requires.up_to, (c.requires.part, c.requires.well_formed)))))

pub branch_exchanged-returns-then-not-is_empty-clause-grows : goal.branch_exchanged-returns-then-not-is_empty-clause-grows
branch_exchanged-returns-then-not-is_empty-clause-grows g t c =
    c.parts_exchanged.ensures.grows

pub branch_exchanged-returns-then-not-is_empty-clause-rows : goal.branch_exchanged-returns-then-not-is_empty-clause-rows
branch_exchanged-returns-then-not-is_empty-clause-rows g t c =
    c.parts_exchanged.ensures.rows

pub branch_exchanged-returns-then-not-is_empty-clause-out : goal.branch_exchanged-returns-then-not-is_empty-clause-out
branch_exchanged-returns-then-not-is_empty-clause-out g t c =
    c.parts_exchanged.ensures.out

pub branch_exchanged-whole_exchanged-requires-clause-up_to : goal.branch_exchanged-whole_exchanged-requires-clause-up_to
branch_exchanged-whole_exchanged-requires-clause-up_to g t c =
    c.requires.up_to

pub branch_exchanged-whole_exchanged-requires-clause-part : goal.branch_exchanged-whole_exchanged-requires-clause-part
branch_exchanged-whole_exchanged-requires-clause-part g t c =
    c.requires.part

pub branch_exchanged-whole_exchanged-requires-clause-well_formed : goal.branch_exchanged-whole_exchanged-requires-clause-well_formed
branch_exchanged-whole_exchanged-requires-clause-well_formed g t c =
    subst (λ (r : List _). IsWellFormedRows g.P.Plane.widths (exchanged c.args.gap.now r (branch_rows (rows_table c.args.self.now) c.args.branch.now))) (mapped-none (plain_row g.P.Plane.plain) c.args.rows.now c.is_empty.result c.is_empty.ensures c.if-not-is_empty.false) c.requires.well_formed

pub branch_exchanged-returns-in_err-whole-clause-grows : goal.branch_exchanged-returns-in_err-whole-clause-grows
branch_exchanged-returns-in_err-whole-clause-grows g t c =
    grows-same c.args.self.now

pub branch_exchanged-parts_exchanged-requires-in-Parts : goal.branch_exchanged-parts_exchanged-requires-in-Parts
branch_exchanged-parts_exchanged-requires-in-Parts g t c κs within =
    (omega (arith, c.decreases), (within.0, (within.1, (c.requires.up_to, (c.requires.part, c.requires.well_formed)))))

pub branch_exchanged-returns-in-Left-clause-grows : goal.branch_exchanged-returns-in-Left-clause-grows
branch_exchanged-returns-in-Left-clause-grows g t c =
    grows-same c.args.self.now

pub branch_exchanged-returns-in-Left-clause-rows : goal.branch_exchanged-returns-in-Left-clause-rows
branch_exchanged-returns-in-Left-clause-rows g t c =
    subst (λ (r : List _). MayHaveRows g.P.Plane.widths c.args.self.now (height_of g.P.Plane.widths c.args.self.now c.args.branch.now.node.0) (exchanged c.args.gap.now r (branch_rows (rows_table c.args.self.now) c.args.branch.now)) c.in-Left.left) (sym (mapped-none (plain_row g.P.Plane.plain) c.args.rows.now c.is_empty.result c.is_empty.ensures c.if-not-is_empty.false)) (subst (IsWhole g.P.Plane.widths c.args.self.now c.args.branch.now c.args.gap.now (map (plain_row g.P.Plane.plain) c.args.out.now.items) (map (plain_row g.P.Plane.plain) c.whole_exchanged.new.out.items)) c.in-Left.is c.in_ok-whole.ensures).0

pub branch_exchanged-returns-in-Left-clause-out : goal.branch_exchanged-returns-in-Left-clause-out
branch_exchanged-returns-in-Left-clause-out g t c =
    (subst (IsWhole g.P.Plane.widths c.args.self.now c.args.branch.now c.args.gap.now (map (plain_row g.P.Plane.plain) c.args.out.now.items) (map (plain_row g.P.Plane.plain) c.whole_exchanged.new.out.items)) c.in-Left.is c.in_ok-whole.ensures).1

pub branch_exchanged-returns-in-Parts-clause-grows : goal.branch_exchanged-returns-in-Parts-clause-grows
branch_exchanged-returns-in-Parts-clause-grows g t c =
    c.parts_exchanged-in-Parts.ensures.grows

pub branch_exchanged-returns-in-Parts-clause-rows : goal.branch_exchanged-returns-in-Parts-clause-rows
branch_exchanged-returns-in-Parts-clause-rows g t c =
    c.parts_exchanged-in-Parts.ensures.rows

pub branch_exchanged-returns-in-Parts-clause-out : goal.branch_exchanged-returns-in-Parts-clause-out
branch_exchanged-returns-in-Parts-clause-out g t c =
    subst (λ (r : List _). OnOk c.parts_exchanged-in-Parts.result ((map (plain_row g.P.Plane.plain) c.parts_exchanged-in-Parts.new.out.items) ≡ r ++ taken_out c.args.gap.now.from c.args.gap.now.to (branch_rows (rows_table c.args.self.now) c.args.branch.now))) (subst (IsWhole g.P.Plane.widths c.args.self.now c.args.branch.now c.args.gap.now (map (plain_row g.P.Plane.plain) c.args.out.now.items) (map (plain_row g.P.Plane.plain) c.whole_exchanged.new.out.items)) c.in-Parts.is c.in_ok-whole.ensures) c.parts_exchanged-in-Parts.ensures.out

pub branches_exchanged-split_at-requires : goal.branches_exchanged-split_at-requires
branches_exchanged-split_at-requires g t c =
    omega (arith, c.chosen-at.ensures.is.there)

pub branches_exchanged-split_at-requires-2 : goal.branches_exchanged-split_at-requires-2
branches_exchanged-split_at-requires-2 g t c =
    omega (arith, c.chosen-at.ensures.is.there)

pub branches_exchanged-returns-in_err-made-clause-grows : goal.branches_exchanged-returns-in_err-made-clause-grows
branches_exchanged-returns-in_err-made-clause-grows g t c =
    grows-same c.args.self.now

pub branches_exchanged-branch_exchanged-requires : goal.branches_exchanged-branch_exchanged-requires
branches_exchanged-branch_exchanged-requires g t c κs within =
    let at : BranchesAt g.P.Plane.widths c.args.gap.now (map (plain_row g.P.Plane.plain) c.args.rows.now) c.args.self.now c.args.branches.now c.chosen-at.result c.index-branches-at.result = record { up_to = c.requires.up_to; node = c.requires.node; well_formed = c.requires.well_formed; chosen = c.chosen-at.ensures.is; is = c.index-branches-at.is } in
    let lower = item-well_formed (λ branch. branch.node.0 < c.args.below.0) c.args.branches.now c.chosen-at.result c.index-branches-at.result c.chosen-at.ensures.is.there c.index-branches-at.is c.requires.named in
    (omega (arith, lower, c.decreases), (within.0, (within.1, (c.requires.up_to, (chosen-part g.P.Plane.widths c.args.gap.now (map (plain_row g.P.Plane.plain) c.args.rows.now) c.args.self.now c.args.branches.now c.chosen-at.result c.index-branches-at.result at, chosen-well_formed g.P.Plane.widths c.args.gap.now (map (plain_row g.P.Plane.plain) c.args.rows.now) c.args.self.now c.args.branches.now c.chosen-at.result c.index-branches-at.result at)))))

pub branches_exchanged-returns-in_err-branch-clause-grows : goal.branches_exchanged-returns-in_err-branch-clause-grows
branches_exchanged-returns-in_err-branch-clause-grows g t c =
    c.branch_exchanged.ensures.grows

pub branches_exchanged-returns-in_err-append_branch-clause-grows : goal.branches_exchanged-returns-in_err-append_branch-clause-grows
branches_exchanged-returns-in_err-append_branch-clause-grows g t c =
    c.branch_exchanged.ensures.grows

pub branches_exchanged-rest_exchanged-requires : goal.branches_exchanged-rest_exchanged-requires
branches_exchanged-rest_exchanged-requires g t c κs within =
    let at : BranchesAt g.P.Plane.widths c.args.gap.now (map (plain_row g.P.Plane.plain) c.args.rows.now) c.args.self.now c.args.branches.now c.chosen-at.result c.index-branches-at.result = record { up_to = c.requires.up_to; node = c.requires.node; well_formed = c.requires.well_formed; chosen = c.chosen-at.ensures.is; is = c.index-branches-at.is } in
    let ready = chosen-rest g.P.Plane.widths c.args.gap.now (map (plain_row g.P.Plane.plain) c.args.rows.now) c.args.self.now c.branch_exchanged.new.self c.args.below.0 c.args.branches.now c.chosen-at.result c.index-branches-at.result c.split_at-2.result.1.now at c.branch_exchanged.ensures.grows c.requires.named c.split_at-2.ensures.back in
    (omega (arith, c.decreases), (within.0, (within.1, (c.requires.up_to, (ready.named, (ready.parts, (ready.past, ready.well_formed)))))))

pub branches_exchanged-returns-in_err-rest_exchanged-clause-grows : goal.branches_exchanged-returns-in_err-rest_exchanged-clause-grows
branches_exchanged-returns-in_err-rest_exchanged-clause-grows g t c =
    grows-more c.args.self.now c.branch_exchanged.new.self c.rest_exchanged.new.self c.branch_exchanged.ensures.grows c.rest_exchanged.ensures.grows

pub branches_exchanged-returns-clause-grows : goal.branches_exchanged-returns-clause-grows
branches_exchanged-returns-clause-grows g t c =
    grows-more c.args.self.now c.branch_exchanged.new.self c.rest_exchanged.new.self c.branch_exchanged.ensures.grows c.rest_exchanged.ensures.grows

pub branches_exchanged-returns-clause-rows : goal.branches_exchanged-returns-clause-rows
branches_exchanged-returns-clause-rows g t c =
    branches-made g.P.Plane.widths c.args.gap.now (map (plain_row g.P.Plane.plain) c.args.rows.now) c.args.self.now c.branch_exchanged.new.self c.rest_exchanged.new.self c.args.branches.now c.chosen-at.result c.index-branches-at.result c.split_at-2.result.1.now c.in_ok-made.made.items c.append_branch.new.into.items c.rest_exchanged.new.made.items c.in_ok-branch.branch
    record { up_to = c.requires.up_to; node = c.requires.node; well_formed = c.requires.well_formed; chosen = c.chosen-at.ensures.is; is = c.index-branches-at.is } record {
      grows = c.branch_exchanged.ensures.grows;
      later = c.rest_exchanged.ensures.grows;
      front_is = c.in_ok-made.ensures ∙ c.split_at.ensures.front;
      rest_is = c.split_at-2.ensures.back;
      has = c.in_ok-branch.ensures.rows;
      made_is = c.in_ok-append_branch.ensures;
      appends = c.in_ok-rest_exchanged.ensures.rows;
    }

pub branches_exchanged-returns-clause-out : goal.branches_exchanged-returns-clause-out
branches_exchanged-returns-clause-out g t c =
    branches-taken g.P.Plane.widths c.args.gap.now (map (plain_row g.P.Plane.plain) c.args.rows.now) c.args.self.now c.branch_exchanged.new.self c.args.branches.now c.chosen-at.result c.index-branches-at.result c.split_at-2.result.1.now (map (plain_row g.P.Plane.plain) c.args.out.now.items) (map (plain_row g.P.Plane.plain) c.branch_exchanged.new.out.items) (map (plain_row g.P.Plane.plain) c.rest_exchanged.new.out.items)
    record { up_to = c.requires.up_to; node = c.requires.node; well_formed = c.requires.well_formed; chosen = c.chosen-at.ensures.is; is = c.index-branches-at.is } c.branch_exchanged.ensures.grows c.split_at-2.ensures.back c.in_ok-branch.ensures.out c.in_ok-rest_exchanged.ensures.out

pub rest_exchanged-loop-branch-init : goal.rest_exchanged-loop-branch-init
rest_exchanged-loop-branch-init g t c =
    rest-start g.P.Plane.widths c.args.gap.now c.args.self.now c.args.branches.now c.args.made.now.items (map (plain_row g.P.Plane.plain) c.args.out.now.items)

pub rest_exchanged-branch_exchanged-requires : goal.rest_exchanged-branch_exchanged-requires
rest_exchanged-branch_exchanged-requires g t c κs within =
    let at : RestAt g.P.Plane.widths c.args.gap.now c.args.self.now c.loop-branch.self c.args.branches.now c.loop-branch.branch-index c.branch-item.result = record { grows = c.loop-branch.invariant.grows; lt = c.loop-branch-test.true; is = c.branch-item.is; parts = c.requires.parts; past = c.requires.past; well_formed = c.requires.well_formed } in
    let lower = item-well_formed (λ branch. branch.node.0 < c.args.below.0) c.args.branches.now c.loop-branch.branch-index c.branch-item.result c.loop-branch-test.true c.branch-item.is c.requires.named in
    (omega (arith, lower, c.decreases), (within.0, (within.1, (c.requires.up_to, (rest-part g.P.Plane.widths c.args.gap.now c.args.self.now c.loop-branch.self c.args.branches.now c.loop-branch.branch-index c.branch-item.result at, rest-well_formed g.P.Plane.widths c.args.gap.now c.args.self.now c.loop-branch.self c.args.branches.now c.loop-branch.branch-index c.branch-item.result (map (plain_row g.P.Plane.plain) c.as_slice.result.now) (ap (map (plain_row g.P.Plane.plain)) (c.as_slice.ensures ∙ c.new-none.ensures.items)) at)))))

pub rest_exchanged-returns-in_err-branch-clause-grows : goal.rest_exchanged-returns-in_err-branch-clause-grows
rest_exchanged-returns-in_err-branch-clause-grows g t c =
    grows-more c.args.self.now c.loop-branch.self c.branch_exchanged.new.self c.loop-branch.invariant.grows c.branch_exchanged.ensures.grows

pub rest_exchanged-returns-in_err-append_branch-clause-grows : goal.rest_exchanged-returns-in_err-append_branch-clause-grows
rest_exchanged-returns-in_err-append_branch-clause-grows g t c =
    grows-more c.args.self.now c.loop-branch.self c.branch_exchanged.new.self c.loop-branch.invariant.grows c.branch_exchanged.ensures.grows

pub rest_exchanged-loop-branch-preserved : goal.rest_exchanged-loop-branch-preserved
rest_exchanged-loop-branch-preserved g t c =
    rest-more g.P.Plane.widths c.args.gap.now c.args.self.now c.loop-branch.self c.branch_exchanged.new.self c.args.branches.now c.loop-branch.branch-index c.branch-item.result c.args.made.now.items c.loop-branch.made.items c.append_branch.new.into.items (map (plain_row g.P.Plane.plain) c.as_slice.result.now) (map (plain_row g.P.Plane.plain) c.args.out.now.items) (map (plain_row g.P.Plane.plain) c.loop-branch.out.items) (map (plain_row g.P.Plane.plain) c.branch_exchanged.new.out.items) c.in_ok-branch.branch
    (ap (map (plain_row g.P.Plane.plain)) (c.as_slice.ensures ∙ c.new-none.ensures.items)) record { grows = c.loop-branch.invariant.grows; lt = c.loop-branch-test.true; is = c.branch-item.is; parts = c.requires.parts; past = c.requires.past; well_formed = c.requires.well_formed } c.loop-branch.invariant c.branch_exchanged.ensures.grows c.in_ok-branch.ensures.rows c.in_ok-append_branch.ensures c.in_ok-branch.ensures.out

pub rest_exchanged-returns-clause-grows : goal.rest_exchanged-returns-clause-grows
rest_exchanged-returns-clause-grows g t c =
    c.loop-branch.invariant.grows

pub rest_exchanged-returns-clause-rows : goal.rest_exchanged-returns-clause-rows
rest_exchanged-returns-clause-rows g t c =
    (rest-all g.P.Plane.widths c.args.gap.now c.args.self.now c.loop-branch.self c.args.branches.now c.loop-branch.branch-index c.args.made.now.items c.loop-branch.made.items (map (plain_row g.P.Plane.plain) c.args.out.now.items) (map (plain_row g.P.Plane.plain) c.loop-branch.out.items) c.loop-branch-test.false c.loop-branch.invariant).0

pub rest_exchanged-returns-clause-out : goal.rest_exchanged-returns-clause-out
rest_exchanged-returns-clause-out g t c =
    (rest-all g.P.Plane.widths c.args.gap.now c.args.self.now c.loop-branch.self c.args.branches.now c.loop-branch.branch-index c.args.made.now.items c.loop-branch.made.items (map (plain_row g.P.Plane.plain) c.args.out.now.items) (map (plain_row g.P.Plane.plain) c.loop-branch.out.items) c.loop-branch-test.false c.loop-branch.invariant).1

pub parts_exchanged-node_exchanged-requires : goal.parts_exchanged-node_exchanged-requires
parts_exchanged-node_exchanged-requires g t c κs within =
    (omega (arith, c.decreases), (within.0, (within.1, (c.requires.up_to, (at-of_part g.P.Plane.widths c.args.self.now c.args.branch.now c.requires.part, (c.is_bottom.ensures.inner c.if-is_bottom.false, c.requires.well_formed))))))

pub node_exchanged-touched-requires-clause-rows : goal.node_exchanged-touched-requires-clause-rows
node_exchanged-touched-requires-clause-rows g t c =
    moved-well_formed g.P.Plane.widths c.args.gap.now (map (plain_row g.P.Plane.plain) c.args.rows.now) (map (moved c.args.first.now c.args.second.now) (rows_of c.args.self.now c.args.node.0)) c.requires.well_formed

pub lone_exchanged-branch_exchanged-requires : goal.lone_exchanged-branch_exchanged-requires
lone_exchanged-branch_exchanged-requires g t c κs within =
    let w = g.P.Plane.widths in
    let rows = map (plain_row g.P.Plane.plain) c.args.rows.now in
    let branches = c.args.branches.items in
    let at : BranchesAt w c.args.gap.now rows c.args.self.now branches 0 c.copy-branch.result = (record { up_to = c.requires.up_to; node = c.requires.node; well_formed = c.requires.well_formed; chosen = lone-chosen c.args.self.now c.args.branches.items c.args.gap.now.from c.requires.lone; is = c.copy-branch.ensures ∙ c.index-as_slice-0.is ∙ ap (λ (bs : List _). get_or bs 0 c.index-as_slice-0.result) c.as_slice.ensures ∙ ap (get_or c.args.branches.items 0) (sym c.copy-branch.ensures) }) in
    let lower = item-well_formed (λ branch. branch.node.0 < c.args.below.0) branches 0 c.copy-branch.result at.chosen.there at.is c.requires.named in
    (omega (arith, lower, c.decreases), (within.0, (within.1, (c.requires.up_to, (chosen-part w c.args.gap.now rows c.args.self.now branches 0 c.copy-branch.result at, chosen-well_formed w c.args.gap.now rows c.args.self.now branches 0 c.copy-branch.result at)))))

pub lone_exchanged-returns-in_err-left-clause-grows : goal.lone_exchanged-returns-in_err-left-clause-grows
lone_exchanged-returns-in_err-left-clause-grows g t c =
    c.branch_exchanged.ensures.grows

pub lone_exchanged-returns-in_err-append_branch-clause-grows : goal.lone_exchanged-returns-in_err-append_branch-clause-grows
lone_exchanged-returns-in_err-append_branch-clause-grows g t c =
    c.branch_exchanged.ensures.grows

pub lone_exchanged-returns-clause-grows : goal.lone_exchanged-returns-clause-grows
lone_exchanged-returns-clause-grows g t c =
    c.branch_exchanged.ensures.grows

pub lone_exchanged-returns-clause-rows : goal.lone_exchanged-returns-clause-rows
lone_exchanged-returns-clause-rows g t c =
    lone-made g.P.Plane.widths c.args.gap.now (map (plain_row g.P.Plane.plain) c.args.rows.now) c.args.self.now c.branch_exchanged.new.self c.args.branches.items c.copy-branch.result c.append_branch.new.into.items c.in_ok-left.left
    (record { up_to = c.requires.up_to; node = c.requires.node; well_formed = c.requires.well_formed; chosen = lone-chosen c.args.self.now c.args.branches.items c.args.gap.now.from c.requires.lone; is = c.copy-branch.ensures ∙ c.index-as_slice-0.is ∙ ap (λ (bs : List _). get_or bs 0 c.index-as_slice-0.result) c.as_slice.ensures ∙ ap (get_or c.args.branches.items 0) (sym c.copy-branch.ensures) }) c.requires.lone c.branch_exchanged.ensures.grows c.in_ok-left.ensures.rows (c.in_ok-append_branch.ensures ∙ ap (λ (bs : List _). bs ++ branches_if c.in_ok-left.left) c.truncate.ensures.items)

pub lone_exchanged-returns-clause-out : goal.lone_exchanged-returns-clause-out
lone_exchanged-returns-clause-out g t c =
    lone-taken g.P.Plane.widths c.args.gap.now (map (plain_row g.P.Plane.plain) c.args.rows.now) c.args.self.now c.branch_exchanged.new.self c.args.branches.items c.copy-branch.result (map (plain_row g.P.Plane.plain) c.args.out.now.items) (map (plain_row g.P.Plane.plain) c.branch_exchanged.new.out.items)
    (record { up_to = c.requires.up_to; node = c.requires.node; well_formed = c.requires.well_formed; chosen = lone-chosen c.args.self.now c.args.branches.items c.args.gap.now.from c.requires.lone; is = c.copy-branch.ensures ∙ c.index-as_slice-0.is ∙ ap (λ (bs : List _). get_or bs 0 c.index-as_slice-0.result) c.as_slice.ensures ∙ ap (get_or c.args.branches.items 0) (sym c.copy-branch.ensures) }) c.requires.lone c.branch_exchanged.ensures.grows c.in_ok-left.ensures.out

pub middle_exchanged-lone_exchanged-requires : goal.middle_exchanged-lone_exchanged-requires
middle_exchanged-lone_exchanged-requires g t c κs within =
    (omega (arith, c.decreases), (within.0, (within.1, (c.requires.up_to, (sym c.len.ensures ∙ c.if-len-eq1.true, (c.requires.named, (c.requires.node, c.requires.well_formed)))))))

pub middle_exchanged-branches_exchanged-requires : goal.middle_exchanged-branches_exchanged-requires
middle_exchanged-branches_exchanged-requires g t c κs within =
    let same = sym c.as_slice.ensures in (
      omega (arith, c.decreases),
      (
        within.0,
        (
          within.1,
          (
            c.requires.up_to,
            (
              subst (All (λ branch. branch.node.0 < c.args.below.0)) same c.requires.named,
              (
                subst (λ (bs : List _). IsWellFormed g.P.Plane.widths c.args.self.now (Branches bs)) same c.requires.node,
                subst (λ (bs : List _). IsWellFormedRows g.P.Plane.widths (exchanged c.args.gap.now (map (plain_row g.P.Plane.plain) c.args.rows.now) (rows_in (rows_table c.args.self.now) (Branches bs)))) same c.requires.well_formed,
              ),
            ),
          ),
        ),
      ),
    )

pub middle_exchanged-returns-clause-rows : goal.middle_exchanged-returns-clause-rows
middle_exchanged-returns-clause-rows g t c =
    subst (λ (bs : List _). IfOk c.branches_exchanged.result (λ made. LevelRows g.P.Plane.widths c.args.self.now c.branches_exchanged.new.self bs (exchanged c.args.gap.now (map (plain_row g.P.Plane.plain) c.args.rows.now) (rows_in (rows_table c.args.self.now) (Branches bs))) made.items)) c.as_slice.ensures c.branches_exchanged.ensures.rows

pub middle_exchanged-returns-clause-out : goal.middle_exchanged-returns-clause-out
middle_exchanged-returns-clause-out g t c =
    subst (λ (bs : List _). OnOk c.branches_exchanged.result (map (plain_row g.P.Plane.plain) c.branches_exchanged.new.out.items ≡ map (plain_row g.P.Plane.plain) c.args.out.now.items ++ taken_out c.args.gap.now.from c.args.gap.now.to (rows_in (rows_table c.args.self.now) (Branches bs)))) c.as_slice.ensures c.branches_exchanged.ensures.out

pub node_exchanged-middle_exchanged-requires : goal.node_exchanged-middle_exchanged-requires
node_exchanged-middle_exchanged-requires g t c κs within =
    let ready = node-ready g.P.Plane.widths c.args.self.now c.args.gap.now (map (plain_row g.P.Plane.plain) c.args.rows.now) c.args.node.0 c.args.first.now c.args.second.now c.in_ok-touched.touched c.in_ok-touched.touched.branches.items record {
      nodes_well_formed = c.nodes_are_well_formed.ensures;
      up_to = c.requires.up_to;
      at = c.requires.at;
      inner = c.requires.inner;
      well_formed = c.requires.well_formed;
      is = c.in_ok-touched.ensures;
      middle_is = refl;
    } in
    (omega (arith, c.decreases), (within.0, (within.1, (c.requires.up_to, (ready.named, (ready.node, ready.well_formed))))))

pub node_exchanged-returns-clause-rows : goal.node_exchanged-returns-clause-rows
node_exchanged-returns-clause-rows g t c =
    node-rows g.P.Plane.widths c.args.self.now c.middle_exchanged.new.self c.args.gap.now (map (plain_row g.P.Plane.plain) c.args.rows.now) c.args.node.0 c.args.first.now c.args.second.now c.in_ok-touched.touched c.in_ok-touched.touched.branches.items c.in_ok-branches.branches record {
      nodes_well_formed = c.nodes_are_well_formed.ensures;
      up_to = c.requires.up_to;
      at = c.requires.at;
      inner = c.requires.inner;
      well_formed = c.requires.well_formed;
      is = c.in_ok-touched.ensures;
      middle_is = refl;
    } c.in_ok-branches.ensures.grows c.in_ok-branches.ensures.rows

pub node_exchanged-returns-clause-out : goal.node_exchanged-returns-clause-out
node_exchanged-returns-clause-out g t c =
    node-taken g.P.Plane.widths c.args.self.now c.args.gap.now (map (plain_row g.P.Plane.plain) c.args.rows.now) c.args.node.0 c.args.first.now c.args.second.now c.in_ok-touched.touched c.in_ok-touched.touched.branches.items (map (plain_row g.P.Plane.plain) c.args.out.now.items) (map (plain_row g.P.Plane.plain) c.middle_exchanged.new.out.items) record {
      nodes_well_formed = c.nodes_are_well_formed.ensures;
      up_to = c.requires.up_to;
      at = c.requires.at;
      inner = c.requires.inner;
      well_formed = c.requires.well_formed;
      is = c.in_ok-touched.ensures;
      middle_is = refl;
    } c.in_ok-branches.ensures.out

pub parts_exchanged-repacked-requires-clause-part : goal.parts_exchanged-repacked-requires-clause-part
parts_exchanged-repacked-requires-clause-part g t c = part-grown g.P.Plane.widths c.args.self.now c.node_exchanged.new.self c.args.branch.now c.node_exchanged.ensures.grows c.requires.part

pub parts_exchanged-returns-clause-rows : goal.parts_exchanged-returns-clause-rows
parts_exchanged-returns-clause-rows g t c =
    let w = g.P.Plane.widths in
    let mid = c.node_exchanged.new.self in
    let new = c.repacked.new.self in
    let rows = exchanged c.args.gap.now (map (plain_row g.P.Plane.plain) c.args.rows.now) (branch_rows (rows_table c.args.self.now) c.args.branch.now) in
    let height = height_of w c.args.self.now c.args.branch.now.node.0 in
    let all = with_middle c.args.branch.now.first c.args.branch.now.second (branches_at c.args.branch.now.first c.args.branch.now.second (branches_under (node_at c.args.self.now c.args.branch.now.node.0))) c.in_ok-touched.touched in
    IfOk-weaker c.repacked.result (MayBePacked w mid new (Branches all)) (MayHaveRows w new height rows) (λ made packed. may-packed w mid new height rows all made c.in_ok-touched.ensures.rows packed)
    (subst (λ (node : Shape _). IfOk c.repacked.result (MayBePacked w mid new (Branches (with_middle c.args.branch.now.first c.args.branch.now.second (branches_at c.args.branch.now.first c.args.branch.now.second (branches_under node)) c.in_ok-touched.touched)))) c.node_exchanged.ensures.same c.repacked.ensures.packed)
