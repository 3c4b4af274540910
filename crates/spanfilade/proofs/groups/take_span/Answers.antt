use Rattle.std.proofs.Common.{◌≡◌, ◌∙◌, ℕ, List, [], ◌∷◌, ◌++◌, ap, sym, subst}
use Rattle.std.specs.List.{All}
use Rattle.std.proofs.lemmas.List.Elements.{All-nil, All-cons, All-append}
use Rattle.enfilade_core.specs.declared.tree.Row.{Row}
use Rattle.enfilade_core.specs.Rows.{rows_of}
use Rattle.enfilade_core.specs.Axes.{IsWellFormedRow}
use Rattle.enfilade_core.specs.Planes.{key_widths}
use Rattle.spanfilade.specs.Index.{row_of}
use Rattle.tumbler.specs.Places.{IsUpTo}
use Rattle.spanfilade.specs.Groups.{FitsAsGroup, LeavesRoom}
use Rattle.spanfilade.proofs.GroupRows.{group_more, one_as_group, moves_more, moves_anew}
use Rattle.spanfilade.proofs.groups.take_span.Goals as goal

pub returns-then-goes_on-clause-well_formed : goal.returns-then-goes_on-clause-well_formed
returns-then-goes_on-clause-well_formed c =
    let row = row_of c.args.span.now c.args.key.now in
    subst (All (IsWellFormedRow key_widths)) (sym (c.in_ok-push.ensures.ok ∙ ap (λ (r : Row (List ℕ)). c.args.group.now.items ++ r ∷ []) c.row_of.ensures.value))
    (All-append (IsWellFormedRow key_widths) c.args.group.now.items (row ∷ []) c.requires.well_formed (All-cons (IsWellFormedRow key_widths) row [] c.row_of.ensures.well_formed (All-nil (IsWellFormedRow key_widths))))

pub returns-then-goes_on-clause-fits : goal.returns-then-goes_on-clause-fits
returns-then-goes_on-clause-fits c =
    let rows = rows_of c.args.arena.now c.args.root.0 in
    subst (λ (xs : List (Row (List ℕ))). FitsAsGroup xs rows) (sym (c.in_ok-push.ensures.ok ∙ ap (λ (r : Row (List ℕ)). c.args.group.now.items ++ r ∷ []) c.row_of.ensures.value))
    (group_more c.args.group.now.items rows (row_of c.args.span.now c.args.key.now) c.requires.fits
    (subst (All (λ (r : Row (List ℕ)). IsUpTo r.first c.args.span.now.start)) c.as_slice.ensures (c.goes_on.ensures.up_to c.if-goes_on.true)) (subst (λ (xs : List (Row (List ℕ))). LeavesRoom c.args.span.now.start xs rows) c.as_slice.ensures (c.goes_on.ensures.room c.if-goes_on.true)))

pub returns-then-goes_on-clause-rows : goal.returns-then-goes_on-clause-rows
returns-then-goes_on-clause-rows c =
    moves_more c.args.group.now.items (rows_of c.args.arena.now c.args.root.0) c.push.new.self.items (row_of c.args.span.now c.args.key.now)
    (c.in_ok-push.ensures.ok ∙ ap (λ (r : Row (List ℕ)). c.args.group.now.items ++ r ∷ []) c.row_of.ensures.value)

pub returns-clause-fits : goal.returns-clause-fits
returns-clause-fits c =
    let rows = rows_of c.put_group.new.arena c.in_ok-root.root.0 in
    let held : c.push-2.new.self.items ≡ row_of c.args.span.now c.args.key.now ∷ [] =
    c.in_ok-push-2.ensures.ok ∙ ap (λ (xs : List (Row (List ℕ))). xs ++ c.row_of-2.result ∷ []) c.truncate.ensures.items ∙ ap (λ (r : Row (List ℕ)). r ∷ []) c.row_of-2.ensures.value in
    subst (λ (xs : List (Row (List ℕ))). FitsAsGroup xs rows) (sym held) (one_as_group (row_of c.args.span.now c.args.key.now) rows)

pub returns-clause-rows : goal.returns-clause-rows
returns-clause-rows c =
    let held : c.push-2.new.self.items ≡ row_of c.args.span.now c.args.key.now ∷ [] =
    c.in_ok-push-2.ensures.ok ∙ ap (λ (xs : List (Row (List ℕ))). xs ++ c.row_of-2.result ∷ []) c.truncate.ensures.items ∙ ap (λ (r : Row (List ℕ)). r ∷ []) c.row_of-2.ensures.value in
    moves_anew c.args.group.now.items (rows_of c.args.arena.now c.args.root.0) (rows_of c.put_group.new.arena c.in_ok-root.root.0) c.push-2.new.self.items (row_of c.args.span.now c.args.key.now) c.in_ok-root.ensures.rows held
