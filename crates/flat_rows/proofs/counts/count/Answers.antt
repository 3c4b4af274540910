use Rattle.std.proofs.Common.{◌≡◌, ◌==◌, ◌∙◌, Some, sym, arith}
use Rattle.std.specs.List.{position}
use Rattle.world_rules.specs.declared.rows.SessionRow.{SessionRow}
use Rattle.world_rules.specs.FlatView.{entries_in}
use Rattle.flat_rows.proofs.Counted.{entries_read, appends}
use Rattle.flat_rows.proofs.counts.count.Goals as goal

pub overflow_add-index_mut : goal.overflow_add-index_mut
overflow_add-index_mut c =
    let at : position (λ (row : SessionRow). row.session == c.args.session) c.args.sessions.now.items ≡ Some c.in-Some.place = rw (← c.as_slice.ensures.value) (sym c.place_of.ensures ∙ c.in-Some.is) in
    let read : entries_in c.args.sessions.now.items c.args.session ≡ c.index_mut.result.now.entries = entries_read c.args.session c.args.sessions.now.items c.in-Some.place c.index_mut.result.now at c.index_mut.ensures.value in
    omega (arith, read, c.requires.countable)

pub push_reserved-requires : goal.push_reserved-requires
push_reserved-requires c = c.requires.room (rw (← c.as_slice.ensures.value) (sym c.place_of.ensures ∙ c.in-None.is))

pub returns-in-None : goal.returns-in-None
returns-in-None c = c.push_reserved.ensures.items ∙ sym (appends c.args.session c.args.sessions.now.items (rw (← c.as_slice.ensures.value) (sym c.place_of.ensures ∙ c.in-None.is)))
