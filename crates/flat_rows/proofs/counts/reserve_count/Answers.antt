use Rattle.std.proofs.Common.{◌≡◌, ◌==◌, ◌∙◌, Some, None, sym, arith}
use Rattle.std.specs.List.{position}
use Rattle.world_rules.specs.declared.rows.SessionRow.{SessionRow}
use Rattle.world_rules.specs.FlatView.{entries_in}
use Rattle.flat_rows.proofs.Counted.{entries_read, no_entries, room_is_known}
use Rattle.flat_rows.proofs.counts.reserve_count.Goals as goal

pub returns-then-entries-clause-in_place : goal.returns-then-entries-clause-in_place
returns-then-entries-clause-in_place c =
    λ room.
    let at : position (λ (row : SessionRow). row.session == c.args.session) c.args.sessions.now.items ≡ Some c.in-Some.place = rw (← c.as_slice.ensures.value) (sym c.place_of.ensures ∙ c.in-Some.is) in
    let read : entries_in c.args.sessions.now.items c.args.session ≡ c.index.result.now.entries = entries_read c.args.session c.args.sessions.now.items c.in-Some.place c.index.result.now at c.index.ensures in
    absurd (omega (arith, read, room.countable, c.if-entries.true))

pub returns-in_err-reserve-in-None-clause-in_place : goal.returns-in_err-reserve-in-None-clause-in_place
returns-in_err-reserve-in-None-clause-in_place c = λ room. absurd (room_is_known c.args.session c.args.sessions.now.items room (rw (← c.as_slice.ensures.value) (sym c.place_of.ensures ∙ c.in-None.is)))

pub returns-else-entries-clause-countable : goal.returns-else-entries-clause-countable
returns-else-entries-clause-countable c =
    let at : position (λ (row : SessionRow). row.session == c.args.session) c.args.sessions.now.items ≡ Some c.in-Some.place = rw (← c.as_slice.ensures.value) (sym c.place_of.ensures ∙ c.in-Some.is) in
    let read : entries_in c.args.sessions.now.items c.args.session ≡ c.index.result.now.entries = entries_read c.args.session c.args.sessions.now.items c.in-Some.place c.index.result.now at c.index.ensures in
    omega (arith, read, c.if-entries.false)

pub returns-in_ok-reserve-in-None-clause-countable : goal.returns-in_ok-reserve-in-None-clause-countable
returns-in_ok-reserve-in-None-clause-countable c =
    let none : position (λ (row : SessionRow). row.session == c.args.session) c.args.sessions.now.items ≡ None = rw (← c.as_slice.ensures.value) (sym c.place_of.ensures ∙ c.in-None.is) in
    rw (c.reserve.ensures.items) (omega (arith, no_entries c.args.session c.args.sessions.now.items none))
