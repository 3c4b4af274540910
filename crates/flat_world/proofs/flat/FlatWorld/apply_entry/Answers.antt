use Rattle.flat_world.proofs.flat.FlatWorld.apply_entry.Goals as goal

pub count-requires-clause-room : goal.count-requires-clause-room
count-requires-clause-room c = rw c.replace-sessions.ensures.value c.in_ok-reserve_count.ensures.room
