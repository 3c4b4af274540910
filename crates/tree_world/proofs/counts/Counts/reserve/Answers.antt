use Rattle.std.proofs.Common.{sym, refl}
use Rattle.tree_world.proofs.Counted.{reserved, reserved_room, known_there, room_there}
use Rattle.tree_world.proofs.counts.Counts.reserve.Goals as goal

pub returns-in_err-insert-clause-in_place : goal.returns-in_err-insert-clause-in_place
returns-in_err-insert-clause-in_place c rows stand room = absurd (known_there c.args.session c.self.inside.held c.args.self.now rows c.self.view_is stand room c.in_err-insert.ensures.absent)

pub returns-in_default-clause-stands : goal.returns-in_default-clause-stands
returns-in_default-clause-stands c rows stand = reserved c.args.session c.self.inside.held c.insert.new.self c.args.self.now _ c.self.view_is refl c.in_ok-insert.ensures.updates.0 (sym c.in_default.ensures.value) rows stand

pub returns-in_default-clause-room : goal.returns-in_default-clause-room
returns-in_default-clause-room c = reserved_room c.args.session c.self.inside.held c.insert.new.self c.args.self.now _ c.self.view_is refl c.in_ok-insert.ensures.updates.0

pub returns-clause-room : goal.returns-clause-room
returns-clause-room c = room_there c.args.session _ _ c.self.inside.held c.args.self.now c.self.view_is (sym c.in-Some.ensures.value) c.get-2.ensures c.get-2.type_inv c.if-get.false
