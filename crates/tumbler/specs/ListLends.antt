-- What a list ends as, where its items are lent to be changed.
use Rattle.std.specs.Prelude.{List, length}
use Rattle.std.specs.List.{refill}
use Rattle.std.specs.Borrow.{Lends, Fml, RattleType, MutBor, Array}
use Rattle.tumbler.specs.ListView.{ListView}
use Rattle.tumbler.specs.contracts.list.List.{the_row}

-- a list after a write of its items as a slice, which keeps the length
abbrev pub with_items : {T : Type 0} → ListView T → List T → ListView T
with_items l items = record l { items = refill (length l.items) l.items items }

-- once the borrow r ends, the items are those that r shows last
abbrev pub lends_slice : (T : RattleType) → MutBor (ListView T.Denot) → MutBor (List T.Denot) → Fml
lends_slice T l r = Lends (the_row T) (Array T 0) l r (with_items l.now)
