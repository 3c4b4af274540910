-- When runs have bytes in common.
use Rattle.std.specs.Prelude.{◌+◌, ◌&&◌, Bool, List, min, max, nat_lt}
use Rattle.std.specs.List.{list_any}
use Rattle.febe_data.specs.declared.run.Run.{Run}
use Rattle.world_rules.specs.World.{is_same}

-- some byte is in both runs
abbrev pub shares_byte : Run → Run → Bool
shares_byte a b = is_same a.content b.content && nat_lt (max a.first b.first) (min (a.first + a.length) (b.first + b.length))

-- some byte is in a run of both lists
abbrev pub share_bytes : List Run → List Run → Bool
share_bytes picked runs = list_any (λ run. list_any (shares_byte run) runs) picked
