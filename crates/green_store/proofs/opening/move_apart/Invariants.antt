-- The rows that were passed are in the lists, and those behind them are as they were.
use Rattle.std.proofs.Common.{◌≡◌, ◌+◌, ◌≤◌, ◌++◌, length, take, drop}
use Rattle.febe_data.specs.Plain.{plain_history}
use Rattle.entry_codec.specs.Logged.{plain_log, entries_of, moments_of}
use Rattle.green_store.proofs.opening.move_apart.Given as goal

abbrev pub invariant-loop-k : goal.invariant-loop-k
invariant-loop-k l = record {
  told : plain_history l.entries.items ≡ plain_history l.initial.entries.items ++ entries_of (plain_log (take l.k l.initial.rows));
  timed : l.moments.items ≡ l.initial.moments.items ++ moments_of (plain_log (take l.k l.initial.rows));
  room : length l.initial.rows ≤ l.entries.spare + l.k;
  moments_room : length l.initial.rows ≤ l.moments.spare + l.k;
  rest : drop l.k l.rows ≡ drop l.k l.initial.rows;
}
