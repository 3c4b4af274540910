use Rattle.std.proofs.Common.{◌≡◌}
use Rattle.green_top.specs.inside.Enduring.{Settles}
use Rattle.green_top.proofs.generate.settle.Given as goal

abbrev pub invariant-loop : goal.invariant-loop
invariant-loop g l = record {
  number : l.serves.session ≡ l.fn.serves.session;
  history : l.serves.store.history ≡ l.fn.serves.store.history;
  settles : Settles (g.C.Clock.coming l.fn.clock) (g.C.Clock.coming l.clock) (g.D.Disk.state l.fn.disk) l.fn.serves.store (g.D.Disk.fault_count l.fn.disk) (g.D.Disk.state l.disk) l.serves.store (g.D.Disk.fault_count l.disk);
}
