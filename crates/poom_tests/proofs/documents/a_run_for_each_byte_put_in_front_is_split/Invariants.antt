use Rattle.tumbler.specs.Address.{IsDocument}
use Rattle.poom.specs.Laid.{IsRoot}
use Rattle.poom_tests.proofs.documents.a_run_for_each_byte_put_in_front_is_split.Given as goal

abbrev pub invariant-loop-first : goal.invariant-loop-first
invariant-loop-first g l = record { root : IsRoot l.poom l.root.0; home : IsDocument l.home }
