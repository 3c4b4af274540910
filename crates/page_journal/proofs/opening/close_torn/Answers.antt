-- Whatever byte the gate is, nothing is laid over Home, or what is staged is.
use Rattle.std.proofs.Common.{◌≡◌, ◌⊎◌, [], ◌∷◌, drop, subst}
use Rattle.green_io.proofs.Crash.{weaker}
use Rattle.page_journal.specs.JournalBytes.{staged, replayed}
use Rattle.page_journal.specs.Images.{IsShut, HomeIs, GivesSettled}
use Rattle.page_journal.proofs.Answering.{on_ok}
use Rattle.page_journal.proofs.Journals.{torn_any, written_shut}
use Rattle.page_journal.proofs.Opens.{torn_settles}
use Rattle.page_journal.proofs.Steps.{torn_journal, written_journal}
use Rattle.page_journal.proofs.opening.close_torn.Goals as goal

pub returns-clause-any_moment : goal.returns-clause-any_moment
returns-clause-any_moment g c areas have nothing =
    weaker _ _ (HomeIs areas.home (λ journal. (replayed journal ≡ []) ⊎ (replayed journal ≡ staged (drop 4096 areas.journal)))) (GivesSettled areas)
    (torn_journal _ _ areas.home 0 1 (λ journal. journal ≡ areas.journal) (λ journal. (replayed journal ≡ []) ⊎ (replayed journal ≡ staged (drop 4096 areas.journal))) have c.write_and_sync.ensures.crash
    (λ old new was torn. subst (λ j. (replayed new ≡ []) ⊎ (replayed new ≡ staged (drop 4096 j))) was (torn_any old new torn)))
    (λ image has. torn_settles areas image nothing has)

pub returns-clause-closed : goal.returns-clause-closed
returns-clause-closed g c areas have =
    on_ok _ _ _ _ c.write_and_sync.ensures.written c.write_and_sync.ensures.durable
    (λ written durable. written_journal _ _ areas.home 0 1 (0 ∷ []) (λ journal. journal ≡ areas.journal) IsShut (g.met.D.Disk.is_disk c.args.disk.now) (g.met.D.Disk.is_disk c.write_and_sync.new.disk) have c.write_and_sync.ensures.told c.write_and_sync.ensures.crash written durable (λ old new was put. written_shut old new put))
