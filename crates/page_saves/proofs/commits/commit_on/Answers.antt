use Rattle.std.proofs.Common.{◌≡◌, ◌⊎◌, inl, inr, ⊎_elim, OnOk, OnErr, sym, subst}
use Rattle.green_io.specs.Disk.{LeavesOnly}
use Rattle.page_journal.specs.JournalBytes.{writes_of}
use Rattle.page_journal.specs.JournalView.{IsClean, IsUnfinished, IsLeft, AfterFinished}
use Rattle.page_journal.specs.Pages.{home_after}
use Rattle.page_saves.specs.Resting.{Rests, IsSettledOn, IsBetween}
use Rattle.page_saves.specs.inside.OneCommit.{GivesCourse}
use Rattle.page_saves.proofs.Answering.{on_fault, ok_then}
use Rattle.page_saves.proofs.Leading.{settled_leaves, between_leaves, settled_after, left_after, finished_after, failed_after}
use Rattle.page_saves.proofs.commits.commit_on.Goals as goal

pub returns-clause-any_moment : goal.returns-clause-any_moment
returns-clause-any_moment g c was from to lead rests =
    let old = g.D.Disk.state c.args.disk.now in
    let new = g.D.Disk.state c.commit.new.disk in
    let writes = writes_of c.args.pages.now.items in
    ⊎_elim
    (λ (settled : IsSettledOn old c.args.journal.now from).
    settled_leaves old new was from to writes settled.home lead settled.on (c.commit.ensures.any_moment settled.home settled.clean))
    (λ (between : IsBetween old c.args.journal.now was from).
    between_leaves old new was from to between.writes writes between.before lead between.had between.will (c.commit.ensures.any_moment_resumed between.before between.writes between.unfinished))
    rests

pub returns-clause-done : goal.returns-clause-done
returns-clause-done g c was from to lead rests =
    let old = g.D.Disk.state c.args.disk.now in
    let new = g.D.Disk.state c.commit.new.disk in
    let journal = c.commit.new.self in
    let writes = writes_of c.args.pages.now.items in
    ⊎_elim
    (λ (settled : IsSettledOn old c.args.journal.now from).
    ok_then c.commit.result (IsClean new journal (home_after writes settled.home)) (IsSettledOn new journal to) (c.commit.ensures.done settled.home settled.clean)
    (settled_after new journal from to writes settled.home c.requires lead settled.on))
    (λ (between : IsBetween old c.args.journal.now was from).
    ok_then c.commit.result (AfterFinished between.before between.writes (λ home. IsClean new journal (home_after writes home))) (IsSettledOn new journal to) (c.commit.ensures.done_resumed between.before between.writes between.unfinished)
    (finished_after new journal was from to between.writes writes between.before c.requires lead between.will))
    rests

pub returns-clause-fails : goal.returns-clause-fails
returns-clause-fails g c was from to lead rests =
    let old = g.D.Disk.state c.args.disk.now in
    let new = g.D.Disk.state c.commit.new.disk in
    let journal = c.commit.new.self in
    let writes = writes_of c.args.pages.now.items in
    let Left = Rests new journal was from ⊎ Rests new journal from to in
    let refused : (c.commit.new.disk ≡ c.args.disk.now) × (journal ≡ c.args.journal.now) → Left =
    λ same. inl (subst (λ j. Rests new j was from) (sym same.1) (subst (λ d. Rests (g.D.Disk.state d) c.args.journal.now was from) (sym same.0) rests)) in
    ⊎_elim
    (λ (settled : IsSettledOn old c.args.journal.now from).
    on_fault c.commit.result (IsLeft new journal settled.home writes) _ Left (c.commit.ensures.fails settled.home settled.clean) c.commit.ensures.refused
    (left_after new journal was from to writes settled.home lead settled.on) refused)
    (λ (between : IsBetween old c.args.journal.now was from).
    on_fault c.commit.result (IsUnfinished new journal between.before between.writes ⊎ AfterFinished between.before between.writes (λ home. IsLeft new journal home writes)) _ Left
    (c.commit.ensures.fails_resumed between.before between.writes between.unfinished) c.commit.ensures.refused
    (failed_after new journal was from to between.writes writes between.before lead between.had between.will) refused)
    rests
