-- A commit that is unfinished is finished first, and then this one is carried out over what that leaves.
use Rattle.std.proofs.Common.{inl, inr, sym, ◌∙◌, ap, subst}
use Rattle.green_io.specs.Disk.{LeavesOnly}
use Rattle.green_io.proofs.Beside.{untouched_others, then_others}
use Rattle.green_io.proofs.Crash.{none_called}
use Rattle.page_journal.specs.Pages.{pages_of}
use Rattle.page_journal.specs.Images.{GivesEither, GivesAny, is_paged}
use Rattle.page_journal.specs.JournalBytes.{record_of, writes_of}
use Rattle.page_journal.specs.JournalView.{IsSettled, IsClean, IsUnfinished, IsRecordOf}
use Rattle.page_journal.proofs.Commits.{first_leaves, resumed_leaves, clean_from, left_from}
use Rattle.page_journal.proofs.Recorded.{record_is_staged}
use Rattle.page_journal.proofs.journal.PageJournal.commit.Goals as goal

pub returns-in_default-clause-any_moment : goal.returns-in_default-clause-any_moment
returns-in_default-clause-any_moment g c home clean =
    none_called _ (GivesEither (pages_of home) (writes_of c.args.pages.now.items))

pub returns-in_default-clause-any_moment_resumed : goal.returns-in_default-clause-any_moment_resumed
returns-in_default-clause-any_moment_resumed g c before first unfinished =
    none_called _ (GivesAny (pages_of before) first (writes_of c.args.pages.now.items))

pub returns-in_default-clause-log : goal.returns-in_default-clause-log
returns-in_default-clause-log g c = untouched_others is_paged _

pub returns-in_default-finish-clause-any_moment : goal.returns-in_default-finish-clause-any_moment
returns-in_default-finish-clause-any_moment g c home clean =
    let journal = subst (λ v. IsClean (g.D.Disk.state c.args.disk.now) v home) (sym c.self.view_is) clean in
    absurd (c.in_default-finish.ensures.stays journal.idle)

pub returns-in_default-finish-clause-fails : goal.returns-in_default-finish-clause-fails
returns-in_default-finish-clause-fails g c home clean =
    let journal = subst (λ v. IsClean (g.D.Disk.state c.args.disk.now) v home) (sym c.self.view_is) clean in
    absurd (c.in_default-finish.ensures.stays journal.idle)

pub returns-in_default-finish-clause-any_moment_resumed : goal.returns-in_default-finish-clause-any_moment_resumed
returns-in_default-finish-clause-any_moment_resumed g c before first unfinished =
    let journal = subst (λ v. IsUnfinished (g.D.Disk.state c.args.disk.now) v before first) (sym c.self.view_is) unfinished in
    let staged = record_is_staged c.as_slice-kept.result.now first (subst (λ l. IsRecordOf l first) (sym c.as_slice-kept.ensures) journal.kept) in
    first_leaves _ _ before first (writes_of c.args.pages.now.items) (c.in_default-finish.ensures.any_moment before first staged journal.images)

pub returns-in_default-finish-clause-fails_resumed : goal.returns-in_default-finish-clause-fails_resumed
returns-in_default-finish-clause-fails_resumed g c before first unfinished =
    let journal = subst (λ v. IsUnfinished (g.D.Disk.state c.args.disk.now) v before first) (sym c.self.view_is) unfinished in
    let staged = record_is_staged c.as_slice-kept.result.now first (subst (λ l. IsRecordOf l first) (sym c.as_slice-kept.ensures) journal.kept) in
    inl record { kept = journal.kept; images = c.in_default-finish.ensures.fails before first staged journal.images }

pub returns-in_default-finish-clause-log : goal.returns-in_default-finish-clause-log
returns-in_default-finish-clause-log g c = c.in_default-finish.ensures.others

pub returns-in_default-carry_out-clause-any_moment : goal.returns-in_default-carry_out-clause-any_moment
returns-in_default-carry_out-clause-any_moment g c home clean =
    let journal = subst (λ v. IsClean (g.D.Disk.state c.args.disk.now) v home) (sym c.self.view_is) clean in
    let spelled = c.in-Ok.ensures ∙ ap (λ p. record_of (writes_of p)) c.as_slice-pages.ensures in
    let given : IsRecordOf c.as_slice-record.result.now (writes_of c.args.pages.now.items) = record { are = c.requires; spelled = c.as_slice-record.ensures ∙ spelled } in
    let idle = c.in-Ok-finish.ensures.idle journal.idle in
    let settled = subst (λ d. IsSettled (g.D.Disk.state d) home) (sym idle) journal.images in
    subst (λ d. LeavesOnly (g.D.Disk.state d) (g.D.Disk.state c.carry_out.new.disk) (GivesEither (pages_of home) (writes_of c.args.pages.now.items))) idle (c.in_default-carry_out.ensures.any_moment home (writes_of c.args.pages.now.items) given settled)

pub returns-in_default-carry_out-clause-any_moment_resumed : goal.returns-in_default-carry_out-clause-any_moment_resumed
returns-in_default-carry_out-clause-any_moment_resumed g c before first unfinished =
    let journal = subst (λ v. IsUnfinished (g.D.Disk.state c.args.disk.now) v before first) (sym c.self.view_is) unfinished in
    let staged = record_is_staged c.as_slice-kept.result.now first (subst (λ l. IsRecordOf l first) (sym c.as_slice-kept.ensures) journal.kept) in
    let spelled = c.in-Ok.ensures ∙ ap (λ p. record_of (writes_of p)) c.as_slice-pages.ensures in
    let given : IsRecordOf c.as_slice-record.result.now (writes_of c.args.pages.now.items) = record { are = c.requires; spelled = c.as_slice-record.ensures ∙ spelled } in
    let over = c.in-Ok-finish.ensures.done before first staged journal.images in
    resumed_leaves _ _ _ before over.home first (writes_of c.args.pages.now.items) over.finished (c.in-Ok-finish.ensures.any_moment before first staged journal.images) (c.in_default-carry_out.ensures.any_moment over.home (writes_of c.args.pages.now.items) given over.settled)

pub returns-in_default-carry_out-clause-log : goal.returns-in_default-carry_out-clause-log
returns-in_default-carry_out-clause-log g c = then_others is_paged _ _ _ (g.met.D.Disk.is_disk c.finish.new.disk) c.in-Ok-finish.ensures.others c.in_default-carry_out.ensures.others

pub returns-clause-any_moment : goal.returns-clause-any_moment
returns-clause-any_moment g c home clean =
    let journal = subst (λ v. IsClean (g.D.Disk.state c.args.disk.now) v home) (sym c.self.view_is) clean in
    let spelled = c.in-Ok.ensures ∙ ap (λ p. record_of (writes_of p)) c.as_slice-pages.ensures in
    let given : IsRecordOf c.as_slice-record.result.now (writes_of c.args.pages.now.items) = record { are = c.requires; spelled = c.as_slice-record.ensures ∙ spelled } in
    let idle = c.in-Ok-finish.ensures.idle journal.idle in
    let settled = subst (λ d. IsSettled (g.D.Disk.state d) home) (sym idle) journal.images in
    subst (λ d. LeavesOnly (g.D.Disk.state d) (g.D.Disk.state c.carry_out.new.disk) (GivesEither (pages_of home) (writes_of c.args.pages.now.items))) idle (c.in-Ok-carry_out.ensures.any_moment home (writes_of c.args.pages.now.items) given settled)

pub returns-clause-any_moment_resumed : goal.returns-clause-any_moment_resumed
returns-clause-any_moment_resumed g c before first unfinished =
    let journal = subst (λ v. IsUnfinished (g.D.Disk.state c.args.disk.now) v before first) (sym c.self.view_is) unfinished in
    let staged = record_is_staged c.as_slice-kept.result.now first (subst (λ l. IsRecordOf l first) (sym c.as_slice-kept.ensures) journal.kept) in
    let spelled = c.in-Ok.ensures ∙ ap (λ p. record_of (writes_of p)) c.as_slice-pages.ensures in
    let given : IsRecordOf c.as_slice-record.result.now (writes_of c.args.pages.now.items) = record { are = c.requires; spelled = c.as_slice-record.ensures ∙ spelled } in
    let over = c.in-Ok-finish.ensures.done before first staged journal.images in
    resumed_leaves _ _ _ before over.home first (writes_of c.args.pages.now.items) over.finished (c.in-Ok-finish.ensures.any_moment before first staged journal.images) (c.in-Ok-carry_out.ensures.any_moment over.home (writes_of c.args.pages.now.items) given over.settled)

pub returns-clause-log : goal.returns-clause-log
returns-clause-log g c = then_others is_paged _ _ _ (g.met.D.Disk.is_disk c.finish.new.disk) c.in-Ok-finish.ensures.others c.in-Ok-carry_out.ensures.others

pub returns-in_default-carry_out-clause-fails : goal.returns-in_default-carry_out-clause-fails
returns-in_default-carry_out-clause-fails g c home clean =
    let journal = subst (λ v. IsClean (g.D.Disk.state c.args.disk.now) v home) (sym c.self.view_is) clean in
    let spelled = c.in-Ok.ensures ∙ ap (λ p. record_of (writes_of p)) c.as_slice-pages.ensures in
    let given : IsRecordOf c.as_slice-record.result.now (writes_of c.args.pages.now.items) = record { are = c.requires; spelled = c.as_slice-record.ensures ∙ spelled } in
    let kept : IsRecordOf c.in-Ok.record.items (writes_of c.args.pages.now.items) = record { are = c.requires; spelled = spelled } in
    let idle = c.in-Ok-finish.ensures.idle journal.idle in
    let settled = subst (λ d. IsSettled (g.D.Disk.state d) home) (sym idle) journal.images in
    left_from _ _ _ home (writes_of c.args.pages.now.items) kept (c.in_default-carry_out.ensures.fails home (writes_of c.args.pages.now.items) given settled c.in-Ok-finish.ensures.ends)

pub returns-in_default-carry_out-clause-fails_resumed : goal.returns-in_default-carry_out-clause-fails_resumed
returns-in_default-carry_out-clause-fails_resumed g c before first unfinished =
    let journal = subst (λ v. IsUnfinished (g.D.Disk.state c.args.disk.now) v before first) (sym c.self.view_is) unfinished in
    let staged = record_is_staged c.as_slice-kept.result.now first (subst (λ l. IsRecordOf l first) (sym c.as_slice-kept.ensures) journal.kept) in
    let spelled = c.in-Ok.ensures ∙ ap (λ p. record_of (writes_of p)) c.as_slice-pages.ensures in
    let given : IsRecordOf c.as_slice-record.result.now (writes_of c.args.pages.now.items) = record { are = c.requires; spelled = c.as_slice-record.ensures ∙ spelled } in
    let kept : IsRecordOf c.in-Ok.record.items (writes_of c.args.pages.now.items) = record { are = c.requires; spelled = spelled } in
    let over = c.in-Ok-finish.ensures.done before first staged journal.images in
    inr (over.home, over.finished, left_from _ _ _ over.home (writes_of c.args.pages.now.items) kept (c.in_default-carry_out.ensures.fails over.home (writes_of c.args.pages.now.items) given over.settled c.in-Ok-finish.ensures.ends))

pub returns-clause-done : goal.returns-clause-done
returns-clause-done g c home clean =
    let journal = subst (λ v. IsClean (g.D.Disk.state c.args.disk.now) v home) (sym c.self.view_is) clean in
    let spelled = c.in-Ok.ensures ∙ ap (λ p. record_of (writes_of p)) c.as_slice-pages.ensures in
    let given : IsRecordOf c.as_slice-record.result.now (writes_of c.args.pages.now.items) = record { are = c.requires; spelled = c.as_slice-record.ensures ∙ spelled } in
    let idle = c.in-Ok-finish.ensures.idle journal.idle in
    let settled = subst (λ d. IsSettled (g.D.Disk.state d) home) (sym idle) journal.images in
    clean_from _ _ _ _ c.in-Ok-carry_out.ensures.ends (c.in-Ok-carry_out.ensures.done home (writes_of c.args.pages.now.items) given settled)

pub returns-clause-done_resumed : goal.returns-clause-done_resumed
returns-clause-done_resumed g c before first unfinished =
    let journal = subst (λ v. IsUnfinished (g.D.Disk.state c.args.disk.now) v before first) (sym c.self.view_is) unfinished in
    let staged = record_is_staged c.as_slice-kept.result.now first (subst (λ l. IsRecordOf l first) (sym c.as_slice-kept.ensures) journal.kept) in
    let spelled = c.in-Ok.ensures ∙ ap (λ p. record_of (writes_of p)) c.as_slice-pages.ensures in
    let given : IsRecordOf c.as_slice-record.result.now (writes_of c.args.pages.now.items) = record { are = c.requires; spelled = c.as_slice-record.ensures ∙ spelled } in
    let over = c.in-Ok-finish.ensures.done before first staged journal.images in
    (over.home, over.finished, clean_from _ _ _ _ c.in-Ok-carry_out.ensures.ends (c.in-Ok-carry_out.ensures.done over.home (writes_of c.args.pages.now.items) given over.settled))
