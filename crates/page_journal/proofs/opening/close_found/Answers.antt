-- Each case closes the gate over what it found.
use Rattle.std.proofs.Common.{refl, sym, subst}
use Rattle.green_io.specs.declared.disk.Area.TheVariants as area
use Rattle.green_io.proofs.Beside.{untouched_others, area_others}
use Rattle.green_io.proofs.Crash.{none_called}
use Rattle.page_journal.specs.JournalBytes.{writes_at}
use Rattle.page_journal.specs.Images.{GivesSettled, is_paged}
use Rattle.page_journal.specs.inside.Opening.{IsFound}
use Rattle.page_journal.specs.inside.Phases.{IsStaged}
use Rattle.page_journal.proofs.Joining.{ok_then}
use Rattle.page_journal.proofs.Opens.{shut_settled, torn_closed, found_staged, found_midway, found_gives, found_settled}
use Rattle.page_journal.proofs.opening.close_found.Goals as goal

pub returns-in-Shut-clause-any_moment : goal.returns-in-Shut-clause-any_moment
returns-in-Shut-clause-any_moment g c areas have is = none_called _ (GivesSettled areas)

pub returns-in-Shut-clause-settled : goal.returns-in-Shut-clause-settled
returns-in-Shut-clause-settled g c areas have is = shut_settled _ areas (subst (λ f. IsFound f areas.journal) c.in-Shut.is is) have

pub returns-in-Shut-clause-others : goal.returns-in-Shut-clause-others
returns-in-Shut-clause-others g c = untouched_others is_paged _

pub returns-in-Torn-clause-any_moment : goal.returns-in-Torn-clause-any_moment
returns-in-Torn-clause-any_moment g c areas have is = c.close_torn.ensures.any_moment areas have (subst (λ f. IsFound f areas.journal) c.in-Torn.is is)

pub returns-in-Torn-clause-settled : goal.returns-in-Torn-clause-settled
returns-in-Torn-clause-settled g c areas have is =
    ok_then _ _ _ (c.close_torn.ensures.closed areas have) (torn_closed _ areas (subst (λ f. IsFound f areas.journal) c.in-Torn.is is))

pub returns-in-Torn-clause-others : goal.returns-in-Torn-clause-others
returns-in-Torn-clause-others g c = area_others area.Journal is_paged _ _ refl c.close_torn.ensures.others

pub returns-in-Open-clause-any_moment : goal.returns-in-Open-clause-any_moment
returns-in-Open-clause-any_moment g c areas have is =
    let found = subst (λ f. IsFound f areas.journal) c.in-Open.is is in
    let kept = c.in-Open.kept.items in
    let staged = subst (λ l. IsStaged l (writes_at kept)) (sym c.as_slice.ensures) (found_staged kept areas.journal found) in
    found_gives _ _ areas kept found (c.lay.ensures.any_moment areas.home (writes_at kept) staged (found_midway _ areas kept found have))

pub returns-in-Open-clause-settled : goal.returns-in-Open-clause-settled
returns-in-Open-clause-settled g c areas have is =
    let found = subst (λ f. IsFound f areas.journal) c.in-Open.is is in
    let kept = c.in-Open.kept.items in
    let staged = subst (λ l. IsStaged l (writes_at kept)) (sym c.as_slice.ensures) (found_staged kept areas.journal found) in
    ok_then _ _ _ (c.lay.ensures.done areas.home (writes_at kept) staged (found_midway _ areas kept found have))
    (found_settled _ _ areas kept found (g.met.D.Disk.is_disk c.args.disk.now) have)
