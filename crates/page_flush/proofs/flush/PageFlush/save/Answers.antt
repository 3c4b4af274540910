-- What is prepared is written over what the pages hold.
use Rattle.std.proofs.Common.{◌≡◌, List, ℕ, Some, None, sym, refl, subst, arith}
use Rattle.green_io.specs.Disk.{LeavesOnly}
use Rattle.green_io.proofs.Beside.{untouched_others, then_others}
use Rattle.green_io.proofs.Crash.{none_called}
use Rattle.page_journal.specs.declared.page_write.PageWrite.{PageWrite}
use Rattle.page_journal.specs.Images.{is_paged}
use Rattle.page_journal.specs.JournalBytes.{writes_of}
use Rattle.page_journal.specs.Pages.{Writes}
use Rattle.page_saves.specs.Resting.{RestsOn}
use Rattle.page_saves.proofs.Answering.{on_err}
use Rattle.page_flush.specs.declared.kept_stream.KeptStream.{KeptStream}
use Rattle.page_flush.specs.FlushView.{StreamView, FlushView, plain_streams, plain_kept, kept_streams, kept_pages, Knows}
use Rattle.page_flush.specs.Saving.{MayBeGiven, save_of, GivesAny, IsStopped, IsSaved}
use Rattle.page_flush.specs.inside.Fresh.{HasAlso}
use Rattle.page_flush.specs.inside.Spells.{IsPrepared}
use Rattle.page_flush.proofs.Outcomes.{course, begun_leaves, save_leaves, save_done, save_fails, save_refused, save_unbegun}
use Rattle.page_flush.proofs.flush.PageFlush.save.Goals as goal

pub returns-in_err-prepared-clause-any_moment : goal.returns-in_err-prepared-clause-any_moment
returns-in_err-prepared-clause-any_moment g c was saved rests knows = none_called (g.D.Disk.state c.args.disk.now) (GivesAny (save_of was saved c.args.self.now c.args.given.now c.args.position))

pub returns-in_err-prepared-clause-fails : goal.returns-in_err-prepared-clause-fails
returns-in_err-prepared-clause-fails g c was saved rests knows = on_err c.from_residual.result _ (save_refused (g.D.Disk.state c.args.disk.now) was saved c.args.self.now c.args.given.now c.args.position rests knows c.args.self.now refl refl (λ k among. among) refl)

pub returns-in_err-prepared-clause-others : goal.returns-in_err-prepared-clause-others
returns-in_err-prepared-clause-others g c = untouched_others is_paged (g.D.Disk.state c.args.disk.now)

pub returns-in_err-spare_streams-clause-any_moment : goal.returns-in_err-spare_streams-clause-any_moment
returns-in_err-spare_streams-clause-any_moment g c was saved rests knows = none_called (g.D.Disk.state c.args.disk.now) (GivesAny (save_of was saved c.args.self.now c.args.given.now c.args.position))

pub returns-in_err-spare_streams-clause-fails : goal.returns-in_err-spare_streams-clause-fails
returns-in_err-spare_streams-clause-fails g c was saved rests knows =
    let flush : FlushView = record { journal = c.self.inside.journal; needs_blank = c.self.inside.needs_blank; spared = c.self.inside.spared; kept = plain_kept c.self.inside.kept } in
    let known = subst (λ (f : FlushView). Knows f saved) (sym c.self.view_is) knows in
    let rested = subst (λ (f : FlushView). RestsOn (g.D.Disk.state c.args.disk.now) f.journal was saved) (sym c.self.view_is) rests in
    on_err c.from_residual-in_err-spare_streams.result _ (subst (λ (f : FlushView). IsStopped (g.D.Disk.state c.args.disk.now) (let f : FlushView = record { journal = c.self.inside.journal; needs_blank = c.self.inside.needs_blank; spared = c.spare_streams.new.self; kept = plain_kept c.self.inside.kept } in f) (save_of was saved f c.args.given.now c.args.position)) c.self.view_is (save_refused (g.D.Disk.state c.args.disk.now) was saved flush c.args.given.now c.args.position rested known (let f : FlushView = record { journal = c.self.inside.journal; needs_blank = c.self.inside.needs_blank; spared = c.spare_streams.new.self; kept = plain_kept c.self.inside.kept } in f) refl refl c.spare_streams.ensures.keeps refl))

pub returns-in_err-spare_streams-clause-others : goal.returns-in_err-spare_streams-clause-others
returns-in_err-spare_streams-clause-others g c = untouched_others is_paged (g.D.Disk.state c.args.disk.now)

pub returns-in_err-begin-clause-any_moment : goal.returns-in_err-begin-clause-any_moment
returns-in_err-begin-clause-any_moment g c was saved rests knows =
    let flush : FlushView = record { journal = c.self.inside.journal; needs_blank = c.self.inside.needs_blank; spared = c.self.inside.spared; kept = plain_kept c.self.inside.kept } in
    let known = subst (λ (f : FlushView). Knows f saved) (sym c.self.view_is) knows in
    let rested = subst (λ (f : FlushView). RestsOn (g.D.Disk.state c.args.disk.now) f.journal was saved) (sym c.self.view_is) rests in
    subst (λ (f : FlushView). LeavesOnly (g.D.Disk.state c.args.disk.now) (g.D.Disk.state c.begin.new.disk) (GivesAny (save_of was saved f c.args.given.now c.args.position))) c.self.view_is (begun_leaves (g.D.Disk.state c.args.disk.now) (g.D.Disk.state c.begin.new.disk) was saved flush c.args.given.now c.args.position (c.in_err-begin.ensures.any_moment was saved rested))

pub returns-in_err-begin-clause-fails : goal.returns-in_err-begin-clause-fails
returns-in_err-begin-clause-fails g c was saved rests knows =
    let flush : FlushView = record { journal = c.self.inside.journal; needs_blank = c.self.inside.needs_blank; spared = c.self.inside.spared; kept = plain_kept c.self.inside.kept } in
    let known = subst (λ (f : FlushView). Knows f saved) (sym c.self.view_is) knows in
    let rested = subst (λ (f : FlushView). RestsOn (g.D.Disk.state c.args.disk.now) f.journal was saved) (sym c.self.view_is) rests in
    on_err c.from_residual-in_err-begin.result _ (subst (λ (f : FlushView). IsStopped (g.D.Disk.state c.begin.new.disk) (let f : FlushView = record { journal = c.begin.new.journal; needs_blank = c.begin.new.needs_blank; spared = c.spare_streams.new.self; kept = None } in f) (save_of was saved f c.args.given.now c.args.position)) c.self.view_is (save_unbegun (g.D.Disk.state c.begin.new.disk) c.begin.new.journal was saved flush c.args.given.now c.args.position known (c.in_err-begin.ensures.fails was saved rested) (let f : FlushView = record { journal = c.begin.new.journal; needs_blank = c.begin.new.needs_blank; spared = c.spare_streams.new.self; kept = None } in f) refl c.in_err-begin.ensures.needed c.spare_streams.ensures.keeps refl))

pub returns-in_err-write_all-clause-any_moment : goal.returns-in_err-write_all-clause-any_moment
returns-in_err-write_all-clause-any_moment g c was saved rests knows =
    let flush : FlushView = record { journal = c.self.inside.journal; needs_blank = c.self.inside.needs_blank; spared = c.self.inside.spared; kept = plain_kept c.self.inside.kept } in
    let known = subst (λ (f : FlushView). Knows f saved) (sym c.self.view_is) knows in
    let rested = subst (λ (f : FlushView). RestsOn (g.D.Disk.state c.args.disk.now) f.journal was saved) (sym c.self.view_is) rests in
    let may = subst (λ (f : FlushView). MayBeGiven f.kept c.args.given.now) (sym c.self.view_is) c.requires in
    let streams : List StreamView = plain_streams c.in_ok-prepared.prepared.streams.items in
    let pages : Writes = writes_of c.as_slice-2.result.now in
    let header : Writes = writes_of c.in_ok-prepared.prepared.header.items in
    let prepared = subst (λ (l : List PageWrite). IsPrepared c.self.inside.spared (kept_streams (plain_kept c.self.inside.kept)) c.args.given.now c.args.position streams c.in_ok-prepared.prepared.spared (writes_of l) header) (sym c.as_slice-2.ensures) c.in_ok-prepared.ensures.spelled in
    let o = course (g.D.Disk.state c.begin.new.disk) c.begin.new.journal was saved flush c.args.given.now c.args.position streams c.in_ok-prepared.prepared.spared pages header known (c.in_ok-begin.ensures.done was saved rested) (omega arith) may prepared in
    subst (λ (f : FlushView). LeavesOnly (g.D.Disk.state c.args.disk.now) (g.D.Disk.state c.write_all.new.disk) (GivesAny (save_of was saved f c.args.given.now c.args.position))) c.self.view_is (save_leaves (g.D.Disk.state c.args.disk.now) (g.D.Disk.state c.begin.new.disk) (g.D.Disk.state c.write_all.new.disk) c.begin.new.journal was saved flush c.args.given.now c.args.position streams pages header (c.in_ok-begin.ensures.any_moment was saved rested) o c.in_err-write_all.ensures.any_moment)

pub returns-in_err-write_all-clause-fails : goal.returns-in_err-write_all-clause-fails
returns-in_err-write_all-clause-fails g c was saved rests knows =
    let flush : FlushView = record { journal = c.self.inside.journal; needs_blank = c.self.inside.needs_blank; spared = c.self.inside.spared; kept = plain_kept c.self.inside.kept } in
    let known = subst (λ (f : FlushView). Knows f saved) (sym c.self.view_is) knows in
    let rested = subst (λ (f : FlushView). RestsOn (g.D.Disk.state c.args.disk.now) f.journal was saved) (sym c.self.view_is) rests in
    let may = subst (λ (f : FlushView). MayBeGiven f.kept c.args.given.now) (sym c.self.view_is) c.requires in
    let streams : List StreamView = plain_streams c.in_ok-prepared.prepared.streams.items in
    let pages : Writes = writes_of c.as_slice-2.result.now in
    let header : Writes = writes_of c.in_ok-prepared.prepared.header.items in
    let prepared = subst (λ (l : List PageWrite). IsPrepared c.self.inside.spared (kept_streams (plain_kept c.self.inside.kept)) c.args.given.now c.args.position streams c.in_ok-prepared.prepared.spared (writes_of l) header) (sym c.as_slice-2.ensures) c.in_ok-prepared.ensures.spelled in
    let o = course (g.D.Disk.state c.begin.new.disk) c.begin.new.journal was saved flush c.args.given.now c.args.position streams c.in_ok-prepared.prepared.spared pages header known (c.in_ok-begin.ensures.done was saved rested) (omega arith) may prepared in
    let spared = subst (λ (l : List KeptStream). HasAlso (kept_pages (plain_streams l)) c.self.inside.spared c.spare_streams.new.self) c.as_slice.ensures c.in_ok-spare_streams.ensures.ok in
    on_err c.from_residual-in_err-write_all.result _ (subst (λ (f : FlushView). IsStopped (g.D.Disk.state c.write_all.new.disk) (let f : FlushView = record { journal = c.write_all.new.journal; needs_blank = c.begin.new.needs_blank; spared = c.spare_streams.new.self; kept = None } in f) (save_of was saved f c.args.given.now c.args.position)) c.self.view_is (save_fails (g.D.Disk.state c.begin.new.disk) (g.D.Disk.state c.write_all.new.disk) c.begin.new.journal c.write_all.new.journal was saved flush c.args.given.now c.args.position streams pages header o c.in_err-write_all.ensures.fails (let f : FlushView = record { journal = c.write_all.new.journal; needs_blank = c.begin.new.needs_blank; spared = c.spare_streams.new.self; kept = None } in f) refl c.in_ok-begin.ensures.made spared refl))

pub returns-in_err-write_all-clause-others : goal.returns-in_err-write_all-clause-others
returns-in_err-write_all-clause-others g c = then_others is_paged _ _ _ (g.met.D.Disk.is_disk c.begin.new.disk) c.in_ok-begin.ensures.others c.in_err-write_all.ensures.others

pub returns-clause-any_moment : goal.returns-clause-any_moment
returns-clause-any_moment g c was saved rests knows =
    let flush : FlushView = record { journal = c.self.inside.journal; needs_blank = c.self.inside.needs_blank; spared = c.self.inside.spared; kept = plain_kept c.self.inside.kept } in
    let known = subst (λ (f : FlushView). Knows f saved) (sym c.self.view_is) knows in
    let rested = subst (λ (f : FlushView). RestsOn (g.D.Disk.state c.args.disk.now) f.journal was saved) (sym c.self.view_is) rests in
    let may = subst (λ (f : FlushView). MayBeGiven f.kept c.args.given.now) (sym c.self.view_is) c.requires in
    let streams : List StreamView = plain_streams c.in_ok-prepared.prepared.streams.items in
    let pages : Writes = writes_of c.as_slice-2.result.now in
    let header : Writes = writes_of c.in_ok-prepared.prepared.header.items in
    let prepared = subst (λ (l : List PageWrite). IsPrepared c.self.inside.spared (kept_streams (plain_kept c.self.inside.kept)) c.args.given.now c.args.position streams c.in_ok-prepared.prepared.spared (writes_of l) header) (sym c.as_slice-2.ensures) c.in_ok-prepared.ensures.spelled in
    let o = course (g.D.Disk.state c.begin.new.disk) c.begin.new.journal was saved flush c.args.given.now c.args.position streams c.in_ok-prepared.prepared.spared pages header known (c.in_ok-begin.ensures.done was saved rested) (omega arith) may prepared in
    subst (λ (f : FlushView). LeavesOnly (g.D.Disk.state c.args.disk.now) (g.D.Disk.state c.write_all.new.disk) (GivesAny (save_of was saved f c.args.given.now c.args.position))) c.self.view_is (save_leaves (g.D.Disk.state c.args.disk.now) (g.D.Disk.state c.begin.new.disk) (g.D.Disk.state c.write_all.new.disk) c.begin.new.journal was saved flush c.args.given.now c.args.position streams pages header (c.in_ok-begin.ensures.any_moment was saved rested) o c.in_ok-write_all.ensures.any_moment)

pub returns-clause-done : goal.returns-clause-done
returns-clause-done g c was saved rests knows =
    let flush : FlushView = record { journal = c.self.inside.journal; needs_blank = c.self.inside.needs_blank; spared = c.self.inside.spared; kept = plain_kept c.self.inside.kept } in
    let known = subst (λ (f : FlushView). Knows f saved) (sym c.self.view_is) knows in
    let rested = subst (λ (f : FlushView). RestsOn (g.D.Disk.state c.args.disk.now) f.journal was saved) (sym c.self.view_is) rests in
    let may = subst (λ (f : FlushView). MayBeGiven f.kept c.args.given.now) (sym c.self.view_is) c.requires in
    let streams : List StreamView = plain_streams c.in_ok-prepared.prepared.streams.items in
    let pages : Writes = writes_of c.as_slice-2.result.now in
    let header : Writes = writes_of c.in_ok-prepared.prepared.header.items in
    let prepared = subst (λ (l : List PageWrite). IsPrepared c.self.inside.spared (kept_streams (plain_kept c.self.inside.kept)) c.args.given.now c.args.position streams c.in_ok-prepared.prepared.spared (writes_of l) header) (sym c.as_slice-2.ensures) c.in_ok-prepared.ensures.spelled in
    let o = course (g.D.Disk.state c.begin.new.disk) c.begin.new.journal was saved flush c.args.given.now c.args.position streams c.in_ok-prepared.prepared.spared pages header known (c.in_ok-begin.ensures.done was saved rested) (omega arith) may prepared in
    subst (λ (f : FlushView). IsSaved (g.D.Disk.state c.write_all.new.disk) (let f : FlushView = record { journal = c.write_all.new.journal; needs_blank = c.begin.new.needs_blank; spared = c.in_ok-prepared.prepared.spared; kept = Some (plain_streams c.in_ok-prepared.prepared.streams.items) } in f) (save_of was saved f c.args.given.now c.args.position)) c.self.view_is
    (save_done (g.D.Disk.state c.begin.new.disk) (g.D.Disk.state c.write_all.new.disk) c.begin.new.journal c.write_all.new.journal was saved flush c.args.given.now c.args.position streams c.in_ok-prepared.prepared.spared pages header o c.in_ok-prepared.ensures.spelled.reached_are c.in_ok-write_all.ensures.done (let f : FlushView = record { journal = c.write_all.new.journal; needs_blank = c.begin.new.needs_blank; spared = c.in_ok-prepared.prepared.spared; kept = Some (plain_streams c.in_ok-prepared.prepared.streams.items) } in f) refl c.in_ok-begin.ensures.made refl refl)

pub returns-clause-others : goal.returns-clause-others
returns-clause-others g c = then_others is_paged _ _ _ (g.met.D.Disk.is_disk c.begin.new.disk) c.in_ok-begin.ensures.others c.in_ok-write_all.ensures.others
