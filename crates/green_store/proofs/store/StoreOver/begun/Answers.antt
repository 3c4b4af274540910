-- The history is that of a store that has just begun.
use Rattle.std.proofs.Common.{◌∙◌, List, [], ap, subst}
use Rattle.febe_data.specs.declared.entry.Entry.{Entry}
use Rattle.febe_data.specs.Plain.{plain_history}
use Rattle.entry_fits.specs.Fits.{AllFit}
use Rattle.green_store.specs.Sessions.{greatest_session}
use Rattle.green_store.proofs.GoneOn.{first_is_store}
use Rattle.green_store.proofs.Moments.{entries_of_timed}
use Rattle.green_store.proofs.store.StoreOver.begun.Goals as goal

pub invariant_of-result : goal.invariant_of-result
invariant_of-result g c =
    first_is_store c.fitting_are_kept.ensures c.fitting_begin.ensures c.args.entries.items c.push.new.self.items c.args.moments.items _ c.push.new.self.spare (g.W.LookUp.stands c.apply_beside.new.self) _ _ c.args.flushed
    c.in_ok-push.ensures.ok c.restart-restart.ensures
    (c.in_ok-apply_beside.ensures.ok _ c.requires.stands)
    (subst (AllFit []) (entries_of_timed (plain_history c.args.entries.items) c.args.moments.items c.requires.timed) c.requires.entries.fit) (c.requires.timed, c.requires.entries) c.new.ensures.items
    (c.greatest_session-greatest.ensures ∙ ap (λ (es : List Entry). greatest_session (plain_history es)) c.as_slice.ensures) c.requires.within
