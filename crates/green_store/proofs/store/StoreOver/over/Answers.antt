-- What the entries and the loaded trees came to is what the store begins with.
use Rattle.std.proofs.Common.{◌≡◌, ◌∙◌, List, [], sym, ap, subst}
use Rattle.std.specs.List.{AllByRecursion}
use Rattle.febe_data.specs.Plain.{PlainEntry, plain_history}
use Rattle.entry_codec.specs.Bodies.{HasBody}
use Rattle.entry_codec.specs.Logged.{plain_log}
use Rattle.entry_codec.specs.declared.format.LogFormat.{LogFormat}
use Rattle.entry_fits.specs.Fits.{AllFit}
use Rattle.edit_log.specs.Images.{AreEntries}
use Rattle.green_store.specs.Opening.{IsUnfitFrom, IsFlushedAt, gate_place, opened_with, untimed_all}
use Rattle.green_store.proofs.GoneOn.{gone_on_whole, rebuilt_whole, rebuilt_unfit, flushed_at, may_go_on, same_or_renewed}
use Rattle.green_store.proofs.Rows.{all_new, as_many, front_have, front_is, place_is, timed_again}
use Rattle.green_store.proofs.store.StoreOver.over.Goals as goal

pub gate_behind-at-requires-clause-spelled : goal.gate_behind-at-requires-clause-spelled
gate_behind-at-requires-clause-spelled g c =
    let rows = plain_log c.args.rows.items in
    let front = c.split_at.result.0.now in
    let is = front_is c.as_slice-in-Unfit.result.now c.in_ok-entries.entries.items front rows c.in-Unfit.at c.as_slice-in-Unfit.ensures c.split_at.ensures.front c.in_ok-entries.ensures.entries in
    subst (λ (f : LogFormat). AllByRecursion (HasBody f) (untimed_all (plain_history front))) (sym c.read_format.ensures) (front_have c.args.log.read rows c.in-Unfit.at (plain_history front) is c.requires.spelled)

pub returns-in-Unfit-clause-damaged : goal.returns-in-Unfit-clause-damaged
returns-in-Unfit-clause-damaged g c =
    let rows = plain_log c.args.rows.items in
    let items = c.in_ok-entries.entries.items in
    let front = c.split_at.result.0.now in
    let is = front_is c.as_slice-in-Unfit.result.now items front rows c.in-Unfit.at c.as_slice-in-Unfit.ensures c.split_at.ensures.front c.in_ok-entries.ensures.entries in
    let counted = subst (λ (f : LogFormat). c.gate_behind-at.result ≡ gate_place f (untimed_all (plain_history front))) c.read_format.ensures c.gate_behind-at.ensures in
    let unfit = rebuilt_unfit c.as_slice.result.now items (g.W.LookUp.stands c.rebuild.new.world) c.in_ok-at.field-0 c.in-Unfit.at c.as_slice.ensures c.in-Unfit.is c.in_ok-at.ensures.rebuilt in
    (c.in-Unfit.at, subst (IsUnfitFrom c.in-Unfit.at) c.in_ok-entries.ensures.entries unfit, place_is c.moments_are_as_long.ensures c.args.log.read rows c.in-Unfit.at (plain_history front) c.gate_behind-at.result is counted)

pub begun-requires : goal.begun-requires
begun-requires g c =
    let rows = plain_log c.args.rows.items in
    let items = c.in_ok-entries.entries.items in
    let moments = c.in_ok-entries.moments.items in
    let are = c.in_ok-entries.ensures in
    let built = rebuilt_whole c.as_slice.result.now items (g.W.LookUp.stands c.rebuild.new.world) c.in_ok-at.field-0 c.in-Whole.flushed c.in-Whole.goes_on c.as_slice.ensures c.in-Whole.is c.in_ok-at.ensures.rebuilt in
    record {
      stands = built.1;
      entries = subst AreEntries (sym (timed_again rows (plain_history items) moments are.entries are.moments)) record {
        spelled = all_new c.old_has_new.ensures c.args.log.read rows c.requires.spelled;
        few = c.requires.few;
        fit = subst (AllFit []) are.entries built.0;
      };
      timed = as_many rows (plain_history items) moments are.entries are.moments;
      within = built.2;
    }

pub returns-in_ok-store-in-Whole : goal.returns-in_ok-store-in-Whole
returns-in_ok-store-in-Whole g c =
    let items = c.in_ok-entries.entries.items in
    let entries = plain_history items in
    let are = c.in_ok-entries.ensures in
    let store = c.in_ok-store-in-Whole.store in
    let is = c.in_ok-store-in-Whole.ensures in
    let trees = g.W.Rebalance.condition c.rebuild.new.world in
    let nodes = g.W.Rebalance.world_nodes c.rebuild.new.world in
    let built = rebuilt_whole c.as_slice.result.now items (g.W.LookUp.stands c.rebuild.new.world) c.in_ok-at.field-0 c.in-Whole.flushed c.in-Whole.goes_on c.as_slice.ensures c.in-Whole.is c.in_ok-at.ensures.rebuilt in
    record {
      history = is.history ∙ ap opened_with are.entries;
      moments = is.moments ∙ are.moments;
      fit = subst (AllFit []) are.entries built.0;
      limits = is.limits;
      log = is.log;
      base = is.base;
      flush = same_or_renewed c.in-Whole.goes_on c.args.pages.flush c.for_saves-flush.result store.flush c.for_saves-flush.ensures.same c.for_saves-flush.ensures.anew is.flush;
      goes_on = λ now here.
          may_go_on now entries trees nodes c.in-Whole.flushed c.in-Whole.goes_on c.args.pages.flush c.for_saves-flush.result store
          (gone_on_whole now c.as_slice.result.now items trees nodes c.in_ok-at.field-0 c.in-Whole.flushed c.in-Whole.goes_on c.as_slice.ensures c.in-Whole.is (c.in_ok-at.ensures.gone_on now here))
          c.for_saves-flush.ensures.anew is.flush is.nodes;
      flushed = λ now here.
          subst (λ (es : List PlainEntry). IsFlushedAt now es store) are.entries
          (flushed_at now entries trees nodes c.in-Whole.flushed c.in-Whole.goes_on store
          (gone_on_whole now c.as_slice.result.now items trees nodes c.in_ok-at.field-0 c.in-Whole.flushed c.in-Whole.goes_on c.as_slice.ensures c.in-Whole.is (c.in_ok-at.ensures.gone_on now here))
          is.flushed is.trees);
      damaged = tt;
      no_disk = tt;
    }
