use Rattle.std.proofs.Common.{◌∙◌, [], map, refl, subst, sym, inl, inr, string_bytes, arith}
use Rattle.green_io.proofs.Crash.{none_called}
use Rattle.green_top.specs.IoState.{io_state}
use Rattle.green_top.specs.Words.{HasLimits}
use Rattle.green_top.proofs.Timings.{given_none}
use Rattle.green_top.proofs.Batches.{counts_all, are_moments, has_limits, no_form, generates, batch_of, why_not, not_opened_begins, not_opened_moment, opened_begins, opened_moment, opened_kept}
use Rattle.green_top.proofs.Readings.{opened_placed, opened_timed}
use Rattle.green_top.proofs.batch.run_batch.Goals as goal

pub returns-in_default-clause-call : goal.returns-in_default-clause-call
returns-in_default-clause-call g c = record {
  steps = [];
  exchanges = [];
  exchanges_are = refl;
  given = given_none _;
  batch = inl (record {
    why = inl (record { wrong = c.in_default.ensures.none; status_is = refl; place_is = c.new.ensures.place; disk_stays = refl });
    stays = refl;
    history_is = c.new.ensures.history;
    moments_are = c.new.ensures.moments;
    no_steps = refl;
    opened_is = c.new.ensures.opened;
    none_answered = refl;
    no_points = c.new.ensures.points;
    counted = c.new.ensures.bytes_read;
  });
  any_moment = λ rows whole. none_called _ _;
  kept = λ told some. absurd (omega (arith, some, c.new.ensures.opened));
}

pub returns-in-Err-clause-call : goal.returns-in-Err-clause-call
returns-in-Err-clause-call g c = record {
  steps = [];
  exchanges = [];
  exchanges_are = refl;
  given = given_none _;
  batch = inl (record {
    why = inr (record {
      limits = c.limits.result;
      words_are = subst (HasLimits (map string_bytes c.args.words.now)) (sym c.limits.ensures) (has_limits _ c.in-Some.form c.in-Some.ensures.some);
      fault = c.in-Err.fault;
      cause = why_not c.in-Err.fault _ _ _ _ c.in-Err.ensures.damaged c.in-Err.ensures.untouched c.in-Err.ensures.left c.in-Err.ensures.failed;
      status_is = c.status_of.ensures;
      place_is = c.place_of-report.ensures;
    });
    stays = refl;
    history_is = c.new.ensures.history;
    moments_are = c.new.ensures.moments;
    no_steps = refl;
    opened_is = c.new.ensures.opened;
    none_answered = refl;
    no_points = c.new.ensures.points;
    counted = c.new.ensures.bytes_read;
  });
  any_moment = λ rows whole. not_opened_moment _ _ rows _ _ _ _ _ (c.in-Err.ensures.any_moment rows whole);
  kept = λ told some. absurd (omega (arith, some, c.new.ensures.opened));
}

pub returns-in-Err-clause-whole : goal.returns-in-Err-clause-whole
returns-in-Err-clause-whole g c = λ rows whole. not_opened_begins c.in-Err.fault rows _ _ (c.in-Err.ensures.whole rows whole) c.status_of.ensures c.new.ensures.history

pub returns-in-Err-clause-untouched : goal.returns-in-Err-clause-untouched
returns-in-Err-clause-untouched g c = λ none. absurd (no_form _ c.in-Some.form c.in-Some.ensures.some none)

pub serve_form-end-requires-clause-placed : goal.serve_form-end-requires-clause-placed
serve_form-end-requires-clause-placed g c = opened_placed _ _ _ c.in-Ok.ensures.history

pub serve_form-end-requires-clause-limits : goal.serve_form-end-requires-clause-limits
serve_form-end-requires-clause-limits g c = c.in-Ok.ensures.limits ∙ c.limits.ensures

pub returns-clause-call : goal.returns-clause-call
returns-clause-call g c =
    let before = io_state (g.S.Source.left c.args.source.now) (g.S.Source.fault_count c.args.source.now) (g.K.Sink.taken c.args.sink.now) (g.K.Sink.fault_count c.args.sink.now) (g.D.Disk.fault_count c.args.disk.now) in
    let limits = subst (HasLimits (map string_bytes c.args.words.now)) (sym (c.in-Ok.ensures.limits ∙ c.limits.ensures)) (has_limits _ c.in-Some.form c.in-Some.ensures.some) in
    let count = c.len-opened.ensures ∙ counts_all _ _ c.history.ensures in
    let run = c.serve_form-end.ensures.run in
    let through = run.5 in
    let log = c.into_log-history.ensures in
    let each = opened_timed _ c.in-Ok.store c.in-Ok.ensures.history in
    record {
      steps = through.steps;
      exchanges = run.0;
      exchanges_are = through.exchanges_are;
      given = through.given;
      batch = batch_of _ c.in-Some.form _ _ before _ (g.D.Disk.fault_count c.open.new.disk) _ _ _ _ _ _ through.steps run.3 run.0 c.serve_form-end.result.end c.in-Some.ensures.some c.in-Ok.ensures.history c.status.ensures c.place-report.ensures count c.in-Ok.ensures.never_falls log.history
          run.1 run.2 run.4 through.steps_are (are_moments _ _ _ through.steps _ through.endures.moments_come log.history log.moments log.each);
      any_moment = λ rows whole.
          opened_moment _ c.in-Ok.store.limits limits _ _ _ _ _ through.steps _ _ _ c.in-Ok.ensures.never_falls each c.in-Ok.ensures.keeps through.endures _ log.history _ log.moments rows whole (c.in-Ok.ensures.whole rows whole).0 (c.in-Ok.ensures.any_moment rows whole);
      kept = λ told some.
          opened_kept _ c.in-Ok.store.limits limits (g.D.Disk.state c.args.disk.now) _ _ _ _ through.steps _ _ _ c.in-Ok.ensures.never_falls each c.in-Ok.ensures.keeps through.endures _ log.history _ log.moments _ count told c.images_are_kept.ensures;
    }

pub returns-clause-source : goal.returns-clause-source
returns-clause-source g c = λ start generate. c.serve_form-end.ensures.source (generates _ c.in-Some.form c.in-Some.ensures.some start generate)

pub returns-clause-untouched : goal.returns-clause-untouched
returns-clause-untouched g c = λ none. absurd (no_form _ c.in-Some.form c.in-Some.ensures.some none)

pub returns-clause-whole : goal.returns-clause-whole
returns-clause-whole g c =
    let endures = c.serve_form-end.ensures.run.5.endures in
    λ rows whole. opened_begins c.serve_form-end.result.end rows _ _ _ _ _ _ (c.in-Ok.ensures.whole rows whole) endures.grows _ endures.moments_come c.status.ensures c.into_log-history.ensures.history c.into_log-history.ensures.moments
