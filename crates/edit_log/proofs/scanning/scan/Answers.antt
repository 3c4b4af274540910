-- Behind the entry that was read the scan goes on.
use Rattle.std.proofs.Common.{◌≡◌, ◌+◌, List, [], ◌∷◌, ◌++◌, length, drop, sym, ◌∙◌, ap, subst, arith, length-drop}
use Rattle.std.proofs.lemmas.List.{map-append, length-map}
use Rattle.entry_codec.specs.Logged.{PlainLogged, plain_logged, plain_log}
use Rattle.edit_log.specs.Log.{gated, HasEntries}
use Rattle.edit_log.specs.inside.Scan.{StepsOver}
use Rattle.edit_log.specs.declared.scanning.AtGate.TheVariants.{Row}
use Rattle.edit_log.proofs.Scans.{has_more, at_more}
use Rattle.edit_log.proofs.scanning.scan.Goals as goal

pub loop-rows-preserved : goal.loop-rows-preserved
loop-rows-preserved c =
    let format = c.args.format in
    let bytes = c.args.bytes.now in
    let at = c.loop-rows.at in
    let n = c.in-Row.length in
    let before = plain_log c.loop-rows.rows.items in
    let row = plain_logged c.in-Row.row in
    let step : StepsOver format c.len.result (drop at bytes) (Row c.in-Row.row n) = subst (λ r. StepsOver format c.len.result r (Row c.in-Row.row n)) c.split_at.ensures.back (subst (StepsOver format c.len.result c.split_at.result.1.now) c.in-Row.is c.in_ok-read_gate.ensures) in
    let now : plain_log c.push.new.self.items ≡ before ++ row ∷ [] = ap plain_log c.in_ok-push-in-Row.ensures.ok ∙ map-append plain_logged c.loop-rows.rows.items (c.in-Row.row ∷ []) in
    record {
      within = omega (arith, step.3, length-drop at bytes, c.loop-rows.invariant.within);
      at_is = at_more format at n before row c.loop-rows.invariant.at_is step.5 ∙ ap (λ (l : List PlainLogged). length (gated format l)) (sym now);
      has = subst (λ (l : List PlainLogged). HasEntries format l (drop (at + n) bytes) bytes) (sym now)
          (has_more format bytes at n before row c.loop-rows.invariant.has step.0 (omega (arith, step.1, c.len.ensures, length-map c.loop-rows.rows.items plain_logged)) step.4);
    }
