use Rattle.std.proofs.Common.{sym, arith}
use Rattle.std.proofs.lemmas.Bool.{true≢false}
use Rattle.febe_data.specs.Plain.{plain_entry}
use Rattle.world_rules.specs.FlatView.{view_of}
use Rattle.entry_fits.proofs.Decided.{entry_decided, serial_decided}
use Rattle.entry_fits.proofs.entry.fits.Goals as goal

pub returns-then-entry-greatest : goal.returns-then-entry-greatest
returns-then-entry-greatest g c past stands is = (
  (λ yes. absurd (true≢false (sym yes))),
  (λ all. absurd (serial_decided past (plain_entry c.args.entry.now) c.args.greatest is c.if-entry-greatest.true all)),
)

pub returns : goal.returns
returns g c past stands is =
    entry_decided past (plain_entry c.args.entry.now) c.args.greatest c.in_ok-fits.fits is (omega (arith, c.if-entry-eq0.false)) c.if-entry-greatest.false (c.in_ok-fits.ensures (view_of past) stands)
