use Rattle.std.proofs.Common.{inl, inr, refl, subst, List, Option, None, Some}
use Rattle.febe_data.specs.Plain.{plain_history}
use Rattle.entry_codec.specs.Logged.{PlainLogged, timed}
use Rattle.green_io.specs.Areas.{Areas}
use Rattle.green_io.specs.Disk.{DiskState, images_now}
use Rattle.world_rules.specs.History.{durable_entries}
use Rattle.edit_log.specs.Images.{IsOpen, IsPending, IsMendable, HoldsEither}
use Rattle.edit_log.specs.LogView.{LogView}
use Rattle.edit_log.specs.Second.{HoldsWhole}
use Rattle.green_store.specs.Durable.{kept_rows, Keeps, LogHas, HoldsWith, IsThat}
use Rattle.green_store.specs.StoreView.{StoreView}
use Rattle.green_store.proofs.laws.images_are_kept.Goals as goal

either : (rows : List PlainLogged) (row : PlainLogged) (image : Areas) → HoldsEither rows row image → HoldsWith rows (IsThat (Some row)) image
either rows row image (inl without) = inl without
either rows row image (inr with) = inr (row, refl, with)

holds : (disk : DiskState) (log : LogView) (rows : List PlainLogged) (image : Areas) → (IsOpen disk log rows → HoldsWhole rows image)
    → ((row : PlainLogged) → IsMendable rows row → IsPending disk log rows row → HoldsEither rows row image)
    → (pending : Option PlainLogged) → LogHas disk log rows pending → HoldsWith rows (IsThat pending) image
holds disk log rows image opened pends None has = inl (opened has)
holds disk log rows image opened pends (Some row) has = either rows row image (pends row has.0 has.1)

pub returns : goal.returns
returns g c =
    let disk = g.D.Disk.state c.args.disk.now in
    let rows = timed (durable_entries (plain_history c.store.inside.history.items)) c.store.inside.moments.items in
    subst (λ (v : StoreView). (pending : Option PlainLogged) → Keeps disk v pending → (image : Areas) → images_now disk image → HoldsWith (kept_rows v) (IsThat pending) image)
    c.store.view_is
    (λ pending has image is.
    holds disk c.store.inside.log rows image (λ opened. c.open_is_whole.ensures rows c.store.invariant.entries opened image is)
    (λ row may pends. c.pending_is_whole.ensures rows row may pends image is) pending has)
