-- A document is there in whatever order.
use Rattle.std.proofs.Common.{◌∙◌}
use Rattle.std.proofs.lemmas.List.Sorted.{list_any-IsPermutation}
use Rattle.world_rules.specs.World.{is_same}
use Rattle.world_rows.proofs.turned.TurnedWorldLookUp.has_document.Goals as goal

pub returns : goal.returns
returns g c view of =
    c.has_document.ensures of.base of.stood
    ∙ list_any-IsPermutation (λ d. is_same d c.args.document.now) of.base.world.documents view.world.documents of.turned.documents
