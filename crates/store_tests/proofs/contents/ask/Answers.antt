use Rattle.std.proofs.Common.{◌≡◌, ◌<◌, ◌∙◌, ℕ, List, length, ap, map, subst, sym}
use Rattle.std.specs.Prelude.{IfOk}
use Rattle.std.specs.List.{All}
use Rattle.tumbler.specs.ListView.{ListView}
use Rattle.enfilade_core.specs.Rows.{Shape, rows_of}
use Rattle.enfilade_core.specs.Axes.{IsWellFormedRow}
use Rattle.enfilade_core.specs.Plain.{plain_row}
use Rattle.enfilade_core.specs.Planes.{content_widths, plain_text}
use Rattle.enfilade_core.proofs.Parts.{rows-well_formed}
use Rattle.store_tests.proofs.contents.ask.Goals as goal

pub ask_rows-requires : goal.ask_rows-requires
ask_rows-requires g c =
    let nodes = c.parts.result.0.now in
    let root = c.parts.result.1.0 in
    let are : map (plain_row plain_text) c.expect-rows.result.items ≡ rows_of nodes root =
    subst (λ r. IfOk r (λ made. map (plain_row plain_text) made.items ≡ rows_of nodes root)) c.expect-rows.ensures c.rows.ensures in
    subst (All (IsWellFormedRow content_widths)) (sym (ap (map (plain_row plain_text)) c.as_slice.ensures ∙ are))
    (rows-well_formed content_widths nodes root c.allocator-right.ensures.well_formed (subst (λ (ns : List (Shape (ListView ℕ))). root < length ns) (sym c.parts.ensures.arena) c.parts.ensures.below))
