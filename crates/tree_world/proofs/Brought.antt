-- The addresses that specs pick are those that trees give.
use Rattle.std.proofs.Common.{◌≡◌, List}
use Rattle.std.specs.List.{flat_map}
use Rattle.tumbler.specs.declared.span.Span.{Span}
use Rattle.febe_data.specs.Plain.{PlainSpec}
use Rattle.world_rules.specs.Picking.{picked_addresses}
use Rattle.world_rules.specs.FlatView.{FlatView}
use Rattle.tree_world.specs.Trees.{Trees, text_in}
use Rattle.tree_world.specs.Standing.{Stands}
use Rattle.tree_world.specs.inside.Seen.{addresses_by_specs}
use Rattle.tree_world.proofs.Seen.{text_seen}

pub addresses_are : (trees : Trees) (view : FlatView) → Stands trees view → (specs : List PlainSpec) → picked_addresses view.world specs ≡ addresses_by_specs trees specs
addresses_are trees view stands specs = λ i. flat_map (λ (spec : PlainSpec). flat_map (λ (span : Span). text_seen view.world spec.document (text_in trees spec.document) span (stands.texts spec.document) i) spec.spans) specs
