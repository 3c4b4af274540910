use Rattle.std.proofs.Common.{ℕ, List, map, ap, ◌∙◌, subst}
use Rattle.tumbler.specs.ListView.{ListView}
use Rattle.enfilade_core.specs.Rows.{Shape}
use Rattle.content_checks.specs.Sound as contents
use Rattle.page_tables.specs.declared.tables.TableLink.{TableLink}
use Rattle.green_flush.specs.Sound.{link_row}
use Rattle.links.specs.LinkLists.{plain_link as kept_link}
use Rattle.page_tables.specs.Plain.{plain_tables, plain_link}
use Rattle.green_flush.proofs.Links.{are-links}
use Rattle.green_flush.proofs.SoundTrees.{sound-iff}
use Rattle.green_flush.proofs.Tests.{passed}
use Rattle.green_flush.proofs.soundness.are_sound.Goals as goal

pub are_sound-requires-2-clause-links : goal.are_sound-requires-2-clause-links
are_sound-requires-2-clause-links c = are-links (plain_tables c.args.owned.now.tables) (passed c.are_sound.result c.are_sound.ensures c.if-not-are_sound.false)

pub returns : goal.returns
returns c =
    sound-iff c.args.owned.now c.in_ok-hold.hold (map kept_link c.as_slice-2.result.now) c.requires
    (passed c.are_sound.result c.are_sound.ensures c.if-not-are_sound.false)
    (subst (λ (x : List (Shape (ListView ℕ))). contents.AreSound x c.args.owned.now.poom (plain_tables c.args.owned.now.tables)) c.parts.ensures.arena
    (subst (λ (x : List (Shape ℕ)). contents.AreSound c.parts.result.0.now x (plain_tables c.args.owned.now.tables)) c.arena.ensures
    (passed c.in_ok-are_sound.field-0 c.in_ok-are_sound.ensures c.if-not-branch.false)))
    (passed c.in_ok-cover.field-0 c.in_ok-cover.ensures c.if-not-branch-2.false)
    (ap (map kept_link) c.as_slice-2.ensures ∙ c.in_ok-links.ensures ∙ ap (λ (x : List TableLink). map link_row (map plain_link x)) c.as_slice.ensures)
    c.in_ok-hold.ensures
