use Rattle.std.proofs.Common.{◌≡◌, ◌∙◌, ℕ, ◌<◌, List, length, ap, subst}
use Rattle.doc_table.specs.DocumentRows.{version_address_in, documents_in}
use Rattle.tree_world.specs.Trees.{Trees}
use Rattle.tree_world.proofs.Looked.{version_below}
use Rattle.tree_world.proofs.lookups.TreeWorldLookUp.next_version.Goals as goal

pub returns-clause-value : goal.returns-clause-value
returns-clause-value c view stands =
    c.version_address.ensures ∙ ap (λ (t : Trees). version_address_in (documents_in t.documents) c.args.document.now c.account_of-account.result) c.self.view_is
    ∙ version_below (documents_in c.args.self.now.documents) view.world.documents c.args.document.now c.account_of-account.result c.account_of-account.ensures (has_room c.places.result.now c.args.document.now c.places.ensures.value c.if-places-ge-MOST_DOCUMENT_PLACES.false) stands.documents
  where
    has_room : (places document : List ℕ) → places ≡ document → length places < 20 → length document < 20
    has_room places document same short = subst (λ (xs : List ℕ). length xs < 20) same short
