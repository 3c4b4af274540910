use Rattle.std.proofs.Common.{◌∙◌, [], List, ap, refl, subst}
use Rattle.febe_data.specs.Plain.{plain_spec}
use Rattle.tumbler.specs.declared.span.Span.{Span}
use Rattle.enfilade_core.specs.Rows.{rows_of}
use Rattle.poom.specs.Laid.{IsRoot, texts}
use Rattle.doc_table.specs.DocumentRows.{root_in}
use Rattle.tree_world.specs.Trees.{Trees}
use Rattle.tree_world.specs.inside.InEnds.{spans_in_end}
use Rattle.tree_world.specs.inside.Reads.{links_for}
use Rattle.tree_world.proofs.Looked.{root_stands}
use Rattle.tree_world.proofs.InEnds.{set_is, text_of_root, text_of_none}
use Rattle.tree_world.proofs.world.TreeWorld.end_set_of.Goals as goal

pub returns-in_default : goal.returns-in_default
returns-in_default c = record {
  value = λ view session stands drawn.
      let shown = c.args.self.now in
      let spec = plain_spec c.args.spec.now in
      c.spec_of.ensures.value ∙ set_is shown view stands session c.args.account.now drawn c.args.end spec [] c.new.result.items (text_of_none _ shown spec.document c.self.view_is c.in_default.ensures) c.new.ensures.items;
  valid = c.spec_of.ensures.valid;
}

pub spans_in_end-requires : goal.spans_in_end-requires
spans_in_end-requires c = record {
  root = subst (λ (t : Trees). IsRoot t.nodes c.in-Some.root.0) c.self.view_is (root_stands c.self.inside.pooms c.self.inside.documents c.args.spec.now.document c.in-Some.root c.self.invariant.0 c.in-Some.ensures);
  fits = c.all_fit.ensures c.if-not-all_fit.false;
}

pub returns : goal.returns
returns c = record {
  value = λ view session stands drawn.
      let shown = c.args.self.now in
      let spec = plain_spec c.args.spec.now in
      let text = texts (rows_of shown.nodes c.in-Some.root.0) in
      c.spec_of-2.ensures.value
      ∙ set_is shown view stands session c.args.account.now drawn c.args.end spec text c.in_ok-found.found.items (text_of_root shown shown spec.document c.in-Some.root refl (c.in-Some.ensures ∙ ap (λ (t : Trees). root_in t.documents spec.document) c.self.view_is))
      (c.in_ok-found.ensures ∙ ap (λ (spans : List Span). spans_in_end c.args.end (links_for shown c.args.account.now) spans text) c.as_slice-spans.ensures);
  valid = c.spec_of-2.ensures.valid;
}
