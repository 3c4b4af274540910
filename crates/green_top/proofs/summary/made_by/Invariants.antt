use Rattle.std.proofs.Common.{◌≡◌, ◌≤◌, length, take}
use Rattle.febe_data.specs.Plain.{plain_history}
use Rattle.world_rules.specs.Apply.{world_of}
use Rattle.green_top.proofs.summary.made_by.Given as goal

abbrev pub invariant-loop-entry : goal.invariant-loop-entry
invariant-loop-entry l = record {
  documents : l.made.documents ≡ length (world_of (plain_history (take l.entry-index l.history))).documents;
  links : l.made.links ≡ length (world_of (plain_history (take l.entry-index l.history))).links;
  few_documents : l.made.documents ≤ l.entry-index;
  few_links : l.made.links ≤ l.entry-index;
}
