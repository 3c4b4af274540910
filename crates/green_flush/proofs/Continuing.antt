-- The stream of one arena, given whole or from a number on.
use Rattle.std.proofs.Common.{◌≡◌, ℕ, Bool, true, List, ◌++◌, drop, All, ◌∙◌, sym, ap, subst}
use Rattle.std.proofs.lemmas.List.{drop_at}
use Rattle.std.proofs.lemmas.List.Elements.{All-append}
use Rattle.std.proofs.lemmas.List.Concat.{flat_map-append}
use Rattle.enfilade_core.specs.declared.tree.Row.{Row}
use Rattle.enfilade_core.specs.Axes.{Widths}
use Rattle.enfilade_core.specs.Rows.{Shape}
use Rattle.enfilade_core.specs.WellFormed.{AreWellFormed}
use Rattle.node_pages.specs.NodeBytes.{node_bytes, IsNode, arena_bytes}
use Rattle.node_pages.specs.Streams.{Spells}
use Rattle.page_flush.specs.declared.stream_bytes.StreamBytes.TheVariants.{Anew, More}
use Rattle.page_journal.specs.Pages.{Bytes}
use Rattle.tumbler.specs.ListView.{ListView}
use Rattle.green_flush.specs.inside.Streaming.{Continues}

-- all of it
pub whole : {L : Type 0} (w : Widths L) (IsRow : Row L → Type 0) (row_bytes : Row L → Bytes) (nodes : List (Shape L)) (goes_on : Bool) (saved : ℕ) (bytes : ListView ℕ) →
    AreWellFormed w nodes → bytes.items ≡ arena_bytes row_bytes nodes → All (IsNode IsRow) nodes → Continues w IsRow row_bytes nodes goes_on saved (Anew bytes)
whole w IsRow row_bytes nodes goes_on saved bytes well spelled fields =
    let spells : Spells w IsRow row_bytes nodes bytes.items = record { spelled = spelled; fields = fields; well_formed = well } in
    record { whole = λ _. tt; anew = λ _ had. spells; more = λ had old was grows counted. spells }

-- what comes behind the nodes that are counted
pub behind : {L : Type 0} (w : Widths L) (IsRow : Row L → Type 0) (row_bytes : Row L → Bytes) (nodes : List (Shape L)) (goes_on : Bool) (saved : ℕ) (bytes : ListView ℕ) →
    goes_on ≡ true → AreWellFormed w nodes → bytes.items ≡ arena_bytes row_bytes (drop saved nodes) → All (IsNode IsRow) (drop saved nodes) → Continues w IsRow row_bytes nodes goes_on saved (More bytes)
behind {L} w IsRow row_bytes nodes goes_on saved bytes on well spelled fields = record {
  whole = λ off. absurd cc;
  anew = λ off. absurd cc;
  more = λ had old was grows counted.
      let rest : drop saved nodes ≡ grows.more =
      ap (drop saved) grows.is ∙ drop_at old grows.more saved (sym counted) in
      let bytes_are : bytes.items ≡ arena_bytes row_bytes grows.more = spelled ∙ ap (arena_bytes row_bytes) rest in
      record {
        spelled = ap (λ (x : Bytes). x ++ bytes.items) was.spelled ∙ ap (λ (x : Bytes). arena_bytes row_bytes old ++ x) bytes_are ∙ sym (flat_map-append (node_bytes row_bytes) old grows.more) ∙ ap (arena_bytes row_bytes) (sym grows.is);
        fields = subst (All (IsNode IsRow)) (sym grows.is) (All-append (IsNode IsRow) old grows.more was.fields (subst (All (IsNode IsRow)) rest fields));
        well_formed = well;
      };
}
