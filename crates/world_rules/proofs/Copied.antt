-- What a copy makes of the rows of each document.
use Rattle.std.proofs.Common.{◌≡◌, ℕ, ◌+◌, ◌-◌, ◌≤◌, ◌∙◌, List, [], ◌∷◌, ◌++◌, length, map, take, drop, ap, refl}
use Rattle.std.specs.List.{filter_map}
use Rattle.std.proofs.lemmas.List.Elements.{filter_map-append}
use Rattle.febe_data.specs.Plain.{specs_copied}
use Rattle.world_rules.specs.declared.rows.Row.{Row}
use Rattle.world_rules.specs.World.{World, is_same, byte_at}
use Rattle.world_rules.specs.Picking.{addresses_of, picked_addresses}
use Rattle.world_rules.specs.Edits.{up_by, new_rows}
use Rattle.world_rules.specs.Apply.{change_world}
use Rattle.world_rules.specs.Answers.{text_of}
use Rattle.world_rules.specs.Laws.{text_rows, text_at, CopiesSpecs}
use Rattle.world_rules.proofs.Shown.{by_addresses, moved_addresses, reads_same}
use Rattle.world_rules.proofs.RowsWith.{text_with}
use Rattle.world_rules.proofs.Inserted.{text_in_row, with_numbered}

-- new rows show what they were made of
new_addresses : (document : List ℕ) (n : ℕ) (addresses : List (List ℕ)) → addresses_of (new_rows document n addresses) ≡ addresses
new_addresses document n [] = refl
new_addresses document n (address ∷ addresses) = ap (λ (rest : List (List ℕ)). address ∷ rest) (new_addresses document (n + 1) addresses)

reads_in_parts : (world : World) (document : List ℕ) (at k : ℕ) (addresses : List (List ℕ)) (before after : List Row)
    → text_of world (before ++ (new_rows document at addresses ++ map (up_by k) after)) ≡ text_of world before ++ (text_at world addresses ++ text_of world after)
reads_in_parts world document at k addresses before after =
    let shown = λ (row : Row). byte_at world.bytes row.address in
    filter_map-append shown before (new_rows document at addresses ++ map (up_by k) after)
    ∙ ap (λ (text : List ℕ). text_of world before ++ text) (filter_map-append shown (new_rows document at addresses) (map (up_by k) after))
    ∙ (λ i. text_of world before
    ++ ((by_addresses world.bytes (new_rows document at addresses) ∙ ap (filter_map (byte_at world.bytes)) (new_addresses document at addresses)) i
    ++ reads_same world world (map (up_by k) after) after refl (moved_addresses (up_by k) (λ row. refl) after) i))

pub copies_specs : CopiesSpecs
copies_specs world session document at specs place =
    let after : World = change_world world session (specs_copied document at specs) in
    let addresses : List (List ℕ) = picked_addresses world specs in
    let old : List Row = text_rows world document in
    let from_one : 1 ≤ at = place.from_one in
    let text : text_rows after document ≡ take (at - 1) old ++ (new_rows document at addresses ++ map (up_by (length addresses)) (drop (at - 1) old)) =
    text_with world.rows document at addresses from_one (text_in_row world document place.numbered) in
    record {
      text = text;
      reads = ap (text_of world) text ∙ reads_in_parts world document at (length addresses) addresses (take (at - 1) old) (drop (at - 1) old);
      numbered = λ other numbered. with_numbered world after document other at addresses (is_same document other) refl place refl numbered;
      same_documents = refl;
      same_bytes = refl;
      same_links = refl;
      same_published = refl;
    }
