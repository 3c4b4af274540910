-- What rows read, by their addresses.
use Rattle.std.proofs.Common.{◌≡◌, ◌∙◌, List, [], ◌∷◌, map, ap, sym, refl}
use Rattle.std.specs.List.{filter_map, cons_option}
use Rattle.world_rules.specs.declared.rows.Row.{Row}
use Rattle.world_rules.specs.declared.rows.ByteRow.{ByteRow}
use Rattle.world_rules.specs.World.{World, byte_at}
use Rattle.world_rules.specs.Picking.{addresses_of}
use Rattle.world_rules.specs.Answers.{text_of}

pub by_addresses : (bytes : List ByteRow) (rows : List Row) → filter_map (λ (row : Row). byte_at bytes row.address) rows ≡ filter_map (byte_at bytes) (addresses_of rows)
by_addresses bytes [] = refl
by_addresses bytes (x ∷ xs) = ap (cons_option (byte_at bytes x.address)) (by_addresses bytes xs)

-- rows that show the same read the same
pub reads_same : (before after : World) (xs ys : List Row) → after.bytes ≡ before.bytes → addresses_of xs ≡ addresses_of ys → text_of after xs ≡ text_of before ys
reads_same before after xs ys bytes addresses =
    ap (λ (all : List ByteRow). filter_map (λ (row : Row). byte_at all row.address) xs) bytes
    ∙ by_addresses before.bytes xs
    ∙ ap (filter_map (byte_at before.bytes)) addresses
    ∙ sym (by_addresses before.bytes ys)

-- rows that move show what they showed
pub moved_addresses : (f : Row → Row) → ((row : Row) → (f row).address ≡ row.address) → (xs : List Row) → addresses_of (map f xs) ≡ addresses_of xs
moved_addresses f same [] = refl
moved_addresses f same (x ∷ xs) = λ i. same x i ∷ moved_addresses f same xs i
