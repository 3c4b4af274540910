-- The rows of each plane are read exactly as they are written.
use Rattle.std.proofs.Common.{◌≡◌, ℕ, List, [], refl, sym, ap, ◌∙◌}
use Rattle.tumbler.specs.ListView.{ListView}
use Rattle.disk_fields.specs.Codec.{Codec}
use Rattle.disk_fields.proofs.FieldLaws.{u32_codec, tumbler_codec, text_codec}
use Rattle.disk_fields.proofs.Codecs.{both, made, reworded}
use Rattle.enfilade_core.specs.declared.tree.Row.{Row}
use Rattle.node_pages.specs.NodeBytes.{content_row_bytes, text_row_bytes, key_row_bytes, IsContentRow, IsTextRow, IsKeyRow}
use Rattle.node_pages.specs.NodeReading.{content_row_of, content_row_at, text_row_of, text_row_at, key_row_of, key_row_at}

pub text_row_codec : Codec IsTextRow text_row_at text_row_bytes
unfolding text_row_at
text_row_codec = reworded
    (λ row h. record { first = h.1.0; second = h.1.1.0; length = h.1.1.1 })
    (λ row h. (refl, (h.first, (h.second, h.length))))
    (made text_row_of (λ row. (row.first, (row.second, row.leaf))) (λ parts. refl) (both tumbler_codec (both tumbler_codec u32_codec)))

pub key_row_codec : Codec IsKeyRow key_row_at key_row_bytes
unfolding key_row_at
key_row_codec = reworded
    (λ row h. record { first = h.1.0; second = h.1.1.0; width = h.1.1.1 })
    (λ row h. (refl, (h.first, (h.second, h.width))))
    (made key_row_of (λ row. (row.first, (row.second, row.leaf))) (λ parts. refl) (both tumbler_codec (both tumbler_codec tumbler_codec)))

-- a row at zero on the second axis, with nothing in reserve, is what its place and its bytes make
content_row_is : (row : Row (ListView ℕ)) → row.second ≡ [] → row.leaf.spare ≡ 0 → content_row_of (row.first, row.leaf.items) ≡ row
content_row_is row second spare =
    ap (λ (places : List ℕ). record { first = row.first; second = places; leaf = record { items = row.leaf.items; spare = 0 } }) (sym second)
    ∙ ap (λ (n : ℕ). record { first = row.first; second = row.second; leaf = record { items = row.leaf.items; spare = n } }) (sym spare)

pub content_row_codec : Codec IsContentRow content_row_at content_row_bytes
unfolding content_row_at
content_row_codec = reworded
    (λ row h. record { first = h.1.0; second = sym (ap (λ (r : Row (ListView ℕ)). r.second) h.0); bytes = h.1.1; spare = sym (ap (λ (r : Row (ListView ℕ)). r.leaf.spare) h.0) })
    (λ row h. (content_row_is row h.second h.spare, (h.first, h.bytes)))
    (made content_row_of (λ row. (row.first, row.leaf.items)) (λ parts. refl) (both tumbler_codec text_codec))
