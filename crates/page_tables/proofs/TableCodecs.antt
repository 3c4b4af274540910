-- Tables are read exactly as they are written.
use Rattle.std.proofs.Common.{◌≡◌, ℕ, ◌==◌, cond, List, [], ◌∷◌, ◌++◌, length, Option, Some, None, Result, Ok, Err, refl, sym, ap, subst, ◌∙◌, arith}
use Rattle.std.specs.Prelude.{IfOk}
use Rattle.std.proofs.lemmas.Bool.{eqb-true}
use Rattle.std.proofs.lemmas.List.{append-nil}
use Rattle.std.proofs.lemmas.Option.{cond_some, some_pair_parts}
use Rattle.tumbler.specs.declared.memory.Memory.{Memory}
use Rattle.febe_fields.specs.Reading.{ReadsIfOk}
use Rattle.febe_fields.proofs.FieldLaws.{bind_some}
use Rattle.disk_fields.specs.Format.{AreCounted}
use Rattle.disk_fields.specs.Codec.{AreBytes, Codec}
use Rattle.disk_fields.proofs.FieldLaws.{u32_codec, u64_codec, tumbler_codec}
use Rattle.disk_fields.proofs.Codecs.{both, made, counted, reworded}
use Rattle.page_tables.specs.declared.tables.Tables.{Tables}
use Rattle.page_tables.specs.Plain.{PlainTables, plain_tables}
use Rattle.page_tables.specs.TableBytes.{run_bytes, document_bytes, link_bytes, tables_bytes, runs_bytes, IsRun, IsDocumentRow, IsLinkRow, AreTables, AreTablesOf, AreReadTables}
use Rattle.page_tables.specs.TableReading.{run_of, run_at, runs_at, document_of, document_at, link_of, link_at, tables_of, tables_at, whole_tables}
use Rattle.page_tables.specs.Laws.{OneTables}

run_codec : Codec IsRun run_at run_bytes
unfolding run_at
run_codec = reworded
    (λ run h. record { origin = h.1.0; content = h.1.1.0; first = h.1.1.1.0; length = h.1.1.1.1 })
    (λ run h. (refl, (h.origin, (h.content, (h.first, h.length)))))
    (made run_of (λ run. (run.origin, (run.content, (run.first, run.length)))) (λ parts. refl) (both tumbler_codec (both tumbler_codec (both u32_codec u32_codec))))

document_codec : Codec IsDocumentRow document_at document_bytes
unfolding document_at
document_codec = reworded
    (λ row h. record { document = h.1.0; root = h.1.1.0; content = h.1.1.1 })
    (λ row h. (refl, (h.document, (h.root, h.content))))
    (made document_of (λ row. (row.document, (row.root, row.content))) (λ parts. refl) (both tumbler_codec (both u64_codec u32_codec)))

runs_codec : Codec (AreCounted IsRun) runs_at runs_bytes
runs_codec = counted run_codec

link_codec : Codec IsLinkRow link_at link_bytes
unfolding link_at
link_codec = reworded
    (λ link h. record { id = h.1.0; home = h.1.1.0; from = h.1.1.1.0; to = h.1.1.1.1.0; three = h.1.1.1.1.1 })
    (λ link h. (refl, (h.id, (h.home, (h.from, (h.to, h.three))))))
    (made link_of (λ link. (link.id, (link.home, (link.from, (link.to, link.three))))) (λ parts. refl) (both tumbler_codec (both tumbler_codec (both runs_codec (both runs_codec runs_codec)))))

tables_codec : Codec AreTables tables_at tables_bytes
unfolding tables_at
tables_codec = reworded
    (λ tables h. record { documents = h.1.0; roots = record { granfilade = h.1.1.0; spanfilade = h.1.1.1.0; from = h.1.1.1.1.0; to = h.1.1.1.1.1.0; three = h.1.1.1.1.1.1.0 }; links = h.1.1.1.1.1.1.1 })
    (λ tables h. (refl, (h.documents, (h.roots.granfilade, (h.roots.spanfilade, (h.roots.from, (h.roots.to, (h.roots.three, h.links))))))))
    (made tables_of (λ tables. (tables.documents, (tables.granfilade, (tables.spanfilade, (tables.from, (tables.to, (tables.three, tables.links))))))) (λ parts. refl)
    (both (counted document_codec) (both u64_codec (both u64_codec (both u64_codec (both u64_codec (both u64_codec (counted link_codec))))))))

-- ---- whole tables

no_bytes : (bytes : List ℕ) → length bytes ≡ 0 → bytes ≡ []
no_bytes [] e = refl
no_bytes (b ∷ bytes) e = absurd (omega arith)

read_again : (tables : PlainTables) (bytes : List ℕ) → AreTablesOf tables bytes → tables_at bytes ≡ Some (tables, [])
read_again tables bytes h = ap tables_at (h.spelled ∙ sym (append-nil (tables_bytes tables))) ∙ tables_codec.again tables [] h.right

whole_again : (tables : PlainTables) (bytes : List ℕ) → AreTablesOf tables bytes → whole_tables bytes ≡ Some tables
unfolding whole_tables
whole_again tables bytes h = rw (read_again tables bytes h) refl

whole_right : (bytes : List ℕ) (tables : PlainTables) → AreBytes bytes → whole_tables bytes ≡ Some tables → AreTablesOf tables bytes
unfolding whole_tables
whole_right bytes tables are e =
    let a = bind_some (tables_at bytes) (λ tables. cond (length tables.1 == 0) (Some tables.0) None) tables e in
    let g = cond_some (length a.0.1 == 0) a.0.0 tables a.2 in
    let r = tables_codec.right bytes a.0.1 a.0.0 are a.1 in
    let none : a.0.1 ≡ [] = no_bytes a.0.1 (eqb-true (length a.0.1) 0 g.0) in
    subst (λ (t : PlainTables). AreTablesOf t bytes) g.1 (record {
      right = r.1;
      spelled = r.0 ∙ ap (λ (ds : List ℕ). tables_bytes a.0.0 ++ ds) none ∙ append-nil (tables_bytes a.0.0);
    })

nothing_read : {A : Type 0} (x : A) → None ≡ Some x → ⊥
nothing_read x e = absurd cc

pub tables_are_read : (result : Result (Option Tables) Memory) (bytes : List ℕ) → AreBytes bytes → ReadsIfOk plain_tables result (whole_tables bytes) → IfOk result (λ read. AreReadTables bytes read)
tables_are_read (Ok (Some tables)) bytes are e = whole_right bytes (plain_tables tables) are e
tables_are_read (Ok None) bytes are e = λ tables h. nothing_read tables (sym e ∙ whole_again tables bytes h)
tables_are_read (Err refused) bytes are e = tt

pub one_tables : OneTables
one_tables one other bytes f g =
    let none : List ℕ = [] in
    let p = some_pair_parts one other none none (sym (read_again one bytes f) ∙ read_again other bytes g) in
    p.0
