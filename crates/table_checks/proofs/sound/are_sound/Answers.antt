use Rattle.table_checks.proofs.Tested.{no_iff, refuted}
use Rattle.table_checks.proofs.SoundParts.{parts_of, sound_of, have_documents}
use Rattle.table_checks.proofs.sound.are_sound.Goals as goal

pub returns-then-not-documents_ascend : goal.returns-then-not-documents_ascend
returns-then-not-documents_ascend c = no_iff (λ s. refuted c.documents_ascend.result c.documents_ascend.ensures c.if-not-documents_ascend.true (parts_of c.args.tables.now _ _ c.as_slice-documents.ensures c.as_slice-links.ensures s).documents_ascend)

pub returns-then-not-are_documents : goal.returns-then-not-are_documents
returns-then-not-are_documents c = no_iff (λ s. refuted c.are_documents.result c.are_documents.ensures c.if-not-are_documents.true (parts_of c.args.tables.now _ _ c.as_slice-documents.ensures c.as_slice-links.ensures s).documents)

pub have_elders-requires : goal.have_elders-requires
have_elders-requires c = c.documents_ascend.ensures.0 c.if-not-documents_ascend.false

pub returns-then-not-have_elders : goal.returns-then-not-have_elders
returns-then-not-have_elders c = no_iff (λ s. refuted c.have_elders.result c.have_elders.ensures c.if-not-have_elders.true (parts_of c.args.tables.now _ _ c.as_slice-documents.ensures c.as_slice-links.ensures s).elders)

pub returns-then-not-links_ascend : goal.returns-then-not-links_ascend
returns-then-not-links_ascend c = no_iff (λ s. refuted c.links_ascend.result c.links_ascend.ensures c.if-not-links_ascend.true (parts_of c.args.tables.now _ _ c.as_slice-documents.ensures c.as_slice-links.ensures s).links_ascend)

pub have_homes-requires : goal.have_homes-requires
have_homes-requires c = c.documents_ascend.ensures.0 c.if-not-documents_ascend.false

pub returns-then-not-have_homes : goal.returns-then-not-have_homes
returns-then-not-have_homes c = no_iff (λ s. refuted c.have_homes.result c.have_homes.ensures c.if-not-have_homes.true (parts_of c.args.tables.now _ _ c.as_slice-documents.ensures c.as_slice-links.ensures s).homes)

pub are_numbered-requires : goal.are_numbered-requires
are_numbered-requires c = record {
  ascend = c.links_ascend.ensures.0 c.if-not-links_ascend.false;
  homes = have_documents _ _ (c.are_documents.ensures.0 c.if-not-are_documents.false) (c.have_homes.ensures.0 c.if-not-have_homes.false);
}

pub returns-then-not-are_numbered : goal.returns-then-not-are_numbered
returns-then-not-are_numbered c = no_iff (λ s. refuted c.are_numbered.result c.are_numbered.ensures c.if-not-are_numbered.true (parts_of c.args.tables.now _ _ c.as_slice-documents.ensures c.as_slice-links.ensures s).numbered)

pub returns : goal.returns
returns c = (
  (λ t. sound_of c.args.tables.now _ _ c.as_slice-documents.ensures c.as_slice-links.ensures
      (record {
        documents_ascend = c.documents_ascend.ensures.0 c.if-not-documents_ascend.false;
        documents = c.are_documents.ensures.0 c.if-not-are_documents.false;
        elders = c.have_elders.ensures.0 c.if-not-have_elders.false;
        links_ascend = c.links_ascend.ensures.0 c.if-not-links_ascend.false;
        homes = c.have_homes.ensures.0 c.if-not-have_homes.false;
        numbered = c.are_numbered.ensures.0 c.if-not-are_numbered.false;
        runs = c.have_runs.ensures.0 t;
      })),
  (λ s. c.have_runs.ensures.1 (parts_of c.args.tables.now _ _ c.as_slice-documents.ensures c.as_slice-links.ensures s).runs),
)
