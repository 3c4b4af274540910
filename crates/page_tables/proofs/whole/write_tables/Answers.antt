use Rattle.page_tables.proofs.Appended.{three_parts}
use Rattle.page_tables.proofs.whole.write_tables.Goals as goal

pub returns : goal.returns
returns c = record {
  right = record {
    documents = rw c.as_slice.ensures at c.in_ok-append_documents.ensures.right;
    roots = c.in_ok-append_roots.ensures.right;
    links = rw c.as_slice-2.ensures at c.in_ok-append_links.ensures.right;
  };
  spelled = three_parts _ _ _ _ _ _ _ c.new-bytes.ensures.items (rw c.as_slice.ensures at c.in_ok-append_documents.ensures.spelled) c.in_ok-append_roots.ensures.spelled (rw c.as_slice-2.ensures at c.in_ok-append_links.ensures.spelled);
}
