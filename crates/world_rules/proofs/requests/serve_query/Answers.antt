-- What each query is answered, by the look-ups of any world.
use Rattle.world_rules.proofs.requests.serve_query.Goals as goal

pub returns-in-SpanSet-clause-served : goal.returns-in-SpanSet-clause-served
returns-in-SpanSet-clause-served g c view limits stands = rw c.in-SpanSet.is (c.serve_span_set.ensures.served view limits stands)

pub returns-in-WholeSpan-clause-served : goal.returns-in-WholeSpan-clause-served
returns-in-WholeSpan-clause-served g c view limits stands = rw c.in-WholeSpan.is (c.serve_whole_span.ensures.served view limits stands)

pub returns-in-Retrieve-clause-served : goal.returns-in-Retrieve-clause-served
returns-in-Retrieve-clause-served g c view limits stands = rw (c.in-Retrieve.is, ← c.as_slice.ensures) (c.serve_retrieve.ensures.served view limits stands)

pub returns-in-Relate-clause-served : goal.returns-in-Relate-clause-served
returns-in-Relate-clause-served g c view limits stands = rw c.in-Relate.is (c.serve_relate.ensures.served view limits stands)

pub returns-in-Follow-clause-served : goal.returns-in-Follow-clause-served
returns-in-Follow-clause-served g c view limits stands = rw c.in-Follow.is (c.serve_follow.ensures.served view limits stands)

pub returns-in-FindDocuments-clause-served : goal.returns-in-FindDocuments-clause-served
returns-in-FindDocuments-clause-served g c view limits stands = rw (c.in-FindDocuments.is, ← c.as_slice-in-FindDocuments.ensures) (c.serve_find_documents.ensures.served view limits stands)

pub returns-in-EndSets-clause-served : goal.returns-in-EndSets-clause-served
returns-in-EndSets-clause-served g c view limits stands = rw (c.in-EndSets.is, ← c.as_slice-in-EndSets.ensures) (c.serve_end_sets.ensures.served view limits stands)

pub returns-in-CountLinks-clause-served : goal.returns-in-CountLinks-clause-served
returns-in-CountLinks-clause-served g c view limits stands = rw c.in-CountLinks.is (c.serve_count_links.ensures.served view limits stands)

pub returns-in-FindLinks-clause-served : goal.returns-in-FindLinks-clause-served
returns-in-FindLinks-clause-served g c view limits stands = rw c.in-FindLinks.is (c.serve_find_links.ensures.served view limits stands)

pub returns-in-NextLinks-clause-served : goal.returns-in-NextLinks-clause-served
returns-in-NextLinks-clause-served g c view limits stands = rw c.in-NextLinks.is (c.serve_next_links.ensures.served view limits stands)
