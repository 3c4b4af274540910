-- Which requests change nothing.
use Rattle.std.specs.Prelude.{Bool, true, false}
use Rattle.febe_data.specs.Plain.{PlainRequest, span_set, whole_span, retrieve, relate, follow, find_documents, end_sets, count_links, find_links, next_links}

abbrev pub is_query : PlainRequest → Bool
is_query (span_set document) = true
is_query (whole_span document) = true
is_query (retrieve specs) = true
is_query (relate left right) = true
is_query (follow link end) = true
is_query (find_documents specs) = true
is_query (end_sets specs) = true
is_query (count_links want) = true
is_query (find_links want) = true
is_query (next_links want after limit) = true
is_query other = false
