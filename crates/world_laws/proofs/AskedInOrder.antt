-- The tests of each request come in the one order of refusals.
use Rattle.std.proofs.Common.{refl}
use Rattle.febe_data.specs.Plain.{PlainRequest, insert, span_set, copy, rearrange, retrieve, relate, create, delete, version, whole_span, quit, follow, find_documents, create_link, end_sets, count_links, find_links, next_links, set_account, opens, closes, publish}
use Rattle.world_rules.specs.Order.{AskedInOrder}

pub asked_in_order : AskedInOrder
asked_in_order limits counted world session (insert document at text) = refl
asked_in_order limits counted world session (span_set document) = refl
asked_in_order limits counted world session (copy document at specs) = refl
asked_in_order limits counted world session (rearrange document cuts) = refl
asked_in_order limits counted world session (retrieve specs) = refl
asked_in_order limits counted world session (relate left right) = refl
asked_in_order limits counted world session create = refl
asked_in_order limits counted world session (delete document span) = refl
asked_in_order limits counted world session (version document) = refl
asked_in_order limits counted world session (whole_span document) = refl
asked_in_order limits counted world session quit = refl
asked_in_order limits counted world session (follow id end) = refl
asked_in_order limits counted world session (find_documents specs) = refl
asked_in_order limits counted world session (create_link home from to three) = refl
asked_in_order limits counted world session (end_sets specs) = refl
asked_in_order limits counted world session (count_links want) = refl
asked_in_order limits counted world session (find_links want) = refl
asked_in_order limits counted world session (next_links want after limit) = refl
asked_in_order limits counted world session (set_account account) = refl
asked_in_order limits counted world session (opens document mode rule) = refl
asked_in_order limits counted world session (closes document) = refl
asked_in_order limits counted world session (publish document) = refl
