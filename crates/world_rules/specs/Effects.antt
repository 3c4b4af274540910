-- What a request that is not refused changes, and what it is answered then.
use Rattle.std.specs.Prelude.{ℕ, ◌+◌, Bool, true, false, List, [], map, Option, Some, None, unwrap_or}
use Rattle.febe_data.specs.declared.access.Mode.{Mode}
use Rattle.febe_data.specs.Plain.{PlainRequest, insert, copy, rearrange, create, delete, version, quit, create_link, set_account, opens, closes, publish, PlainReply, inserted, copied, rearranged, created, deleted, versioned, has_quit, linked, account_set, opened, closed, published, PlainChange, ended, account_changed, document_opened, document_closed, document_created, version_made, copy_opened, text_inserted, span_deleted, blocks_swapped, specs_copied, link_made, document_published}
use Rattle.world_rules.specs.World.{World, account_of_session, next_document, version_for, content_length, links_made_in, link_length, link_address}
use Rattle.world_rules.specs.Refusals.{position_of, opens_version}

-- a change, and the reply to it
pub record Effect : Type 0 where
  pub change : PlainChange
  pub reply : PlainReply

-- the session's account, where it has one
abbrev pub maker_of : World → ℕ → List ℕ
maker_of world session = unwrap_or (account_of_session world session) []

-- the document that a create makes
abbrev pub document_to_come : World → ℕ → List ℕ
document_to_come world session = next_document world (maker_of world session)

-- the version that the session makes of a document
abbrev pub version_to_come : World → ℕ → List ℕ → List ℕ
version_to_come world session source = version_for world source (maker_of world session)

-- a document is opened, or a version of it
abbrev pub opening : World → ℕ → List ℕ → Mode → Bool → Effect
opening world session document mode true = record { change = copy_opened document (version_to_come world session document); reply = opened (version_to_come world session document) }
opening world session document mode false = record { change = document_opened document mode; reply = opened document }

-- the effect of a request, or none where it is a query
abbrev pub effect : World → ℕ → PlainRequest → Option Effect
effect world session (insert document at text) = Some (record { change = text_inserted document (position_of at) (content_length world document + 1) text; reply = inserted })
effect world session (copy document at specs) = Some (record { change = specs_copied document (position_of at) specs; reply = copied })
effect world session (rearrange document cuts) = Some (record { change = blocks_swapped document (map position_of cuts); reply = rearranged })
effect world session create = Some (record { change = document_created (document_to_come world session); reply = created (document_to_come world session) })
effect world session (delete document span) = Some (record { change = span_deleted document span; reply = deleted })
effect world session (version document) = Some (record { change = version_made document (version_to_come world session document); reply = versioned (version_to_come world session document) })
effect world session quit = Some (record { change = ended; reply = has_quit })
effect world session (create_link home from to three) =
    Some (record { change = link_made home (links_made_in world home + 1) (link_length world home + 1) from to three; reply = linked (link_address home (links_made_in world home + 1)) })
effect world session (set_account account) = Some (record { change = account_changed account; reply = account_set })
effect world session (opens document mode rule) = Some (opening world session document mode (opens_version world session document mode rule))
effect world session (closes document) = Some (record { change = document_closed document; reply = closed })
effect world session (publish document) = Some (record { change = document_published document; reply = published })
-- the others are queries
effect world session other = None
