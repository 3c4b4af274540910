-- Requests, replies and entries as plain values: lists in place of the code's lists, with no room in reserve.
use Rattle.std.specs.Prelude.{ℕ, List, map}
use Rattle.tumbler.specs.declared.span.Span.{Span}
use Rattle.febe_data.specs.declared.access.Mode.{Mode}
use Rattle.febe_data.specs.declared.access.Rule.{Rule}
use Rattle.febe_data.specs.declared.run.Diagonal.{Diagonal}
use Rattle.febe_data.specs.declared.spec.Spec.{Spec}
use Rattle.febe_data.specs.declared.want.Want.{Want}
use Rattle.febe_data.specs.declared.refusal.Refusal.{Refusal}
use Rattle.febe_data.specs.declared.request.Request.{Request}
use Rattle.febe_data.specs.declared.request.Request.TheVariants as requests
use Rattle.febe_data.specs.declared.reply.Item.{Item}
use Rattle.febe_data.specs.declared.reply.Item.TheVariants as items
use Rattle.febe_data.specs.declared.reply.Reply.{Reply}
use Rattle.febe_data.specs.declared.reply.Reply.TheVariants as replies
use Rattle.febe_data.specs.declared.entry.Change.{Change}
use Rattle.febe_data.specs.declared.entry.Change.TheVariants as changes
use Rattle.febe_data.specs.declared.entry.Entry.{Entry}

-- spans of one document
pub record PlainSpec : Type 0 where
  pub document : List ℕ
  pub spans : List Span

abbrev pub plain_spec : Spec → PlainSpec
plain_spec s = record { document = s.document; spans = s.spans.items }

-- the specs of a list
abbrev pub plain_specs : List Spec → List PlainSpec
plain_specs specs = map plain_spec specs

-- which links are looked for
pub record PlainWant : Type 0 where
  pub homes : List Span
  pub from : List PlainSpec
  pub to : List PlainSpec
  pub three : List PlainSpec

abbrev pub plain_want : Want → PlainWant
plain_want w = record { homes = w.homes.items; from = plain_specs w.from.items; to = plain_specs w.to.items; three = plain_specs w.three.items }

-- what a front end asks
pub data PlainRequest : Type 0 where
  insert : (document at text : List ℕ) → PlainRequest
  span_set : (document : List ℕ) → PlainRequest
  copy : (document at : List ℕ) (specs : List PlainSpec) → PlainRequest
  rearrange : (document : List ℕ) (cuts : List (List ℕ)) → PlainRequest
  retrieve : (specs : List PlainSpec) → PlainRequest
  relate : (left right : PlainSpec) → PlainRequest
  create : PlainRequest
  delete : (document : List ℕ) (span : Span) → PlainRequest
  version : (document : List ℕ) → PlainRequest
  whole_span : (document : List ℕ) → PlainRequest
  quit : PlainRequest
  follow : (link : List ℕ) (end : ℕ) → PlainRequest
  find_documents : (specs : List PlainSpec) → PlainRequest
  create_link : (home : List ℕ) (from to three : List PlainSpec) → PlainRequest
  end_sets : (specs : List PlainSpec) → PlainRequest
  count_links : (want : PlainWant) → PlainRequest
  find_links : (want : PlainWant) → PlainRequest
  next_links : (want : PlainWant) (after : List ℕ) (limit : ℕ) → PlainRequest
  set_account : (account : List ℕ) → PlainRequest
  opens : (document : List ℕ) (mode : Mode) (rule : Rule) → PlainRequest
  closes : (document : List ℕ) → PlainRequest
  publish : (document : List ℕ) → PlainRequest

abbrev pub plain_request : Request → PlainRequest
plain_request (requests.Insert document at text) = insert document at text.items
plain_request (requests.SpanSet document) = span_set document
plain_request (requests.Copy document at specs) = copy document at (plain_specs specs.items)
plain_request (requests.Rearrange document cuts) = rearrange document cuts.items
plain_request (requests.Retrieve specs) = retrieve (plain_specs specs.items)
plain_request (requests.Relate left right) = relate (plain_spec left) (plain_spec right)
plain_request requests.Create = create
plain_request (requests.Delete document span) = delete document span
plain_request (requests.Version document) = version document
plain_request (requests.WholeSpan document) = whole_span document
plain_request requests.Quit = quit
plain_request (requests.Follow link end) = follow link end
plain_request (requests.FindDocuments specs) = find_documents (plain_specs specs.items)
plain_request (requests.CreateLink home from to three) = create_link home (plain_specs from.items) (plain_specs to.items) (plain_specs three.items)
plain_request (requests.EndSets specs) = end_sets (plain_specs specs.items)
plain_request (requests.CountLinks want) = count_links (plain_want want)
plain_request (requests.FindLinks want) = find_links (plain_want want)
plain_request (requests.NextLinks want after limit) = next_links (plain_want want) after limit
plain_request (requests.Account account) = set_account account
plain_request (requests.Open document mode rule) = opens document mode rule
plain_request (requests.Close document) = closes document
plain_request (requests.Publish document) = publish document

-- a piece of what was retrieved
pub data PlainItem : Type 0 where
  bytes : (text : List ℕ) → PlainItem
  link : (id : List ℕ) → PlainItem

abbrev pub plain_item : Item → PlainItem
plain_item (items.Bytes text) = bytes text.items
plain_item (items.Link id) = link id

-- what the back end answers
pub data PlainReply : Type 0 where
  inserted : PlainReply
  copied : PlainReply
  rearranged : PlainReply
  deleted : PlainReply
  has_quit : PlainReply
  account_set : PlainReply
  closed : PlainReply
  gave_span_set : (spans : List Span) → PlainReply
  gave_whole_span : (span : Span) → PlainReply
  retrieved : (items : List PlainItem) → PlainReply
  related : (diagonals : List Diagonal) → PlainReply
  created : (document : List ℕ) → PlainReply
  versioned : (document : List ℕ) → PlainReply
  linked : (id : List ℕ) → PlainReply
  opened : (document : List ℕ) → PlainReply
  followed : (specs : List PlainSpec) → PlainReply
  found_documents : (documents : List (List ℕ)) → PlainReply
  gave_end_sets : (from to three : List PlainSpec) → PlainReply
  counted_links : (count : ℕ) → PlainReply
  found_links : (ids : List (List ℕ)) → PlainReply
  gave_next_links : (ids : List (List ℕ)) → PlainReply
  refused : Refusal → PlainReply
  published : PlainReply

abbrev pub plain_reply : Reply → PlainReply
plain_reply replies.Inserted = inserted
plain_reply replies.Copied = copied
plain_reply replies.Rearranged = rearranged
plain_reply replies.Deleted = deleted
plain_reply replies.Quit = has_quit
plain_reply replies.AccountSet = account_set
plain_reply replies.Closed = closed
plain_reply (replies.SpanSet spans) = gave_span_set spans.items
plain_reply (replies.WholeSpan span) = gave_whole_span span
plain_reply (replies.Retrieved items) = retrieved (map plain_item items.items)
plain_reply (replies.Related diagonals) = related diagonals.items
plain_reply (replies.Created document) = created document
plain_reply (replies.Versioned document) = versioned document
plain_reply (replies.Linked id) = linked id
plain_reply (replies.Opened document) = opened document
plain_reply (replies.Followed specs) = followed (plain_specs specs.items)
plain_reply (replies.Documents documents) = found_documents documents.items
plain_reply (replies.EndSets from to three) = gave_end_sets (plain_specs from.items) (plain_specs to.items) (plain_specs three.items)
plain_reply (replies.LinkCount count) = counted_links count
plain_reply (replies.Links ids) = found_links ids.items
plain_reply (replies.NextLinks ids) = gave_next_links ids.items
plain_reply (replies.Refused refusal) = refused refusal
plain_reply replies.Published = published

-- what an entry changed
pub data PlainChange : Type 0 where
  restarted : PlainChange
  began : PlainChange
  ended : PlainChange
  account_changed : (account : List ℕ) → PlainChange
  document_opened : (document : List ℕ) (mode : Mode) → PlainChange
  document_closed : (document : List ℕ) → PlainChange
  document_created : (document : List ℕ) → PlainChange
  version_made : (source document : List ℕ) → PlainChange
  copy_opened : (source document : List ℕ) → PlainChange
  text_inserted : (document : List ℕ) (at first : ℕ) (text : List ℕ) → PlainChange
  span_deleted : (document : List ℕ) (span : Span) → PlainChange
  blocks_swapped : (document : List ℕ) (cuts : List ℕ) → PlainChange
  specs_copied : (document : List ℕ) (at : ℕ) (specs : List PlainSpec) → PlainChange
  link_made : (home : List ℕ) (number place : ℕ) (from to three : List PlainSpec) → PlainChange
  document_published : (document : List ℕ) → PlainChange

abbrev pub plain_change : Change → PlainChange
plain_change changes.Restart = restarted
plain_change changes.Begin = began
plain_change changes.End = ended
plain_change (changes.Account account) = account_changed account
plain_change (changes.Open document mode) = document_opened document mode
plain_change (changes.Close document) = document_closed document
plain_change (changes.Create document) = document_created document
plain_change (changes.Version source document) = version_made source document
plain_change (changes.OpenCopy source document) = copy_opened source document
plain_change (changes.Insert document at first text) = text_inserted document at first text.items
plain_change (changes.Delete document span) = span_deleted document span
plain_change (changes.Rearrange document cuts) = blocks_swapped document cuts.items
plain_change (changes.Copy document at specs) = specs_copied document at (plain_specs specs.items)
plain_change (changes.Link home number place from to three) = link_made home number place (plain_specs from.items) (plain_specs to.items) (plain_specs three.items)
plain_change (changes.Publish document) = document_published document

-- one change, by one session
pub record PlainEntry : Type 0 where
  pub session : ℕ
  pub serial : ℕ
  pub change : PlainChange

abbrev pub plain_entry : Entry → PlainEntry
plain_entry e = record { session = e.session; serial = e.serial; change = plain_change e.change }

abbrev pub plain_history : List Entry → List PlainEntry
plain_history entries = map plain_entry entries
