-- Reading a request from left to right: the request and the bytes after it, or nothing.
use Rattle.std.specs.Prelude.{ℕ, List, Option, Some, None, ◌==◌, ◌||◌, if◌then◌else◌}
use Rattle.febe_data.specs.Plain.{PlainSpec, PlainWant, PlainRequest, insert, span_set, copy, rearrange, retrieve, relate, create, delete, version, whole_span, quit, follow, find_documents, create_link, end_sets, count_links, find_links, next_links, set_account, opens, closes, publish}
use Rattle.febe_fields.specs.Reading.{◌>>=◌, number_at, text_at, tumbler_at, tumblers_at, span_at, spans_at, spec_at, specs_at, mode_at, rule_at}

-- ---- requests that edit a document

unfoldable pub insert_at : List ℕ → Option (PlainRequest × List ℕ)
insert_at bytes = do
  document ← tumbler_at bytes
  at ← tumbler_at document.1
  text ← text_at at.1
  Some (insert document.0 at.0 text.0, text.1)

unfoldable pub copy_at : List ℕ → Option (PlainRequest × List ℕ)
copy_at bytes = do
  document ← tumbler_at bytes
  at ← tumbler_at document.1
  specs ← specs_at at.1
  Some (copy document.0 at.0 specs.0, specs.1)

unfoldable pub rearrange_at : List ℕ → Option (PlainRequest × List ℕ)
rearrange_at bytes = do
  document ← tumbler_at bytes
  cuts ← tumblers_at document.1
  Some (rearrange document.0 cuts.0, cuts.1)

unfoldable pub delete_at : List ℕ → Option (PlainRequest × List ℕ)
delete_at bytes = do
  document ← tumbler_at bytes
  span ← span_at document.1
  Some (delete document.0 span.0, span.1)

-- ---- requests that open documents, and ask what is in them

unfoldable pub open_at : List ℕ → Option (PlainRequest × List ℕ)
open_at bytes = do
  document ← tumbler_at bytes
  mode ← mode_at document.1
  rule ← rule_at mode.1
  Some (opens document.0 mode.0 rule.0, rule.1)

-- the request of this number that gives one tumbler alone
abbrev pub request_with_tumbler : ℕ → List ℕ → Option PlainRequest
request_with_tumbler n places =
    if n == 1 then Some (span_set places) else (
    if n == 13 then Some (version places) else (
    if n == 14 then Some (whole_span places) else (
    if n == 34 then Some (set_account places) else (
    if n == 36 then Some (closes places) else (
    if n == 40 then Some (publish places) else None)))))

unfoldable pub with_tumbler_at : ℕ → List ℕ → Option (PlainRequest × List ℕ)
with_tumbler_at n bytes = do
  places ← tumbler_at bytes
  request ← request_with_tumbler n places.0
  Some (request, places.1)

-- the request of this number that gives specs alone
abbrev pub request_with_specs : ℕ → List PlainSpec → Option PlainRequest
request_with_specs n specs =
    if n == 5 then Some (retrieve specs) else (
    if n == 22 then Some (find_documents specs) else (
    if n == 28 then Some (end_sets specs) else None))

unfoldable pub with_specs_at : ℕ → List ℕ → Option (PlainRequest × List ℕ)
with_specs_at n bytes = do
  specs ← specs_at bytes
  request ← request_with_specs n specs.0
  Some (request, specs.1)

unfoldable pub relate_at : List ℕ → Option (PlainRequest × List ℕ)
relate_at bytes = do
  left ← spec_at bytes
  right ← spec_at left.1
  Some (relate left.0 right.0, right.1)

-- ---- requests that make links, and look for them

unfoldable pub create_link_at : List ℕ → Option (PlainRequest × List ℕ)
create_link_at bytes = do
  home ← tumbler_at bytes
  from ← specs_at home.1
  to ← specs_at from.1
  three ← specs_at to.1
  Some (create_link home.0 from.0 to.0 three.0, three.1)

unfoldable pub follow_at : List ℕ → Option (PlainRequest × List ℕ)
follow_at bytes = do
  link ← tumbler_at bytes
  end ← number_at link.1
  Some (follow link.0 end.0, end.1)

unfoldable pub want_at : List ℕ → Option (PlainWant × List ℕ)
want_at bytes = do
  homes ← spans_at bytes
  from ← specs_at homes.1
  to ← specs_at from.1
  three ← specs_at to.1
  Some (record { homes = homes.0; from = from.0; to = to.0; three = three.0 }, three.1)

-- the request of this number that gives what links are looked for alone
abbrev pub request_with_want : ℕ → PlainWant → Option PlainRequest
request_with_want n want =
    if n == 29 then Some (count_links want) else (
    if n == 30 then Some (find_links want) else None)

unfoldable pub with_want_at : ℕ → List ℕ → Option (PlainRequest × List ℕ)
with_want_at n bytes = do
  want ← want_at bytes
  request ← request_with_want n want.0
  Some (request, want.1)

unfoldable pub next_links_at : List ℕ → Option (PlainRequest × List ℕ)
next_links_at bytes = do
  want ← want_at bytes
  after ← tumbler_at want.1
  limit ← number_at after.1
  Some (next_links want.0 after.0 limit.0, limit.1)

-- ---- requests

-- the request of this number
unfoldable pub request_of : ℕ → List ℕ → Option (PlainRequest × List ℕ)
request_of n bytes =
    if n == 0 then insert_at bytes else (
    if n == 2 then copy_at bytes else (
    if n == 3 then rearrange_at bytes else (
    if n == 10 then relate_at bytes else (
    if n == 11 then Some (create, bytes) else (
    if n == 12 then delete_at bytes else (
    if n == 16 then Some (quit, bytes) else (
    if n == 18 then follow_at bytes else (
    if n == 27 then create_link_at bytes else (
    if n == 31 then next_links_at bytes else (
    if n == 35 then open_at bytes else (
    if n == 5 || n == 22 || n == 28 then with_specs_at n bytes else (
    if n == 29 || n == 30 then with_want_at n bytes else (
    with_tumbler_at n bytes)))))))))))))

-- a request: its number, then its field values
unfoldable pub request_at : List ℕ → Option (PlainRequest × List ℕ)
request_at bytes = do
  n ← number_at bytes
  request_of n.0 n.1
