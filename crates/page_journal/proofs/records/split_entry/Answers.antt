-- What is behind the page is what is behind its number, but for the page.
use Rattle.std.proofs.Common.{drop, ◌∙◌, ap, drop-drop}
use Rattle.page_journal.proofs.records.split_entry.Goals as goal

pub returns-clause-behind : goal.returns-clause-behind
returns-clause-behind c = c.split_at.ensures.back ∙ ap (drop 4096) c.in_ok-number.ensures.cases.1 ∙ drop-drop 4096 8 c.args.rest.now
