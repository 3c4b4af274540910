use Rattle.std.proofs.Common.{◌∙◌, ap, sym}
use Rattle.std.specs.Option.{option_map, option_copied}
use Rattle.links.specs.LinkLists.{plain_link}
use Rattle.links.proofs.Searched.{link_got}
use Rattle.links.proofs.finding.take_id.Goals as goal

pub take_link-requires-clause-link : goal.take_link-requires-clause-link
take_link-requires-clause-link c = link_got c.args.id.now c.args.table.now (plain_link c.in-Some.link.now) (sym c.get.ensures ∙ ap (λ found. option_map plain_link (option_copied found)) c.in-Some.is) c.requires.links
