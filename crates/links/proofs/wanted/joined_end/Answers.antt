use Rattle.std.proofs.Common.{◌∙◌, Option, List, ap, sym}
use Rattle.tumbler.specs.ListView.{ListView}
use Rattle.tumbler.specs.declared.span.Span.{Span}
use Rattle.spanfilade.specs.Keys.{is_met_by}
use Rattle.links.specs.Finding.{is_end_met, given}
use Rattle.links.proofs.JoinedEnds.{asks_the_same}
use Rattle.links.proofs.wanted.joined_end.Goals as goal

pub returns-clause-same : goal.returns-clause-same
returns-clause-same c runs =
    asks_the_same c.in_ok-made.made.items c.in-Some.spans.items (λ row. c.in_ok-made.ensures.met row ∙ ap (λ (spans : List Span). is_met_by spans row) c.as_slice.ensures) runs
    ∙ ap (λ (spans : Option (ListView Span)). is_end_met (given spans) runs) (sym c.in-Some.is)
