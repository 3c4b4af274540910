-- What is asked of ends, with spans that come one after another.
use Rattle.std.specs.Prelude.{◌≡◌, ◌≢◌, List, [], All, Option, Some, None}
use Rattle.tumbler.specs.ListView.{ListView}
use Rattle.tumbler.specs.Span.{SpanFits}
use Rattle.tumbler.specs.declared.span.Span.{Span}
use Rattle.febe_data.specs.declared.run.Run.{Run}
use Rattle.spanfilade.specs.Apart.{AreApart}
use Rattle.world_rules.specs.World.{LinkRow}
use Rattle.links.specs.declared.row.WantedEnds.{WantedEnds}
use Rattle.links.specs.Finding.{is_end_met, given, is_wanted}

-- the spans that are given fit, and come one after another
abbrev pub SpansJoined : Option (ListView Span) → Type 0
SpansJoined None = Unit {0}
SpansJoined (Some spans) = All SpanFits spans.items × AreApart spans.items

pub record EndsJoined (ends : WantedEnds) : Type 0 where
  pub from : SpansJoined ends.from
  pub to : SpansJoined ends.to
  pub three : SpansJoined ends.three

-- runs of an end meet the one where they meet the other
abbrev pub AsksTheSame : Option (ListView Span) → Option (ListView Span) → Type 0
AsksTheSame one other = (runs : List Run) → is_end_met (given one) runs ≡ is_end_met (given other) runs

-- links are wanted by the one where they are by the other
abbrev pub WantsTheSame : WantedEnds → WantedEnds → Type 0
WantsTheSame one other = (homes : List Span) (link : LinkRow) → is_wanted homes one link ≡ is_wanted homes other link

-- the span takes up some places
abbrev pub IsWide : Span → Type 0
IsWide span = span.width ≢ []
