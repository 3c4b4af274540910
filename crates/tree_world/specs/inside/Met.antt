-- The runs that an end is to meet, as spans of content.
use Rattle.std.specs.Prelude.{◌≡◌, List, [], ◌∷◌, map, All, Option, Some, None}
use Rattle.tumbler.specs.ListView.{ListView}
use Rattle.tumbler.specs.declared.span.Span.{Span}
use Rattle.febe_data.specs.Plain.{PlainSpec, PlainWant}
use Rattle.febe_data.specs.declared.run.Run.{Run}
use Rattle.links.specs.declared.row.WantedEnds.{WantedEnds}
use Rattle.links.specs.LinkLists.{IsRun, run_span}
use Rattle.links.specs.Finding.{given, SpansFit}
use Rattle.world_rules.specs.declared.lookups.WantedRuns.{WantedRuns}

-- the spans of the runs, or none where no spec asks for any
abbrev pub wanted_spans : List PlainSpec → List Run → Option (List Span)
wanted_spans [] runs = None
wanted_spans (spec ∷ specs) runs = Some (map run_span runs)

abbrev pub AreRunsIfWanted : List PlainSpec → List Run → Type 0
AreRunsIfWanted [] runs = Unit {0}
AreRunsIfWanted (spec ∷ specs) runs = All IsRun runs

-- these are the spans of the runs that specs pick for an end
pub record IsWantedEnd (specs : List PlainSpec) (runs : List Run) (made : Option (ListView Span)) : Type 0 where
  pub spans : given made ≡ wanted_spans specs runs
  pub fits : SpansFit made
  pub right : AreRunsIfWanted specs runs

pub record AreWantedEnds (want : PlainWant) (runs : WantedRuns) (made : WantedEnds) : Type 0 where
  pub from : IsWantedEnd want.from runs.from.items made.from
  pub to : IsWantedEnd want.to runs.to.items made.to
  pub three : IsWantedEnd want.three runs.three.items made.three
