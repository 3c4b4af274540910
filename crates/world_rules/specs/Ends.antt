-- Where the ends of links are now, as far as a session may read.
use Rattle.std.specs.Prelude.{ℕ, ◌==◌, ◌&&◌, Bool, List, map, filter, Option, Some, None, All, if◌then◌else◌}
use Rattle.std.specs.List.{list_any}
use Rattle.febe_data.specs.declared.run.Run.{Run}
use Rattle.tumbler.specs.Places.{IsTumbler}
use Rattle.febe_data.specs.Plain.{PlainSpec}
use Rattle.febe_data.specs.Validity.{IsSpan}
use Rattle.world_rules.specs.declared.rows.Row.{Row}
use Rattle.world_rules.specs.declared.ends.End.{End}
use Rattle.world_rules.specs.declared.ends.End.TheVariants.{From, To, Three}
use Rattle.world_rules.specs.World.{World, LinkRow, is_text_of}
use Rattle.world_rules.specs.Readable.{is_readable}
use Rattle.world_rules.specs.Picking.{is_in_run, is_in_runs, picked_once, places_of, intervals}

-- ends 1, 2 and 3 of a link
abbrev pub end_numbered : ℕ → Option End
end_numbered n = if n == 1 then Some From else if n == 2 then Some To else if n == 3 then Some Three else None

abbrev pub runs_of_end : End → LinkRow → List Run
runs_of_end From link = link.from
runs_of_end To link = link.to
runs_of_end Three link = link.three

-- where the run's origin shows its bytes now
abbrev pub run_now : World → Run → PlainSpec
run_now world run = record { document = run.origin; spans = intervals (places_of (filter (λ row. is_text_of run.origin row && is_in_run row.address run) world.rows)) }

-- the runs of the end whose origin the session may read
abbrev pub runs_readable : World → ℕ → End → LinkRow → List Run
runs_readable world session end link = filter (λ (run : Run). is_readable world session run.origin) (runs_of_end end link)

-- one spec for each of these, in order
abbrev pub end_now : World → ℕ → End → LinkRow → List PlainSpec
end_now world session end link = map (run_now world) (runs_readable world session end link)

-- the address is in that end of some link whose home the session may read
abbrev pub is_in_end : World → ℕ → End → List ℕ → Bool
is_in_end world session end address = list_any (λ (link : LinkRow). is_readable world session link.home && is_in_runs (runs_of_end end link) address) world.links

-- which of the text that the spec picks is in that end of some such link
abbrev pub end_set_of : World → ℕ → End → PlainSpec → PlainSpec
end_set_of world session end spec = record { document = spec.document; spans = intervals (places_of (filter (λ (row : Row). is_in_end world session end row.address) (picked_once world spec))) }

-- one spec for each spec, in order
abbrev pub end_set : World → ℕ → End → List PlainSpec → List PlainSpec
end_set world session end specs = map (end_set_of world session end) specs

-- the document is a tumbler, and the spans, as many as there are, are spans
pub record NamesSpans (spec : PlainSpec) : Type 0 where
  pub document : IsTumbler spec.document
  pub spans : All IsSpan spec.spans
