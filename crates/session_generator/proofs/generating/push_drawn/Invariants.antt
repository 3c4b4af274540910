use Rattle.std.proofs.Common.{◌≡◌, ◌++◌, map, All}
use Rattle.febe_data.specs.Plain.{plain_request}
use Rattle.febe_data.specs.Validity.{IsRequest}
use Rattle.session_generator.specs.Generated.{maker_at, drawn_requests}
use Rattle.session_generator.proofs.generating.push_drawn.Given as goal

abbrev pub invariant-loop-n : goal.invariant-loop-n
invariant-loop-n l = record {
  maker : l.maker ≡ maker_at l.start l.n;
  front : map plain_request l.made.items ≡ map plain_request l.initial.made.items ++ drawn_requests l.start l.n;
  valid : All (λ request. IsRequest (plain_request request)) l.made.items;
}
