use Rattle.std.proofs.Common.{◌≡◌, ◌∷◌, map, replicate, All}
use Rattle.febe_data.specs.Plain.{plain_request, create, set_account}
use Rattle.febe_data.specs.Validity.{IsRequest}
use Rattle.session_generator.specs.Generated.{account}
use Rattle.session_generator.proofs.generating.opening.Given as goal

abbrev pub invariant-loop : goal.invariant-loop
invariant-loop l = record {
  front : map plain_request l.made.items ≡ set_account account ∷ replicate l.counter create;
  valid : All (λ request. IsRequest (plain_request request)) l.made.items;
}
