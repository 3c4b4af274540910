use Rattle.std.proofs.Common.{◌≡◌, ◌<◌, All, Some, None, take, arith}
use Rattle.std.proofs.lemmas.List.Elements.{All-from_get_or}
use Rattle.febe_data.specs.Plain.{plain_request}
use Rattle.febe_wire.specs.inside.Reading.{request_at}
use Rattle.febe_wire.proofs.RequestsTaken.{rest_within, first_taken, first_not_taken}
use Rattle.febe_wire.proofs.got.read_at_once.Goals as goal

pub overflow_sub-result : goal.overflow_sub-result
overflow_sub-result c =
    let is : request_at (take c.min-most.result c.args.bytes.now) ≡ Some (plain_request c.in-Some.request, c.in-Some.rest.now) = rw c.split_at.ensures.front at (rw c.in-Some.is at c.in_ok-request.ensures) in
    rest_within c.args.bytes.now c.min-most.result (plain_request c.in-Some.request) c.in-Some.rest.now (omega (arith, c.min-most.ensures)) is

pub returns-in_default : goal.returns-in_default
returns-in_default c =
    let is : request_at (take c.min-most.result c.args.bytes.now) ≡ None = rw c.split_at.ensures.front at (rw c.in_default.is at c.in_ok-request.ensures) in
    record { read = λ n within few. first_not_taken c.args.bytes.now c.min-most.result n (omega (arith, c.min-most.ensures)) (omega (arith, c.min-most.ensures, within, few)) is }

pub returns : goal.returns
returns c =
    let is : request_at (take c.min-most.result c.args.bytes.now) ≡ Some (plain_request c.in-Some.request, c.in-Some.rest.now) = rw c.split_at.ensures.front at (rw c.in-Some.is at c.in_ok-request.ensures) in
    let small : All (λ b. b < 256) c.args.bytes.now = All-from_get_or (λ b. b < 256) c.args.bytes.now 0 (λ i lt. omega (arith, c.type_inv.bytes i)) in
    record { read = first_taken c.args.bytes.now c.min-most.result (plain_request c.in-Some.request) c.in-Some.rest.now (omega (arith, c.min-most.ensures)) (omega (arith, c.min-most.ensures)) small is }
