use Rattle.std.proofs.Common.{arith}
use Rattle.server_words.specs.Words.{IsHost, IsPort}
use Rattle.server_words.proofs.Joins.{host_has_no_colon, no_parts, first_fails, first_holds}
use Rattle.server_words.proofs.address.is_address.Goals as goal

pub returns-then-is_host : goal.returns-then-is_host
returns-then-is_host c =
    first_holds 58 IsHost IsPort c.args.word.now c.split_once.result (omega arith) host_has_no_colon c.split_once.ensures.cases
    c.in-Some.host c.in-Some.port c.in-Some.is c.is_host.result c.is_port.result c.is_host.ensures c.if-is_host.true c.is_port.ensures

pub returns-else-is_host : goal.returns-else-is_host
returns-else-is_host c =
    first_fails 58 IsHost IsPort c.args.word.now c.split_once.result (omega arith) host_has_no_colon c.split_once.ensures.cases
    c.in-Some.host c.in-Some.port c.in-Some.is c.is_host.result c.is_host.ensures c.if-is_host.false

pub returns-in-None : goal.returns-in-None
returns-in-None c = no_parts 58 IsHost IsPort c.args.word.now c.split_once.result (omega arith) host_has_no_colon c.split_once.ensures.cases c.in-None.is
