use Rattle.std.proofs.Common.{arith}
use Rattle.server_words.specs.Words.{IsByteNumber}
use Rattle.server_words.proofs.Joins.{byte_has_no_stop, no_parts, first_fails, first_holds}
use Rattle.server_words.proofs.address.is_pair.Goals as goal

pub returns-then-is_byte_number : goal.returns-then-is_byte_number
returns-then-is_byte_number c =
    first_holds 46 IsByteNumber IsByteNumber c.args.word.now c.split_once.result (omega arith) byte_has_no_stop c.split_once.ensures.cases
    c.in-Some.first c.in-Some.rest c.in-Some.is c.is_byte_number.result c.is_byte_number-then-is_byte_number.result c.is_byte_number.ensures c.if-is_byte_number.true c.is_byte_number-then-is_byte_number.ensures

pub returns-else-is_byte_number : goal.returns-else-is_byte_number
returns-else-is_byte_number c =
    first_fails 46 IsByteNumber IsByteNumber c.args.word.now c.split_once.result (omega arith) byte_has_no_stop c.split_once.ensures.cases
    c.in-Some.first c.in-Some.rest c.in-Some.is c.is_byte_number.result c.is_byte_number.ensures c.if-is_byte_number.false

pub returns-in-None : goal.returns-in-None
returns-in-None c = no_parts 46 IsByteNumber IsByteNumber c.args.word.now c.split_once.result (omega arith) byte_has_no_stop c.split_once.ensures.cases c.in-None.is
