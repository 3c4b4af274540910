use Rattle.std.proofs.Common.{◌∙◌, sym}
use Rattle.server_words.proofs.Decimals.{unparsed, written_otherwise, differ}
use Rattle.server_words.proofs.number.number_of.Goals as goal

pub returns-in_default-clause-none : goal.returns-in_default-clause-none
returns-in_default-clause-none c = unparsed c.args.word.now c.parse.result c.in_default.field-0 c.parse.ensures.value.0 c.in_default.is

pub returns-then-ne-clause-none : goal.returns-then-ne-clause-none
returns-then-ne-clause-none c =
    written_otherwise c.args.word.now c.parse.result c.in-Ok.number c.parse.ensures.value.0 c.in-Ok.is (λ e. differ c.format.result.now c.args.word.now c.if-ne.ensures (c.format.ensures.text ∙ sym e))
