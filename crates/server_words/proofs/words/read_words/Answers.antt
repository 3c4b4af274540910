use Rattle.std.proofs.Common.{map, string_bytes}
use Rattle.server_words.proofs.Forms.{form_is}
use Rattle.server_words.proofs.words.read_words.Goals as goal

pub returns-in-Err-clause-refused : goal.returns-in-Err-clause-refused
returns-in-Err-clause-refused c = λ none. absurd (form_is (map string_bytes c.args.words.now) c.in-Some.form c.in-Some.ensures.some none)
