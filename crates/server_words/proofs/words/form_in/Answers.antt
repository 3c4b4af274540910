use Rattle.std.proofs.Common.{◌≡◌, ◌∙◌, map, length, arith, string_bytes}
use Rattle.std.proofs.lemmas.List.{length-map}
use Rattle.server_words.specs.Words.{AreNoWords}
use Rattle.server_words.proofs.Forms.{at_word, wrong_sessions, for_none}
use Rattle.server_words.proofs.words.form_in.Goals as goal

pub returns-in_err-sessions-in-len5-clause-none : goal.returns-in_err-sessions-in-len5-clause-none
returns-in_err-sessions-in-len5-clause-none c =
    let ws = map string_bytes c.args.words.now in
    let five : length c.args.words.now ≡ 5 = omega (arith, c.in-len5.len_at_least, c.in-len5.len_below) in
    let word = c.as_str-in-len5-4.result.now in
    for_none (AreNoWords ws) c.from_residual-in_err-sessions-in-len5.result
    (wrong_sessions ws word (length-map c.args.words.now string_bytes ∙ five)
    (at_word c.args.words.now 4 c.sessions-item.result word (omega (arith, five)) c.sessions-item.is c.as_str-in-len5-4.ensures.value) c.in_err-sessions-in-len5.ensures.none)
