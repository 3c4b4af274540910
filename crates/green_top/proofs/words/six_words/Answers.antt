use Rattle.std.proofs.Common.{◌≡◌, ◌∙◌, map, length, arith, string_bytes}
use Rattle.std.proofs.lemmas.List.{length-map}
use Rattle.green_top.proofs.WordForms.{at_word, agree, six_words}
use Rattle.green_top.proofs.words.six_words.Goals as goal

pub returns-clause-some : goal.returns-clause-some
returns-clause-some c =
    let ws = map string_bytes c.args.words.now in
    let six : length c.args.words.now ≡ 6 = c.requires in
    six_words ws c.as_str.result.now c.as_str-else-not-is_folder.result.now c.as_str-2.result.now c.as_str-3.result.now c.as_str-4.result.now (length-map c.args.words.now string_bytes ∙ six)
    (at_word c.args.words.now 1 c.index-words-1.result c.as_str.result.now (omega (arith, six)) c.index-words-1.is c.as_str.ensures.value)
    (at_word c.args.words.now 2 c.index-words-2.result c.as_str-else-not-is_folder.result.now (omega (arith, six)) c.index-words-2.is c.as_str-else-not-is_folder.ensures.value)
    (at_word c.args.words.now 3 c.index-words-3.result c.as_str-2.result.now (omega (arith, six)) c.index-words-3.is c.as_str-2.ensures.value)
    (at_word c.args.words.now 4 c.index-words-4.result c.as_str-3.result.now (omega (arith, six)) c.index-words-4.is c.as_str-3.ensures.value)
    (at_word c.args.words.now 5 c.index-words-5.result c.as_str-4.result.now (omega (arith, six)) c.index-words-5.is c.as_str-4.ensures.value)
    (search) (agree c.as_str-else-not-is_folder.result.now _ c.if-ne.ensures) c.in_ok-limits.limits c.in_ok-limits.ensures.some
