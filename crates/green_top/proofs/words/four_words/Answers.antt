use Rattle.std.proofs.Common.{◌≡◌, ◌∙◌, map, length, arith, string_bytes}
use Rattle.std.proofs.lemmas.List.{length-map}
use Rattle.green_top.proofs.WordForms.{at_word, agree, four_words}
use Rattle.green_top.proofs.words.four_words.Goals as goal

pub returns-clause-some : goal.returns-clause-some
returns-clause-some c =
    let four : length c.args.words.now ≡ 4 = c.requires in
    four_words (map string_bytes c.args.words.now) c.as_str.result.now c.as_str-else-not-is_folder.result.now c.as_str-2.result.now (length-map c.args.words.now string_bytes ∙ four)
    (at_word c.args.words.now 1 c.index-words-1.result c.as_str.result.now (omega (arith, four)) c.index-words-1.is c.as_str.ensures.value)
    (at_word c.args.words.now 2 c.index-words-2.result c.as_str-else-not-is_folder.result.now (omega (arith, four)) c.index-words-2.is c.as_str-else-not-is_folder.ensures.value)
    (at_word c.args.words.now 3 c.index-words-3.result c.as_str-2.result.now (omega (arith, four)) c.index-words-3.is c.as_str-2.ensures.value)
    (search) (agree c.as_str-else-not-is_folder.result.now _ c.if-ne.ensures) c.in_ok-start.start c.in_ok-start.ensures.some (search)
