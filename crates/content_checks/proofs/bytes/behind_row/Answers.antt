-- The row begins where the document's next byte stands.
use Rattle.std.proofs.Common.{◌∙◌, ℕ, ◌+◌, ◌++◌, ◌∷◌, [], arith, sym, ap}
use Rattle.content_checks.proofs.Tested.{same_places, nothing_there, ok_is}
use Rattle.content_checks.proofs.bytes.behind_row.Goals as goal

pub returns-clause-some : goal.returns-clause-some
returns-clause-some c = record {
  first =
      same_places c.args.row.now.first c.unwrap-start.result (sym c.ne.ensures ∙ c.if-ne.false)
      ∙ ok_is c.extended.result c.unwrap-start.result (c.args.document.now.document ++ 0 ∷ 1 ∷ (c.args.done + 1) ∷ []) c.unwrap-start.ensures c.extended.ensures.value;
  second = sym c.places.ensures.value ∙ nothing_there c.places.result.now (sym c.is_empty.ensures ∙ c.if-not-is_empty.false);
  filled = omega (arith, c.if-bytes-eq0.false, c.len-bytes.ensures);
  short = omega (arith, c.if-bytes-gt-MOST_ROW_BYTES.false, c.len-bytes.ensures);
  now_is = ap (λ (n : ℕ). c.args.done + n) c.len-bytes.ensures;
  fits = omega (arith, c.if-bytes-content.false, c.requires.more);
}
