-- The row stands at its position, and shows a piece.
use Rattle.std.proofs.Common.{◌∙◌, arith, sym}
use Rattle.content_checks.specs.inside.Steps.{piece_of}
use Rattle.content_checks.proofs.Tested.{same_places}
use Rattle.content_checks.proofs.parts.behind_piece.Goals as goal

pub returns-clause-some : goal.returns-clause-some
returns-clause-some c = record {
  first = same_places c.args.row.now.first c.place_at-place.result (sym c.ne.ensures ∙ c.if-ne.false) ∙ c.place_at-place.ensures;
  piece = piece_of c.in-Some.shown;
  shows = c.in-Some.ensures.some;
  next_is = let leaf = c.in-Some.ensures.some.leaf in omega arith;
  fits = omega (arith, c.requires.room);
}
