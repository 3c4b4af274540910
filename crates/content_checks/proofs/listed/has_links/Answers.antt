-- The last of the links was looked for.
use Rattle.std.proofs.Common.{◌+◌, ◌-◌, ◌++◌, ◌∷◌, [], arith}
use Rattle.content_checks.specs.inside.Steps.{piece_of}
use Rattle.content_checks.proofs.Tested.{ok_is}
use Rattle.content_checks.proofs.ListedLinks.{not_there, there_or_not}
use Rattle.content_checks.proofs.listed.has_links.Goals as goal

pub returns-then-at-links : goal.returns-then-at-links
returns-then-at-links c =
    not_there c.args.links.now (piece_of c.args.shown.now) c.requires.right c.requires.links c.place_of_link-at.result c.unwrap-last.result
    (ok_is c.extended.result c.unwrap-last.result (c.args.shown.now.document ++ 0 ∷ 2 ∷ (c.args.shown.now.first + (c.args.shown.now.count - 1)) ∷ []) c.unwrap-last.ensures c.extended.ensures.value)
    c.place_of_link-at.ensures (λ d lt. absurd (omega (arith, lt, c.if-at-links.true)))

pub returns : goal.returns
returns c =
    there_or_not c.args.links.now (piece_of c.args.shown.now) c.requires.right c.requires.links c.place_of_link-at.result c.index-links-at.result c.unwrap-last.result c.eq.result
    (ok_is c.extended.result c.unwrap-last.result (c.args.shown.now.document ++ 0 ∷ 2 ∷ (c.args.shown.now.first + (c.args.shown.now.count - 1)) ∷ []) c.unwrap-last.ensures c.extended.ensures.value)
    c.place_of_link-at.ensures c.if-at-links.false c.index-links-at.is c.eq.ensures
