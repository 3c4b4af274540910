use Rattle.std.proofs.Common.{◌≡◌, ◌+◌, ◌-◌, ℕ, List, [], ◌∷◌, ◌++◌, length, take, count_by, ap, ◌∙◌, sym, arith, true≢false}
use Rattle.world_rules.specs.World.{is_child_of}
use Rattle.world_rules.proofs.Fronts.{front-document}
use Rattle.flat_rows.proofs.Lasts.{last_small}
use Rattle.flat_rows.proofs.search.next_document.Goals as goal

pub returns-in_err-number-clause-accepted : goal.returns-in_err-number-clause-accepted
returns-in_err-number-clause-accepted c tumbler =
    let front : List ℕ = c.args.account.now ++ 0 ∷ [] in
    let count : c.children_among.result ≡ count_by (is_child_of front) c.args.documents.now = c.children_among.ensures
    ∙ ap (λ (xs : List ℕ). count_by (is_child_of xs) c.args.documents.now) (c.front_of.ensures ∙ ap (λ (xs : List ℕ). take (length xs - 1) xs) c.in_ok-first.ensures.value ∙ front-document c.args.account.now) in
    absurd (true≢false (sym (c.in_err-number.ensures.accepted (omega (arith, count, last_small front (count_by (is_child_of front) c.args.documents.now + 1) tumbler)))))
