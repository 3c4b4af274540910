use Rattle.std.proofs.Common.{◌≡◌, ◌-◌, ℕ, List, length, take, count_by, ap, ◌∙◌, arith}
use Rattle.world_rules.specs.declared.rows.ByteRow.{ByteRow}
use Rattle.world_rules.specs.World.{is_child_of, content_length_of}
use Rattle.world_rules.proofs.Fronts.{front-content}
use Rattle.flat_rows.proofs.search.next_content.Goals as goal

pub returns-clause-accepted : goal.returns-clause-accepted
returns-clause-accepted c short few =
    let count : c.content_children.result ≡ content_length_of c.args.bytes.now c.args.document.now = c.content_children.ensures
    ∙ ap (λ (front : List ℕ). count_by (λ (b : ByteRow). is_child_of front b.address) c.args.bytes.now) (c.front_of.ensures ∙ ap (λ (xs : List ℕ). take (length xs - 1) xs) c.in_ok-first.ensures.value ∙ front-content c.args.document.now) in
    c.one_more_than.ensures.accepted (omega (arith, count, few))
