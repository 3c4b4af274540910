use Rattle.std.proofs.Common.{◌≡◌, ℕ, ◌+◌, ◌<◌, ◌∙◌, arith, ap, sym}
use Rattle.std.specs.Prelude.{Option, if◌then◌else◌}
use Rattle.std.specs.Option.{is_some}
use Rattle.std.specs.BTreeMap.{btree_map_len}
use Rattle.poom_compare.specs.Placed.{AreNumbers, number_in}
use Rattle.poom_compare.proofs.Numbers.{numbers_are, numbers_keep, next_here, found_number, same_numbers}
use Rattle.poom_compare.proofs.numbering.number.Goals as goal

pub returns : goal.returns
returns c =
    let old = c.args.numbers.now in
    let new = c.insert.new.self in
    let document = c.args.document.now in
    let none : number_in old document ≡ 0 = sym c.number_in-number.ensures ∙ c.if-number-ne0.false in
    let is_next : c.len-count.result + 1 ≡ btree_map_len old + 1 = ap (λ (n : ℕ). n + 1) c.len-count.ensures.len in
    let updates = rw c.copy.ensures at c.in_ok-insert.ensures.updates in
    let gone = rw c.copy.ensures at c.in_ok-insert.ensures.old in
    let long : btree_map_len new ≡ btree_map_len old + 1 = c.in_ok-insert.ensures.len ∙ ap (λ (o : Option ℕ). btree_map_len old + (if is_some o then 0 else 1)) (gone ∙ c.requires.none document none) in
    let here : number_in new document ≡ c.len-count.result + 1 = next_here old new document (c.len-count.result + 1) c.requires none is_next updates in
    let room : btree_map_len old < 1073741823 = omega (arith, c.if-count-ge-MOST_CONTENTS.false, c.len-count.ensures.len) in
    let are : AreNumbers new = numbers_are old new document (c.len-count.result + 1) c.requires none is_next updates long room in
    record {
      numbers = are;
      keeps = numbers_keep old new document (c.len-count.result + 1) c.requires none is_next updates;
      has = found_number new document are (λ z. omega arith);
      number = sym here;
    }

pub returns-then-number-ne0 : goal.returns-then-number-ne0
returns-then-number-ne0 c = record {
  numbers = c.requires;
  keeps = same_numbers c.args.numbers.now;
  has = found_number c.args.numbers.now c.args.document.now c.requires (λ z. c.if-number-ne0.true (c.number_in-number.ensures ∙ z));
  number = c.number_in-number.ensures;
}
