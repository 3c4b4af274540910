use Rattle.std.proofs.Common.{◌≡◌, ◌∙◌, ◌<◌, ◌≤◌, Some, ap, sym, subst, ltb-true, ltb-false, get_or}
use Rattle.std.specs.Prelude.{slice_get, length}
use Rattle.links.specs.LinkLists.{plain_link}
use Rattle.links.proofs.Changed.{nth_some, nth_none}
use Rattle.links.proofs.table.Table.nth.Goals as goal

pub returns-in-Some : goal.returns-in-Some
returns-in-Some c =
    let items = c.as_slice.ensures.value in
    let within = subst (λ xs. c.args.k < length xs) items (ltb-true c.args.k (length c.as_slice.result.now) (sym c.in-Some.ensures.lookup.0)) in
    ap (λ link. Some (plain_link link)) c.deref.ensures
    ∙ nth_some c.self.inside.links.items c.args.k c.in-Some.link.now within (subst (λ xs. c.in-Some.link.now ≡ get_or xs c.args.k c.in-Some.link.now) items c.in-Some.ensures.lookup.1)
    ∙ ap (λ links. slice_get links c.args.k) c.self.view_is

pub returns-in-None : goal.returns-in-None
returns-in-None c =
    nth_none c.self.inside.links.items c.args.k (subst (λ xs. length xs ≤ c.args.k) c.as_slice.ensures.value (ltb-false c.args.k (length c.as_slice.result.now) (sym c.in-None.ensures.lookup.0)))
    ∙ ap (λ links. slice_get links c.args.k) c.self.view_is
