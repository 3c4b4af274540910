use Rattle.std.proofs.Common.{◌∙◌, ◌≤◌, ap, sym, subst}
use Rattle.std.specs.List.{insert, prefix_len}
use Rattle.links.specs.LinkLists.{has_in, plain_link}
use Rattle.links.specs.declared.row.LinkRow as kept
use Rattle.links.specs.inside.Kept.{is_before}
use Rattle.links.proofs.Changed.{place_fits, add_holds, add_shows, room_below}
use Rattle.links.proofs.table.Table.add.Goals as goal

pub insert-requires : goal.insert-requires
insert-requires c = subst (λ n. c.place-at.result ≤ n) (c.as_slice.ensures.len ∙ sym c.in_ok-reserve.ensures.len) (place_fits c.args.link.id c.as_slice.result.now c.place-at.result c.place-at.ensures)

pub invariant_of-self-2 : goal.invariant_of-self-2
invariant_of-self-2 c =
    add_holds c.args.link.id c.self.inside.links.items c.place-at.result c.in_ok-boxed.boxed (c.place-at.ensures ∙ ap (prefix_len (is_before c.args.link.id)) c.as_slice.ensures.value) (ap (λ (link : kept.LinkRow). link.id) c.in_ok-boxed.ensures.ok)
    (ap (λ links. has_in links c.args.link.id) c.self.view_is ∙ c.requires.absent) c.insert.new.self.items c.copy-home.result c.self.inside.homes c.count_up.new.counts
    (c.in-Ok.ensures.items ∙ ap (λ xs. insert xs c.place-at.result c.in_ok-boxed.boxed) c.in_ok-reserve.ensures.items) (room_below c.self.inside.links.items c.args.self.now c.self.view_is c.requires.room)
    (c.copy-home.ensures ∙ sym (ap (λ (link : kept.LinkRow). link.home) c.in_ok-boxed.ensures.ok)) c.self.invariant c.in_ok-count_up.ensures.counted

pub returns-clause-added : goal.returns-clause-added
returns-clause-added c =
    add_shows c.args.link.id c.self.inside.links.items c.place-at.result c.in_ok-boxed.boxed (c.place-at.ensures ∙ ap (prefix_len (is_before c.args.link.id)) c.as_slice.ensures.value) (ap (λ (link : kept.LinkRow). link.id) c.in_ok-boxed.ensures.ok)
    (ap (λ links. has_in links c.args.link.id) c.self.view_is ∙ c.requires.absent) c.insert.new.self.items c.args.self.now (plain_link c.args.link) (ap plain_link c.in_ok-boxed.ensures.ok)
    (c.in-Ok.ensures.items ∙ ap (λ xs. insert xs c.place-at.result c.in_ok-boxed.boxed) c.in_ok-reserve.ensures.items) c.self.view_is
