use Rattle.std.proofs.Common.{ap, sym, subst, not}
use Rattle.std.specs.List.{All}
use Rattle.std.proofs.lemmas.List.Elements.{All-filter}
use Rattle.world_rules.specs.World.{LinkRow}
use Rattle.links.specs.LinkLists.{LinkLists, IsLink, is_of}
use Rattle.links.proofs.EndsKept.{taken_back}
use Rattle.links.proofs.links.Links.back.Goals as goal

pub invariant_of-self : goal.invariant_of-self
invariant_of-self c =
    let links = ap (λ (v : LinkLists). v.links) c.self.view_is in (
      subst (All IsLink) (sym c.remove.ensures) (All-filter (λ (l : LinkRow). not (is_of c.args.id.now l)) IsLink c.self.inside.table c.self.invariant.0),
      taken_back 1 c.args.id.now c.args.marks.now.from c.self.inside.table c.args.self.now.links c.remove.new.self c.self.inside.from c.args.self.now.from c.back.new.self links (ap (λ (v : LinkLists). v.from) c.self.view_is) c.remove.ensures c.back.ensures.value c.requires.from,
      taken_back 2 c.args.id.now c.args.marks.now.to c.self.inside.table c.args.self.now.links c.remove.new.self c.self.inside.to c.args.self.now.to c.back-2.new.self links (ap (λ (v : LinkLists). v.to) c.self.view_is) c.remove.ensures c.back-2.ensures.value c.requires.to,
      taken_back 3 c.args.id.now c.args.marks.now.three c.self.inside.table c.args.self.now.links c.remove.new.self c.self.inside.three c.args.self.now.three c.back-3.new.self links (ap (λ (v : LinkLists). v.three) c.self.view_is) c.remove.ensures c.back-3.ensures.value c.requires.three,
    )
