use Rattle.std.proofs.Common.{◌∙◌, ◌-◌, ◌^◌, ℕ, map, min, ap}
use Rattle.febe_data.specs.Plain.{plain_spec}
use Rattle.tree_world.proofs.Sizes.{bytes_total, items_total}
use Rattle.tree_world.proofs.world.TreeWorld.size_of.Goals as goal

pub returns-clause-bytes : goal.returns-clause-bytes
returns-clause-bytes c view stands = c.specs_size.ensures.bytes ∙ ap (λ (n : ℕ). min n (2 ^ 64 - 1)) (bytes_total c.args.self.now view stands (map plain_spec c.args.specs.now))

pub returns-clause-items : goal.returns-clause-items
returns-clause-items c view stands = c.specs_size.ensures.items ∙ ap (λ (n : ℕ). min n (2 ^ 64 - 1)) (items_total c.args.self.now view stands (map plain_spec c.args.specs.now))
