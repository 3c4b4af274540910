use Rattle.page_tables.specs.Plain.{plain_tables}
use Rattle.paged_world.proofs.Compared.{own_roots}
use Rattle.paged_world.proofs.comparing.holds_same.Goals as goal

pub same_texts-requires-clause-one : goal.same_texts-requires-clause-one
same_texts-requires-clause-one c =
    own_roots c.args.world.now c.pooms.result.now (plain_tables c.in_ok-own.own) c.as_slice-rows.result.now c.pooms.ensures c.in_ok-own.ensures c.as_slice-rows.ensures c.trees_are_sound.ensures.0
