use Rattle.std.proofs.Common.{ap, ◌∙◌, ◌+◌}
use Rattle.crossbeam_channel.specs.Claims.{view}
use Rattle.session_pool.proofs.Balances.{merges}
use Rattle.session_pool.proofs.Standings.{stands_both}
use Rattle.session_pool.proofs.gather.take_in.Goals as goal

pub absorb-requires-clause-rule : goal.absorb-requires-clause-rule
absorb-requires-clause-rule g c = merges _ _ _ _ c.requires.part

pub returns-clause-parts : goal.returns-clause-parts
returns-clause-parts g c = ap (λ h. h.parts) c.absorb.ensures.rule ∙ ap (λ n. (view c.args.own.seat).parts + n) c.requires.worked.parts

pub returns-clause-all : goal.returns-clause-all
returns-clause-all g c given v s = stands_both g.L.IssuePasses.owner v _ _ _ given _ _ _ _ _ _ s c.requires.worked c.end.ensures.taken_in c.add.ensures c.absorb.ensures.rule
