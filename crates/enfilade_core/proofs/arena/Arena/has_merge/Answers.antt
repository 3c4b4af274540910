use Rattle.std.proofs.Common.{◌-◌, arith, ◌∙◌, sym}
use Rattle.enfilade_core.specs.BalanceState.{balance_states, balance_states_below}
use Rattle.enfilade_core.proofs.Merges.{merge-found, merge-more, merge-one, merge-all}
use Rattle.enfilade_core.proofs.arena.Arena.has_merge.Goals as goal

pub balance_state-first-requires : goal.balance_state-first-requires
balance_state-first-requires g c = c.requires (c.loop-k.k - 1) c.index-branches-k.result (omega arith)

pub balance_state-second-requires : goal.balance_state-second-requires
balance_state-second-requires g c = c.requires c.loop-k.k c.index-branches-k-in-loop-k.result c.loop-k-test.true

pub returns-then-may_merge : goal.returns-then-may_merge
returns-then-may_merge g c =
    sym (merge-found (balance_states c.args.self.now) c.args.branches.now c.loop-k.k c.index-branches-k.result c.index-branches-k-in-loop-k.result c.balance_state-first.result c.balance_state-second.result
    record { some = c.loop-k.auto.k; short = c.loop-k-test.true; first = c.balance_state-first.ensures; second = c.balance_state-second.ensures } (sym c.may_merge.ensures ∙ c.if-may_merge.true))

pub loop-k-init : goal.loop-k-init
loop-k-init g c = merge-one (balance_states_below (balance_states c.args.self.now) c.args.branches.now)

pub loop-k-preserved : goal.loop-k-preserved
loop-k-preserved g c =
    merge-more (balance_states c.args.self.now) c.args.branches.now c.loop-k.k c.index-branches-k.result c.index-branches-k-in-loop-k.result c.balance_state-first.result c.balance_state-second.result
    record { some = c.loop-k.auto.k; short = c.loop-k-test.true; first = c.balance_state-first.ensures; second = c.balance_state-second.ensures } (sym c.may_merge.ensures ∙ c.if-may_merge.false) c.loop-k.invariant

pub returns : goal.returns
returns g c = sym (merge-all (balance_states c.args.self.now) c.args.branches.now c.loop-k.k c.loop-k-test.false c.loop-k.invariant)
