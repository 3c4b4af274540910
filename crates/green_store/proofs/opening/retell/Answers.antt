-- The entry does not fit, and those before it do; or one more is told.
use Rattle.std.proofs.Common.{◌≡◌, ◌+◌, ℕ, take, refl, subst, arith}
use Rattle.febe_data.specs.Plain.{plain_entry, plain_history}
use Rattle.tree_world.proofs.Grown.{all_same, all_again}
use Rattle.green_store.specs.Replayed.{AreTold}
use Rattle.green_store.proofs.GoneOn.{one_told}
use Rattle.green_store.proofs.Openings.{unfit_at, passed}
use Rattle.green_store.proofs.opening.retell.Goals as goal

pub returns-then-not-branch : goal.returns-then-not-branch
returns-then-not-branch g c =
    let past = plain_history (take c.loop-count.count c.args.entries.now) in
    record {
      told =
          unfit_at c.args.entries.now c.loop-count.count c.index-entries-count.result c.in_ok-fits.field-0 (omega (arith, c.loop-count-test.true, c.requires.within)) c.index-entries-count.is c.loop-count.invariant.told.fit
          (c.in_ok-fits.ensures past c.loop-count.invariant.told.stood (c.greatest.ensures past c.loop-count.invariant.told.noted))
          c.if-not-branch.true;
      idle = λ same. absurd (omega (arith, same, c.loop-count-test.true, c.loop-count.auto.count));
    }

pub loop-count-preserved : goal.loop-count-preserved
loop-count-preserved g c =
    let past = plain_history (take c.loop-count.count c.args.entries.now) in
    let told = c.loop-count.invariant.told in
    let fits = (c.in_ok-fits.ensures past told.stood (c.greatest.ensures past told.noted)).0 c.if-not-branch.false in
    record {
      told =
          one_told c.one_more_fits.ensures past (plain_history (take (c.loop-count.count + 1) c.args.entries.now)) (plain_entry c.index-entries-count.result) (g.W.LookUp.stands c.loop-count.world) (g.W.LookUp.stands c.retell_one.new.world) c.loop-count.serials c.retell_one.new.serials
          (passed c.args.entries.now c.loop-count.count c.index-entries-count.result (omega (arith, c.loop-count-test.true, c.requires.within)) c.index-entries-count.is)
          told fits c.in_ok-swept.ensures.stands c.in_ok-swept.ensures.noted;
      nodes = λ none. let both = c.in_ok-swept.ensures.nodes none in all_again _ _ _ (c.loop-count.invariant.nodes both.0) both.1;
      idle = λ same. absurd (omega (arith, same, c.loop-count.auto.count));
    }

pub loop-count-init : goal.loop-count-init
loop-count-init g c = record { told = c.requires.told; nodes = λ none. all_same _; idle = λ same. refl }

pub returns : goal.returns
returns g c =
    let end : c.loop-count.count ≡ c.args.to = omega (arith, c.loop-count-test.false, c.loop-count.auto.count-end c.requires.order) in
    record {
      told = (subst (λ (n : ℕ). AreTold (plain_history (take n c.args.entries.now)) (g.W.LookUp.stands c.loop-count.world) c.loop-count.serials) end c.loop-count.invariant.told, c.loop-count.invariant.nodes);
      idle = λ same. c.loop-count.invariant.idle (omega (arith, same, end));
    }
