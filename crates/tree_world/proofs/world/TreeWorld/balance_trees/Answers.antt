use Rattle.tree_world.proofs.SameRows.{stands_over}
use Rattle.tree_world.proofs.Grown.{all_again}
use Rattle.tree_world.proofs.world.TreeWorld.balance_trees.Goals as goal

pub returns-then-branch-clause-stands : goal.returns-then-branch-clause-stands
returns-then-branch-clause-stands c view stands =
    stands_over c.args.self.now c.balance_contents.new.self c.balance_contents.ensures.same view stands

pub returns-then-branch-2-clause-stands : goal.returns-then-branch-2-clause-stands
returns-then-branch-2-clause-stands c view stands =
    stands_over c.balance_contents.new.self c.balance_index.new.self c.balance_index.ensures.same view (stands_over c.args.self.now c.balance_contents.new.self c.balance_contents.ensures.same view stands)

pub returns-then-branch-3-clause-stands : goal.returns-then-branch-3-clause-stands
returns-then-branch-3-clause-stands c view stands =
    stands_over c.balance_index.new.self c.balance_end.new.self c.balance_end.ensures.same view (stands_over c.balance_contents.new.self c.balance_index.new.self c.balance_index.ensures.same view (stands_over c.args.self.now c.balance_contents.new.self c.balance_contents.ensures.same view stands))

pub returns-then-branch-4-clause-stands : goal.returns-then-branch-4-clause-stands
returns-then-branch-4-clause-stands c view stands =
    stands_over c.balance_end.new.self c.balance_end-2.new.self c.balance_end-2.ensures.same view (stands_over c.balance_index.new.self c.balance_end.new.self c.balance_end.ensures.same view (stands_over c.balance_contents.new.self c.balance_index.new.self c.balance_index.ensures.same view (stands_over c.args.self.now c.balance_contents.new.self c.balance_contents.ensures.same view stands)))

pub returns-then-branch-5-clause-stands : goal.returns-then-branch-5-clause-stands
returns-then-branch-5-clause-stands c view stands =
    stands_over c.balance_end-2.new.self c.balance_end-3.new.self c.balance_end-3.ensures.same view (stands_over c.balance_end.new.self c.balance_end-2.new.self c.balance_end-2.ensures.same view (stands_over c.balance_index.new.self c.balance_end.new.self c.balance_end.ensures.same view (stands_over c.balance_contents.new.self c.balance_index.new.self c.balance_index.ensures.same view (stands_over c.args.self.now c.balance_contents.new.self c.balance_contents.ensures.same view stands))))

pub returns-clause-stands : goal.returns-clause-stands
returns-clause-stands c view stands =
    stands_over c.balance_end-3.new.self c.balance_documents.new.self c.balance_documents.ensures.same view (stands_over c.balance_end-2.new.self c.balance_end-3.new.self c.balance_end-3.ensures.same view (stands_over c.balance_end.new.self c.balance_end-2.new.self c.balance_end-2.ensures.same view (stands_over c.balance_index.new.self c.balance_end.new.self c.balance_end.ensures.same view (stands_over c.balance_contents.new.self c.balance_index.new.self c.balance_index.ensures.same view (stands_over c.args.self.now c.balance_contents.new.self c.balance_contents.ensures.same view stands)))))

pub returns-then-branch-clause-grown : goal.returns-then-branch-clause-grown
returns-then-branch-clause-grown c = c.balance_contents.ensures.grown

pub returns-then-branch-2-clause-grown : goal.returns-then-branch-2-clause-grown
returns-then-branch-2-clause-grown c = all_again _ _ _ (c.balance_contents.ensures.grown) c.balance_index.ensures.grown

pub returns-then-branch-3-clause-grown : goal.returns-then-branch-3-clause-grown
returns-then-branch-3-clause-grown c = all_again _ _ _ (all_again _ _ _ (c.balance_contents.ensures.grown) c.balance_index.ensures.grown) c.balance_end.ensures.grown

pub returns-then-branch-4-clause-grown : goal.returns-then-branch-4-clause-grown
returns-then-branch-4-clause-grown c = all_again _ _ _ (all_again _ _ _ (all_again _ _ _ (c.balance_contents.ensures.grown) c.balance_index.ensures.grown) c.balance_end.ensures.grown) c.balance_end-2.ensures.grown

pub returns-then-branch-5-clause-grown : goal.returns-then-branch-5-clause-grown
returns-then-branch-5-clause-grown c = all_again _ _ _ (all_again _ _ _ (all_again _ _ _ (all_again _ _ _ (c.balance_contents.ensures.grown) c.balance_index.ensures.grown) c.balance_end.ensures.grown) c.balance_end-2.ensures.grown) c.balance_end-3.ensures.grown

pub returns-clause-grown : goal.returns-clause-grown
returns-clause-grown c = all_again _ _ _ (all_again _ _ _ (all_again _ _ _ (all_again _ _ _ (all_again _ _ _ (c.balance_contents.ensures.grown) c.balance_index.ensures.grown) c.balance_end.ensures.grown) c.balance_end-2.ensures.grown) c.balance_end-3.ensures.grown) c.balance_documents.ensures.grown
