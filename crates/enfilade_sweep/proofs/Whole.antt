-- The copies of all marked nodes are the sweep.
use Rattle.std.proofs.Common.{◌≡◌, ◌∙◌, ℕ, ◌+◌, ◌<◌, ◌||◌, Bool, true, List, [], ◌∷◌, length, map, get_or, ap, refl, arith}
use Rattle.std.specs.Prelude.{All}
use Rattle.std.specs.List.{Contains}
use Rattle.std.proofs.lemmas.List.{get_or-map, length-map}
use Rattle.std.proofs.lemmas.List.Elements.{All-head, All-tail, Contains-get_or}
use Rattle.enfilade_core.specs.declared.tree.Node.{Node}
use Rattle.enfilade_core.specs.declared.balance_state.BalanceState.{BalanceState}
use Rattle.enfilade_core.specs.declared.summary.Summary.{Summary}
use Rattle.enfilade_core.specs.Rows.{Shape, node_at, rows_of, rows_in, branches_under}
use Rattle.enfilade_core.specs.Axes.{Widths}
use Rattle.enfilade_core.specs.WellFormed.{AreWellFormed}
use Rattle.enfilade_core.specs.Summary.{summary_in, no_summary, depth_of}
use Rattle.enfilade_core.specs.BalanceState.{no_balance_state, balance_states, balance_state_in, balance_state_of, root_debt, has_lone_child, tree_debt, tree_allows}
use Rattle.enfilade_core.proofs.Locals.{rows_local, summary_local, balance_state_local}
use Rattle.enfilade_sweep.specs.Sweep.{Reached, is_root, hangs, numbers, IsSwept}
use Rattle.enfilade_core.specs.NewNumbers.{is_marked, rank, AreAtRanks, IsClosed, AreRanks}
use Rattle.enfilade_sweep.specs.Marks.{AreMarked}
use Rattle.enfilade_core.proofs.Naming.{SaidThere, rows_natural, summary_natural, balance_state_natural, debt_natural, lone_natural}
use Rattle.enfilade_core.proofs.Ranks.{marked_within, rank_once, rank_only}
use Rattle.enfilade_core.proofs.AtRanks.{under_marked, inside, agree}

map-alike : {X : Type 0} (f g : ℕ → X) (ks : List ℕ) → All (λ k. f k ≡ g k) ks → map f ks ≡ map g ks
map-alike f g [] h = refl
map-alike f g (k ∷ ks) h =
    ap (λ (x : _). x ∷ map f ks) (All-head (λ (i : ℕ). f i ≡ g i) k ks h) ∙ ap (λ (r : List _). g k ∷ r) (map-alike f g ks (All-tail (λ (i : ℕ). f i ≡ g i) k ks h))

map-map : {X : Type 0} (f : ℕ → ℕ) (g : ℕ → X) (ks : List ℕ) → map g (map f ks) ≡ map (λ k. g (f k)) ks
map-map f g [] = refl
map-map f g (k ∷ ks) = ap (λ (r : List _). g (f k) ∷ r) (map-map f g ks)

-- all that is reached is marked
pub reached_marked : {L : Type 0} (old : List (Shape L)) (roots : List ℕ) (marks : List Bool) → AreMarked old roots marks 0 → (k : ℕ) → Reached old roots k → is_marked marks k ≡ true
reached_marked old roots marks m k (is_root c) = m.rooted k c
reached_marked old roots marks m k (hangs {j = j} r c) = m.closed j k (omega arith) (reached_marked old roots marks m j r) c

module _ {L : Type 0} (w : Widths L) (old new : List (Shape L)) (roots : List ℕ) (marks : List Bool) (ranks : List ℕ) (well_formed_old : AreWellFormed w old) (well_formed_new : AreWellFormed w new) (marked : AreMarked old roots marks 0) (exact : AreRanks marks ranks)
    (copied : AreAtRanks marks old new (length old)) where
  pub closed : IsClosed old marks
  closed j k here c = marked.closed j k (omega arith) here c

  within : (k : ℕ) → is_marked marks k ≡ true → k < length old
  within k here = let lt = marked_within marks k here in omega (arith, lt, marked.long)

  roots_marked : All (λ k. is_marked marks k ≡ true) roots
  roots_marked i d lt = marked.rooted (get_or roots i d) (Contains-get_or roots i d lt)

  pub root_there : (k : ℕ) → is_marked marks k ≡ true → get_or ranks k 0 < length new
  root_there k here =
      let lt = within k here in
      let e = exact.1 k (marked_within marks k here) in
      let t = inside w marks old new (length old) well_formed_old well_formed_new closed copied (omega arith) k lt here in
      omega (arith, e, t)

  placed : map (λ k. get_or ranks k 0) roots ≡ map (rank marks) roots
  placed = map-alike (λ k. get_or ranks k 0) (rank marks) roots (λ i d lt. exact.1 (get_or roots i d) (marked_within marks (get_or roots i d) (roots_marked i d lt)))

  pub is_swept : (new_roots : List ℕ) → new_roots ≡ map (λ k. get_or ranks k 0) roots → IsSwept old roots new new_roots
  is_swept new_roots is = record {
    place = rank marks;
    there = λ k r. let here = reached_marked old roots marks marked k r in inside w marks old new (length old) well_formed_old well_formed_new closed copied (omega arith) k (within k here) here;
    once = λ j k r s. rank_once marks j k (reached_marked old roots marks marked j r) (reached_marked old roots marks marked k s);
    only = λ p lt. let found = rank_only marks (length old) p (omega (arith, lt, copied.long)) in (found.0, marked.sound found.0 found.1, found.2);
    same = λ k r. let here = reached_marked old roots marks marked k r in copied.same k (within k here) here;
    at = is ∙ placed;
  }

  pub same_rows : (new_roots : List ℕ) → new_roots ≡ map (λ k. get_or ranks k 0) roots → map (rows_of new) new_roots ≡ map (rows_of old) roots
  same_rows new_roots is =
      ap (map (rows_of new)) (is ∙ placed) ∙ map-map (rank marks) (rows_of new) roots
      ∙ map-alike (λ k. rows_of new (rank marks k)) (rows_of old) roots
      (λ i d lt. let here = roots_marked i d lt in
      agree w marks old new (length old) well_formed_old well_formed_new closed copied (omega arith) rows_in [] rows_local rows_natural (get_or roots i d) (within (get_or roots i d) here) here)

  -- what is so of each root's node is so of it at its place
  same_each : {X : Type 0} (f g : ℕ → X) → ((k : ℕ) → k < length old → is_marked marks k ≡ true → f (rank marks k) ≡ g k) → (new_roots : List ℕ) → new_roots ≡ map (λ k. get_or ranks k 0) roots → map f new_roots ≡ map g roots
  same_each f g same new_roots is =
      ap (map f) (is ∙ placed) ∙ map-map (rank marks) f roots
      ∙ map-alike (λ k. f (rank marks k)) g roots (λ i d lt. let here = roots_marked i d lt in same (get_or roots i d) (within (get_or roots i d) here) here)

  stood_there : (k : ℕ) → k < length old → is_marked marks k ≡ true → All (SaidThere (rank marks) no_balance_state (balance_states new) (balance_states old)) (branches_under (node_at old k))
  stood_there k lt here i b inside_it =
      let c = under_marked w marks old k well_formed_old closed lt here i b inside_it in
      let m = (get_or (branches_under (node_at old k)) i b).node.0 in
      agree w marks old new (length old) well_formed_old well_formed_new closed copied (omega arith) balance_state_in no_balance_state balance_state_local balance_state_natural m (omega (arith, c.0, lt)) c.1

  pub same_debts : (new_roots : List ℕ) → new_roots ≡ map (λ k. get_or ranks k 0) roots → map (tree_debt new) new_roots ≡ map (tree_debt old) roots
  same_debts = same_each (tree_debt new) (tree_debt old) (λ k lt here.
      ap (root_debt (balance_states new)) (copied.same k lt here) ∙ debt_natural (rank marks) (balance_states new) (balance_states old) (node_at old k) (stood_there k lt here))

  pub same_allowed : (new_roots : List ℕ) → new_roots ≡ map (λ k. get_or ranks k 0) roots → map (tree_allows new) new_roots ≡ map (tree_allows old) roots
  same_allowed = same_each (tree_allows new) (tree_allows old) (λ k lt here.
      ap (λ (s : BalanceState). s.allows || has_lone_child (node_at new (rank marks k))) (agree w marks old new (length old) well_formed_old well_formed_new closed copied (omega arith) balance_state_in no_balance_state balance_state_local balance_state_natural k lt here)
      ∙ ap (λ (b : Bool). (balance_state_of old k).allows || b) (ap has_lone_child (copied.same k lt here) ∙ lone_natural (rank marks) (node_at old k)))

  pub same_depths : (new_roots : List ℕ) → new_roots ≡ map (λ k. get_or ranks k 0) roots → map (depth_of w new) new_roots ≡ map (depth_of w old) roots
  same_depths = same_each (depth_of w new) (depth_of w old) (λ k lt here.
      ap (λ (s : Summary). s.height + 1) (agree w marks old new (length old) well_formed_old well_formed_new closed copied (omega arith) (summary_in w) no_summary (summary_local w) (summary_natural w) k lt here))

-- of the roots as nodes
pub roots_there : (nodes : List Node) (marks : List Bool) (ranks : List ℕ) (n : ℕ) → ((k : ℕ) → Contains (numbers nodes) k → is_marked marks k ≡ true) → ((k : ℕ) → is_marked marks k ≡ true → get_or ranks k 0 < n) → All (λ (root : Node). get_or ranks root.0 0 < n) nodes
roots_there nodes marks ranks n rooted there i d lt =
    let number : Node → ℕ = λ node. node.0 in
    there (get_or nodes i d).0 (rooted (get_or nodes i d).0 (i, omega (arith, lt, length-map nodes number), get_or-map number nodes i d (get_or nodes i d).0 lt))
