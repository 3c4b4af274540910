-- New roots: their rows, and what they owe.
use Rattle.std.proofs.Common.{◌≡◌, ◌≢◌, ℕ, zero, suc, ◌+◌, ◌<◌, ◌≤◌, Bool, List, [], ◌∷◌, ◌++◌, length, get_or, map, refl, arith, ap, ◌∙◌, sym, subst, append-nil}
use Rattle.std.proofs.lemmas.List.{get_or_at}
use Rattle.tumbler.specs.Places.{sum}
use Rattle.tumbler.proofs.Sums.{sum-from_zero}
use Rattle.enfilade_core.specs.declared.tree.Row.{Row}
use Rattle.enfilade_core.specs.declared.tree.Branch.{Branch}
use Rattle.enfilade_core.specs.declared.balance_state.BalanceState.{BalanceState}
use Rattle.enfilade_core.specs.Rows.{Shape, Rows, Branches, branch_rows, rows_in, rows_table, rows_of, node_at}
use Rattle.enfilade_core.specs.Axes.{Widths, InOrder}
use Rattle.enfilade_core.specs.WellFormed.{IsWellFormed, IsWellFormedPart, AreWellFormed}
use Rattle.enfilade_core.specs.Exchange.{Grows, IsOpened, branch_at}
use Rattle.enfilade_core.specs.BalanceState.{node_debt, balance_states, balance_state_in, balance_state_of, root_debt, tree_debt}
use Rattle.enfilade_core.proofs.Nodes.{node-parts}
use Rattle.enfilade_core.proofs.Parts.{well_formed-now}
use Rattle.enfilade_core.proofs.PackedBranches.{well_formed-if_parts}
use Rattle.enfilade_core.proofs.Rooted.{grows_push, rooted, seen_from_root}
use Rattle.enfilade_balance.specs.OneStep.{children_at, children_of, Steps, SplitsRoot, StepsBelow, DropsRoot}
use Rattle.enfilade_balance.specs.Path.{debt_below, own_debt, InTwo, IsHalved, IsRootOf, IsLighter}
use Rattle.enfilade_balance.proofs.Over.{children-grown, split-grown, steps-grown}
use Rattle.enfilade_balance.proofs.Owed.{debt-grown, debt-one, balance_state-said}
use Rattle.enfilade_balance.proofs.Merged.{Opens}
use Rattle.enfilade_balance.proofs.Replaced.{own-many}

-- a node that was added last
pub record IsLast {L : Type 0} (old new : List (Shape L)) (node : Shape L) (root : ℕ) : Type 0 where
  pub is : new ≡ old ++ node ∷ []
  pub at : root ≡ length old

pub last-root : {L : Type 0} (old new : List (Shape L)) (node : Shape L) (root : ℕ) (rows : List (Row L)) → IsLast old new node root → rows_in (rows_table old) node ≡ rows → IsRootOf new rows root
last-root old new node root rows last is =
    let r = rooted old new node root last.is last.at in
    record { below = r.below; rows_are = r.rows ∙ is }

pub same-debt : {L : Type 0} (w : Widths L) (old new : List (Shape L)) (node : Shape L) → Grows old new → IsWellFormed w old node → root_debt (balance_states new) node ≡ root_debt (balance_states old) node
same-debt w old new (Rows rows) g well_formed = refl
same-debt w old new (Branches branches) g well_formed = ap (λ (n : ℕ). own_debt (length branches) + n) (debt-grown w old new branches g (node-parts w old branches well_formed))

pub last-node : {L : Type 0} (old new : List (Shape L)) (node : Shape L) (root : ℕ) → IsLast old new node root → node_at new root ≡ node
last-node {L} old new node root last = ap (λ (ns : List (Shape L)). node_at ns root) last.is ∙ get_or_at old node [] (Rows []) root (sym last.at)

pub last-debt : {L : Type 0} (w : Widths L) (old new : List (Shape L)) (node : Shape L) (root : ℕ) → IsLast old new node root → IsWellFormed w old node → tree_debt new root ≡ root_debt (balance_states old) node
last-debt {L} w old new node root last well_formed =
    ap (root_debt (balance_states new)) (last-node old new node root last) ∙ same-debt w old new node (grows_push old new node last.is) well_formed

-- ---- over two halves

pub halves-well_formed : {L : Type 0} (w : Widths L) (old new : List (Shape L)) (node : Shape L) (made : List Branch) → IsWellFormed w old node → IsHalved w old new node made → IsWellFormed w new (Branches made)
halves-well_formed w old new node made well_formed halved = well_formed-if_parts w new made _ (two_some made halved.two) halved.have.parts halved.have.level (subst InOrder (sym halved.have.rows_are) well_formed.ordered)
  where
    two_some : (made : List Branch) → length made ≡ 2 → made ≢ []
    two_some [] two q = absurd (omega arith)
    two_some (x ∷ made) two q = cc

-- ---- of the children of a branch's node

one_owes : (n d : ℕ) → 1 ≤ n → own_debt n + d ≤ node_debt n + d
one_owes zero d one = absurd (omega arith)
one_owes (suc zero) d one = omega arith
one_owes (suc (suc n)) d one = let many = own-many (suc (suc n)) (omega arith) in omega (arith, many)

some_long : {A : Type 0} (xs : List A) → xs ≢ [] → 1 ≤ length xs
some_long [] some = absurd (some refl)
some_long (x ∷ xs) some = omega arith

-- as a root a node owes no more than under one
pub root_owes : {L : Type 0} (w : Widths L) (nodes : List (Shape L)) (node : Shape L) → IsWellFormed w nodes node → root_debt (balance_states nodes) node ≤ (balance_state_in (balance_states nodes) node).debt
root_owes w nodes (Rows rows) well_formed = omega arith
root_owes w nodes (Branches branches) well_formed = one_owes (length branches) (debt_below (balance_states nodes) branches) (some_long branches well_formed.branches.some)

pub below-owes : {L : Type 0} (w : Widths L) (old new : List (Shape L)) (branch : Branch) (node : Shape L) (root : ℕ) → Opens w old branch node → IsLast old new node root → tree_debt new root ≤ (balance_state_of old branch.node.0).debt
below-owes w old new branch node root o last =
    let less = root_owes w old node o.opened.well_formed in
    let same = last-debt w old new node root last o.opened.well_formed in
    let there = ap (λ (s : BalanceState). s.debt) o.stands.balance_state in
    omega (arith, less, same, there)

-- ---- over one branch

lone : (branches : List Branch) (k : ℕ) (branch : Branch) → length branches ≡ 1 → k ≡ 0 → branch ≡ get_or branches k branch → branches ≡ branch ∷ []
lone [] k branch one first is = absurd (omega arith)
lone (x ∷ []) k branch one first is = ap (λ (b : Branch). b ∷ []) (sym (is ∙ ap (λ (n : ℕ). get_or (x ∷ []) n branch) first))
lone (x ∷ y ∷ more) k branch one first is = absurd (omega arith)

pub lone-lighter : {L : Type 0} (old new : List (Shape L)) (branches : List Branch) (k : ℕ) (branch : Branch) (root : ℕ) → length branches ≡ 1 → k ≡ 0 → branch ≡ get_or branches k branch → IsRootOf new (branch_rows (rows_table old) branch) root → tree_debt new root ≤ (balance_state_of old branch.node.0).debt → IsLighter old new (Branches branches) root
lone-lighter {L} old new branches k branch root one first is made owes =
    let whole = lone branches k branch one first is in
    let rows : branch_rows (rows_table old) branch ≡ rows_in (rows_table old) (Branches branches) = sym (ap (λ (bs : List Branch). rows_in (rows_table old) (Branches bs)) whole ∙ append-nil (branch_rows (rows_table old) branch)) in
    let debt : debt_below (balance_states old) branches ≡ (balance_state_of old branch.node.0).debt = ap (debt_below (balance_states old)) whole ∙ debt-one (balance_states old) branch in
    let own : own_debt (length branches) ≡ 7 = ap own_debt one in
    record { is = subst (λ (rs : List (Row L)). IsRootOf new rs root) rows made; owes = omega (arith, debt, own, owes) }

-- ---- the children of a root, at zero

pub opened-rows : {L : Type 0} (w : Widths L) (nodes : List (Shape L)) (k : ℕ) (a b : List ℕ) (node : Shape L) → a ≡ [] → b ≡ [] → IsOpened w nodes k a b node → rows_in (rows_table nodes) node ≡ rows_of nodes k
opened-rows w nodes k a b node za zb o = o.rows ∙ seen_from_root a b (rows_of nodes k) za zb

-- ---- a branch's node that stands at zero

pub zero-root : {L : Type 0} (w : Widths L) (nodes : List (Shape L)) (branch : Branch) → IsWellFormedPart w nodes branch → branch.first ≡ [] → branch.second ≡ [] → IsRootOf nodes (branch_rows (rows_table nodes) branch) branch.node.0
zero-root w nodes branch part first second = record { below = part.branch.below; rows_are = sym (seen_from_root branch.first branch.second (rows_of nodes branch.node.0) first second) }

branches-not_moved : (branches : List Branch) → map (branch_at [] []) branches ≡ branches
branches-not_moved [] = refl
branches-not_moved (branch ∷ branches) =
    ap (λ (x : Branch). x ∷ map (branch_at [] []) branches) (ap (λ (x : List ℕ). record branch { first = x; second = sum [] branch.second }) (sum-from_zero branch.first) ∙ ap (λ (x : List ℕ). record branch { second = x }) (sum-from_zero branch.second))
    ∙ ap (λ (bs : List Branch). branch ∷ bs) (branches-not_moved branches)

-- children that are not moved
pub not-moved : {L : Type 0} (a b : List ℕ) (node : Shape L) → a ≡ [] → b ≡ [] → children_at a b node ≡ node
not-moved {L} a b (Rows rows) za zb = ap (λ (rs : List (Row L)). Rows rs) (seen_from_root a b rows za zb)
not-moved a b (Branches branches) za zb = rw (za, zb) (ap (λ (bs : List Branch). Branches bs) (branches-not_moved branches))

pub halves-root : {L : Type 0} (w : Widths L) (mid new : List (Shape L)) (node : Shape L) (made : List Branch) (root : ℕ) → InTwo w mid node made → Grows mid new → node_at new root ≡ Branches made → SplitsRoot w new node root
halves-root w mid new node made root two g is = record { lower = two.lower; upper = two.upper; halves = split-grown w mid new node two.lower two.upper two.halves g; is = is ∙ ap (λ (bs : List Branch). Branches bs) two.are }

pub below-root : {L : Type 0} (w : Widths L) (mid new : List (Shape L)) (is_split : Bool) (branches made : List Branch) (root : ℕ) → Steps w mid is_split branches made → Grows mid new → node_at new root ≡ Branches made → StepsBelow w new is_split (Branches branches) root
below-root w mid new is_split branches made root steps g is = record { before = branches; made = made; was = refl; steps = steps-grown w mid new is_split branches made steps g; is = is }

-- as it was told
pub told-root : {L : Type 0} (w : Widths L) (mid new : List (Shape L)) (is_split told : Bool) (branches made : List Branch) (root : ℕ) → Steps w mid is_split branches made → is_split ≡ told → Grows mid new → node_at new root ≡ Branches made → StepsBelow w new told (Branches branches) root
told-root w mid new is_split told branches made root steps so g is = below-root w mid new told branches made root (subst (λ (s : Bool). Steps w mid s branches made) so steps) g is

pub lone-root : {L : Type 0} (old new : List (Shape L)) (branches : List Branch) (k : ℕ) (branch : Branch) (root : ℕ) → length branches ≡ 1 → k ≡ 0 → branch ≡ get_or branches k branch → Grows old new → branch.node.0 < length old → node_at new root ≡ children_of old branch → DropsRoot new (Branches branches) root
lone-root old new branches k branch root one first at g lt is = record { only = branch; was = ap (λ (bs : List Branch). Branches bs) (lone branches k branch one first at); is = is ∙ sym (children-grown old new branch g lt) }

pub node-owes : {L : Type 0} (w : Widths L) (nodes : List (Shape L)) (k : ℕ) → AreWellFormed w nodes → k < length nodes → tree_debt nodes k ≤ (balance_state_of nodes k).debt
node-owes w nodes k well_formed lt =
    let less = root_owes w nodes (node_at nodes k) (well_formed-now w nodes k well_formed lt) in
    let there = ap (λ (s : BalanceState). s.debt) (balance_state-said w nodes k well_formed lt) in
    omega (arith, less, there)
