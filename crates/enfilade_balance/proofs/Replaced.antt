-- Branches of a node with others in place of some.
use Rattle.std.proofs.Common.{◌≡◌, ◌≢◌, ℕ, zero, suc, ◌+◌, ◌-◌, ◌≤◌, List, [], ◌∷◌, ◌++◌, length, refl, arith, ap, ◌∙◌, sym, subst}
use Rattle.std.specs.List.{All}
use Rattle.std.proofs.lemmas.List.{length-append}
use Rattle.std.proofs.lemmas.Grind.{flat_map-append}
use Rattle.std.proofs.lemmas.Bool.Decides.{nat_tests}
use Rattle.tumbler.proofs.Alls.{All-front, All-back}
use Rattle.enfilade_core.specs.declared.tree.Row.{Row}
use Rattle.enfilade_core.specs.declared.tree.Branch.{Branch}
use Rattle.enfilade_core.specs.declared.balance_state.BalanceState.{BalanceState}
use Rattle.enfilade_core.specs.Rows.{Shape, Branches, branch_rows, rows_table}
use Rattle.enfilade_core.specs.Axes.{Widths, InOrder}
use Rattle.enfilade_core.specs.WellFormed.{IsWellFormed, IsWellFormedPart}
use Rattle.enfilade_core.specs.Summary.{height_of}
use Rattle.enfilade_core.specs.Exchange.{Grows, HasRows, BranchesHaveRows, height_in}
use Rattle.enfilade_core.specs.BalanceState.{node_debt, most_children, balance_states}
use Rattle.enfilade_core.proofs.Nodes.{node-parts}
use Rattle.enfilade_core.proofs.PackedBranches.{well_formed-if_parts}
use Rattle.enfilade_core.proofs.ExchangeGrown.{flat_rows, branches-grown, branches-append}
use Rattle.enfilade_core.proofs.ExchangeNodes.{level-height}
use Rattle.enfilade_balance.specs.Path.{debt_below, own_debt, OwesLess, AreStepped}
use Rattle.enfilade_balance.proofs.Owed.{debt-grown, debt-append}

-- ---- what a node owes itself

pub own-many : (n : ℕ) → 2 ≤ n → own_debt n ≡ n - most_children
own-many zero two = absurd (omega arith)
own-many (suc zero) two = absurd (omega arith)
own-many (suc (suc n)) two = grind (arith, nat_tests)

pub own-some : (n : ℕ) → n - most_children ≤ own_debt n
own-some n = omega arith

pub own-most : (n : ℕ) → 1 ≤ n → own_debt n ≤ (n - most_children) + 7
own-most zero one = absurd (omega arith)
own-most (suc zero) one = omega arith
own-most (suc (suc n)) one = omega (arith, own-many (suc (suc n)) (omega arith))

-- a branch that owes less stands in place of one
pub one-less : (f x m e d : ℕ) → m ≡ 1 → e + m ≤ d → OwesLess (f + 1) (x + d) (f + m) (x + e)
one-less f x m e d one owe =
    let same : own_debt (f + m) ≡ own_debt (f + 1) = ap (λ (n : ℕ). own_debt (f + n)) one in
    let alike : node_debt (f + m) ≡ node_debt (f + 1) = ap (λ (n : ℕ). node_debt (f + n)) one in
    record { below = omega (arith, alike, one, owe); root = omega (arith, same, one, owe) }

-- two that owe less together
pub two-less : (f x m e d : ℕ) → m ≡ 2 → e + m ≤ d → OwesLess (f + 1) (x + d) (f + m) (x + e)
two-less f x m e d two owe =
    let many = own-many (f + m) (omega (arith, two)) in
    let some = own-some (f + 1) in
    record { below = omega (arith, two, owe); root = omega (arith, many, some, two, owe) }

pub one_or_two-less : (f x m e d : ℕ) → 1 ≤ m → m ≤ 2 → e + m ≤ d → OwesLess (f + 1) (x + d) (f + m) (x + e)
one_or_two-less f x zero e d some few owe = absurd (omega arith)
one_or_two-less f x (suc zero) e d some few owe = one-less f x 1 e d refl owe
one_or_two-less f x (suc (suc zero)) e d some few owe = two-less f x 2 e d refl owe
one_or_two-less f x (suc (suc (suc m))) e d some few owe = absurd (omega arith)

-- one in place of two
pub merged-less : (f x e d : ℕ) → e + 8 ≤ d → OwesLess (f + 2) (x + d) (f + 1) (x + e)
merged-less f x e d owe =
    let most = own-most (f + 1) (omega arith) in
    let some = own-some (f + 2) in
    record { below = omega (arith, owe); root = omega (arith, most, some, owe) }

-- ---- the branches and their rows

-- others in place of those in the middle
pub record InPlace (branches made front middle behind others : List Branch) : Type 0 where
  pub before : branches ≡ front ++ (middle ++ behind)
  pub after : made ≡ front ++ (others ++ behind)

appended_some : {A : Type 0} (xs ys zs : List A) → 1 ≤ length ys → xs ++ (ys ++ zs) ≢ []
appended_some [] [] zs some q = absurd (omega arith)
appended_some [] (y ∷ ys) zs some q = cc
appended_some (x ∷ xs) ys zs some q = cc

-- branches that stay
stay : {L : Type 0} (w : Widths L) (old new : List (Shape L)) (height : ℕ) (branches : List Branch) → Grows old new → All (IsWellFormedPart w old) branches → All (λ b. height_of w old b.node.0 ≡ height) branches → BranchesHaveRows w new height (flat_rows old branches) branches
stay w old new height branches g parts level = branches-grown w old new height (flat_rows old branches) branches g record { parts = parts; rows_are = refl; level = level }

pub flat-parts : {L : Type 0} (nodes : List (Shape L)) (front middle behind : List Branch) → flat_rows nodes (front ++ (middle ++ behind)) ≡ flat_rows nodes front ++ (flat_rows nodes middle ++ flat_rows nodes behind)
flat-parts {L} nodes front middle behind =
    flat_map-append (branch_rows (rows_table nodes)) front (middle ++ behind) ∙ ap (λ (rs : List (Row L)). flat_rows nodes front ++ rs) (flat_map-append (branch_rows (rows_table nodes)) middle behind)

have-all : {L : Type 0} (w : Widths L) (old new : List (Shape L)) (height : ℕ) (front middle behind others : List Branch) → Grows old new → All (IsWellFormedPart w old) (front ++ (middle ++ behind)) → All (λ b. height_of w old b.node.0 ≡ height) (front ++ (middle ++ behind)) → BranchesHaveRows w new height (flat_rows old middle) others → BranchesHaveRows w new height (flat_rows old front ++ (flat_rows old middle ++ flat_rows old behind)) (front ++ (others ++ behind))
have-all w old new height front middle behind others g parts level have =
    let P = IsWellFormedPart w old in
    let Q : Branch → Type 0 = λ b. height_of w old b.node.0 ≡ height in
    let first = stay w old new height front g (All-front P front (middle ++ behind) parts) (All-front Q front (middle ++ behind) level) in
    let last = stay w old new height behind g (All-back P middle behind (All-back P front (middle ++ behind) parts)) (All-back Q middle behind (All-back Q front (middle ++ behind) level)) in
    branches-append w new height (flat_rows old front) (flat_rows old middle ++ flat_rows old behind) front (others ++ behind) first
    (branches-append w new height (flat_rows old middle) (flat_rows old behind) others behind have last)

-- all branches have the rows that they had
in_place-have : {L : Type 0} (w : Widths L) (old new : List (Shape L)) (branches made front middle behind others : List Branch) → InPlace branches made front middle behind others → Grows old new → (well_formed : IsWellFormed w old (Branches branches)) → 1 ≤ length others → BranchesHaveRows w new well_formed.branches.height (flat_rows old middle) others → HasRows w new (height_in w old (Branches branches)) (flat_rows old branches) (Branches made)
in_place-have {L} w old new branches made front middle behind others at g well_formed some have =
    let height = well_formed.branches.height in
    let P = IsWellFormedPart w old in
    let Q : Branch → Type 0 = λ b. height_of w old b.node.0 ≡ height in
    let all = have-all w old new height front middle behind others g (subst (All P) at.before (node-parts w old branches well_formed)) (subst (All Q) at.before well_formed.branches.level) have in
    let rows : flat_rows old front ++ (flat_rows old middle ++ flat_rows old behind) ≡ flat_rows old branches = sym (ap (flat_rows old) at.before ∙ flat-parts old front middle behind) in
    let here = subst (λ (bs : List Branch). BranchesHaveRows w new height (flat_rows old branches) bs) (sym at.after) (subst (λ (rs : List (Row L)). BranchesHaveRows w new height rs (front ++ (others ++ behind))) rows all) in
    let filled = subst (λ (bs : List Branch). bs ≢ []) (sym at.after) (appended_some front others behind some) in
    record {
      well_formed = well_formed-if_parts w new made height filled here.parts here.level (subst InOrder (sym here.rows_are) well_formed.ordered);
      rows_are = here.rows_are;
      level = level-height w new height made filled here.level ∙ sym (level-height w old height branches well_formed.branches.some well_formed.branches.level);
    }

-- ---- what they owe

record Counted (told : List BalanceState) (branches front middle behind : List Branch) : Type 0 where
  long : length branches ≡ (length front + length behind) + length middle
  debt : debt_below told branches ≡ (debt_below told front + debt_below told behind) + debt_below told middle

counted : (told : List BalanceState) (branches front middle behind : List Branch) → branches ≡ front ++ (middle ++ behind) → Counted told branches front middle behind
counted told branches front middle behind is =
    let l1 = length-append front (middle ++ behind) in
    let l2 = length-append middle behind in
    let l = ap length is in
    let d1 = debt-append told front (middle ++ behind) in
    let d2 = debt-append told middle behind in
    let d = ap (debt_below told) is in
    record { long = omega (arith, l, l1, l2); debt = omega (arith, d, d1, d2) }

-- what the others owe is what counts
pub record OwesLessFor {L : Type 0} (old new : List (Shape L)) (middle others : List Branch) : Type 0 where
  pub less : (f x : ℕ) → OwesLess (f + length middle) (x + debt_below (balance_states old) middle) (f + length others) (x + debt_below (balance_states new) others)

less-same : (c d m e c' d' m' e' : ℕ) → c ≡ c' → d ≡ d' → m ≡ m' → e ≡ e' → OwesLess c' d' m' e' → OwesLess c d m e
less-same c d m e c' d' m' e' p q r s less = rw (p, q, r, s) less

in_place-less : {L : Type 0} (w : Widths L) (old new : List (Shape L)) (branches made front middle behind others : List Branch) → InPlace branches made front middle behind others → Grows old new → IsWellFormed w old (Branches branches) → OwesLessFor old new middle others → OwesLess (length branches) (debt_below (balance_states old) branches) (length made) (debt_below (balance_states new) made)
in_place-less {L} w old new branches made front middle behind others at g well_formed owe =
    let P = IsWellFormedPart w old in
    let parts = subst (All P) at.before (node-parts w old branches well_formed) in
    let before = counted (balance_states old) branches front middle behind at.before in
    let after = counted (balance_states new) made front others behind at.after in
    let first = debt-grown w old new front g (All-front P front (middle ++ behind) parts) in
    let last = debt-grown w old new behind g (All-back P middle behind (All-back P front (middle ++ behind) parts)) in
    let f = length front + length behind in
    let x = debt_below (balance_states old) front + debt_below (balance_states old) behind in
    less-same (length branches) (debt_below (balance_states old) branches) (length made) (debt_below (balance_states new) made) (f + length middle) (x + debt_below (balance_states old) middle) (f + length others) (x + debt_below (balance_states new) others)
    before.long before.debt after.long (after.debt ∙ ap (λ (n : ℕ). (n + debt_below (balance_states new) behind) + debt_below (balance_states new) others) first ∙ ap (λ (n : ℕ). (debt_below (balance_states old) front + n) + debt_below (balance_states new) others) last)
    (owe.less f x)

pub in-coordinate : {L : Type 0} (w : Widths L) (old new : List (Shape L)) (branches made front middle behind others : List Branch) → InPlace branches made front middle behind others → Grows old new → (well_formed : IsWellFormed w old (Branches branches)) → 1 ≤ length others → BranchesHaveRows w new well_formed.branches.height (flat_rows old middle) others → OwesLessFor old new middle others → AreStepped w old new branches made
in-coordinate w old new branches made front middle behind others at g well_formed some have owe = record {
  have = in_place-have w old new branches made front middle behind others at g well_formed some have;
  less = in_place-less w old new branches made front middle behind others at g well_formed owe;
}
