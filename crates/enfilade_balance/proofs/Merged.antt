-- Neighbours, opened, and their children under one node.
use Rattle.std.proofs.Common.{◌≡◌, ◌≢◌, ℕ, ◌+◌, ◌≤◌, List, [], ◌∷◌, ◌++◌, length, map, refl, arith, ap, ◌∙◌, sym, subst}
use Rattle.std.specs.List.{All}
use Rattle.std.proofs.lemmas.List.{length-append}
use Rattle.std.proofs.lemmas.List.Elements.{All-nil, All-append}
use Rattle.std.proofs.lemmas.Grind.{flat_map-append}
use Rattle.tumbler.specs.Places.{IsTumbler}
use Rattle.enfilade_core.specs.declared.tree.Row.{Row}
use Rattle.enfilade_core.specs.declared.tree.Branch.{Branch}
use Rattle.enfilade_core.specs.declared.balance_state.BalanceState.{BalanceState}
use Rattle.enfilade_core.specs.Rows.{Shape, Rows, Branches, moved, branch_rows, rows_in, rows_table, rows_of}
use Rattle.enfilade_core.specs.Axes.{Widths, InOrder, IsWellFormedRow}
use Rattle.enfilade_core.specs.WellFormed.{IsWellFormed, IsWellFormedPart}
use Rattle.enfilade_core.specs.Summary.{no_summary, height_of}
use Rattle.enfilade_core.specs.Exchange.{IsOpened, HasRows, height_in}
use Rattle.enfilade_core.specs.BalanceState.{node_debt, balance_states, balance_state_in, balance_state_below, balance_state_of}
use Rattle.enfilade_core.proofs.Heights.{rows_height}
use Rattle.enfilade_core.proofs.Nodes.{node-parts}
use Rattle.enfilade_core.proofs.PackedBranches.{well_formed-if_parts}
use Rattle.enfilade_core.proofs.ExchangeGrown.{flat_rows}
use Rattle.enfilade_core.proofs.ExchangeNodes.{level-height, packed-has}
use Rattle.enfilade_balance.specs.OneStep.{children_of, how_many, IsMerge, AreAlike, joined}
use Rattle.enfilade_balance.specs.Path.{debt_below, StandsAs, Packs, AreNeighbours, IsMerged}
use Rattle.enfilade_balance.proofs.Over.{named-there, packed-over, in-one_merged}
use Rattle.enfilade_balance.proofs.Owed.{debt-append}

-- a branch and its node's children, at their places
pub record Opens {L : Type 0} (w : Widths L) (nodes : List (Shape L)) (branch : Branch) (node : Shape L) : Type 0 where
  pub opened : IsOpened w nodes branch.node.0 branch.first branch.second node
  pub stands : StandsAs nodes branch.node.0 node
  pub is : node ≡ children_of nodes branch

some_mapped : {A B : Type 0} (f : A → B) (xs : List A) → xs ≢ [] → map f xs ≢ []
some_mapped f [] some q = some refl
some_mapped f (x ∷ xs) some q = cc

pub opens-filled : {L : Type 0} (w : Widths L) (nodes : List (Shape L)) (branch : Branch) (node : Shape L) → IsWellFormedPart w nodes branch → Opens w nodes branch node → rows_in (rows_table nodes) node ≢ []
opens-filled {L} w nodes branch node part o = subst (λ (rs : List (Row L)). rs ≢ []) (sym o.opened.rows) (some_mapped (moved branch.first branch.second) (rows_of nodes branch.node.0) part.branch.filled)

some_long : {A : Type 0} (xs : List A) → xs ≢ [] → 1 ≤ length xs
some_long [] some = absurd (some refl)
some_long (x ∷ xs) some = omega arith

-- ---- both are rows, or nodes

rows_low : {L : Type 0} (w : Widths L) (nodes : List (Shape L)) (rows : List (Row L)) → height_in w nodes (Rows rows) ≡ 0
rows_low w nodes rows = rows_height w rows no_summary refl

branches_high : {L : Type 0} (w : Widths L) (nodes : List (Shape L)) (branches : List Branch) → (well_formed : IsWellFormed w nodes (Branches branches)) → height_in w nodes (Branches branches) ≡ well_formed.branches.height + 1
branches_high w nodes branches well_formed = level-height w nodes well_formed.branches.height branches well_formed.branches.some well_formed.branches.level

pub are-alike : {L : Type 0} (w : Widths L) (nodes : List (Shape L)) (a b : Branch) (lower upper : Shape L) → AreNeighbours w nodes a b → Opens w nodes a lower → Opens w nodes b upper → AreAlike lower upper
are-alike w nodes a b (Rows rows) (Rows more) next l r = tt
are-alike w nodes a b (Rows rows) (Branches more) next l r =
    let low = rows_low w nodes rows in
    let high = branches_high w nodes more r.opened.well_formed in
    let one = l.opened.level in
    let two = r.opened.level in
    let same = next.level in
    absurd (omega (arith, low, high, one, two, same))
are-alike w nodes a b (Branches branches) (Rows more) next l r =
    let low = rows_low w nodes more in
    let high = branches_high w nodes branches l.opened.well_formed in
    let one = l.opened.level in
    let two = r.opened.level in
    let same = next.level in
    absurd (omega (arith, low, high, one, two, same))
are-alike w nodes a b (Branches branches) (Branches more) next l r = tt

-- ---- their rows

rows-together : {L : Type 0} (w : Widths L) (nodes : List (Shape L)) (a b : Branch) (rows more : List (Row L)) → AreNeighbours w nodes a b → Opens w nodes a (Rows rows) → Opens w nodes b (Rows more) → HasRows w nodes (height_of w nodes a.node.0) (branch_rows (rows_table nodes) a ++ branch_rows (rows_table nodes) b) (Rows (rows ++ more))
rows-together {L} w nodes a b rows more next l r =
    let same : rows ++ more ≡ branch_rows (rows_table nodes) a ++ branch_rows (rows_table nodes) b =
    ap (λ (rs : List (Row L)). rs ++ more) l.opened.rows ∙ ap (λ (rs : List (Row L)). branch_rows (rows_table nodes) a ++ rs) r.opened.rows in
    record {
      well_formed = record {
        branches = tt;
        first_origins = All-nil IsTumbler;
        second_origins = All-nil IsTumbler;
        rows = All-append (IsWellFormedRow w) rows more l.opened.well_formed.rows r.opened.well_formed.rows;
        ordered = subst InOrder (sym same) next.ordered;
      };
      rows_are = same;
      level = rows_low w nodes (rows ++ more) ∙ sym (rows_low w nodes rows) ∙ l.opened.level;
    }

appended_some : {A : Type 0} (xs ys : List A) → xs ≢ [] → xs ++ ys ≢ []
appended_some [] ys some q = some refl
appended_some (x ∷ xs) ys some q = cc

branches-together : {L : Type 0} (w : Widths L) (nodes : List (Shape L)) (a b : Branch) (branches more : List Branch) → AreNeighbours w nodes a b → Opens w nodes a (Branches branches) → Opens w nodes b (Branches more) → HasRows w nodes (height_of w nodes a.node.0) (branch_rows (rows_table nodes) a ++ branch_rows (rows_table nodes) b) (Branches (branches ++ more))
branches-together {L} w nodes a b branches more next l r =
    let height = l.opened.well_formed.branches.height in
    let one = branches_high w nodes branches l.opened.well_formed in
    let two = branches_high w nodes more r.opened.well_formed in
    let first = l.opened.level in
    let second = r.opened.level in
    let both = next.level in
    let high : r.opened.well_formed.branches.height ≡ height = omega (arith, one, two, first, second, both) in
    let level = All-append (λ x. height_of w nodes x.node.0 ≡ height) branches more l.opened.well_formed.branches.level
    (subst (λ (n : ℕ). All (λ x. height_of w nodes x.node.0 ≡ n) more) high r.opened.well_formed.branches.level) in
    let some = appended_some branches more l.opened.well_formed.branches.some in
    let same : flat_rows nodes (branches ++ more) ≡ branch_rows (rows_table nodes) a ++ branch_rows (rows_table nodes) b =
    flat_map-append (branch_rows (rows_table nodes)) branches more ∙ ap (λ (rs : List (Row L)). rs ++ flat_rows nodes more) l.opened.rows ∙ ap (λ (rs : List (Row L)). branch_rows (rows_table nodes) a ++ rs) r.opened.rows in
    record {
      well_formed = well_formed-if_parts w nodes (branches ++ more) height some (All-append (IsWellFormedPart w nodes) branches more (node-parts w nodes branches l.opened.well_formed) (node-parts w nodes more r.opened.well_formed)) level (subst InOrder (sym same) next.ordered);
      rows_are = same;
      level = level-height w nodes height (branches ++ more) some level ∙ sym one ∙ first;
    }

pub both-have : {L : Type 0} (w : Widths L) (nodes : List (Shape L)) (a b : Branch) (lower upper : Shape L) → AreNeighbours w nodes a b → Opens w nodes a lower → Opens w nodes b upper → HasRows w nodes (height_of w nodes a.node.0) (branch_rows (rows_table nodes) a ++ branch_rows (rows_table nodes) b) (joined lower upper)
both-have w nodes a b (Rows rows) (Rows more) next l r = rows-together w nodes a b rows more next l r
both-have w nodes a b (Rows rows) (Branches more) next l r = absurd (are-alike w nodes a b (Rows rows) (Branches more) next l r)
both-have w nodes a b (Branches branches) (Rows more) next l r = absurd (are-alike w nodes a b (Branches branches) (Rows more) next l r)
both-have w nodes a b (Branches branches) (Branches more) next l r = branches-together w nodes a b branches more next l r

-- ---- what they owe

-- one node with the children of two, which are few, owes less than both
pub together_owes_less : (a b : ℕ) → 1 ≤ a → 1 ≤ b → a + b ≤ 6 → node_debt (a + b) + 8 ≤ node_debt a + node_debt b
together_owes_less a b one two few = omega arith

sums : (a b n m x y d e f s t : ℕ) → x ≡ a → y ≡ b → 1 ≤ a → 1 ≤ b → x + y ≤ 6 → n ≡ a + b → m ≡ d + e → f ≡ node_debt n + m → s ≡ node_debt a + d → t ≡ node_debt b + e → f + 8 ≤ s + t
sums a b n m x y d e f s t p q one two few g h i j k =
    let less = together_owes_less a b one two (omega arith) in
    let here : node_debt n ≡ node_debt (a + b) = ap node_debt g in
    omega (arith, less, here)

rows-owe : {L : Type 0} (w : Widths L) (nodes : List (Shape L)) (a b : Branch) (rows more : List (Row L)) → AreNeighbours w nodes a b → Opens w nodes a (Rows rows) → Opens w nodes b (Rows more) → (balance_state_in (balance_states nodes) (Rows (rows ++ more))).debt + 8 ≤ (balance_state_of nodes a.node.0).debt + (balance_state_of nodes b.node.0).debt
rows-owe {L} w nodes a b rows more next l r =
    sums (length rows) (length more) (length (rows ++ more)) 0 (balance_state_of nodes a.node.0).children (balance_state_of nodes b.node.0).children 0 0 (node_debt (length (rows ++ more))) (balance_state_of nodes a.node.0).debt (balance_state_of nodes b.node.0).debt
    (ap (λ (s : BalanceState). s.children) (sym l.stands.balance_state)) (ap (λ (s : BalanceState). s.children) (sym r.stands.balance_state))
    (some_long rows (opens-filled w nodes a (Rows rows) next.first l)) (some_long more (opens-filled w nodes b (Rows more) next.second r)) next.few
    (length-append rows more) refl (omega arith)
    (ap (λ (s : BalanceState). s.debt) (sym l.stands.balance_state) ∙ omega arith) (ap (λ (s : BalanceState). s.debt) (sym r.stands.balance_state) ∙ omega arith)

branches-owe : {L : Type 0} (w : Widths L) (nodes : List (Shape L)) (a b : Branch) (branches more : List Branch) → AreNeighbours w nodes a b → Opens w nodes a (Branches branches) → Opens w nodes b (Branches more) → (balance_state_below (balance_states nodes) (branches ++ more)).debt + 8 ≤ (balance_state_of nodes a.node.0).debt + (balance_state_of nodes b.node.0).debt
branches-owe {L} w nodes a b branches more next l r =
    let told = balance_states nodes in
    sums (length branches) (length more) (length (branches ++ more)) (debt_below told (branches ++ more)) (balance_state_of nodes a.node.0).children (balance_state_of nodes b.node.0).children (debt_below told branches) (debt_below told more)
    (node_debt (length (branches ++ more)) + debt_below told (branches ++ more)) (balance_state_of nodes a.node.0).debt (balance_state_of nodes b.node.0).debt
    (ap (λ (s : BalanceState). s.children) (sym l.stands.balance_state)) (ap (λ (s : BalanceState). s.children) (sym r.stands.balance_state))
    (some_long branches l.opened.well_formed.branches.some) (some_long more r.opened.well_formed.branches.some) next.few
    (length-append branches more) (debt-append told branches more) refl
    (ap (λ (s : BalanceState). s.debt) (sym l.stands.balance_state)) (ap (λ (s : BalanceState). s.debt) (sym r.stands.balance_state))

both-owe : {L : Type 0} (w : Widths L) (nodes : List (Shape L)) (a b : Branch) (lower upper : Shape L) → AreNeighbours w nodes a b → Opens w nodes a lower → Opens w nodes b upper → (balance_state_in (balance_states nodes) (joined lower upper)).debt + 8 ≤ (balance_state_of nodes a.node.0).debt + (balance_state_of nodes b.node.0).debt
both-owe w nodes a b (Rows rows) (Rows more) next l r = rows-owe w nodes a b rows more next l r
both-owe w nodes a b (Rows rows) (Branches more) next l r = absurd (are-alike w nodes a b (Rows rows) (Branches more) next l r)
both-owe w nodes a b (Branches branches) (Rows more) next l r = absurd (are-alike w nodes a b (Branches branches) (Rows more) next l r)
both-owe w nodes a b (Branches branches) (Branches more) next l r = branches-owe w nodes a b branches more next l r

-- ---- all together

pub both-filled : {L : Type 0} (w : Widths L) (nodes : List (Shape L)) (a b : Branch) (lower upper : Shape L) → AreNeighbours w nodes a b → Opens w nodes a lower → Opens w nodes b upper → rows_in (rows_table nodes) (joined lower upper) ≢ []
both-filled {L} w nodes a b lower upper next l r =
    subst (λ (rs : List (Row L)). rs ≢ []) (sym (both-have w nodes a b lower upper next l r).rows_are)
    (appended_some (branch_rows (rows_table nodes) a) (branch_rows (rows_table nodes) b) (subst (λ (rs : List (Row L)). rs ≢ []) l.opened.rows (opens-filled w nodes a lower next.first l)))

told-children : {L : Type 0} (told : List BalanceState) (node : Shape L) → (balance_state_in told node).children ≡ how_many node
told-children told (Rows rows) = refl
told-children told (Branches branches) = refl

opens-few : {L : Type 0} (w : Widths L) (nodes : List (Shape L)) (branch : Branch) (node : Shape L) → Opens w nodes branch node → how_many node ≡ (balance_state_of nodes branch.node.0).children
opens-few w nodes branch node o = sym (told-children (balance_states nodes) node) ∙ ap (λ (s : BalanceState). s.children) o.stands.balance_state

both-one : {L : Type 0} (w : Widths L) (nodes new : List (Shape L)) (a b : Branch) (lower upper : Shape L) (made : Branch) → AreNeighbours w nodes a b → Opens w nodes a lower → Opens w nodes b upper → Packs w nodes new (joined lower upper) made → IsMerge w new (children_of new a) (children_of new b) made
both-one w nodes new a b lower upper made next l r packs =
    let named = named-there w nodes (joined lower upper) (both-have w nodes a b lower upper next l r).well_formed in
    let one = opens-few w nodes a lower l in
    let two = opens-few w nodes b upper r in
    in-one_merged w nodes new a b lower upper made packs.grows next.first.branch.below next.second.branch.below l.is r.is
    record { few = omega (arith, one, two, next.few); alike = are-alike w nodes a b lower upper next l r; both = packed-over w nodes new (joined lower upper) made packs named }

pub both-merged : {L : Type 0} (w : Widths L) (nodes new : List (Shape L)) (a b : Branch) (lower upper : Shape L) (made : Branch) → AreNeighbours w nodes a b → Opens w nodes a lower → Opens w nodes b upper → Packs w nodes new (joined lower upper) made → IsMerged w nodes new a b made
both-merged w nodes new a b lower upper made next l r packs = record {
  has = packed-has w nodes new (height_of w nodes a.node.0) (branch_rows (rows_table nodes) a ++ branch_rows (rows_table nodes) b) (joined lower upper) made (both-have w nodes a b lower upper next l r) packs.packed;
  owes = rw packs.stands (both-owe w nodes a b lower upper next l r);
  merge = both-one w nodes new a b lower upper made next l r packs;
}
