-- Trees after a step of the balancer in one document's.
use Rattle.std.proofs.Common.{◌≡◌, ◌∙◌, ℕ, zero, suc, ◌+◌, ◌<◌, ◌≤◌, ◌||◌, Bool, true, false, cond, List, [], ◌∷◌, length, Option, Some, None, Less, nat_cmp, refl, sym, ap, subst, true≢false, arith}
use Rattle.std.specs.Prelude.{All, not}
use Rattle.std.specs.List.{AllByRecursion, slice_get, find}
use Rattle.std.specs.List.Sorted.{IsStrictlySortedBy}
use Rattle.std.specs.Option.{option_map}
use Rattle.std.specs.Ordering.{is_eq}
use Rattle.std.specs.Cmp.Lexicographic.{slice_cmp}
use Rattle.std.proofs.lemmas.Option.{slice_get-map}
use Rattle.std.proofs.lemmas.List.Elements.{All-head, All-tail, All-weaker}
use Rattle.std.proofs.lemmas.List.Sums.{sum_by-cons}
use Rattle.std.proofs.lemmas.Map.Keys.{sorted_head, sorted_tail}
use Rattle.std.proofs.lemmas.Map.Text.{is_eq-slice_cmp}
use Rattle.enfilade_core.specs.declared.tree.Node.{Node}
use Rattle.enfilade_core.specs.Rows.{Shape, rows_of}
use Rattle.enfilade_core.specs.BalanceState.{tree_debt, tree_allows}
use Rattle.enfilade_core.specs.Edits.{KeepsRows}
use Rattle.enfilade_core.specs.Exchange.{Grows}
use Rattle.enfilade_balance.specs.declared.balance.Balance.{Balance}
use Rattle.enfilade_balance.specs.Steps.{root_after, is_idle}
use Rattle.enfilade_balance.specs.Laws.{DebtsStay}
use Rattle.poom.specs.Laid.{IsRoot}
use Rattle.doc_table.specs.declared.rows.DocumentRow.{DocumentRow}
use Rattle.doc_table.specs.DocumentRows.{is_of, documents_in, root_in, with_root, has_in}
use Rattle.world_rules.specs.World.{is_same}
use Rattle.tree_world.specs.Trees.{Trees}
use Rattle.tree_world.specs.Condition.{documents_debt, documents_allow, debt_of}
use Rattle.tree_world.specs.inside.SameRows.{SameRows}
use Rattle.tree_world.proofs.Tables.{has_some}
use Rattle.tree_world.proofs.Roots.{RootsStand}
use Rattle.tree_world.proofs.SameRows.{same_rooted, same_trees}
use Rattle.tree_world.proofs.Options.{none_there, one_value}
use Rattle.tree_world.proofs.Found.{false_when, address_is, address_alike}

-- ---- a walk over the rows

-- the row at k, whose root is read
pub record HasRoot (rows : List (DocumentRow Node)) (k : ℕ) (root : Node) : Type 0 where
  pub row : DocumentRow Node
  pub here : slice_get rows k ≡ Some row
  pub is : row.root ≡ root

pub row_at : (rows : List (DocumentRow Node)) (k : ℕ) (root : Node) → option_map (λ (row : DocumentRow Node). row.root) (slice_get rows k) ≡ Some root → HasRoot rows k root
row_at rows k root read = step (slice_get rows k) refl read
  where
    step : (found : Option (DocumentRow Node)) → slice_get rows k ≡ found → option_map (λ (row : DocumentRow Node). row.root) found ≡ Some root → HasRoot rows k root
    step None e h = absurd (none_there root (sym h))
    step (Some row) e h = record { row = row; here = e; is = one_value row.root root h }

-- the row at k allows a step
abbrev pub AllowsAt : List (Shape ℕ) → List (DocumentRow Node) → ℕ → Type 0
AllowsAt nodes rows k = (row : DocumentRow Node) × (slice_get rows k ≡ Some row) × (tree_allows nodes row.root.0 ≡ true)

pub allows_there : (nodes : List (Shape ℕ)) (rows : List (DocumentRow Node)) (k : ℕ) (row : DocumentRow Node) → slice_get rows k ≡ Some row → tree_allows nodes row.root.0 ≡ true → documents_allow nodes rows ≡ true
allows_there nodes [] k row e allows = absurd (none_there row (sym e))
allows_there nodes (r ∷ rows) zero row e allows = ap (λ b. b || documents_allow nodes rows) (ap (λ (x : DocumentRow Node). tree_allows nodes x.root.0) (one_value r row e) ∙ allows)
allows_there nodes (r ∷ rows) (suc k) row e allows = ap (λ b. tree_allows nodes r.root.0 || b) (allows_there nodes rows k row e allows) ∙ either (tree_allows nodes r.root.0)
  where
    either : (b : Bool) → (b || true) ≡ true
    either true = refl
    either false = refl

-- ---- documents that ascend

less_differs : (x y : List ℕ) → slice_cmp nat_cmp x y ≡ Less → is_same x y ≡ false
less_differs x y less = sym (is_eq-slice_cmp x y) ∙ ap is_eq less

differs_back : (x y : List ℕ) → is_same x y ≡ false → is_same y x ≡ false
differs_back x y differs = false_when (is_same y x) (λ e. true≢false (sym (subst (λ a. is_same x a ≡ true) (sym (address_is y x e)) (address_alike x)) ∙ differs))

among : (P : List ℕ → Type 0) (rows : List (DocumentRow Node)) (k : ℕ) (row : DocumentRow Node) → AllByRecursion P (documents_in rows) → slice_get rows k ≡ Some row → P row.document
among P [] k row all e = absurd (none_there row (sym e))
among P (r ∷ rows) zero row all e = subst (λ (x : DocumentRow Node). P x.document) (one_value r row e) all.0
among P (r ∷ rows) (suc k) row all e = among P rows k row all.1 e

abbrev pub Ascend : List (DocumentRow Node) → Type 0
Ascend rows = IsStrictlySortedBy (slice_cmp nat_cmp) (documents_in rows)

-- the first is not the document of a row behind it
first_differs : (r : DocumentRow Node) (rows : List (DocumentRow Node)) (k : ℕ) (row : DocumentRow Node) → Ascend (r ∷ rows) → slice_get rows k ≡ Some row → is_of row.document r ≡ false
first_differs r rows k row ascend e = less_differs r.document row.document (among (λ d. slice_cmp nat_cmp r.document d ≡ Less) rows k row (sorted_head (slice_cmp nat_cmp) r.document (documents_in rows) ascend) e)

-- a document's root is that of the row where it stands
pub root_there : (rows : List (DocumentRow Node)) (k : ℕ) (row : DocumentRow Node) → Ascend rows → slice_get rows k ≡ Some row → root_in rows row.document ≡ Some row.root
root_there [] k row ascend e = absurd (none_there row (sym e))
root_there (r ∷ rows) zero row ascend e =
    ap (λ b. option_map (λ (x : DocumentRow Node). x.root) (cond b (Some r) (find (is_of row.document) rows))) (ap (λ (x : DocumentRow Node). is_same x.document row.document) (one_value r row e) ∙ address_alike row.document)
    ∙ ap (λ (x : DocumentRow Node). Some x.root) (one_value r row e)
root_there (r ∷ rows) (suc k) row ascend e =
    ap (λ b. option_map (λ (x : DocumentRow Node). x.root) (cond b (Some r) (find (is_of row.document) rows))) (first_differs r rows k row ascend e)
    ∙ root_there rows k row (sorted_tail (slice_cmp nat_cmp) r.document (documents_in rows) ascend) e

-- ---- what they owe

abbrev owed_in : List (Shape ℕ) → DocumentRow Node → ℕ
owed_in nodes row = tree_debt nodes row.root.0

module _ (nodes more : List (Shape ℕ)) (stay : (k : ℕ) → k < length nodes → tree_debt more k ≡ tree_debt nodes k) (made : Node) where
  abbrev IsBelow : DocumentRow Node → Type 0
  IsBelow row = row.root.0 < length nodes

  abbrev rooted : List ℕ → DocumentRow Node → DocumentRow Node
  rooted d row = cond (is_of d row) (record row { root = made }) row

  one_stays : (d : List ℕ) (row : DocumentRow Node) → IsBelow row → is_of d row ≡ false → tree_debt more (rooted d row).root.0 ≡ tree_debt nodes row.root.0
  one_stays d row below differs = ap (λ b. tree_debt more (cond b (record row { root = made }) row).root.0) differs ∙ stay row.root.0 below

  others_stay : (d : List ℕ) (rows : List (DocumentRow Node)) → All IsBelow rows → AllByRecursion (λ y. slice_cmp nat_cmp d y ≡ Less) (documents_in rows) → documents_debt more (with_root rows d made) ≡ documents_debt nodes rows
  others_stay d [] below past = refl
  others_stay d (row ∷ rows) below past =
      let here = one_stays d row (All-head IsBelow row rows below) (differs_back d row.document (less_differs d row.document past.0)) in
      let rest = others_stay d rows (All-tail IsBelow row rows below) past.1 in
      sum_by-cons (owed_in more) (rooted d row) (with_root rows d made) ∙ (λ i. here i + rest i) ∙ sym (sum_by-cons (owed_in nodes) row rows)

  pub debt_falls : (rows : List (DocumentRow Node)) (k : ℕ) (row : DocumentRow Node) → All IsBelow rows → Ascend rows → slice_get rows k ≡ Some row → tree_debt more made.0 + 1 ≤ tree_debt nodes row.root.0
      → documents_debt more (with_root rows row.document made) + 1 ≤ documents_debt nodes rows
  debt_falls [] k row below ascend e lower = absurd (none_there row (sym e))
  debt_falls (r ∷ rows) zero row below ascend e lower =
      let is = one_value r row e in
      let own : is_of row.document r ≡ true = ap (λ (x : DocumentRow Node). is_same x.document row.document) is ∙ address_alike row.document in
      let here : tree_debt more (rooted row.document r).root.0 ≡ tree_debt more made.0 = ap (λ b. tree_debt more (cond b (record r { root = made }) r).root.0) own in
      let before : tree_debt nodes r.root.0 ≡ tree_debt nodes row.root.0 = ap (λ (x : DocumentRow Node). tree_debt nodes x.root.0) is in
      let past = subst (λ (x : DocumentRow Node). AllByRecursion (λ y. slice_cmp nat_cmp x.document y ≡ Less) (documents_in rows)) is (sorted_head (slice_cmp nat_cmp) r.document (documents_in rows) ascend) in
      let rest = others_stay row.document rows (All-tail IsBelow r rows below) past in
      omega (arith, sum_by-cons (owed_in more) (rooted row.document r) (with_root rows row.document made), sum_by-cons (owed_in nodes) r rows, here, before, rest, lower)
  debt_falls (r ∷ rows) (suc k) row below ascend e lower =
      let here = one_stays row.document r (All-head IsBelow r rows below) (first_differs r rows k row ascend e) in
      let rest = debt_falls rows k row (All-tail IsBelow r rows below) (sorted_tail (slice_cmp nat_cmp) r.document (documents_in rows) ascend) e lower in
      omega (arith, sum_by-cons (owed_in more) (rooted row.document r) (with_root rows row.document made), sum_by-cons (owed_in nodes) r rows, here, rest)

pub debt_lower : (before after : Trees) → after.contents ≡ before.contents → after.index ≡ before.index → after.links ≡ before.links → documents_debt after.nodes after.documents + 1 ≤ documents_debt before.nodes before.documents
    → debt_of after + 1 ≤ debt_of before
debt_lower before after contents index links less =
    let c : tree_debt after.contents.nodes after.contents.root ≡ tree_debt before.contents.nodes before.contents.root = λ i. tree_debt (contents i).nodes (contents i).root in
    let x : tree_debt after.index.nodes after.index.root.0 ≡ tree_debt before.index.nodes before.index.root.0 = λ i. tree_debt (index i).nodes (index i).root.0 in
    let f : tree_debt after.links.from.nodes after.links.from.root.0 ≡ tree_debt before.links.from.nodes before.links.from.root.0 = λ i. tree_debt (links i).from.nodes (links i).from.root.0 in
    let t : tree_debt after.links.to.nodes after.links.to.root.0 ≡ tree_debt before.links.to.nodes before.links.to.root.0 = λ i. tree_debt (links i).to.nodes (links i).to.root.0 in
    let h : tree_debt after.links.three.nodes after.links.three.root.0 ≡ tree_debt before.links.three.nodes before.links.three.root.0 = λ i. tree_debt (links i).three.nodes (links i).three.root.0 in
    omega (arith, c, x, f, t, h, less)

-- ---- the step

-- the document that is read at k is that of the row at k
pub document_at : (rows : List (DocumentRow Node)) (k : ℕ) (document : List ℕ) (row : DocumentRow Node) → Some document ≡ slice_get (documents_in rows) k → slice_get rows k ≡ Some row → row.document ≡ document
document_at rows k document row read e =
    sym (one_value document row.document (read ∙ slice_get-map (λ (r : DocumentRow Node). r.document) rows k ∙ ap (option_map (λ (r : DocumentRow Node). r.document)) e))

pub roots_below : (nodes : List (Shape ℕ)) (rows : List (DocumentRow Node)) → RootsStand nodes rows → All (λ (row : DocumentRow Node). row.root.0 < length nodes) rows
roots_below nodes rows stand = All-weaker (λ (row : DocumentRow Node). IsRoot nodes row.root.0) (λ (row : DocumentRow Node). row.root.0 < length nodes) (λ row h. h.there) rows stand

-- what is known of the row at k and of the root that its document gets
pub record IsStep (nodes more : List (Shape ℕ)) (rows : List (DocumentRow Node)) (k : ℕ) (document : List ℕ) (root : Node) (made : Balance) : Type 0 where
  pub stand : RootsStand nodes rows
  pub ascend : Ascend rows
  pub stay : DebtsStay nodes
  pub read_root : Some root ≡ option_map (λ (row : DocumentRow Node). row.root) (slice_get rows k)
  pub read_document : Some document ≡ slice_get (documents_in rows) k
  pub allows : AllowsAt nodes rows k
  pub kept : KeepsRows nodes more
  pub grows : Grows nodes more
  pub rows_same : rows_of more (root_after root made).0 ≡ rows_of nodes root.0
  pub document_is : IsRoot nodes root.0 → IsRoot more (root_after root made).0
  pub lowers : is_idle made ≡ false → tree_debt more (root_after root made).0 + 1 ≤ tree_debt nodes root.0
  pub idle : is_idle made ≡ not (tree_allows nodes root.0)

module _ (before after : Trees) (k : ℕ) (document : List ℕ) (root : Node) (made : Balance) (step : IsStep before.nodes after.nodes before.documents k document root made) where
  at : HasRoot before.documents k root
  at = row_at before.documents k root (sym step.read_root)

  own : at.row.document ≡ document
  own = document_at before.documents k document at.row step.read_document at.here

  own_root : root_in before.documents document ≡ Some root
  own_root = subst (λ d. root_in before.documents d ≡ Some at.row.root) own (root_there before.documents k at.row step.ascend at.here) ∙ ap Some at.is

  pub document_there : has_in before.documents document ≡ true
  document_there = has_some before.documents document root own_root

  root_allows : tree_allows before.nodes root.0 ≡ true
  root_allows = ap (λ (n : Node). tree_allows before.nodes n.0) (sym at.is ∙ ap (λ (r : DocumentRow Node). r.root) (one_value at.row step.allows.0 (sym at.here ∙ step.allows.1))) ∙ step.allows.2

  lower : tree_debt after.nodes (root_after root made).0 + 1 ≤ tree_debt before.nodes at.row.root.0
  lower = subst (λ (n : Node). tree_debt after.nodes (root_after root made).0 + 1 ≤ tree_debt before.nodes n.0) (sym at.is) (step.lowers (step.idle ∙ ap not root_allows))

  stays : (j : ℕ) → j < length before.nodes → tree_debt after.nodes j ≡ tree_debt before.nodes j
  stays j lt = ap (λ ns. tree_debt ns j) step.grows.is ∙ (step.stay step.grows.more j lt).0

  pub step_told : documents_allow before.nodes before.documents ≡ true
  step_told = allows_there before.nodes before.documents k step.allows.0 step.allows.1 step.allows.2

  module _ (now : after.documents ≡ with_root before.documents document (root_after root made)) (contents : after.contents ≡ before.contents) (index : after.index ≡ before.index) (links : after.links ≡ before.links) where
    pub step_lowers : debt_of after + 1 ≤ debt_of before
    step_lowers =
        debt_lower before after contents index links
        (subst (λ ds. documents_debt after.nodes ds + 1 ≤ documents_debt before.nodes before.documents) (sym now)
        (subst (λ d. documents_debt after.nodes (with_root before.documents d (root_after root made)) + 1 ≤ documents_debt before.nodes before.documents) own
        (debt_falls before.nodes after.nodes stays (root_after root made) before.documents k at.row (roots_below before.nodes before.documents step.stand) step.ascend at.here lower)))

    pub step_same : after.content ≡ before.content → after.access ≡ before.access → after.counted ≡ before.counted → after.sessions ≡ before.sessions → SameRows before after
    step_same content access counted sessions =
        same_rooted before after step.stand step.kept step.grows document root (root_after root made) own_root
        (step.document_is (subst (λ (n : Node). IsRoot before.nodes n.0) at.is (root_of_row before.documents k at.row step.stand at.here)))
        step.rows_same now contents content index links access counted sessions
      where
        root_of_row : (rows : List (DocumentRow Node)) (j : ℕ) (row : DocumentRow Node) → RootsStand before.nodes rows → slice_get rows j ≡ Some row → IsRoot before.nodes row.root.0
        root_of_row [] j row stand e = absurd (none_there row (sym e))
        root_of_row (r ∷ rows) zero row stand e = subst (λ (x : DocumentRow Node). IsRoot before.nodes x.root.0) (one_value r row e) (All-head (λ (x : DocumentRow Node). IsRoot before.nodes x.root.0) r rows stand)
        root_of_row (r ∷ rows) (suc j) row stand e = root_of_row rows j row (All-tail (λ (x : DocumentRow Node). IsRoot before.nodes x.root.0) r rows stand) e

pub same_self : (trees now : Trees) → now ≡ trees → RootsStand trees.nodes trees.documents → SameRows trees now
same_self trees now is stand = subst (λ ts. SameRows trees ts) (sym is) (same_trees trees trees stand refl refl refl refl refl refl refl refl refl refl refl refl)

-- ---- whether one allows a step

pub tree_off : {L : Type 0} (arena nodes : List (Shape L)) (root number : ℕ) (told : Bool) → arena ≡ nodes → root ≡ number → told ≡ tree_allows arena root → told ≡ false → tree_allows nodes number ≡ false
tree_off arena nodes root number told is at says off = (λ i. tree_allows (sym is i) (sym at i)) ∙ sym says ∙ off

pub last_allows : (a b c d e f : Bool) → a ≡ false → b ≡ false → c ≡ false → d ≡ false → e ≡ false → f ≡ (a || b || c || d || e || f)
last_allows a b c d e f ea eb ec ed ee = λ i. sym ea i || sym eb i || sym ec i || sym ed i || sym ee i || f
