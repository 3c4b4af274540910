-- Children in two halves, each packed.
use Rattle.std.proofs.Common.{◌≡◌, ◌≢◌, ℕ, ◌+◌, ◌-◌, ◌/◌, ◌<◌, ◌≤◌, List, [], ◌∷◌, ◌++◌, length, take, drop, map, refl, arith, ap, ◌∙◌, sym, subst, Some, append-nil}
use Rattle.std.specs.List.{All}
use Rattle.std.proofs.lemmas.List.{length-map, length-take-le, take-append-drop, length-drop, take-map}
use Rattle.std.specs.List.{drop-map}
use Rattle.std.proofs.lemmas.List.Elements.{All-nil, All-take, All-drop}
use Rattle.std.proofs.lemmas.Grind.{flat_map-append}
use Rattle.tumbler.specs.Places.{IsTumbler}
use Rattle.enfilade_core.specs.declared.tree.Row.{Row}
use Rattle.enfilade_core.specs.declared.tree.Branch.{Branch}
use Rattle.enfilade_core.specs.declared.balance_state.BalanceState.{BalanceState}
use Rattle.enfilade_core.specs.Rows.{Shape, Rows, Branches}
use Rattle.enfilade_core.specs.Axes.{Widths, InOrder, IsWellFormedRows}
use Rattle.enfilade_core.specs.WellFormed.{IsWellFormed, IsWellFormedPart}
use Rattle.enfilade_core.specs.Summary.{no_summary, height_of}
use Rattle.enfilade_core.specs.Exchange.{Grows, HasRows, BranchesHaveRows}
use Rattle.enfilade_core.specs.BalanceState.{node_debt, balance_states, balance_state_in, balance_state_of}
use Rattle.enfilade_core.proofs.Heights.{rows_height}
use Rattle.enfilade_core.proofs.Nodes.{node-parts}
use Rattle.enfilade_core.proofs.Orders.{InOrder-front, InOrder-back}
use Rattle.enfilade_core.proofs.PackedBranches.{well_formed-if_parts}
use Rattle.enfilade_core.proofs.ExchangeLists.{well_formed_rows-front, well_formed_rows-back}
use Rattle.enfilade_core.proofs.ExchangeGrown.{flat_rows, parts-grown, flat-grown, level-grown, branches-grown, branches-append, branches-one}
use Rattle.enfilade_core.proofs.ExchangeNodes.{level-height, packed-has}
use Rattle.enfilade_balance.specs.Path.{debt_below, Packs, IsHalved}
use Rattle.enfilade_balance.proofs.Over.{rows-in_two, branches-in_two}
use Rattle.enfilade_balance.proofs.Owed.{balance_state-grown, debt-grown, debt-append, debt-two}

-- ---- children that hang under a node of their own then

pub record InHalves {L : Type 0} (w : Widths L) (old mid new : List (Shape L)) (front back : Shape L) (made : List Branch) : Type 0 where
  pub lower : Branch
  pub upper : Branch
  pub first : Packs w old mid front lower
  pub second : Packs w mid new back upper
  pub is : made ≡ lower ∷ upper ∷ []

halves-have : {L : Type 0} (w : Widths L) (old mid new : List (Shape L)) (height : ℕ) (rows more : List (Row L)) (front back : Shape L) (made : List Branch) → InHalves w old mid new front back made → HasRows w old height rows front → HasRows w mid height more back → BranchesHaveRows w new height (rows ++ more) made
halves-have w old mid new height rows more front back made h f b =
    let lower = branches-grown w mid new height rows (h.lower ∷ []) h.second.grows (branches-one w mid height rows (Some h.lower) (packed-has w old mid height rows front h.lower f h.first.packed)) in
    let upper = branches-one w new height more (Some h.upper) (packed-has w mid new height more back h.upper b h.second.packed) in
    subst (BranchesHaveRows w new height (rows ++ more)) (sym h.is) (branches-append w new height rows more (h.lower ∷ []) (h.upper ∷ []) lower upper)

halves-owe : {L : Type 0} (w : Widths L) (old mid new : List (Shape L)) (front back : Shape L) (made : List Branch) → InHalves w old mid new front back made → debt_below (balance_states new) made ≡ (balance_state_in (balance_states old) front).debt + (balance_state_in (balance_states mid) back).debt
halves-owe {L} w old mid new front back made h =
    ap (debt_below (balance_states new)) h.is ∙ debt-two (balance_states new) h.lower h.upper
    ∙ ap (λ (s : BalanceState). s.debt + (balance_state_of new h.upper.node.0).debt) (balance_state-grown mid new h.lower.node.0 h.second.grows h.first.packed.part.branch.below ∙ h.first.stands)
    ∙ ap (λ (s : BalanceState). (balance_state_in (balance_states old) front).debt + s.debt) h.second.stands

-- two nodes of half of the children owe less than one of them all
pub halves_owe_less : (n h : ℕ) → 16 < n → h ≡ n / 2 → node_debt h + node_debt (n - h) + 5 ≤ node_debt n
halves_owe_less n h many is = omega arith

-- ---- rows

pub rows-have : {L : Type 0} (w : Widths L) (nodes : List (Shape L)) (rows : List (Row L)) → IsWellFormedRows w rows → HasRows w nodes 0 rows (Rows rows)
rows-have w nodes rows well_formed = record {
  well_formed = record { branches = tt; first_origins = All-nil IsTumbler; second_origins = All-nil IsTumbler; rows = well_formed.each; ordered = well_formed.ordered };
  rows_are = refl;
  level = rows_height w rows no_summary refl;
}

pub front_well_formed : {L : Type 0} (w : Widths L) (rows : List (Row L)) (h : ℕ) → IsWellFormedRows w rows → IsWellFormedRows w (take h rows)
front_well_formed w rows h well_formed = well_formed_rows-front w (take h rows) (drop h rows) (subst (IsWellFormedRows w) (sym (take-append-drop h rows)) well_formed)

pub back_well_formed : {L : Type 0} (w : Widths L) (rows : List (Row L)) (h : ℕ) → IsWellFormedRows w rows → IsWellFormedRows w (drop h rows)
back_well_formed w rows h well_formed = well_formed_rows-back w (take h rows) (drop h rows) (subst (IsWellFormedRows w) (sym (take-append-drop h rows)) well_formed)

pub rows-halved : {L : Type 0} (w : Widths L) (old mid new : List (Shape L)) (rows : List (Row L)) (h : ℕ) (made : List Branch) → IsWellFormedRows w rows → 16 < length rows → h ≡ length rows / 2 → InHalves w old mid new (Rows (take h rows)) (Rows (drop h rows)) made → IsHalved w old new (Rows rows) made
rows-halved {L} w old mid new rows h made well_formed many is halves =
    let front = take h rows in
    let back = drop h rows in
    let have = halves-have w old mid new 0 front back (Rows front) (Rows back) made halves (rows-have w old front (front_well_formed w rows h well_formed)) (rows-have w mid back (back_well_formed w rows h well_formed)) in
    let all = subst (λ (rs : List (Row L)). BranchesHaveRows w new 0 rs made) (take-append-drop h rows) have in
    let owe = halves-owe w old mid new (Rows front) (Rows back) made halves in
    let a : length front ≡ h = length-take-le h rows (omega arith) in
    let b : length back ≡ length rows - h = length-drop h rows in
    record {
      two = ap length halves.is;
      have = subst (λ (n : ℕ). BranchesHaveRows w new n rows made) (sym (rows_height w rows no_summary refl)) all;
      owe =
          let less = halves_owe_less (length rows) h many is in
          let both : debt_below (balance_states new) made ≡ node_debt h + node_debt (length rows - h) =
          owe ∙ ap (λ (n : ℕ). node_debt n + node_debt (length back)) a ∙ ap (λ (n : ℕ). node_debt h + node_debt n) b in
          rw both less;
      split = rows-in_two w old mid new rows h halves.lower halves.upper made many is halves.first halves.second halves.is;
    }

-- ---- branches

-- some of the branches of a well formed node, as nodes are added
pub some-have : {L : Type 0} (w : Widths L) (old now : List (Shape L)) (height : ℕ) (branches : List Branch) → Grows old now → branches ≢ [] → All (IsWellFormedPart w old) branches → All (λ b. height_of w old b.node.0 ≡ height) branches → InOrder (flat_rows old branches) → HasRows w now (height + 1) (flat_rows old branches) (Branches branches)
some-have w old now height branches g some parts level ordered =
    let same = flat-grown w old now branches g parts in
    let high = level-grown w old now height branches g parts level in
    record {
      well_formed = well_formed-if_parts w now branches height some (parts-grown w old now branches g parts) high (subst InOrder (sym same) ordered);
      rows_are = same;
      level = level-height w now height branches some high;
    }

flat-halves : {L : Type 0} (nodes : List (Shape L)) (branches : List Branch) (h : ℕ) → flat_rows nodes (take h branches) ++ flat_rows nodes (drop h branches) ≡ flat_rows nodes branches
flat-halves nodes branches h = sym (flat_map-append _ (take h branches) (drop h branches)) ∙ ap (flat_rows nodes) (take-append-drop h branches)

some_if_long : {A : Type 0} (xs : List A) → 0 < length xs → xs ≢ []
some_if_long [] lt q = absurd (omega arith)
some_if_long (x ∷ xs) lt q = cc

pub front_some : {A : Type 0} (xs : List A) (h : ℕ) → 16 < length xs → h ≡ length xs / 2 → take h xs ≢ []
front_some xs h many is = some_if_long (take h xs) (omega (arith, length-take-le h xs (omega arith)))

pub back_some : {A : Type 0} (xs : List A) (h : ℕ) → 16 < length xs → h ≡ length xs / 2 → drop h xs ≢ []
back_some xs h many is = some_if_long (drop h xs) (omega (arith, length-drop h xs))

pub front-have : {L : Type 0} (w : Widths L) (nodes : List (Shape L)) (branches : List Branch) (h : ℕ) → 16 < length branches → h ≡ length branches / 2 → (well_formed : IsWellFormed w nodes (Branches branches)) → HasRows w nodes (well_formed.branches.height + 1) (flat_rows nodes (take h branches)) (Branches (take h branches))
front-have w nodes branches h many is well_formed =
    some-have w nodes nodes well_formed.branches.height (take h branches) record { more = []; is = sym (append-nil nodes) } (front_some branches h many is)
    (All-take (IsWellFormedPart w nodes) h branches (node-parts w nodes branches well_formed)) (All-take (λ b. height_of w nodes b.node.0 ≡ well_formed.branches.height) h branches well_formed.branches.level)
    (InOrder-front (flat_rows nodes (take h branches)) (flat_rows nodes (drop h branches)) (subst InOrder (sym (flat-halves nodes branches h)) well_formed.ordered))

pub back-have : {L : Type 0} (w : Widths L) (old mid : List (Shape L)) (branches : List Branch) (h : ℕ) → Grows old mid → 16 < length branches → h ≡ length branches / 2 → (well_formed : IsWellFormed w old (Branches branches)) → HasRows w mid (well_formed.branches.height + 1) (flat_rows old (drop h branches)) (Branches (drop h branches))
back-have w old mid branches h g many is well_formed =
    some-have w old mid well_formed.branches.height (drop h branches) g (back_some branches h many is)
    (All-drop (IsWellFormedPart w old) h branches (node-parts w old branches well_formed)) (All-drop (λ b. height_of w old b.node.0 ≡ well_formed.branches.height) h branches well_formed.branches.level)
    (InOrder-back (flat_rows old (take h branches)) (flat_rows old (drop h branches)) (subst InOrder (sym (flat-halves old branches h)) well_formed.ordered))

pub branches-halved : {L : Type 0} (w : Widths L) (old mid new : List (Shape L)) (branches : List Branch) (h : ℕ) (made : List Branch) → IsWellFormed w old (Branches branches) → 16 < length branches → h ≡ length branches / 2 → InHalves w old mid new (Branches (take h branches)) (Branches (drop h branches)) made → IsHalved w old new (Branches branches) made
branches-halved {L} w old mid new branches h made well_formed many is halves =
    let front = take h branches in
    let back = drop h branches in
    let height = well_formed.branches.height + 1 in
    let g = halves.first.grows in
    let have = halves-have w old mid new height (flat_rows old front) (flat_rows old back) (Branches front) (Branches back) made halves (front-have w old branches h many is well_formed) (back-have w old mid branches h g many is well_formed) in
    let all = subst (λ (rs : List (Row L)). BranchesHaveRows w new height rs made) (flat-halves old branches h) have in
    let owe = halves-owe w old mid new (Branches front) (Branches back) made halves in
    let a : length front ≡ h = length-take-le h branches (omega arith) in
    let b : length back ≡ length branches - h = length-drop h branches in
    let same : debt_below (balance_states mid) back ≡ debt_below (balance_states old) back = debt-grown w old mid back g (All-drop (IsWellFormedPart w old) h branches (node-parts w old branches well_formed)) in
    let whole : debt_below (balance_states old) front + debt_below (balance_states old) back ≡ debt_below (balance_states old) branches = sym (debt-append (balance_states old) front back) ∙ ap (debt_below (balance_states old)) (take-append-drop h branches) in
    let less = halves_owe_less (length branches) h many is in
    let d1 : node_debt (length front) ≡ node_debt h = ap node_debt a in
    let d2 : node_debt (length back) ≡ node_debt (length branches - h) = ap node_debt b in
    record {
      two = ap length halves.is;
      have = subst (λ (n : ℕ). BranchesHaveRows w new n (flat_rows old branches) made) (sym (level-height w old well_formed.branches.height branches well_formed.branches.some well_formed.branches.level)) all;
      owe = sums (debt_below (balance_states new) made) (node_debt (length front)) (debt_below (balance_states old) front) (node_debt (length back)) (debt_below (balance_states mid) back) (node_debt h) (node_debt (length branches - h)) (debt_below (balance_states old) back) (node_debt (length branches)) (debt_below (balance_states old) branches) owe d1 d2 same whole less;
      split = branches-in_two w old mid new branches h halves.lower halves.upper made well_formed many is halves.first halves.second halves.is;
    }
  where
    sums : (m f df b db h r dr n d : ℕ) → m ≡ (f + df) + (b + db) → f ≡ h → b ≡ r → db ≡ dr → df + dr ≡ d → h + r + 5 ≤ n → m + 5 ≤ n + d
    sums m f df b db h r dr n d e1 e2 e3 e4 e5 e6 = omega arith

-- ---- as the code has them

pub front-fits : {L : Type 0} (w : Widths L) (f : Row L → Row L) (rows front : List (Row L)) (h : ℕ) → IsWellFormedRows w (map f rows) → front ≡ take h rows → IsWellFormedRows w (map f front)
front-fits w f rows front h well_formed is = subst (IsWellFormedRows w) (take-map f h rows ∙ ap (map f) (sym is)) (front_well_formed w (map f rows) h well_formed)

pub back-fits : {L : Type 0} (w : Widths L) (f : Row L → Row L) (rows back : List (Row L)) (h : ℕ) → IsWellFormedRows w (map f rows) → back ≡ drop h rows → IsWellFormedRows w (map f back)
back-fits w f rows back h well_formed is = subst (IsWellFormedRows w) (drop-map f h rows ∙ ap (map f) (sym is)) (back_well_formed w (map f rows) h well_formed)

pub rows-cut : {L : Type 0} (w : Widths L) (f : Row L → Row L) (old mid new : List (Shape L)) (rows front back : List (Row L)) (lower upper : Branch) (made : List Branch) → IsWellFormedRows w (map f rows) → 16 < length rows → front ≡ take (length rows / 2) rows → back ≡ drop (length rows / 2) rows
    → Packs w old mid (Rows (map f front)) lower → Packs w mid new (Rows (map f back)) upper → made ≡ lower ∷ upper ∷ [] → IsHalved w old new (Rows (map f rows)) made
rows-cut {L} w f old mid new rows front back lower upper made fit many front_is back_is first second is =
    let h = length rows / 2 in
    let long = length-map rows f in
    rows-halved w old mid new (map f rows) h made fit (omega (arith, many, long)) (ap (λ (n : ℕ). n / 2) (sym long)) record {
      lower = lower;
      upper = upper;
      first = subst (λ (rs : List (Row L)). Packs w old mid (Rows rs) lower) (ap (map f) front_is ∙ sym (take-map f h rows)) first;
      second = subst (λ (rs : List (Row L)). Packs w mid new (Rows rs) upper) (ap (map f) back_is ∙ sym (drop-map f h rows)) second;
      is = is;
    }

pub branches-cut : {L : Type 0} (w : Widths L) (old mid new : List (Shape L)) (branches front back : List Branch) (lower upper : Branch) (made : List Branch) → IsWellFormed w old (Branches branches) → 16 < length branches → front ≡ take (length branches / 2) branches → back ≡ drop (length branches / 2) branches
    → Packs w old mid (Branches front) lower → Packs w mid new (Branches back) upper → made ≡ lower ∷ upper ∷ [] → IsHalved w old new (Branches branches) made
branches-cut w old mid new branches front back lower upper made fit many front_is back_is first second is =
    branches-halved w old mid new branches (length branches / 2) made fit many refl record {
      lower = lower;
      upper = upper;
      first = subst (λ (bs : List Branch). Packs w old mid (Branches bs) lower) front_is first;
      second = subst (λ (bs : List Branch). Packs w mid new (Branches bs) upper) back_is second;
      is = is;
    }

pub front-branches : {L : Type 0} (w : Widths L) (nodes : List (Shape L)) (branches front : List Branch) → IsWellFormed w nodes (Branches branches) → 16 < length branches → front ≡ take (length branches / 2) branches → IsWellFormed w nodes (Branches front)
front-branches w nodes branches front well_formed many is = subst (λ (bs : List Branch). IsWellFormed w nodes (Branches bs)) (sym is) (front-have w nodes branches (length branches / 2) many refl well_formed).well_formed

pub back-branches : {L : Type 0} (w : Widths L) (old mid : List (Shape L)) (branches back : List Branch) → Grows old mid → IsWellFormed w old (Branches branches) → 16 < length branches → back ≡ drop (length branches / 2) branches → IsWellFormed w mid (Branches back)
back-branches w old mid branches back g well_formed many is = subst (λ (bs : List Branch). IsWellFormed w mid (Branches bs)) (sym is) (back-have w old mid branches (length branches / 2) g many refl well_formed).well_formed
