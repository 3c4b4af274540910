-- A node under its new number has well formed children, and what is said of it is what the old one said.
use Rattle.std.proofs.Common.{◌≡◌, ◌≢◌, ◌∙◌, inl, inr, ℕ, zero, suc, ◌+◌, ◌<◌, ◌≤◌, Bool, true, false, List, [], ◌∷◌, ◌++◌, length, take, map, get_or, sym, ap, subst, refl, arith, true≢false}
use Rattle.std.specs.Prelude.{IsTrue, All}
use Rattle.std.proofs.lemmas.List.{get_or-map, length-map, length_push, get_or_push, get_or_append_left}
use Rattle.std.proofs.lemmas.List.Elements.{All-map}
use Rattle.std.proofs.lemmas.Bool.{cases_lt}
use Rattle.tumbler.specs.Places.{IsTumbler}
use Rattle.enfilade_core.specs.declared.tree.Branch.{Branch}
use Rattle.enfilade_core.specs.declared.summary.Summary.{Summary}
use Rattle.enfilade_core.specs.Rows.{Shape, Rows, Branches, table, node_at, rows_of, rows_in, branches_under}
use Rattle.enfilade_core.specs.Axes.{Widths, InOrder, IsWellFormedRow, first_axis, second_axis, greatest_end}
use Rattle.enfilade_core.specs.WellFormed.{IsWellFormed, AreWellFormed, HasWellFormedBranches, IsWellFormedBranch, NamesBelow, origins_in}
use Rattle.enfilade_core.specs.Summary.{summary_in, no_summary, height_of}
use Rattle.enfilade_core.proofs.Tables.{IsLocal, Agrees-take, table-said}
use Rattle.enfilade_core.proofs.Locals.{rows_local, origins_local, summary_local}
use Rattle.enfilade_core.proofs.Parts.{names_below}
use Rattle.enfilade_core.specs.NewNumbers.{renamed_branch, renamed, is_marked, rank, AreAtRanks, IsClosed, AreRanks}
use Rattle.enfilade_core.proofs.Naming.{IsNatural, SaidThere, rows_natural, origins_natural, summary_natural, renamed_alike}
use Rattle.enfilade_core.proofs.Ranks.{rank_yes, rank_no, rank_less}

pub named_all : {L : Type 0} (n : ℕ) (node : Shape L) → NamesBelow n node → All (λ (branch : Branch). branch.node.0 < n) (branches_under node)
named_all n (Rows rows) h = λ k d lt. absurd (omega (arith, lt))
named_all n (Branches branches) h = h

-- what hangs under a marked node is before it and marked
abbrev pub IsBeforeAndMarked : List Bool → ℕ → Branch → Type 0
IsBeforeAndMarked marks k branch = (branch.node.0 < k) × IsTrue (is_marked marks branch.node.0)

pub under_marked : {L : Type 0} (w : Widths L) (marks : List Bool) (old : List (Shape L)) (k : ℕ) → AreWellFormed w old → IsClosed old marks → k < length old → is_marked marks k ≡ true → All (IsBeforeAndMarked marks k) (branches_under (node_at old k))
under_marked w marks old k well_formed closed lt here i d within =
    let branches = branches_under (node_at old k) in
    let name : Branch → ℕ = λ branch. branch.node.0 in (
      named_all k (node_at old k) (names_below w old k well_formed lt) i d within,
      closed k (get_or branches i d).node.0 here (i, omega (arith, within, length-map branches name), get_or-map name branches i d (get_or branches i d).node.0 within),
    )

module _ {L : Type 0} (w : Widths L) (marks : List Bool) (old new : List (Shape L)) (n : ℕ) (well_formed_old : AreWellFormed w old) (well_formed_new : AreWellFormed w new) (closed : IsClosed old marks) (copied : AreAtRanks marks old new n) (few : n ≤ length old) where
  pub inside : (k : ℕ) → k < n → is_marked marks k ≡ true → rank marks k < length new
  inside k lt here = let less = rank_less marks k n here lt in omega (arith, less, copied.long)

  -- what is said of a copied node is what is said of the old one
  agrees : {T : Type 0} (say : List T → Shape L → T) (d : T) → IsLocal say d → IsNatural say d → (most k : ℕ) → k < most → k < n → is_marked marks k ≡ true → get_or (table say new) (rank marks k) d ≡ get_or (table say old) k d
  agrees say d local natural zero k le lt here = absurd (omega (arith, le))
  agrees say d local natural (suc most) k le lt here =
      let there = inside k lt here in
      let all = under_marked w marks old k well_formed_old closed (omega (arith, lt, few)) here in
      table-said say d local new (rank marks k) there (names_below w new (rank marks k) well_formed_new there)
      ∙ ap (say (table say new)) (copied.same k lt here)
      ∙ natural.same (rank marks) (table say new) (table say old) (node_at old k)
      (λ i b within. let c = all i b within in agrees say d local natural most (get_or (branches_under (node_at old k)) i b).node.0 (omega (arith, le, c.0)) (omega (arith, lt, c.0)) c.1)
      ∙ sym (table-said say d local old k (omega (arith, lt, few)) (names_below w old k well_formed_old (omega (arith, lt, few))))

  pub agree : {T : Type 0} (say : List T → Shape L → T) (d : T) → IsLocal say d → IsNatural say d → (k : ℕ) → k < n → is_marked marks k ≡ true → get_or (table say new) (rank marks k) d ≡ get_or (table say old) k d
  agree say d local natural k lt here = agrees say d local natural (k + 1) k (omega arith) lt here

-- the node that a branch names has, at its place, the rows and the height that it had
record IsThere {L : Type 0} (w : Widths L) (place : ℕ → ℕ) (before new : List (Shape L)) (branch : Branch) : Type 0 where
  inside : place branch.node.0 < length new
  rows : rows_of new (place branch.node.0) ≡ rows_of before branch.node.0
  height : height_of w new (place branch.node.0) ≡ height_of w before branch.node.0

well_formed_branch : {L : Type 0} (w : Widths L) (place : ℕ → ℕ) (before new : List (Shape L)) (branch : Branch) → IsWellFormedBranch w before branch → IsThere w place before new branch → IsWellFormedBranch w new (renamed_branch place branch)
well_formed_branch w place before new branch well_formed there = record {
  below = there.inside;
  filled = λ none. well_formed.filled (sym there.rows ∙ none);
  first_extent = well_formed.first_extent ∙ ap (greatest_end (first_axis w)) (sym there.rows);
  second_extent = well_formed.second_extent ∙ ap (greatest_end (second_axis w)) (sym there.rows);
}

still_some : (place : ℕ → ℕ) (branches : List Branch) → branches ≢ [] → map (renamed_branch place) branches ≢ []
still_some place [] some none = some refl
still_some place (b ∷ bs) some none = let more = ap length none in absurd (omega (arith, more))

well_formed_branches : {L : Type 0} (w : Widths L) (place : ℕ → ℕ) (before new : List (Shape L)) (node : Shape L) → HasWellFormedBranches w before node → All (IsThere w place before new) (branches_under node) → HasWellFormedBranches w new (renamed place node)
well_formed_branches w place before new (Rows rows) well_formed there = tt
well_formed_branches w place before new (Branches branches) well_formed there = record {
  some = still_some place branches well_formed.some;
  each = All-map (IsWellFormedBranch w new) (renamed_branch place) branches (λ i d lt. well_formed_branch w place before new (get_or branches i d) (well_formed.each i d lt) (there i d lt));
  height = well_formed.height;
  level = All-map (λ (branch : Branch). height_of w new branch.node.0 ≡ well_formed.height) (renamed_branch place) branches (λ i d lt. (there i d lt).height ∙ well_formed.level i d lt);
}

-- the marked node k, copied behind those before it
module _ {L : Type 0} (w : Widths L) (marks : List Bool) (old new : List (Shape L)) (k : ℕ) (well_formed_old : AreWellFormed w old) (well_formed_new : AreWellFormed w new) (closed : IsClosed old marks) (copied : AreAtRanks marks old new k) (lt : k < length old)
    (here : is_marked marks k ≡ true) where
  all : All (IsBeforeAndMarked marks k) (branches_under (node_at old k))
  all = under_marked w marks old k well_formed_old closed lt here

  said : {T : Type 0} (say : List T → Shape L → T) (d : T) → IsLocal say d → IsNatural say d → All (SaidThere (rank marks) d (table say new) (table say (take k old))) (branches_under (node_at old k))
  said say d local natural i b within =
      let c = all i b within in
      let m = (get_or (branches_under (node_at old k)) i b).node.0 in
      agree w marks old new k well_formed_old well_formed_new closed copied (omega (arith, lt)) say d local natural m c.0 c.1 ∙ sym (Agrees-take say d old k (omega (arith, lt)) m c.0)

  there : All (IsThere w (rank marks) (take k old) new) (branches_under (node_at old k))
  there i b within =
      let c = all i b within in
      record {
        inside = inside w marks old new k well_formed_old well_formed_new closed copied (omega (arith, lt)) (get_or (branches_under (node_at old k)) i b).node.0 c.0 c.1;
        rows = said rows_in [] rows_local rows_natural i b within;
        height = ap (λ (s : Summary). s.height) (said (summary_in w) no_summary (summary_local w) (summary_natural w) i b within);
      }

  pub well_formed_there : IsWellFormed w new (renamed (rank marks) (node_at old k))
  well_formed_there =
      let r = well_formed_old.each k lt in
      let node = node_at old k in
      let rows = rows_natural.same (rank marks) (table rows_in new) (table rows_in (take k old)) node (said rows_in [] rows_local rows_natural) in
      let first = origins_natural (first_axis w) (λ place branch. refl) in
      let second = origins_natural (second_axis w) (λ place branch. refl) in
      record {
        branches = well_formed_branches w (rank marks) (take k old) new node r.branches there;
        first_origins =
            subst (All IsTumbler)
            (sym (first.same (rank marks) (table (origins_in (first_axis w)) new) (table (origins_in (first_axis w)) (take k old)) node (said (origins_in (first_axis w)) [] (origins_local (first_axis w)) first))) r.first_origins;
        second_origins =
            subst (All IsTumbler)
            (sym (second.same (rank marks) (table (origins_in (second_axis w)) new) (table (origins_in (second_axis w)) (take k old)) node (said (origins_in (second_axis w)) [] (origins_local (second_axis w)) second))) r.second_origins;
        rows = subst (All (IsWellFormedRow w)) (sym rows) r.rows;
        ordered = subst InOrder (sym rows) r.ordered;
      }

  -- the places of what hangs under it, as they stand beside the nodes
  pub places_there : (ranks : List ℕ) → AreRanks marks ranks → length marks ≡ length old → All (λ (branch : Branch). get_or ranks branch.node.0 0 < length new) (branches_under (node_at old k))
  places_there ranks exact long i b within =
      let c = all i b within in
      let m = (get_or (branches_under (node_at old k)) i b).node.0 in
      let e = exact.1 m (omega (arith, c.0, lt, long)) in
      let t = inside w marks old new k well_formed_old well_formed_new closed copied (omega (arith, lt)) m c.0 c.1 in
      omega (arith, e, t)

  pub named_alike : (ranks : List ℕ) → AreRanks marks ranks → length marks ≡ length old → renamed (λ m. get_or ranks m 0) (node_at old k) ≡ renamed (rank marks) (node_at old k)
  named_alike ranks exact long =
      renamed_alike (λ m. get_or ranks m 0) (rank marks) (node_at old k) (λ i b within. let c = all i b within in exact.1 (get_or (branches_under (node_at old k)) i b).node.0 (omega (arith, c.0, lt, long)))

  pub copied_next : (node : Shape L) (after : List (Shape L)) → after ≡ new ++ node ∷ [] → node ≡ renamed (rank marks) (node_at old k) → AreAtRanks marks old after (k + 1)
  copied_next node after is made = subst (λ (ns : List (Shape L)). AreAtRanks marks old ns (k + 1)) (sym is) (record {
    long = length_push new node ∙ omega (arith, copied.long, rank_yes marks k here);
    same = λ j le h. elim (cases_lt j k) [
      | inl less ↦ get_or_append_left new (node ∷ []) (Rows []) (rank marks j) (inside w marks old new k well_formed_old well_formed_new closed copied (omega (arith, lt)) j less h) ∙ copied.same j less h
      | inr ge ↦
          let same : j ≡ k = omega (arith, le, ge) in
          get_or_push new node (Rows []) (rank marks j) (copied.long ∙ sym (ap (rank marks) same)) ∙ made ∙ ap (λ (i : ℕ). renamed (rank marks) (node_at old i)) (sym same)
    ];
  })

-- a node that is not marked is passed over
pub copied_skip : {L : Type 0} (marks : List Bool) (old new : List (Shape L)) (k : ℕ) → AreAtRanks marks old new k → is_marked marks k ≡ false → AreAtRanks marks old new (k + 1)
copied_skip marks old new k copied here = record {
  long = copied.long ∙ sym (rank_no marks k here);
  same = λ j le h. elim (cases_lt j k) [
    | inl less ↦ copied.same j less h
    | inr ge ↦ let same : j ≡ k = omega (arith, le, ge) in absurd (true≢false (sym h ∙ ap (is_marked marks) same ∙ here))
  ];
}
