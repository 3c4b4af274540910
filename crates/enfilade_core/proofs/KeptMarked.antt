-- The marked nodes at the front of their list are an arena, and stand at their places.
use Rattle.std.proofs.Common.{◌≡◌, ◌≢◌, ◌∙◌, inl, inr, ℕ, zero, suc, ◌+◌, ◌<◌, ◌≤◌, Bool, true, false, List, [], ◌∷◌, ◌++◌, length, take, map, get_or, sym, ap, subst, refl, arith, append-nil, true≢false}
use Rattle.std.specs.List.{refill}
use Rattle.std.proofs.Math.ListN.{drop_of_length-le}
use Rattle.std.proofs.lemmas.List.{get_or-map, length-map, get_or-take, length-take-le, take_more, take_all, same_lists}
use Rattle.std.proofs.lemmas.List.Sums.{count_by-le-length}
use Rattle.std.proofs.lemmas.Bool.{cases_lt}
use Rattle.enfilade_core.specs.declared.stored_node.StoredNode.{StoredNode}
use Rattle.enfilade_core.specs.Rows.{Shape, Rows, table, node_at, branches_under}
use Rattle.enfilade_core.specs.Axes.{Widths}
use Rattle.enfilade_core.specs.WellFormed.{AreWellFormed}
use Rattle.enfilade_core.specs.Summary.{summary_in, no_summary, kept}
use Rattle.enfilade_core.specs.BalanceState.{balance_state_in, no_balance_state, kept_balance_state}
use Rattle.enfilade_core.specs.Plain.{shape}
use Rattle.enfilade_core.specs.StoredNode.{held_shapes, IsArena}
use Rattle.enfilade_core.specs.NewNumbers.{renamed, is_marked, rank, AreRanks, IsClosed, AreAtRanks}
use Rattle.enfilade_core.specs.KeptMarked.{HangBelow, IsRenamed, AreMoved}
use Rattle.enfilade_core.proofs.Tables.{IsLocal, length-table}
use Rattle.enfilade_core.proofs.Parts.{names_below}
use Rattle.enfilade_core.proofs.Locals.{summary_local, balance_state_local}
use Rattle.enfilade_core.proofs.Naming.{IsNatural, summary_natural, balance_state_natural, renamed_alike}
use Rattle.enfilade_core.proofs.Arenas.{well_formed_none, well_formed_push}
use Rattle.enfilade_core.proofs.Ranks.{marked_within, rank_yes, rank_no, rank_less, rank_up_to, rank_only}
use Rattle.enfilade_core.proofs.AtRanks.{named_all, under_marked, well_formed_there, agree}

-- ---- nodes at their ranks are well formed

module _ {L : Type 0} (w : Widths L) (marks : List Bool) (old new : List (Shape L)) (well_formed : AreWellFormed w old) (closed : IsClosed old marks) (at : AreAtRanks marks old new (length old)) where
  abbrev front : ℕ → List (Shape L)
  front n = take (rank marks n) new

  front_long : (n : ℕ) → n ≤ length old → length (front n) ≡ rank marks n
  front_long n le = length-take-le (rank marks n) new (let up = rank_up_to marks n (length old) le in omega (arith, up, at.long))

  front_at : (n : ℕ) → n ≤ length old → AreAtRanks marks old (front n) n
  front_at n le = record {
    long = front_long n le;
    same = λ k lt here. get_or-take (rank marks n) new (rank marks k) (Rows []) (rank_less marks k n here lt) ∙ at.same k (omega (arith, lt, le)) here;
  }

  front_more : (n : ℕ) → n < length old → is_marked marks n ≡ true → front (n + 1) ≡ front n ++ renamed (rank marks) (node_at old n) ∷ []
  front_more n lt here =
      let less = rank_less marks n (length old) here lt in
      ap (λ (i : ℕ). take i new) (rank_yes marks n here) ∙ take_more new (rank marks n) (Rows []) (omega (arith, less, at.long))
      ∙ ap (λ (node : Shape L). front n ++ node ∷ []) (at.same n lt here)

  front_well_formed : (n : ℕ) → n ≤ length old → AreWellFormed w (front n)
  front_well_formed zero le = well_formed_none w
  front_well_formed (suc n) le = by (is_marked marks n) refl (front_well_formed n (omega (arith, le)))
    where
      on : n + 1 ≡ suc n
      on = omega arith

      by : (b : Bool) → is_marked marks n ≡ b → AreWellFormed w (front n) → AreWellFormed w (front (suc n))
      by true e early =
          let lt : n < length old = omega (arith, le) in
          subst (λ (i : ℕ). AreWellFormed w (front i)) on
          (subst (AreWellFormed w) (sym (front_more n lt e))
          (well_formed_push w (front n) (renamed (rank marks) (node_at old n)) early (well_formed_there w marks old (front n) n well_formed early closed (front_at n (omega (arith, le))) lt e)))
      by false e early = subst (λ (i : ℕ). AreWellFormed w (front i)) on (subst (λ (i : ℕ). AreWellFormed w (take i new)) (sym (rank_no marks n e)) early)

  pub at_ranks_well_formed : AreWellFormed w new
  at_ranks_well_formed = subst (AreWellFormed w) (take_all (rank marks (length old)) new (omega (arith, at.long))) (front_well_formed (length old) (omega arith))

-- ---- the moved nodes

some_item : {X : Type 0} (xs : List X) (k : ℕ) → k < length xs → X
some_item [] k lt = absurd (omega (arith, lt))
some_item (x ∷ xs) k lt = x

module _ {L : Type 0} (plain : L → L) (w : Widths L) (marks : List Bool) (ranks : List ℕ) (olds mixed : List (StoredNode L)) (arena : IsArena plain w olds) (long : length marks ≡ length olds) (closed : IsClosed (held_shapes plain olds) marks)
    (exact : AreRanks marks ranks) (moved : AreMoved plain marks (λ k. get_or ranks k 0) olds mixed (length olds)) where
  abbrev pub place : ℕ → ℕ
  place k = get_or ranks k 0

  abbrev pub nodes : List (Shape L)
  nodes = held_shapes plain olds

  many : length nodes ≡ length olds
  many = length-map olds (λ held. shape plain held.children)

  abbrev pub news : List (StoredNode L)
  news = take (rank marks (length olds)) mixed

  count_within : rank marks (length olds) ≤ length mixed
  count_within =
      let few = count_by-le-length (λ mark. mark) (take (length olds) marks) in
      let all = length-take-le (length olds) marks (omega (arith, long)) in
      omega (arith, few, all, moved.long)

  news_long : length news ≡ rank marks (length olds)
  news_long = length-take-le (rank marks (length olds)) mixed count_within

  -- a marked node at its place
  pub at_place : (k : ℕ) (d : StoredNode L) → k < length olds → is_marked marks k ≡ true → IsRenamed plain place (get_or olds k d) (get_or news (rank marks k) d)
  at_place k d lt here =
      subst (IsRenamed plain place (get_or olds k d)) (sym (get_or-take (rank marks (length olds)) mixed (rank marks k) d (rank_less marks k (length olds) here lt))) (moved.moved k d lt here)

  there : (k : ℕ) → k < length olds → is_marked marks k ≡ true → rank marks k < length news
  there k lt here = let less = rank_less marks k (length olds) here lt in omega (arith, less, news_long)

  named : (k : ℕ) → k < length olds → is_marked marks k ≡ true → renamed place (node_at nodes k) ≡ renamed (rank marks) (node_at nodes k)
  named k lt here =
      renamed_alike place (rank marks) (node_at nodes k)
      (λ i b within. let c = under_marked w marks nodes k arena.well_formed closed (omega (arith, lt, many)) here i b within in
      exact.1 (get_or (branches_under (node_at nodes k)) i b).node.0 (omega (arith, c.0, lt, long)))

  same_node : (k : ℕ) → k < length olds → is_marked marks k ≡ true → node_at (held_shapes plain news) (rank marks k) ≡ renamed (rank marks) (node_at nodes k)
  same_node k lt here =
      let d = some_item olds k lt in
      get_or-map (λ (held : StoredNode L). shape plain held.children) news (rank marks k) d (Rows []) (there k lt here)
      ∙ (at_place k d lt here).children
      ∙ ap (renamed place) (sym (get_or-map (λ (held : StoredNode L). shape plain held.children) olds k d (Rows []) lt))
      ∙ named k lt here

  pub are_at_ranks : AreAtRanks marks nodes (held_shapes plain news) (length nodes)
  are_at_ranks = record {
    long = length-map news (λ held. shape plain held.children) ∙ news_long ∙ ap (rank marks) (sym many);
    same = λ k lt here. same_node k (omega (arith, lt, many)) here;
  }

  well_formed_news : AreWellFormed w (held_shapes plain news)
  well_formed_news = at_ranks_well_formed w marks nodes (held_shapes plain news) arena.well_formed closed are_at_ranks

  -- what was kept beside a node is what is said of it now
  kept_there : {T : Type 0} (say : List T → Shape L → T) (none : T) → IsLocal say none → IsNatural say none → (keep : T → T) (field : StoredNode L → T) → ((a b : StoredNode L) → IsRenamed plain place a b → field b ≡ field a)
      → map field olds ≡ map keep (table say nodes) → map field news ≡ map keep (table say (held_shapes plain news))
  kept_there {T} say none local natural keep field stays told = same_lists (map field news) (map keep (table say (held_shapes plain news))) (length-map news field ∙ sym tabled) by
    where
      tabled : length (map keep (table say (held_shapes plain news))) ≡ length news
      tabled = length-map (table say (held_shapes plain news)) keep ∙ length-table say (held_shapes plain news) ∙ length-map news (λ held. shape plain held.children)

      at : (k : ℕ) (e : T) → k < length olds → is_marked marks k ≡ true → get_or (map field news) (rank marks k) e ≡ get_or (map keep (table say (held_shapes plain news))) (rank marks k) e
      at k e lt here =
          let d = some_item olds k lt in
          let within : rank marks k < length (table say (held_shapes plain news)) = let h = there k lt here in let t = length-table say (held_shapes plain news) in let m = length-map news (λ (held : StoredNode L). shape plain held.children) in omega (arith, h, t, m) in
          get_or-map field news (rank marks k) d e (there k lt here)
          ∙ stays (get_or olds k d) (get_or news (rank marks k) d) (at_place k d lt here)
          ∙ sym (get_or-map field olds k d e lt)
          ∙ ap (λ (ts : List T). get_or ts k e) told
          ∙ get_or-map keep (table say nodes) k none e (let t = length-table say nodes in omega (arith, lt, many, t))
          ∙ ap keep (sym (agree w marks nodes (held_shapes plain news) (length nodes) arena.well_formed well_formed_news closed are_at_ranks (omega arith) say none local natural k (omega (arith, lt, many)) here))
          ∙ sym (get_or-map keep (table say (held_shapes plain news)) (rank marks k) none e within)

      by : (p : ℕ) (e : T) → p < length (map field news) → get_or (map field news) p e ≡ get_or (map keep (table say (held_shapes plain news))) p e
      by p e lt =
          let found = rank_only marks (length olds) p (let m = length-map news field in omega (arith, lt, m, news_long)) in
          let within = marked_within marks found.0 found.1 in
          subst (λ (i : ℕ). get_or (map field news) i e ≡ get_or (map keep (table say (held_shapes plain news))) i e) found.2 (at found.0 e (omega (arith, within, long)) found.1)

  pub arena-kept : IsArena plain w news
  arena-kept = record {
    well_formed = well_formed_news;
    told = kept_there (summary_in w) no_summary (summary_local w) (summary_natural w) kept (λ held. held.summary) (λ a b r. r.summary) arena.told;
    stood = kept_there balance_state_in no_balance_state balance_state_local balance_state_natural kept_balance_state (λ held. held.balance_state) (λ a b r. r.balance_state) arena.stood;
  }

-- all that is asked of the nodes before they are moved
pub hang_below : {L : Type 0} (plain : L → L) (w : Widths L) (olds : List (StoredNode L)) → IsArena plain w olds → (k : ℕ) (d : StoredNode L) → k < length olds → HangBelow k (shape plain (get_or olds k d).children)
hang_below {L} plain w olds arena k d lt =
    let nodes = held_shapes plain olds in
    let many = length-map olds (λ (held : StoredNode L). shape plain held.children) in
    subst (HangBelow k) (get_or-map (λ (held : StoredNode L). shape plain held.children) olds k d (Rows []) lt) (named_all k (node_at nodes k) (names_below w nodes k arena.well_formed (omega (arith, lt, many))))

-- a list that was lent and came back as long as it was
lent_back : {X : Type 0} (xs ws : List X) → length ws ≡ length xs → refill (length xs) xs ws ≡ ws
lent_back xs ws long =
    ap (λ (r : List _). take (length xs) (ws ++ r)) (drop_of_length-le xs {i = length ws} (omega (arith, long))) ∙ ap (take (length xs)) (append-nil ws) ∙ take_all (length xs) ws (omega (arith, long))

-- the nodes behind the marked ones are dropped
pub cut_off : {L : Type 0} (plain : L → L) (w : Widths L) (marks : List Bool) (ranks : List ℕ) (olds mixed news : List (StoredNode L)) (count : ℕ) → IsArena plain w olds → length marks ≡ length olds → IsClosed (held_shapes plain olds) marks → AreRanks marks ranks
    → AreMoved plain marks (λ k. get_or ranks k 0) olds mixed (length olds) → count ≡ rank marks (length olds) → news ≡ take count (refill (length olds) olds mixed) → IsArena plain w news × AreAtRanks marks (held_shapes plain olds) (held_shapes plain news) (length olds)
cut_off {L} plain w marks ranks olds mixed news count arena long closed exact moved counted is =
    let same : news ≡ take (rank marks (length olds)) mixed = is ∙ (λ i. take (counted i) (lent_back olds mixed moved.long i)) in
    let at = are_at_ranks plain w marks ranks olds mixed arena long closed exact moved in (
      subst (IsArena plain w) (sym same) (arena-kept plain w marks ranks olds mixed arena long closed exact moved),
      subst (λ (ns : List (StoredNode L)). AreAtRanks marks (held_shapes plain olds) (held_shapes plain ns) (length olds)) (sym same)
          (subst (AreAtRanks marks (held_shapes plain olds) (held_shapes plain (take (rank marks (length olds)) mixed))) (length-map olds (λ (held : StoredNode L). shape plain held.children)) at),
    )

-- ---- one node more

module _ {L : Type 0} (plain : L → L) (marks : List Bool) (place : ℕ → ℕ) (old now : List (StoredNode L)) (n : ℕ) (moved : AreMoved plain marks place old now n) where
  pub moved_more : (new : List (StoredNode L)) (count : ℕ) → n < length old → count ≡ rank marks n → count ≤ n → is_marked marks n ≡ true → length new ≡ length now
      → ((d : StoredNode L) → IsRenamed plain place (get_or now n d) (get_or new count d)) → ((k : ℕ) (d : StoredNode L) → k ≢ n → k ≢ count → get_or new k d ≡ get_or now k d) → AreMoved plain marks place old new (n + 1)
  moved_more new count lt is few here long one others = record {
    long = long ∙ moved.long;
    moved = λ k d le h. elim (cases_lt k n) [
      | inl less ↦
          let before = rank_less marks k n h less in
          subst (IsRenamed plain place (get_or old k d)) (sym (others (rank marks k) d (λ same. absurd (omega (arith, before, same, is, few))) (λ same. absurd (omega (arith, before, same, is))))) (moved.moved k d less h)
      | inr ge ↦
          let same : k ≡ n = omega (arith, le, ge) in
          subst (λ (i : ℕ). IsRenamed plain place (get_or old i d) (get_or new (rank marks i) d)) (sym same)
          (subst (λ (i : ℕ). IsRenamed plain place (get_or old n d) (get_or new i d)) is (subst (λ (node : StoredNode L). IsRenamed plain place node (get_or new count d)) (moved.later n d (omega arith) lt) (one d)))
    ];
    later = λ k d le within. others k d (λ same. absurd (omega (arith, le, same))) (λ same. absurd (omega (arith, le, same, few))) ∙ moved.later k d (omega (arith, le)) within;
  }

  pub moved_past : is_marked marks n ≡ false → AreMoved plain marks place old now (n + 1)
  moved_past here = record {
    long = moved.long;
    moved = λ k d le h. elim (cases_lt k n) [
      | inl less ↦ moved.moved k d less h
      | inr ge ↦ let same : k ≡ n = omega (arith, le, ge) in absurd (true≢false (sym h ∙ ap (is_marked marks) same ∙ here))
    ];
    later = λ k d le within. moved.later k d (omega (arith, le)) within;
  }
