-- An exchange in the branches of a node: what each one needs, and what comes of them together.
use Rattle.std.proofs.Common.{◌≡◌, ℕ, ◌+◌, ◌<◌, ◌≤◌, true, false, List, [], ◌∷◌, ◌++◌, length, get_or, take, drop, refl, arith, ap, ◌∙◌, sym, subst, append_assoc, append-nil, Option}
use Rattle.std.specs.List.{All}
use Rattle.std.proofs.lemmas.List.Elements.{All-nil, All-take, All-drop}
use Rattle.std.proofs.lemmas.List.{take_more, take_all}
use Rattle.std.proofs.lemmas.Grind.{flat_map-append}
use Rattle.tumbler.specs.Places.{IsUpTo, comes_before}
use Rattle.tumbler.proofs.Alls.{All-front, All-back}
use Rattle.enfilade_core.specs.declared.tree.Row.{Row}
use Rattle.enfilade_core.specs.declared.tree.Branch.{Branch}
use Rattle.enfilade_core.specs.declared.gap.Gap.{Gap}
use Rattle.enfilade_core.specs.Rows.{Shape, Branches, branch_rows, rows_table}
use Rattle.enfilade_core.specs.Axes.{Widths, IsWellFormedRows}
use Rattle.enfilade_core.specs.WellFormed.{IsWellFormed, IsWellFormedPart}
use Rattle.enfilade_core.specs.Summary.{height_of}
use Rattle.enfilade_core.specs.Edits.{taken_out}
use Rattle.enfilade_core.specs.Exchange.{exchanged, Grows, MayHaveRows, BranchesHaveRows, LevelRows, AppendsRows, IsChosen, branches_if}
use Rattle.enfilade_core.proofs.Nodes.{node-parts}
use Rattle.enfilade_core.proofs.GoneThrough.{around, item-well_formed}
use Rattle.enfilade_core.proofs.ExchangeLists.{NoneBefore, exchanged-front, exchanged-back, taken-append, taken-before, well_formed_rows-front, well_formed_rows-back}
use Rattle.enfilade_core.proofs.ExchangeGrown.{grows-same, grows-more, part-grown, parts-grown, rows-grown, height-grown, flat_rows, flat-grown, flat-around, level-grown, branches-grown, branches-append, branches-one}

-- ---- branches behind the one that new rows go into, one after another

-- the branches gone through so far
pub record RestSoFar {L : Type 0} (w : Widths L) (gap : Gap) (old now : List (Shape L)) (branches : List Branch) (i : ℕ) (before after : List Branch) (out_before out : List (Row L)) : Type 0 where
  pub grows : Grows old now
  pub rows : AppendsRows w old now branches (exchanged gap [] (flat_rows old (take i branches))) before after
  pub taken : out ≡ out_before ++ taken_out gap.from gap.to (flat_rows old (take i branches))

pub rest-start : {L : Type 0} (w : Widths L) (gap : Gap) (old : List (Shape L)) (branches before : List Branch) (out : List (Row L)) → RestSoFar w gap old old branches 0 before before out out
rest-start {L} w gap old branches before out = record {
  grows = grows-same old;
  rows = λ front height level have. subst (λ (r : List (Row L)). BranchesHaveRows w old height r before) (sym (append-nil front)) have;
  taken = sym (append-nil out);
}

-- what is given of a branch on the way
pub record RestAt {L : Type 0} (w : Widths L) (gap : Gap) (old now : List (Shape L)) (branches : List Branch) (i : ℕ) (branch : Branch) : Type 0 where
  pub grows : Grows old now
  pub lt : i < length branches
  pub is : branch ≡ get_or branches i branch
  pub parts : All (IsWellFormedPart w old) branches
  pub past : NoneBefore gap.from (flat_rows old branches)
  pub well_formed : IsWellFormedRows w (exchanged gap [] (flat_rows old branches))

pub rest-part : {L : Type 0} (w : Widths L) (gap : Gap) (old now : List (Shape L)) (branches : List Branch) (i : ℕ) (branch : Branch) → RestAt w gap old now branches i branch → IsWellFormedPart w now branch
rest-part w gap old now branches i branch at = part-grown w old now branch at.grows (item-well_formed (IsWellFormedPart w old) branches i branch at.lt at.is at.parts)

rest-rows : {L : Type 0} (w : Widths L) (gap : Gap) (old now : List (Shape L)) (branches : List Branch) (i : ℕ) (branch : Branch) → RestAt w gap old now branches i branch → branch_rows (rows_table now) branch ≡ branch_rows (rows_table old) branch
rest-rows w gap old now branches i branch at = rows-grown old now branch at.grows (item-well_formed (IsWellFormedPart w old) branches i branch at.lt at.is at.parts).branch.below

rest-past : {L : Type 0} (w : Widths L) (gap : Gap) (old now : List (Shape L)) (branches : List Branch) (i : ℕ) (branch : Branch) → RestAt w gap old now branches i branch → NoneBefore gap.from (branch_rows (rows_table old) branch ++ flat_rows old (drop (i + 1) branches))
rest-past w gap old now branches i branch at =
    All-back (λ r. comes_before r.first gap.from ≡ false) (flat_rows old (take i branches)) (branch_rows (rows_table old) branch ++ flat_rows old (drop (i + 1) branches))
    (subst (NoneBefore gap.from) (flat-around old branches i branch (around branches i branch at.lt at.is)) at.past)

pub rest-well_formed : {L : Type 0} (w : Widths L) (gap : Gap) (old now : List (Shape L)) (branches : List Branch) (i : ℕ) (branch : Branch) (none : List (Row L)) → none ≡ [] → RestAt w gap old now branches i branch → IsWellFormedRows w (exchanged gap none (branch_rows (rows_table now) branch))
rest-well_formed {L} w gap old now branches i branch none empty at =
    let front = flat_rows old (take i branches) in
    let rows = branch_rows (rows_table old) branch in
    let rest = flat_rows old (drop (i + 1) branches) in
    let past = rest-past w gap old now branches i branch at in
    let whole : exchanged gap [] (flat_rows old branches) ≡ exchanged gap [] front ++ (exchanged gap [] rows ++ exchanged gap [] rest) =
    ap (exchanged gap []) (flat-around old branches i branch (around branches i branch at.lt at.is))
    ∙ exchanged-back gap [] front (rows ++ rest) past
    ∙ ap (λ (r : List (Row L)). exchanged gap [] front ++ r) (exchanged-back gap [] rows rest (All-back (λ r. comes_before r.first gap.from ≡ false) rows rest past)) in
    subst (λ (r : List (Row L)). IsWellFormedRows w (exchanged gap r (branch_rows (rows_table now) branch))) (sym empty)
    (subst (λ (r : List (Row L)). IsWellFormedRows w (exchanged gap [] r)) (sym (rest-rows w gap old now branches i branch at))
    (well_formed_rows-front w (exchanged gap [] rows) (exchanged gap [] rest)
    (well_formed_rows-back w (exchanged gap [] front) (exchanged gap [] rows ++ exchanged gap [] rest) (subst (IsWellFormedRows w) whole at.well_formed))))

taken-flat : {L : Type 0} (nodes : List (Shape L)) (branches : List Branch) (i : ℕ) (branch : Branch) → i < length branches → branch ≡ get_or branches i branch → flat_rows nodes (take (i + 1) branches) ≡ flat_rows nodes (take i branches) ++ branch_rows (rows_table nodes) branch
taken-flat {L} nodes branches i branch lt is =
    ap (flat_rows nodes) (take_more branches i branch lt ∙ ap (λ (b : Branch). take i branches ++ b ∷ []) (sym is))
    ∙ flat_map-append (branch_rows (rows_table nodes)) (take i branches) (branch ∷ [])
    ∙ ap (λ (r : List (Row L)). flat_rows nodes (take i branches) ++ r) (append-nil (branch_rows (rows_table nodes) branch))

pub rest-more : {L : Type 0} (w : Widths L) (gap : Gap) (old now next : List (Shape L)) (branches : List Branch) (i : ℕ) (branch : Branch) (before after made : List Branch) (none out_before out out_next : List (Row L)) (found : Option Branch)
    → none ≡ [] → RestAt w gap old now branches i branch → RestSoFar w gap old now branches i before after out_before out → Grows now next
    → MayHaveRows w next (height_of w now branch.node.0) (exchanged gap none (branch_rows (rows_table now) branch)) found → made ≡ after ++ branches_if found
    → out_next ≡ out ++ taken_out gap.from gap.to (branch_rows (rows_table now) branch)
    → RestSoFar w gap old next branches (i + 1) before made out_before out_next
rest-more {L} w gap old now next branches i branch before after made none out_before out out_next found empty at so grows has is took =
    let front = flat_rows old (take i branches) in
    let rows = branch_rows (rows_table old) branch in
    let rest = flat_rows old (drop (i + 1) branches) in
    let same = rest-rows w gap old now branches i branch at in
    let flat = taken-flat old branches i branch at.lt at.is in
    let part = item-well_formed (IsWellFormedPart w old) branches i branch at.lt at.is at.parts in
    let past = All-front (λ r. comes_before r.first gap.from ≡ false) rows rest (rest-past w gap old now branches i branch at) in
    let both : exchanged gap [] (flat_rows old (take (i + 1) branches)) ≡ exchanged gap [] front ++ exchanged gap [] rows =
    ap (exchanged gap []) flat ∙ exchanged-back gap [] front rows past in
    let value : exchanged gap none (branch_rows (rows_table now) branch) ≡ exchanged gap [] rows =
    ap (λ (r : List (Row L)). exchanged gap r (branch_rows (rows_table now) branch)) empty ∙ ap (exchanged gap []) same in
    record {
      grows = grows-more old now next so.grows grows;
      rows = λ first height level have.
          let high : height_of w now branch.node.0 ≡ height =
          height-grown w old now branch.node.0 at.grows part.branch.below ∙ item-well_formed (λ b. height_of w old b.node.0 ≡ height) branches i branch at.lt at.is level in
          let one = branches-one w next (height_of w now branch.node.0) (exchanged gap none (branch_rows (rows_table now) branch)) found has in
          let one_here = subst (λ (n : ℕ). BranchesHaveRows w next n (exchanged gap [] rows) (branches_if found)) high
          (subst (λ (r : List (Row L)). BranchesHaveRows w next (height_of w now branch.node.0) r (branches_if found)) value one) in
          let all = branches-append w next height (first ++ exchanged gap [] front) (exchanged gap [] rows) after (branches_if found) (branches-grown w now next height (first ++ exchanged gap [] front) after grows (so.rows first height level have)) one_here in
          subst (BranchesHaveRows w next height (first ++ exchanged gap [] (flat_rows old (take (i + 1) branches)))) (sym is)
          (subst (λ (r : List (Row L)). BranchesHaveRows w next height r (after ++ branches_if found)) (append_assoc first (exchanged gap [] front) (exchanged gap [] rows) ∙ ap (λ (r : List (Row L)). first ++ r) (sym both)) all);
      taken =
          took ∙ ap (λ (r : List (Row L)). r ++ taken_out gap.from gap.to (branch_rows (rows_table now) branch)) so.taken
          ∙ ap (λ (r : List (Row L)). (out_before ++ taken_out gap.from gap.to front) ++ taken_out gap.from gap.to r) same
          ∙ append_assoc out_before (taken_out gap.from gap.to front) (taken_out gap.from gap.to rows)
          ∙ ap (λ (r : List (Row L)). out_before ++ r) (sym (ap (taken_out gap.from gap.to) flat ∙ taken-append gap.from gap.to front rows));
    }

pub rest-all : {L : Type 0} (w : Widths L) (gap : Gap) (old now : List (Shape L)) (branches : List Branch) (i : ℕ) (before after : List Branch) (out_before out : List (Row L)) → length branches ≤ i → RestSoFar w gap old now branches i before after out_before out
    → AppendsRows w old now branches (exchanged gap [] (flat_rows old branches)) before after × (out ≡ out_before ++ taken_out gap.from gap.to (flat_rows old branches))
rest-all {L} w gap old now branches i before after out_before out le so =
    let all = take_all i branches le in
    (subst (λ (bs : List Branch). AppendsRows w old now branches (exchanged gap [] (flat_rows old bs)) before after) all so.rows, subst (λ (bs : List Branch). out ≡ out_before ++ taken_out gap.from gap.to (flat_rows old bs)) all so.taken)

-- ---- the branches of a node

pub record BranchesAt {L : Type 0} (w : Widths L) (gap : Gap) (new : List (Row L)) (nodes : List (Shape L)) (branches : List Branch) (k : ℕ) (branch : Branch) : Type 0 where
  pub up_to : IsUpTo gap.from gap.to
  pub node : IsWellFormed w nodes (Branches branches)
  pub well_formed : IsWellFormedRows w (exchanged gap new (flat_rows nodes branches))
  pub chosen : IsChosen nodes branches gap.from k
  pub is : branch ≡ get_or branches k branch

pub chosen-part : {L : Type 0} (w : Widths L) (gap : Gap) (new : List (Row L)) (nodes : List (Shape L)) (branches : List Branch) (k : ℕ) (branch : Branch) → BranchesAt w gap new nodes branches k branch → IsWellFormedPart w nodes branch
chosen-part w gap new nodes branches k branch at = item-well_formed (IsWellFormedPart w nodes) branches k branch at.chosen.there at.is (node-parts w nodes branches at.node)

chosen-split : {L : Type 0} (w : Widths L) (gap : Gap) (new : List (Row L)) (nodes : List (Shape L)) (branches : List Branch) (k : ℕ) (branch : Branch) → BranchesAt w gap new nodes branches k branch
    → flat_rows nodes branches ≡ flat_rows nodes (take k branches) ++ (branch_rows (rows_table nodes) branch ++ flat_rows nodes (drop (k + 1) branches))
chosen-split w gap new nodes branches k branch at = flat-around nodes branches k branch (around branches k branch at.chosen.there at.is)

chosen-whole : {L : Type 0} (w : Widths L) (gap : Gap) (new : List (Row L)) (nodes : List (Shape L)) (branches : List Branch) (k : ℕ) (branch : Branch) → BranchesAt w gap new nodes branches k branch
    → exchanged gap new (flat_rows nodes branches) ≡ flat_rows nodes (take k branches) ++ (exchanged gap new (branch_rows (rows_table nodes) branch) ++ exchanged gap [] (flat_rows nodes (drop (k + 1) branches)))
chosen-whole {L} w gap new nodes branches k branch at =
    let front = flat_rows nodes (take k branches) in
    let rows = branch_rows (rows_table nodes) branch in
    let rest = flat_rows nodes (drop (k + 1) branches) in
    ap (exchanged gap new) (chosen-split w gap new nodes branches k branch at)
    ∙ exchanged-front gap new front (rows ++ rest) at.up_to at.chosen.front
    ∙ ap (λ (r : List (Row L)). front ++ r) (exchanged-back gap new rows rest at.chosen.back)

chosen-both : {L : Type 0} (w : Widths L) (gap : Gap) (new : List (Row L)) (nodes : List (Shape L)) (branches : List Branch) (k : ℕ) (branch : Branch) → BranchesAt w gap new nodes branches k branch
    → IsWellFormedRows w (exchanged gap new (branch_rows (rows_table nodes) branch) ++ exchanged gap [] (flat_rows nodes (drop (k + 1) branches)))
chosen-both w gap new nodes branches k branch at =
    well_formed_rows-back w (flat_rows nodes (take k branches)) (exchanged gap new (branch_rows (rows_table nodes) branch) ++ exchanged gap [] (flat_rows nodes (drop (k + 1) branches)))
    (subst (IsWellFormedRows w) (chosen-whole w gap new nodes branches k branch at) at.well_formed)

pub chosen-well_formed : {L : Type 0} (w : Widths L) (gap : Gap) (new : List (Row L)) (nodes : List (Shape L)) (branches : List Branch) (k : ℕ) (branch : Branch) → BranchesAt w gap new nodes branches k branch → IsWellFormedRows w (exchanged gap new (branch_rows (rows_table nodes) branch))
chosen-well_formed w gap new nodes branches k branch at =
    well_formed_rows-front w (exchanged gap new (branch_rows (rows_table nodes) branch)) (exchanged gap [] (flat_rows nodes (drop (k + 1) branches))) (chosen-both w gap new nodes branches k branch at)

-- what the branches behind the chosen one need
pub record RestReady {L : Type 0} (w : Widths L) (gap : Gap) (nodes : List (Shape L)) (below : ℕ) (rest : List Branch) : Type 0 where
  pub named : All (λ branch. branch.node.0 < below) rest
  pub parts : All (IsWellFormedPart w nodes) rest
  pub past : NoneBefore gap.from (flat_rows nodes rest)
  pub well_formed : IsWellFormedRows w (exchanged gap [] (flat_rows nodes rest))

pub chosen-rest : {L : Type 0} (w : Widths L) (gap : Gap) (new : List (Row L)) (old nodes : List (Shape L)) (below : ℕ) (branches : List Branch) (k : ℕ) (branch : Branch) (rest : List Branch) → BranchesAt w gap new old branches k branch → Grows old nodes
    → All (λ branch. branch.node.0 < below) branches → rest ≡ drop (k + 1) branches → RestReady w gap nodes below rest
chosen-rest {L} w gap new old nodes below branches k branch rest at grows named is =
    let parts = All-drop (IsWellFormedPart w old) (k + 1) branches (node-parts w old branches at.node) in
    let same = flat-grown w old nodes (drop (k + 1) branches) grows parts in
    subst (RestReady w gap nodes below) (sym is) record {
      named = All-drop (λ b. b.node.0 < below) (k + 1) branches named;
      parts = parts-grown w old nodes (drop (k + 1) branches) grows parts;
      past = subst (NoneBefore gap.from) (sym same) at.chosen.back;
      well_formed = subst (λ (r : List (Row L)). IsWellFormedRows w (exchanged gap [] r)) (sym same)
          (well_formed_rows-back w (exchanged gap new (branch_rows (rows_table old) branch)) (exchanged gap [] (flat_rows old (drop (k + 1) branches))) (chosen-both w gap new old branches k branch at));
    }

-- what came of the chosen branch and of those behind it
pub record BranchesMade {L : Type 0} (w : Widths L) (gap : Gap) (new : List (Row L)) (old mid now : List (Shape L)) (branches : List Branch) (k : ℕ) (branch : Branch) (rest front made all : List Branch) (found : Option Branch) : Type 0 where
  pub grows : Grows old mid
  pub later : Grows mid now
  pub front_is : front ≡ take k branches
  pub rest_is : rest ≡ drop (k + 1) branches
  pub has : MayHaveRows w mid (height_of w old branch.node.0) (exchanged gap new (branch_rows (rows_table old) branch)) found
  pub made_is : made ≡ front ++ branches_if found
  pub appends : AppendsRows w mid now rest (exchanged gap [] (flat_rows mid rest)) made all

pub branches-made : {L : Type 0} (w : Widths L) (gap : Gap) (new : List (Row L)) (old mid now : List (Shape L)) (branches : List Branch) (k : ℕ) (branch : Branch) (rest front made all : List Branch) (found : Option Branch)
    → BranchesAt w gap new old branches k branch → BranchesMade w gap new old mid now branches k branch rest front made all found → LevelRows w old now branches (exchanged gap new (flat_rows old branches)) all
branches-made {L} w gap new old mid now branches k branch rest front made all found at m height level =
    let H : Branch → Type 0 = λ b. height_of w old b.node.0 ≡ height in
    let before = flat_rows old (take k branches) in
    let rows = branch_rows (rows_table old) branch in
    let behind = drop (k + 1) branches in
    let parts = node-parts w old branches at.node in
    let parts_behind = All-drop (IsWellFormedPart w old) (k + 1) branches parts in
    let same = flat-grown w old mid behind m.grows parts_behind in
    let first : BranchesHaveRows w old height before (take k branches) = record {
      parts = All-take (IsWellFormedPart w old) k branches parts;
      rows_are = refl;
      level = All-take H k branches level;
    } in
    let one = branches-one w mid (height_of w old branch.node.0) (exchanged gap new rows) found m.has in
    let one_here = subst (λ (n : ℕ). BranchesHaveRows w mid n (exchanged gap new rows) (branches_if found)) (item-well_formed H branches k branch at.chosen.there at.is level) one in
    let both = branches-append w mid height before (exchanged gap new rows) (take k branches) (branches_if found) (branches-grown w old mid height before (take k branches) m.grows first) one_here in
    let both_here = subst (BranchesHaveRows w mid height (before ++ exchanged gap new rows)) (sym (m.made_is ∙ ap (λ (bs : List Branch). bs ++ branches_if found) m.front_is)) both in
    let appends = subst (λ (bs : List Branch). AppendsRows w mid now bs (exchanged gap [] (flat_rows mid bs)) made all) m.rest_is m.appends in
    let done = appends (before ++ exchanged gap new rows) height (level-grown w old mid height behind m.grows parts_behind (All-drop H (k + 1) branches level)) both_here in
    subst (λ (r : List (Row L)). BranchesHaveRows w now height r all)
    (ap (λ (r : List (Row L)). (before ++ exchanged gap new rows) ++ exchanged gap [] r) same ∙ append_assoc before (exchanged gap new rows) (exchanged gap [] (flat_rows old behind)) ∙ sym (chosen-whole w gap new old branches k branch at)) done

pub branches-taken : {L : Type 0} (w : Widths L) (gap : Gap) (new : List (Row L)) (old mid : List (Shape L)) (branches : List Branch) (k : ℕ) (branch : Branch) (rest : List Branch) (out_before out out_after : List (Row L))
    → BranchesAt w gap new old branches k branch → Grows old mid → rest ≡ drop (k + 1) branches → out ≡ out_before ++ taken_out gap.from gap.to (branch_rows (rows_table old) branch) → out_after ≡ out ++ taken_out gap.from gap.to (flat_rows mid rest)
    → out_after ≡ out_before ++ taken_out gap.from gap.to (flat_rows old branches)
branches-taken {L} w gap new old mid branches k branch rest out_before out out_after at grows is took more =
    let front = flat_rows old (take k branches) in
    let rows = branch_rows (rows_table old) branch in
    let behind = flat_rows old (drop (k + 1) branches) in
    let same : flat_rows mid rest ≡ behind =
    ap (flat_rows mid) is ∙ flat-grown w old mid (drop (k + 1) branches) grows (All-drop (IsWellFormedPart w old) (k + 1) branches (node-parts w old branches at.node)) in
    let whole : taken_out gap.from gap.to (flat_rows old branches) ≡ taken_out gap.from gap.to rows ++ taken_out gap.from gap.to behind =
    ap (taken_out gap.from gap.to) (chosen-split w gap new old branches k branch at)
    ∙ taken-append gap.from gap.to front (rows ++ behind)
    ∙ ap (λ (r : List (Row L)). r ++ taken_out gap.from gap.to (rows ++ behind)) (taken-before gap.from gap.to front at.chosen.front)
    ∙ taken-append gap.from gap.to rows behind in
    more ∙ ap (λ (r : List (Row L)). out ++ taken_out gap.from gap.to r) same
    ∙ ap (λ (r : List (Row L)). r ++ taken_out gap.from gap.to behind) took
    ∙ append_assoc out_before (taken_out gap.from gap.to rows) (taken_out gap.from gap.to behind)
    ∙ ap (λ (r : List (Row L)). out_before ++ r) (sym whole)

-- ---- a lone branch

pub lone-chosen : {L : Type 0} (nodes : List (Shape L)) (branches : List Branch) (at : List ℕ) → length branches ≡ 1 → IsChosen nodes branches at 0
lone-chosen nodes [] at one = absurd (omega (arith, one))
lone-chosen nodes (branch ∷ []) at one = record { there = omega arith; front = All-nil (λ row. comes_before row.first at ≡ true); back = All-nil (λ row. comes_before row.first at ≡ false) }
lone-chosen nodes (branch ∷ other ∷ branches) at one = absurd (omega (arith, one))

none_behind : (branches : List Branch) → length branches ≡ 1 → [] ≡ drop (0 + 1) branches
none_behind [] one = absurd (omega (arith, one))
none_behind (branch ∷ []) one = refl
none_behind (branch ∷ other ∷ branches) one = absurd (omega (arith, one))

pub lone-made : {L : Type 0} (w : Widths L) (gap : Gap) (new : List (Row L)) (old now : List (Shape L)) (branches : List Branch) (branch : Branch) (made : List Branch) (found : Option Branch)
    → BranchesAt w gap new old branches 0 branch → length branches ≡ 1 → Grows old now → MayHaveRows w now (height_of w old branch.node.0) (exchanged gap new (branch_rows (rows_table old) branch)) found → made ≡ branches_if found
    → LevelRows w old now branches (exchanged gap new (flat_rows old branches)) made
lone-made w gap new old now branches branch made found at one grows has is =
    branches-made w gap new old now now branches 0 branch [] [] made made found at record {
      grows = grows;
      later = grows-same now;
      front_is = refl;
      rest_is = none_behind branches one;
      has = has;
      made_is = is;
      appends = (rest-start w gap now [] made []).rows;
    }

pub lone-taken : {L : Type 0} (w : Widths L) (gap : Gap) (new : List (Row L)) (old now : List (Shape L)) (branches : List Branch) (branch : Branch) (out_before out : List (Row L))
    → BranchesAt w gap new old branches 0 branch → length branches ≡ 1 → Grows old now → out ≡ out_before ++ taken_out gap.from gap.to (branch_rows (rows_table old) branch)
    → out ≡ out_before ++ taken_out gap.from gap.to (flat_rows old branches)
lone-taken w gap new old now branches branch out_before out at one grows took =
    branches-taken w gap new old now branches 0 branch [] out_before out out at grows (none_behind branches one) took (sym (append-nil out))
