-- A stream is read node by node: what was read so far begins every arena whose stream the bytes are.
use Rattle.std.proofs.Common.{◌≡◌, ℕ, ◌<◌, ◌==◌, Bool, true, false, List, [], ◌∷◌, ◌++◌, length, take, All, Option, Some, None, refl, sym, ap, subst, ◌∙◌, append_assoc, arith}
use Rattle.std.specs.Prelude.{IsTrue, ◌↔◌}
use Rattle.std.proofs.lemmas.Bool.{eqb-true}
use Rattle.std.proofs.lemmas.List.{append-nil, length-append, take_at, drop_at, get_or_at}
use Rattle.std.proofs.lemmas.List.Elements.{All-nil, All-cons, All-head, All-tail, All-append, All-drop, All-take}
use Rattle.std.proofs.lemmas.List.Concat.{flat_map-append}
use Rattle.std.proofs.lemmas.Option.{some_pair_parts}
use Rattle.disk_fields.specs.Codec.{AreBytes, Codec}
use Rattle.disk_fields.proofs.FieldLaws.{rest_are}
use Rattle.enfilade_core.specs.declared.tree.Row.{Row}
use Rattle.enfilade_core.specs.Rows.{Shape, Rows, Branches, node_at}
use Rattle.enfilade_core.specs.Axes.{Widths}
use Rattle.enfilade_core.specs.WellFormed.{IsWellFormed, AreWellFormed}
use Rattle.enfilade_core.proofs.Arenas.{well_formed_take}
use Rattle.enfilade_core.proofs.Parts.{well_formed_names_below}
use Rattle.node_pages.specs.NodeBytes.{node_bytes, IsNode, arena_bytes}
use Rattle.node_pages.specs.NodeReading.{shape_at}
use Rattle.node_pages.specs.Streams.{Spells}
use Rattle.node_pages.specs.Laws.{OneArena, LongerGoesOn}
use Rattle.node_pages.proofs.NodeCodecs.{IsNodeBelow, node_codec}

-- ---- nodes of a well formed arena

-- a node behind others is well formed among them
pub next_well_formed : {L : Type 0} (w : Widths L) (nodes : List (Shape L)) (node : Shape L) (more : List (Shape L)) → AreWellFormed w (nodes ++ node ∷ more) → IsWellFormed w nodes node
next_well_formed w nodes node more all =
    let front : take (length nodes) (nodes ++ node ∷ more) ≡ nodes = take_at nodes (node ∷ more) (length nodes) refl in
    let same : node_at (nodes ++ node ∷ more) (length nodes) ≡ node = get_or_at nodes node more (Rows []) (length nodes) refl in
    subst (IsWellFormed w nodes) same
    (subst (λ (before : List (Shape _)). IsWellFormed w before (node_at (nodes ++ node ∷ more) (length nodes))) front (all.each (length nodes) (omega (arith, length-append nodes (node ∷ more)))))

next_below : {L : Type 0} (w : Widths L) (IsRow : Row L → Type 0) (nodes : List (Shape L)) (node : Shape L) (more : List (Shape L)) → AreWellFormed w (nodes ++ node ∷ more) → IsNode IsRow node → IsNodeBelow IsRow (length nodes) node
next_below w IsRow nodes node more all right = record { right = right; below = well_formed_names_below w nodes node (length nodes) (omega arith) (next_well_formed w nodes node more all).branches }

one_behind : {L : Type 0} (nodes : List (Shape L)) (node : Shape L) (more : List (Shape L)) → (nodes ++ node ∷ []) ++ more ≡ nodes ++ node ∷ more
one_behind nodes node more = append_assoc nodes (node ∷ []) more

no_node : {L : Type 0} (row_bytes : Row L → List ℕ) (node : Shape L) (rest : List ℕ) → [] ≡ node_bytes row_bytes node ++ rest → ⊥
no_node row_bytes (Rows rows) rest e = absurd cc
no_node row_bytes (Branches branches) rest e = absurd cc

-- ---- one arena

same_behind : {L : Type 0} (w : Widths L) {IsRow : Row L → Type 0} {row_at : List ℕ → Option (Row L × List ℕ)} {row_bytes : Row L → List ℕ} → Codec IsRow row_at row_bytes
    → (front one other : List (Shape L)) → All (IsNode IsRow) one → All (IsNode IsRow) other → AreWellFormed w (front ++ one) → AreWellFormed w (front ++ other)
    → arena_bytes row_bytes one ≡ arena_bytes row_bytes other → one ≡ other
same_behind w rows front [] [] f g a b e = refl
same_behind w {row_bytes} rows front [] (y ∷ ys) f g a b e = absurd (no_node row_bytes y (arena_bytes row_bytes ys) e)
same_behind w {row_bytes} rows front (x ∷ xs) [] f g a b e = absurd (no_node row_bytes x (arena_bytes row_bytes xs) (sym e))
same_behind {L} w {IsRow} {row_at} {row_bytes} rows front (x ∷ xs) (y ∷ ys) f g a b e =
    let P = IsNode IsRow in
    let codec = node_codec rows (length front) in
    let first = codec.again x (arena_bytes row_bytes xs) (next_below w IsRow front x xs a (All-head P x xs f)) in
    let second = codec.again y (arena_bytes row_bytes ys) (next_below w IsRow front y ys b (All-head P y ys g)) in
    let p = some_pair_parts x y (arena_bytes row_bytes xs) (arena_bytes row_bytes ys) (sym first ∙ ap (shape_at row_at (length front)) e ∙ second) in
    let x_behind : AreWellFormed w ((front ++ x ∷ []) ++ xs) = subst (AreWellFormed w) (sym (one_behind front x xs)) a in
    let y_behind : AreWellFormed w ((front ++ x ∷ []) ++ ys) = subst (AreWellFormed w) (ap (λ (z : Shape L). front ++ z ∷ ys) (sym p.0) ∙ sym (one_behind front x ys)) b in
    let tails : xs ≡ ys = same_behind w rows (front ++ x ∷ []) xs ys (All-tail P x xs f) (All-tail P y ys g) x_behind y_behind p.1 in
    ap (λ (z : Shape L). z ∷ xs) p.0 ∙ ap (λ (zs : List (Shape L)). y ∷ zs) tails

pub one_arena : {L : Type 0} (w : Widths L) {IsRow : Row L → Type 0} {row_at : List ℕ → Option (Row L × List ℕ)} {row_bytes : Row L → List ℕ} → Codec IsRow row_at row_bytes
    → OneArena w IsRow row_bytes
one_arena w rows one other bytes f g = same_behind w rows [] one other f.fields g.fields f.well_formed g.well_formed (sym f.spelled ∙ g.spelled)

-- ---- a longer arena

pub longer_goes_on : {L : Type 0} (w : Widths L) (IsRow : Row L → Type 0) (row_bytes : Row L → List ℕ) → LongerGoesOn w IsRow row_bytes
longer_goes_on {L} w IsRow row_bytes nodes more bytes all =
    let front : take (length nodes) (nodes ++ more) ≡ nodes = take_at nodes more (length nodes) refl in
    record {
      front = record {
        spelled = refl;
        fields = subst (All (IsNode IsRow)) front (All-take (IsNode IsRow) (length nodes) (nodes ++ more) all.fields);
        well_formed = subst (AreWellFormed w) front (well_formed_take w (length nodes) (nodes ++ more) all.well_formed);
      };
      split = all.spelled ∙ flat_map-append (node_bytes row_bytes) nodes more;
    }

-- ---- so far

-- what goes on from some nodes, and is spelled by the bytes behind theirs
pub record GoesOnFrom {L : Type 0} (row_bytes : Row L → List ℕ) (nodes other : List (Shape L)) (rest : List ℕ) : Type 0 where
  pub more : List (Shape L)
  pub split : other ≡ nodes ++ more
  pub behind : rest ≡ arena_bytes row_bytes more

-- the nodes that were read of the bytes, and the bytes behind them
pub record ReadSoFar {L : Type 0} (w : Widths L) (IsRow : Row L → Type 0) (row_bytes : Row L → List ℕ) (bytes : List ℕ) (nodes : List (Shape L)) (rest : List ℕ) : Type 0 where
  pub split : bytes ≡ arena_bytes row_bytes nodes ++ rest
  pub fields : All (IsNode IsRow) nodes
  pub are : AreBytes rest
  pub only : (other : List (Shape L)) → Spells w IsRow row_bytes other bytes → GoesOnFrom row_bytes nodes other rest

pub none_read : {L : Type 0} (w : Widths L) (IsRow : Row L → Type 0) (row_bytes : Row L → List ℕ) (bytes : List ℕ) (nodes : List (Shape L)) → nodes ≡ [] → AreBytes bytes → ReadSoFar w IsRow row_bytes bytes nodes bytes
none_read {L} w IsRow row_bytes bytes nodes none are = rw none record {
  split = refl;
  fields = All-nil (IsNode IsRow);
  are = are;
  only = λ other all. record { more = other; split = refl; behind = all.spelled };
}

-- where bytes are left, an arena whose stream they end has a next node
record Next {L : Type 0} (w : Widths L) (IsRow : Row L → Type 0) (row_bytes : Row L → List ℕ) (row_at : List ℕ → Option (Row L × List ℕ)) (nodes other : List (Shape L)) (rest : List ℕ) : Type 0 where
  node : Shape L
  more : List (Shape L)
  split : other ≡ nodes ++ node ∷ more
  read : shape_at row_at (length nodes) rest ≡ Some (node, arena_bytes row_bytes more)
  well_formed : IsWellFormed w nodes node

next_of : {L : Type 0} (w : Widths L) {IsRow : Row L → Type 0} {row_at : List ℕ → Option (Row L × List ℕ)} {row_bytes : Row L → List ℕ} → Codec IsRow row_at row_bytes
    → (nodes other more : List (Shape L)) (rest : List ℕ) → 0 < length rest → other ≡ nodes ++ more → rest ≡ arena_bytes row_bytes more → All (IsNode IsRow) other → AreWellFormed w other
    → Next w IsRow row_bytes row_at nodes other rest
next_of w rows nodes other [] rest some split behind fields all = absurd (omega (arith, ap length behind))
next_of w {IsRow} {row_at} {row_bytes} rows nodes other (node ∷ more) rest some split behind fields all =
    let here : All (IsNode IsRow) (node ∷ more) = subst (All (IsNode IsRow)) (drop_at nodes (node ∷ more) (length nodes) refl) (All-drop (IsNode IsRow) (length nodes) (nodes ++ node ∷ more) (subst (All (IsNode IsRow)) split fields)) in
    let formed : AreWellFormed w (nodes ++ node ∷ more) = subst (AreWellFormed w) split all in
    record {
      node = node;
      more = more;
      split = split;
      read = ap (shape_at row_at (length nodes)) behind ∙ (node_codec rows (length nodes)).again node (arena_bytes row_bytes more) (next_below w IsRow nodes node more formed (All-head (IsNode IsRow) node more here));
      well_formed = next_well_formed w nodes node more formed;
    }

next_in : {L : Type 0} (w : Widths L) {IsRow : Row L → Type 0} {row_at : List ℕ → Option (Row L × List ℕ)} {row_bytes : Row L → List ℕ} → Codec IsRow row_at row_bytes
    → (bytes : List ℕ) (nodes : List (Shape L)) (rest : List ℕ) → ReadSoFar w IsRow row_bytes bytes nodes rest → 0 < length rest → (other : List (Shape L)) → Spells w IsRow row_bytes other bytes → Next w IsRow row_bytes row_at nodes other rest
next_in w rows bytes nodes rest so_far some other all =
    let on = so_far.only other all in
    next_of w rows nodes other on.more rest some on.split on.behind all.fields all.well_formed

pub one_more : {L : Type 0} (w : Widths L) {IsRow : Row L → Type 0} {row_at : List ℕ → Option (Row L × List ℕ)} {row_bytes : Row L → List ℕ} → Codec IsRow row_at row_bytes
    → (bytes : List ℕ) (nodes : List (Shape L)) (rest : List ℕ) (node : Shape L) (behind : List ℕ) → ReadSoFar w IsRow row_bytes bytes nodes rest → 0 < length rest
    → shape_at row_at (length nodes) rest ≡ Some (node, behind) → ReadSoFar w IsRow row_bytes bytes (nodes ++ node ∷ []) behind
one_more {L} w {IsRow} {row_at} {row_bytes} rows bytes nodes rest node behind so_far some read =
    let r = (node_codec rows (length nodes)).right rest behind node so_far.are read in
    let front : arena_bytes row_bytes (nodes ++ node ∷ []) ≡ arena_bytes row_bytes nodes ++ node_bytes row_bytes node =
    flat_map-append (node_bytes row_bytes) nodes (node ∷ []) ∙ ap (λ (ds : List ℕ). arena_bytes row_bytes nodes ++ ds) (append-nil (node_bytes row_bytes node)) in
    record {
      split = so_far.split ∙ ap (λ (ds : List ℕ). arena_bytes row_bytes nodes ++ ds) r.0 ∙ sym (append_assoc (arena_bytes row_bytes nodes) (node_bytes row_bytes node) behind) ∙ ap (λ (ds : List ℕ). ds ++ behind) (sym front);
      fields = All-append (IsNode IsRow) nodes (node ∷ []) so_far.fields (All-cons (IsNode IsRow) node [] r.1.right (All-nil (IsNode IsRow)));
      are = rest_are rest (node_bytes row_bytes node) behind r.0 so_far.are;
      only = λ other all.
          let next = next_in w rows bytes nodes rest so_far some other all in
          let p = some_pair_parts next.node node (arena_bytes row_bytes next.more) behind (sym next.read ∙ read) in
          record {
            more = next.more;
            split = next.split ∙ ap (λ (n : Shape L). nodes ++ n ∷ next.more) p.0 ∙ sym (one_behind nodes node next.more);
            behind = sym p.1;
          };
    }

nothing_read : {A : Type 0} (x : A) → None ≡ Some x → ⊥
nothing_read x e = absurd cc

pub none_next : {L : Type 0} (w : Widths L) {IsRow : Row L → Type 0} {row_at : List ℕ → Option (Row L × List ℕ)} {row_bytes : Row L → List ℕ} → Codec IsRow row_at row_bytes
    → (bytes : List ℕ) (nodes : List (Shape L)) (rest : List ℕ) → ReadSoFar w IsRow row_bytes bytes nodes rest → 0 < length rest
    → shape_at row_at (length nodes) rest ≡ None → (other : List (Shape L)) → ¬ Spells w IsRow row_bytes other bytes
none_next w rows bytes nodes rest so_far some read other all = nothing_read _ (sym read ∙ (next_in w rows bytes nodes rest so_far some other all).read)

pub none_formed : {L : Type 0} (w : Widths L) {IsRow : Row L → Type 0} {row_at : List ℕ → Option (Row L × List ℕ)} {row_bytes : Row L → List ℕ} → Codec IsRow row_at row_bytes
    → (bytes : List ℕ) (nodes : List (Shape L)) (rest : List ℕ) (node : Shape L) (behind : List ℕ) → ReadSoFar w IsRow row_bytes bytes nodes rest → 0 < length rest
    → shape_at row_at (length nodes) rest ≡ Some (node, behind) → ¬ IsWellFormed w nodes node → (other : List (Shape L)) → ¬ Spells w IsRow row_bytes other bytes
none_formed {L} w {row_bytes} rows bytes nodes rest node behind so_far some read bad other all =
    let next = next_in w rows bytes nodes rest so_far some other all in
    let p = some_pair_parts next.node node (arena_bytes row_bytes next.more) behind (sym next.read ∙ read) in
    bad (subst (IsWellFormed w nodes) p.0 next.well_formed)

pub all_read : {L : Type 0} (w : Widths L) (IsRow : Row L → Type 0) (row_bytes : Row L → List ℕ) (bytes : List ℕ) (nodes : List (Shape L)) (rest : List ℕ) → ReadSoFar w IsRow row_bytes bytes nodes rest
    → rest ≡ [] → AreWellFormed w nodes → Spells w IsRow row_bytes nodes bytes
all_read w IsRow row_bytes bytes nodes rest so_far none all = record {
  spelled = so_far.split ∙ ap (λ (ds : List ℕ). arena_bytes row_bytes nodes ++ ds) none ∙ append-nil (arena_bytes row_bytes nodes);
  fields = so_far.fields;
  well_formed = all;
}

-- ---- tests

true_is_not_false : true ≡ false → ⊥
true_is_not_false e = absurd cc

pub some_left : (bytes : List ℕ) (b : Bool) → b ≡ (length bytes == 0) → b ≡ false → 0 < length bytes
some_left [] b e f = absurd (true_is_not_false (sym e ∙ f))
some_left (x ∷ bytes) b e f = omega arith

pub none_left : (bytes : List ℕ) (b : Bool) → b ≡ (length bytes == 0) → b ≡ true → bytes ≡ []
none_left [] b e f = refl
none_left (x ∷ bytes) b e f = let none : length (x ∷ bytes) ≡ 0 = eqb-true (length (x ∷ bytes)) 0 (sym e ∙ f) in absurd (omega (arith, none))

pub not_so : {P : Type 0} (b : Bool) → (IsTrue b ↔ P) → b ≡ false → ¬ P
not_so true iff e h = absurd (true_is_not_false e)
not_so false iff e h = true_is_not_false (sym (iff.1 h))

-- a node that was read takes bytes
pub shorter : {L : Type 0} {IsRow : Row L → Type 0} {row_at : List ℕ → Option (Row L × List ℕ)} {row_bytes : Row L → List ℕ} → Codec IsRow row_at row_bytes
    → (before : ℕ) (rest : List ℕ) (node : Shape L) (behind : List ℕ) → AreBytes rest → shape_at row_at before rest ≡ Some (node, behind) → length behind < length rest
shorter {row_bytes} rows before rest node behind are read =
    let r = (node_codec rows before).right rest behind node are read in
    omega (arith, ap length r.0, length-append (node_bytes row_bytes node) behind, some_bytes row_bytes node)
  where
    some_bytes : {L : Type 0} (row_bytes : Row L → List ℕ) (node : Shape L) → 0 < length (node_bytes row_bytes node)
    some_bytes row_bytes (Rows items) = omega arith
    some_bytes row_bytes (Branches items) = omega arith
