-- Branches over children, and the steps made of them, as nodes are added.
use Rattle.std.proofs.Common.{◌≡◌, ℕ, ◌+◌, ◌/◌, ◌<◌, List, [], ◌∷◌, ◌++◌, Bool, true, length, get_or, map, take, drop, arith, ap, ◌∙◌, sym, subst}
use Rattle.std.specs.Prelude.{Result, Ok, Err, IfOk}
use Rattle.std.proofs.lemmas.List.{length-append}
use Rattle.std.proofs.lemmas.List.Elements.{All-weaker, All-take, All-drop}
use Rattle.enfilade_core.specs.declared.tree.Row.{Row}
use Rattle.enfilade_core.specs.declared.tree.Branch.{Branch}
use Rattle.enfilade_core.specs.declared.summary.Summary.{Summary}
use Rattle.enfilade_core.specs.Rows.{Shape, Rows, Branches, table, moved, rows_in, node_at}
use Rattle.enfilade_core.specs.Axes.{Widths}
use Rattle.enfilade_core.specs.WellFormed.{NamesBelow, IsWellFormedBranch, IsWellFormed}
use Rattle.enfilade_core.specs.Summary.{no_summary, summary_in, depth_of}
use Rattle.enfilade_core.specs.Exchange.{Grows}
use Rattle.enfilade_core.specs.BalanceState.{no_balance_state, balance_state_in}
use Rattle.enfilade_core.proofs.Tables.{IsLocal, table-later}
use Rattle.enfilade_core.proofs.Locals.{rows_local, summary_local, balance_state_local}
use Rattle.std.proofs.lemmas.List.{get_or_append_left}
use Rattle.enfilade_balance.specs.OneStep.{children_at, children_of, how_many, first_children, other_children, IsOver, IsSplit, IsMerge, joined, Steps, split, merge, under}
use Rattle.enfilade_balance.specs.Path.{Packs, InTwo, InOne, StepsFor}

-- ---- what is told of nodes that are there

at-grown : {L T : Type 0} (say : List T → Shape L → T) (d : T) (old new : List (Shape L)) (k : ℕ) → Grows old new → k < length old → get_or (table say new) k d ≡ get_or (table say old) k d
at-grown say d old new k g lt = ap (λ (ns : List (Shape _)). get_or (table say ns) k d) g.is ∙ table-later say old g.more k d lt

in-grown : {L T : Type 0} (say : List T → Shape L → T) (d : T) → IsLocal say d → (old new : List (Shape L)) (node : Shape L) → Grows old new → NamesBelow (length old) node → say (table say new) node ≡ say (table say old) node
in-grown say d local old new node g named = local.same (length old) (table say new) (table say old) node (λ k lt. at-grown say d old new k g lt) named

pub depth-grown : {L : Type 0} (w : Widths L) (old new : List (Shape L)) (k : ℕ) → Grows old new → k < length old → depth_of w new k ≡ depth_of w old k
depth-grown w old new k g lt = ap (λ (s : Summary). s.height + 1) (at-grown (summary_in w) no_summary old new k g lt)

pub node-grown : {L : Type 0} (old new : List (Shape L)) (k : ℕ) → Grows old new → k < length old → node_at new k ≡ node_at old k
node-grown {L} old new k g lt = ap (λ (ns : List (Shape L)). node_at ns k) g.is ∙ get_or_append_left old g.more (Rows []) k lt

pub children-grown : {L : Type 0} (old new : List (Shape L)) (branch : Branch) → Grows old new → branch.node.0 < length old → children_of new branch ≡ children_of old branch
children-grown old new branch g lt = ap (children_at branch.first branch.second) (node-grown old new branch.node.0 g lt)

pub longer : {L : Type 0} (old new : List (Shape L)) (k : ℕ) → Grows old new → k < length old → k < length new
longer {L} old new k g lt = omega (arith, lt, ap (λ (ns : List (Shape L)). length ns) g.is, length-append old g.more)

named-grown : {L : Type 0} (old new : List (Shape L)) (node : Shape L) → Grows old new → NamesBelow (length old) node → NamesBelow (length new) node
named-grown old new (Rows rows) g named = tt
named-grown old new (Branches branches) g named = All-weaker (λ (b : Branch). b.node.0 < length old) (λ b. b.node.0 < length new) (λ b lt. longer old new b.node.0 g lt) branches named

pub named-there : {L : Type 0} (w : Widths L) (nodes : List (Shape L)) (node : Shape L) → IsWellFormed w nodes node → NamesBelow (length nodes) node
named-there w nodes (Rows rows) well_formed = tt
named-there w nodes (Branches branches) well_formed = All-weaker (IsWellFormedBranch w nodes) (λ b. b.node.0 < length nodes) (λ b is. is.below) branches well_formed.branches.each

-- ---- branches over children

pub over-grown : {L : Type 0} (w : Widths L) (old new : List (Shape L)) (node : Shape L) (branch : Branch) → IsOver w old node branch → Grows old new → IsOver w new node branch
over-grown {L} w old new node branch o g = record {
  below = longer old new branch.node.0 g o.below;
  named = named-grown old new node g o.named;
  rows_are = ap (map (moved branch.first branch.second)) (at-grown rows_in [] old new branch.node.0 g o.below) ∙ o.rows_are ∙ sym (in-grown rows_in [] rows_local old new node g o.named);
  level = ap (λ (s : Summary). s.height) (at-grown (summary_in w) no_summary old new branch.node.0 g o.below) ∙ o.level ∙ ap (λ (s : Summary). s.height) (sym (in-grown (summary_in w) no_summary (summary_local w) old new node g o.named));
  state = at-grown balance_state_in no_balance_state old new branch.node.0 g o.below ∙ o.state ∙ sym (in-grown balance_state_in no_balance_state balance_state_local old new node g o.named);
}

pub packed-over : {L : Type 0} (w : Widths L) (old new : List (Shape L)) (node : Shape L) (branch : Branch) → Packs w old new node branch → NamesBelow (length old) node → IsOver w new node branch
packed-over {L} w old new node branch p named =
    let g = p.grows in
    record {
      below = p.packed.part.branch.below;
      named = named-grown old new node g named;
      rows_are = p.packed.rows ∙ sym (in-grown rows_in [] rows_local old new node g named);
      level = p.packed.level ∙ ap (λ (s : Summary). s.height) (sym (in-grown (summary_in w) no_summary (summary_local w) old new node g named));
      state = p.stands ∙ sym (in-grown balance_state_in no_balance_state balance_state_local old new node g named);
    }

pub split-grown : {L : Type 0} (w : Widths L) (old new : List (Shape L)) (node : Shape L) (lower upper : Branch) → IsSplit w old node lower upper → Grows old new → IsSplit w new node lower upper
split-grown w old new node lower upper s g = record {
  many = s.many;
  lower_half = over-grown w old new (first_children (how_many node / 2) node) lower s.lower_half g;
  upper_half = over-grown w old new (other_children (how_many node / 2) node) upper s.upper_half g;
}

pub merge-grown : {L : Type 0} (w : Widths L) (old new : List (Shape L)) (node more : Shape L) (made : Branch) → IsMerge w old node more made → Grows old new → IsMerge w new node more made
merge-grown w old new node more made m g = record { few = m.few; alike = m.alike; both = over-grown w old new (joined node more) made m.both g }

pub steps-grown : {L : Type 0} (w : Widths L) (old new : List (Shape L)) (is_split : Bool) (before after : List Branch) → Steps w old is_split before after → Grows old new → Steps w new is_split before after
steps-grown {L} w old new is_split before after (split front behind branch lower upper lt s) g =
    split front behind branch lower upper (longer old new branch.node.0 g lt)
    (subst (λ (node : Shape L). IsSplit w new node lower upper) (sym (children-grown old new branch g lt)) (split-grown w old new (children_of old branch) lower upper s g))
steps-grown {L} w old new is_split before after (merge front behind a b made la lb m) g =
    merge front behind a b made (longer old new a.node.0 g la) (longer old new b.node.0 g lb)
    (subst (λ (node : Shape L). IsMerge w new node (children_of new b) made) (sym (children-grown old new a g la))
    (subst (λ (more : Shape L). IsMerge w new (children_of old a) more made) (sym (children-grown old new b g lb)) (merge-grown w old new (children_of old a) (children_of old b) made m g)))
steps-grown w old new is_split before after (under told front behind below made_below branch made lt is steps o) g =
    under told front behind below made_below branch made (longer old new branch.node.0 g lt) (children-grown old new branch g lt ∙ is)
    (steps-grown w old new told below made_below steps g) (over-grown w old new (Branches made_below) made o g)

-- ---- in place of one branch

pub for-split : {L : Type 0} (w : Widths L) (old new : List (Shape L)) (is_split : Bool) (branch : Branch) (node : Shape L) (made : List Branch) → Grows old new → branch.node.0 < length old → node ≡ children_of old branch → is_split ≡ true → InTwo w new node made → StepsFor w new is_split branch made
for-split {L} w old new is_split branch node made g lt is so two = λ front behind.
    let halves = subst (λ (n : Shape L). IsSplit w new n two.lower two.upper) (is ∙ sym (children-grown old new branch g lt)) two.halves in
    let steps = split front behind branch two.lower two.upper (longer old new branch.node.0 g lt) halves in
    subst (λ (s : Bool). Steps w new s (front ++ branch ∷ behind) (front ++ (made ++ behind))) (sym so)
    (subst (λ (bs : List Branch). Steps w new true (front ++ branch ∷ behind) (front ++ (bs ++ behind))) (sym two.are) steps)

pub for-under : {L : Type 0} (w : Widths L) (old mid new : List (Shape L)) (is_split told : Bool) (branch : Branch) (node : Shape L) (before after made : List Branch) → Grows old mid → Grows mid new → branch.node.0 < length old → node ≡ children_of old branch → node ≡ Branches before
    → Steps w mid told before after → is_split ≡ told → InOne w new after made → StepsFor w new is_split branch made
for-under {L} w old mid new is_split told branch node before after made g h lt is was steps same one = λ front behind.
    let there = longer old mid branch.node.0 g lt in
    let kids = children-grown mid new branch h there ∙ children-grown old mid branch g lt ∙ sym is ∙ was in
    let step = under told front behind before after branch one.one (longer mid new branch.node.0 h there) kids (steps-grown w mid new told before after steps h) one.over in
    subst (λ (s : Bool). Steps w new s (front ++ branch ∷ behind) (front ++ (made ++ behind))) (sym same)
    (subst (λ (bs : List Branch). Steps w new told (front ++ branch ∷ behind) (front ++ (bs ++ behind))) (sym one.is) step)

-- both of what is said of an outcome
pub both-if : {A E : Type 0} (r : Result A E) (P Q : A → Type 0) → IfOk r P → IfOk r Q → IfOk r (λ a. P a × Q a)
both-if (Ok a) P Q p q = (p, q)
both-if (Err e) P Q p q = tt

-- ---- halves

pub rows-in_two : {L : Type 0} (w : Widths L) (old mid new : List (Shape L)) (rows : List (Row L)) (h : ℕ) (lower upper : Branch) (made : List Branch) → 16 < length rows → h ≡ length rows / 2 → Packs w old mid (Rows (take h rows)) lower → Packs w mid new (Rows (drop h rows)) upper → made ≡ lower ∷ upper ∷ []
    → InTwo w new (Rows rows) made
rows-in_two w old mid new rows h lower upper made many is first second are = record {
  lower = lower;
  upper = upper;
  halves = record {
    many = many;
    lower_half = subst (λ (n : ℕ). IsOver w new (Rows (take n rows)) lower) is (over-grown w mid new (Rows (take h rows)) lower (packed-over w old mid (Rows (take h rows)) lower first tt) second.grows);
    upper_half = subst (λ (n : ℕ). IsOver w new (Rows (drop n rows)) upper) is (packed-over w mid new (Rows (drop h rows)) upper second tt);
  };
  are = are;
}

pub branches-in_two : {L : Type 0} (w : Widths L) (old mid new : List (Shape L)) (branches : List Branch) (h : ℕ) (lower upper : Branch) (made : List Branch) → IsWellFormed w old (Branches branches) → 16 < length branches → h ≡ length branches / 2
    → Packs w old mid (Branches (take h branches)) lower → Packs w mid new (Branches (drop h branches)) upper → made ≡ lower ∷ upper ∷ [] → InTwo w new (Branches branches) made
branches-in_two {L} w old mid new branches h lower upper made well_formed many is first second are =
    let named = named-there w old (Branches branches) well_formed in
    let back = named-grown old mid (Branches (drop h branches)) first.grows (All-drop (λ (b : Branch). b.node.0 < length old) h branches named) in
    record {
      lower = lower;
      upper = upper;
      halves = record {
        many = many;
        lower_half = subst (λ (n : ℕ). IsOver w new (Branches (take n branches)) lower) is
            (over-grown w mid new (Branches (take h branches)) lower (packed-over w old mid (Branches (take h branches)) lower first (All-take (λ (b : Branch). b.node.0 < length old) h branches named)) second.grows);
        upper_half = subst (λ (n : ℕ). IsOver w new (Branches (drop n branches)) upper) is (packed-over w mid new (Branches (drop h branches)) upper second back);
      };
      are = are;
    }

-- ---- two neighbours

pub in-one_merged : {L : Type 0} (w : Widths L) (old new : List (Shape L)) (a b : Branch) (lower upper : Shape L) (made : Branch) → Grows old new → a.node.0 < length old → b.node.0 < length old → lower ≡ children_of old a → upper ≡ children_of old b → IsMerge w new lower upper made
    → IsMerge w new (children_of new a) (children_of new b) made
in-one_merged {L} w old new a b lower upper made g la lb ia ib m =
    subst (λ (node : Shape L). IsMerge w new node (children_of new b) made) (ia ∙ sym (children-grown old new a g la))
    (subst (λ (more : Shape L). IsMerge w new lower more made) (ib ∙ sym (children-grown old new b g lb)) m)
