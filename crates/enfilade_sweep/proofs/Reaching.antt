-- From the last node to the first, what hangs under marked nodes is marked.
use Rattle.std.proofs.Common.{◌≡◌, ◌∙◌, inl, inr, ℕ, zero, suc, ◌+◌, ◌-◌, ◌<◌, ◌≤◌, Bool, true, false, List, [], ◌++◌, length, take, replicate, sym, ap, subst, refl, arith, true≢false}
use Rattle.std.specs.Prelude.{All}
use Rattle.std.specs.List.{Contains}
use Rattle.std.proofs.lemmas.List.{get_or_past, length-replicate}
use Rattle.std.proofs.lemmas.List.Elements.{All-contains, All-map}
use Rattle.std.proofs.lemmas.Bool.{cases_lt}
use Rattle.enfilade_core.specs.declared.tree.Branch.{Branch}
use Rattle.enfilade_core.specs.Rows.{Shape, node_at, branches_under}
use Rattle.enfilade_core.specs.NewNumbers.{under, is_marked}
use Rattle.enfilade_sweep.specs.Sweep.{is_root, hangs}
use Rattle.enfilade_sweep.specs.Marks.{MarksMore, AreMarked}

none_marked : (n k : ℕ) → is_marked (replicate n false) k ≡ false
none_marked zero k = refl
none_marked (suc n) zero = refl
none_marked (suc n) (suc k) = none_marked n k

-- marks that are made at once
pub blank : (items old : List Bool) (n m k : ℕ) → items ≡ take n old ++ replicate (n - m) false → old ≡ [] → m ≡ 0 → n ≡ k → items ≡ replicate k false
blank items old n m k is none few same = is ∙ ap (λ (xs : List Bool). take n xs ++ replicate (n - m) false) none ∙ take_none n (replicate (n - m) false) ∙ ap (λ (i : ℕ). replicate i false) (omega (arith, few, same))
  where
    take_none : (i : ℕ) (xs : List Bool) → take i [] ++ xs ≡ xs
    take_none zero xs = refl
    take_none (suc i) xs = refl

unmarked_past : (marks : List Bool) (k : ℕ) → length marks ≤ k → is_marked marks k ≡ true → ⊥
unmarked_past marks k le h = true≢false (sym h ∙ get_or_past marks k false le)

-- the roots alone are marked
pub marked_first : {L : Type 0} (nodes : List (Shape L)) (roots : List ℕ) (none marks : List Bool) (n : ℕ) → none ≡ replicate n false → n ≡ length nodes → length marks ≡ length none → MarksMore roots none marks
    → AreMarked nodes roots marks n
marked_first nodes roots none marks n is all same more = record {
  long = same ∙ long ∙ all;
  sound = λ k h. elim ((more k).0 h) [ inl was ↦ absurd (true≢false (sym was ∙ ap (λ (m : List Bool). is_marked m k) is ∙ none_marked n k)) | inr c ↦ is_root c ];
  rooted = λ k c. (more k).1 (inr c);
  closed = λ j k le h c. absurd (unmarked_past marks j (omega (arith, le, same, long)) h);
}
  where
    long : length none ≡ n
    long = ap length is ∙ length-replicate n false

module _ {L : Type 0} (nodes : List (Shape L)) (roots : List ℕ) (marks new : List Bool) (n k : ℕ) (next : n ≡ k + 1) (old : AreMarked nodes roots marks n) (below : All (λ (branch : Branch). branch.node.0 < k) (branches_under (node_at nodes k)))
    (long : length new ≡ length nodes) where
  before : (m : ℕ) → Contains (under (node_at nodes k)) m → m < k
  before m c = All-contains (λ (i : ℕ). i < k) (under (node_at nodes k)) m (All-map (λ (i : ℕ). i < k) (λ (branch : Branch). branch.node.0) (branches_under (node_at nodes k)) below) c

  -- the node k is marked, and what hangs under it comes in
  pub marked_under : is_marked marks k ≡ true → MarksMore (under (node_at nodes k)) marks new → AreMarked nodes roots new k
  marked_under here more = record {
    long = long;
    sound = λ m h. elim ((more m).0 h) [ inl was ↦ old.sound m was | inr c ↦ hangs (old.sound k here) c ];
    rooted = λ m c. (more m).1 (inl (old.rooted m c));
    closed = λ j m le h c. elim (cases_lt k j) [
      | inl lt ↦ elim ((more j).0 h) [
        | inl was ↦ (more m).1 (inl (old.closed j m (omega (arith, lt, next)) was c))
        | inr under_k ↦ let lt2 = before j under_k in absurd (omega (arith, lt, lt2))
      ]
      | inr ge ↦ let same : j ≡ k = omega (arith, le, ge) in (more m).1 (inr (subst (λ (i : ℕ). Contains (under (node_at nodes i)) m) same c))
    ];
  }

  -- it is not
  pub marked_not : is_marked marks k ≡ false → new ≡ marks → AreMarked nodes roots new k
  marked_not here same = subst (λ (ms : List Bool). AreMarked nodes roots ms k) (sym same) (record {
    long = old.long;
    sound = old.sound;
    rooted = old.rooted;
    closed = λ j m le h c. elim (cases_lt k j) [
      | inl lt ↦ old.closed j m (omega (arith, lt, next)) h c
      | inr ge ↦ let is : j ≡ k = omega (arith, le, ge) in absurd (true≢false (sym h ∙ ap (is_marked marks) is ∙ here))
    ];
  })

  pub marked_next : (is_marked marks k ≡ true → MarksMore (under (node_at nodes k)) marks new) → (is_marked marks k ≡ false → new ≡ marks) → AreMarked nodes roots new k
  marked_next more same = by (is_marked marks k) refl
    where
      by : (b : Bool) → is_marked marks k ≡ b → AreMarked nodes roots new k
      by true e = marked_under e (more e)
      by false e = marked_not e (same e)
