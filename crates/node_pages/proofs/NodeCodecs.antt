-- A node is read exactly as it is written, by one that knows how many come before it.
use Rattle.std.proofs.Common.{◌≡◌, ℕ, ◌<◌, ◌==◌, ◌⊎◌, Bool, true, false, cond, List, [], ◌∷◌, ◌++◌, All, Option, Some, None, refl, ap, subst, ◌∙◌, inl, inr}
use Rattle.std.specs.Prelude.{nat_lt}
use Rattle.std.proofs.lemmas.Bool.{eqb-true, lt-ltb, ltb-true}
use Rattle.std.proofs.lemmas.Option.{cond_some}
use Rattle.febe_fields.proofs.ListLaws.{ReadsAgain}
use Rattle.disk_fields.specs.Format.{IsU64, AreCounted, u64_bytes, list_bytes}
use Rattle.disk_fields.specs.Reading.{u8_at, u64_at, made_at, counted_at}
use Rattle.disk_fields.specs.Codec.{ReadsRight, Codec}
use Rattle.disk_fields.proofs.FieldLaws.{field, u8_right, u64_right, u64_again, tumbler_codec}
use Rattle.disk_fields.proofs.Codecs.{both, made, counted, reworded}
use Rattle.enfilade_core.specs.declared.tree.Row.{Row}
use Rattle.enfilade_core.specs.declared.tree.Branch.{Branch}
use Rattle.enfilade_core.specs.Rows.{Shape, Rows, Branches, rows_under, branches_under}
use Rattle.enfilade_core.specs.WellFormed.{NamesBelow}
use Rattle.node_pages.specs.NodeBytes.{branch_bytes, IsBranch, node_bytes, IsNode}
use Rattle.node_pages.specs.NodeReading.{earlier_at, branch_of, branch_at, shape_at}

-- ---- branches

earlier_again : (before : ℕ) → ReadsAgain (λ (n : ℕ). IsU64 n × (n < before)) (earlier_at before) u64_bytes
unfolding earlier_at
earlier_again before n rest h = rw (u64_again n rest h.0, lt-ltb n before h.1) refl

earlier_right : (before : ℕ) → ReadsRight (λ (n : ℕ). IsU64 n × (n < before)) (earlier_at before) u64_bytes
unfolding earlier_at
earlier_right before bytes rest n are e =
    let f = field IsU64 u64_at u64_bytes u64_right bytes are (λ number. cond (nat_lt number.0 before) (Some (number.0, number.1)) None) (n, rest) e in
    let g = cond_some (nat_lt f.value before) (f.value, f.rest) (n, rest) f.goes in
    subst (λ (p : ℕ × List ℕ). (bytes ≡ u64_bytes p.0 ++ p.1) × (IsU64 p.0 × (p.0 < before))) g.1 (f.split, (f.right, ltb-true f.value before g.0))

earlier_codec : (before : ℕ) → Codec (λ (n : ℕ). IsU64 n × (n < before)) (earlier_at before) u64_bytes
earlier_codec before = record { again = earlier_again before; right = earlier_right before }

-- a branch to a node below a number
pub record IsBranchBelow (before : ℕ) (branch : Branch) : Type 0 where
  pub right : IsBranch branch
  pub below : branch.node.0 < before

pub branch_codec : (before : ℕ) → Codec (IsBranchBelow before) (branch_at before) branch_bytes
unfolding branch_at
branch_codec before = reworded
    (λ branch h. record { right = record { node = h.1.0.0; first = h.1.1.0; second = h.1.1.1.0; first_extent = h.1.1.1.1.0; second_extent = h.1.1.1.1.1 }; below = h.1.0.1 })
    (λ branch h. (refl, ((h.right.node, h.below), (h.right.first, (h.right.second, (h.right.first_extent, h.right.second_extent))))))
    (made branch_of (λ branch. (branch.node.0, (branch.first, (branch.second, (branch.first_extent, branch.second_extent))))) (λ parts. refl)
    (both (earlier_codec before) (both tumbler_codec (both tumbler_codec (both tumbler_codec tumbler_codec)))))

branches_codec : (before : ℕ) → Codec (λ (branches : List Branch). AreCounted IsBranch branches × All (λ branch. branch.node.0 < before) branches) (counted_at (branch_at before)) (list_bytes branch_bytes)
branches_codec before = reworded
    (λ branches h. (record { counted = h.counted; each = λ i d lt. (h.each i d lt).right }, λ i d lt. (h.each i d lt).below))
    (λ branches h. record { counted = h.0.counted; each = λ i d lt. record { right = h.0.each i d lt; below = h.1 i d lt } })
    (counted (branch_codec before))

-- ---- nodes

-- a node that can be written, and names nodes below a number
pub record IsNodeBelow {L : Type 0} (IsRow : Row L → Type 0) (before : ℕ) (node : Shape L) : Type 0 where
  pub right : IsNode IsRow node
  pub below : NamesBelow before node

node_again : {L : Type 0} {IsRow : Row L → Type 0} {row_at : List ℕ → Option (Row L × List ℕ)} {row_bytes : Row L → List ℕ} → Codec IsRow row_at row_bytes
    → (before : ℕ) → ReadsAgain (IsNodeBelow IsRow before) (shape_at row_at before) (node_bytes row_bytes)
unfolding shape_at u8_at made_at
node_again rows before (Rows items) rest h = rw ((counted rows).again items rest h.right) refl
node_again rows before (Branches items) rest h = rw ((branches_codec before).again items rest (h.right, h.below)) refl

-- where there are two kinds, it is one of them
kinds : {A : Type 0} (b c : Bool) (r s : Option A) (y : A) → cond b r (cond c s None) ≡ Some y → ((b ≡ true) × (r ≡ Some y)) ⊎ ((c ≡ true) × (s ≡ Some y))
kinds true c r s y e = inl (refl, e)
kinds false true r s y e = inr (refl, e)
kinds false false r s y e = absurd cc

node_right : {L : Type 0} {IsRow : Row L → Type 0} {row_at : List ℕ → Option (Row L × List ℕ)} {row_bytes : Row L → List ℕ} → Codec IsRow row_at row_bytes
    → (before : ℕ) → ReadsRight (IsNodeBelow IsRow before) (shape_at row_at before) (node_bytes row_bytes)
unfolding shape_at
node_right {L} {IsRow} {row_at} {row_bytes} rows before bytes rest node are e =
    let kind = field (λ n. n < 256) u8_at (λ n. n ∷ []) u8_right bytes are (λ kind. cond (kind.0 == 0) (made_at Rows (counted_at row_at) kind.1) (cond (kind.0 == 1) (made_at Branches (counted_at (branch_at before)) kind.1) None)) (node, rest) e in
    elim (kinds (kind.value == 0) (kind.value == 1) (made_at Rows (counted_at row_at) kind.rest) (made_at Branches (counted_at (branch_at before)) kind.rest) (node, rest) kind.goes) [
      | inl bottom ↦
          let r = (made Rows rows_under (λ items. refl) (counted rows)).right kind.rest rest node kind.are bottom.1 in
          subst (λ (n : Shape L). (bytes ≡ node_bytes row_bytes n ++ rest) × IsNodeBelow IsRow before n) r.1.0
          (kind.split ∙ ap (λ (k : ℕ). k ∷ kind.rest) (eqb-true kind.value 0 bottom.0) ∙ ap (λ (ds : List ℕ). 0 ∷ ds) r.0, record { right = r.1.1; below = tt })
      | inr inner ↦
          let r = (made Branches branches_under (λ items. refl) (branches_codec before)).right kind.rest rest node kind.are inner.1 in
          subst (λ (n : Shape L). (bytes ≡ node_bytes row_bytes n ++ rest) × IsNodeBelow IsRow before n) r.1.0
          (kind.split ∙ ap (λ (k : ℕ). k ∷ kind.rest) (eqb-true kind.value 1 inner.0) ∙ ap (λ (ds : List ℕ). 1 ∷ ds) r.0, record { right = r.1.1.0; below = r.1.1.1 })
    ]

pub node_codec : {L : Type 0} {IsRow : Row L → Type 0} {row_at : List ℕ → Option (Row L × List ℕ)} {row_bytes : Row L → List ℕ} → Codec IsRow row_at row_bytes
    → (before : ℕ) → Codec (IsNodeBelow IsRow before) (shape_at row_at before) (node_bytes row_bytes)
node_codec rows before = record { again = node_again rows before; right = node_right rows before }
