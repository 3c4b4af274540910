-- How counts follow the links that come in and go.
use Rattle.std.proofs.Common.{◌≡◌, ◌∙◌, ℕ, ◌+◌, ◌-◌, ◌<◌, ◌≤◌, cond, List, [], ◌∷◌, length, get_or, refl, sym, ap, suc}
use Rattle.std.proofs.lemmas.List.Sums.{sum_by-insert, sum_by-remove, count_by-le-length}
use Rattle.std.specs.List.{sum_by, insert, remove}
use Rattle.std.specs.BTreeMap.{BTreeMap}
use Rattle.std.specs.declared.boxed.Box.{Box}
use Rattle.world_rules.proofs.CountSteps.{up_step, down_step}
use Rattle.world_rules.proofs.Specs.{sum_by-map}
use Rattle.world_rules.specs.World.{LinkRow, is_same}
use Rattle.world_rules.specs.Counting.{CountsAs, count_in}
use Rattle.links.specs.declared.row.LinkRow as kept
use Rattle.links.specs.LinkLists.{count_of_home_in}
use Rattle.links.specs.inside.Kept.{shown, unboxed, HoldsCounts}

pub unboxed_long : {A : Type 0} (boxes : List (Box kept.LinkRow A)) → length (unboxed boxes) ≡ length boxes
unboxed_long [] = refl
unboxed_long (b ∷ bs) = ap suc (unboxed_long bs)

pub count_small : {A : Type 0} (home : List ℕ) (boxes : List (Box kept.LinkRow A)) (counts : BTreeMap (List ℕ) ℕ) → HoldsCounts (unboxed boxes) counts → count_in counts home ≤ length boxes
count_small home boxes counts holds =
    rw (holds home, ← unboxed_long boxes) (count_by-le-length (λ (l : LinkRow). is_same l.home home) (unboxed boxes))

by_boxes : {A : Type 0} (home : List ℕ) (boxes : List (Box kept.LinkRow A)) → count_of_home_in (unboxed boxes) home ≡ sum_by (λ (b : Box kept.LinkRow A). cond (is_same b.value.home home) 1 0) boxes
by_boxes home boxes = sum_by-map shown (λ (l : LinkRow). cond (is_same l.home home) 1 0) boxes

pub counts_added : {A : Type 0} (first : List ℕ) (boxes : List (Box kept.LinkRow A)) (n : ℕ) (new : Box kept.LinkRow A) (old now : BTreeMap (List ℕ) ℕ) → first ≡ new.value.home
    → HoldsCounts (unboxed boxes) old → CountsAs first (count_in old first + 1) old now → HoldsCounts (unboxed (insert boxes n new)) now
counts_added {A} first boxes n new old now own holds counted key =
    let f : Box kept.LinkRow A → ℕ = λ b. cond (is_same b.value.home key) 1 0 in
    let there : is_same first key ≡ is_same new.value.home key = ap (λ k. is_same k key) own in
    counted key ∙ up_step first key old (count_of_home_in (unboxed boxes) key) (is_same first key) refl (holds key)
    ∙ ap (λ b. count_of_home_in (unboxed boxes) key + cond b 1 0) there
    ∙ ap (λ m. m + f new) (by_boxes key boxes) ∙ sym (sum_by-insert f boxes n new) ∙ sym (by_boxes key (insert boxes n new))

pub counts_removed : {A : Type 0} (first : List ℕ) (boxes : List (Box kept.LinkRow A)) (n : ℕ) (d : Box kept.LinkRow A) (old now : BTreeMap (List ℕ) ℕ) → n < length boxes → first ≡ (get_or boxes n d).value.home
    → HoldsCounts (unboxed boxes) old → CountsAs first (count_in old first - 1) old now → HoldsCounts (unboxed (remove boxes n)) now
counts_removed {A} first boxes n d old now within own holds counted key =
    let f : Box kept.LinkRow A → ℕ = λ b. cond (is_same b.value.home key) 1 0 in
    let there : is_same (get_or boxes n d).value.home key ≡ is_same first key = ap (λ k. is_same k key) (sym own) in
    let rest : count_of_home_in (unboxed (remove boxes n)) key + cond (is_same first key) 1 0 ≡ count_of_home_in (unboxed boxes) key =
    ap (λ b. count_of_home_in (unboxed (remove boxes n)) key + cond b 1 0) (sym there) ∙ ap (λ m. m + f (get_or boxes n d)) (by_boxes key (remove boxes n)) ∙ sum_by-remove f boxes n d within ∙ sym (by_boxes key boxes) in
    counted key ∙ down_step first key old (count_of_home_in (unboxed boxes) key) (count_of_home_in (unboxed (remove boxes n)) key) (is_same first key) refl (holds key) rest
