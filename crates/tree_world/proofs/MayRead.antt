-- What an account may read of trees is what its session may read of the world that they stand for.
use Rattle.std.proofs.Common.{◌≡◌, ◌∙◌, ◌++◌, ◌||◌, ℕ, Bool, true, false, cond, List, [], ◌∷◌, map, Option, Some, None, sym, ap, append-nil}
use Rattle.std.proofs.lemmas.List.{map-append}
use Rattle.world_rules.specs.World.{LinkRow, account_of_session}
use Rattle.world_rules.specs.Readable.{is_owned_by, is_readable}
use Rattle.world_rules.specs.FlatView.{FlatView}
use Rattle.tree_world.specs.Trees.{Trees}
use Rattle.tree_world.specs.Standing.{Stands}
use Rattle.tree_world.specs.inside.Reads.{reads_in, link_if}

pub reads_are : (trees : Trees) (view : FlatView) → Stands trees view → (session : ℕ) (account : Option (List ℕ)) → account ≡ account_of_session view.world session
    → (document : List ℕ) → reads_in trees account document ≡ is_readable view.world session document
reads_are trees view stands session account drawn document = λ i. stands.marks document i || is_owned_by (drawn i) document

-- ---- a link that was found

pub link_hidden : (may : List ℕ → Bool) (found : Option LinkRow) (link : LinkRow) → Some link ≡ found → may link.home ≡ false → None ≡ link_if may found
link_hidden may found link is told = sym (ap (λ (b : Bool). cond b (Some link) None) told) ∙ ap (link_if may) is

pub link_shown : (may : List ℕ → Bool) (found : Option LinkRow) (link : LinkRow) → Some link ≡ found → may link.home ≡ true → Some link ≡ link_if may found
link_shown may found link is told = sym (ap (λ (b : Bool). cond b (Some link) None) told) ∙ ap (link_if may) is

-- ---- one more, or none

pub not_pushed : {X : Type 0} (b : Bool) (xs : List X) (x : X) → b ≡ false → xs ≡ xs ++ cond b (x ∷ []) []
not_pushed {X} b xs x told = sym (append-nil xs) ∙ ap (λ (c : Bool). xs ++ cond c (x ∷ []) []) (sym told)

pub was_pushed : {X Y : Type 0} (g : Y → X) (b : Bool) (old new : List Y) (y : Y) (x : X) → b ≡ true → new ≡ old ++ y ∷ [] → g y ≡ x → map g new ≡ map g old ++ cond b (x ∷ []) []
was_pushed {X} g b old new y x told pushed is = ap (map g) pushed ∙ map-append g old (y ∷ []) ∙ (λ i. map g old ++ is i ∷ []) ∙ ap (λ (c : Bool). map g old ++ cond c (x ∷ []) []) (sym told)
