-- The elders of a document: below each address the documents have the numbers from 1 to their count.
use Rattle.std.proofs.Common.{◌≡◌, ◌⊎◌, inl, inr, ℕ, ◌+◌, ◌-◌, ◌<◌, ◌≤◌, ◌∙◌, Bool, true, false, cond, List, [], ◌∷◌, ◌++◌, ap, sym, refl, subst, arith}
use Rattle.std.specs.Prelude.{count_by, Option, Some, None}
use Rattle.std.specs.List.{list_any, fold}
use Rattle.std.specs.Cmp.Lexicographic.{bytes_decides}
use Rattle.std.proofs.lemmas.Bool.{or_left, or_right, cases_lt}
use Rattle.std.proofs.lemmas.List.Folds.{list_any-append}
use Rattle.std.proofs.lemmas.List.Sums.{sum_by_push}
use Rattle.febe_data.specs.Plain.{PlainEntry, PlainChange, restarted, began, ended, account_changed, document_opened, document_closed, document_created, version_made, copy_opened, text_inserted, span_deleted, blocks_swapped, specs_copied, link_made, document_published}
use Rattle.world_rules.specs.declared.cuts.Cuts.{Cuts}
use Rattle.world_rules.specs.World.{World, empty_world, is_same, is_child_of, next_below}
use Rattle.world_rules.specs.Edits.{cuts_of}
use Rattle.world_rules.specs.Apply.{apply, change_world, world_of, with_swapped}
use Rattle.world_rules.specs.Placed.{IsNext, IsPlaced, AllPlaced}
use Rattle.world_rules.proofs.Documents.{has, Children}
use Rattle.world_rules.proofs.Orderly.{orderly}
use Rattle.world_elders.specs.Laws.{EldersAreThere}
use Rattle.world_elders.proofs.Addresses.{front_is}

-- each number up to the count is there
abbrev UpToCount : List (List ℕ) → Type 0
UpToCount documents = (front : List ℕ) (n : ℕ) → 1 ≤ n → n ≤ count_by (is_child_of front) documents → has documents (front ++ n ∷ []) ≡ true

-- ---- one more document

still_there : (documents : List (List ℕ)) (new document : List ℕ) → has documents document ≡ true → has (documents ++ new ∷ []) document ≡ true
still_there documents new document e =
    let test : List ℕ → Bool = λ d. is_same d document in
    list_any-append test documents (new ∷ []) ∙ or_left (has documents document) (list_any test (new ∷ [])) e

now_there : (documents : List (List ℕ)) (new document : List ℕ) → new ≡ document → has (documents ++ new ∷ []) document ≡ true
now_there documents new document e =
    let test : List ℕ → Bool = λ d. is_same d document in
    list_any-append test documents (new ∷ []) ∙ or_right (has documents document) (list_any test (new ∷ [])) (or_left (is_same new document) false ((bytes_decides new document).1 e))

count_push : (documents : List (List ℕ)) (new front : List ℕ) → count_by (is_child_of front) (documents ++ new ∷ []) ≡ count_by (is_child_of front) documents + cond (is_child_of front new) 1 0
count_push documents new front = sum_by_push (λ (d : List ℕ). cond (is_child_of front d) 1 0) documents new

-- the number is of those before, or the next one
push_cases : (documents : List (List ℕ)) (below : List ℕ) (n : ℕ) → UpToCount documents → 1 ≤ n → n ≤ count_by (is_child_of below) documents + 1 → (n < count_by (is_child_of below) documents + 1) ⊎ (count_by (is_child_of below) documents + 1 ≤ n)
    → has (documents ++ next_below documents below ∷ []) (below ++ n ∷ []) ≡ true
push_cases documents below n there some le (inl old) =
    still_there documents (next_below documents below) (below ++ n ∷ []) (there below n some (omega arith))
push_cases documents below n there some le (inr new) =
    let is : count_by (is_child_of below) documents + 1 ≡ n = omega arith in
    now_there documents (next_below documents below) (below ++ n ∷ []) (ap (λ (m : ℕ). below ++ m ∷ []) is)

push_step : (documents : List (List ℕ)) (below front : List ℕ) (n : ℕ) (is_below : Bool) → is_child_of front (next_below documents below) ≡ is_below → UpToCount documents → 1 ≤ n
    → n ≤ count_by (is_child_of front) documents + cond is_below 1 0 → has (documents ++ next_below documents below ∷ []) (front ++ n ∷ []) ≡ true
push_step documents below front n true e there some le =
    let same : front ≡ below = front_is front below (count_by (is_child_of below) documents + 1) e in
    let most : n ≤ count_by (is_child_of below) documents + 1 = subst (λ (f : List ℕ). n ≤ count_by (is_child_of f) documents + 1) same le in
    subst (λ (f : List ℕ). has (documents ++ next_below documents below ∷ []) (f ++ n ∷ []) ≡ true) (sym same)
    (push_cases documents below n there some most (cases_lt n (count_by (is_child_of below) documents + 1)))
push_step documents below front n false e there some le =
    still_there documents (next_below documents below) (front ++ n ∷ []) (there front n some (omega arith))

next_push : (documents : List (List ℕ)) (below : List ℕ) → UpToCount documents → UpToCount (documents ++ next_below documents below ∷ [])
next_push documents below there front n some le =
    push_step documents below front n (is_child_of front (next_below documents below)) refl there some
    (subst (λ (k : ℕ). n ≤ k) (count_push documents (next_below documents below) front) le)

-- ---- along a history

made : (world : World) (document : List ℕ) → IsNext world document → UpToCount world.documents → UpToCount (world.documents ++ document ∷ [])
made world document next there = subst (λ (d : List ℕ). UpToCount (world.documents ++ d ∷ [])) (sym next.is_next) (next_push world.documents next.front there)

swapped : (world : World) (document : List ℕ) (cuts : Option Cuts) → UpToCount world.documents → UpToCount (with_swapped world document cuts).documents
swapped world document (Some cuts) there = there
swapped world document None there = there

change_counts : (world : World) (session : ℕ) (change : PlainChange) → IsPlaced world change → UpToCount world.documents → UpToCount (change_world world session change).documents
change_counts world session restarted placed there = there
change_counts world session began placed there = there
change_counts world session ended placed there = there
change_counts world session (account_changed account) placed there = there
change_counts world session (document_opened document mode) placed there = there
change_counts world session (document_closed document) placed there = there
change_counts world session (document_created document) placed there = made world document placed there
change_counts world session (version_made source document) placed there = made world document placed there
change_counts world session (copy_opened source document) placed there = made world document placed there
change_counts world session (text_inserted document at first text) placed there = there
change_counts world session (span_deleted document span) placed there = there
change_counts world session (blocks_swapped document cuts) placed there = swapped world document (cuts_of cuts) there
change_counts world session (specs_copied document at specs) placed there = there
change_counts world session (link_made home number place from to three) placed there = there
change_counts world session (document_published document) placed there = there

counts_along : (history : List PlainEntry) (world : World) → AllPlaced world history → UpToCount world.documents → UpToCount (fold apply world history).documents
counts_along [] world placed there = there
counts_along (entry ∷ history) world placed there = counts_along history (apply world entry) placed.1 (change_counts world entry.session entry.change placed.0 there)

none_below : (front : List ℕ) (n : ℕ) → 1 ≤ n → n ≤ 0 → has [] (front ++ n ∷ []) ≡ true
none_below front n some le = absurd (omega arith)

pub elders_are_there : EldersAreThere
elders_are_there history placed front k above there =
    let children : Children (world_of history).documents = (orderly history placed).children in
    let most : k ≤ count_by (is_child_of front) (world_of history).documents = children front k there in
    counts_along history empty_world placed none_below front (k - 1) (omega arith) (omega arith)
