-- What is published along a history, and who may read it.
use Rattle.std.proofs.Common.{◌≡◌, ◌⊎◌, inl, inr, ◌↔◌, ℕ, ◌∙◌, ◌||◌, Bool, true, false, List, [], ◌∷◌, ◌++◌, Option, Some, None, ap, sym, refl, subst}
use Rattle.std.specs.List.{fold, list_any}
use Rattle.std.specs.Cmp.Lexicographic.{bytes_decides}
use Rattle.std.proofs.lemmas.Bool.{true≢false, or_left, or_right, or_cases, false_from_ne_true}
use Rattle.std.proofs.lemmas.List.Folds.{list_any-append}
use Rattle.tumbler.specs.Address.{IsDocumentOf}
use Rattle.febe_data.specs.Plain.{PlainEntry, PlainChange, restarted, began, ended, account_changed, document_opened, document_closed, document_created, version_made, copy_opened, text_inserted, span_deleted, blocks_swapped, specs_copied, link_made, document_published}
use Rattle.world_rules.specs.World.{World, empty_world, is_same, has_document, next_below, account_of_session}
use Rattle.world_rules.specs.Readable.{is_one_of, is_published, owns, is_readable}
use Rattle.world_rules.specs.Edits.{Cuts, cuts_of}
use Rattle.world_rules.specs.Apply.{apply, change_world, world_of, with_swapped}
use Rattle.world_rules.specs.Placed.{IsPlaced, AllPlaced}
use Rattle.world_rules.specs.Published.{ReadsByAccount, publishes_by, publishes, PublishedByEntry, NewIsPrivate}
use Rattle.world_rules.proofs.Accounts.{owns_by_account}
use Rattle.world_rules.proofs.Orderly.{next_is_new}

-- ---- what an entry publishes

or_false : (a : Bool) → a ≡ (a || false)
or_false true = refl
or_false false = refl

or_assoc : (a b c : Bool) → ((a || b) || c) ≡ (a || (b || c))
or_assoc true b c = refl
or_assoc false b c = refl

swapped_published : (world : World) (cuts : Option Cuts) (swapped document : List ℕ) → is_published (with_swapped world swapped cuts) document ≡ (is_published world document || false)
swapped_published world (Some cuts) swapped document = or_false (is_published world document)
swapped_published world None swapped document = or_false (is_published world document)

push_published : (marked : List (List ℕ)) (new document : List ℕ) → is_one_of (marked ++ new ∷ []) document ≡ (is_one_of marked document || is_same new document)
push_published marked new document =
    list_any-append (λ (d : List ℕ). is_same d document) marked (new ∷ []) ∙ ap (λ (b : Bool). is_one_of marked document || b) (sym (or_false (is_same new document)))

change_published : (world : World) (session : ℕ) (change : PlainChange) (document : List ℕ) → is_published (change_world world session change) document ≡ (is_published world document || publishes_by document change)
change_published world session restarted document = or_false (is_published world document)
change_published world session began document = or_false (is_published world document)
change_published world session ended document = or_false (is_published world document)
change_published world session (account_changed account) document = or_false (is_published world document)
change_published world session (document_opened opened mode) document = or_false (is_published world document)
change_published world session (document_closed closed) document = or_false (is_published world document)
change_published world session (document_created created) document = or_false (is_published world document)
change_published world session (version_made source made) document = or_false (is_published world document)
change_published world session (copy_opened source made) document = or_false (is_published world document)
change_published world session (text_inserted into at first text) document = or_false (is_published world document)
change_published world session (span_deleted from span) document = or_false (is_published world document)
change_published world session (blocks_swapped swapped cuts) document = swapped_published world (cuts_of cuts) swapped document
change_published world session (specs_copied into at specs) document = or_false (is_published world document)
change_published world session (link_made home number place from to three) document = or_false (is_published world document)
change_published world session (document_published marked) document = push_published world.published marked document

published_along : (history : List PlainEntry) (world : World) (document : List ℕ) → is_published (fold apply world history) document ≡ (is_published world document || list_any (publishes document) history)
published_along [] world document = or_false (is_published world document)
published_along (entry ∷ history) world document =
    published_along history (apply world entry) document
    ∙ ap (λ (b : Bool). b || list_any (publishes document) history) (change_published world entry.session entry.change document)
    ∙ or_assoc (is_published world document) (publishes document entry) (list_any (publishes document) history)

pub published_by_entry : PublishedByEntry
published_by_entry history document = published_along history empty_world document

-- ---- what is published is there

abbrev pub AreThere : World → Type 0
AreThere world = (document : List ℕ) → is_published world document ≡ true → has_document world document ≡ true

there_step : (world after : World) (new : List ℕ) → after.published ≡ world.published → after.documents ≡ world.documents ++ new ∷ [] → AreThere world → AreThere after
there_step world after new marks documents all document marked =
    let before : has_document world document ≡ true = all document (ap (λ (ds : List (List ℕ)). is_one_of ds document) (sym marks) ∙ marked) in
    ap (λ (ds : List (List ℕ)). list_any (λ (d : List ℕ). is_same d document) ds) documents
    ∙ list_any-append (λ (d : List ℕ). is_same d document) world.documents (new ∷ [])
    ∙ or_left (has_document world document) (list_any (λ (d : List ℕ). is_same d document) (new ∷ [])) before

swapped_there : (world : World) (swapped : List ℕ) (cuts : Option Cuts) → AreThere world → AreThere (with_swapped world swapped cuts)
swapped_there world swapped (Some cuts) all = all
swapped_there world swapped None all = all

mark_there : (world : World) (new document : List ℕ) → has_document world new ≡ true → (is_published world document ≡ true → has_document world document ≡ true)
    → (is_published world document ≡ true) ⊎ (is_same new document ≡ true) → has_document world document ≡ true
mark_there world new document there all (inl marked) = all marked
mark_there world new document there all (inr same) = ap (has_document world) (sym ((bytes_decides new document).0 same)) ∙ there

change_there : (world : World) (session : ℕ) (change : PlainChange) → IsPlaced world change → AreThere world → AreThere (change_world world session change)
change_there world session restarted placed all = all
change_there world session began placed all = all
change_there world session ended placed all = all
change_there world session (account_changed account) placed all = all
change_there world session (document_opened document mode) placed all = all
change_there world session (document_closed document) placed all = all
change_there world session (document_created document) placed all = there_step world (change_world world session (document_created document)) document refl refl all
change_there world session (version_made source document) placed all = there_step world (change_world world session (version_made source document)) document refl refl all
change_there world session (copy_opened source document) placed all = there_step world (change_world world session (copy_opened source document)) document refl refl all
change_there world session (text_inserted document at first text) placed all = all
change_there world session (span_deleted document span) placed all = all
change_there world session (blocks_swapped document cuts) placed all = swapped_there world document (cuts_of cuts) all
change_there world session (specs_copied document at specs) placed all = all
change_there world session (link_made home number place from to three) placed all = all
change_there world session (document_published new) placed all = λ document marked.
    mark_there world new document placed (all document) (or_cases (is_published world document) (is_same new document) (sym (push_published world.published new document) ∙ marked))

there_along : (history : List PlainEntry) (world : World) → AllPlaced world history → AreThere world → AreThere (fold apply world history)
there_along [] world placed all = all
there_along (entry ∷ history) world placed all = there_along history (apply world entry) placed.1 (change_there world entry.session entry.change placed.0 all)

pub published_there : (history : List PlainEntry) → AllPlaced empty_world history → AreThere (world_of history)
published_there history placed = there_along history empty_world placed (λ document marked. absurd (true≢false (sym marked)))

pub new_is_private : NewIsPrivate
new_is_private history placed front =
    let next : List ℕ = next_below (world_of history).documents front in
    false_from_ne_true (is_published (world_of history) next)
    (λ (marked : is_published (world_of history) next ≡ true). true≢false (sym (published_there history placed next marked) ∙ next_is_new history placed front))

-- ---- who may read

pub reads_by_account : ReadsByAccount
reads_by_account history placed session document owner of =
    let world : World = world_of history in
    let own = owns_by_account history placed session document owner of in (
      λ (reads : is_readable world session document ≡ true). either (is_published world document) (owns world session document) (account_of_session world session ≡ Some owner) own.0 (or_cases (is_published world document) (owns world session document) reads),
      λ (may : (is_published world document ≡ true) ⊎ (account_of_session world session ≡ Some owner)). back (is_published world document) (owns world session document) (account_of_session world session ≡ Some owner) own.1 may,
    )
  where
    either : (a b : Bool) (P : Type 0) → (b ≡ true → P) → (a ≡ true) ⊎ (b ≡ true) → (a ≡ true) ⊎ P
    either a b P goes (inl e) = inl e
    either a b P goes (inr e) = inr (goes e)

    back : (a b : Bool) (P : Type 0) → (P → b ≡ true) → (a ≡ true) ⊎ P → (a || b) ≡ true
    back a b P goes (inl e) = or_left a b e
    back a b P goes (inr p) = or_right a b (goes p)
