-- What the kept entries of a history build, and what is kept of them.
use Rattle.std.proofs.Common.{◌≡◌, ℕ, ◌∙◌, Bool, true, false, List, [], ◌∷◌, ◌++◌, length, ap, sym, refl, append-nil}
use Rattle.std.specs.Prelude.{filter, Option, Some, None}
use Rattle.std.specs.List.{fold}
use Rattle.std.proofs.lemmas.Bool.{true≢false}
use Rattle.std.proofs.lemmas.List.Elements.{filter-append}
use Rattle.febe_data.specs.Plain.{PlainEntry, PlainChange, restarted, began, ended, account_changed, document_opened, document_closed, document_created, version_made, copy_opened, text_inserted, span_deleted, blocks_swapped, specs_copied, link_made, document_published}
use Rattle.world_rules.specs.World.{World, empty_world}
use Rattle.world_rules.specs.Picking.{picked_addresses}
use Rattle.world_rules.specs.Edits.{Cuts, cuts_of, rows_with, content_addresses, new_bytes, rows_without, rows_swapped, rows_as}
use Rattle.world_rules.specs.Apply.{apply, change_world, link_between, link_row}
use Rattle.world_rules.specs.History.{durable_entries, is_durable, restart_entry}
use Rattle.world_rules.specs.Laws.{HasContentsOf, KeepsContents, KeptAgain}

-- the blocks change places in both worlds alike
swapped_alike : (one other : World) (session : ℕ) (document cuts : List ℕ) (bounds : Option Cuts) → cuts_of cuts ≡ bounds → HasContentsOf one other
    → HasContentsOf (change_world one session (blocks_swapped document cuts)) (change_world other session (blocks_swapped document cuts))
swapped_alike one other session document cuts (Some bounds) e same =
    rw e (record { documents = same.documents; rows = ap (λ rows. rows_swapped rows document bounds) same.rows; bytes = same.bytes; links = same.links; published = same.published })
swapped_alike one other session document cuts None e same = rw e same

-- a counted change changes the contents of two worlds alike
pub counted_alike : (one other : World) (session : ℕ) (change : PlainChange) → is_durable change ≡ true → HasContentsOf one other → HasContentsOf (change_world one session change) (change_world other session change)
counted_alike one other session restarted counted same = absurd (true≢false (sym counted))
counted_alike one other session began counted same = absurd (true≢false (sym counted))
counted_alike one other session ended counted same = absurd (true≢false (sym counted))
counted_alike one other session (account_changed account) counted same = absurd (true≢false (sym counted))
counted_alike one other session (document_opened document mode) counted same = absurd (true≢false (sym counted))
counted_alike one other session (document_closed document) counted same = absurd (true≢false (sym counted))
counted_alike one other session (document_created document) counted same =
    record { documents = ap (λ ds. ds ++ document ∷ []) same.documents; rows = same.rows; bytes = same.bytes; links = same.links; published = same.published }
counted_alike one other session (version_made source document) counted same =
    record { documents = ap (λ ds. ds ++ document ∷ []) same.documents; rows = ap (λ rows. rows ++ rows_as rows source document) same.rows; bytes = same.bytes; links = same.links; published = same.published }
counted_alike one other session (copy_opened source document) counted same =
    record { documents = ap (λ ds. ds ++ document ∷ []) same.documents; rows = ap (λ rows. rows ++ rows_as rows source document) same.rows; bytes = same.bytes; links = same.links; published = same.published }
counted_alike one other session (text_inserted document at first text) counted same =
    record { documents = same.documents; rows = ap (λ rows. rows_with rows document at (content_addresses document first (length text))) same.rows; bytes = ap (λ bytes. bytes ++ new_bytes document first text) same.bytes; links = same.links; published = same.published }
counted_alike one other session (span_deleted document span) counted same =
    record { documents = same.documents; rows = ap (λ rows. rows_without rows document span) same.rows; bytes = same.bytes; links = same.links; published = same.published }
counted_alike one other session (blocks_swapped document cuts) counted same = swapped_alike one other session document cuts (cuts_of cuts) refl same
counted_alike one other session (specs_copied document at specs) counted same =
    record { documents = same.documents; rows = ap (λ rows. rows_with rows document at (picked_addresses (record one { rows = rows }) specs)) same.rows; bytes = same.bytes; links = same.links; published = same.published }
counted_alike one other session (link_made home number place from to three) counted same =
    record { documents = same.documents; rows = ap (λ rows. rows ++ link_row home number place ∷ []) same.rows; bytes = same.bytes; links = λ i. same.links i ++ link_between (record one { rows = same.rows i }) home number from to three ∷ []; published = same.published }
counted_alike one other session (document_published document) counted same =
    record { documents = same.documents; rows = same.rows; bytes = same.bytes; links = same.links; published = ap (λ marked. marked ++ document ∷ []) same.published }

-- any other changes no contents
pub others_leave : (one other : World) (session : ℕ) (change : PlainChange) → is_durable change ≡ false → HasContentsOf one other → HasContentsOf one (change_world other session change)
others_leave one other session restarted counted same = record { documents = same.documents; rows = same.rows; bytes = same.bytes; links = same.links; published = same.published }
others_leave one other session began counted same = same
others_leave one other session ended counted same = record { documents = same.documents; rows = same.rows; bytes = same.bytes; links = same.links; published = same.published }
others_leave one other session (account_changed account) counted same = record { documents = same.documents; rows = same.rows; bytes = same.bytes; links = same.links; published = same.published }
others_leave one other session (document_opened document mode) counted same = record { documents = same.documents; rows = same.rows; bytes = same.bytes; links = same.links; published = same.published }
others_leave one other session (document_closed document) counted same = record { documents = same.documents; rows = same.rows; bytes = same.bytes; links = same.links; published = same.published }
others_leave one other session change counted same = absurd (true≢false counted)

contents_step : (one other : World) (entry : PlainEntry) (history : List PlainEntry) (counted : Bool) → is_durable entry.change ≡ counted → HasContentsOf one other
    → ((one other : World) → HasContentsOf one other → HasContentsOf (fold apply one (durable_entries history)) (fold apply other history))
    → HasContentsOf (fold apply one (durable_entries (entry ∷ history))) (fold apply other (entry ∷ history))
contents_step one other entry history true e same rest = rw e (rest (apply one entry) (apply other entry) (counted_alike one other entry.session entry.change e same))
contents_step one other entry history false e same rest = rw e (rest one (apply other entry) (others_leave one other entry.session entry.change e same))

contents_along : (history : List PlainEntry) (one other : World) → HasContentsOf one other → HasContentsOf (fold apply one (durable_entries history)) (fold apply other history)
contents_along [] one other same = same
contents_along (entry ∷ history) one other same = contents_step one other entry history (is_durable entry.change) refl same (contents_along history)

pub keeps_contents : KeepsContents
keeps_contents history = contents_along history empty_world empty_world (record { documents = refl; rows = refl; bytes = refl; links = refl; published = refl })

-- a filter keeps what it kept
filter_again_step : {X : Type 0} (p : X → Bool) (x : X) (xs : List X) (passes : Bool) → p x ≡ passes → filter p (filter p xs) ≡ filter p xs → filter p (filter p (x ∷ xs)) ≡ filter p (x ∷ xs)
filter_again_step p x xs true e rest = rw (e, e) (ap (λ ys. x ∷ ys) rest)
filter_again_step p x xs false e rest = rw e rest

filter_again : {X : Type 0} (p : X → Bool) (xs : List X) → filter p (filter p xs) ≡ filter p xs
filter_again p [] = refl
filter_again p (x ∷ xs) = filter_again_step p x xs (p x) refl (filter_again p xs)

pub kept_again : KeptAgain
kept_again history =
    let p : PlainEntry → Bool = λ e. is_durable e.change in
    filter-append p (durable_entries history) (restart_entry ∷ []) ∙ append-nil (filter p (durable_entries history)) ∙ filter_again p history
