-- What is kept of a placed history is placed.
use Rattle.std.proofs.Common.{◌≡◌, ℕ, ◌+◌, ◌≤◌, ◌∙◌, Bool, true, false, List, [], ◌∷◌, ◌++◌, ap, sym, refl, subst, inl, inr, ◌⊎◌}
use Rattle.std.specs.List.{fold}
use Rattle.std.proofs.lemmas.List.Elements.{All-nil}
use Rattle.febe_data.specs.Plain.{PlainEntry, PlainChange, restarted, began, ended, account_changed, document_opened, document_closed, document_created, version_made, copy_opened, text_inserted, span_deleted, blocks_swapped, specs_copied, link_made, document_published}
use Rattle.world_rules.specs.declared.rows.Row.{Row}
use Rattle.world_rules.specs.declared.rows.ByteRow.{ByteRow}
use Rattle.world_rules.specs.World.{World, LinkRow, empty_world, content_length_of, text_length, link_length, links_made_in, has_document, next_below}
use Rattle.world_rules.specs.Apply.{apply}
use Rattle.world_rules.specs.History.{durable_entries, is_durable, restart_entry}
use Rattle.world_rules.specs.Placed.{IsAccountFront, IsSource, IsNext, IsPlaced, AllPlaced}
use Rattle.world_rules.specs.Laws.{HasContentsOf, RecoveredIsPlaced}
use Rattle.world_rules.proofs.Accounts.{HasAccount, AllAccounts, change_accounts, known_account}
use Rattle.world_rules.proofs.Kept.{counted_alike, others_leave}

-- ---- the same contents

module _ (one other : World) (same : HasContentsOf one other) (accounts : AllAccounts other) where
  same_length : (document : List ℕ) → text_length one document ≡ text_length other document
  same_length document = ap (λ (rows : List Row). text_length (record one { rows = rows }) document) same.rows

  same_links : (document : List ℕ) → link_length one document ≡ link_length other document
  same_links document = ap (λ (rows : List Row). link_length (record one { rows = rows }) document) same.rows

  same_there : (document : List ℕ) → has_document other document ≡ true → has_document one document ≡ true
  same_there document there = ap (λ (documents : List (List ℕ)). has_document (record one { documents = documents }) document) same.documents ∙ there

  within : (at : ℕ) (document : List ℕ) → at ≤ text_length other document + 1 → at ≤ text_length one document + 1
  within at document le = subst (λ (n : ℕ). at ≤ n + 1) (sym (same_length document)) le

  front_too : (front : List ℕ) → IsAccountFront other front ⊎ IsSource other front → IsAccountFront one front ⊎ IsSource one front
  front_too front (inl of) = inl (record { account = of.account; parts = of.parts; known = inr (known_account other of.account accounts of.known) })
  front_too front (inr source) = inr (record { there = same_there front source.there; room = source.room })

  next_too : (document : List ℕ) → IsNext other document → IsNext one document
  next_too document next = record { front = next.front; is_front = front_too next.front next.is_front; is_next = next.is_next ∙ ap (λ (documents : List (List ℕ)). next_below documents next.front) (sym same.documents) }

  -- a change is placed in both
  placed_too : (change : PlainChange) → IsPlaced other change → IsPlaced one change
  placed_too restarted placed = tt
  placed_too began placed = tt
  placed_too ended placed = tt
  placed_too (account_changed account) placed = placed
  placed_too (document_opened document mode) placed = tt
  placed_too (document_closed document) placed = tt
  placed_too (document_created document) placed = next_too document placed
  placed_too (version_made source document) placed = next_too document placed
  placed_too (copy_opened source document) placed = next_too document placed
  placed_too (text_inserted document at first text) placed = record {
    there = same_there document placed.there;
    from_one = placed.from_one;
    to_end = within at document placed.to_end;
    is_next = placed.is_next ∙ ap (λ (bytes : List ByteRow). content_length_of bytes document + 1) (sym same.bytes);
  }
  placed_too (span_deleted document span) placed = tt
  placed_too (blocks_swapped document cuts) placed = record { bounds = placed.bounds; are_cuts = placed.are_cuts; from_one = placed.from_one; to_end = within placed.bounds.fourth document placed.to_end }
  placed_too (specs_copied document at specs) placed = record { there = same_there document placed.there; from_one = placed.from_one; to_end = within at document placed.to_end }
  placed_too (link_made home number place from to three) placed = record {
    there = same_there home placed.there;
    is_next = placed.is_next ∙ ap (λ (links : List LinkRow). links_made_in (record one { links = links }) home + 1) (sym same.links);
    at_end = placed.at_end ∙ ap (λ (n : ℕ). n + 1) (sym (same_links home));
  }
  placed_too (document_published document) placed = same_there document placed

-- ---- along a history

kept_step : (one other : World) (entry : PlainEntry) (history : List PlainEntry) (counted : Bool) → is_durable entry.change ≡ counted → HasContentsOf one other → AllAccounts other → IsPlaced other entry.change
    → ((one : World) → HasContentsOf one (apply other entry) → AllPlaced one (durable_entries history)) → AllPlaced one (durable_entries (entry ∷ history))
kept_step one other entry history true e same accounts placed rest =
    rw e (placed_too one other same accounts entry.change placed, rest (apply one entry) (counted_alike one other entry.session entry.change e same))
kept_step one other entry history false e same accounts placed rest = rw e (rest one (others_leave one other entry.session entry.change e same))

kept_placed : (history : List PlainEntry) (one other : World) → HasContentsOf one other → AllAccounts other → AllPlaced other history → AllPlaced one (durable_entries history)
kept_placed [] one other same accounts placed = tt
kept_placed (entry ∷ history) one other same accounts placed =
    kept_step one other entry history (is_durable entry.change) refl same accounts placed.0
    (λ next alike. kept_placed history next (apply other entry) alike (change_accounts other entry.session entry.change placed.0 accounts) placed.1)

placed_push : (history : List PlainEntry) (world : World) (entry : PlainEntry) → AllPlaced world history → IsPlaced (fold apply world history) entry.change → AllPlaced world (history ++ entry ∷ [])
placed_push [] world entry placed last = (last, tt)
placed_push (first ∷ history) world entry placed last = (placed.0, placed_push history (apply world first) entry placed.1 last)

pub recovered_is_placed : RecoveredIsPlaced
recovered_is_placed history placed =
    placed_push (durable_entries history) empty_world restart_entry (kept_placed history empty_world empty_world (record { documents = refl; rows = refl; bytes = refl; links = refl; published = refl }) (All-nil HasAccount) placed) tt
