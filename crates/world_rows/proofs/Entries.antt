-- What an entry makes of a turned view is a turned one of what it makes of the view.
use Rattle.std.proofs.Common.{◌≡◌, ℕ, ◌∙◌, ◌&&◌, Bool, true, false, List, [], ◌∷◌, ◌++◌, Option, Some, None, Result, Ok, Err, OnOk, OnErr, cond, refl, sym, ap, subst, IsPermutation}
use Rattle.std.specs.List.{find}
use Rattle.std.proofs.lemmas.List.Sorted.{IsPermutation-append_left}
use Rattle.febe_data.specs.Plain.{PlainChange, PlainEntry, restarted, began, ended, account_changed, document_opened, document_closed, document_created, version_made, copy_opened, text_inserted, span_deleted, blocks_swapped, specs_copied, link_made, document_published}
use Rattle.world_rules.specs.declared.cuts.Cuts.{Cuts}
use Rattle.world_rules.specs.World.{World, LinkRow, is_same}
use Rattle.world_rules.specs.Edits.{cuts_of}
use Rattle.world_rules.specs.Apply.{change_world, with_swapped, link_between}
use Rattle.world_rules.specs.FlatView.{FlatView, after_entry}
use Rattle.world_rows.specs.Turned.{IsTurned, with_lists, first_read}
use Rattle.world_rows.proofs.Turns.{turned_has}

-- the documents and the links after a change
abbrev documents_after : List (List ℕ) → PlainChange → List (List ℕ)
documents_after documents (document_created document) = documents ++ document ∷ []
documents_after documents (version_made source document) = documents ++ document ∷ []
documents_after documents (copy_opened source document) = documents ++ document ∷ []
documents_after documents other = documents

abbrev links_after : World → List LinkRow → PlainChange → List LinkRow
links_after world links (link_made home number place from to three) = links ++ link_between world home number from to three ∷ []
links_after world links other = links

swapped_lists : (world : World) (documents : List (List ℕ)) (links : List LinkRow) (document : List ℕ) (cuts : Option Cuts) → with_swapped (with_lists world documents links) document cuts ≡ with_lists (with_swapped world document cuts) documents links
swapped_lists world documents links document (Some cuts) = refl
swapped_lists world documents links document None = refl

-- a change does to these what it does to the world's own
changed_lists : (world : World) (documents : List (List ℕ)) (links : List LinkRow) (session : ℕ) (change : PlainChange)
    → change_world (with_lists world documents links) session change ≡ with_lists (change_world world session change) (documents_after documents change) (links_after world links change)
changed_lists world documents links session restarted = refl
changed_lists world documents links session began = refl
changed_lists world documents links session ended = refl
changed_lists world documents links session (account_changed account) = refl
changed_lists world documents links session (document_opened document mode) = refl
changed_lists world documents links session (document_closed document) = refl
changed_lists world documents links session (document_created document) = refl
changed_lists world documents links session (version_made source document) = refl
changed_lists world documents links session (copy_opened source document) = refl
changed_lists world documents links session (text_inserted document at first text) = refl
changed_lists world documents links session (span_deleted document span) = refl
changed_lists world documents links session (blocks_swapped document cuts) = swapped_lists world documents links document (cuts_of cuts)
changed_lists world documents links session (specs_copied document at specs) = refl
changed_lists world documents links session (link_made home number place from to three) = refl
changed_lists world documents links session (document_published document) = refl

documents_moved : (documents others : List (List ℕ)) (change : PlainChange) → IsPermutation documents others → IsPermutation (documents_after documents change) (documents_after others change)
documents_moved documents others restarted moved = moved
documents_moved documents others began moved = moved
documents_moved documents others ended moved = moved
documents_moved documents others (account_changed account) moved = moved
documents_moved documents others (document_opened document mode) moved = moved
documents_moved documents others (document_closed document) moved = moved
documents_moved documents others (document_created document) moved = IsPermutation-append_left (document ∷ []) documents others moved
documents_moved documents others (version_made source document) moved = IsPermutation-append_left (document ∷ []) documents others moved
documents_moved documents others (copy_opened source document) moved = IsPermutation-append_left (document ∷ []) documents others moved
documents_moved documents others (text_inserted document at first text) moved = moved
documents_moved documents others (span_deleted document span) moved = moved
documents_moved documents others (blocks_swapped document cuts) moved = moved
documents_moved documents others (specs_copied document at specs) moved = moved
documents_moved documents others (link_made home number place from to three) moved = moved
documents_moved documents others (document_published document) moved = moved

-- ---- links

-- the links are the same in another order, and the first of an id is the same, whichever homes are read
record AreMoved (links others : List LinkRow) : Type 0 where
  pub moved : IsPermutation links others
  pub by_id : (reads : List ℕ → Bool) (id : List ℕ) → first_read links reads id ≡ first_read others reads id

abbrev or_else : {X : Type 0} → Option X → Option X → Option X
or_else (Some x) other = Some x
or_else None other = other

find_push : {X : Type 0} (p : X → Bool) (xs : List X) (x : X) → find p (xs ++ x ∷ []) ≡ or_else (find p xs) (cond (p x) (Some x) None)
find_push p [] x = refl
find_push p (y ∷ xs) x = by_test (p y) (find_push p xs x)
  where
    by_test : (b : Bool) → find p (xs ++ x ∷ []) ≡ or_else (find p xs) (cond (p x) (Some x) None)
        → cond b (Some y) (find p (xs ++ x ∷ [])) ≡ or_else (cond b (Some y) (find p xs)) (cond (p x) (Some x) None)
    by_test true rest = refl
    by_test false rest = rest

one_more : (links others : List LinkRow) (link : LinkRow) → AreMoved links others → AreMoved (links ++ link ∷ []) (others ++ link ∷ [])
one_more links others link are = record {
  moved = IsPermutation-append_left (link ∷ []) links others are.moved;
  by_id = λ reads id.
      let p = (λ (l : LinkRow). reads l.home && is_same l.id id) in
      find_push p links link ∙ ap (λ (found : Option LinkRow). or_else found (cond (p link) (Some link) None)) (are.by_id reads id) ∙ sym (find_push p others link);
}

links_moved : (world : World) (links others : List LinkRow) (change : PlainChange) → AreMoved links others → AreMoved (links_after world links change) (links_after world others change)
links_moved world links others restarted are = are
links_moved world links others began are = are
links_moved world links others ended are = are
links_moved world links others (account_changed account) are = are
links_moved world links others (document_opened document mode) are = are
links_moved world links others (document_closed document) are = are
links_moved world links others (document_created document) are = are
links_moved world links others (version_made source document) are = are
links_moved world links others (copy_opened source document) are = are
links_moved world links others (text_inserted document at first text) are = are
links_moved world links others (span_deleted document span) are = are
links_moved world links others (blocks_swapped document cuts) are = are
links_moved world links others (specs_copied document at specs) are = are
links_moved world links others (link_made home number place from to three) are = one_more links others (link_between world home number from to three) are
links_moved world links others (document_published document) are = are

-- ---- entries

-- a world with its own lists, and one with others, after the same change
changed_turned : (view : FlatView) (entry : PlainEntry) (documents : List (List ℕ)) (links : List LinkRow) → IsPermutation view.world.documents documents → AreMoved view.world.links links
    → IsTurned (after_entry view entry) (after_entry (record view { world = with_lists view.world documents links }) entry)
changed_turned view entry documents links moved are =
    let world = view.world in
    let own = changed_lists world world.documents world.links entry.session entry.change in
    let others = changed_lists world documents links entry.session entry.change in
    let after = change_world world entry.session entry.change in
    let those = change_world (with_lists world documents links) entry.session entry.change in
    let own_documents : documents_after world.documents entry.change ≡ after.documents = sym (ap (λ (w : World). w.documents) own) in
    let own_links : links_after world world.links entry.change ≡ after.links = sym (ap (λ (w : World). w.links) own) in
    let their_documents : documents_after documents entry.change ≡ those.documents = sym (ap (λ (w : World). w.documents) others) in
    let their_links : links_after world links entry.change ≡ those.links = sym (ap (λ (w : World). w.links) others) in
    let placed : IsPermutation after.documents those.documents =
    subst (λ ds. IsPermutation ds those.documents) own_documents (subst (λ ds. IsPermutation (documents_after world.documents entry.change) ds) their_documents (documents_moved world.documents documents entry.change moved)) in
    let linked : AreMoved after.links those.links =
    subst (λ ls. AreMoved ls those.links) own_links (subst (λ ls. AreMoved (links_after world world.links entry.change) ls) their_links (links_moved world world.links links entry.change are)) in
    record {
      documents = placed;
      links = linked.moved;
      by_id = linked.by_id;
      rest = ap (λ (w : World). record (after_entry view entry) { world = w })
          (others ∙ ap (λ (w : World). with_lists after w.documents w.links) (sym others));
    }

pub entry_turns : (view other : FlatView) (entry : PlainEntry) → IsTurned view other → IsTurned (after_entry view entry) (after_entry other entry)
entry_turns view other entry turned =
    turned_has (λ v. IsTurned (after_entry view entry) (after_entry v entry)) view other turned
    (changed_turned view entry other.world.documents other.world.links turned.documents record { moved = turned.links; by_id = turned.by_id })

-- ---- answers

pub on_ok : {T E : Type 0} (r : Result T E) (A B : Type 0) → OnOk r A → (A → B) → OnOk r B
on_ok (Ok x) A B a f = f a
on_ok (Err e) A B a f = tt

pub on_err : {T E : Type 0} (r : Result T E) (A B : Type 0) → OnErr r A → (A → B) → OnErr r B
on_err (Ok x) A B a f = tt
on_err (Err e) A B a f = f a
