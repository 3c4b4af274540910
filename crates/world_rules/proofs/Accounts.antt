-- A document's address begins with one account alone.
use Rattle.std.proofs.Common.{◌≡◌, ◌⊎◌, inl, inr, ◌↔◌, ℕ, ◌+◌, ◌∙◌, eqb, Bool, true, false, not, List, [], ◌∷◌, ◌++◌, length, take, drop, Option, Some, None, All, ap, sym, refl, subst, arith, append_assoc}
use Rattle.std.specs.Prelude.{filter, IfSome}
use Rattle.std.specs.List.{fold, find, list_any}
use Rattle.std.specs.Option.{option_map}
use Rattle.std.specs.Cmp.Lexicographic.{bytes_decides}
use Rattle.std.proofs.lemmas.Bool.{true≢false, or_left, or_right, or_cases}
use Rattle.std.proofs.lemmas.List.{take_at, take-append-drop, length-append}
use Rattle.std.proofs.lemmas.List.Elements.{All-nil, All-cons, All-head, All-tail, All-append, All-filter}
use Rattle.tumbler.specs.Address.{IsAccount, IsDocumentOf}
use Rattle.tumbler.proofs.Addresses.{one_cut}
use Rattle.febe_data.specs.Plain.{PlainEntry, PlainChange, restarted, began, ended, account_changed, document_opened, document_closed, document_created, version_made, copy_opened, text_inserted, span_deleted, blocks_swapped, specs_copied, link_made, document_published}
use Rattle.world_rules.specs.declared.rows.AccountRow.{AccountRow}
use Rattle.world_rules.specs.World.{World, empty_world, is_same, is_of_account, account_of_session}
use Rattle.world_rules.specs.Edits.{Cuts, cuts_of}
use Rattle.world_rules.specs.Apply.{apply, change_world, world_of, with_swapped}
use Rattle.world_rules.specs.Readable.{owns}
use Rattle.world_rules.specs.Placed.{IsKnownAccount, IsPlaced, AllPlaced}
use Rattle.world_rules.specs.Accounts.{OfItsAccount, SetsAccounts, OwnsByAccount}

-- ---- one account

-- two accounts that an address goes on from at a 0 are the same
one_account : (one other rest field : List ℕ) → IsAccount one → IsAccount other → one ++ 0 ∷ rest ≡ other ++ 0 ∷ field → one ≡ other
one_account one other rest field a b e =
    let nested : a.node ++ 0 ∷ (a.user ++ 0 ∷ rest) ≡ b.node ++ 0 ∷ (b.user ++ 0 ∷ field) =
    sym (append_assoc a.node (0 ∷ a.user) (0 ∷ rest)) ∙ ap (λ (x : List ℕ). x ++ 0 ∷ rest) (sym a.parts) ∙ e ∙ ap (λ (x : List ℕ). x ++ 0 ∷ field) b.parts ∙ append_assoc b.node (0 ∷ b.user) (0 ∷ field) in
    let nodes = one_cut a.node b.node (a.user ++ 0 ∷ rest) (b.user ++ 0 ∷ field) a.node_field.full b.node_field.full nested in
    let users = one_cut a.user b.user rest field a.user_field.full b.user_field.full nodes.1 in
    a.parts ∙ (λ i. nodes.0 i ++ 0 ∷ users.0 i) ∙ sym b.parts

to_owner : (account document owner : List ℕ) → IsAccount account → IsDocumentOf document owner → is_of_account account document ≡ true → account ≡ owner
to_owner account document owner is of e =
    let front : take (length account + 1) document ≡ account ++ 0 ∷ [] = (bytes_decides (take (length account + 1) document) (account ++ 0 ∷ [])).0 e in
    let rest : List ℕ = drop (length account + 1) document in
    let whole : account ++ 0 ∷ rest ≡ document =
    sym (append_assoc account (0 ∷ []) rest) ∙ ap (λ (x : List ℕ). x ++ rest) (sym front) ∙ take-append-drop (length account + 1) document in
    one_account account owner rest of.field is of.account_address (whole ∙ of.parts)

from_owner : (document owner : List ℕ) → IsDocumentOf document owner → is_of_account owner document ≡ true
from_owner document owner of =
    let whole : document ≡ (owner ++ 0 ∷ []) ++ of.field = of.parts ∙ sym (append_assoc owner (0 ∷ []) of.field) in
    (bytes_decides (take (length owner + 1) document) (owner ++ 0 ∷ [])).1
    (ap (take (length owner + 1)) whole ∙ take_at (owner ++ 0 ∷ []) of.field (length owner + 1) (omega (arith, length-append owner (0 ∷ []))))

pub of_its_account : OfItsAccount
of_its_account account document owner is of =
    (to_owner account document owner is of, λ (e : account ≡ owner). subst (λ (a : List ℕ). is_of_account a document ≡ true) (sym e) (from_owner document owner of))

-- ---- the accounts of sessions

abbrev pub HasAccount : AccountRow → Type 0
HasAccount row = IsAccount row.account

abbrev pub AllAccounts : World → Type 0
AllAccounts world = All HasAccount world.accounts

swapped_accounts : (world : World) (document : List ℕ) (cuts : Option Cuts) → AllAccounts world → AllAccounts (with_swapped world document cuts)
swapped_accounts world document (Some cuts) all = all
swapped_accounts world document None all = all

pub change_accounts : (world : World) (session : ℕ) (change : PlainChange) → IsPlaced world change → AllAccounts world → AllAccounts (change_world world session change)
change_accounts world session restarted placed all = All-nil HasAccount
change_accounts world session began placed all = all
change_accounts world session ended placed all = All-filter (λ (r : AccountRow). not (eqb r.session session)) HasAccount world.accounts all
change_accounts world session (account_changed account) placed all =
    All-append HasAccount (filter (λ (r : AccountRow). not (eqb r.session session)) world.accounts) (record { session = session; account = account } ∷ [])
    (All-filter (λ (r : AccountRow). not (eqb r.session session)) HasAccount world.accounts all)
    (All-cons HasAccount (record { session = session; account = account }) [] placed (All-nil HasAccount))
change_accounts world session (document_opened document mode) placed all = all
change_accounts world session (document_closed document) placed all = all
change_accounts world session (document_created document) placed all = all
change_accounts world session (version_made source document) placed all = all
change_accounts world session (copy_opened source document) placed all = all
change_accounts world session (text_inserted document at first text) placed all = all
change_accounts world session (span_deleted document span) placed all = all
change_accounts world session (blocks_swapped document cuts) placed all = swapped_accounts world document (cuts_of cuts) all
change_accounts world session (specs_copied document at specs) placed all = all
change_accounts world session (link_made home number place from to three) placed all = all
change_accounts world session (document_published document) placed all = all

pub accounts_along : (history : List PlainEntry) (world : World) → AllPlaced world history → AllAccounts world → AllAccounts (fold apply world history)
accounts_along [] world placed all = all
accounts_along (entry ∷ history) world placed all = accounts_along history (apply world entry) placed.1 (change_accounts world entry.session entry.change placed.0 all)

-- the account of the session's first row
abbrev pub account_in : ℕ → List AccountRow → Option (List ℕ)
account_in session rows = option_map (λ (r : AccountRow). r.account) (find (λ (r : AccountRow). eqb r.session session) rows)

found_step : (session : ℕ) (row : AccountRow) (rows : List AccountRow) (is : Bool) → eqb row.session session ≡ is → IsAccount row.account → IfSome (account_in session rows) IsAccount → IfSome (account_in session (row ∷ rows)) IsAccount
found_step session row rows true e here rest = rw e here
found_step session row rows false e here rest = rw e rest

found_account : (session : ℕ) (rows : List AccountRow) → All HasAccount rows → IfSome (account_in session rows) IsAccount
found_account session [] all = tt
found_account session (row ∷ rows) all =
    found_step session row rows (eqb row.session session) refl (All-head HasAccount row rows all) (found_account session rows (All-tail HasAccount row rows all))

pub sets_accounts : SetsAccounts
sets_accounts history placed session = found_account session (world_of history).accounts (accounts_along history empty_world placed (All-nil HasAccount))

-- what a session has set is one of the accounts
set_step : (session : ℕ) (row : AccountRow) (rows : List AccountRow) (account : List ℕ) (is : Bool) → eqb row.session session ≡ is → account_in session (row ∷ rows) ≡ Some account
    → (account_in session rows ≡ Some account → list_any (λ (r : AccountRow). is_same r.account account) rows ≡ true) → list_any (λ (r : AccountRow). is_same r.account account) (row ∷ rows) ≡ true
set_step session row rows account true e set rest =
    let found : Some row.account ≡ Some account = sym (rw e refl) ∙ set in
    or_left (is_same row.account account) (list_any (λ (r : AccountRow). is_same r.account account) rows) ((bytes_decides row.account account).1 (cc))
set_step session row rows account false e set rest =
    let later : account_in session rows ≡ Some account = sym (rw e refl) ∙ set in
    or_right (is_same row.account account) (list_any (λ (r : AccountRow). is_same r.account account) rows) (rest later)

pub set_account_is : (session : ℕ) (rows : List AccountRow) (account : List ℕ) → account_in session rows ≡ Some account → list_any (λ (r : AccountRow). is_same r.account account) rows ≡ true
set_account_is session [] account set = cc
set_account_is session (row ∷ rows) account set = set_step session row rows account (eqb row.session session) refl set (set_account_is session rows account)

one_of_step : (rows : List AccountRow) (row : AccountRow) (account : List ℕ) → HasAccount row → (list_any (λ (r : AccountRow). is_same r.account account) rows ≡ true → IsAccount account)
    → (is_same row.account account ≡ true) ⊎ (list_any (λ (r : AccountRow). is_same r.account account) rows ≡ true) → IsAccount account
one_of_step rows row account here rest (inl e) = subst IsAccount ((bytes_decides row.account account).0 e) here
one_of_step rows row account here rest (inr e) = rest e

one_of : (rows : List AccountRow) (account : List ℕ) → All HasAccount rows → list_any (λ (r : AccountRow). is_same r.account account) rows ≡ true → IsAccount account
one_of [] account all e = absurd (true≢false (sym e))
one_of (row ∷ rows) account all e =
    one_of_step rows row account (All-head HasAccount row rows all) (one_of rows account (All-tail HasAccount row rows all)) (or_cases (is_same row.account account) (list_any (λ (r : AccountRow). is_same r.account account) rows) e)

-- an account that a session has set is an account's address where all are
pub known_account : (world : World) (account : List ℕ) → AllAccounts world → IsKnownAccount world account → IsAccount account
known_account world account all (inl e) = one_of world.accounts account all e
known_account world account all (inr is) = is

-- ---- owning

owner_step : (world : World) (session : ℕ) (set : Option (List ℕ)) (document owner : List ℕ) → account_of_session world session ≡ set → IfSome set IsAccount → IsDocumentOf document owner
    → (owns world session document ≡ true) ↔ (account_of_session world session ≡ Some owner)
owner_step world session (Some account) document owner e is of =
    let same = of_its_account account document owner is of in
    rw e (λ (h : is_of_account account document ≡ true). ap (λ (a : List ℕ). Some a) (same.0 h), λ (h : Some account ≡ Some owner). same.1 (cc))
owner_step world session None document owner e is of = rw e (λ (h : false ≡ true). absurd (true≢false (sym h)), λ (h : None ≡ Some owner). cc)

pub owns_by_account : OwnsByAccount
owns_by_account history placed session document owner of =
    owner_step (world_of history) session (account_of_session (world_of history) session) document owner refl (sets_accounts history placed session) of
