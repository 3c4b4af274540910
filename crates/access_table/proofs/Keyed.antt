-- The two orders of keys, and what the tests of rows see of them.
use Rattle.std.proofs.Common.{◌≡◌, ◌∙◌, ℕ, true, not, List, map, Equal, refl, ap, nat_cmp}
use Rattle.std.proofs.lemmas.Iterator.Adapters.{option_map_id}
use Rattle.std.proofs.lemmas.Map.Lookups.{exact_unsigned, exact_bytes, exact_pairs}
use Rattle.std.specs.Cmp.{IsTotalOrder, nat_cmp_total, nat_eq_equiv, then_total, on_total, both_tied, unsigned_ties}
use Rattle.std.specs.Cmp.Lexicographic.{slice_cmp, nat_list_cmp_total, nat_list_eq_equiv, texts_ties}
use Rattle.std.specs.Prelude.{◌==◌}
use Rattle.std.specs.Ordering.{is_eq}
use Rattle.std.specs.Map.{remove_entry}
use Rattle.std.specs.BTreeMap as tree
use Rattle.std.specs.BTreeMap.{BTreeMap, insert_entry, is_at}
use Rattle.std.specs.BTreeSet.{insert_key}
use Rattle.febe_data.specs.declared.access.Mode.{Mode}
use Rattle.world_rules.specs.declared.rows.OpenRow.{OpenRow}
use Rattle.world_rules.specs.declared.rows.AccountRow.{AccountRow}
use Rattle.world_rules.specs.World.{is_same, opens}
use Rattle.world_rules.specs.Apply.{accounts_without, without_opening}
use Rattle.access_table.specs.AccessRows.{mode_in, account_in, row_cmp, account_cmp}
use Rattle.access_table.specs.inside.Keys.{opening_cmp, open_row, open_rows, account_row, account_rows}
use Rattle.access_table.proofs.Entries.{looked_up, removed, inserted}

-- ---- the orders

pub opening_total : IsTotalOrder opening_cmp
opening_total = then_total (on_total (λ (t : ℕ × List ℕ). t.0) nat_cmp_total) (on_total (λ (t : ℕ × List ℕ). t.1) nat_list_cmp_total)

pub opening_exact : (x y : ℕ × List ℕ) → opening_cmp x y ≡ Equal → x ≡ y
opening_exact = exact_pairs nat_cmp (slice_cmp nat_cmp) exact_unsigned exact_bytes

-- ---- tests

number_seen : (session other : ℕ) → (other == session) ≡ is_eq (nat_cmp session other)
number_seen session other = nat_eq_equiv.symm other session ∙ unsigned_ties session other

document_seen : (document other : List ℕ) → is_same other document ≡ is_eq (slice_cmp nat_cmp document other)
document_seen document other = nat_list_eq_equiv.symm other document ∙ texts_ties document other

pub document_alike : (document : List ℕ) → is_same document document ≡ true
document_alike document = nat_list_eq_equiv.refl document

pub opens_seen : (session : ℕ) (document : List ℕ) (e : (ℕ × List ℕ) × Mode) → opens session document (open_row e) ≡ is_at (opening_cmp (session, document)) e.0
opens_seen session document e = both_tied _ _ _ _ (number_seen session e.0.0) (document_seen document e.0.1)

-- ---- accounts

pub account_looked_up : (session : ℕ) (m : BTreeMap ℕ (List ℕ)) → account_in (account_rows m) session ≡ tree.get nat_cmp m session
account_looked_up session m =
    looked_up account_row (λ r. r.account) (λ a. a) (λ e. refl) (is_at (nat_cmp session)) (λ r. r.session == session) (λ e. number_seen session e.0) m.entries ∙ option_map_id _

pub account_removed : (session : ℕ) (m n : BTreeMap ℕ (List ℕ)) → tree.IsOrdered nat_cmp m → n.entries ≡ remove_entry (is_at (nat_cmp session)) m.entries
    → account_rows n ≡ accounts_without session (account_rows m)
account_removed session m n s is =
    ap (map account_row) is ∙ removed account_row nat_cmp nat_cmp_total session (λ (r : AccountRow). not (r.session == session)) (λ e. ap not (number_seen session e.0)) m.entries s

pub account_inserted : (session : ℕ) (account : List ℕ) (m n : BTreeMap ℕ (List ℕ)) → tree.IsOrdered nat_cmp m → n.entries ≡ insert_entry nat_cmp m.entries session account
    → account_rows n ≡ insert_key account_cmp (accounts_without session (account_rows m)) (record { session = session; account = account })
account_inserted session account m n s is =
    ap (map account_row) is
    ∙ inserted account_row nat_cmp nat_cmp_total session (λ (r : AccountRow). not (r.session == session)) (λ e. ap not (number_seen session e.0)) exact_unsigned account_cmp (λ e f. refl) account m.entries s

-- ---- open rows

pub opening_looked_up : (session : ℕ) (document : List ℕ) (m : BTreeMap (ℕ × List ℕ) Mode) → mode_in (open_rows m) session document ≡ tree.get opening_cmp m (session, document)
opening_looked_up session document m =
    looked_up open_row (λ r. r.mode) (λ a. a) (λ e. refl) (is_at (opening_cmp (session, document))) (opens session document) (opens_seen session document) m.entries ∙ option_map_id _

pub opening_removed : (session : ℕ) (document : List ℕ) (m n : BTreeMap (ℕ × List ℕ) Mode) → tree.IsOrdered opening_cmp m → n.entries ≡ remove_entry (is_at (opening_cmp (session, document))) m.entries
    → open_rows n ≡ without_opening session document (open_rows m)
opening_removed session document m n s is =
    ap (map open_row) is
    ∙ removed open_row opening_cmp opening_total (session, document) (λ (r : OpenRow). not (opens session document r)) (λ e. ap not (opens_seen session document e)) m.entries s

pub opening_inserted : (session : ℕ) (document : List ℕ) (mode : Mode) (m n : BTreeMap (ℕ × List ℕ) Mode) → tree.IsOrdered opening_cmp m
    → n.entries ≡ insert_entry opening_cmp m.entries (session, document) mode
    → open_rows n ≡ insert_key row_cmp (without_opening session document (open_rows m)) (record { session = session; document = document; mode = mode })
opening_inserted session document mode m n s is =
    ap (map open_row) is
    ∙ inserted open_row opening_cmp opening_total (session, document) (λ (r : OpenRow). not (opens session document r)) (λ e. ap not (opens_seen session document e)) opening_exact row_cmp
    (λ e f. refl) mode m.entries s

pub ruleset by_key = (account_looked_up, account_removed, account_inserted, opening_looked_up, opening_removed, opening_inserted)
