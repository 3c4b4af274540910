-- Who has what open, and for which account, after a change of the table and of the world.
use Rattle.std.proofs.Common.{◌≡◌, ◌∙◌, ℕ, ◌&&◌, Bool, true, false, not, List, [], ◌∷◌, ◌++◌, Option, Some, None, Ordering, Less, Equal, Greater, cond, refl, sym, ap, subst, true≢false}
use Rattle.std.specs.Prelude.{◌==◌, All}
use Rattle.std.specs.List.{find, filter, list_any}
use Rattle.std.specs.Option.{option_map}
use Rattle.std.specs.Ordering.{nat_cmp, ordering_then, is_eq}
use Rattle.std.specs.BTreeSet.{insert_key}
use Rattle.std.specs.Cmp.Lexicographic.{slice_cmp}
use Rattle.std.proofs.lemmas.Map.Lookups.{exact_unsigned, exact_bytes}
use Rattle.std.proofs.lemmas.List.Elements.{All-cons, All-nil}
use Rattle.febe_data.specs.declared.access.Mode.{Mode}
use Rattle.febe_data.specs.declared.access.Mode.TheVariants.{Write}
use Rattle.world_rules.specs.declared.rows.OpenRow.{OpenRow}
use Rattle.world_rules.specs.declared.rows.AccountRow.{AccountRow}
use Rattle.world_rules.specs.World.{World, is_same, opens}
use Rattle.world_rules.specs.Apply.{without_session, accounts_without, without_opening}
use Rattle.access_table.specs.AccessRows.{mode_in, account_in, row_cmp, account_cmp}
use Rattle.tree_world.specs.Trees.{Trees}
use Rattle.tree_world.specs.Standing.{EachOpenedOnce, SessionsStand}
use Rattle.tree_world.proofs.Once.{each_filtered, each_last}
use Rattle.tree_world.proofs.Options.{none_there, one_value}
use Rattle.tree_world.proofs.Found.{both, either_none, false_when, number_alike, number_is, address_alike, address_is, find_gone, find_kept, find_last_own, find_last_other, find_in_own, find_in_other}

abbrev mode_found : Option OpenRow → Option Mode
mode_found found = option_map (λ (r : OpenRow). r.mode) found

abbrev account_found : Option AccountRow → Option (List ℕ)
account_found found = option_map (λ (r : AccountRow). r.account) found

-- ---- tests

pub opened_is : (session : ℕ) (document : List ℕ) (row : OpenRow) → opens session document row ≡ true → (row.session ≡ session) × (row.document ≡ document)
opened_is session document row e =
    let parts = both (row.session == session) (is_same row.document document) e in
    (number_is row.session session parts.0, address_is row.document document parts.1)

pub opens_own : (row : OpenRow) → opens row.session row.document row ≡ true
opens_own row = rw (number_alike row.session) (address_alike row.document)

opens_back : (r row : OpenRow) → opens row.session row.document r ≡ true → opens r.session r.document row ≡ true
opens_back r row e =
    let is = opened_is row.session row.document r e in
    rw (is.0, is.1) (opens_own row)

-- ---- a session's rows go

ended_mode : (session : ℕ) (rows : List OpenRow) (s : ℕ) (d : List ℕ) → mode_in (without_session session rows) s d ≡ cond (s == session) None (mode_in rows s d)
ended_mode session rows s d = step (s == session) refl
  where
    gone : (s == session) ≡ true → (r : OpenRow) → opens s d r ≡ true → not (r.session == session) ≡ false
    gone e r passes = ap not (ap (λ n. n == session) (opened_is s d r passes).0 ∙ e)

    stays : (s == session) ≡ false → (r : OpenRow) → opens s d r ≡ true → not (r.session == session) ≡ true
    stays e r passes = ap not (ap (λ n. n == session) (opened_is s d r passes).0 ∙ e)

    step : (b : Bool) → (s == session) ≡ b → mode_in (without_session session rows) s d ≡ cond b None (mode_in rows s d)
    step true e = ap mode_found (find_gone (opens s d) (λ (r : OpenRow). not (r.session == session)) (gone e) rows)
    step false e = ap mode_found (find_kept (opens s d) (λ (r : OpenRow). not (r.session == session)) (stays e) rows)

ended_account : (session : ℕ) (rows : List AccountRow) (s : ℕ) → account_in (accounts_without session rows) s ≡ cond (s == session) None (account_in rows s)
ended_account session rows s = step (s == session) refl
  where
    step : (b : Bool) → (s == session) ≡ b → account_in (accounts_without session rows) s ≡ cond b None (account_in rows s)
    step true e = ap account_found (find_gone (λ (r : AccountRow). r.session == s) (λ (r : AccountRow). not (r.session == session)) (λ r passes. ap not (ap (λ n. n == session) (number_is r.session s passes) ∙ e)) rows)
    step false e = ap account_found (find_kept (λ (r : AccountRow). r.session == s) (λ (r : AccountRow). not (r.session == session)) (λ r passes. ap not (ap (λ n. n == session) (number_is r.session s passes) ∙ e)) rows)

-- ---- one row goes

abbrev is_pair : ℕ → List ℕ → ℕ → List ℕ → Bool
is_pair session document s d = (s == session) && is_same d document

closed_mode : (session : ℕ) (document : List ℕ) (rows : List OpenRow) (s : ℕ) (d : List ℕ) → mode_in (without_opening session document rows) s d ≡ cond (is_pair session document s d) None (mode_in rows s d)
closed_mode session document rows s d = step (is_pair session document s d) refl
  where
    seen : (b : Bool) → is_pair session document s d ≡ b → (r : OpenRow) → opens s d r ≡ true → not (opens session document r) ≡ not b
    seen b e r passes =
        let is = opened_is s d r passes in
        ap not ((λ i. (is.0 i == session) && is_same (is.1 i) document) ∙ e)

    step : (b : Bool) → is_pair session document s d ≡ b → mode_in (without_opening session document rows) s d ≡ cond b None (mode_in rows s d)
    step true e = ap mode_found (find_gone (opens s d) (λ (r : OpenRow). not (opens session document r)) (seen true e) rows)
    step false e = ap mode_found (find_kept (opens s d) (λ (r : OpenRow). not (opens session document r)) (seen false e) rows)

-- ---- one row comes in where there was none of it

mode_none : (rows : List OpenRow) (session : ℕ) (document : List ℕ) → mode_in rows session document ≡ None → find (opens session document) rows ≡ None
mode_none rows session document none = step (find (opens session document) rows) none
  where
    step : (found : Option OpenRow) → mode_found found ≡ None → found ≡ None
    step None h = refl
    step (Some row) h = absurd (none_there row.mode h)

account_none : (rows : List AccountRow) (session : ℕ) → account_in rows session ≡ None → find (λ (r : AccountRow). r.session == session) rows ≡ None
account_none rows session none = step (find (λ (r : AccountRow). r.session == session) rows) none
  where
    step : (found : Option AccountRow) → account_found found ≡ None → found ≡ None
    step None h = refl
    step (Some row) h = absurd (none_there row.account h)

module _ (session : ℕ) (document : List ℕ) (mode : Mode) where
  abbrev pub fresh : OpenRow
  fresh = record { session = session; document = document; mode = mode }

  fresh_seen : (s : ℕ) (d : List ℕ) (b : Bool) → is_pair session document s d ≡ b → opens s d fresh ≡ b
  fresh_seen s d true e =
      let parts = both (s == session) (is_same d document) e in
      subst (λ n. opens n d fresh ≡ true) (sym (number_is s session parts.0)) (subst (λ a. opens session a fresh ≡ true) (sym (address_is d document parts.1)) (opens_own fresh))
  fresh_seen s d false e = false_when (opens s d fresh) (λ passes.
      let is = opened_is s d fresh passes in
      true≢false (sym (subst (λ n. (n == session) && is_same d document ≡ true) is.0 (subst (λ a. (session == session) && is_same a document ≡ true) is.1 (opens_own fresh))) ∙ e))

  pair_none : (rows : List OpenRow) (s : ℕ) (d : List ℕ) → is_pair session document s d ≡ true → mode_in rows session document ≡ None → find (opens s d) rows ≡ None
  pair_none rows s d e none =
      let parts = both (s == session) (is_same d document) e in
      subst (λ n. find (opens n d) rows ≡ None) (sym (number_is s session parts.0)) (subst (λ a. find (opens session a) rows ≡ None) (sym (address_is d document parts.1)) (mode_none rows session document none))

  -- at the end
  last_mode : (rows : List OpenRow) → mode_in rows session document ≡ None → (s : ℕ) (d : List ℕ) → mode_in (rows ++ fresh ∷ []) s d ≡ cond (is_pair session document s d) (Some mode) (mode_in rows s d)
  last_mode rows none s d = step (is_pair session document s d) refl
    where
      step : (b : Bool) → is_pair session document s d ≡ b → mode_in (rows ++ fresh ∷ []) s d ≡ cond b (Some mode) (mode_in rows s d)
      step true e = ap mode_found (find_last_own (opens s d) rows fresh (pair_none rows s d e none) (fresh_seen s d true e))
      step false e = ap mode_found (find_last_other (opens s d) rows fresh (fresh_seen s d false e))

  -- at its place
  apart : (row : OpenRow) → opens session document row ≡ false → row_cmp fresh row ≡ Equal → ⊥
  apart row e same = step (nat_cmp session row.session) refl same
    where
      here : row.session ≡ session → row.document ≡ document → ⊥
      here own is = true≢false (sym (subst (λ n. opens n document row ≡ true) own (subst (λ a. opens row.session a row ≡ true) is (opens_own row))) ∙ e)

      step : (r : Ordering) → nat_cmp session row.session ≡ r → ordering_then r (slice_cmp nat_cmp document row.document) ≡ Equal → ⊥
      step Less is h = true≢false (sym (ap is_eq h))
      step Greater is h = true≢false (sym (ap is_eq h))
      step Equal is h = here (sym (exact_unsigned session row.session is)) (sym (exact_bytes document row.document h))

  pub all_apart : (rows : List OpenRow) → find (opens session document) rows ≡ None → All (λ row. row_cmp fresh row ≡ Equal → ⊥) rows
  all_apart [] none = All-nil (λ row. row_cmp fresh row ≡ Equal → ⊥)
  all_apart (row ∷ rows) none = step (opens session document row) refl none (all_apart rows)
    where
      step : (b : Bool) → opens session document row ≡ b → cond b (Some row) (find (opens session document) rows) ≡ None → (find (opens session document) rows ≡ None → All (λ row. row_cmp fresh row ≡ Equal → ⊥) rows)
          → All (λ row. row_cmp fresh row ≡ Equal → ⊥) (row ∷ rows)
      step true e h rest = absurd (none_there row h)
      step false e h rest = All-cons (λ row. row_cmp fresh row ≡ Equal → ⊥) row rows (apart row e) (rest h)

  in_mode : (rows : List OpenRow) → mode_in rows session document ≡ None → (s : ℕ) (d : List ℕ) → mode_in (insert_key row_cmp rows fresh) s d ≡ cond (is_pair session document s d) (Some mode) (mode_in rows s d)
  in_mode rows none s d = step (is_pair session document s d) refl
    where
      step : (b : Bool) → is_pair session document s d ≡ b → mode_in (insert_key row_cmp rows fresh) s d ≡ cond b (Some mode) (mode_in rows s d)
      step true e = ap mode_found (find_in_own (opens s d) row_cmp fresh rows (all_apart rows (mode_none rows session document none)) (pair_none rows s d e none) (fresh_seen s d true e))
      step false e = ap mode_found (find_in_other (opens s d) row_cmp fresh rows (fresh_seen s d false e))

-- ---- accounts

module _ (session : ℕ) (account : List ℕ) where
  abbrev its_account : AccountRow
  its_account = record { session = session; account = account }

  own_seen : (s : ℕ) (b : Bool) → (s == session) ≡ b → (session == s) ≡ b
  own_seen s true e = rw (number_is s session e) (number_alike session)
  own_seen s false e = false_when (session == s) (λ passes. true≢false (sym (number_alike session) ∙ ap (λ n. n == session) (number_is session s passes) ∙ e))

  own_none : (rows : List AccountRow) (s : ℕ) → (s == session) ≡ true → find (λ (r : AccountRow). r.session == s) (accounts_without session rows) ≡ None
  own_none rows s e = account_none (accounts_without session rows) s (ended_account session rows s ∙ ap (λ b. cond b None (account_in rows s)) e)

  other_account : (rows : List AccountRow) (s : ℕ) → (s == session) ≡ false → account_in (accounts_without session rows) s ≡ account_in rows s
  other_account rows s e = ended_account session rows s ∙ ap (λ b. cond b None (account_in rows s)) e

  last_account : (rows : List AccountRow) (s : ℕ) → account_in (accounts_without session rows ++ its_account ∷ []) s ≡ cond (s == session) (Some account) (account_in rows s)
  last_account rows s = step (s == session) refl
    where
      step : (b : Bool) → (s == session) ≡ b → account_in (accounts_without session rows ++ its_account ∷ []) s ≡ cond b (Some account) (account_in rows s)
      step true e = ap account_found (find_last_own (λ (r : AccountRow). r.session == s) (accounts_without session rows) its_account (own_none rows s e) (own_seen s true e))
      step false e = ap account_found (find_last_other (λ (r : AccountRow). r.session == s) (accounts_without session rows) its_account (own_seen s false e)) ∙ other_account rows s e

  account_apart : (row : AccountRow) → not (row.session == session) ≡ true → account_cmp its_account row ≡ Equal → ⊥
  account_apart row e same = true≢false (sym e ∙ ap (λ n. not (n == session)) (sym (exact_unsigned session row.session same)) ∙ ap not (number_alike session))

  accounts_apart : (rows : List AccountRow) → All (λ row. account_cmp its_account row ≡ Equal → ⊥) (accounts_without session rows)
  accounts_apart [] = All-nil (λ row. account_cmp its_account row ≡ Equal → ⊥)
  accounts_apart (row ∷ rows) = step (not (row.session == session)) refl (accounts_apart rows)
    where
      step : (b : Bool) → not (row.session == session) ≡ b → All (λ row. account_cmp its_account row ≡ Equal → ⊥) (accounts_without session rows)
          → All (λ row. account_cmp its_account row ≡ Equal → ⊥) (cond b (row ∷ accounts_without session rows) (accounts_without session rows))
      step true e rest = All-cons (λ row. account_cmp its_account row ≡ Equal → ⊥) row (accounts_without session rows) (account_apart row e) rest
      step false e rest = rest

  in_account : (rows : List AccountRow) (s : ℕ) → account_in (insert_key account_cmp (accounts_without session rows) its_account) s ≡ cond (s == session) (Some account) (account_in rows s)
  in_account rows s = step (s == session) refl
    where
      step : (b : Bool) → (s == session) ≡ b → account_in (insert_key account_cmp (accounts_without session rows) its_account) s ≡ cond b (Some account) (account_in rows s)
      step true e = ap account_found (find_in_own (λ (r : AccountRow). r.session == s) account_cmp its_account (accounts_without session rows) (accounts_apart rows) (own_none rows s e) (own_seen s true e))
      step false e = ap account_found (find_in_other (λ (r : AccountRow). r.session == s) account_cmp its_account (accounts_without session rows) (own_seen s false e)) ∙ other_account rows s e

-- ---- no row twice

any_filtered : (p q : OpenRow → Bool) (rows : List OpenRow) → list_any p rows ≡ false → list_any p (filter q rows) ≡ false
any_filtered p q [] none = refl
any_filtered p q (row ∷ rows) none = step (q row) (any_filtered p q rows (either_none (p row) (list_any p rows) none).1)
  where
    step : (b : Bool) → list_any p (filter q rows) ≡ false → list_any p (cond b (row ∷ filter q rows) (filter q rows)) ≡ false
    step true rest = rw ((either_none (p row) (list_any p rows) none).0) rest
    step false rest = rest

once_filtered : (q : OpenRow → Bool) (rows : List OpenRow) → EachOpenedOnce rows → EachOpenedOnce (filter q rows)
once_filtered q [] once = tt
once_filtered q (row ∷ rows) once = step (q row) (once_filtered q rows once.1)
  where
    step : (b : Bool) → EachOpenedOnce (filter q rows) → EachOpenedOnce (cond b (row ∷ filter q rows) (filter q rows))
    step true rest = (any_filtered (opens row.session row.document) q rows once.0, rest)
    step false rest = rest

any_last : (p : OpenRow → Bool) (rows : List OpenRow) (row : OpenRow) → list_any p rows ≡ false → p row ≡ false → list_any p (rows ++ row ∷ []) ≡ false
any_last p [] row none other = rw other refl
any_last p (r ∷ rows) row none other =
    let parts = either_none (p r) (list_any p rows) none in
    rw (parts.0) (any_last p rows row parts.1 other)

once_last : (rows : List OpenRow) (row : OpenRow) → EachOpenedOnce rows → find (opens row.session row.document) rows ≡ None → EachOpenedOnce (rows ++ row ∷ [])
once_last [] row once none = (refl, tt)
once_last (r ∷ rows) row once none = step (opens row.session row.document r) refl none (once_last rows row once.1)
  where
    step : (b : Bool) → opens row.session row.document r ≡ b → cond b (Some r) (find (opens row.session row.document) rows) ≡ None
        → (find (opens row.session row.document) rows ≡ None → EachOpenedOnce (rows ++ row ∷ [])) → EachOpenedOnce (r ∷ rows ++ row ∷ [])
    step true e h rest = absurd (none_there r h)
    step false e h rest =
        (any_last (opens r.session r.document) rows row once.0 (false_when (opens r.session r.document row) (λ passes. true≢false (sym (opens_back row r passes) ∙ e))), rest h)

-- ---- writers

kept_write : (b : Bool) (found : Option Mode) → cond b None found ≡ Some Write → found ≡ Some Write
kept_write true found e = absurd (none_there Write (sym e))
kept_write false found e = e

-- ---- the whole

abbrev same_session : AccountRow → AccountRow → Bool
same_session a b = a.session == b.session

none_of_session : (session : ℕ) (rows : List AccountRow) → list_any (λ (r : AccountRow). r.session == session) (accounts_without session rows) ≡ false
none_of_session session [] = refl
none_of_session session (row ∷ rows) = step (row.session == session) refl (none_of_session session rows)
  where
    step : (b : Bool) → (row.session == session) ≡ b → list_any (λ (r : AccountRow). r.session == session) (accounts_without session rows) ≡ false
        → list_any (λ (r : AccountRow). r.session == session) (cond (not b) (row ∷ accounts_without session rows) (accounts_without session rows)) ≡ false
    step true e rest = rest
    step false e rest = rw e rest

-- nobody has anything
pub restarted_stand : (trees : Trees) (world : World) → SessionsStand (record trees { access = record { open_rows = []; accounts = [] } }) (record world { open_rows = []; accounts = [] })
restarted_stand trees world = record {
  modes = λ session document. refl;
  accounts = λ session. refl;
  once = tt;
  account_once = tt;
  one_writer = λ document session other e f. absurd (none_there Write (sym e));
}

module _ (trees : Trees) (world : World) (session : ℕ) (stand : SessionsStand trees world) where
  abbrev rows : List OpenRow
  rows = trees.access.open_rows

  pub ended_stand : SessionsStand (record trees { access = record { open_rows = without_session session trees.access.open_rows; accounts = accounts_without session trees.access.accounts } })
      (record world { open_rows = without_session session world.open_rows; accounts = accounts_without session world.accounts })
  ended_stand = record {
    modes = λ s d. ended_mode session rows s d ∙ ap (λ found. cond (s == session) None found) (stand.modes s d) ∙ sym (ended_mode session world.open_rows s d);
    accounts = λ s. ended_account session trees.access.accounts s ∙ ap (λ found. cond (s == session) None found) (stand.accounts s) ∙ sym (ended_account session world.accounts s);
    once = once_filtered (λ (r : OpenRow). not (r.session == session)) world.open_rows stand.once;
    account_once = each_filtered same_session (λ (r : AccountRow). not (r.session == session)) world.accounts stand.account_once;
    one_writer = λ document s other e f. stand.one_writer document s other (was s document e) (was other document f);
  }
    where
      was : (s : ℕ) (d : List ℕ) → mode_in (without_session session world.open_rows) s d ≡ Some Write → mode_in world.open_rows s d ≡ Some Write
      was s d e = kept_write (s == session) (mode_in world.open_rows s d) (sym (ended_mode session world.open_rows s d) ∙ e)

  pub account_stand : (account : List ℕ) → SessionsStand
      (record trees { access = record { open_rows = trees.access.open_rows; accounts = insert_key account_cmp (accounts_without session trees.access.accounts) (its_account session account) } })
      (record world { accounts = accounts_without session world.accounts ++ its_account session account ∷ [] })
  account_stand account = record {
    modes = stand.modes;
    accounts = λ s. in_account session account trees.access.accounts s ∙ ap (λ found. cond (s == session) (Some account) found) (stand.accounts s) ∙ sym (last_account session account world.accounts s);
    once = stand.once;
    account_once = each_last same_session (accounts_without session world.accounts) (its_account session account) (each_filtered same_session (λ (r : AccountRow). not (r.session == session)) world.accounts stand.account_once) (none_of_session session world.accounts);
    one_writer = stand.one_writer;
  }

  module _ (document : List ℕ) where
    abbrev left : List OpenRow
    left = without_opening session document world.open_rows

    pub closed_stand : SessionsStand (record trees { access = record { open_rows = without_opening session document trees.access.open_rows; accounts = trees.access.accounts } })
        (record world { open_rows = without_opening session document world.open_rows })
    closed_stand = record {
      modes = λ s d. closed_mode session document rows s d ∙ ap (λ found. cond (is_pair session document s d) None found) (stand.modes s d) ∙ sym (closed_mode session document world.open_rows s d);
      accounts = stand.accounts;
      once = once_filtered (λ (r : OpenRow). not (opens session document r)) world.open_rows stand.once;
      account_once = stand.account_once;
      one_writer = λ d s other e f. stand.one_writer d s other (was s d e) (was other d f);
    }
      where
        was : (s : ℕ) (d : List ℕ) → mode_in left s d ≡ Some Write → mode_in world.open_rows s d ≡ Some Write
        was s d e = kept_write (is_pair session document s d) (mode_in world.open_rows s d) (sym (closed_mode session document world.open_rows s d) ∙ e)

    -- what is open for writing is so by this session alone
    abbrev pub OthersDoNotWrite : Type 0
    OthersDoNotWrite = (other : ℕ) → mode_in trees.access.open_rows other document ≡ Some Write → other ≡ session

    pair_gone : (rows : List OpenRow) → mode_in (without_opening session document rows) session document ≡ None
    pair_gone rows = closed_mode session document rows session document ∙ ap (λ b. cond b None (mode_in rows session document)) (opens_own (fresh session document Write))

    opened_table : (mode : Mode) (s : ℕ) (d : List ℕ) → mode_in (insert_key row_cmp (without_opening session document rows) (fresh session document mode)) s d ≡ cond (is_pair session document s d) (Some mode) (mode_in rows s d)
    opened_table mode s d =
        in_mode session document mode (without_opening session document rows) (pair_gone rows) s d ∙ twice (is_pair session document s d) (mode_in rows s d) (closed_mode session document rows s d)
      where
        twice : (b : Bool) (found : Option Mode) → mode_in (without_opening session document rows) s d ≡ cond b None found → cond b (Some mode) (mode_in (without_opening session document rows) s d) ≡ cond b (Some mode) found
        twice true found e = refl
        twice false found e = e

    opened_world : (mode : Mode) (s : ℕ) (d : List ℕ) → mode_in (left ++ fresh session document mode ∷ []) s d ≡ cond (is_pair session document s d) (Some mode) (mode_in world.open_rows s d)
    opened_world mode s d =
        last_mode session document mode left (pair_gone world.open_rows) s d ∙ twice (is_pair session document s d) (mode_in world.open_rows s d) (closed_mode session document world.open_rows s d)
      where
        twice : (b : Bool) (found : Option Mode) → mode_in left s d ≡ cond b None found → cond b (Some mode) (mode_in left s d) ≡ cond b (Some mode) found
        twice true found e = refl
        twice false found e = e

    pub opened_stand : (mode : Mode) → (mode ≡ Write → OthersDoNotWrite)
        → SessionsStand (record trees { access = record { open_rows = insert_key row_cmp (without_opening session document trees.access.open_rows) (fresh session document mode); accounts = trees.access.accounts } })
        (record world { open_rows = without_opening session document world.open_rows ++ fresh session document mode ∷ [] })
    opened_stand mode alone = record {
      modes = λ s d. opened_table mode s d ∙ ap (λ found. cond (is_pair session document s d) (Some mode) found) (stand.modes s d) ∙ sym (opened_world mode s d);
      accounts = stand.accounts;
      once = once_last left (fresh session document mode) (once_filtered (λ (r : OpenRow). not (opens session document r)) world.open_rows stand.once) (mode_none left session document (pair_gone world.open_rows));
      account_once = stand.account_once;
      one_writer = λ d s other e f. one d s other (sym (opened_world mode s d) ∙ e) (sym (opened_world mode other d) ∙ f);
    }
      where
        by_both : (d : List ℕ) (s other : ℕ) (a b : Bool) → is_pair session document s d ≡ a → is_pair session document other d ≡ b → cond a (Some mode) (mode_in world.open_rows s d) ≡ Some Write → cond b (Some mode) (mode_in world.open_rows other d) ≡ Some Write
            → s ≡ other
        by_both d s other true true g h e f = number_is s session (both (s == session) (is_same d document) g).0 ∙ sym (number_is other session (both (other == session) (is_same d document) h).0)
        by_both d s other true false g h e f =
            let parts = both (s == session) (is_same d document) g in
            number_is s session parts.0 ∙ sym (alone (one_value mode Write e) other (stand.modes other document ∙ subst (λ a. mode_in world.open_rows other a ≡ Some Write) (address_is d document parts.1) f))
        by_both d s other false true g h e f =
            let parts = both (other == session) (is_same d document) h in
            alone (one_value mode Write f) s (stand.modes s document ∙ subst (λ a. mode_in world.open_rows s a ≡ Some Write) (address_is d document parts.1) e) ∙ sym (number_is other session parts.0)
        by_both d s other false false g h e f = stand.one_writer d s other e f

        one : (d : List ℕ) (s other : ℕ) → cond (is_pair session document s d) (Some mode) (mode_in world.open_rows s d) ≡ Some Write → cond (is_pair session document other d) (Some mode) (mode_in world.open_rows other d) ≡ Some Write → s ≡ other
        one d s other e f = by_both d s other (is_pair session document s d) (is_pair session document other d) refl refl e f

    -- a row comes in for a document that nobody has open
    pub first_opened_stand : mode_in trees.access.open_rows session document ≡ None → OthersDoNotWrite
        → SessionsStand (record trees { access = record { open_rows = insert_key row_cmp (without_opening session document trees.access.open_rows) (fresh session document Write); accounts = trees.access.accounts } })
        (record world { open_rows = world.open_rows ++ fresh session document Write ∷ [] })
    first_opened_stand none alone =
        subst (λ (rows : List OpenRow). SessionsStand (record trees { access = record { open_rows = insert_key row_cmp (without_opening session document trees.access.open_rows) (fresh session document Write); accounts = trees.access.accounts } }) (record world { open_rows = rows ++ fresh session document Write ∷ [] }))
        (all_left world.open_rows (mode_none world.open_rows session document (sym (stand.modes session document) ∙ none))) (opened_stand Write (λ e. alone))
      where
        all_left : (rows : List OpenRow) → find (opens session document) rows ≡ None → without_opening session document rows ≡ rows
        all_left [] h = refl
        all_left (row ∷ rows) h = step (opens session document row) refl h (all_left rows)
          where
            step : (b : Bool) → opens session document row ≡ b → cond b (Some row) (find (opens session document) rows) ≡ None → (find (opens session document) rows ≡ None → without_opening session document rows ≡ rows) → without_opening session document (row ∷ rows) ≡ row ∷ rows
            step true e h rest = absurd (none_there row h)
            step false e h rest = rw e (ap (λ (more : List OpenRow). row ∷ more) (rest h))
