-- Who writes a document, by the rows of who has what open.
use Rattle.std.proofs.Common.{◌≡◌, ◌≢◌, ◌∙◌, ◌⊎◌, inl, inr, ℕ, ◌&&◌, ◌||◌, Bool, true, false, not, List, [], ◌∷◌, Option, Some, None, cond, refl, sym, ap, subst, true≢false, arith}
use Rattle.std.proofs.lemmas.Bool.Decides.{nat_tests}
use Rattle.std.specs.Prelude.{◌==◌, IfSome, IfNone}
use Rattle.tree_world.proofs.Options.{one_value, none_there}
use Rattle.std.specs.List.{find, list_any}
use Rattle.std.specs.Option.{option_map}
use Rattle.febe_data.specs.declared.access.Mode.{Mode}
use Rattle.febe_data.specs.declared.access.Mode.TheVariants.{Read, Write}
use Rattle.world_rules.specs.declared.rows.OpenRow.{OpenRow}
use Rattle.world_rules.specs.World.{World, is_same, opens, is_write, mode_of, is_held_against}
use Rattle.world_rules.specs.Holding.{holder, opens_for_writing}
use Rattle.access_table.specs.AccessRows.{mode_in, Writes, IsFirstWriter}
use Rattle.access_table.proofs.Keyed.{document_alike}
use Rattle.world_rules.proofs.CountSteps.{same_is}
use Rattle.tree_world.specs.Trees.{Trees}
use Rattle.tree_world.specs.Standing.{EachOpenedOnce, OneWriterEach, SessionsStand}

abbrev IsIn : OpenRow → List OpenRow → Type 0
IsIn row [] = ⊥
IsIn row (r ∷ rows) = (row ≡ r) ⊎ IsIn row rows

both : (a b : Bool) → (a && b) ≡ true → (a ≡ true) × (b ≡ true)
both true true e = (refl, refl)
both true false e = absurd (true≢false (sym e))
both false b e = absurd (true≢false (sym e))

-- ---- tests of rows

opens_own : (row : OpenRow) → opens row.session row.document row ≡ true
opens_own row = rw (document_alike row.document) (number_alike row.session)
  where
    number_alike : (n : ℕ) → ((n == n) && true) ≡ true
    number_alike n = grind (arith, nat_tests)

number_is : (a b : ℕ) → (a == b) ≡ true → a ≡ b
number_is a b e = grind (arith, nat_tests, e)

opened_is : (session : ℕ) (document : List ℕ) (row : OpenRow) → opens session document row ≡ true → (row.session ≡ session) × (row.document ≡ document)
opened_is session document row e =
    let parts = both (row.session == session) (is_same row.document document) e in
    (number_is row.session session parts.0, same_is row.document document parts.1)

opens_back : (r row : OpenRow) → opens row.session row.document r ≡ true → opens r.session r.document row ≡ true
opens_back r row e =
    let is = opened_is row.session row.document r e in
    rw (is.0, is.1) (opens_own row)

in_any : (p : OpenRow → Bool) (rows : List OpenRow) (row : OpenRow) → IsIn row rows → p row ≡ true → list_any p rows ≡ true
in_any p [] row x e = elim x [ ]
in_any p (r ∷ rows) row (inl is) e = rw (sym (ap p is) ∙ e) refl
in_any p (r ∷ rows) row (inr there) e = step (p r) (in_any p rows row there e)
  where
    step : (b : Bool) → list_any p rows ≡ true → b || list_any p rows ≡ true
    step true h = refl
    step false h = h

-- ---- a row that is there is the first of its session and document

pub first_of_its_own : (rows : List OpenRow) (row : OpenRow) → EachOpenedOnce rows → IsIn row rows → find (opens row.session row.document) rows ≡ Some row
first_of_its_own [] row once x = elim x [ ]
first_of_its_own (r ∷ rows) row once (inl is) = rw (sym (ap (λ (x : OpenRow). opens x.session x.document r) (sym is)) ∙ opens_own r) (ap Some (sym is))
first_of_its_own (r ∷ rows) row once (inr there) = step (opens row.session row.document r) refl (first_of_its_own rows row once.1 there)
  where
    step : (b : Bool) → opens row.session row.document r ≡ b → find (opens row.session row.document) rows ≡ Some row → find (opens row.session row.document) (r ∷ rows) ≡ Some row
    step true e h = absurd (true≢false (sym (in_any (opens r.session r.document) rows row there (opens_back r row e)) ∙ once.0))
    step false e h = rw e h

-- ---- what is found

found_in : (p : OpenRow → Bool) (rows : List OpenRow) (row : OpenRow) → find p rows ≡ Some row → IsIn row rows × (p row ≡ true)
found_in p [] row e = absurd (none_there row (sym e))
found_in p (r ∷ rows) row e = step (p r) refl (found_in p rows row) e
  where
    step : (b : Bool) → p r ≡ b → (find p rows ≡ Some row → IsIn row rows × (p row ≡ true)) → cond b (Some r) (find p rows) ≡ Some row → IsIn row (r ∷ rows) × (p row ≡ true)
    step true is later h = let same = one_value r row h in (inl (sym same), ap p (sym same) ∙ is)
    step false is later h = let rest = later h in (inr rest.0, rest.1)

any_in : (p : OpenRow → Bool) (rows : List OpenRow) → list_any p rows ≡ true → (row : OpenRow) × IsIn row rows × (p row ≡ true)
any_in p [] e = absurd (true≢false (sym e))
any_in p (r ∷ rows) e = step (p r) refl (any_in p rows) e
  where
    step : (b : Bool) → p r ≡ b → (list_any p rows ≡ true → (row : OpenRow) × IsIn row rows × (p row ≡ true)) → (b || list_any p rows) ≡ true → (row : OpenRow) × IsIn row (r ∷ rows) × (p row ≡ true)
    step true is later h = (r, inl refl, is)
    step false is later h = let rest = later h in (rest.0, inr rest.1, rest.2)

-- a row that is there and passes is found, or one in front of it
some_found : (p : OpenRow → Bool) (rows : List OpenRow) (row : OpenRow) → IsIn row rows → p row ≡ true → find p rows ≡ None → ⊥
some_found p [] row x e none = elim x [ ]
some_found p (r ∷ rows) row (inl is) e none = none_there r (step (p r) (sym (ap p is) ∙ e) ∙ none)
  where
    step : (b : Bool) → b ≡ true → Some r ≡ cond b (Some r) (find p rows)
    step true h = refl
    step false h = absurd (true≢false (sym h))
some_found p (r ∷ rows) row (inr there) e none = step (p r) (some_found p rows row there e) none
  where
    step : (b : Bool) → (find p rows ≡ None → ⊥) → cond b (Some r) (find p rows) ≡ None → ⊥
    step true later h = none_there r h
    step false later h = later h

-- ---- who writes

write_is : (mode : Mode) → is_write mode ≡ true → mode ≡ Write
write_is Read e = absurd (true≢false (sym e))
write_is Write e = refl

writing_row : (document : List ℕ) (rows : List OpenRow) (row : OpenRow) → EachOpenedOnce rows → IsIn row rows → opens_for_writing document row ≡ true → mode_in rows row.session document ≡ Some Write
writing_row document rows row once there e =
    let parts = both (is_same row.document document) (is_write row.mode) e in
    let own = subst (λ d. find (opens row.session d) rows ≡ Some row) (same_is row.document document parts.0) (first_of_its_own rows row once there) in
    ap (option_map (λ (r : OpenRow). r.mode)) own ∙ ap Some (write_is row.mode parts.1)

document_alike_and : (d : List ℕ) → (is_same d d && true) ≡ true
document_alike_and d = rw (document_alike d) refl

-- where a session writes, there is its row
writes_by : (rows : List OpenRow) (session : ℕ) (document : List ℕ) → mode_in rows session document ≡ Some Write → (row : OpenRow) × IsIn row rows × (row.session ≡ session) × (opens_for_writing document row ≡ true)
writes_by rows session document e = step (find (opens session document) rows) refl e
  where
    step : (found : Option OpenRow) → find (opens session document) rows ≡ found → option_map (λ (r : OpenRow). r.mode) found ≡ Some Write → (row : OpenRow) × IsIn row rows × (row.session ≡ session) × (opens_for_writing document row ≡ true)
    step None is h = absurd (none_there Write (sym h))
    step (Some row) is h =
        let there = found_in (opens session document) rows row is in
        let own = opened_is session document row there.1 in
        (row, there.0, own.0, rw (own.1, one_value row.mode Write h) (document_alike_and document))

module _ (table : List OpenRow) (world : World) (document : List ℕ) (modes : (session : ℕ) (d : List ℕ) → mode_in table session d ≡ mode_of world session d) (once : EachOpenedOnce world.open_rows) (one : OneWriterEach world) where
  writer_of : (row : OpenRow) → IsIn row world.open_rows → opens_for_writing document row ≡ true → mode_of world row.session document ≡ Some Write
  writer_of row there e = writing_row document world.open_rows row once there e

  pub holds_found : (session : ℕ) → IsFirstWriter table document session → Some session ≡ holder world document
  holds_found session first = step (find (opens_for_writing document) world.open_rows) refl
    where
      writes : mode_of world session document ≡ Some Write
      writes = sym (modes session document) ∙ first.writes

      step : (found : Option OpenRow) → find (opens_for_writing document) world.open_rows ≡ found → Some session ≡ option_map (λ (r : OpenRow). r.session) found
      step None is = let by = writes_by world.open_rows session document writes in absurd (some_found (opens_for_writing document) world.open_rows by.0 by.1 by.3 is)
      step (Some row) is =
          let there = found_in (opens_for_writing document) world.open_rows row is in
          ap Some (one document session row.session writes (writer_of row there.0 there.1))

  pub holds_none : ((session : ℕ) → ¬ Writes table document session) → None ≡ holder world document
  holds_none none = step (find (opens_for_writing document) world.open_rows) refl
    where
      step : (found : Option OpenRow) → find (opens_for_writing document) world.open_rows ≡ found → None ≡ option_map (λ (r : OpenRow). r.session) found
      step None is = refl
      step (Some row) is =
          let there = found_in (opens_for_writing document) world.open_rows row is in
          absurd (none row.session (modes row.session document ∙ writer_of row there.0 there.1))

  -- ---- who else writes

  abbrev other_writes : ℕ → OpenRow → Bool
  other_writes session r = not (r.session == session) && is_same r.document document && is_write r.mode

  false_from : (b : Bool) → (b ≡ true → ⊥) → b ≡ false
  false_from true h = absurd (h refl)
  false_from false h = refl

  apart_not : (a b : ℕ) → not (a == b) ≡ true → a ≢ b
  apart_not a b e is = true≢false (sym e ∙ ap not (same a b is))
    where
      same : (m n : ℕ) → m ≡ n → (m == n) ≡ true
      same m n h = grind (arith, nat_tests, h)

  -- a session that holds it and is another
  other_row : (session : ℕ) (row : OpenRow) → other_writes session row ≡ true → (not (row.session == session) ≡ true) × (opens_for_writing document row ≡ true)
  other_row session row e =
      let front = both (not (row.session == session) && is_same row.document document) (is_write row.mode) e in
      let parts = both (not (row.session == session)) (is_same row.document document) front.0 in
      (parts.0, rw (parts.1, front.1) refl)

  pub held_none : (session : ℕ) → ((other : ℕ) → ¬ Writes table document other) → false ≡ is_held_against world session document
  held_none session none = sym (false_from (is_held_against world session document) (λ e.
      let found = any_in (other_writes session) world.open_rows e in
      none found.0.session (modes found.0.session document ∙ writer_of found.0 found.1 (other_row session found.0 found.2).1)))

  passes : (session : ℕ) (row : OpenRow) → (row.session == session) ≡ false → is_same row.document document ≡ true → is_write row.mode ≡ true → other_writes session row ≡ true
  passes session row e f g = rw (e, f, g) refl

  pub held_found : (session writer : ℕ) → IsFirstWriter table document writer → not (writer == session) ≡ is_held_against world session document
  held_found session writer first = step (writer == session) refl
    where
      writes : mode_of world writer document ≡ Some Write
      writes = sym (modes writer document) ∙ first.writes

      step : (b : Bool) → (writer == session) ≡ b → not b ≡ is_held_against world session document
      step true is = sym (false_from (is_held_against world session document) (λ e.
          let found = any_in (other_writes session) world.open_rows e in
          let parts = other_row session found.0 found.2 in
          let same = one document writer found.0.session writes (writer_of found.0 found.1 parts.1) in
          apart_not found.0.session session parts.0 (sym same ∙ number_is writer session is)))
      step false is =
          let by = writes_by world.open_rows writer document writes in
          let parts = both (is_same by.0.document document) (is_write by.0.mode) by.3 in
          sym (in_any (other_writes session) world.open_rows by.0 by.1 (passes session by.0 (ap (λ n. n == session) by.2 ∙ is) parts.0 parts.1))

-- ---- the same of the table's rows as they are held

module _ (held : List OpenRow) (shown : Trees) (world : World) (document : List ℕ) (same : held ≡ shown.access.open_rows) (stand : SessionsStand shown world) where
  moved : (session : ℕ) (d : List ℕ) → mode_in held session d ≡ mode_of world session d
  moved session d = ap (λ (rows : List OpenRow). mode_in rows session d) same ∙ stand.modes session d

  pub holder_is : (result : Option ℕ) → IfSome result (IsFirstWriter held document) → IfNone result ((session : ℕ) → ¬ Writes held document session) → result ≡ holder world document
  holder_is None found none = holds_none held world document moved stand.once stand.one_writer none
  holder_is (Some session) found none = holds_found held world document moved stand.once stand.one_writer session found

  pub held_is : (session writer : ℕ) → IsFirstWriter held document writer → not (writer == session) ≡ is_held_against world session document
  held_is session writer first = held_found held world document moved stand.once stand.one_writer session writer first

  pub unheld_is : (session : ℕ) → ((other : ℕ) → ¬ Writes held document other) → false ≡ is_held_against world session document
  unheld_is session none = held_none held world document moved stand.once stand.one_writer session none
