-- The count of a session is that of its entry in the map.
use Rattle.std.proofs.Common.{◌≡◌, ◌∙◌, ℕ, ◌+◌, ◌-◌, ◌<◌, ◌||◌, Bool, true, false, cond, List, [], ◌∷◌, map, Option, Some, None, refl, sym, ap, subst, true≢false, arith}
use Rattle.std.proofs.lemmas.Iterator.Adapters.{option_map_id}
use Rattle.std.specs.Prelude.{◌==◌, ◌^◌}
use Rattle.std.specs.Cmp.{nat_eq_equiv, unsigned_ties}
use Rattle.std.specs.Map.{lookup}
use Rattle.std.specs.Option.{unwrap_or, is_some, option_map}
use Rattle.std.specs.Ordering.{nat_cmp, is_eq}
use Rattle.std.specs.BTreeMap as tree
use Rattle.std.specs.BTreeMap.{BTreeMap, is_at}
use Rattle.access_table.proofs.Entries.{looked_up}
use Rattle.world_rules.specs.declared.rows.SessionRow.{SessionRow}
use Rattle.world_rules.specs.FlatView.{entries_in, with_entry}
use Rattle.world_rules.specs.InPlace.{HasRoom}
use Rattle.tree_world.specs.Standing.{CountsStand, is_known}
use Rattle.tree_world.specs.inside.Counted.{session_row, session_rows}
use Rattle.tree_world.proofs.Found.{number_is, number_alike}

number_seen : (session other : ℕ) → (other == session) ≡ is_eq (nat_cmp session other)
number_seen session other = nat_eq_equiv.symm other session ∙ unsigned_ties session other

pub entries_looked_up : (session : ℕ) (m : BTreeMap ℕ ℕ) → entries_in (session_rows m) session ≡ unwrap_or (tree.get nat_cmp m session) 0
entries_looked_up session m =
    ap (λ (found : Option ℕ). unwrap_or found 0)
    (looked_up session_row (λ r. r.entries) (λ n. n) (λ e. refl) (is_at (nat_cmp session)) (λ r. r.session == session) (λ e. number_seen session e.0) m.entries ∙ option_map_id _)

known_among : (session : ℕ) (es : List (ℕ × ℕ)) → is_known (map session_row es) session ≡ is_some (lookup (is_at (nat_cmp session)) es)
known_among session [] = refl
known_among session (e ∷ es) = ap (λ b. b || is_known (map session_row es) session) (number_seen session e.0) ∙ step (is_at (nat_cmp session) e.0) (known_among session es)
  where
    step : (b : Bool) → is_known (map session_row es) session ≡ is_some (lookup (is_at (nat_cmp session)) es) → (b || is_known (map session_row es) session) ≡ is_some (cond b (Some e.1) (lookup (is_at (nat_cmp session)) es))
    step true rest = refl
    step false rest = rest

known_looked_up : (session : ℕ) (m : BTreeMap ℕ ℕ) → is_known (session_rows m) session ≡ is_some (tree.get nat_cmp m session)
known_looked_up session m = known_among session m.entries

pub ruleset by_session = (entries_looked_up)

-- ---- a value comes in

abbrev pub Sets : ℕ → ℕ → BTreeMap ℕ ℕ → BTreeMap ℕ ℕ → Type 0
Sets session value old new = (q : ℕ) → tree.get nat_cmp new q ≡ cond (is_at (nat_cmp session) q) (Some value) (tree.get nat_cmp old q)

module _ (session value : ℕ) (old new : BTreeMap ℕ ℕ) (sets : Sets session value old new) where
  set_entries : (s : ℕ) → entries_in (session_rows new) s ≡ cond (s == session) value (entries_in (session_rows old) s)
  set_entries s =
      entries_looked_up s new ∙ ap (λ (found : Option ℕ). unwrap_or found 0) (sets s ∙ ap (λ b. cond b (Some value) (tree.get nat_cmp old s)) (sym (number_seen session s)))
      ∙ step (s == session) (entries_looked_up s old)
    where
      step : (b : Bool) → entries_in (session_rows old) s ≡ unwrap_or (tree.get nat_cmp old s) 0 → unwrap_or (cond b (Some value) (tree.get nat_cmp old s)) 0 ≡ cond b value (entries_in (session_rows old) s)
      step true e = refl
      step false e = sym e

  set_known : (s : ℕ) → is_known (session_rows new) s ≡ ((s == session) || is_known (session_rows old) s)
  set_known s =
      known_looked_up s new ∙ ap (λ (found : Option ℕ). is_some found) (sets s ∙ ap (λ b. cond b (Some value) (tree.get nat_cmp old s)) (sym (number_seen session s)))
      ∙ step (s == session) (known_looked_up s old)
    where
      step : (b : Bool) → is_known (session_rows old) s ≡ is_some (tree.get nat_cmp old s) → is_some (cond b (Some value) (tree.get nat_cmp old s)) ≡ (b || is_known (session_rows old) s)
      step true e = refl
      step false e = sym e

-- ---- one more entry in a view

more_entries : (session : ℕ) (rows : List SessionRow) (s : ℕ) → entries_in (with_entry session rows) s ≡ cond (s == session) (entries_in rows session + 1) (entries_in rows s)
more_entries session [] s = step (session == s) refl (s == session) refl
  where
    step : (b : Bool) → (session == s) ≡ b → (c : Bool) → (s == session) ≡ c → unwrap_or (option_map (λ (row : SessionRow). row.entries) (cond b (Some (record { session = session; entries = 1 })) None)) 0 ≡ cond c 1 0
    step true e true f = refl
    step true e false f = absurd (true≢false (sym (number_alike s) ∙ ap (λ n. s == n) (sym (number_is session s e)) ∙ f))
    step false e true f = absurd (true≢false (sym (number_alike s) ∙ ap (λ n. n == s) (number_is s session f) ∙ e))
    step false e false f = refl
more_entries session (row ∷ rows) s = step (row.session == session) refl (row.session == s) refl (s == session) refl (more_entries session rows s)
  where
    step : (a : Bool) → (row.session == session) ≡ a → (b : Bool) → (row.session == s) ≡ b → (c : Bool) → (s == session) ≡ c → entries_in (with_entry session rows) s ≡ cond c (entries_in rows session + 1) (entries_in rows s)
        → entries_in (with_entry session (row ∷ rows)) s ≡ cond c (entries_in (row ∷ rows) session + 1) (entries_in (row ∷ rows) s)
    step true e true f true g rest = rw (e, f) refl
    step true e true f false g rest = absurd (true≢false (sym (ap (λ n. n == session) (sym (number_is row.session s f)) ∙ e) ∙ g))
    step true e false f true g rest = absurd (true≢false (sym (ap (λ n. n == s) (number_is row.session session e ∙ sym (number_is s session g)) ∙ number_alike s) ∙ f))
    step true e false f false g rest = rw (e, f) refl
    step false e true f true g rest = absurd (true≢false (sym (ap (λ n. n == session) (number_is row.session s f) ∙ g) ∙ e))
    step false e true f false g rest = rw (e, f) refl
    step false e false f true g rest = rw (e, f) rest
    step false e false f false g rest = rw (e, f) rest

more_known : (session : ℕ) (rows : List SessionRow) (s : ℕ) → is_known (with_entry session rows) s ≡ true → ((s == session) || is_known rows s) ≡ true
more_known session [] s h = step (session == s) refl h
  where
    step : (b : Bool) → (session == s) ≡ b → (b || false) ≡ true → ((s == session) || false) ≡ true
    step true e h = rw (sym (number_is session s e)) (ap (λ b. b || false) (number_alike session))
    step false e h = absurd (true≢false (sym h))
more_known session (row ∷ rows) s h = step (row.session == session) refl (row.session == s) refl (s == session) (more_known session rows s) h
  where
    step : (a : Bool) → (row.session == session) ≡ a → (b : Bool) → (row.session == s) ≡ b → (c : Bool) → (is_known (with_entry session rows) s ≡ true → (c || is_known rows s) ≡ true)
        → is_known (with_entry session (row ∷ rows)) s ≡ true → (c || is_known (row ∷ rows) s) ≡ true
    step a e b f true rest h = refl
    step a e true f false rest h = rw f refl
    step true e false f false rest h = let g : is_known rows s ≡ true = rw (e, f) at h in rw f g
    step false e false f false rest h = let g : is_known (with_entry session rows) s ≡ true = rw (e, f) at h in rw f (rest g)

-- ---- what the calls leave

either : (a b : Bool) → b ≡ true → (a || b) ≡ true
either true b e = refl
either false b e = e

none_zero : (m : BTreeMap ℕ ℕ) (session : ℕ) → tree.get nat_cmp m session ≡ None → entries_in (session_rows m) session ≡ 0
none_zero m session none = entries_looked_up session m ∙ ap (λ (found : Option ℕ). unwrap_or found 0) none

module _ (session : ℕ) (old new : BTreeMap ℕ ℕ) (shown left : List SessionRow) (shows : session_rows old ≡ shown) (leaves : session_rows new ≡ left) where
  pub reserved : Sets session 0 old new → tree.get nat_cmp old session ≡ None → (rows : List SessionRow) → CountsStand shown rows → CountsStand left rows
  reserved sets none rows stand =
      subst (λ now. CountsStand now rows) leaves (record {
        entries = λ s. set_entries session 0 old new sets s ∙ same s (s == session) refl ∙ ap (λ was. entries_in was s) shows ∙ stand.entries s;
        known = λ s there. set_known session 0 old new sets s ∙ either (s == session) (is_known (session_rows old) s) (ap (λ was. is_known was s) shows ∙ stand.known s there);
      })
    where
      same : (s : ℕ) (b : Bool) → (s == session) ≡ b → cond (s == session) 0 (entries_in (session_rows old) s) ≡ entries_in (session_rows old) s
      same s true e = rw e (sym (subst (λ n. entries_in (session_rows old) n ≡ 0) (sym (number_is s session e)) (none_zero old session none)))
      same s false e = rw e refl

  pub reserved_room : Sets session 0 old new → HasRoom left session
  reserved_room sets = subst (λ now. HasRoom now session) leaves (record {
    known = set_known session 0 old new sets session ∙ ap (λ b. b || is_known (session_rows old) session) (number_alike session);
    countable = small _ (set_entries session 0 old new sets session ∙ ap (λ b. cond b 0 (entries_in (session_rows old) session)) (number_alike session));
  })
    where
      small : (n : ℕ) → n ≡ 0 → n + 1 < 2 ^ 64
      small n e = omega (arith, e)

  counted_as : Sets session (entries_in shown session + 1) old new → (rows : List SessionRow) → CountsStand shown rows → CountsStand left (with_entry session rows)
  counted_as sets rows stand =
      subst (λ now. CountsStand now (with_entry session rows)) leaves (record {
        entries = λ s. set_entries session (entries_in shown session + 1) old new sets s
            ∙ (λ i. cond (s == session) (stand.entries session i + 1) ((ap (λ was. entries_in was s) shows ∙ stand.entries s) i)) ∙ sym (more_entries session rows s);
        known = λ s there. set_known session (entries_in shown session + 1) old new sets s ∙ by s (s == session) (more_known session rows s there) (λ known. ap (λ was. is_known was s) shows ∙ stand.known s known);
      })
    where
      by : (s : ℕ) (b : Bool) → (b || is_known rows s) ≡ true → (is_known rows s ≡ true → is_known (session_rows old) s ≡ true) → (b || is_known (session_rows old) s) ≡ true
      by s true h rest = refl
      by s false h rest = rest h

  pub counted_more : (value : ℕ) → Sets session value old new → value ≡ entries_in shown session + 1 → (rows : List SessionRow) → CountsStand shown rows → CountsStand left (with_entry session rows)
  counted_more value sets is = counted_as (subst (λ v. Sets session v old new) is sets)

pub room_there : (session n entries : ℕ) (m : BTreeMap ℕ ℕ) (shown : List SessionRow) → session_rows m ≡ shown → tree.get nat_cmp m session ≡ Some n → entries ≡ entries_in shown session → entries < 2 ^ 64 → (entries ≡ 18446744073709551615 → ⊥)
    → HasRoom shown session
room_there session n entries m shown shows there is small not_most =
    record {
      known = sym (ap (λ was. is_known was session) shows) ∙ known_looked_up session m ∙ ap (λ (found : Option ℕ). is_some found) there;
      countable = subst (λ k. k + 1 < 2 ^ 64) is (below small not_most);
    }
  where
    below : entries < 2 ^ 64 → (entries ≡ 18446744073709551615 → ⊥) → entries + 1 < 2 ^ 64
    below h n = omega (arith, h, n)

-- a session that is known is looked up
pub known_there : (session : ℕ) (m : BTreeMap ℕ ℕ) (shown rows : List SessionRow) → session_rows m ≡ shown → CountsStand shown rows → HasRoom rows session → tree.get nat_cmp m session ≡ None → ⊥
known_there session m shown rows shows stand room none =
    true≢false (sym (ap (λ was. is_known was session) shows ∙ stand.known session room.known) ∙ known_looked_up session m ∙ ap (λ (found : Option ℕ). is_some found) none)

pub not_most : (session n : ℕ) (m : BTreeMap ℕ ℕ) (shown rows : List SessionRow) → session_rows m ≡ shown → CountsStand shown rows → HasRoom rows session → tree.get nat_cmp m session ≡ Some n → n + 1 < 2 ^ 64
not_most session n m shown rows shows stand room there =
    subst (λ k. k + 1 < 2 ^ 64) (sym (stand.entries session) ∙ ap (λ was. entries_in was session) (sym shows) ∙ entries_looked_up session m ∙ ap (λ (found : Option ℕ). unwrap_or found 0) there) room.countable

pub known_here : (session : ℕ) (m : BTreeMap ℕ ℕ) (shown : List SessionRow) → session_rows m ≡ shown → HasRoom shown session → tree.get nat_cmp m session ≡ None → ⊥
known_here session m shown shows room none = known_there session m shown shown shows (record { entries = λ s. refl; known = λ s there. there }) room none

-- ---- one entry less

counted_own : (session : ℕ) (rows : List SessionRow) → entries_in (with_entry session rows) session ≡ entries_in rows session + 1
counted_own session rows = more_entries session rows session ∙ ap (λ b. cond b (entries_in rows session + 1) (entries_in rows session)) (number_alike session)

still_known : (session : ℕ) (rows : List SessionRow) (s : ℕ) → is_known rows s ≡ true → is_known (with_entry session rows) s ≡ true
still_known session [] s h = absurd (true≢false (sym h))
still_known session (row ∷ rows) s h = step (row.session == session) (row.session == s) refl h (still_known session rows s)
  where
    step : (a b : Bool) → (row.session == s) ≡ b → (b || is_known rows s) ≡ true → (is_known rows s ≡ true → is_known (with_entry session rows) s ≡ true)
        → is_known (cond a (record row { entries = row.entries + 1 } ∷ rows) (row ∷ with_entry session rows)) s ≡ true
    step true true e h rest = rw e refl
    step true false e h rest = rw e h
    step false true e h rest = rw e refl
    step false false e h rest = rw e (rest h)

pub none_less : (session entries : ℕ) (held rows : List SessionRow) → entries ≡ entries_in held session → entries ≡ 0 → CountsStand held (with_entry session rows) → ⊥
none_less session entries held rows is none stand = let e = sym is ∙ none in let f = stand.entries session ∙ counted_own session rows in never (entries_in held session) (entries_in rows session) e f
  where
    never : (a b : ℕ) → a ≡ 0 → a ≡ b + 1 → ⊥
    never a b e f = omega (arith, e, f)

pub here_if_counted : (session : ℕ) (m : BTreeMap ℕ ℕ) (shown : List SessionRow) → session_rows m ≡ shown → (entries_in shown session ≡ 0 → ⊥) → tree.get nat_cmp m session ≡ None → ⊥
here_if_counted session m shown shows some none = some (ap (λ rows. entries_in rows session) (sym shows) ∙ none_zero m session none)

module _ (session value : ℕ) (old new : BTreeMap ℕ ℕ) (shown left : List SessionRow) (shows : session_rows old ≡ shown) (leaves : session_rows new ≡ left) (sets : Sets session value old new) (is : value ≡ entries_in shown session - 1) where
  pub counted_less : (rows : List SessionRow) → CountsStand shown (with_entry session rows) → CountsStand left rows
  counted_less rows stand =
      subst (λ now. CountsStand now rows) leaves (record {
        entries = λ s. set_entries session value old new sets s ∙ by s (s == session) refl;
        known = λ s there. set_known session value old new sets s ∙ either (s == session) (is_known (session_rows old) s) (ap (λ was. is_known was s) shows ∙ stand.known s (still_known session rows s there));
      })
    where
      less : (a b : ℕ) → a ≡ b + 1 → a - 1 ≡ b
      less a b e = omega (arith, e)

      by : (s : ℕ) (b : Bool) → (s == session) ≡ b → cond b value (entries_in (session_rows old) s) ≡ entries_in rows s
      by s true e = is ∙ less (entries_in shown session) (entries_in rows session) (stand.entries session ∙ counted_own session rows) ∙ ap (entries_in rows) (sym (number_is s session e))
      by s false e = ap (λ was. entries_in was s) shows ∙ stand.entries s ∙ more_entries session rows s ∙ ap (λ b. cond b (entries_in rows session + 1) (entries_in rows s)) e
