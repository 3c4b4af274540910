-- What scanning says, for every machine each of whose states some bytes end.
use Rattle.std.proofs.Common.{◌≡◌, ℕ, zero, suc, ◌<◌, ◌≤◌, List, [], ◌∷◌, ◌++◌, length, take, refl, sym, subst, arith}
use Rattle.febe_fields.specs.declared.scanned.Scanned.{Scanned}
use Rattle.febe_fields.specs.declared.scanned.Scanned.TheVariants.{Incomplete, Complete, Bad}
use Rattle.febe_fields.specs.Prefixes.{IsPrefix, HasNoSpelledPrefix, IsBadAt, IsUnfinished, HasSpelledPrefix, IsScanned}
use Rattle.febe_fields.specs.Fields.{takes_on, takes, follows}
use Rattle.febe_fields.specs.Scanning.{Outcome, goes, done, fails, behind_one, scan_on, scan}

module _ {State : Type 0} (step : State → ℕ → Outcome State) where
  pub takes_some : (s : State) → takes step s [] → ⊥
  unfolding takes
  takes_some s h = h

  pub takes_one : (s : State) (b : ℕ) (bytes : List ℕ) → takes step s (b ∷ bytes) → follows step (step s b) bytes
  unfolding takes
  takes_one s b bytes h = by_outcome (step s b) h where
    by_outcome : (o : Outcome State) → takes_on o bytes (λ next. takes step next bytes) → follows step o bytes
    by_outcome (goes t) h = h
    by_outcome done h = h
    by_outcome fails h = h

  pub one_taken : (s : State) (b : ℕ) (bytes : List ℕ) → follows step (step s b) bytes → takes step s (b ∷ bytes)
  unfolding takes
  one_taken s b bytes h = by_outcome (step s b) h where
    by_outcome : (o : Outcome State) → follows step o bytes → takes_on o bytes (λ next. takes step next bytes)
    by_outcome (goes t) h = h
    by_outcome done h = h
    by_outcome fails h = h

  -- nothing that is taken to the end goes on
  pub takes_no_more : (s : State) (bytes more : List ℕ) → takes step s bytes → takes step s (bytes ++ more) → more ≡ []
  takes_no_more s [] more h g = absurd (takes_some s h)
  takes_no_more s (b ∷ bytes) more h g = no_more_by (λ t. takes_no_more t bytes more) (step s b) (takes_one s b bytes h) (takes_one s b (bytes ++ more) g) where
    ends : (bytes : List ℕ) → bytes ≡ [] → bytes ++ more ≡ [] → more ≡ []
    ends [] e f = f
    ends (c ∷ bytes) e f = absurd cc

    no_more_by : ((t : State) → takes step t bytes → takes step t (bytes ++ more) → more ≡ []) → (o : Outcome State) → follows step o bytes → follows step o (bytes ++ more) → more ≡ []
    no_more_by on (goes t) h g = on t h g
    no_more_by on done h g = ends bytes h g
    no_more_by on fails h g = absurd h

  -- what a scan says, in terms of what the machine takes
  module _ (live : (s : State) → (bytes : List ℕ) × takes step s bytes) where
    none_behind : (s : State) (b : ℕ) (bytes : List ℕ) (t : State) → step s b ≡ goes t → HasNoSpelledPrefix (takes step t) bytes → HasNoSpelledPrefix (takes step s) (b ∷ bytes)
    none_behind s b bytes t e none zero le h = takes_some s h
    none_behind s b bytes t e none (suc n) le h = none n (omega arith) (subst (λ (o : Outcome State). follows step o (take n bytes)) e (takes_one s b (take n bytes) h))

    unfinished_behind : (s : State) (b : ℕ) (bytes : List ℕ) (t : State) → step s b ≡ goes t → IsUnfinished (takes step t) bytes → IsUnfinished (takes step s) (b ∷ bytes)
    unfinished_behind s b bytes t e u = record {
      prefix = record { more = u.prefix.more; goes_on = u.prefix.goes_on; whole = one_taken s b (bytes ++ u.prefix.more) (subst (λ (o : Outcome State). follows step o (bytes ++ u.prefix.more)) (sym e) u.prefix.whole) };
      none = none_behind s b bytes t e u.none;
    }

    begins_behind : (s : State) (b : ℕ) (bytes : List ℕ) (t : State) (used : ℕ) → step s b ≡ goes t → HasSpelledPrefix (takes step t) bytes used → HasSpelledPrefix (takes step s) (b ∷ bytes) (suc used)
    begins_behind s b bytes t used e w = record {
      within = omega (arith, w.within);
      prefix = one_taken s b (take used bytes) (subst (λ (o : Outcome State). follows step o (take used bytes)) (sym e) w.prefix);
    }

    longest_behind : (s : State) (b : ℕ) (bytes : List ℕ) (t : State) (at : ℕ) → step s b ≡ goes t → IsBadAt (takes step t) bytes at → (n : ℕ) → suc at < n → n ≤ suc (length bytes) → IsPrefix (takes step s) (take n (b ∷ bytes)) → ⊥
    longest_behind s b bytes t at e bad zero lt le p = omega arith
    longest_behind s b bytes t at e bad (suc n) lt le p =
        bad.longest n (omega arith) (omega arith) (record { more = p.more; whole = subst (λ (o : Outcome State). follows step o (take n bytes ++ p.more)) e (takes_one s b (take n bytes ++ p.more) p.whole) })

    bad_behind : (s : State) (b : ℕ) (bytes : List ℕ) (t : State) (at : ℕ) → step s b ≡ goes t → IsBadAt (takes step t) bytes at → IsBadAt (takes step s) (b ∷ bytes) (suc at)
    bad_behind s b bytes t at e bad = record {
      within = omega (arith, bad.within);
      prefix = record { more = bad.prefix.more; whole = one_taken s b (take at bytes ++ bad.prefix.more) (subst (λ (o : Outcome State). follows step o (take at bytes ++ bad.prefix.more)) (sym e) bad.prefix.whole) };
      longest = longest_behind s b bytes t at e bad;
      none = none_behind s b bytes t e bad.none;
    }

    scanned_behind : (s : State) (b : ℕ) (bytes : List ℕ) (t : State) (r : Scanned) → step s b ≡ goes t → IsScanned (takes step t) bytes r → IsScanned (takes step s) (b ∷ bytes) (behind_one r)
    scanned_behind s b bytes t Incomplete e h = unfinished_behind s b bytes t e h
    scanned_behind s b bytes t (Complete used) e h = begins_behind s b bytes t used e h
    scanned_behind s b bytes t (Bad at) e h = bad_behind s b bytes t at e h

    -- nothing that goes on with a byte that fails is taken
    fails_at : (s : State) (b : ℕ) (bytes : List ℕ) → step s b ≡ fails → takes step s (b ∷ bytes) → ⊥
    fails_at s b bytes e h = subst (λ (o : Outcome State). follows step o bytes) e (takes_one s b bytes h)

    bad_at_once : (s : State) (b : ℕ) (bytes : List ℕ) → step s b ≡ fails → IsBadAt (takes step s) (b ∷ bytes) 0
    bad_at_once s b bytes e = record {
      within = omega arith;
      prefix = record { more = (live s).0; whole = (live s).1 };
      longest = longest;
      none = none;
    } where
      longest : (n : ℕ) → 0 < n → n ≤ suc (length bytes) → IsPrefix (takes step s) (take n (b ∷ bytes)) → ⊥
      longest zero lt le p = omega arith
      longest (suc n) lt le p = fails_at s b (take n bytes ++ p.more) e p.whole

      none : HasNoSpelledPrefix (takes step s) (b ∷ bytes)
      none zero le h = takes_some s h
      none (suc n) le h = fails_at s b (take n bytes) e h

    filled : (s : State) (bytes : List ℕ) → takes step s bytes → bytes ≡ [] → ⊥
    filled s [] h e = takes_some s h
    filled s (b ∷ bytes) h e = absurd cc

    unfinished_at_once : (s : State) → IsUnfinished (takes step s) []
    unfinished_at_once s = record {
      prefix = record { more = (live s).0; goes_on = filled s (live s).0 (live s).1; whole = (live s).1 };
      none = none;
    } where
      none : HasNoSpelledPrefix (takes step s) []
      none n le h = takes_some s (subst (takes step s) (take_none n) h) where
        take_none : (n : ℕ) → take {A = ℕ} n [] ≡ []
        take_none zero = refl
        take_none (suc n) = refl

    pub scan_says : (s : State) (bytes : List ℕ) → IsScanned (takes step s) bytes (scan step s bytes)
    unfolding scan
    scan_says s [] = unfinished_at_once s
    scan_says s (b ∷ bytes) = said_by (λ t. scan_says t bytes) (step s b) refl where
      said_by : ((t : State) → IsScanned (takes step t) bytes (scan step t bytes)) → (o : Outcome State) → step s b ≡ o → IsScanned (takes step s) (b ∷ bytes) (scan_on o (λ next. scan step next bytes))
      said_by on (goes t) e = scanned_behind s b bytes t (scan step t bytes) e (on t)
      said_by on done e = record { within = omega arith; prefix = one_taken s b [] (subst (λ (o : Outcome State). follows step o []) (sym e) refl) }
      said_by on fails e = bad_at_once s b bytes e

-- what is said of one grammar holds of another that spells the same
module _ (One Other : List ℕ → Type 0) (to : (bytes : List ℕ) → One bytes → Other bytes) (from : (bytes : List ℕ) → Other bytes → One bytes) where
  none_too : (bytes : List ℕ) → HasNoSpelledPrefix One bytes → HasNoSpelledPrefix Other bytes
  none_too bytes none n le h = none n le (from (take n bytes) h)

  prefix_too : (bytes : List ℕ) → IsPrefix One bytes → IsPrefix Other bytes
  prefix_too bytes p = record { more = p.more; whole = to (bytes ++ p.more) p.whole }

  prefix_back : (bytes : List ℕ) → IsPrefix Other bytes → IsPrefix One bytes
  prefix_back bytes p = record { more = p.more; whole = from (bytes ++ p.more) p.whole }

  pub scanned_too : (bytes : List ℕ) (r : Scanned) → IsScanned One bytes r → IsScanned Other bytes r
  scanned_too bytes Incomplete h = record { prefix = record { more = h.prefix.more; goes_on = h.prefix.goes_on; whole = to (bytes ++ h.prefix.more) h.prefix.whole }; none = none_too bytes h.none }
  scanned_too bytes (Complete used) h = record { within = h.within; prefix = to (take used bytes) h.prefix }
  scanned_too bytes (Bad at) h = record { within = h.within; prefix = prefix_too (take at bytes) h.prefix; longest = λ n lt le p. h.longest n lt le (prefix_back (take n bytes) p); none = none_too bytes h.none }
