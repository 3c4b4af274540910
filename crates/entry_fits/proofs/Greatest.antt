-- The greatest serials of sessions: with one more entry, and beside the serials of all entries.
use Rattle.std.proofs.Common.{◌≡◌, ◌∙◌, ℕ, ◌<◌, ◌≤◌, ◌==◌, Bool, true, false, cond, List, [], ◌∷◌, ◌++◌, Option, Some, refl, sym, ap, nat_cmp, arith}
use Rattle.std.specs.Prelude.{max, if◌then◌else◌}
use Rattle.std.specs.Option.{unwrap_or}
use Rattle.std.specs.Cmp.{unsigned_ties}
use Rattle.std.specs.Map.{lookup}
use Rattle.std.specs.BTreeMap.{is_at}
use Rattle.std.proofs.lemmas.Bool.{eqb-true, eq-eqb, true≢false}
use Rattle.std.proofs.lemmas.List.Elements.{All-nil, All-cons, All-head, All-tail}
use Rattle.febe_data.specs.Plain.{PlainEntry}
use Rattle.entry_fits.specs.Fits.{IsNewSerial}
use Rattle.entry_fits.specs.Greatest.{greatest_serial, serial_in, AreSerialsOf}

-- ---- one entry more

greatest-same : (past : List PlainEntry) (entry : PlainEntry) (session : ℕ) → (entry.session == session) ≡ true → greatest_serial (past ++ entry ∷ []) session ≡ max entry.serial (greatest_serial past session)
greatest-same [] entry session e = rw e refl
greatest-same (first ∷ past) entry session e = step (first.session == session) (greatest-same past entry session e)
  where
    step : (b : Bool) → greatest_serial (past ++ entry ∷ []) session ≡ max entry.serial (greatest_serial past session)
        → (if b then max first.serial (greatest_serial (past ++ entry ∷ []) session) else greatest_serial (past ++ entry ∷ []) session) ≡ max entry.serial (if b then max first.serial (greatest_serial past session) else greatest_serial past session)
    step true rest = omega (arith, rest)
    step false rest = rest

greatest-other : (past : List PlainEntry) (entry : PlainEntry) (session : ℕ) → (entry.session == session) ≡ false → greatest_serial (past ++ entry ∷ []) session ≡ greatest_serial past session
greatest-other [] entry session e = rw e refl
greatest-other (first ∷ past) entry session e = ap (λ (n : ℕ). if first.session == session then max first.serial n else n) (greatest-other past entry session e)

-- an entry whose serial is not above those of its session
pub not_above : (past : List PlainEntry) (entry : PlainEntry) (greatest : ℕ) (serials : List (ℕ × ℕ)) → greatest ≡ greatest_serial past entry.session → entry.serial ≤ greatest → AreSerialsOf past serials → AreSerialsOf (past ++ entry ∷ []) serials
not_above past entry greatest serials is below are session = are session ∙ by_case (entry.session == session) refl
  where
    by_case : (same : Bool) → (entry.session == session) ≡ same → greatest_serial past session ≡ greatest_serial (past ++ entry ∷ []) session
    by_case true e =
        let own : greatest ≡ greatest_serial past session = is ∙ ap (greatest_serial past) (eqb-true entry.session session e) in
        omega (arith, own, below, greatest-same past entry session e)
    by_case false e = sym (greatest-other past entry session e)

-- one whose serial is, and stands beside it then
pub above : (past : List PlainEntry) (entry : PlainEntry) (greatest : ℕ) (old new : List (ℕ × ℕ)) → greatest ≡ greatest_serial past entry.session → greatest < entry.serial → AreSerialsOf past old
    → ((session : ℕ) → lookup (is_at (nat_cmp session)) new ≡ cond (is_at (nat_cmp entry.session) session) (Some entry.serial) (lookup (is_at (nat_cmp session)) old))
    → AreSerialsOf (past ++ entry ∷ []) new
above past entry greatest old new is higher are updates session = by_case (entry.session == session) refl
  where
    at : (same : Bool) → (entry.session == session) ≡ same → serial_in new session ≡ unwrap_or (cond same (Some entry.serial) (lookup (is_at (nat_cmp session)) old)) 0
    at same e =
        ap (λ (o : Option ℕ). unwrap_or o 0) (updates session)
        ∙ ap (λ (b : Bool). unwrap_or (cond b (Some entry.serial) (lookup (is_at (nat_cmp session)) old)) 0) (sym (unsigned_ties entry.session session) ∙ e)

    by_case : (same : Bool) → (entry.session == session) ≡ same → serial_in new session ≡ greatest_serial (past ++ entry ∷ []) session
    by_case true e =
        let own : greatest ≡ greatest_serial past session = is ∙ ap (greatest_serial past) (eqb-true entry.session session e) in
        omega (arith, at true e, own, higher, greatest-same past entry session e)
    by_case false e = at false e ∙ are session ∙ sym (greatest-other past entry session e)

-- ---- all entries

-- a serial above the greatest is above all
pub above_all : (past : List PlainEntry) (session serial : ℕ) → greatest_serial past session < serial → IsNewSerial past session serial
above_all [] session serial lt = All-nil (λ (x : PlainEntry). x.session ≡ session → x.serial < serial)
above_all (first ∷ past) session serial lt = step (first.session == session) refl lt (above_all past session serial)
  where
    step : (same : Bool) → (first.session == session) ≡ same → (if same then max first.serial (greatest_serial past session) else greatest_serial past session) < serial
        → (greatest_serial past session < serial → IsNewSerial past session serial) → IsNewSerial (first ∷ past) session serial
    step true e lt rest = All-cons (λ (x : PlainEntry). x.session ≡ session → x.serial < serial) first past (λ is. omega (arith, lt)) (rest (omega (arith, lt)))
    step false e lt rest = All-cons (λ (x : PlainEntry). x.session ≡ session → x.serial < serial) first past (λ is. absurd (true≢false (sym (eq-eqb first.session session is) ∙ e))) (rest lt)

-- and one above all is above the greatest
pub above_greatest : (past : List PlainEntry) (session serial : ℕ) → 1 ≤ serial → IsNewSerial past session serial → greatest_serial past session < serial
above_greatest [] session serial one new = omega (arith, one)
above_greatest (first ∷ past) session serial one new =
    step (first.session == session) refl (above_greatest past session serial one (All-tail (λ (x : PlainEntry). x.session ≡ session → x.serial < serial) first past new))
  where
    step : (same : Bool) → (first.session == session) ≡ same → greatest_serial past session < serial → (if same then max first.serial (greatest_serial past session) else greatest_serial past session) < serial
    step true e rest = omega (arith, rest, All-head (λ (x : PlainEntry). x.session ≡ session → x.serial < serial) first past new (eqb-true first.session session e))
    step false e rest = rest
