-- The entries that were written, one after another.
use Rattle.std.proofs.Common.{◌≡◌, ℕ, zero, suc, ◌+◌, ◌^◌, ◌<◌, ◌≤◌, List, [], ◌∷◌, ◌++◌, length, take, get_or, sym, ◌∙◌, ap, subst, arith, length-append}
use Rattle.std.proofs.lemmas.List.{map_more, take-map, take_all, length-map}
use Rattle.std.specs.List.{AllByRecursion}
use Rattle.entry_codec.specs.Bodies.{HasBody}
use Rattle.entry_codec.specs.Format.{body_of}
use Rattle.entry_codec.specs.Laws.{BodySaysLength}
use Rattle.entry_codec.specs.Logged.{PlainLogged, plain_logged, plain_log}
use Rattle.entry_codec.specs.declared.format.LogFormat.TheVariants.{New}
use Rattle.entry_codec.specs.declared.logged.Logged.{Logged}
use Rattle.edit_log.specs.Log.{gated, most_entries}
use Rattle.edit_log.specs.Second.{front_of}
use Rattle.edit_log.proofs.Wholes.{gated-push, end_is_small}

all_front : (P : PlainLogged → Type 0) (n : ℕ) (rows : List PlainLogged) → AllByRecursion P rows → AllByRecursion P (take n rows)
all_front P zero [] all = tt
all_front P zero (row ∷ rows) all = tt
all_front P (suc n) [] all = tt
all_front P (suc n) (row ∷ rows) all = (all.0, all_front P n rows all.1)

all_at : (P : PlainLogged → Type 0) (rows : List Logged) (i : ℕ) (d : Logged) → i < length rows → AllByRecursion P (plain_log rows) → P (plain_logged (get_or rows i d))
all_at P [] i d lt all = absurd (omega (arith, lt))
all_at P (row ∷ rows) zero d lt all = all.0
all_at P (row ∷ rows) (suc i) d lt all = all_at P rows i d (omega (arith, lt)) all.1

-- the entry at an index has what all have
pub row_has : (rows : List Logged) (i : ℕ) (row : Logged) → i < length rows → row ≡ get_or rows i row → AllByRecursion (HasBody New) (plain_log rows) → HasBody New (plain_logged row)
row_has rows i row lt is all = subst (λ (r : Logged). HasBody New (plain_logged r)) (sym is) (all_at (HasBody New) rows i row lt all)

rows_more : (rows : List Logged) (i : ℕ) (row : Logged) → i < length rows → row ≡ get_or rows i row → plain_log (take (i + 1) rows) ≡ plain_log (take i rows) ++ plain_logged row ∷ []
rows_more rows i row lt is = map_more plain_logged rows i row lt ∙ ap (λ (r : Logged). plain_log (take i rows) ++ plain_logged r ∷ []) (sym is)

-- the bytes of one entry more
pub bytes_more : (rows : List Logged) (i : ℕ) (row : Logged) → i < length rows → row ≡ get_or rows i row → gated New (plain_log (take (i + 1) rows)) ≡ gated New (plain_log (take i rows)) ++ (1 ∷ body_of New (plain_logged row))
bytes_more rows i row lt is = ap (gated New) (rows_more rows i row lt is) ∙ gated-push New (plain_log (take i rows)) (plain_logged row)

-- and where they end
pub end_more : (rows : List Logged) (i at count : ℕ) (row : Logged) → i < length rows → row ≡ get_or rows i row → at ≡ length (front_of (plain_log (take i rows))) → count ≡ length (body_of New (plain_logged row)) + 1 → at + count ≡ length (front_of (plain_log (take (i + 1) rows)))
end_more rows i at count row lt is at_end long =
    omega (arith, at_end, long, ap length (bytes_more rows i row lt is), length-append (gated New (plain_log (take i rows))) (1 ∷ body_of New (plain_logged row)))

few_taken : (n : ℕ) (rows : List Logged) → length (take n rows) ≤ length rows
few_taken zero [] = omega arith
few_taken zero (row ∷ rows) = omega arith
few_taken (suc n) [] = omega arith
few_taken (suc n) (row ∷ rows) = omega (arith, few_taken n rows)

-- the place stays far below the greatest number
pub end_small : BodySaysLength → (rows : List Logged) (n : ℕ) → AllByRecursion (HasBody New) (plain_log rows) → length rows ≤ most_entries → length (front_of (plain_log (take n rows))) < 2 ^ 64
end_small says rows n spelled few =
    let front : AllByRecursion (HasBody New) (plain_log (take n rows)) = subst (AllByRecursion (HasBody New)) (take-map plain_logged n rows) (all_front (HasBody New) n (plain_log rows) spelled) in
    let fewer : length (plain_log (take n rows)) ≤ most_entries = omega (arith, length-map (take n rows) plain_logged, few_taken n rows, few) in
    let small : length (gated New (plain_log (take n rows))) < 2 ^ 62 = end_is_small says New (plain_log (take n rows)) front fewer in
    omega (arith, small)

pub end_fits : BodySaysLength → (rows : List Logged) (i at count : ℕ) (row : Logged) → AllByRecursion (HasBody New) (plain_log rows) → length rows ≤ most_entries → i < length rows → row ≡ get_or rows i row → at ≡ length (front_of (plain_log (take i rows))) → count ≡ length (body_of New (plain_logged row)) + 1 → at + count < 2 ^ 64
end_fits says rows i at count row spelled few lt is at_end long =
    subst (λ (k : ℕ). k < 2 ^ 64) (sym (end_more rows i at count row lt is at_end long)) (end_small says rows (i + 1) spelled few)

-- all of them
pub rows_all : (rows : List Logged) (n : ℕ) → length rows ≤ n → plain_log (take n rows) ≡ plain_log rows
rows_all rows n past = ap plain_log (take_all n rows past)
