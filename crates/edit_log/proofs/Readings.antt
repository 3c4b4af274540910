-- A log that is read is not damaged, and a damaged one is damaged at one place.
use Rattle.std.proofs.Common.{◌≡◌, ◌≢◌, ◌⊎◌, inl, inr, ⊎_elim, ℕ, ◌≤◌, List, [], ◌∷◌, ◌++◌, length, refl, sym, ◌∙◌, ap, subst, arith, append_assoc}
use Rattle.std.specs.List.{AllByRecursion}
use Rattle.entry_codec.specs.Bodies.{HasBody, BeginsWithBody}
use Rattle.entry_codec.specs.Format.{body_of}
use Rattle.entry_codec.specs.Logged.{PlainLogged}
use Rattle.entry_codec.specs.Laws.{OneBody, BodySaysLength}
use Rattle.entry_codec.specs.declared.format.LogFormat.{LogFormat}
use Rattle.edit_log.specs.Log.{gated, most_entries, IsEnd, ReadsAs, IsDamagedAt}
use Rattle.edit_log.proofs.Unique.{read_once, no_end, tail_of, cancel_one}

-- what stands behind a gate that is the first of a damaged log's rest: no body, or there is no room for an entry
abbrev Wrong : LogFormat → List ℕ → List PlainLogged → List PlainLogged → Type 0
Wrong format rest more rows = (¬ BeginsWithBody format rest) ⊎ (length more ≤ length rows)

-- one entry more is behind that gate
no_more : (format : LogFormat) (row : PlainLogged) (behind rest : List ℕ) (more : List PlainLogged) → HasBody format row → 1 ∷ rest ≡ 1 ∷ (body_of format row ++ behind) → Wrong format rest (row ∷ more) [] → ⊥
no_more format row behind rest more has same wrong =
    ⊎_elim
    (λ none. none record {
      body = body_of format row;
      rest = behind;
      is_body = record { row = row; body = record { valid = has; spelled = refl } };
      split = tail_of 1 rest (body_of format row ++ behind) same;
    })
    (λ few. absurd (omega (arith, few)))
    wrong

-- the same bytes begin with one body
behind_bodies : OneBody → (format : LogFormat) (e f : PlainLogged) (x y : List ℕ) → HasBody format e → HasBody format f → 1 ∷ (body_of format e ++ x) ≡ 1 ∷ (body_of format f ++ y) → (e ≡ f) × (x ≡ y)
behind_bodies one format e f x y has had same =
    let tails = tail_of 1 (body_of format e ++ x) (body_of format f ++ y) same in
    let bodies = one format (body_of format e) (body_of format f) x y e f record { valid = has; spelled = refl } record { valid = had; spelled = refl } tails in
    (bodies.1, cancel_one (body_of format e) x y (tails ∙ ap (λ (l : List ℕ). l ++ y) (sym bodies.0)))

front : (format : LogFormat) (row : PlainLogged) (rows : List PlainLogged) (end : List ℕ) → gated format (row ∷ rows) ++ end ≡ 1 ∷ (body_of format row ++ (gated format rows ++ end))
front format row rows end = ap (λ (l : List ℕ). 1 ∷ l) (append_assoc (body_of format row) (gated format rows) end)

fewer : (format : LogFormat) (e f : PlainLogged) (rest : List ℕ) (more rows : List PlainLogged) → Wrong format rest (e ∷ more) (f ∷ rows) → Wrong format rest more rows
fewer format e f rest more rows wrong = ⊎_elim (λ none. inl none) (λ few. inr (omega (arith, few))) wrong

-- a log that ends is not damaged
not_both : OneBody → BodySaysLength → (format : LogFormat) (a d : List PlainLogged) (x rest : List ℕ) → AllByRecursion (HasBody format) a → AllByRecursion (HasBody format) d → IsEnd x → rest ≢ [] → Wrong format rest a d → gated format a ++ x ≡ gated format d ++ (1 ∷ rest) → ⊥
not_both one says format [] [] x rest xs ys ends more wrong same = end_wrong 1 refl (subst IsEnd same ends)
  where
    end_wrong : (gate : ℕ) → gate ≡ 1 → (gate ≢ 1) ⊎ (rest ≡ []) → ⊥
    end_wrong gate opened (inl other) = other opened
    end_wrong gate opened (inr none) = more none
not_both one says format [] (f ∷ d) x rest xs ys ends more wrong same =
    no_end says format f (gated format d ++ (1 ∷ rest)) x ys.0 (same ∙ front format f d (1 ∷ rest)) ends
not_both one says format (e ∷ a) [] x rest xs ys ends more wrong same =
    no_more format e (gated format a ++ x) rest a xs.0 (sym same ∙ front format e a x) wrong
not_both one says format (e ∷ a) (f ∷ d) x rest xs ys ends more wrong same =
    let behind = behind_bodies one format e f (gated format a ++ x) (gated format d ++ (1 ∷ rest)) xs.0 ys.0 (sym (front format e a x) ∙ same ∙ front format f d (1 ∷ rest)) in
    not_both one says format a d x rest xs.1 ys.1 ends more (fewer format e f rest a d wrong) behind.1

-- a damaged log is damaged behind the same entries
one_damage : OneBody → (format : LogFormat) (a d : List PlainLogged) (x y : List ℕ) → AllByRecursion (HasBody format) a → AllByRecursion (HasBody format) d → Wrong format x d a → Wrong format y a d → gated format a ++ (1 ∷ x) ≡ gated format d ++ (1 ∷ y) → a ≡ d
one_damage one format [] [] x y xs ys first second same = refl
one_damage one format [] (f ∷ d) x y xs ys first second same =
    absurd (no_more format f (gated format d ++ (1 ∷ y)) x d ys.0 (same ∙ front format f d (1 ∷ y)) first)
one_damage one format (e ∷ a) [] x y xs ys first second same =
    absurd (no_more format e (gated format a ++ (1 ∷ x)) y a xs.0 (sym same ∙ front format e a (1 ∷ x)) second)
one_damage one format (e ∷ a) (f ∷ d) x y xs ys first second same =
    let behind = behind_bodies one format e f (gated format a ++ (1 ∷ x)) (gated format d ++ (1 ∷ y)) xs.0 ys.0 (sym (front format e a (1 ∷ x)) ∙ same ∙ front format f d (1 ∷ y)) in
    let rest = one_damage one format a d x y xs.1 ys.1 (fewer format f e x d a first) (fewer format e f y a d second) behind.1 in
    both_are behind.0 rest
  where
    both_are : e ≡ f → a ≡ d → e ∷ a ≡ f ∷ d
    both_are p q = cc

-- what is wrong, where the other list has no more entries than a log may have
wrong_of : (format : LogFormat) (rest : List ℕ) (more rows : List PlainLogged) → (¬ BeginsWithBody format rest) ⊎ (length rows ≡ most_entries) → length more ≤ most_entries → Wrong format rest more rows
wrong_of format rest more rows wrong few = ⊎_elim (λ none. inl none) (λ full. inr (omega (arith, full, few))) wrong

-- a log of one format has one list of entries
pub one_list : OneBody → BodySaysLength → (format : LogFormat) (log : List ℕ) (a b : List PlainLogged) → ReadsAs format a log → ReadsAs format b log → a ≡ b
one_list one says format log a b first second =
    (read_once one says format a b first.end second.end first.has.spelled second.has.spelled first.ends second.ends (sym first.has.parts ∙ second.has.parts)).0

-- a damaged one has one place
pub one_place : OneBody → (format : LogFormat) (log : List ℕ) (a b : ℕ) → IsDamagedAt format a log → IsDamagedAt format b log → a ≡ b
one_place one format log a b first second =
    let same = one_damage one format first.rows second.rows first.rest second.rest first.has.spelled second.has.spelled
    (wrong_of format first.rest second.rows first.rows first.wrong second.has.few)
    (wrong_of format second.rest first.rows second.rows second.wrong first.has.few)
    (sym first.has.parts ∙ second.has.parts) in
    first.at ∙ ap (λ (rows : List PlainLogged). length (gated format rows)) same ∙ sym second.at

-- and none is both
pub none_is_both : OneBody → BodySaysLength → (format : LogFormat) (log : List ℕ) (rows : List PlainLogged) (place : ℕ) → ReadsAs format rows log → ¬ IsDamagedAt format place log
none_is_both one says format log rows place reads damaged =
    not_both one says format rows damaged.rows reads.end damaged.rest reads.has.spelled damaged.has.spelled reads.ends damaged.more
    (wrong_of format damaged.rest rows damaged.rows damaged.wrong reads.has.few)
    (sym reads.has.parts ∙ damaged.has.parts)
