-- A log is read in one way.
use Rattle.std.proofs.Common.{◌≡◌, ⊎_elim, ℕ, ◌≤◌, List, [], ◌∷◌, ◌++◌, length, refl, sym, ◌∙◌, ap, arith, append_assoc, length-append}
use Rattle.std.specs.List.{AllByRecursion}
use Rattle.entry_codec.specs.Bodies.{HasBody}
use Rattle.entry_codec.specs.Format.{body_of}
use Rattle.entry_codec.specs.Logged.{PlainLogged}
use Rattle.entry_codec.specs.Laws.{OneBody, BodySaysLength, SaysLength}
use Rattle.entry_codec.specs.declared.format.LogFormat.{LogFormat}
use Rattle.entry_codec.specs.declared.format.LogFormat.TheVariants.{Old, New}
use Rattle.edit_log.specs.Log.{gated, IsEnd}

-- a body has bytes for its length at least
at_least : (format : LogFormat) (body : List ℕ) → SaysLength format body → 4 ≤ length body
at_least Old body says = omega (arith, says.whole)
at_least New body says = omega (arith, says.whole)

-- bytes that begin with an open gate and a body are no end
pub no_end : BodySaysLength → (format : LogFormat) (row : PlainLogged) (rest end : List ℕ) → HasBody format row → end ≡ 1 ∷ (body_of format row ++ rest) → IsEnd end → ⊥
no_end says format row rest [] has is ends = absurd (omega (arith, ap length is))
no_end says format row rest (gate ∷ more) has is ends =
    ⊎_elim (λ other. other (head_is gate more is)) (λ none. absurd (none_is none)) ends
  where
    head_is : (g : ℕ) (m : List ℕ) → g ∷ m ≡ 1 ∷ (body_of format row ++ rest) → g ≡ 1
    head_is g m e = cc

    long : 4 ≤ length (body_of format row)
    long = at_least format (body_of format row) (says format (body_of format row) record { row = row; body = record { valid = has; spelled = refl } })

    none_is : more ≡ [] → ⊥
    none_is none = absurd (omega (arith, long, ap length none, ap length is, length-append (body_of format row) rest))

pub tail_of : (x : ℕ) (p q : List ℕ) → x ∷ p ≡ x ∷ q → p ≡ q
tail_of x p q eq = cc

pub cancel_one : (m p q : List ℕ) → m ++ p ≡ m ++ q → p ≡ q
cancel_one [] p q eq = eq
cancel_one (x ∷ m) p q eq = cancel_one m p q (tail_of x (m ++ p) (m ++ q) eq)

-- the entries that are read, and what is behind them
pub read_once : OneBody → BodySaysLength → (format : LogFormat) (a b : List PlainLogged) (x y : List ℕ) → AllByRecursion (HasBody format) a → AllByRecursion (HasBody format) b → IsEnd x → IsEnd y → gated format a ++ x ≡ gated format b ++ y → (a ≡ b) × (x ≡ y)
read_once one says format [] [] x y xs ys ex ey same = (refl, same)
read_once one says format [] (e ∷ b) x y xs ys ex ey same =
    absurd (no_end says format e (gated format b ++ y) x ys.0 (same ∙ ap (λ (l : List ℕ). 1 ∷ l) (append_assoc (body_of format e) (gated format b) y)) ex)
read_once one says format (e ∷ a) [] x y xs ys ex ey same =
    absurd (no_end says format e (gated format a ++ x) y xs.0 (sym same ∙ ap (λ (l : List ℕ). 1 ∷ l) (append_assoc (body_of format e) (gated format a) x)) ey)
read_once one says format (e ∷ a) (f ∷ b) x y xs ys ex ey same =
    let tails : body_of format e ++ (gated format a ++ x) ≡ body_of format f ++ (gated format b ++ y) = sym (append_assoc (body_of format e) (gated format a) x) ∙ tail_is _ _ same ∙ append_assoc (body_of format f) (gated format b) y in
    let bodies = one format (body_of format e) (body_of format f) (gated format a ++ x) (gated format b ++ y) e f record { valid = xs.0; spelled = refl } record { valid = ys.0; spelled = refl } tails in
    let behind : gated format a ++ x ≡ gated format b ++ y = cancel (body_of format e) (body_of format f) _ _ bodies.0 tails in
    let rest = read_once one says format a b x y xs.1 ys.1 ex ey behind in
    (cons_is bodies.1 rest.0, rest.1)
  where
    tail_is : (p q : List ℕ) → 1 ∷ p ≡ 1 ∷ q → p ≡ q
    tail_is p q eq = cc

    cons_is : e ≡ f → a ≡ b → e ∷ a ≡ f ∷ b
    cons_is p q = cc

    cancel : (m n p q : List ℕ) → m ≡ n → m ++ p ≡ n ++ q → p ≡ q
    cancel m n p q mn eq = cancel_one m p q (eq ∙ ap (λ (l : List ℕ). l ++ q) (sym mn))
