-- What stands in a text after several things were written, one behind the other.
use Rattle.std.proofs.Common.{◌≡◌, ℕ, List, [], ◌++◌, length, Result, Ok, Err, ap, ◌∙◌, append_assoc}
use Rattle.std.specs.Prelude.{OnOk}
use Rattle.entry_codec.specs.Logged.{PlainLogged}
use Rattle.entry_codec.specs.Format.{u64_bytes, logged_bytes, body_of}
use Rattle.entry_codec.specs.declared.format.LogFormat.TheVariants.{New}

pub two_more : {T E : Type 0} (r : Result T E) (old a b first second : List ℕ) → first ≡ old ++ a → OnOk r (second ≡ first ++ b) → OnOk r (second ≡ old ++ (a ++ b))
two_more (Ok x) old a b first second e f = f ∙ ap (λ (ds : List ℕ). ds ++ b) e ∙ append_assoc old a b
two_more (Err x) old a b first second e f = tt

pub three_more : {T E : Type 0} (r : Result T E) (old a b c first second third : List ℕ) → first ≡ old ++ a → second ≡ first ++ b → OnOk r (third ≡ second ++ c) → OnOk r (third ≡ old ++ (a ++ (b ++ c)))
three_more (Ok x) old a b c first second third e f g =
    g ∙ ap (λ (ds : List ℕ). ds ++ c) (f ∙ ap (λ (ds : List ℕ). ds ++ b) e ∙ append_assoc old a b) ∙ append_assoc old (a ++ b) c ∙ ap (λ (ds : List ℕ). old ++ ds) (append_assoc a b c)
three_more (Err x) old a b c first second third e f g = tt

-- the number of the format and the moment, session, serial, kind and fields
pub six_more : {T E : Type 0} (r : Result T E) (old a b c d e f first second third fourth fifth sixth : List ℕ)
    → first ≡ old ++ a → second ≡ first ++ b → third ≡ second ++ c → fourth ≡ third ++ d → fifth ≡ fourth ++ e → OnOk r (sixth ≡ fifth ++ f) → OnOk r (sixth ≡ old ++ ((a ++ b) ++ (c ++ (d ++ (e ++ f)))))
six_more (Ok x) old a b c d e f first second third fourth fifth sixth is_a is_b is_c is_d is_e is_f =
    is_f ∙ ap (λ (ds : List ℕ). ds ++ f) (is_e ∙ ap (λ (ds : List ℕ). ds ++ e) (is_d ∙ ap (λ (ds : List ℕ). ds ++ d) (is_c ∙ ap (λ (ds : List ℕ). ds ++ c) (is_b ∙ ap (λ (ds : List ℕ). ds ++ b) is_a))))
    ∙ all_behind old a b c d e f
  where
    all_behind : (old a b c d e f : List ℕ) → (((((old ++ a) ++ b) ++ c) ++ d) ++ e) ++ f ≡ old ++ ((a ++ b) ++ (c ++ (d ++ (e ++ f))))
    all_behind old a b c d e f = simp append_assoc
six_more (Err x) old a b c d e f first second third fourth fifth sixth is_a is_b is_c is_d is_e is_f = tt

-- a body: its length, and what that counts
pub whole_body : (row : PlainLogged) (size : ℕ) (empty first second : List ℕ) → size ≡ length (logged_bytes New row) → empty ≡ [] → first ≡ empty ++ u64_bytes size → second ≡ first ++ logged_bytes New row → second ≡ body_of New row
whole_body row size empty first second counted none is_size is_rest =
    is_rest ∙ ap (λ (ds : List ℕ). ds ++ logged_bytes New row) (is_size ∙ ap (λ (ds : List ℕ). ds ++ u64_bytes size) none ∙ ap u64_bytes counted)
