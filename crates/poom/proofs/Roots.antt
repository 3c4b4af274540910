-- The rows of roots, where nodes came in behind the others.
use Rattle.std.proofs.Common.{◌≡◌, ℕ, ◌<◌, List, [], ◌∷◌, ◌++◌, length, take, get_or, refl, arith, ap, sym, subst, ◌∙◌}
use Rattle.std.proofs.lemmas.List.{get_or_push, length-append, append-nil, append_assoc}
use Rattle.enfilade_core.specs.Rows.{Shape, Rows, rows_in, rows_table, rows_of}
use Rattle.enfilade_core.proofs.Seen.{rows_stay}
use Rattle.enfilade_core.proofs.Tables.{table-push, length-table}
use Rattle.enfilade_core.specs.Exchange.{Grows}
use Rattle.poom.specs.Laid.{IsRoot, IsOneDocument}
use Rattle.poom.proofs.Documents.{nothing_stands}

pub kept_behind : (old new more : List (Shape ℕ)) → new ≡ old ++ more → (k : ℕ) → k < length old → rows_of new k ≡ rows_of old k
kept_behind old new more e k h = ap (λ (nodes : List (Shape ℕ)). rows_of nodes k) e ∙ rows_stay old more k h

pub kept_same : (old new : List (Shape ℕ)) → new ≡ old → (k : ℕ) → k < length old → rows_of new k ≡ rows_of old k
kept_same old new e k h = ap (λ (nodes : List (Shape ℕ)). rows_of nodes k) e

pub empty_rows : (old new : List (Shape ℕ)) (k : ℕ) → new ≡ old ++ Rows [] ∷ [] → k ≡ length old → rows_of new k ≡ []
empty_rows old new k e at =
    ap (λ (nodes : List (Shape ℕ)). rows_of nodes k) e
    ∙ (ap (λ table. get_or table k []) (table-push rows_in old (Rows []))
    ∙ get_or_push (rows_table old) [] [] k (length-table rows_in old ∙ sym at))

pub empty_root : (old new : List (Shape ℕ)) (k : ℕ) → new ≡ old ++ Rows [] ∷ [] → k ≡ length old → IsRoot new k
empty_root old new k e at = record {
  there = let long = ap length e in omega (arith, length-append old (Rows [] ∷ []));
  document = subst IsOneDocument (sym (empty_rows old new k e at)) nothing_stands;
}

pub grows_itself : (nodes : List (Shape ℕ)) → Grows nodes nodes
grows_itself nodes = record { more = []; is = sym (append-nil nodes) }

pub grows_same : (old new : List (Shape ℕ)) → new ≡ old → Grows old new
grows_same old new e = subst (Grows old) (sym e) (grows_itself old)

pub grows_behind : (old new more : List (Shape ℕ)) → new ≡ old ++ more → Grows old new
grows_behind old new more e = record { more = more; is = e }

-- nodes that came in went again
pub taken_back : (old mid now : List (Shape ℕ)) (mark : ℕ) → Grows old mid → mark ≡ length old → now ≡ take mark mid → now ≡ old
taken_back old mid now mark grows is back = back ∙ (λ i. take (is i) (grows.is i)) ∙ front old grows.more
  where
    front : (xs ys : List (Shape ℕ)) → take (length xs) (xs ++ ys) ≡ xs
    front [] ys = refl
    front (x ∷ xs) ys = ap (λ (zs : List (Shape ℕ)). x ∷ zs) (front xs ys)

pub grows_back : (old mid now : List (Shape ℕ)) (mark : ℕ) → Grows old mid → mark ≡ length old → now ≡ take mark mid → Grows old now
grows_back old mid now mark grows is back = grows_same old now (taken_back old mid now mark grows is back)

pub ruleset roots = (kept_behind, kept_same, empty_rows, empty_root, grows_same, grows_behind)

pub ruleset grown = (grows_itself)

pub grows_on : (a b c : List (Shape ℕ)) → Grows a b → Grows b c → Grows a c
grows_on a b c f g = record { more = f.more ++ g.more; is = g.is ∙ ap (λ (nodes : List (Shape ℕ)). nodes ++ g.more) f.is ∙ append_assoc a f.more g.more }

pub ruleset twice = (grows_on)
