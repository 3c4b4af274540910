-- The keys of the rows that meet spans, one span after the other.
use Rattle.std.proofs.Common.{◌≡◌, ℕ, ◌+◌, ◌<◌, ◌≤◌, Bool, true, false, ◌||◌, cond, List, [], ◌∷◌, ◌++◌, length, get_or, take, map, refl, ap, ◌∙◌, sym, append-nil}
use Rattle.std.specs.List.{filter, flat_map}
use Rattle.std.specs.Ordering.{nat_cmp, is_eq}
use Rattle.std.specs.Cmp.Lexicographic.{slice_cmp}
use Rattle.std.specs.BTreeMap.{is_at}
use Rattle.std.specs.BTreeSet.{insert_key}
use Rattle.std.proofs.lemmas.List.{take_more, take_all}
use Rattle.std.proofs.lemmas.List.Sums.{fold-append}
use Rattle.std.proofs.lemmas.List.Folds.{list_any-append}
use Rattle.std.proofs.lemmas.Grind.{flat_map-append}
use Rattle.tumbler.specs.declared.span.Span.{Span}
use Rattle.enfilade_core.specs.declared.tree.Row.{Row}
use Rattle.spanfilade.specs.Keys.{is_met, is_met_by, keys_of, with_keys, keys_met}
use Rattle.enfilade_core.specs.Plain.{plain_row}
use Rattle.spanfilade.proofs.Rows.{plain_rows}
use Rattle.spanfilade.proofs.Ascending.{among, same_keys}

-- the keys of the rows that meet one span
abbrev pub met_keys : List (Row (List ℕ)) → Span → List (List ℕ)
met_keys rows span = keys_of (filter (is_met span) rows)

or_both : (e a b c : Bool) → (a || b) ≡ c → ((e || a) || (e || b)) ≡ (e || c)
or_both true a b c h = refl
or_both false a b c h = h

or_first : (e a b c : Bool) → (a || b) ≡ c → ((e || a) || b) ≡ (e || c)
or_first true a b c h = refl
or_first false a b c h = h

or_second : (e a b c : Bool) → (a || b) ≡ c → (a || (e || b)) ≡ (e || c)
or_second true true b c h = refl
or_second true false b c h = refl
or_second false a b c h = h

either_step : (q : List ℕ) (x : Row (List ℕ)) (some others all : List (Row (List ℕ))) (a b : Bool) → (among q (keys_of some) || among q (keys_of others)) ≡ among q (keys_of all)
    → (among q (keys_of (cond a (x ∷ some) some)) || among q (keys_of (cond b (x ∷ others) others))) ≡ among q (keys_of (cond (a || b) (x ∷ all) all))
either_step q x some others all true true h = or_both (is_eq (slice_cmp nat_cmp q x.second)) (among q (keys_of some)) (among q (keys_of others)) (among q (keys_of all)) h
either_step q x some others all true false h = or_first (is_eq (slice_cmp nat_cmp q x.second)) (among q (keys_of some)) (among q (keys_of others)) (among q (keys_of all)) h
either_step q x some others all false true h = or_second (is_eq (slice_cmp nat_cmp q x.second)) (among q (keys_of some)) (among q (keys_of others)) (among q (keys_of all)) h
either_step q x some others all false false h = h

either : (q : List ℕ) (one other : Row (List ℕ) → Bool) (rows : List (Row (List ℕ))) → (among q (keys_of (filter one rows)) || among q (keys_of (filter other rows))) ≡ among q (keys_of (filter (λ row. one row || other row) rows))
either q one other [] = refl
either q one other (x ∷ rows) =
    either_step q x (filter one rows) (filter other rows) (filter (λ row. one row || other row) rows) (one x) (other x) (either q one other rows)

none_met : (rows : List (Row (List ℕ))) → filter (is_met_by []) rows ≡ []
none_met [] = refl
none_met (x ∷ rows) = none_met rows

span_by_span : (q : List ℕ) (rows : List (Row (List ℕ))) (spans : List Span) → among q (flat_map (met_keys rows) spans) ≡ among q (keys_of (filter (is_met_by spans) rows))
span_by_span q rows [] = sym (ap (λ (rs : List (Row (List ℕ))). among q (keys_of rs)) (none_met rows))
span_by_span q rows (span ∷ spans) =
    list_any-append (is_at (slice_cmp nat_cmp q)) (met_keys rows span) (flat_map (met_keys rows) spans)
    ∙ ap (λ (b : Bool). among q (met_keys rows span) || b) (span_by_span q rows spans)
    ∙ either q (is_met span) (is_met_by spans) rows

filter_alike : (one other : Row (List ℕ) → Bool) (rows : List (Row (List ℕ))) → ((row : Row (List ℕ)) → one row ≡ other row) → filter one rows ≡ filter other rows
filter_alike one other [] h = refl
filter_alike one other (x ∷ rows) h =
    ap (λ (b : Bool). cond b (x ∷ filter one rows) (filter one rows)) (h x)
    ∙ ap (λ (rs : List (Row (List ℕ))). cond (other x) (x ∷ rs) rs) (filter_alike one other rows h)

-- spans that are met where the given ones are give their keys
pub all_met : (spans given : List Span) (rows : List (Row (List ℕ))) → ((row : Row (List ℕ)) → is_met_by spans row ≡ is_met_by given row) → with_keys [] (flat_map (met_keys rows) spans) ≡ keys_met given rows
all_met spans given rows h =
    same_keys (flat_map (met_keys rows) spans) (keys_of (filter (is_met_by spans) rows)) (λ q. span_by_span q rows spans)
    ∙ ap (λ (rs : List (Row (List ℕ))). with_keys [] (keys_of rs)) (filter_alike (is_met_by spans) (is_met_by given) rows h)

-- ---- the keys so far, and those of one span more

one_more : (rows : List (Row (List ℕ))) (spans : List Span) (i : ℕ) (span : Span) → i < length spans → span ≡ get_or spans i span → flat_map (met_keys rows) (take i spans) ++ met_keys rows span ≡ flat_map (met_keys rows) (take (i + 1) spans)
one_more rows spans i span lt at =
    ap (λ (r : List (List ℕ)). flat_map (met_keys rows) (take i spans) ++ r) (sym (append-nil (met_keys rows span)))
    ∙ sym (flat_map-append (met_keys rows) (take i spans) (span ∷ []))
    ∙ ap (flat_map (met_keys rows)) (ap (λ (y : Span). take i spans ++ y ∷ []) at ∙ sym (take_more spans i span lt))

pub keys_more : (rows held found : List (Row (List ℕ))) (spans : List Span) (i : ℕ) (span : Span) (before now : List (List ℕ)) → i < length spans → span ≡ get_or spans i span → before ≡ with_keys [] (flat_map (met_keys rows) (take i spans)) → held ≡ found
    → map (plain_row (λ (width : List ℕ). width)) found ≡ filter (is_met span) rows → now ≡ with_keys before (keys_of held) → now ≡ with_keys [] (flat_map (met_keys rows) (take (i + 1) spans))
keys_more rows held found spans i span before now lt at so_far h is taken =
    let front = flat_map (met_keys rows) (take i spans) in
    taken ∙ ap (λ (keys : List (List ℕ)). with_keys keys (keys_of held)) so_far
    ∙ ap (λ (rs : List (Row (List ℕ))). with_keys (with_keys [] front) (keys_of rs)) (h ∙ sym (plain_rows found) ∙ is)
    ∙ sym (fold-append (insert_key (slice_cmp nat_cmp)) [] front (met_keys rows span))
    ∙ ap (with_keys []) (one_more rows spans i span lt at)

pub keys_all : (rows : List (Row (List ℕ))) (items joined given slice : List Span) (i : ℕ) (keys : List (List ℕ)) → length items ≤ i → items ≡ joined → slice ≡ given → ((row : Row (List ℕ)) → is_met_by joined row ≡ is_met_by slice row)
    → keys ≡ with_keys [] (flat_map (met_keys rows) (take i items)) → keys ≡ keys_met given rows
keys_all rows items joined given slice i keys le is at met so_far =
    so_far ∙ ap (λ (spans : List Span). with_keys [] (flat_map (met_keys rows) spans)) (take_all i items le ∙ is)
    ∙ all_met joined given rows (λ row. met row ∙ ap (λ (spans : List Span). is_met_by spans row) at)
