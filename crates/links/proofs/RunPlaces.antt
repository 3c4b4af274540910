-- The addresses of runs.
use Rattle.std.specs.Prelude.{IfOk}
use Rattle.std.proofs.Common.{◌≡◌, ℕ, zero, suc, ◌+◌, ◌<◌, ◌≤◌, Result, Ok, List, [], ◌∷◌, length, map, take, refl, subst, sym, ap, ◌∙◌}
use Rattle.std.specs.List.{All}
use Rattle.std.proofs.lemmas.Bool.{lt-ltb}
use Rattle.std.proofs.lemmas.List.{take_all}
use Rattle.std.proofs.lemmas.List.Elements.{All-head, All-tail, All-nil, All-cons}
use Rattle.tumbler.specs.Places.{place_bound, Fits, width_at}
use Rattle.tumbler.specs.Span.{SpanFits}
use Rattle.tumbler.specs.declared.span.Span.{Span}
use Rattle.febe_data.specs.declared.run.Run.{Run}
use Rattle.world_rules.specs.World.{content_address}
use Rattle.links.specs.LinkLists.{IsRun, run_span}

abbrev last_of : List ℕ → ℕ
last_of [] = 0
last_of (x ∷ []) = x
last_of (x ∷ y ∷ xs) = last_of (y ∷ xs)

step_fits : (a : List ℕ) (k : ℕ) → last_of a + k < place_bound → Fits a (width_at (length a) k)
step_fits [] k h = refl
step_fits (x ∷ xs) zero h = refl
step_fits (x ∷ []) (suc k) h = lt-ltb (x + suc k) place_bound h
step_fits (x ∷ y ∷ xs) (suc k) h = step_fits (y ∷ xs) (suc k) h

last_number : (document : List ℕ) (n : ℕ) → last_of (content_address document n) ≡ n
last_number [] n = refl
last_number (x ∷ []) n = refl
last_number (x ∷ y ∷ document) n = last_number (y ∷ document) n

pub run_fits : (run : Run) → IsRun run → SpanFits (run_span run)
run_fits run is = step_fits (content_address run.content run.first) run.length (subst (λ (m : ℕ). m + run.length < place_bound) (sym (last_number run.content run.first)) is.small)

pub runs_fit : (runs : List Run) → All IsRun runs → All SpanFits (map run_span runs)
runs_fit [] h = All-nil SpanFits
runs_fit (run ∷ runs) h = All-cons SpanFits (run_span run) (map run_span runs) (run_fits run (All-head IsRun run runs h)) (runs_fit runs (All-tail IsRun run runs h))

pub ok_value : {E : Type 0} (r : Result (List ℕ) E) (x v : List ℕ) → r ≡ Ok x → IfOk r (λ t. t ≡ v) → x ≡ v
ok_value {E} r x v is h = subst (λ (o : Result (List ℕ) E). IfOk o (λ t. t ≡ v)) is h

pub run_fits_at : (run : Run) (start slice width : List ℕ) → IsRun run → start ≡ content_address run.content run.first → slice ≡ start → width ≡ width_at (length slice) run.length → Fits start width
run_fits_at run start slice width is starts slices widths =
    let there : width ≡ width_at (length (content_address run.content run.first)) run.length = widths ∙ ap (λ (xs : List ℕ). width_at (length xs) run.length) (slices ∙ starts) in
    subst (λ (s : List ℕ). Fits s width) (sym starts) (subst (Fits (content_address run.content run.first)) (sym there) (run_fits run is))

pub spans_all : (runs : List Run) (made : List Span) (i : ℕ) → length runs ≤ i → made ≡ map run_span (take i runs) → made ≡ map run_span runs
spans_all runs made i le so_far = so_far ∙ ap (map run_span) (take_all i runs le)
