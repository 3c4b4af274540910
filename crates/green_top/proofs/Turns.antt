-- Exchanges come in turn, and stay so however the history goes on.
use Rattle.std.proofs.Common.{◌≡◌, ℕ, ◌≤◌, List, [], ◌∷◌, ◌++◌, length, take, ap, ◌∙◌, sym, arith, append_assoc}
use Rattle.std.specs.List.{flat_map, AllByRecursion}
use Rattle.std.proofs.lemmas.List.{append-nil, length-append, take-append-le}
use Rattle.febe_data.specs.LimitsView.{LimitsView}
use Rattle.febe_data.specs.Plain.{PlainEntry}
use Rattle.world_rules.specs.History.{entries_of}
use Rattle.world_rules.specs.Legal.{Exchange, TookPlace}
use Rattle.green_top.specs.Transcript.{InTurn}

point_within : (limits : LimitsView) (session : ℕ) (h : List PlainEntry) (e : Exchange) → TookPlace limits session h e → e.point ≤ length h
point_within limits session h e t = omega (arith, t.point_is, ap length t.parts, length-append (t.before ++ e.added) t.more)

pub turn_before : (limits : LimitsView) (session : ℕ) (h more own : List PlainEntry) (es : List Exchange) → AllByRecursion (TookPlace limits session h) es → InTurn session h own es → InTurn session (h ++ more) own es
turn_before limits session h more own [] all turn = tt
turn_before limits session h more own (e ∷ es) all turn =
    (ap (entries_of session) (take-append-le e.point h more (point_within limits session h e all.0)) ∙ turn.0, turn_before limits session h more (own ++ e.added) es all.1 turn.1)

pub turn_push : (session : ℕ) (h own : List PlainEntry) (es : List Exchange) (e : Exchange) → InTurn session h own es
    → entries_of session (take e.point h) ≡ (own ++ flat_map (λ (x : Exchange). x.added) es) ++ e.added → InTurn session h own (es ++ e ∷ [])
turn_push session h own [] e turn is = (is ∙ ap (λ (xs : List PlainEntry). xs ++ e.added) (append-nil own), tt)
turn_push session h own (x ∷ es) e turn is =
    (turn.0, turn_push session h (own ++ x.added) es e turn.1 (is ∙ ap (λ (xs : List PlainEntry). xs ++ e.added) (sym (append_assoc own x.added (flat_map (λ (y : Exchange). y.added) es)))))
