-- An arena stays one where it is cut off, and where a well formed node is added with what is kept of it.
use Rattle.std.proofs.Common.{◌≡◌, ℕ, ◌<◌, List, [], ◌∷◌, ◌++◌, length, take, map, arith, ap, ◌∙◌, sym, subst, inl, inr}
use Rattle.std.proofs.lemmas.List.{take-map, map-append, length-append, length-take, take-take, take_at, get_or_append_left, get_or_at, get_or-take, take-append-le}
use Rattle.std.proofs.lemmas.Bool.{cases_lt}
use Rattle.enfilade_core.specs.declared.stored_node.StoredNode.{StoredNode}
use Rattle.enfilade_core.specs.declared.summary.Summary.{Summary}
use Rattle.enfilade_core.specs.declared.balance_state.BalanceState.{BalanceState}
use Rattle.enfilade_core.specs.Rows.{Shape, Rows, node_at}
use Rattle.enfilade_core.specs.Axes.{Widths}
use Rattle.enfilade_core.specs.WellFormed.{IsWellFormed, AreWellFormed}
use Rattle.enfilade_core.specs.Summary.{summary_in, summaries, kept}
use Rattle.enfilade_core.specs.BalanceState.{balance_state_in, balance_states, kept_balance_state}
use Rattle.enfilade_core.specs.Plain.{shape}
use Rattle.enfilade_core.specs.StoredNode.{held_shapes, IsArena}
use Rattle.enfilade_core.proofs.Tables.{table-none, table-take, table-push}

pub well_formed_none : {L : Type 0} (w : Widths L) → AreWellFormed w []
well_formed_none w = record { each = λ k lt. absurd (omega arith) }

pub well_formed_take : {L : Type 0} (w : Widths L) (n : ℕ) (nodes : List (Shape L)) → AreWellFormed w nodes → AreWellFormed w (take n nodes)
well_formed_take w n nodes well_formed = record {
  each = λ k lt.
      let short : k < n = omega (arith, length-take n nodes) in
      let within : k < length nodes = omega (arith, length-take n nodes) in
      let front : take k (take n nodes) ≡ take k nodes = take-take k n nodes (omega arith) in
      let node : node_at (take n nodes) k ≡ node_at nodes k = get_or-take n nodes k (Rows []) short in
      rw (front, node) (well_formed.each k within);
}

pub well_formed_push : {L : Type 0} (w : Widths L) (nodes : List (Shape L)) (node : Shape L) → AreWellFormed w nodes → IsWellFormed w nodes node → AreWellFormed w (nodes ++ node ∷ [])
well_formed_push w nodes node well_formed last = record {
  each = λ k lt. elim (cases_lt k (length nodes)) [
    | inl within ↦
        let front : take k (nodes ++ node ∷ []) ≡ take k nodes = take-append-le k nodes (node ∷ []) (omega arith) in
        let same : node_at (nodes ++ node ∷ []) k ≡ node_at nodes k = get_or_append_left nodes (node ∷ []) (Rows []) k within in
        rw (front, same) (well_formed.each k within)
    | inr past ↦
        let at : length nodes ≡ k = omega (arith, length-append nodes (node ∷ [])) in
        let front : take k (nodes ++ node ∷ []) ≡ nodes = take_at nodes (node ∷ []) k at in
        let same : node_at (nodes ++ node ∷ []) k ≡ node = get_or_at nodes node [] (Rows []) k at in
        rw (front, same) last
  ];
}

pub arena-none : {L : Type 0} (plain : L → L) (w : Widths L) (helds : List (StoredNode L)) → helds ≡ [] → IsArena plain w helds
arena-none plain w helds none = rw none record {
  well_formed = well_formed_none w;
  told = sym (ap (map kept) (table-none (summary_in w)));
  stood = sym (ap (map kept_balance_state) (table-none balance_state_in));
}

pub arena-take : {L : Type 0} (plain : L → L) (w : Widths L) (n : ℕ) (old new : List (StoredNode L)) → new ≡ take n old → IsArena plain w old → IsArena plain w new
arena-take {L} plain w n old new is arena =
    let nodes = held_shapes plain old in
    let fewer : held_shapes plain (take n old) ≡ take n nodes = sym (take-map (λ (held : StoredNode L). shape plain held.children) n old) in
    rw is record {
      well_formed = rw fewer (well_formed_take w n nodes arena.well_formed);
      told = sym (take-map (λ (held : StoredNode L). held.summary) n old) ∙ ap (take n) arena.told ∙ take-map kept n (summaries w nodes)
          ∙ ap (map kept) (table-take (summary_in w) n nodes ∙ ap (summaries w) (sym fewer));
      stood = sym (take-map (λ (held : StoredNode L). held.balance_state) n old) ∙ ap (take n) arena.stood ∙ take-map kept_balance_state n (balance_states nodes)
          ∙ ap (map kept_balance_state) (table-take balance_state_in n nodes ∙ ap balance_states (sym fewer));
    }

pub shapes-take : {L : Type 0} (plain : L → L) (n : ℕ) (old new : List (StoredNode L)) → new ≡ take n old → held_shapes plain new ≡ take n (held_shapes plain old)
shapes-take {L} plain n old new is = ap (held_shapes plain) is ∙ sym (take-map (λ (held : StoredNode L). shape plain held.children) n old)

pub shapes-push : {L : Type 0} (plain : L → L) (old new : List (StoredNode L)) (held : StoredNode L) → new ≡ old ++ held ∷ [] → held_shapes plain new ≡ held_shapes plain old ++ shape plain held.children ∷ []
shapes-push {L} plain old new held is = ap (held_shapes plain) is ∙ map-append (λ (held : StoredNode L). shape plain held.children) old (held ∷ [])

pub arena-push : {L : Type 0} (plain : L → L) (w : Widths L) (old new : List (StoredNode L)) (held : StoredNode L) → new ≡ old ++ held ∷ [] → IsArena plain w old
    → IsWellFormed w (held_shapes plain old) (shape plain held.children)
    → held.summary ≡ kept (summary_in w (summaries w (held_shapes plain old)) (shape plain held.children))
    → held.balance_state ≡ kept_balance_state (balance_state_in (balance_states (held_shapes plain old)) (shape plain held.children)) → IsArena plain w new
arena-push {L} plain w old new held is arena well_formed told stood =
    let nodes = held_shapes plain old in
    let node = shape plain held.children in
    let more : held_shapes plain (old ++ held ∷ []) ≡ nodes ++ node ∷ [] = map-append (λ (held : StoredNode L). shape plain held.children) old (held ∷ []) in
    rw is record {
      well_formed = rw more (well_formed_push w nodes node arena.well_formed well_formed);
      told = map-append (λ (held : StoredNode L). held.summary) old (held ∷ []) ∙ ap (λ (s : List Summary). s ++ held.summary ∷ []) arena.told
          ∙ ap (λ (s : Summary). map kept (summaries w nodes) ++ s ∷ []) told ∙ sym (map-append kept (summaries w nodes) (summary_in w (summaries w nodes) node ∷ []))
          ∙ ap (map kept) (sym (table-push (summary_in w) nodes node) ∙ ap (summaries w) (sym more));
      stood = map-append (λ (held : StoredNode L). held.balance_state) old (held ∷ []) ∙ ap (λ (s : List BalanceState). s ++ held.balance_state ∷ []) arena.stood
          ∙ ap (λ (s : BalanceState). map kept_balance_state (balance_states nodes) ++ s ∷ []) stood ∙ sym (map-append kept_balance_state (balance_states nodes) (balance_state_in (balance_states nodes) node ∷ []))
          ∙ ap (map kept_balance_state) (sym (table-push balance_state_in nodes node) ∙ ap balance_states (sym more));
    }

-- a node that is added, with what is kept of it
pub record Added {L : Type 0} (plain : L → L) (w : Widths L) (nodes : List (Shape L)) (new : List (StoredNode L)) (node : Shape L) : Type 0 where
  pub arena : IsArena plain w new
  pub view : held_shapes plain new ≡ nodes ++ node ∷ []

pub arena-add : {L : Type 0} (plain : L → L) (w : Widths L) (old new : List (StoredNode L)) (nodes : List (Shape L)) (held : StoredNode L) → held_shapes plain old ≡ nodes → new ≡ old ++ held ∷ [] → IsArena plain w old
    → IsWellFormed w nodes (shape plain held.children)
    → held.summary ≡ kept (summary_in w (summaries w nodes) (shape plain held.children))
    → held.balance_state ≡ kept_balance_state (balance_state_in (balance_states nodes) (shape plain held.children)) → Added plain w nodes new (shape plain held.children)
arena-add plain w old new nodes held is pushed arena well_formed told stood =
    let node = shape plain held.children in
    record {
      arena = arena-push plain w old new held pushed arena (subst (λ ns. IsWellFormed w ns node) (sym is) well_formed)
          (subst (λ ns. held.summary ≡ kept (summary_in w (summaries w ns) node)) (sym is) told) (subst (λ ns. held.balance_state ≡ kept_balance_state (balance_state_in (balance_states ns) node)) (sym is) stood);
      view = shapes-push plain old new held pushed ∙ ap (λ ns. ns ++ node ∷ []) is;
    }
