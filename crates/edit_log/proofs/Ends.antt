-- What a log has at its end while its gate is closed.
use Rattle.std.proofs.Common.{◌≡◌, ◌≢◌, ◌⊎◌, inl, inr, ⊎_elim, ℕ, ◌≤◌, true, false, List, [], ◌∷◌, ◌++◌, length, refl, sym, ◌∙◌, ap, subst, Option, None, Some, Result, Ok, Err, OnOk, arith, length-append}
use Rattle.std.proofs.lemmas.Bool.Decides.{nat_tests}
use Rattle.std.proofs.lemmas.List.{append-nil}
use Rattle.green_io.specs.declared.disk.Area.TheVariants as area
use Rattle.green_io.specs.Areas.{Areas}
use Rattle.green_io.specs.Disk.{Written, Torn, Changes}
use Rattle.edit_log.specs.Images.{IsShut}
use Rattle.edit_log.specs.inside.Ends.{IsThat, HasTornGate, ClosesEnd, begins_shut}
use Rattle.edit_log.proofs.Parts.{torn_behind, written_behind, written_last, torn_gate, written_at}

short : (bytes : List ℕ) → length bytes ≤ 1 → (bytes ≡ []) ⊎ ((byte : ℕ) × (bytes ≡ byte ∷ []))
short [] few = inl refl
short (byte ∷ []) few = inr (byte, refl)
short (byte ∷ more ∷ rest) few = absurd (omega arith)

-- a torn write of one byte at the end of what is there
torn_end : (front old new : List ℕ) → old ≡ front → Torn (length front) 1 old new → (new ≡ front) ⊎ ((byte : ℕ) × (new ≡ front ++ (byte ∷ [])))
torn_end front old new is torn =
    let found = torn_behind front [] old new (length front) 1 (is ∙ sym (append-nil front)) refl torn in
    let few : length found.0 ≤ 1 = omega (arith, torn.no_longer, ap length is, ap length found.1, length-append front found.0) in
    ⊎_elim
    (λ none. inl (found.1 ∙ ap (λ (l : List ℕ). front ++ l) none ∙ append-nil front))
    (λ one. inr (one.0, found.1 ∙ ap (λ (l : List ℕ). front ++ l) one.1))
    (short found.0 few)

not_zero : (gate : ℕ) (rest : List ℕ) → begins_shut (gate ∷ rest) ≡ false → gate ≢ 0
not_zero gate rest other = grind (arith, nat_tests)

-- the gate is torn, where it was not 0
pub torn_at_end : (front end old new : List ℕ) → begins_shut end ≡ false → IsThat (front ++ end) old → Torn (length front) 1 old new → HasTornGate front end new
torn_at_end front [] old new open_gate is torn = torn_end front old new (is ∙ append-nil front) torn
torn_at_end front (gate ∷ rest) old new open_gate is torn =
    (not_zero gate rest open_gate, torn_gate front gate rest old new is torn)

-- the gate is 0 afterwards
pub written_at_end : (front end old new : List ℕ) → IsThat (front ++ end) old → Written (length front) (0 ∷ []) old new → IsShut front new
written_at_end front [] old new is written =
    written_behind front [] old new (0 ∷ []) (length front) is refl written
written_at_end front (gate ∷ rest) old new is written =
    (rest, written_at front (gate ∷ []) rest old new (0 ∷ []) (length front) is refl refl written)

gate_zero : (gate : ℕ) (rest : List ℕ) → begins_shut (gate ∷ rest) ≡ true → gate ≡ 0
gate_zero gate rest closed = grind (arith, nat_tests)

-- a gate that is 0 was 0
pub shut_at_end : (front end log : List ℕ) → begins_shut end ≡ true → IsThat (front ++ end) log → IsShut front log
shut_at_end front [] log closed is = absurd (cc closed)
shut_at_end front (gate ∷ rest) log closed is = (rest, is ∙ ap (λ (k : ℕ). front ++ (k ∷ rest)) (gate_zero gate rest closed))

-- what was written to the gate, in what the log reads
written_end : (front end old new : List ℕ) → Written (length front) (0 ∷ []) old new → ClosesEnd front end old new
written_end front [] old new written is = written_last front old new (0 ∷ []) (is ∙ append-nil front) written
written_end front (gate ∷ rest) old new written is =
    written_at front (gate ∷ []) rest old new (0 ∷ []) (length front) is refl refl written

written_to : (front end : List ℕ) (at : ℕ) (old new : Option Areas) → at ≡ length front → Changes area.Second (Written at (0 ∷ [])) old new → Changes area.Second (ClosesEnd front end) old new
written_to front end at None None is changes = tt
written_to front end at None (Some y) is changes = absurd changes
written_to front end at (Some x) None is changes = absurd changes
written_to front end at (Some x) (Some y) is changes =
    (written_end front end x.second y.second (subst (λ (k : ℕ). Written k (0 ∷ []) x.second y.second) is changes.0), changes.1)

pub written_reads : {T E : Type 0} (r : Result T E) (front end : List ℕ) (at : ℕ) (old new : Option Areas) → at ≡ length front → OnOk r (Changes area.Second (Written at (0 ∷ [])) old new) → OnOk r (Changes area.Second (ClosesEnd front end) old new)
written_reads (Ok x) front end at old new is changes = written_to front end at old new is changes
written_reads (Err e) front end at old new is changes = tt

-- a gate that is 0 stays
shut_stays : (front end log : List ℕ) → begins_shut end ≡ true → ClosesEnd front end log log
shut_stays front [] log closed is = absurd (cc closed)
shut_stays front (gate ∷ rest) log closed is = is ∙ ap (λ (k : ℕ). front ++ (k ∷ rest)) (gate_zero gate rest closed)

pub shut_reads : (front end : List ℕ) (reads : Option Areas) → begins_shut end ≡ true → Changes area.Second (ClosesEnd front end) reads reads
shut_reads front end None closed = tt
shut_reads front end (Some areas) closed = (shut_stays front end areas.second closed, λ other apart. refl)
