-- A span of all text, and how many bytes runs have.
use Rattle.std.proofs.Common.{◌≡◌, ◌∙◌, ℕ, zero, suc, ◌+◌, List, [], ◌∷◌, length, refl, sym, ap, length-append}
use Rattle.std.proofs.lemmas.List.Sums.{sum_by-cons}
use Rattle.febe_data.specs.declared.run.Run.{Run}
use Rattle.poom.specs.Picked.{picked_from}
use Rattle.poom.specs.Pieces.{addresses_from}
use Rattle.poom.specs.Edited.{run_addresses}
use Rattle.tree_world.specs.Changed.{whole_text, total_bytes}

pub whole_picked : (n : ℕ) (addresses : List (List ℕ)) → picked_from 1 whole_text n addresses ≡ addresses
whole_picked n [] = refl
whole_picked n (address ∷ addresses) = ap (λ xs. address ∷ xs) (whole_picked (n + 1) addresses)

so_many : (document : List ℕ) (first count : ℕ) → length (addresses_from 1 document first count) ≡ count
so_many document first zero = refl
so_many document first (suc count) = ap suc (so_many document (first + 1) count)

pub total_is : (runs : List Run) → length (run_addresses runs) ≡ total_bytes runs
total_is [] = refl
total_is (run ∷ runs) =
    length-append (addresses_from 1 run.content run.first run.length) (run_addresses runs) ∙ (λ i. so_many run.content run.first run.length i + total_is runs i) ∙ sym (sum_by-cons (λ (r : Run). r.length) run runs)
