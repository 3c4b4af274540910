-- What a test of a bound decides.
use Rattle.std.proofs.Common.{◌≡◌, ◌↔◌, ℕ, ◌≤◌, true, false, IsTrue, List, length, sym, refl, arith, subst, true≢false}
use Rattle.std.specs.Prelude.{nat_lt}
use Rattle.std.proofs.lemmas.Bool.{ltb-false}
use Rattle.std.proofs.lemmas.Bool.Decides.{nat_tests}
use Rattle.febe_data.specs.declared.run.Run.{Run}

pub few : (n : ℕ) → nat_lt 65536 n ≡ false → IsTrue true ↔ n ≤ 65536
few n short = ((λ yes. ltb-false 65536 n short), (λ le. refl))

pub many : (n : ℕ) → nat_lt 65536 n ≡ true → IsTrue false ↔ n ≤ 65536
many n long = ((λ no. absurd (true≢false (sym no))), (λ le. grind (arith, nat_tests)))

pub few_runs : (runs picked : List Run) → runs ≡ picked → nat_lt 65536 (length runs) ≡ false → IsTrue true ↔ length picked ≤ 65536
few_runs runs picked are short = few (length picked) (subst (λ (rs : List Run). nat_lt 65536 (length rs) ≡ false) are short)

pub ruleset counted = (few, many, few_runs)
