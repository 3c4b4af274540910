-- What a contract sees of a list.
use Rattle.std.specs.Prelude.{ℕ, List, length, refl}
use Rattle.std.specs.Coded.{Coded, code_by, coded×, coded_ℕ, coded_list}

-- the items in order, and how many places are kept in reserve
pub record ListView (T : Type 0) : Type 0 where
  pub items : List T
  pub spare : ℕ

-- a list is stored as the pair of its fields
abbrev pub list_code : {T : Type 0} → Coded T → Coded (ListView T)
list_code {T} code =
    code_by (List T × ℕ) (coded× (coded_list code) coded_ℕ) (λ l. (l.items, l.spare))
    (λ p. record { items = p.0; spare = p.1 }) (λ _. refl)

-- the number of items
abbrev pub list_len : {T : Type 0} → ListView T → ℕ
list_len l = length l.items
