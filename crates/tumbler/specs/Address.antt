-- The forms of addresses.
use Rattle.std.specs.Prelude.{◌≡◌, ℕ, zero, suc, ◌<◌, ◌≤◌, ◌⊎◌, ◌&&◌, Bool, nat_lt, nat_le, List, [], ◌∷◌, ◌++◌, length, All}
use Rattle.std.specs.List.{list_all}

-- the most places that an account has, and a document
abbrev pub most_account_places : ℕ
most_account_places = 12

abbrev pub most_document_places : ℕ
most_document_places = 20

-- a field is one or more places, none of them 0
pub record IsField (field : List ℕ) : Type 0 where
  pub filled : 0 < length field
  pub full : All (λ p. 0 < p) field

-- an account is a node field, one 0 and a user field, in no more places than it may have
pub record IsAccount (places : List ℕ) : Type 0 where
  pub node : List ℕ
  pub user : List ℕ
  pub parts : places ≡ node ++ 0 ∷ user
  pub node_field : IsField node
  pub user_field : IsField user
  pub short : length places ≤ most_account_places

-- a document of an account is that account, one 0 and a document field, in no more places than it may have
pub record IsDocumentOf (places account : List ℕ) : Type 0 where
  pub field : List ℕ
  pub parts : places ≡ account ++ 0 ∷ field
  pub account_address : IsAccount account
  pub document_field : IsField field
  pub short : length places ≤ most_document_places

abbrev pub IsDocument : List ℕ → Type 0
IsDocument places = (account : List ℕ) × IsDocumentOf places account

-- a content byte is `document.0.1.n`, and a link that was made in the document is `document.0.2.n`, n from 1
pub record IsMadeIn (places document : List ℕ) : Type 0 where
  pub part : ℕ
  pub number : ℕ
  pub parts : places ≡ document ++ 0 ∷ part ∷ number ∷ []
  pub byte_or_link : (part ≡ 1) ⊎ (part ≡ 2)
  pub counted : 0 < number
  pub document_address : IsDocument document

-- ---- tests

-- the places before the first 0, and those after it
abbrev pub before_first_zero : List ℕ → List ℕ
before_first_zero [] = []
before_first_zero (zero ∷ places) = []
before_first_zero (suc p ∷ places) = suc p ∷ before_first_zero places

abbrev pub after_first_zero : List ℕ → List ℕ
after_first_zero [] = []
after_first_zero (zero ∷ places) = places
after_first_zero (suc p ∷ places) = after_first_zero places

-- whether places are a field
abbrev pub field_test : List ℕ → Bool
field_test field = nat_lt 0 (length field) && list_all (λ p. nat_lt 0 p) field

-- whether places are an account: what stands before the first 0, and what stands after it, are fields
abbrev pub account_test : List ℕ → Bool
account_test places = field_test (before_first_zero places) && field_test (after_first_zero places) && nat_le (length places) most_account_places
