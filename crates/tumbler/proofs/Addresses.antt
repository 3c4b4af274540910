-- A list is cut at its first 0 in one way, so an address has its fields in one way.
use Rattle.std.proofs.Common.{◌⊎◌, inl, inr, subst, get_or, drop, Bool, false, eqb, ◌≡◌, ℕ, ◌+◌, ◌-◌, ◌<◌, ◌≤◌, List, [], ◌∷◌, ◌++◌, length, take, All, refl, arith, ap, ◌∙◌, sym, append_assoc}
use Rattle.std.proofs.lemmas.List.{take_at, length-append, drop_more, drop_all, take-append-drop, get_or_at, get_or-append_right}
use Rattle.std.proofs.lemmas.List.Elements.{All-head, All-tail}
use Rattle.std.proofs.lemmas.Bool.Decides.{nat_tests}
use Rattle.std.proofs.lemmas.Bool.{cases_lt}
use Rattle.tumbler.specs.Places.{EndsWell}
use Rattle.tumbler.specs.Address.{IsField, IsAccount, IsDocument, IsDocumentOf, IsMadeIn}

pub one_cut : (a b x y : List ℕ) → All (λ p. 0 < p) a → All (λ p. 0 < p) b → a ++ 0 ∷ x ≡ b ++ 0 ∷ y → (a ≡ b) × (x ≡ y)
one_cut [] [] x y full_a full_b e = (refl, cc)
one_cut [] (q ∷ b) x y full_a full_b e = absurd (let above : 0 < q = All-head (λ p. 0 < p) q b full_b in let same : 0 ≡ q = cc in omega arith)
one_cut (p ∷ a) [] x y full_a full_b e = absurd (let above : 0 < p = All-head (λ p. 0 < p) p a full_a in let same : p ≡ 0 = cc in omega arith)
one_cut (p ∷ a) (q ∷ b) x y full_a full_b e =
    let rests : a ++ 0 ∷ x ≡ b ++ 0 ∷ y = cc in
    let heads : p ≡ q = cc in
    let more = one_cut a b x y (All-tail (λ p. 0 < p) p a full_a) (All-tail (λ p. 0 < p) q b full_b) rests in
    (cc, more.1)

pub no_cut : (a b x : List ℕ) → All (λ p. 0 < p) a → a ≡ b ++ 0 ∷ x → ⊥
no_cut [] [] x full e = cc
no_cut [] (q ∷ b) x full e = cc
no_cut (p ∷ a) [] x full e = let above : 0 < p = All-head (λ p. 0 < p) p a full in let same : p ≡ 0 = cc in omega arith
no_cut (p ∷ a) (q ∷ b) x full e = no_cut a b x (All-tail (λ p. 0 < p) p a full) cc

-- what the first cut of an account is
pub record CutAccount (node user : List ℕ) : Type 0 where
  pub filled : 0 < length node
  pub user_field : IsField user

pub account-cut : (places node user : List ℕ) → places ≡ node ++ 0 ∷ user → All (λ p. 0 < p) node → IsAccount places → CutAccount node user
account-cut places node user parts full account =
    let same = one_cut node account.node user account.user full account.node_field.full (sym parts ∙ account.parts) in
    record { filled = rw (same.0) account.node_field.filled; user_field = rw (same.1) account.user_field }

-- the two cuts of a document
pub record CutDocument (node user field : List ℕ) : Type 0 where
  pub account : IsAccount (node ++ 0 ∷ user)
  pub document_field : IsField field

pub document-cut : (places node rest user field : List ℕ) → places ≡ node ++ 0 ∷ rest → All (λ p. 0 < p) node → rest ≡ user ++ 0 ∷ field → All (λ p. 0 < p) user → IsDocument places → CutDocument node user field
document-cut places node rest user field parts full_node more full_user document =
    let d = document.1 in
    let a = d.account_address in
    let nested : node ++ 0 ∷ rest ≡ a.node ++ 0 ∷ (a.user ++ 0 ∷ d.field) = sym parts ∙ d.parts ∙ ap (λ (x : List ℕ). x ++ 0 ∷ d.field) a.parts ∙ append_assoc a.node (0 ∷ a.user) (0 ∷ d.field) in
    let first = one_cut node a.node rest (a.user ++ 0 ∷ d.field) full_node a.node_field.full nested in
    let second = one_cut user a.user field d.field full_user a.user_field.full (sym more ∙ first.1) in
    let whole : document.0 ≡ node ++ 0 ∷ user = a.parts ∙ rw (first.0, second.0) refl in
    record { account = rw (← whole) a; document_field = rw (second.1) d.document_field }

-- a document has two cuts
pub document-one_cut : (places node rest : List ℕ) → places ≡ node ++ 0 ∷ rest → All (λ p. 0 < p) node → All (λ p. 0 < p) rest → IsDocument places → ⊥
document-one_cut places node rest parts full_node full_rest document =
    let d = document.1 in
    let a = d.account_address in
    let nested : node ++ 0 ∷ rest ≡ a.node ++ 0 ∷ (a.user ++ 0 ∷ d.field) = sym parts ∙ d.parts ∙ ap (λ (x : List ℕ). x ++ 0 ∷ d.field) a.parts ∙ append_assoc a.node (0 ∷ a.user) (0 ∷ d.field) in
    let first = one_cut node a.node rest (a.user ++ 0 ∷ d.field) full_node a.node_field.full nested in
    no_cut rest a.user d.field full_rest first.1

pub document-no_cut : (places : List ℕ) → All (λ p. 0 < p) places → IsDocument places → ⊥
document-no_cut places full document =
    let d = document.1 in
    no_cut places document.0 d.field full d.parts

pub front-take : (places node rest user field : List ℕ) → places ≡ node ++ 0 ∷ rest → rest ≡ user ++ 0 ∷ field → take (length node + 1 + length user) places ≡ node ++ 0 ∷ user
front-take places node rest user field parts more =
    let whole : places ≡ (node ++ 0 ∷ user) ++ 0 ∷ field = parts ∙ ap (λ (x : List ℕ). node ++ 0 ∷ x) more ∙ sym (append_assoc node (0 ∷ user) (0 ∷ field)) in
    rw whole (take_at (node ++ 0 ∷ user) (0 ∷ field) (length node + 1 + length user) (omega (arith, length-append node (0 ∷ user))))

pub account-filled : (node : List ℕ) (b : Bool) → b ≡ eqb (length node) 0 → b ≡ false → 0 < length node
account-filled node b e f = grind (arith, nat_tests)

pub account-of : (places node rest user field : List ℕ) → places ≡ node ++ 0 ∷ rest → rest ≡ user ++ 0 ∷ field → IsAccount (node ++ 0 ∷ user) → IsField field → length places ≤ 20 → IsDocumentOf places (node ++ 0 ∷ user)
account-of places node rest user field parts more account document_field short = record {
  field = field;
  parts = parts ∙ ap (λ (x : List ℕ). node ++ 0 ∷ x) more ∙ sym (append_assoc node (0 ∷ user) (0 ∷ field));
  account_address = account;
  document_field = document_field;
  short = short;
}

-- ---- what is made in a document

pub last_three : (xs : List ℕ) (n : ℕ) → length xs ≡ n + 3 → xs ≡ take n xs ++ get_or xs n 0 ∷ get_or xs (n + 1) 0 ∷ get_or xs (n + 2) 0 ∷ []
last_three xs n e =
    let third : drop (n + 1 + 1) xs ≡ get_or xs (n + 2) 0 ∷ [] = drop_more xs (n + 1 + 1) 0 (omega arith) ∙ rw (drop_all (n + 1 + 1 + 1) xs (omega arith)) (ap (λ (k : ℕ). get_or xs k 0 ∷ []) (omega arith)) in
    let second : drop (n + 1) xs ≡ get_or xs (n + 1) 0 ∷ get_or xs (n + 2) 0 ∷ [] = drop_more xs (n + 1) 0 (omega arith) ∙ ap (λ (r : List ℕ). get_or xs (n + 1) 0 ∷ r) third in
    let first : drop n xs ≡ get_or xs n 0 ∷ get_or xs (n + 1) 0 ∷ get_or xs (n + 2) 0 ∷ [] = drop_more xs n 0 (omega arith) ∙ ap (λ (r : List ℕ). get_or xs n 0 ∷ r) second in
    sym (take-append-drop n xs) ∙ ap (λ (r : List ℕ). take n xs ++ r) first

-- the parts of such an address, read by index
pub record MadeParts (places document : List ℕ) (n : ℕ) : Type 0 where
  pub front : document ≡ take n places
  pub zero_at : get_or places n 0 ≡ 0
  pub part_at : (get_or places (n + 1) 0 ≡ 1) ⊎ (get_or places (n + 1) 0 ≡ 2)

pub made-long : (places document : List ℕ) → IsMadeIn places document → 3 ≤ length places
made-long places document m = omega (arith, ap length m.parts, length-append document (0 ∷ m.part ∷ m.number ∷ []))

pub made-parts : (places document : List ℕ) (n : ℕ) → length places ≡ n + 3 → IsMadeIn places document → MadeParts places document n
made-parts places document n e m =
    let tail : List ℕ = 0 ∷ m.part ∷ m.number ∷ [] in
    let len : length document ≡ n = omega (arith, ap length m.parts, length-append document tail) in
    record {
      front = rw m.parts (sym (take_at document tail n len));
      zero_at = rw m.parts (get_or_at document 0 (m.part ∷ m.number ∷ []) 0 n len);
      part_at =
          let second : n + 1 - n ≡ 1 = omega arith in
          let read : get_or (document ++ tail) (n + 1) 0 ≡ m.part = get_or-append_right document tail n (n + 1) 0 len (omega arith) ∙ ap (λ (k : ℕ). get_or tail k 0) second in
          subst (λ (x : ℕ). (x ≡ 1) ⊎ (x ≡ 2)) (sym (ap (λ (xs : List ℕ). get_or xs (n + 1) 0) m.parts ∙ read)) m.byte_or_link;
    }

pub made_from : (places : List ℕ) (n : ℕ) → length places ≡ n + 3 → EndsWell places → get_or places n 0 ≡ 0 → (get_or places (n + 1) 0 ≡ 1) ⊎ (get_or places (n + 1) 0 ≡ 2) → IsDocument (take n places) → IsMadeIn places (take n places)
made_from places n e ends zero_at part document = record {
  part = get_or places (n + 1) 0;
  number = get_or places (n + 2) 0;
  parts = last_three places n e ∙ ap (λ (x : ℕ). take n places ++ x ∷ get_or places (n + 1) 0 ∷ get_or places (n + 2) 0 ∷ []) zero_at;
  byte_or_link = part;
  counted =
      let last : length places - 1 ≡ n + 2 = omega arith in
      let not_zero : get_or places (n + 2) 0 ≡ 0 → length places ≡ 0 = subst (λ (k : ℕ). get_or places k 0 ≡ 0 → length places ≡ 0) last ends in
      elim (cases_lt 0 (get_or places (n + 2) 0)) [ inl lt ↦ lt | inr le ↦ absurd (let none : length places ≡ 0 = not_zero (omega arith) in omega arith) ];
  document_address = document;
}
