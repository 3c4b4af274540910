-- Content bytes and links that have come are in the lists of bytes and links.
use Rattle.std.proofs.Common.{◌≡◌, ◌⊎◌, inl, inr, ℕ, zero, suc, ◌+◌, ◌<◌, ◌≤◌, ◌∙◌, Bool, true, false, List, [], ◌∷◌, ◌++◌, map, ap, sym, refl, arith}
use Rattle.std.specs.Prelude.{filter}
use Rattle.std.specs.List.{list_any}
use Rattle.std.specs.Cmp.Lexicographic.{bytes_decides}
use Rattle.std.proofs.lemmas.Bool.{or_left, or_right, or_cases, cases_lt, true≢false}
use Rattle.world_rules.specs.declared.rows.ByteRow.{ByteRow}
use Rattle.world_rules.specs.World.{World, LinkRow, is_same, is_child_of, content_address, link_address, content_length, links_made_in}
use Rattle.world_rules.specs.Apply.{world_of}
use Rattle.world_rules.specs.Laws.{numbers_from}
use Rattle.world_rules.proofs.Linked.{links_numbered}
use Rattle.world_elders.specs.Laws.{BytesAreThere, LinksAreThere}
use Rattle.world_elders.proofs.Content.{numbers_content}

-- what stands at a number of a row
number_step : (f : ℕ → List ℕ) (n k m : ℕ) → m < n + suc k → (n + 1 ≤ m → m < (n + 1) + k → list_any (λ (address : List ℕ). is_same address (f m)) (map f (numbers_from (n + 1) k)) ≡ true) → (n < m) ⊎ (m ≤ n) → n ≤ m
    → list_any (λ (address : List ℕ). is_same address (f m)) (map f (numbers_from n (suc k))) ≡ true
number_step f n k m high rest (inl later) low =
    or_right (is_same (f n) (f m)) (list_any (λ (address : List ℕ). is_same address (f m)) (map f (numbers_from (n + 1) k))) (rest (omega arith) (omega arith))
number_step f n k m high rest (inr first) low =
    let same : n ≡ m = omega arith in
    or_left (is_same (f n) (f m)) (list_any (λ (address : List ℕ). is_same address (f m)) (map f (numbers_from (n + 1) k))) ((bytes_decides (f n) (f m)).1 (ap f same))

at_number : (f : ℕ → List ℕ) (n k m : ℕ) → n ≤ m → m < n + k → list_any (λ (address : List ℕ). is_same address (f m)) (map f (numbers_from n k)) ≡ true
at_number f n zero m low high = absurd (omega arith)
at_number f n (suc k) m low high = number_step f n k m high (at_number f (n + 1) k m) (cases_lt n m) low

-- what some of those are is among all
module _ {X : Type 0} (f : X → List ℕ) (p : X → Bool) (address : List ℕ) where
  among_step : (x : X) (xs : List X) (passes : Bool) → p x ≡ passes → list_any (λ (a : List ℕ). is_same a address) (map f (filter p (x ∷ xs))) ≡ true
      → (list_any (λ (a : List ℕ). is_same a address) (map f (filter p xs)) ≡ true → list_any (λ (y : X). is_same (f y) address) xs ≡ true)
      → list_any (λ (y : X). is_same (f y) address) (x ∷ xs) ≡ true
  among_step x xs true e found rest = by_place (or_cases (is_same (f x) address) (list_any (λ (a : List ℕ). is_same a address) (map f (filter p xs))) (rw e at found))
    where
      by_place : (is_same (f x) address ≡ true) ⊎ (list_any (λ (a : List ℕ). is_same a address) (map f (filter p xs)) ≡ true) → list_any (λ (y : X). is_same (f y) address) (x ∷ xs) ≡ true
      by_place (inl here) = or_left (is_same (f x) address) (list_any (λ (y : X). is_same (f y) address) xs) here
      by_place (inr later) = or_right (is_same (f x) address) (list_any (λ (y : X). is_same (f y) address) xs) (rest later)
  among_step x xs false e found rest = or_right (is_same (f x) address) (list_any (λ (y : X). is_same (f y) address) xs) (rest (rw e at found))

  among : (xs : List X) → list_any (λ (a : List ℕ). is_same a address) (map f (filter p xs)) ≡ true → list_any (λ (y : X). is_same (f y) address) xs ≡ true
  among [] found = absurd (true≢false (sym found))
  among (x ∷ xs) found = among_step x xs (p x) refl found (among xs)

pub bytes_are_there : BytesAreThere
bytes_are_there history placed address is =
    let world : World = world_of history in
    let there : list_any (λ (a : List ℕ). is_same a (content_address is.document is.number)) (map (content_address is.document) (numbers_from 1 (content_length (world_of history) is.document))) ≡ true =
    at_number (content_address is.document) 1 (content_length (world_of history) is.document) is.number is.from_one (omega (arith, is.to_length)) in
    among (λ (b : ByteRow). b.address) (λ (b : ByteRow). is_child_of (is.document ++ 0 ∷ 1 ∷ []) b.address) address world.bytes
    (ap (list_any (λ (a : List ℕ). is_same a address)) (numbers_content history placed is.document)
    ∙ ap (λ (x : List ℕ). list_any (λ (a : List ℕ). is_same a x) (map (content_address is.document) (numbers_from 1 (content_length (world_of history) is.document)))) is.parts
    ∙ there)

pub links_are_there : LinksAreThere
links_are_there history placed address is =
    let world : World = world_of history in
    let there : list_any (λ (a : List ℕ). is_same a (link_address is.home is.number)) (map (link_address is.home) (numbers_from 1 (links_made_in (world_of history) is.home))) ≡ true =
    at_number (link_address is.home) 1 (links_made_in (world_of history) is.home) is.number is.from_one (omega (arith, is.to_count)) in
    among (λ (l : LinkRow). l.id) (λ (l : LinkRow). is_same l.home is.home) address world.links
    (ap (list_any (λ (a : List ℕ). is_same a address)) (links_numbered history placed is.home)
    ∙ ap (λ (x : List ℕ). list_any (λ (a : List ℕ). is_same a x) (map (link_address is.home) (numbers_from 1 (links_made_in (world_of history) is.home)))) is.parts
    ∙ there)
