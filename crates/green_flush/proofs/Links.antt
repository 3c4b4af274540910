-- Numbered links have all lesser numbers of their homes.
use Rattle.std.proofs.Common.{◌≡◌, ◌⊎◌, ℕ, zero, suc, ◌+◌, ◌<◌, ◌≤◌, arith, Bool, true, false, List, [], ◌∷◌, map, All, inl, inr, refl, sym, ap, ◌∙◌, subst}
use Rattle.std.proofs.Math.Nat.{eq-or-lt_of_le}
use Rattle.std.specs.Prelude.{filter}
use Rattle.std.specs.List.{Contains}
use Rattle.std.specs.Cmp.Lexicographic.{bytes_decides}
use Rattle.std.proofs.lemmas.List.Elements.{All-head, All-tail}
use Rattle.world_rules.specs.World.{link_address}
use Rattle.world_rules.specs.Laws.{numbers_from}
use Rattle.page_tables.specs.Plain.{PlainLink, PlainTables}
use Rattle.poom.specs.Pieces.{address_in}
use Rattle.table_checks.specs.TableRows.{is_of_home, links_in_home}
use Rattle.table_checks.specs.Sound.{AreNumbered, AreSound}
use Rattle.table_checks.proofs.Numbered.{HasLinkId, all_made}
use Rattle.content_checks.specs.Listed.{AreDocuments, AreLinks, listed_ids}
use Rattle.content_checks.proofs.DocumentBytes.{one_address}

-- ---- members of lists

abbrev IsIn : {X : Type 0} → X → List X → Type 0
IsIn x [] = ⊥
IsIn x (y ∷ ys) = (y ≡ x) ⊎ IsIn x ys

is-in : {X : Type 0} (x : X) (xs : List X) → Contains xs x → IsIn x xs
is-in x [] (k, lt, is) = absurd (omega (arith, lt))
is-in x (y ∷ ys) (zero, lt, is) = inl is
is-in x (y ∷ ys) (suc k, lt, is) = inr (is-in x ys (k, omega (arith, lt), is))

contained : {X : Type 0} (x : X) (xs : List X) → IsIn x xs → Contains xs x
contained x [] is = absurd is
contained x (y ∷ ys) (inl e) = (0, omega arith, e)
contained x (y ∷ ys) (inr more) =
    let rest = contained x ys more in
    (suc rest.0, omega (arith, rest.1), rest.2)

in-map : {X Y : Type 0} (f : X → Y) (x : X) (xs : List X) → IsIn x xs → IsIn (f x) (map f xs)
in-map f x [] is = absurd is
in-map f x (y ∷ ys) (inl e) = inl (ap f e)
in-map f x (y ∷ ys) (inr more) = inr (in-map f x ys more)

from-map : {X Y : Type 0} (f : X → Y) (b : Y) (xs : List X) → IsIn b (map f xs) → (x : X) × IsIn x xs × (f x ≡ b)
from-map f b [] is = absurd is
from-map f b (y ∷ ys) (inl e) = (y, inl refl, e)
from-map f b (y ∷ ys) (inr more) = let rest = from-map f b ys more in (rest.0, inr rest.1, rest.2)

filter-step : {X : Type 0} (p : X → Bool) (x y : X) (ys : List X) (b : Bool) → p y ≡ b → IsIn x (filter p (y ∷ ys)) → (y ≡ x) ⊎ IsIn x (filter p ys)
filter-step p x y ys true e is = let all : filter p (y ∷ ys) ≡ y ∷ filter p ys = rw e refl in subst (IsIn x) all is
filter-step p x y ys false e is = let all : filter p (y ∷ ys) ≡ filter p ys = rw e refl in inr (subst (IsIn x) all is)

from-filter : {X : Type 0} (p : X → Bool) (x : X) (xs : List X) → IsIn x (filter p xs) → IsIn x xs
from-filter p x [] is = absurd is
from-filter p x (y ∷ ys) is = elim (filter-step p x y ys (p y) refl is) [
  | inl e ↦ inl e
  | inr more ↦ inr (from-filter p x ys more)
]

kept : {X : Type 0} (p : X → Bool) (x y : X) (ys : List X) (b : Bool) → p y ≡ b → IsIn x (filter p ys) → IsIn x (filter p (y ∷ ys))
kept p x y ys true e is = let all : filter p (y ∷ ys) ≡ y ∷ filter p ys = rw e refl in subst (IsIn x) (sym all) (inr is)
kept p x y ys false e is = let all : filter p (y ∷ ys) ≡ filter p ys = rw e refl in subst (IsIn x) (sym all) is

in-filter : {X : Type 0} (p : X → Bool) (x : X) (xs : List X) → p x ≡ true → IsIn x xs → IsIn x (filter p xs)
in-filter p x [] passes is = absurd is
in-filter p x (y ∷ ys) passes (inl e) =
    let own : p y ≡ true = ap p e ∙ passes in
    let all : filter p (y ∷ ys) ≡ y ∷ filter p ys = rw own refl in
    subst (IsIn x) (sym all) (inl e)
in-filter p x (y ∷ ys) passes (inr more) = kept p x y ys (p y) refl (in-filter p x ys passes more)

in-numbers : (m a c : ℕ) → IsIn m (numbers_from a c) → (a ≤ m) × (m < a + c)
in-numbers m a zero is = absurd is
in-numbers m a (suc c) (inl e) = (omega (arith, e), omega (arith, e))
in-numbers m a (suc c) (inr more) = let rest = in-numbers m (a + 1) c more in (omega (arith, rest.0), omega (arith, rest.1))

numbers-in : (m a c : ℕ) → a ≤ m → m < a + c → IsIn m (numbers_from a c)
numbers-in m a zero le lt = absurd (omega (arith, le, lt))
numbers-in m a (suc c) le lt = elim (eq-or-lt_of_le le) [
  | inl e ↦ inl e
  | inr more ↦ inr (numbers-in m (a + 1) c (omega (arith, more)) (omega (arith, lt)))
]

all-in : {X : Type 0} (P : X → Type 0) (x : X) (xs : List X) → All P xs → IsIn x xs → P x
all-in P x [] all is = absurd is
all-in P x (y ∷ ys) all (inl e) = subst P e (All-head P y ys all)
all-in P x (y ∷ ys) all (inr more) = all-in P x ys (All-tail P y ys all) more

-- ---- links

pub lesser-listed : (links : List PlainLink) → AreNumbered links → (home : List ℕ) (n m : ℕ) → Contains (listed_ids links) (address_in 2 home n) → 1 ≤ m → m ≤ n → Contains (listed_ids links) (address_in 2 home m)
lesser-listed links numbered home n m listed some le =
    let id = λ (link : PlainLink). link.id in
    let found = from-map id (address_in 2 home n) links (is-in (address_in 2 home n) (listed_ids links) listed) in
    let made = all-in HasLinkId found.0 links (all_made [] links numbered) found.1 in
    let parts = one_address 2 2 made.number n found.0.home home (sym made.id ∙ found.2) in
    let own : is_of_home home found.0 ≡ true = (bytes_decides found.0.home home).1 parts.0 in
    let of_home = in-map id found.0 (filter (is_of_home home) links) (in-filter (is_of_home home) found.0 links own found.1) in
    let count = links_in_home links home in
    let number = from-map (link_address home) found.0.id (numbers_from 1 count) (subst (IsIn found.0.id) (numbered home) of_home) in
    let same = one_address 2 2 number.0 n home home (number.2 ∙ found.2) in
    let bounds = in-numbers number.0 1 count number.1 in
    let there = in-map (link_address home) m (numbers_from 1 count) (numbers-in m 1 count some (omega (arith, le, same.2, bounds.1))) in
    let listed_there = from-map id (link_address home m) (filter (is_of_home home) links) (subst (IsIn (link_address home m)) (sym (numbered home)) there) in
    contained (address_in 2 home m) (listed_ids links) (subst (λ (x : List ℕ). IsIn x (listed_ids links)) listed_there.2 (in-map id listed_there.0 links (from-filter (is_of_home home) listed_there.0 links listed_there.1)))

pub are-documents : (tables : PlainTables) → AreSound tables → AreDocuments tables.documents
are-documents tables sound = record { addresses = sound.documents; ascend = sound.documents_ascend }

pub are-links : (tables : PlainTables) → AreSound tables → AreLinks tables.links
are-links tables sound = record { ascend = sound.links_ascend; numbered = lesser-listed tables.links sound.numbered }
