-- What is made of fields is read as it is written, as the fields are.
use Rattle.std.proofs.Common.{◌≡◌, ℕ, List, ◌++◌, length, Option, Some, refl, sym, ap, subst, ◌∙◌, append_assoc}
use Rattle.std.specs.List.{flat_map}
use Rattle.std.proofs.lemmas.Option.{some_pair_parts}
use Rattle.febe_fields.specs.Reading.{◌>>=◌, many_at}
use Rattle.febe_fields.proofs.ListLaws.{ReadsAgain, many_again}
use Rattle.disk_fields.specs.Format.{IsU32, AreCounted, u32_bytes, list_bytes}
use Rattle.disk_fields.specs.Reading.{u32_at, both_at, made_at, counted_at}
use Rattle.disk_fields.specs.Codec.{ReadsRight, Codec}
use Rattle.disk_fields.proofs.FieldLaws.{two, field, u32_right, u32_again, many_right}

-- ---- one behind the other

both_again : {X Y : Type 0} {A : X → Type 0} {B : Y → Type 0} {a : List ℕ → Option (X × List ℕ)} {b : List ℕ → Option (Y × List ℕ)} {sa : X → List ℕ} {sb : Y → List ℕ}
    → Codec A a sa → Codec B b sb → ReadsAgain (λ (p : X × Y). A p.0 × B p.1) (both_at a b) (λ (p : X × Y). sa p.0 ++ sb p.1)
unfolding both_at
both_again {a} {b} {sa} {sb} first second p rest h =
    ap (both_at a b) (append_assoc (sa p.0) (sb p.1) rest) ∙ rw (first.again p.0 (sb p.1 ++ rest) h.0, second.again p.1 rest h.1) refl

both_right : {X Y : Type 0} {A : X → Type 0} {B : Y → Type 0} {a : List ℕ → Option (X × List ℕ)} {b : List ℕ → Option (Y × List ℕ)} {sa : X → List ℕ} {sb : Y → List ℕ}
    → Codec A a sa → Codec B b sb → ReadsRight (λ (p : X × Y). A p.0 × B p.1) (both_at a b) (λ (p : X × Y). sa p.0 ++ sb p.1)
unfolding both_at
both_right {X} {Y} {A} {B} {a} {b} {sa} {sb} first second bytes rest p are e =
    let f = field A a sa first.right bytes are (λ x. b x.1 >>= λ y. Some ((x.0, y.0), y.1)) (p, rest) e in
    let g = field B b sb second.right f.rest f.are (λ y. Some ((f.value, y.0), y.1)) (p, rest) f.goes in
    let made : X × Y = (f.value, g.value) in
    let q = some_pair_parts made p g.rest rest g.goes in
    subst (λ (r : X × Y). (bytes ≡ (sa r.0 ++ sb r.1) ++ rest) × (A r.0 × B r.1)) q.0
    (two bytes (sa f.value) f.rest (sb g.value) rest f.split (g.split ∙ ap (λ (ds : List ℕ). sb g.value ++ ds) q.1), (f.right, g.right))

pub both : {X Y : Type 0} {A : X → Type 0} {B : Y → Type 0} {a : List ℕ → Option (X × List ℕ)} {b : List ℕ → Option (Y × List ℕ)} {sa : X → List ℕ} {sb : Y → List ℕ}
    → Codec A a sa → Codec B b sb → Codec (λ (p : X × Y). A p.0 × B p.1) (both_at a b) (λ (p : X × Y). sa p.0 ++ sb p.1)
both first second = record { again = both_again first second; right = both_right first second }

-- ---- made of what is read

made_again : {X Y : Type 0} {A : X → Type 0} {a : List ℕ → Option (X × List ℕ)} {sa : X → List ℕ} (make : X → Y) (parts : Y → X)
    → Codec A a sa → ReadsAgain (λ (y : Y). (make (parts y) ≡ y) × A (parts y)) (made_at make a) (λ (y : Y). sa (parts y))
unfolding made_at
made_again {Y} make parts codec y rest h = rw (codec.again (parts y) rest h.1) (ap (λ (z : Y). Some (z, rest)) h.0)

made_right : {X Y : Type 0} {A : X → Type 0} {a : List ℕ → Option (X × List ℕ)} {sa : X → List ℕ} (make : X → Y) (parts : Y → X) → ((x : X) → parts (make x) ≡ x)
    → Codec A a sa → ReadsRight (λ (y : Y). (make (parts y) ≡ y) × A (parts y)) (made_at make a) (λ (y : Y). sa (parts y))
unfolding made_at
made_right {X} {Y} {A} {a} {sa} make parts back codec bytes rest y are e =
    let f = field A a sa codec.right bytes are (λ x. Some (make x.0, x.1)) (y, rest) e in
    let q = some_pair_parts (make f.value) y f.rest rest f.goes in
    let is : parts y ≡ f.value = ap parts (sym q.0) ∙ back f.value in (
      f.split ∙ ap (λ (ds : List ℕ). sa f.value ++ ds) q.1 ∙ ap (λ (x : X). sa x ++ rest) (sym is),
      (ap make is ∙ q.0, subst A (sym is) f.right),
    )

pub made : {X Y : Type 0} {A : X → Type 0} {a : List ℕ → Option (X × List ℕ)} {sa : X → List ℕ} (make : X → Y) (parts : Y → X) → ((x : X) → parts (make x) ≡ x)
    → Codec A a sa → Codec (λ (y : Y). (make (parts y) ≡ y) × A (parts y)) (made_at make a) (λ (y : Y). sa (parts y))
made make parts back codec = record { again = made_again make parts codec; right = made_right make parts back codec }

-- ---- counted

counted_again : {X : Type 0} {A : X → Type 0} {a : List ℕ → Option (X × List ℕ)} {sa : X → List ℕ} → Codec A a sa → ReadsAgain (AreCounted A) (counted_at a) (list_bytes sa)
unfolding counted_at
counted_again {A} {a} {sa} codec xs rest h =
    ap (counted_at a) (append_assoc (u32_bytes (length xs)) (flat_map sa xs) rest)
    ∙ rw (u32_again (length xs) (flat_map sa xs ++ rest) h.counted) (many_again A a sa codec.again xs rest h.each)

counted_right : {X : Type 0} {A : X → Type 0} {a : List ℕ → Option (X × List ℕ)} {sa : X → List ℕ} → Codec A a sa → ReadsRight (AreCounted A) (counted_at a) (list_bytes sa)
unfolding counted_at
counted_right {A} {a} {sa} codec bytes rest xs are e =
    let count = field IsU32 u32_at u32_bytes u32_right bytes are (λ count. many_at a count.0 count.1) (xs, rest) e in
    let many = many_right A a sa codec.right count.value count.rest rest xs count.are count.goes in (
      count.split ∙ ap (λ (n : ℕ). u32_bytes n ++ count.rest) (sym many.counted) ∙ ap (λ (ds : List ℕ). u32_bytes (length xs) ++ ds) many.split ∙ sym (append_assoc (u32_bytes (length xs)) (flat_map sa xs) rest),
      record { counted = subst IsU32 (sym many.counted) count.right; each = many.right },
    )

pub counted : {X : Type 0} {A : X → Type 0} {a : List ℕ → Option (X × List ℕ)} {sa : X → List ℕ} → Codec A a sa → Codec (AreCounted A) (counted_at a) (list_bytes sa)
counted codec = record { again = counted_again codec; right = counted_right codec }

-- ---- said in other words

pub reworded : {X : Type 0} {A B : X → Type 0} {a : List ℕ → Option (X × List ℕ)} {sa : X → List ℕ} → ((x : X) → A x → B x) → ((x : X) → B x → A x) → Codec A a sa → Codec B a sa
reworded to from codec = record {
  again = λ x rest h. codec.again x rest (from x h);
  right = λ bytes rest x are e. let r = codec.right bytes rest x are e in (r.0, to x r.1);
}
