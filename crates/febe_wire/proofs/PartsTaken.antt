-- Bytes from which a part is read begin with the spelling of that part.
use Rattle.std.proofs.Common.{◌≡◌, ℕ, zero, suc, ◌<◌, ltb, List, [], ◌∷◌, ◌++◌, length, All, Option, Some, None, refl, sym, ap, subst, ◌∙◌, append_assoc, arith, inl, inr}
use Rattle.std.specs.Prelude.{◌==◌, if◌then◌else◌}
use Rattle.std.specs.List.{flat_map}
use Rattle.std.proofs.lemmas.Bool.{eqb-true, ltb-false}
use Rattle.std.proofs.lemmas.Option.{some_pair_parts, same_Some}
use Rattle.std.proofs.lemmas.List.Elements.{All-nil, All-cons}
use Rattle.tumbler.specs.declared.span.Span.{Span}
use Rattle.tumbler.specs.Places.{IsTumbler}
use Rattle.febe_data.specs.declared.access.Mode.{Mode}
use Rattle.febe_data.specs.declared.access.Mode.TheVariants as modes
use Rattle.febe_data.specs.declared.access.Rule.{Rule}
use Rattle.febe_data.specs.declared.access.Rule.TheVariants as rules
use Rattle.febe_data.specs.Access.{mode_number, rule_number}
use Rattle.febe_data.specs.Plain.{PlainSpec}
use Rattle.febe_data.specs.Spelling.{spell_number, spell_tumbler, spell_span, spell_list, spell_spec}
use Rattle.febe_data.specs.Validity.{IsSpan, IsList, IsSpec}
use Rattle.febe_fields.specs.Reading.{◌>>=◌, number_at, tumbler_at, mode_with_number, mode_at, rule_with_number, rule_at, many_at, list_at, span_at, spec_at}
use Rattle.febe_fields.proofs.FieldLaws.{bind_some, chosen, number_takes, tumbler_takes}

-- what is read is right, and its spelling stands in front of the rest
abbrev pub ReadsOnly : {X : Type 0} → (List ℕ → Option (X × List ℕ)) → (X → List ℕ) → (X → Type 0) → Type 0
ReadsOnly {X} read spell IsWellFormed = (bytes : List ℕ) (x : X) (rest : List ℕ) → read bytes ≡ Some (x, rest) → (bytes ≡ spell x ++ rest) × IsWellFormed x

-- a part was read, and what is behind it was read on to this end
pub record Step {X Y : Type 0} (spell : X → List ℕ) (IsWellFormed : X → Type 0) (on : X × List ℕ → Option Y) (bytes : List ℕ) (y : Y) : Type 0 where
  pub value : X
  pub rest : List ℕ
  pub spelled : bytes ≡ spell value ++ rest
  pub right : IsWellFormed value
  pub goes : on (value, rest) ≡ Some y

pub step : {X Y : Type 0} (read : List ℕ → Option (X × List ℕ)) (spell : X → List ℕ) (IsWellFormed : X → Type 0) → ReadsOnly read spell IsWellFormed
    → (on : X × List ℕ → Option Y) (bytes : List ℕ) (y : Y) → (read bytes >>= on) ≡ Some y → Step spell IsWellFormed on bytes y
step read spell IsWellFormed only on bytes y e =
    let a = bind_some (read bytes) on y e in
    let t = only bytes a.0.0 a.0.1 a.1 in
    record { value = a.0.0; rest = a.0.1; spelled = t.0; right = t.1; goes = a.2 }

-- ---- modes and rules

joined : {X : Type 0} (n : X → ℕ) (bytes : List ℕ) (k : ℕ) (x y : X) (mid rest : List ℕ) → bytes ≡ spell_number k ++ mid → n x ≡ k → ◌≡◌ {A = Option (X × List ℕ)} (Some (x, mid)) (Some (y, rest)) → bytes ≡ spell_number (n y) ++ rest
joined n bytes k x y mid rest e f g =
    let p = some_pair_parts x y mid rest g in
    e ∙ ap (λ (i : ℕ). spell_number i ++ mid) (sym f ∙ ap n p.0) ∙ ap (λ (ds : List ℕ). spell_number (n y) ++ ds) p.1

mode_named : (n : ℕ) (mode : Mode) → mode_with_number n ≡ Some mode → mode_number mode ≡ n
mode_named n mode e =
    elim (chosen (n == 1) (Some modes.Read) (if n == 2 then Some modes.Write else None) (Some mode) e) [
      | inl one ↦ sym (eqb-true _ _ one.0 ∙ ap mode_number (same_Some _ _ one.1))
      | inr other ↦ elim (chosen (n == 2) (Some modes.Write) None (Some mode) other.1) [
        | inl two ↦ sym (eqb-true _ _ two.0 ∙ ap mode_number (same_Some _ _ two.1))
        | inr none ↦ absurd (cc none.1)
      ]
    ]

rule_named : (n : ℕ) (rule : Rule) → rule_with_number n ≡ Some rule → rule_number rule ≡ n
rule_named n rule e =
    elim (chosen (n == 1) (Some rules.Refuse) (if n == 2 then Some rules.Copy else (if n == 3 then Some rules.Always else None)) (Some rule) e) [
      | inl one ↦ sym (eqb-true _ _ one.0 ∙ ap rule_number (same_Some _ _ one.1))
      | inr other ↦ elim (chosen (n == 2) (Some rules.Copy) (if n == 3 then Some rules.Always else None) (Some rule) other.1) [
        | inl two ↦ sym (eqb-true _ _ two.0 ∙ ap rule_number (same_Some _ _ two.1))
        | inr more ↦ elim (chosen (n == 3) (Some rules.Always) None (Some rule) more.1) [
          | inl three ↦ sym (eqb-true _ _ three.0 ∙ ap rule_number (same_Some _ _ three.1))
          | inr none ↦ absurd (cc none.1)
        ]
      ]
    ]

pub mode_takes : ReadsOnly mode_at (λ mode. spell_number (mode_number mode)) (λ mode. Unit {0})
unfolding mode_at
mode_takes bytes mode rest e =
    let a = step number_at spell_number (λ n. n < 4294967296) number_takes _ bytes (mode, rest) e in
    let b = bind_some (mode_with_number a.value) (λ mode. Some (mode, a.rest)) (mode, rest) a.goes in
    (joined mode_number bytes a.value b.0 mode a.rest rest a.spelled (mode_named a.value b.0 b.1) b.2, tt)

pub rule_takes : ReadsOnly rule_at (λ rule. spell_number (rule_number rule)) (λ rule. Unit {0})
unfolding rule_at
rule_takes bytes rule rest e =
    let a = step number_at spell_number (λ n. n < 4294967296) number_takes _ bytes (rule, rest) e in
    let b = bind_some (rule_with_number a.value) (λ rule. Some (rule, a.rest)) (rule, rest) a.goes in
    (joined rule_number bytes a.value b.0 rule a.rest rest a.spelled (rule_named a.value b.0 b.1) b.2, tt)

-- ---- lists

-- so many items were read
record TakesMany {X : Type 0} (spell : X → List ℕ) (IsWellFormed : X → Type 0) (n : ℕ) (bytes : List ℕ) (xs : List X) (rest : List ℕ) : Type 0 where
  spelled : bytes ≡ flat_map spell xs ++ rest
  count : length xs ≡ n
  each : All IsWellFormed xs

many_takes : {X : Type 0} (read : List ℕ → Option (X × List ℕ)) (spell : X → List ℕ) (IsWellFormed : X → Type 0) → ReadsOnly read spell IsWellFormed
    → (n : ℕ) (bytes : List ℕ) (xs : List X) (rest : List ℕ) → many_at read n bytes ≡ Some (xs, rest) → TakesMany spell IsWellFormed n bytes xs rest
unfolding many_at
many_takes read spell IsWellFormed only zero bytes xs rest e =
    let p = some_pair_parts [] xs bytes rest e in
    subst (λ (ys : List _). TakesMany spell IsWellFormed 0 bytes ys rest) p.0 record { spelled = p.1; count = refl; each = All-nil IsWellFormed }
many_takes read spell IsWellFormed only (suc n) bytes xs rest e =
    let a = step read spell IsWellFormed only (λ first. many_at read n first.1 >>= λ others. Some (first.0 ∷ others.0, others.1)) bytes (xs, rest) e in
    let b = bind_some (many_at read n a.rest) (λ others. Some (a.value ∷ others.0, others.1)) (xs, rest) a.goes in
    let on = many_takes read spell IsWellFormed only n a.rest b.0.0 b.0.1 b.1 in
    let p = some_pair_parts (a.value ∷ b.0.0) xs b.0.1 rest b.2 in
    let whole : bytes ≡ flat_map spell (a.value ∷ b.0.0) ++ rest = a.spelled ∙ ap (λ (ds : List ℕ). spell a.value ++ ds) (on.spelled ∙ ap (λ (ds : List ℕ). flat_map spell b.0.0 ++ ds) p.1) ∙ sym (append_assoc (spell a.value) (flat_map spell b.0.0) rest) in
    subst (λ (ys : List _). TakesMany spell IsWellFormed (suc n) bytes ys rest) p.0 record { spelled = whole; count = ap suc on.count; each = All-cons IsWellFormed a.value b.0.0 a.right on.each }

list_joined : (bytes : List ℕ) (n : ℕ) (mid : List ℕ) (count : ℕ) (items rest : List ℕ) → bytes ≡ spell_number n ++ mid → count ≡ n → mid ≡ items ++ rest → bytes ≡ (spell_number count ++ items) ++ rest
list_joined bytes n mid count items rest e f g = e ∙ rw (f, g) (sym (append_assoc (spell_number n) items rest))

pub list_takes : {X : Type 0} (read : List ℕ → Option (X × List ℕ)) (spell : X → List ℕ) (IsWellFormed : X → Type 0) → ReadsOnly read spell IsWellFormed → ReadsOnly (list_at read) (spell_list spell) (IsList IsWellFormed)
unfolding list_at
list_takes read spell IsWellFormed only bytes xs rest e =
    let a = step number_at spell_number (λ n. n < 4294967296) number_takes (λ n. if ltb 65536 n.0 then None else many_at read n.0 n.1) bytes (xs, rest) e in
    elim (chosen (ltb 65536 a.value) None (many_at read a.value a.rest) (Some (xs, rest)) a.goes) [
      | inl over ↦ absurd (cc over.1)
      | inr within ↦
          let m = many_takes read spell IsWellFormed only a.value a.rest xs rest within.1 in
          let few = ltb-false _ _ within.0 in
          (list_joined bytes a.value a.rest (length xs) (flat_map spell xs) rest a.spelled m.count m.spelled, record { few = omega (arith, m.count, few); each = m.each })
    ]

pub tumblers_take : ReadsOnly (list_at tumbler_at) (spell_list spell_tumbler) (IsList IsTumbler)
tumblers_take = list_takes tumbler_at spell_tumbler IsTumbler tumbler_takes

-- ---- spans and specs

pub span_takes : ReadsOnly span_at spell_span IsSpan
unfolding span_at
span_takes bytes span rest e =
    let a = step tumbler_at spell_tumbler IsTumbler tumbler_takes _ bytes (span, rest) e in
    let b = step tumbler_at spell_tumbler IsTumbler tumbler_takes _ a.rest (span, rest) a.goes in
    let p = some_pair_parts (record { start = a.value; width = b.value }) span b.rest rest b.goes in
    let whole : bytes ≡ spell_span (record { start = a.value; width = b.value }) ++ rest = a.spelled ∙ ap (λ (ds : List ℕ). spell_tumbler a.value ++ ds) (b.spelled ∙ ap (λ (ds : List ℕ). spell_tumbler b.value ++ ds) p.1) ∙ sym (append_assoc (spell_tumbler a.value) (spell_tumbler b.value) rest) in
    subst (λ (s : Span). (bytes ≡ spell_span s ++ rest) × IsSpan s) p.0 (whole, record { start = a.right; width = b.right })

pub spans_take : ReadsOnly (list_at span_at) (spell_list spell_span) (IsList IsSpan)
spans_take = list_takes span_at spell_span IsSpan span_takes

pub spec_takes : ReadsOnly spec_at spell_spec IsSpec
unfolding spec_at
spec_takes bytes spec rest e =
    let a = step tumbler_at spell_tumbler IsTumbler tumbler_takes _ bytes (spec, rest) e in
    let b = step (list_at span_at) (spell_list spell_span) (IsList IsSpan) spans_take _ a.rest (spec, rest) a.goes in
    let p = some_pair_parts (record { document = a.value; spans = b.value }) spec b.rest rest b.goes in
    let spans = spell_list spell_span b.value in
    let whole : bytes ≡ spell_spec (record { document = a.value; spans = b.value }) ++ rest = a.spelled ∙ ap (λ (ds : List ℕ). spell_tumbler a.value ++ ds) (b.spelled ∙ ap (λ (ds : List ℕ). spans ++ ds) p.1) ∙ sym (append_assoc (spell_tumbler a.value) spans rest) in
    subst (λ (s : PlainSpec). (bytes ≡ spell_spec s ++ rest) × IsSpec s) p.0 (whole, record { document = a.right; spans = b.right })

pub specs_take : ReadsOnly (list_at spec_at) (spell_list spell_spec) (IsList IsSpec)
specs_take = list_takes spec_at spell_spec IsSpec spec_takes
