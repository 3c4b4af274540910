-- A change that is read is the change that is written so, and what is written so is read again.
use Rattle.std.proofs.Common.{◌≡◌, ℕ, ◌==◌, List, ◌++◌, Option, Some, refl, sym, ap, subst, ◌∙◌, append_assoc, inl, inr}
use Rattle.std.proofs.lemmas.Bool.{cases_Bool, eqb-true}
use Rattle.std.proofs.lemmas.Option.{some_pair_parts}
use Rattle.tumbler.specs.declared.span.Span.{Span}
use Rattle.tumbler.specs.Places.{IsTumbler}
use Rattle.febe_data.specs.Plain.{PlainSpec, PlainChange, restarted, began, ended, account_changed, document_opened, document_closed, document_created, version_made, copy_opened, text_inserted, span_deleted, blocks_swapped, specs_copied, link_made, document_published}
use Rattle.febe_data.specs.Validity.{IsText, IsSpan, IsList, IsSpecSet}
use Rattle.febe_fields.specs.Reading.{◌>>=◌}
use Rattle.febe_fields.proofs.ListLaws.{ReadsAgain}
use Rattle.entry_codec.specs.Format.{u32_bytes, tumbler_bytes, span_bytes, list_bytes, specs_bytes, text_bytes, kind_of, change_bytes}
use Rattle.entry_codec.specs.Bodies.{IsU32, IsEncodable}
use Rattle.entry_codec.specs.Reading.{u32_at, tumbler_at, text_at, span_at, numbers_at, specs_at, create_at, version_at, open_copy_at, insert_at, delete_at, rearrange_at, copy_at, link_at, publish_at, change_at}
use Rattle.entry_codec.specs.declared.format.LogFormat.{LogFormat}
use Rattle.entry_codec.proofs.FieldLaws.{AreBytes, ReadsRight, field, u32_right, u32_again, tumbler_right, tumbler_again, text_right, text_again, list_right, list_again}
use Rattle.entry_codec.proofs.SpecLaws.{two, span_right, span_again, specs_right, specs_again}

-- the last field, and what stands behind it
last : (bytes front behind rest : List ℕ) → bytes ≡ front ++ behind → behind ≡ rest → bytes ≡ front ++ rest
last bytes front behind rest e f = e ∙ ap (λ (ds : List ℕ). front ++ ds) f

numbers_right : ReadsRight (IsList IsU32) numbers_at (list_bytes u32_bytes)
numbers_right = list_right IsU32 u32_at u32_bytes u32_right

numbers_again : ReadsAgain (IsList IsU32) numbers_at (list_bytes u32_bytes)
numbers_again = list_again IsU32 u32_at u32_bytes u32_again

-- the change that was read, and the number of its kind
pub record IsChange (format : LogFormat) (kind : ℕ) (bytes rest : List ℕ) (change : PlainChange) : Type 0 where
  pub split : bytes ≡ change_bytes format change ++ rest
  pub right : IsEncodable change
  pub kind_is : kind ≡ kind_of change

-- what stands behind the number of a kind gives such changes alone
abbrev pub GivesChanges : LogFormat → ℕ → (List ℕ → Option (PlainChange × List ℕ)) → Type 0
GivesChanges format kind read = (bytes rest : List ℕ) (change : PlainChange) → AreBytes bytes → read bytes ≡ Some (change, rest) → IsChange format kind bytes rest change

create_right : (format : LogFormat) → GivesChanges format 1 create_at
unfolding create_at
create_right format bytes rest change are e =
    let document = field IsTumbler tumbler_at tumbler_bytes tumbler_right bytes are (λ document. Some (document_created document.0, document.1)) (change, rest) e in
    let p = some_pair_parts (document_created document.value) change document.rest rest document.goes in
    subst (IsChange format 1 bytes rest) p.0 (record { split = last bytes (tumbler_bytes document.value) document.rest rest document.split p.1; right = document.right; kind_is = refl })

version_right : (format : LogFormat) → GivesChanges format 2 version_at
unfolding version_at
version_right format bytes rest change are e =
    let source = field IsTumbler tumbler_at tumbler_bytes tumbler_right bytes are (λ source. tumbler_at source.1 >>= λ document. Some (version_made source.0 document.0, document.1)) (change, rest) e in
    let document = field IsTumbler tumbler_at tumbler_bytes tumbler_right source.rest source.are (λ document. Some (version_made source.value document.0, document.1)) (change, rest) source.goes in
    let p = some_pair_parts (version_made source.value document.value) change document.rest rest document.goes in
    subst (IsChange format 2 bytes rest) p.0 (record { split = two bytes (tumbler_bytes source.value) source.rest (tumbler_bytes document.value) rest source.split (last source.rest (tumbler_bytes document.value) document.rest rest document.split p.1); right = (source.right, document.right); kind_is = refl })

open_copy_right : (format : LogFormat) → GivesChanges format 3 open_copy_at
unfolding open_copy_at
open_copy_right format bytes rest change are e =
    let source = field IsTumbler tumbler_at tumbler_bytes tumbler_right bytes are (λ source. tumbler_at source.1 >>= λ document. Some (copy_opened source.0 document.0, document.1)) (change, rest) e in
    let document = field IsTumbler tumbler_at tumbler_bytes tumbler_right source.rest source.are (λ document. Some (copy_opened source.value document.0, document.1)) (change, rest) source.goes in
    let p = some_pair_parts (copy_opened source.value document.value) change document.rest rest document.goes in
    subst (IsChange format 3 bytes rest) p.0 (record { split = two bytes (tumbler_bytes source.value) source.rest (tumbler_bytes document.value) rest source.split (last source.rest (tumbler_bytes document.value) document.rest rest document.split p.1); right = (source.right, document.right); kind_is = refl })

insert_right : (format : LogFormat) → GivesChanges format 4 (insert_at format)
unfolding insert_at
insert_right format bytes rest change are e =
    let document = field IsTumbler tumbler_at tumbler_bytes tumbler_right bytes are (λ document. u32_at document.1 >>= λ at. u32_at at.1 >>= λ first. text_at format first.1 >>= λ text. Some (text_inserted document.0 at.0 first.0 text.0, text.1)) (change, rest) e in
    let at = field IsU32 u32_at u32_bytes u32_right document.rest document.are (λ at. u32_at at.1 >>= λ first. text_at format first.1 >>= λ text. Some (text_inserted document.value at.0 first.0 text.0, text.1)) (change, rest) document.goes in
    let first = field IsU32 u32_at u32_bytes u32_right at.rest at.are (λ first. text_at format first.1 >>= λ text. Some (text_inserted document.value at.value first.0 text.0, text.1)) (change, rest) at.goes in
    let text = field IsText (text_at format) (text_bytes format) (text_right format) first.rest first.are (λ text. Some (text_inserted document.value at.value first.value text.0, text.1)) (change, rest) first.goes in
    let p = some_pair_parts (text_inserted document.value at.value first.value text.value) change text.rest rest text.goes in
    subst (IsChange format 4 bytes rest) p.0 (record { split = two bytes (tumbler_bytes document.value) document.rest (u32_bytes at.value ++ (u32_bytes first.value ++ (text_bytes format text.value))) rest document.split (two document.rest (u32_bytes at.value) at.rest (u32_bytes first.value ++ (text_bytes format text.value)) rest at.split (two at.rest (u32_bytes first.value) first.rest (text_bytes format text.value) rest first.split (last first.rest (text_bytes format text.value) text.rest rest text.split p.1))); right = (document.right, at.right, first.right, text.right); kind_is = refl })

delete_right : (format : LogFormat) → GivesChanges format 5 delete_at
unfolding delete_at
delete_right format bytes rest change are e =
    let document = field IsTumbler tumbler_at tumbler_bytes tumbler_right bytes are (λ document. span_at document.1 >>= λ span. Some (span_deleted document.0 span.0, span.1)) (change, rest) e in
    let span = field IsSpan span_at span_bytes span_right document.rest document.are (λ span. Some (span_deleted document.value span.0, span.1)) (change, rest) document.goes in
    let p = some_pair_parts (span_deleted document.value span.value) change span.rest rest span.goes in
    subst (IsChange format 5 bytes rest) p.0 (record { split = two bytes (tumbler_bytes document.value) document.rest (span_bytes span.value) rest document.split (last document.rest (span_bytes span.value) span.rest rest span.split p.1); right = (document.right, span.right); kind_is = refl })

rearrange_right : (format : LogFormat) → GivesChanges format 6 rearrange_at
unfolding rearrange_at
rearrange_right format bytes rest change are e =
    let document = field IsTumbler tumbler_at tumbler_bytes tumbler_right bytes are (λ document. numbers_at document.1 >>= λ cuts. Some (blocks_swapped document.0 cuts.0, cuts.1)) (change, rest) e in
    let cuts = field (IsList IsU32) numbers_at (list_bytes u32_bytes) numbers_right document.rest document.are (λ cuts. Some (blocks_swapped document.value cuts.0, cuts.1)) (change, rest) document.goes in
    let p = some_pair_parts (blocks_swapped document.value cuts.value) change cuts.rest rest cuts.goes in
    subst (IsChange format 6 bytes rest) p.0 (record { split = two bytes (tumbler_bytes document.value) document.rest (list_bytes u32_bytes cuts.value) rest document.split (last document.rest (list_bytes u32_bytes cuts.value) cuts.rest rest cuts.split p.1); right = (document.right, cuts.right); kind_is = refl })

copy_right : (format : LogFormat) → GivesChanges format 7 copy_at
unfolding copy_at
copy_right format bytes rest change are e =
    let document = field IsTumbler tumbler_at tumbler_bytes tumbler_right bytes are (λ document. u32_at document.1 >>= λ at. specs_at at.1 >>= λ specs. Some (specs_copied document.0 at.0 specs.0, specs.1)) (change, rest) e in
    let at = field IsU32 u32_at u32_bytes u32_right document.rest document.are (λ at. specs_at at.1 >>= λ specs. Some (specs_copied document.value at.0 specs.0, specs.1)) (change, rest) document.goes in
    let specs = field IsSpecSet specs_at specs_bytes specs_right at.rest at.are (λ specs. Some (specs_copied document.value at.value specs.0, specs.1)) (change, rest) at.goes in
    let p = some_pair_parts (specs_copied document.value at.value specs.value) change specs.rest rest specs.goes in
    subst (IsChange format 7 bytes rest) p.0 (record { split = two bytes (tumbler_bytes document.value) document.rest (u32_bytes at.value ++ (specs_bytes specs.value)) rest document.split (two document.rest (u32_bytes at.value) at.rest (specs_bytes specs.value) rest at.split (last at.rest (specs_bytes specs.value) specs.rest rest specs.split p.1)); right = (document.right, at.right, specs.right); kind_is = refl })

link_right : (format : LogFormat) → GivesChanges format 8 link_at
unfolding link_at
link_right format bytes rest change are e =
    let home = field IsTumbler tumbler_at tumbler_bytes tumbler_right bytes are (λ home. u32_at home.1 >>= λ number. u32_at number.1 >>= λ place. specs_at place.1 >>= λ from. specs_at from.1 >>= λ to. specs_at to.1 >>= λ three. Some (link_made home.0 number.0 place.0 from.0 to.0 three.0, three.1)) (change, rest) e in
    let number = field IsU32 u32_at u32_bytes u32_right home.rest home.are (λ number. u32_at number.1 >>= λ place. specs_at place.1 >>= λ from. specs_at from.1 >>= λ to. specs_at to.1 >>= λ three. Some (link_made home.value number.0 place.0 from.0 to.0 three.0, three.1)) (change, rest) home.goes in
    let place = field IsU32 u32_at u32_bytes u32_right number.rest number.are (λ place. specs_at place.1 >>= λ from. specs_at from.1 >>= λ to. specs_at to.1 >>= λ three. Some (link_made home.value number.value place.0 from.0 to.0 three.0, three.1)) (change, rest) number.goes in
    let from = field IsSpecSet specs_at specs_bytes specs_right place.rest place.are (λ from. specs_at from.1 >>= λ to. specs_at to.1 >>= λ three. Some (link_made home.value number.value place.value from.0 to.0 three.0, three.1)) (change, rest) place.goes in
    let to = field IsSpecSet specs_at specs_bytes specs_right from.rest from.are (λ to. specs_at to.1 >>= λ three. Some (link_made home.value number.value place.value from.value to.0 three.0, three.1)) (change, rest) from.goes in
    let three = field IsSpecSet specs_at specs_bytes specs_right to.rest to.are (λ three. Some (link_made home.value number.value place.value from.value to.value three.0, three.1)) (change, rest) to.goes in
    let p = some_pair_parts (link_made home.value number.value place.value from.value to.value three.value) change three.rest rest three.goes in
    subst (IsChange format 8 bytes rest) p.0 (record { split = two bytes (tumbler_bytes home.value) home.rest (u32_bytes number.value ++ (u32_bytes place.value ++ (specs_bytes from.value ++ (specs_bytes to.value ++ (specs_bytes three.value))))) rest home.split (two home.rest (u32_bytes number.value) number.rest (u32_bytes place.value ++ (specs_bytes from.value ++ (specs_bytes to.value ++ (specs_bytes three.value)))) rest number.split (two number.rest (u32_bytes place.value) place.rest (specs_bytes from.value ++ (specs_bytes to.value ++ (specs_bytes three.value))) rest place.split (two place.rest (specs_bytes from.value) from.rest (specs_bytes to.value ++ (specs_bytes three.value)) rest from.split (two from.rest (specs_bytes to.value) to.rest (specs_bytes three.value) rest to.split (last to.rest (specs_bytes three.value) three.rest rest three.split p.1))))); right = (home.right, number.right, place.right, from.right, to.right, three.right); kind_is = refl })

publish_right : (format : LogFormat) → GivesChanges format 9 publish_at
unfolding publish_at
publish_right format bytes rest change are e =
    let document = field IsTumbler tumbler_at tumbler_bytes tumbler_right bytes are (λ document. Some (document_published document.0, document.1)) (change, rest) e in
    let p = some_pair_parts (document_published document.value) change document.rest rest document.goes in
    subst (IsChange format 9 bytes rest) p.0 (record { split = last bytes (tumbler_bytes document.value) document.rest rest document.split p.1; right = document.right; kind_is = refl })

of_kind : (format : LogFormat) (n kind : ℕ) (read : List ℕ → Option (PlainChange × List ℕ)) (bytes rest : List ℕ) (change : PlainChange) → GivesChanges format n read → AreBytes bytes → kind ≡ n → read bytes ≡ Some (change, rest) → IsChange format kind bytes rest change
of_kind format n kind read bytes rest change gives are is e = subst (λ (k : ℕ). IsChange format k bytes rest change) (sym is) (gives bytes rest change are e)

pub change_right : (format : LogFormat) (kind : ℕ) → GivesChanges format kind (change_at format kind)
unfolding change_at
change_right format kind bytes rest change are e0 =
    elim (cases_Bool (kind == 1)) [
      | inl y ↦ let e1 = rw y at e0 in of_kind format 1 kind create_at bytes rest change (create_right format) are (eqb-true _ _ y) e1
      | inr n1 ↦ let e1 = rw n1 at e0 in
          elim (cases_Bool (kind == 2)) [
            | inl y ↦ let e2 = rw y at e1 in of_kind format 2 kind version_at bytes rest change (version_right format) are (eqb-true _ _ y) e2
            | inr n2 ↦ let e2 = rw n2 at e1 in
                elim (cases_Bool (kind == 3)) [
                  | inl y ↦ let e3 = rw y at e2 in of_kind format 3 kind open_copy_at bytes rest change (open_copy_right format) are (eqb-true _ _ y) e3
                  | inr n3 ↦ let e3 = rw n3 at e2 in
                      elim (cases_Bool (kind == 4)) [
                        | inl y ↦ let e4 = rw y at e3 in of_kind format 4 kind (insert_at format) bytes rest change (insert_right format) are (eqb-true _ _ y) e4
                        | inr n4 ↦ let e4 = rw n4 at e3 in
                            elim (cases_Bool (kind == 5)) [
                              | inl y ↦ let e5 = rw y at e4 in of_kind format 5 kind delete_at bytes rest change (delete_right format) are (eqb-true _ _ y) e5
                              | inr n5 ↦ let e5 = rw n5 at e4 in
                                  elim (cases_Bool (kind == 6)) [
                                    | inl y ↦ let e6 = rw y at e5 in of_kind format 6 kind rearrange_at bytes rest change (rearrange_right format) are (eqb-true _ _ y) e6
                                    | inr n6 ↦ let e6 = rw n6 at e5 in
                                        elim (cases_Bool (kind == 7)) [
                                          | inl y ↦ let e7 = rw y at e6 in of_kind format 7 kind copy_at bytes rest change (copy_right format) are (eqb-true _ _ y) e7
                                          | inr n7 ↦ let e7 = rw n7 at e6 in
                                              elim (cases_Bool (kind == 8)) [
                                                | inl y ↦ let e8 = rw y at e7 in of_kind format 8 kind link_at bytes rest change (link_right format) are (eqb-true _ _ y) e8
                                                | inr n8 ↦ let e8 = rw n8 at e7 in
                                                    elim (cases_Bool (kind == 9)) [
                                                      | inl y ↦ let e9 = rw y at e8 in of_kind format 9 kind publish_at bytes rest change (publish_right format) are (eqb-true _ _ y) e9
                                                      | inr n9 ↦ let e9 = rw n9 at e8 in
                                                          absurd (cc e9)
                                                    ]
                                              ]
                                        ]
                                  ]
                            ]
                      ]
                ]
          ]
    ]

-- ---- read again

-- a change is read again behind the number of its kind
abbrev pub ChangeAgain : LogFormat → PlainChange → List ℕ → Type 0
ChangeAgain format change rest = change_at format (kind_of change) (change_bytes format change ++ rest) ≡ Some (change, rest)

two_parts : (a b rest : List ℕ) → (a ++ b) ++ rest ≡ a ++ (b ++ rest)
two_parts a b rest = append_assoc a b rest

three_parts : (a b c rest : List ℕ) → (a ++ (b ++ c)) ++ rest ≡ a ++ (b ++ (c ++ rest))
three_parts a b c rest = simp append_assoc

four_parts : (a b c d rest : List ℕ) → (a ++ (b ++ (c ++ d))) ++ rest ≡ a ++ (b ++ (c ++ (d ++ rest)))
four_parts a b c d rest = simp append_assoc

six_parts : (a b c d e f rest : List ℕ) → (a ++ (b ++ (c ++ (d ++ (e ++ f))))) ++ rest ≡ a ++ (b ++ (c ++ (d ++ (e ++ (f ++ rest)))))
six_parts a b c d e f rest = simp append_assoc

create_again : (format : LogFormat) (document : List ℕ) (rest : List ℕ) → IsEncodable (document_created document) → ChangeAgain format (document_created document) rest
unfolding change_at create_at
create_again format document rest h =
    rw (tumbler_again document rest h) refl

version_again : (format : LogFormat) (source : List ℕ) (document : List ℕ) (rest : List ℕ) → IsEncodable (version_made source document) → ChangeAgain format (version_made source document) rest
unfolding change_at version_at
version_again format source document rest h =
    ap version_at (two_parts (tumbler_bytes source) (tumbler_bytes document) rest)
    ∙ rw (tumbler_again source (tumbler_bytes document ++ rest) h.0, tumbler_again document rest h.1) refl

open_copy_again : (format : LogFormat) (source : List ℕ) (document : List ℕ) (rest : List ℕ) → IsEncodable (copy_opened source document) → ChangeAgain format (copy_opened source document) rest
unfolding change_at open_copy_at
open_copy_again format source document rest h =
    ap open_copy_at (two_parts (tumbler_bytes source) (tumbler_bytes document) rest)
    ∙ rw (tumbler_again source (tumbler_bytes document ++ rest) h.0, tumbler_again document rest h.1) refl

insert_again : (format : LogFormat) (document : List ℕ) (at : ℕ) (first : ℕ) (text : List ℕ) (rest : List ℕ) → IsEncodable (text_inserted document at first text) → ChangeAgain format (text_inserted document at first text) rest
unfolding change_at insert_at
insert_again format document at first text rest h =
    ap (insert_at format) (four_parts (tumbler_bytes document) (u32_bytes at) (u32_bytes first) (text_bytes format text) rest)
    ∙ rw (tumbler_again document (u32_bytes at ++ (u32_bytes first ++ (text_bytes format text ++ rest))) h.0, u32_again at (u32_bytes first ++ (text_bytes format text ++ rest)) h.1, u32_again first (text_bytes format text ++ rest) h.2, text_again format text rest h.3) refl

delete_again : (format : LogFormat) (document : List ℕ) (span : Span) (rest : List ℕ) → IsEncodable (span_deleted document span) → ChangeAgain format (span_deleted document span) rest
unfolding change_at delete_at
delete_again format document span rest h =
    ap delete_at (two_parts (tumbler_bytes document) (span_bytes span) rest)
    ∙ rw (tumbler_again document (span_bytes span ++ rest) h.0, span_again span rest h.1) refl

rearrange_again : (format : LogFormat) (document : List ℕ) (cuts : List ℕ) (rest : List ℕ) → IsEncodable (blocks_swapped document cuts) → ChangeAgain format (blocks_swapped document cuts) rest
unfolding change_at rearrange_at
rearrange_again format document cuts rest h =
    ap rearrange_at (two_parts (tumbler_bytes document) (list_bytes u32_bytes cuts) rest)
    ∙ rw (tumbler_again document (list_bytes u32_bytes cuts ++ rest) h.0, numbers_again cuts rest h.1) refl

copy_again : (format : LogFormat) (document : List ℕ) (at : ℕ) (specs : List PlainSpec) (rest : List ℕ) → IsEncodable (specs_copied document at specs) → ChangeAgain format (specs_copied document at specs) rest
unfolding change_at copy_at
copy_again format document at specs rest h =
    ap copy_at (three_parts (tumbler_bytes document) (u32_bytes at) (specs_bytes specs) rest)
    ∙ rw (tumbler_again document (u32_bytes at ++ (specs_bytes specs ++ rest)) h.0, u32_again at (specs_bytes specs ++ rest) h.1, specs_again specs rest h.2) refl

link_again : (format : LogFormat) (home : List ℕ) (number : ℕ) (place : ℕ) (from : List PlainSpec) (to : List PlainSpec) (three : List PlainSpec) (rest : List ℕ) → IsEncodable (link_made home number place from to three) → ChangeAgain format (link_made home number place from to three) rest
unfolding change_at link_at
link_again format home number place from to three rest h =
    ap link_at (six_parts (tumbler_bytes home) (u32_bytes number) (u32_bytes place) (specs_bytes from) (specs_bytes to) (specs_bytes three) rest)
    ∙ rw (tumbler_again home (u32_bytes number ++ (u32_bytes place ++ (specs_bytes from ++ (specs_bytes to ++ (specs_bytes three ++ rest))))) h.0, u32_again number (u32_bytes place ++ (specs_bytes from ++ (specs_bytes to ++ (specs_bytes three ++ rest)))) h.1, u32_again place (specs_bytes from ++ (specs_bytes to ++ (specs_bytes three ++ rest))) h.2, specs_again from (specs_bytes to ++ (specs_bytes three ++ rest)) h.3, specs_again to (specs_bytes three ++ rest) h.4, specs_again three rest h.5) refl

publish_again : (format : LogFormat) (document : List ℕ) (rest : List ℕ) → IsEncodable (document_published document) → ChangeAgain format (document_published document) rest
unfolding change_at publish_at
publish_again format document rest h =
    rw (tumbler_again document rest h) refl

pub change_again : (format : LogFormat) (change : PlainChange) (rest : List ℕ) → IsEncodable change → ChangeAgain format change rest
change_again format (document_created document) rest h = create_again format document rest h
change_again format (version_made source document) rest h = version_again format source document rest h
change_again format (copy_opened source document) rest h = open_copy_again format source document rest h
change_again format (text_inserted document at first text) rest h = insert_again format document at first text rest h
change_again format (span_deleted document span) rest h = delete_again format document span rest h
change_again format (blocks_swapped document cuts) rest h = rearrange_again format document cuts rest h
change_again format (specs_copied document at specs) rest h = copy_again format document at specs rest h
change_again format (link_made home number place from to three) rest h = link_again format home number place from to three rest h
change_again format (document_published document) rest h = publish_again format document rest h
change_again format restarted rest h = absurd h
change_again format began rest h = absurd h
change_again format ended rest h = absurd h
change_again format (account_changed account) rest h = absurd h
change_again format (document_opened document mode) rest h = absurd h
change_again format (document_closed document) rest h = absurd h
