-- The scan of requests takes what spells a request, and nothing else.
use Rattle.std.proofs.Common.{◌≡◌, ℕ, ◌+◌, ◌-◌, ◌*◌, ◌<◌, ◌≤◌, true, false, List, [], ◌∷◌, ◌++◌, take, drop, Option, Some, None, refl, sym, ap, subst, ◌∙◌, arith, inl, inr}
use Rattle.std.specs.Prelude.{◌==◌, nat_lt}
use Rattle.std.specs.Fmt.{decimal, digits}
use Rattle.std.specs.Char.{is_ascii_digit}
use Rattle.std.proofs.lemmas.Bool.{cases_Bool, eqb-true, eqb-false, le-ltb}
use Rattle.std.proofs.lemmas.Option.{same_Some, some_pair_parts}
use Rattle.std.proofs.lemmas.List.{take-append-drop}
use Rattle.febe_data.specs.Plain.{PlainRequest, insert, span_set, copy, rearrange, retrieve, relate, create, delete, version, whole_span, quit, follow, find_documents, create_link, end_sets, count_links, find_links, next_links, set_account, opens, closes, publish}
use Rattle.febe_data.specs.FieldValues.{request_number}
use Rattle.febe_data.specs.Spelling.{spell_number}
use Rattle.febe_data.specs.Validity.{IsRequest}
use Rattle.febe_fields.specs.declared.scanner.Field.{Field}
use Rattle.febe_fields.specs.declared.scanner.Field.TheVariants as fields
use Rattle.febe_fields.specs.declared.scanned.Scanned.{Scanned}
use Rattle.febe_fields.specs.Prefixes.{IsScanned, HasSpelledPrefix}
use Rattle.febe_fields.specs.Scanning.{Outcome, goes, done, fails, behind_one, scan_on, scan}
use Rattle.febe_fields.specs.Machine.{State, fields_next, field_step}
use Rattle.febe_fields.specs.Fields.{SpellsFields, takes, follows}
use Rattle.febe_fields.proofs.FieldLaws.{chosen}
use Rattle.febe_fields.proofs.Scans.{takes_some, takes_one, one_taken, scan_says, scanned_too}
use Rattle.febe_fields.proofs.NumberScans.{next_digit}
use Rattle.febe_fields.proofs.TumblerScans.{is_digit, one_digit_is}
use Rattle.febe_fields.proofs.FieldsTaken.{fields_take}
use Rattle.febe_fields.proofs.FieldsAgain.{fields_again}
use Rattle.febe_fields.proofs.Live.{fields_go_on, never_stuck}
use Rattle.febe_wire.specs.Grammar.{spell_values, spell_request, Spells, IsSpelled}
use Rattle.febe_wire.specs.inside.Reading.{request_at}
use Rattle.febe_wire.specs.Reads.{IsRead}
use Rattle.febe_wire.proofs.RequestLaws.{request_again}
use Rattle.febe_wire.specs.RequestMachine.{RequestState, at_start, one_digit, at_four, two_digits, in_fields, fields_of, begun, named, request_step}

-- ---- the fields within a request

pub fields_in : (s : State) (bytes : List ℕ) → takes field_step s bytes → takes request_step (in_fields s) bytes
fields_in s [] h = absurd (takes_some field_step s h)
fields_in s (b ∷ bytes) h = one_taken request_step (in_fields s) b bytes (in_by (λ t. fields_in t bytes) (field_step s b) (takes_one field_step s b bytes h)) where
  in_by : ((t : State) → takes field_step t bytes → takes request_step (in_fields t) bytes) → (o : Outcome State) → follows field_step o bytes → follows request_step (begun o) bytes
  in_by on (goes t) h = on t h
  in_by on done h = h
  in_by on fails h = absurd h

pub fields_out : (s : State) (bytes : List ℕ) → takes request_step (in_fields s) bytes → takes field_step s bytes
fields_out s [] h = absurd (takes_some request_step (in_fields s) h)
fields_out s (b ∷ bytes) h = one_taken field_step s b bytes (out_by (λ t. fields_out t bytes) (field_step s b) (takes_one request_step (in_fields s) b bytes h)) where
  out_by : ((t : State) → takes request_step (in_fields t) bytes → takes field_step t bytes) → (o : Outcome State) → follows request_step (begun o) bytes → follows field_step o bytes
  out_by on (goes t) h = on t h
  out_by on done h = h
  out_by on fails h = absurd h

begun_in : (o : Outcome State) (bytes : List ℕ) → follows field_step o bytes → follows request_step (begun o) bytes
begun_in (goes s) bytes h = fields_in s bytes h
begun_in done bytes h = h
begun_in fails bytes h = absurd h

begun_out : (o : Outcome State) (bytes : List ℕ) → follows request_step (begun o) bytes → follows field_step o bytes
begun_out (goes s) bytes h = fields_out s bytes h
begun_out done bytes h = h
begun_out fails bytes h = absurd h

-- ---- requests by their numbers

-- the request of this number whose parts are spelled so
pub record NamedRequest (n : ℕ) (bytes : List ℕ) : Type 0 where
  pub request : PlainRequest
  pub valid : IsRequest request
  pub number : request_number request ≡ n
  pub parts : bytes ≡ spell_values request

named_0 : (bytes : List ℕ) → SpellsFields (fields.Tumbler ∷ fields.Tumbler ∷ fields.Text ∷ []) bytes → NamedRequest 0 bytes
named_0 bytes h = record { request = insert h.values.0 h.values.1.0 h.values.1.1.0; valid = h.valid; number = refl; parts = h.spelled }

named_1 : (bytes : List ℕ) → SpellsFields (fields.Tumbler ∷ []) bytes → NamedRequest 1 bytes
named_1 bytes h = record { request = span_set h.values.0; valid = h.valid; number = refl; parts = h.spelled }

named_2 : (bytes : List ℕ) → SpellsFields (fields.Tumbler ∷ fields.Tumbler ∷ fields.Specs ∷ []) bytes → NamedRequest 2 bytes
named_2 bytes h = record { request = copy h.values.0 h.values.1.0 h.values.1.1.0; valid = h.valid; number = refl; parts = h.spelled }

named_3 : (bytes : List ℕ) → SpellsFields (fields.Tumbler ∷ fields.Tumblers ∷ []) bytes → NamedRequest 3 bytes
named_3 bytes h = record { request = rearrange h.values.0 h.values.1.0; valid = h.valid; number = refl; parts = h.spelled }

named_5 : (bytes : List ℕ) → SpellsFields (fields.Specs ∷ []) bytes → NamedRequest 5 bytes
named_5 bytes h = record { request = retrieve h.values.0; valid = h.valid; number = refl; parts = h.spelled }

named_10 : (bytes : List ℕ) → SpellsFields (fields.Spec ∷ fields.Spec ∷ []) bytes → NamedRequest 10 bytes
named_10 bytes h = record { request = relate h.values.0 h.values.1.0; valid = h.valid; number = refl; parts = h.spelled }

named_11 : (bytes : List ℕ) → SpellsFields [] bytes → NamedRequest 11 bytes
named_11 bytes h = record { request = create; valid = h.valid; number = refl; parts = h.spelled }

named_12 : (bytes : List ℕ) → SpellsFields (fields.Tumbler ∷ fields.Span ∷ []) bytes → NamedRequest 12 bytes
named_12 bytes h = record { request = delete h.values.0 h.values.1.0; valid = h.valid; number = refl; parts = h.spelled }

named_13 : (bytes : List ℕ) → SpellsFields (fields.Tumbler ∷ []) bytes → NamedRequest 13 bytes
named_13 bytes h = record { request = version h.values.0; valid = h.valid; number = refl; parts = h.spelled }

named_14 : (bytes : List ℕ) → SpellsFields (fields.Tumbler ∷ []) bytes → NamedRequest 14 bytes
named_14 bytes h = record { request = whole_span h.values.0; valid = h.valid; number = refl; parts = h.spelled }

named_16 : (bytes : List ℕ) → SpellsFields [] bytes → NamedRequest 16 bytes
named_16 bytes h = record { request = quit; valid = h.valid; number = refl; parts = h.spelled }

named_18 : (bytes : List ℕ) → SpellsFields (fields.Tumbler ∷ fields.Number ∷ []) bytes → NamedRequest 18 bytes
named_18 bytes h = record { request = follow h.values.0 h.values.1.0; valid = h.valid; number = refl; parts = h.spelled }

named_22 : (bytes : List ℕ) → SpellsFields (fields.Specs ∷ []) bytes → NamedRequest 22 bytes
named_22 bytes h = record { request = find_documents h.values.0; valid = h.valid; number = refl; parts = h.spelled }

named_27 : (bytes : List ℕ) → SpellsFields (fields.Tumbler ∷ fields.Specs ∷ fields.Specs ∷ fields.Specs ∷ []) bytes → NamedRequest 27 bytes
named_27 bytes h = record { request = create_link h.values.0 h.values.1.0 h.values.1.1.0 h.values.1.1.1.0; valid = h.valid; number = refl; parts = h.spelled }

named_28 : (bytes : List ℕ) → SpellsFields (fields.Specs ∷ []) bytes → NamedRequest 28 bytes
named_28 bytes h = record { request = end_sets h.values.0; valid = h.valid; number = refl; parts = h.spelled }

named_29 : (bytes : List ℕ) → SpellsFields (fields.Spans ∷ fields.Specs ∷ fields.Specs ∷ fields.Specs ∷ []) bytes → NamedRequest 29 bytes
named_29 bytes h = record { request = count_links (record { homes = h.values.0; from = h.values.1.0; to = h.values.1.1.0; three = h.values.1.1.1.0 }); valid = h.valid; number = refl; parts = h.spelled }

named_30 : (bytes : List ℕ) → SpellsFields (fields.Spans ∷ fields.Specs ∷ fields.Specs ∷ fields.Specs ∷ []) bytes → NamedRequest 30 bytes
named_30 bytes h = record { request = find_links (record { homes = h.values.0; from = h.values.1.0; to = h.values.1.1.0; three = h.values.1.1.1.0 }); valid = h.valid; number = refl; parts = h.spelled }

named_31 : (bytes : List ℕ) → SpellsFields (fields.Spans ∷ fields.Specs ∷ fields.Specs ∷ fields.Specs ∷ fields.Tumbler ∷ fields.Number ∷ []) bytes → NamedRequest 31 bytes
named_31 bytes h = record { request = next_links (record { homes = h.values.0; from = h.values.1.0; to = h.values.1.1.0; three = h.values.1.1.1.0 }) h.values.1.1.1.1.0 h.values.1.1.1.1.1.0; valid = h.valid; number = refl; parts = h.spelled }

named_34 : (bytes : List ℕ) → SpellsFields (fields.Tumbler ∷ []) bytes → NamedRequest 34 bytes
named_34 bytes h = record { request = set_account h.values.0; valid = h.valid; number = refl; parts = h.spelled }

named_35 : (bytes : List ℕ) → SpellsFields (fields.Tumbler ∷ fields.Mode ∷ fields.Rule ∷ []) bytes → NamedRequest 35 bytes
named_35 bytes h = record { request = opens h.values.0 h.values.1.0 h.values.1.1.0; valid = h.valid; number = refl; parts = h.spelled }

named_36 : (bytes : List ℕ) → SpellsFields (fields.Tumbler ∷ []) bytes → NamedRequest 36 bytes
named_36 bytes h = record { request = closes h.values.0; valid = h.valid; number = refl; parts = h.spelled }

named_40 : (bytes : List ℕ) → SpellsFields (fields.Tumbler ∷ []) bytes → NamedRequest 40 bytes
named_40 bytes h = record { request = publish h.values.0; valid = h.valid; number = refl; parts = h.spelled }

at_number : (n k : ℕ) (made given : List Field) (bytes : List ℕ) → n == k ≡ true → Some made ≡ Some given → (SpellsFields made bytes → NamedRequest k bytes) → SpellsFields given bytes → NamedRequest n bytes
at_number n k made given bytes is e by h = subst (λ (m : ℕ). NamedRequest m bytes) (sym (eqb-true _ _ is)) (by (subst (λ (behind : List Field). SpellsFields behind bytes) (sym (same_Some made given e)) h))

-- which request has this number
request_named : (n : ℕ) (behind : List Field) (bytes : List ℕ) → fields_of n ≡ Some behind → SpellsFields behind bytes → NamedRequest n bytes
request_named n behind bytes e h =
    elim (chosen (n == 0) (Some (fields.Tumbler ∷ fields.Tumbler ∷ fields.Text ∷ [])) _ (Some behind) e) [
      | inl is ↦ at_number n 0 (fields.Tumbler ∷ fields.Tumbler ∷ fields.Text ∷ []) behind bytes is.0 is.1 (named_0 bytes) h
      | inr not0 ↦
          elim (chosen (n == 1) (Some (fields.Tumbler ∷ [])) _ (Some behind) not0.1) [
            | inl is ↦ at_number n 1 (fields.Tumbler ∷ []) behind bytes is.0 is.1 (named_1 bytes) h
            | inr not1 ↦
                elim (chosen (n == 2) (Some (fields.Tumbler ∷ fields.Tumbler ∷ fields.Specs ∷ [])) _ (Some behind) not1.1) [
                  | inl is ↦ at_number n 2 (fields.Tumbler ∷ fields.Tumbler ∷ fields.Specs ∷ []) behind bytes is.0 is.1 (named_2 bytes) h
                  | inr not2 ↦
                      elim (chosen (n == 3) (Some (fields.Tumbler ∷ fields.Tumblers ∷ [])) _ (Some behind) not2.1) [
                        | inl is ↦ at_number n 3 (fields.Tumbler ∷ fields.Tumblers ∷ []) behind bytes is.0 is.1 (named_3 bytes) h
                        | inr not3 ↦
                            elim (chosen (n == 5) (Some (fields.Specs ∷ [])) _ (Some behind) not3.1) [
                              | inl is ↦ at_number n 5 (fields.Specs ∷ []) behind bytes is.0 is.1 (named_5 bytes) h
                              | inr not5 ↦
                                  elim (chosen (n == 10) (Some (fields.Spec ∷ fields.Spec ∷ [])) _ (Some behind) not5.1) [
                                    | inl is ↦ at_number n 10 (fields.Spec ∷ fields.Spec ∷ []) behind bytes is.0 is.1 (named_10 bytes) h
                                    | inr not10 ↦
                                        elim (chosen (n == 11) (Some []) _ (Some behind) not10.1) [
                                          | inl is ↦ at_number n 11 [] behind bytes is.0 is.1 (named_11 bytes) h
                                          | inr not11 ↦
                                              elim (chosen (n == 12) (Some (fields.Tumbler ∷ fields.Span ∷ [])) _ (Some behind) not11.1) [
                                                | inl is ↦ at_number n 12 (fields.Tumbler ∷ fields.Span ∷ []) behind bytes is.0 is.1 (named_12 bytes) h
                                                | inr not12 ↦
                                                    elim (chosen (n == 13) (Some (fields.Tumbler ∷ [])) _ (Some behind) not12.1) [
                                                      | inl is ↦ at_number n 13 (fields.Tumbler ∷ []) behind bytes is.0 is.1 (named_13 bytes) h
                                                      | inr not13 ↦
                                                          elim (chosen (n == 14) (Some (fields.Tumbler ∷ [])) _ (Some behind) not13.1) [
                                                            | inl is ↦ at_number n 14 (fields.Tumbler ∷ []) behind bytes is.0 is.1 (named_14 bytes) h
                                                            | inr not14 ↦
                                                                elim (chosen (n == 16) (Some []) _ (Some behind) not14.1) [
                                                                  | inl is ↦ at_number n 16 [] behind bytes is.0 is.1 (named_16 bytes) h
                                                                  | inr not16 ↦
                                                                      elim (chosen (n == 18) (Some (fields.Tumbler ∷ fields.Number ∷ [])) _ (Some behind) not16.1) [
                                                                        | inl is ↦ at_number n 18 (fields.Tumbler ∷ fields.Number ∷ []) behind bytes is.0 is.1 (named_18 bytes) h
                                                                        | inr not18 ↦
                                                                            elim (chosen (n == 22) (Some (fields.Specs ∷ [])) _ (Some behind) not18.1) [
                                                                              | inl is ↦ at_number n 22 (fields.Specs ∷ []) behind bytes is.0 is.1 (named_22 bytes) h
                                                                              | inr not22 ↦
                                                                                  elim (chosen (n == 27) (Some (fields.Tumbler ∷ fields.Specs ∷ fields.Specs ∷ fields.Specs ∷ [])) _ (Some behind) not22.1) [
                                                                                    | inl is ↦ at_number n 27 (fields.Tumbler ∷ fields.Specs ∷ fields.Specs ∷ fields.Specs ∷ []) behind bytes is.0 is.1 (named_27 bytes) h
                                                                                    | inr not27 ↦
                                                                                        elim (chosen (n == 28) (Some (fields.Specs ∷ [])) _ (Some behind) not27.1) [
                                                                                          | inl is ↦ at_number n 28 (fields.Specs ∷ []) behind bytes is.0 is.1 (named_28 bytes) h
                                                                                          | inr not28 ↦
                                                                                              elim (chosen (n == 29) (Some (fields.Spans ∷ fields.Specs ∷ fields.Specs ∷ fields.Specs ∷ [])) _ (Some behind) not28.1) [
                                                                                                | inl is ↦ at_number n 29 (fields.Spans ∷ fields.Specs ∷ fields.Specs ∷ fields.Specs ∷ []) behind bytes is.0 is.1 (named_29 bytes) h
                                                                                                | inr not29 ↦
                                                                                                    elim (chosen (n == 30) (Some (fields.Spans ∷ fields.Specs ∷ fields.Specs ∷ fields.Specs ∷ [])) _ (Some behind) not29.1) [
                                                                                                      | inl is ↦ at_number n 30 (fields.Spans ∷ fields.Specs ∷ fields.Specs ∷ fields.Specs ∷ []) behind bytes is.0 is.1 (named_30 bytes) h
                                                                                                      | inr not30 ↦
                                                                                                          elim (chosen (n == 31) (Some (fields.Spans ∷ fields.Specs ∷ fields.Specs ∷ fields.Specs ∷ fields.Tumbler ∷ fields.Number ∷ [])) _ (Some behind) not30.1) [
                                                                                                            | inl is ↦ at_number n 31 (fields.Spans ∷ fields.Specs ∷ fields.Specs ∷ fields.Specs ∷ fields.Tumbler ∷ fields.Number ∷ []) behind bytes is.0 is.1 (named_31 bytes) h
                                                                                                            | inr not31 ↦
                                                                                                                elim (chosen (n == 34) (Some (fields.Tumbler ∷ [])) _ (Some behind) not31.1) [
                                                                                                                  | inl is ↦ at_number n 34 (fields.Tumbler ∷ []) behind bytes is.0 is.1 (named_34 bytes) h
                                                                                                                  | inr not34 ↦
                                                                                                                      elim (chosen (n == 35) (Some (fields.Tumbler ∷ fields.Mode ∷ fields.Rule ∷ [])) _ (Some behind) not34.1) [
                                                                                                                        | inl is ↦ at_number n 35 (fields.Tumbler ∷ fields.Mode ∷ fields.Rule ∷ []) behind bytes is.0 is.1 (named_35 bytes) h
                                                                                                                        | inr not35 ↦
                                                                                                                            elim (chosen (n == 36) (Some (fields.Tumbler ∷ [])) _ (Some behind) not35.1) [
                                                                                                                              | inl is ↦ at_number n 36 (fields.Tumbler ∷ []) behind bytes is.0 is.1 (named_36 bytes) h
                                                                                                                              | inr not36 ↦
                                                                                                                                  elim (chosen (n == 40) (Some (fields.Tumbler ∷ [])) _ (Some behind) not36.1) [
                                                                                                                                    | inl is ↦ at_number n 40 (fields.Tumbler ∷ []) behind bytes is.0 is.1 (named_40 bytes) h
                                                                                                                                    | inr not40 ↦
                                                                                                                                        absurd (cc not40.1)
                                                                                                                                  ]
                                                                                                                            ]
                                                                                                                      ]
                                                                                                                ]
                                                                                                          ]
                                                                                                    ]
                                                                                              ]
                                                                                        ]
                                                                                  ]
                                                                            ]
                                                                      ]
                                                                ]
                                                          ]
                                                    ]
                                              ]
                                        ]
                                  ]
                            ]
                      ]
                ]
          ]
    ]

-- ---- each spelling is taken

name_0 : (parts : List ℕ) → follows request_step (begun (fields_next (fields.Tumbler ∷ fields.Tumbler ∷ fields.Text ∷ []))) parts → takes request_step at_start (spell_number 0 ++ parts)
unfolding digits
name_0 parts h = one_taken request_step at_start 48 (126 ∷ parts) (one_taken request_step (one_digit 0 (fields.Tumbler ∷ fields.Tumbler ∷ fields.Text ∷ [])) 126 parts h)

name_1 : (parts : List ℕ) → follows request_step (begun (fields_next (fields.Tumbler ∷ []))) parts → takes request_step at_start (spell_number 1 ++ parts)
unfolding digits
name_1 parts h = one_taken request_step at_start 49 (126 ∷ parts) (one_taken request_step (one_digit 1 (fields.Tumbler ∷ [])) 126 parts h)

name_2 : (parts : List ℕ) → follows request_step (begun (fields_next (fields.Tumbler ∷ fields.Tumbler ∷ fields.Specs ∷ []))) parts → takes request_step at_start (spell_number 2 ++ parts)
unfolding digits
name_2 parts h = one_taken request_step at_start 50 (126 ∷ parts) (one_taken request_step (one_digit 2 (fields.Tumbler ∷ fields.Tumbler ∷ fields.Specs ∷ [])) 126 parts h)

name_3 : (parts : List ℕ) → follows request_step (begun (fields_next (fields.Tumbler ∷ fields.Tumblers ∷ []))) parts → takes request_step at_start (spell_number 3 ++ parts)
unfolding digits
name_3 parts h = one_taken request_step at_start 51 (126 ∷ parts) (one_taken request_step (one_digit 3 (fields.Tumbler ∷ fields.Tumblers ∷ [])) 126 parts h)

name_5 : (parts : List ℕ) → follows request_step (begun (fields_next (fields.Specs ∷ []))) parts → takes request_step at_start (spell_number 5 ++ parts)
unfolding digits
name_5 parts h = one_taken request_step at_start 53 (126 ∷ parts) (one_taken request_step (one_digit 5 (fields.Specs ∷ [])) 126 parts h)

name_10 : (parts : List ℕ) → follows request_step (begun (fields_next (fields.Spec ∷ fields.Spec ∷ []))) parts → takes request_step at_start (spell_number 10 ++ parts)
unfolding digits
name_10 parts h = one_taken request_step at_start 49 (48 ∷ 126 ∷ parts) (one_taken request_step (one_digit 1 (fields.Tumbler ∷ [])) 48 (126 ∷ parts) (one_taken request_step (two_digits (fields.Spec ∷ fields.Spec ∷ [])) 126 parts h))

name_11 : (parts : List ℕ) → follows request_step (begun (fields_next [])) parts → takes request_step at_start (spell_number 11 ++ parts)
unfolding digits
name_11 parts h = one_taken request_step at_start 49 (49 ∷ 126 ∷ parts) (one_taken request_step (one_digit 1 (fields.Tumbler ∷ [])) 49 (126 ∷ parts) (one_taken request_step (two_digits []) 126 parts h))

name_12 : (parts : List ℕ) → follows request_step (begun (fields_next (fields.Tumbler ∷ fields.Span ∷ []))) parts → takes request_step at_start (spell_number 12 ++ parts)
unfolding digits
name_12 parts h = one_taken request_step at_start 49 (50 ∷ 126 ∷ parts) (one_taken request_step (one_digit 1 (fields.Tumbler ∷ [])) 50 (126 ∷ parts) (one_taken request_step (two_digits (fields.Tumbler ∷ fields.Span ∷ [])) 126 parts h))

name_13 : (parts : List ℕ) → follows request_step (begun (fields_next (fields.Tumbler ∷ []))) parts → takes request_step at_start (spell_number 13 ++ parts)
unfolding digits
name_13 parts h = one_taken request_step at_start 49 (51 ∷ 126 ∷ parts) (one_taken request_step (one_digit 1 (fields.Tumbler ∷ [])) 51 (126 ∷ parts) (one_taken request_step (two_digits (fields.Tumbler ∷ [])) 126 parts h))

name_14 : (parts : List ℕ) → follows request_step (begun (fields_next (fields.Tumbler ∷ []))) parts → takes request_step at_start (spell_number 14 ++ parts)
unfolding digits
name_14 parts h = one_taken request_step at_start 49 (52 ∷ 126 ∷ parts) (one_taken request_step (one_digit 1 (fields.Tumbler ∷ [])) 52 (126 ∷ parts) (one_taken request_step (two_digits (fields.Tumbler ∷ [])) 126 parts h))

name_16 : (parts : List ℕ) → follows request_step (begun (fields_next [])) parts → takes request_step at_start (spell_number 16 ++ parts)
unfolding digits
name_16 parts h = one_taken request_step at_start 49 (54 ∷ 126 ∷ parts) (one_taken request_step (one_digit 1 (fields.Tumbler ∷ [])) 54 (126 ∷ parts) (one_taken request_step (two_digits []) 126 parts h))

name_18 : (parts : List ℕ) → follows request_step (begun (fields_next (fields.Tumbler ∷ fields.Number ∷ []))) parts → takes request_step at_start (spell_number 18 ++ parts)
unfolding digits
name_18 parts h = one_taken request_step at_start 49 (56 ∷ 126 ∷ parts) (one_taken request_step (one_digit 1 (fields.Tumbler ∷ [])) 56 (126 ∷ parts) (one_taken request_step (two_digits (fields.Tumbler ∷ fields.Number ∷ [])) 126 parts h))

name_22 : (parts : List ℕ) → follows request_step (begun (fields_next (fields.Specs ∷ []))) parts → takes request_step at_start (spell_number 22 ++ parts)
unfolding digits
name_22 parts h = one_taken request_step at_start 50 (50 ∷ 126 ∷ parts) (one_taken request_step (one_digit 2 (fields.Tumbler ∷ fields.Tumbler ∷ fields.Specs ∷ [])) 50 (126 ∷ parts) (one_taken request_step (two_digits (fields.Specs ∷ [])) 126 parts h))

name_27 : (parts : List ℕ) → follows request_step (begun (fields_next (fields.Tumbler ∷ fields.Specs ∷ fields.Specs ∷ fields.Specs ∷ []))) parts → takes request_step at_start (spell_number 27 ++ parts)
unfolding digits
name_27 parts h = one_taken request_step at_start 50 (55 ∷ 126 ∷ parts) (one_taken request_step (one_digit 2 (fields.Tumbler ∷ fields.Tumbler ∷ fields.Specs ∷ [])) 55 (126 ∷ parts) (one_taken request_step (two_digits (fields.Tumbler ∷ fields.Specs ∷ fields.Specs ∷ fields.Specs ∷ [])) 126 parts h))

name_28 : (parts : List ℕ) → follows request_step (begun (fields_next (fields.Specs ∷ []))) parts → takes request_step at_start (spell_number 28 ++ parts)
unfolding digits
name_28 parts h = one_taken request_step at_start 50 (56 ∷ 126 ∷ parts) (one_taken request_step (one_digit 2 (fields.Tumbler ∷ fields.Tumbler ∷ fields.Specs ∷ [])) 56 (126 ∷ parts) (one_taken request_step (two_digits (fields.Specs ∷ [])) 126 parts h))

name_29 : (parts : List ℕ) → follows request_step (begun (fields_next (fields.Spans ∷ fields.Specs ∷ fields.Specs ∷ fields.Specs ∷ []))) parts → takes request_step at_start (spell_number 29 ++ parts)
unfolding digits
name_29 parts h = one_taken request_step at_start 50 (57 ∷ 126 ∷ parts) (one_taken request_step (one_digit 2 (fields.Tumbler ∷ fields.Tumbler ∷ fields.Specs ∷ [])) 57 (126 ∷ parts) (one_taken request_step (two_digits (fields.Spans ∷ fields.Specs ∷ fields.Specs ∷ fields.Specs ∷ [])) 126 parts h))

name_30 : (parts : List ℕ) → follows request_step (begun (fields_next (fields.Spans ∷ fields.Specs ∷ fields.Specs ∷ fields.Specs ∷ []))) parts → takes request_step at_start (spell_number 30 ++ parts)
unfolding digits
name_30 parts h = one_taken request_step at_start 51 (48 ∷ 126 ∷ parts) (one_taken request_step (one_digit 3 (fields.Tumbler ∷ fields.Tumblers ∷ [])) 48 (126 ∷ parts) (one_taken request_step (two_digits (fields.Spans ∷ fields.Specs ∷ fields.Specs ∷ fields.Specs ∷ [])) 126 parts h))

name_31 : (parts : List ℕ) → follows request_step (begun (fields_next (fields.Spans ∷ fields.Specs ∷ fields.Specs ∷ fields.Specs ∷ fields.Tumbler ∷ fields.Number ∷ []))) parts → takes request_step at_start (spell_number 31 ++ parts)
unfolding digits
name_31 parts h = one_taken request_step at_start 51 (49 ∷ 126 ∷ parts) (one_taken request_step (one_digit 3 (fields.Tumbler ∷ fields.Tumblers ∷ [])) 49 (126 ∷ parts) (one_taken request_step (two_digits (fields.Spans ∷ fields.Specs ∷ fields.Specs ∷ fields.Specs ∷ fields.Tumbler ∷ fields.Number ∷ [])) 126 parts h))

name_34 : (parts : List ℕ) → follows request_step (begun (fields_next (fields.Tumbler ∷ []))) parts → takes request_step at_start (spell_number 34 ++ parts)
unfolding digits
name_34 parts h = one_taken request_step at_start 51 (52 ∷ 126 ∷ parts) (one_taken request_step (one_digit 3 (fields.Tumbler ∷ fields.Tumblers ∷ [])) 52 (126 ∷ parts) (one_taken request_step (two_digits (fields.Tumbler ∷ [])) 126 parts h))

name_35 : (parts : List ℕ) → follows request_step (begun (fields_next (fields.Tumbler ∷ fields.Mode ∷ fields.Rule ∷ []))) parts → takes request_step at_start (spell_number 35 ++ parts)
unfolding digits
name_35 parts h = one_taken request_step at_start 51 (53 ∷ 126 ∷ parts) (one_taken request_step (one_digit 3 (fields.Tumbler ∷ fields.Tumblers ∷ [])) 53 (126 ∷ parts) (one_taken request_step (two_digits (fields.Tumbler ∷ fields.Mode ∷ fields.Rule ∷ [])) 126 parts h))

name_36 : (parts : List ℕ) → follows request_step (begun (fields_next (fields.Tumbler ∷ []))) parts → takes request_step at_start (spell_number 36 ++ parts)
unfolding digits
name_36 parts h = one_taken request_step at_start 51 (54 ∷ 126 ∷ parts) (one_taken request_step (one_digit 3 (fields.Tumbler ∷ fields.Tumblers ∷ [])) 54 (126 ∷ parts) (one_taken request_step (two_digits (fields.Tumbler ∷ [])) 126 parts h))

name_40 : (parts : List ℕ) → follows request_step (begun (fields_next (fields.Tumbler ∷ []))) parts → takes request_step at_start (spell_number 40 ++ parts)
unfolding digits
name_40 parts h = one_taken request_step at_start 52 (48 ∷ 126 ∷ parts) (one_taken request_step at_four 48 (126 ∷ parts) (one_taken request_step (two_digits (fields.Tumbler ∷ [])) 126 parts h))

-- a valid request is taken
spelled_taken : (r : PlainRequest) → IsRequest r → takes request_step at_start (spell_request r)
spelled_taken (insert document at text) h = name_0 (spell_values (insert document at text)) (begun_in (fields_next (fields.Tumbler ∷ fields.Tumbler ∷ fields.Text ∷ [])) (spell_values (insert document at text)) (fields_again (fields.Tumbler ∷ fields.Tumbler ∷ fields.Text ∷ []) (document, (at, (text, tt))) h))
spelled_taken (span_set document) h = name_1 (spell_values (span_set document)) (begun_in (fields_next (fields.Tumbler ∷ [])) (spell_values (span_set document)) (fields_again (fields.Tumbler ∷ []) (document, tt) h))
spelled_taken (copy document at specs) h = name_2 (spell_values (copy document at specs)) (begun_in (fields_next (fields.Tumbler ∷ fields.Tumbler ∷ fields.Specs ∷ [])) (spell_values (copy document at specs)) (fields_again (fields.Tumbler ∷ fields.Tumbler ∷ fields.Specs ∷ []) (document, (at, (specs, tt))) h))
spelled_taken (rearrange document cuts) h = name_3 (spell_values (rearrange document cuts)) (begun_in (fields_next (fields.Tumbler ∷ fields.Tumblers ∷ [])) (spell_values (rearrange document cuts)) (fields_again (fields.Tumbler ∷ fields.Tumblers ∷ []) (document, (cuts, tt)) h))
spelled_taken (retrieve specs) h = name_5 (spell_values (retrieve specs)) (begun_in (fields_next (fields.Specs ∷ [])) (spell_values (retrieve specs)) (fields_again (fields.Specs ∷ []) (specs, tt) h))
spelled_taken (relate left right) h = name_10 (spell_values (relate left right)) (begun_in (fields_next (fields.Spec ∷ fields.Spec ∷ [])) (spell_values (relate left right)) (fields_again (fields.Spec ∷ fields.Spec ∷ []) (left, (right, tt)) h))
spelled_taken create h = name_11 (spell_values create) (begun_in (fields_next []) (spell_values create) (fields_again [] tt h))
spelled_taken (delete document span) h = name_12 (spell_values (delete document span)) (begun_in (fields_next (fields.Tumbler ∷ fields.Span ∷ [])) (spell_values (delete document span)) (fields_again (fields.Tumbler ∷ fields.Span ∷ []) (document, (span, tt)) h))
spelled_taken (version document) h = name_13 (spell_values (version document)) (begun_in (fields_next (fields.Tumbler ∷ [])) (spell_values (version document)) (fields_again (fields.Tumbler ∷ []) (document, tt) h))
spelled_taken (whole_span document) h = name_14 (spell_values (whole_span document)) (begun_in (fields_next (fields.Tumbler ∷ [])) (spell_values (whole_span document)) (fields_again (fields.Tumbler ∷ []) (document, tt) h))
spelled_taken quit h = name_16 (spell_values quit) (begun_in (fields_next []) (spell_values quit) (fields_again [] tt h))
spelled_taken (follow link end) h = name_18 (spell_values (follow link end)) (begun_in (fields_next (fields.Tumbler ∷ fields.Number ∷ [])) (spell_values (follow link end)) (fields_again (fields.Tumbler ∷ fields.Number ∷ []) (link, (end, tt)) h))
spelled_taken (find_documents specs) h = name_22 (spell_values (find_documents specs)) (begun_in (fields_next (fields.Specs ∷ [])) (spell_values (find_documents specs)) (fields_again (fields.Specs ∷ []) (specs, tt) h))
spelled_taken (create_link home from to three) h = name_27 (spell_values (create_link home from to three)) (begun_in (fields_next (fields.Tumbler ∷ fields.Specs ∷ fields.Specs ∷ fields.Specs ∷ [])) (spell_values (create_link home from to three)) (fields_again (fields.Tumbler ∷ fields.Specs ∷ fields.Specs ∷ fields.Specs ∷ []) (home, (from, (to, (three, tt)))) h))
spelled_taken (end_sets specs) h = name_28 (spell_values (end_sets specs)) (begun_in (fields_next (fields.Specs ∷ [])) (spell_values (end_sets specs)) (fields_again (fields.Specs ∷ []) (specs, tt) h))
spelled_taken (count_links want) h = name_29 (spell_values (count_links want)) (begun_in (fields_next (fields.Spans ∷ fields.Specs ∷ fields.Specs ∷ fields.Specs ∷ [])) (spell_values (count_links want)) (fields_again (fields.Spans ∷ fields.Specs ∷ fields.Specs ∷ fields.Specs ∷ []) (want.homes, (want.from, (want.to, (want.three, tt)))) h))
spelled_taken (find_links want) h = name_30 (spell_values (find_links want)) (begun_in (fields_next (fields.Spans ∷ fields.Specs ∷ fields.Specs ∷ fields.Specs ∷ [])) (spell_values (find_links want)) (fields_again (fields.Spans ∷ fields.Specs ∷ fields.Specs ∷ fields.Specs ∷ []) (want.homes, (want.from, (want.to, (want.three, tt)))) h))
spelled_taken (next_links want after limit) h = name_31 (spell_values (next_links want after limit)) (begun_in (fields_next (fields.Spans ∷ fields.Specs ∷ fields.Specs ∷ fields.Specs ∷ fields.Tumbler ∷ fields.Number ∷ [])) (spell_values (next_links want after limit)) (fields_again (fields.Spans ∷ fields.Specs ∷ fields.Specs ∷ fields.Specs ∷ fields.Tumbler ∷ fields.Number ∷ []) (want.homes, (want.from, (want.to, (want.three, (after, (limit, tt)))))) h))
spelled_taken (set_account account) h = name_34 (spell_values (set_account account)) (begun_in (fields_next (fields.Tumbler ∷ [])) (spell_values (set_account account)) (fields_again (fields.Tumbler ∷ []) (account, tt) h))
spelled_taken (opens document mode rule) h = name_35 (spell_values (opens document mode rule)) (begun_in (fields_next (fields.Tumbler ∷ fields.Mode ∷ fields.Rule ∷ [])) (spell_values (opens document mode rule)) (fields_again (fields.Tumbler ∷ fields.Mode ∷ fields.Rule ∷ []) (document, (mode, (rule, tt))) h))
spelled_taken (closes document) h = name_36 (spell_values (closes document)) (begun_in (fields_next (fields.Tumbler ∷ [])) (spell_values (closes document)) (fields_again (fields.Tumbler ∷ []) (document, tt) h))
spelled_taken (publish document) h = name_40 (spell_values (publish document)) (begun_in (fields_next (fields.Tumbler ∷ [])) (spell_values (publish document)) (fields_again (fields.Tumbler ∷ []) (document, tt) h))

pub request_taken : (bytes : List ℕ) → IsSpelled bytes → takes request_step at_start bytes
request_taken bytes h = subst (takes request_step at_start) (sym h.spells.spelled) (spelled_taken h.request h.spells.valid)

-- ---- what is taken spells a request

spells_named : (n : ℕ) (bytes : List ℕ) → NamedRequest n bytes → IsSpelled (spell_number n ++ bytes)
spells_named n bytes h = record {
  request = h.request;
  spells = record { valid = h.valid; spelled = ap (λ (k : ℕ). spell_number k ++ bytes) (sym h.number) ∙ ap (λ (ds : List ℕ). spell_number (request_number h.request) ++ ds) h.parts };
}

one_name : (b : ℕ) (bytes : List ℕ) → 48 ≤ b → b ≤ 57 → spell_number (b - 48) ++ bytes ≡ b ∷ 126 ∷ bytes
one_name b bytes low high = ap (λ (ds : List ℕ). (ds ++ 126 ∷ []) ++ bytes) (one_digit_is b low high)

two_names : (b c : ℕ) (bytes : List ℕ) → 48 < b → b ≤ 57 → 48 ≤ c → c ≤ 57 → is_ascii_digit c ≡ true → spell_number ((b - 48) * 10 + (c - 48)) ++ bytes ≡ b ∷ c ∷ 126 ∷ bytes
two_names b c bytes low high low' high' digit =
    let two : decimal ((b - 48) * 10 + (c - 48)) ≡ b ∷ c ∷ [] = sym (next_digit (b - 48) c (omega arith) digit (omega arith)) ∙ ap (λ (ds : List ℕ). ds ++ c ∷ []) (one_digit_is b (omega arith) high) in
    ap (λ (ds : List ℕ). (ds ++ 126 ∷ []) ++ bytes) two

-- the fields that a named outcome goes on with
named_goes : (next : List Field → RequestState) (found : Option (List Field)) (bytes : List ℕ) → follows request_step (named next found) bytes → (behind : List Field) × (found ≡ Some behind) × takes request_step (next behind) bytes
named_goes next (Some behind) bytes h = (behind, refl, h)
named_goes next None bytes h = absurd h

two_digits_take : (b c : ℕ) (behind : List Field) (bytes : List ℕ) → 48 < b → b ≤ 57 → is_ascii_digit c ≡ true → fields_of ((b - 48) * 10 + (c - 48)) ≡ Some behind → takes request_step (two_digits behind) bytes → IsSpelled (b ∷ c ∷ bytes)
two_digits_take b c behind [] low high digit e h = absurd (takes_some request_step (two_digits behind) h)
two_digits_take b c behind (d ∷ bytes) low high digit e h =
    let f = takes_one request_step (two_digits behind) d bytes h in
    elim (cases_Bool (d == 126)) [
      | inl tilde ↦
          let range = is_digit c digit in
          let spells = fields_take behind bytes (begun_out (fields_next behind) bytes (rw tilde at f)) in
          let found = request_named ((b - 48) * 10 + (c - 48)) behind bytes e spells in
          subst (λ (x : ℕ). IsSpelled (b ∷ c ∷ x ∷ bytes)) (sym (eqb-true _ _ tilde)) (subst IsSpelled (two_names b c bytes low high range.0 range.1 digit) (spells_named ((b - 48) * 10 + (c - 48)) bytes found))
      | inr other ↦ absurd (rw other at f)
    ]

one_digit_takes : (b : ℕ) (behind : List Field) (bytes : List ℕ) → 48 ≤ b → b ≤ 57 → fields_of (b - 48) ≡ Some behind → takes request_step (one_digit (b - 48) behind) bytes → IsSpelled (b ∷ bytes)
one_digit_takes b behind [] low high e h = absurd (takes_some request_step (one_digit (b - 48) behind) h)
one_digit_takes b behind (c ∷ bytes) low high e h =
    let f = takes_one request_step (one_digit (b - 48) behind) c bytes h in
    elim (cases_Bool (c == 126)) [
      | inl tilde ↦
          let spells = fields_take behind bytes (begun_out (fields_next behind) bytes (rw tilde at f)) in
          let found = request_named (b - 48) behind bytes e spells in
          subst (λ (x : ℕ). IsSpelled (b ∷ x ∷ bytes)) (sym (eqb-true _ _ tilde)) (subst IsSpelled (one_name b bytes low high) (spells_named (b - 48) bytes found))
      | inr other ↦ elim (cases_Bool (b - 48 == 0)) [
        | inl none ↦ absurd (rw (other, none) at f)
        | inr some ↦
            let not_zero = eqb-false _ _ some in
            let small : nat_lt 9 (b - 48) ≡ false = le-ltb 9 (b - 48) (omega arith) in
            elim (cases_Bool (is_ascii_digit c)) [
              | inl digit ↦
                  let g = named_goes (λ behind. two_digits behind) (fields_of ((b - 48) * 10 + (c - 48))) bytes (rw (other, some, small, digit) at f) in
                  two_digits_take b c g.0 bytes (omega arith) high digit g.1 g.2
              | inr none ↦ absurd (rw (other, some, small, none) at f)
            ]
      ]
    ]

four_takes : (bytes : List ℕ) → takes request_step at_four bytes → IsSpelled (52 ∷ bytes)
four_takes [] h = absurd (takes_some request_step at_four h)
four_takes (c ∷ bytes) h =
    let f = takes_one request_step at_four c bytes h in
    elim (cases_Bool (is_ascii_digit c)) [
      | inl digit ↦
          let g = named_goes (λ behind. two_digits behind) (fields_of (4 * 10 + (c - 48))) bytes (rw digit at f) in
          two_digits_take 52 c g.0 bytes (omega arith) (omega arith) digit g.1 g.2
      | inr none ↦ absurd (rw none at f)
    ]

pub request_takes : (bytes : List ℕ) → takes request_step at_start bytes → IsSpelled bytes
request_takes [] h = absurd (takes_some request_step at_start h)
request_takes (b ∷ bytes) h =
    let f = takes_one request_step at_start b bytes h in
    elim (cases_Bool (b == 52)) [
      | inl four ↦ subst (λ (x : ℕ). IsSpelled (x ∷ bytes)) (sym (eqb-true _ _ four)) (four_takes bytes (rw four at f))
      | inr other ↦ elim (cases_Bool (is_ascii_digit b)) [
        | inl digit ↦
            let range = is_digit b digit in
            let g = named_goes (λ behind. one_digit (b - 48) behind) (fields_of (b - 48)) bytes (rw (other, digit) at f) in
            one_digit_takes b g.0 bytes range.0 range.1 g.1 g.2
        | inr none ↦ absurd (rw (other, none) at f)
      ]
    ]

-- ---- each state goes on

begun_goes_on : (behind : List Field) → (bytes : List ℕ) × follows request_step (begun (fields_next behind)) bytes
begun_goes_on behind =
    let on = fields_go_on behind in
    (on.0, begun_in (fields_next behind) on.0 on.1)

pub request_goes_on : (s : RequestState) → (bytes : List ℕ) × takes request_step s bytes
request_goes_on at_start = (49 ∷ 54 ∷ 126 ∷ [], one_taken request_step at_start 49 (54 ∷ 126 ∷ []) (one_taken request_step (one_digit 1 (fields.Tumbler ∷ [])) 54 (126 ∷ []) (one_taken request_step (two_digits []) 126 [] refl)))
request_goes_on (one_digit number behind) =
    let on = begun_goes_on behind in
    (126 ∷ on.0, one_taken request_step (one_digit number behind) 126 on.0 on.1)
request_goes_on at_four =
    let on = begun_goes_on (fields.Tumbler ∷ []) in
    (48 ∷ 126 ∷ on.0, one_taken request_step at_four 48 (126 ∷ on.0) (one_taken request_step (two_digits (fields.Tumbler ∷ [])) 126 on.0 on.1))
request_goes_on (two_digits behind) =
    let on = begun_goes_on behind in
    (126 ∷ on.0, one_taken request_step (two_digits behind) 126 on.0 on.1)
request_goes_on (in_fields s) =
    let on = never_stuck s in
    (on.0, fields_in s on.0 on.1)

-- ---- what a scan of requests says

-- within the fields it says what a scan of fields says
pub scan_in : (s : State) (bytes : List ℕ) → scan request_step (in_fields s) bytes ≡ scan field_step s bytes
unfolding scan
scan_in s [] = refl
scan_in s (b ∷ bytes) = in_by (λ t. scan_in t bytes) (field_step s b) where
  in_by : ((t : State) → scan request_step (in_fields t) bytes ≡ scan field_step t bytes) → (o : Outcome State) → scan_on (begun o) (λ next. scan request_step next bytes) ≡ scan_on o (λ next. scan field_step next bytes)
  in_by on (goes t) = ap behind_one (on t)
  in_by on done = refl
  in_by on fails = refl

pub request_scanned : (bytes : List ℕ) (r : Scanned) → r ≡ scan request_step at_start bytes → IsScanned IsSpelled bytes r
request_scanned bytes r e = subst (IsScanned IsSpelled bytes) (sym e) (scanned_too (takes request_step at_start) IsSpelled request_takes request_taken bytes (scan request_step at_start bytes) (scan_says request_step request_goes_on at_start bytes))

-- ---- reading what was scanned

-- a request that was scanned is the one that is read
pub read_again : (bytes : List ℕ) (used : ℕ) (h : HasSpelledPrefix IsSpelled bytes used) → request_at bytes ≡ Some (h.prefix.request, drop used bytes)
read_again bytes used h =
    let whole : bytes ≡ spell_request h.prefix.request ++ drop used bytes = sym (take-append-drop used bytes) ∙ ap (λ (ds : List ℕ). ds ++ drop used bytes) h.prefix.spells.spelled in
    ap request_at whole ∙ request_again h.prefix.request (drop used bytes) h.prefix.spells.valid

pub is_read : (bytes : List ℕ) (used : ℕ) (request : PlainRequest) (rest : List ℕ) → HasSpelledPrefix IsSpelled bytes used → request_at bytes ≡ Some (request, rest) → IsRead bytes request used
is_read bytes used request rest h e =
    let p = some_pair_parts h.prefix.request request (drop used bytes) rest (sym (read_again bytes used h) ∙ e) in
    record { within = h.within; spells = subst (Spells (take used bytes)) p.0 h.prefix.spells }

pub not_none : (bytes : List ℕ) (used : ℕ) → HasSpelledPrefix IsSpelled bytes used → request_at bytes ≡ None → ⊥
not_none bytes used h e = cc (sym (read_again bytes used h) ∙ e)
