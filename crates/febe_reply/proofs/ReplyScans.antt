-- The scan of replies takes what spells a reply, and nothing else.
use Rattle.std.proofs.Common.{◌≡◌, ℕ, zero, suc, ◌+◌, ◌-◌, ◌*◌, ◌<◌, ◌≤◌, true, false, List, [], ◌∷◌, ◌++◌, length, take, drop, get_or, Option, Some, None, refl, sym, ap, subst, ◌∙◌, arith, inl, inr}
use Rattle.std.specs.Prelude.{◌==◌, nat_lt}
use Rattle.std.specs.List.{flat_map, AllByRecursion}
use Rattle.std.specs.Fmt.{decimal, digits}
use Rattle.std.specs.Char.{is_ascii_digit}
use Rattle.std.proofs.lemmas.Bool.{cases_Bool, eqb-true, eqb-false, ne_eqb, le-ltb}
use Rattle.std.proofs.lemmas.Option.{same_Some, some_pair_parts}
use Rattle.std.proofs.lemmas.List.{append-nil, length-drop, take-append-drop}
use Rattle.febe_data.specs.declared.refusal.Refusal.{Refusal}
use Rattle.febe_data.specs.declared.refusal.Refusal.TheVariants as refusals
use Rattle.febe_data.specs.Refusal.{refusal_number}
use Rattle.febe_data.specs.Plain.{PlainReply, inserted, copied, rearranged, deleted, has_quit, account_set, closed, gave_span_set, gave_whole_span, retrieved, related, created, versioned, linked, opened, followed, found_documents, gave_end_sets, counted_links, found_links, gave_next_links, refused, published}
use Rattle.febe_data.specs.FieldValues.{reply_values}
use Rattle.febe_data.specs.Spelling.{spell_number, spell_item, spell_diagonal, spell_list, spell_value}
use Rattle.febe_data.specs.Validity.{IsReply}
use Rattle.febe_fields.specs.declared.scanner.Field.TheVariants as fields
use Rattle.febe_fields.specs.declared.scanned.Scanned.{Scanned}
use Rattle.febe_fields.specs.Prefixes.{IsScanned, HasSpelledPrefix}
use Rattle.febe_fields.specs.Scanning.{Outcome, goes, done, fails, behind, scan}
use Rattle.febe_fields.specs.Machine.{State, fields_next, field_step}
use Rattle.febe_fields.specs.Fields.{SpellsFields, takes, follows}
use Rattle.febe_fields.proofs.FieldLaws.{chosen}
use Rattle.febe_fields.proofs.Scans.{takes_some, takes_one, one_taken, scan_says, scanned_too}
use Rattle.febe_fields.proofs.NumberScans.{next_digit}
use Rattle.febe_fields.proofs.TumblerScans.{is_digit, one_digit_is}
use Rattle.febe_fields.proofs.FieldsTaken.{fields_take}
use Rattle.febe_fields.proofs.FieldsAgain.{fields_again}
use Rattle.febe_fields.proofs.Live.{fields_go_on, never_stuck}
use Rattle.febe_fields.proofs.Passing.{behind_more, rest_goes}
use Rattle.febe_reply.specs.declared.scan.NumberRole.{NumberRole}
use Rattle.febe_reply.specs.declared.scan.NumberRole.TheVariants as soughts
use Rattle.febe_reply.specs.ReplyGrammar.{reply_head, spell_reply, HasBytes, SpellsReply, IsSpelledReply}
use Rattle.febe_reply.specs.inside.Reading.{reply_at}
use Rattle.febe_reply.specs.Reads.{IsReadReply}
use Rattle.febe_reply.specs.inside.ReplyMachine.{Behind, these, some_items, some_diagonals, ReplyState, at_start, one_digit, at_four, two_digits, in_fields, at_number, at_zero, in_number, at_item, in_item, at_address, payload_of, number_ended, begun, behind_next, named, reply_step}
use Rattle.febe_reply.proofs.CountScans.{most_some, count_takes, count_again}
use Rattle.febe_reply.proofs.ItemScans as item_scans
use Rattle.febe_reply.proofs.ItemScans.{SpellsItems, prefix_again, one_item_goes_on, items_go_on}
use Rattle.febe_reply.proofs.DiagonalScans as diagonal_scans
use Rattle.febe_reply.proofs.DiagonalScans.{SpellsDiagonals, dot_again, one_again, point_again, address_again, diagonals_go_on}
use Rattle.febe_reply.proofs.ReplyLaws.{refusal_bounds, reply_again}

-- ---- the fields within a reply

fields_in : (s : State) (input : List ℕ) → takes field_step s input → takes reply_step (in_fields s) input
fields_in s [] h = absurd (takes_some field_step s h)
fields_in s (b ∷ input) h = one_taken reply_step (in_fields s) b input (in_by (λ t. fields_in t input) (field_step s b) (takes_one field_step s b input h)) where
  in_by : ((t : State) → takes field_step t input → takes reply_step (in_fields t) input) → (o : Outcome State) → follows field_step o input → follows reply_step (begun o) input
  in_by on (goes t) h = on t h
  in_by on done h = h
  in_by on fails h = absurd h

fields_out : (s : State) (input : List ℕ) → takes reply_step (in_fields s) input → takes field_step s input
fields_out s [] h = absurd (takes_some reply_step (in_fields s) h)
fields_out s (b ∷ input) h = one_taken field_step s b input (out_by (λ t. fields_out t input) (field_step s b) (takes_one reply_step (in_fields s) b input h)) where
  out_by : ((t : State) → takes reply_step (in_fields t) input → takes field_step t input) → (o : Outcome State) → follows reply_step (begun o) input → follows field_step o input
  out_by on (goes t) h = on t h
  out_by on done h = h
  out_by on fails h = absurd h

begun_in : (o : Outcome State) (input : List ℕ) → follows field_step o input → follows reply_step (begun o) input
begun_in (goes s) input h = fields_in s input h
begun_in done input h = h
begun_in fails input h = absurd h

begun_out : (o : Outcome State) (input : List ℕ) → follows reply_step (begun o) input → follows field_step o input
begun_out (goes s) input h = fields_out s input h
begun_out done input h = h
begun_out fails input h = absurd h

-- ---- what stands behind a number

-- these bytes spell what comes behind a number
abbrev SpellsBehind : Behind → List ℕ → Type 0
SpellsBehind (these fields) input = SpellsFields fields input
SpellsBehind some_items input = SpellsItems input
SpellsBehind some_diagonals input = SpellsDiagonals input

behind_takes : (b : Behind) (input : List ℕ) → follows reply_step (behind_next b) input → SpellsBehind b input
behind_takes (these fields) input h = fields_take fields input (begun_out (fields_next fields) input h)
behind_takes some_items input h = item_scans.list_takes input h
behind_takes some_diagonals input h = diagonal_scans.list_takes input h

-- ---- replies by their numbers

-- the reply of this number, which gives what is spelled so
record NamedReply (n : ℕ) (input : List ℕ) : Type 0 where
  reply : PlainReply
  valid : IsReply reply
  texts : AllByRecursion HasBytes (reply_values reply)
  head : reply_head reply ≡ spell_number n
  parts : input ≡ flat_map spell_value (reply_values reply)

named_0 : (input : List ℕ) → SpellsBehind (these []) input → NamedReply 0 input
named_0 input h = record { reply = inserted; valid = h.valid; texts = tt; head = refl; parts = h.spelled }

named_1 : (input : List ℕ) → SpellsBehind (these (fields.Spans ∷ [])) input → NamedReply 1 input
named_1 input h = record { reply = gave_span_set h.values.0; valid = h.valid; texts = (tt, tt); head = refl; parts = h.spelled }

named_2 : (input : List ℕ) → SpellsBehind (these []) input → NamedReply 2 input
named_2 input h = record { reply = copied; valid = h.valid; texts = tt; head = refl; parts = h.spelled }

named_3 : (input : List ℕ) → SpellsBehind (these []) input → NamedReply 3 input
named_3 input h = record { reply = rearranged; valid = h.valid; texts = tt; head = refl; parts = h.spelled }

named_5 : (input : List ℕ) → SpellsBehind some_items input → NamedReply 5 input
named_5 input h = record { reply = retrieved h.items; valid = (h.valid, tt); texts = (h.texts, tt); head = refl; parts = h.spelled ∙ sym (append-nil (spell_list spell_item h.items)) }

named_10 : (input : List ℕ) → SpellsBehind some_diagonals input → NamedReply 10 input
named_10 input h = record { reply = related h.diagonals; valid = (h.valid, tt); texts = (tt, tt); head = refl; parts = h.spelled ∙ sym (append-nil (spell_list spell_diagonal h.diagonals)) }

named_11 : (input : List ℕ) → SpellsBehind (these (fields.Tumbler ∷ [])) input → NamedReply 11 input
named_11 input h = record { reply = created h.values.0; valid = h.valid; texts = (tt, tt); head = refl; parts = h.spelled }

named_12 : (input : List ℕ) → SpellsBehind (these []) input → NamedReply 12 input
named_12 input h = record { reply = deleted; valid = h.valid; texts = tt; head = refl; parts = h.spelled }

named_13 : (input : List ℕ) → SpellsBehind (these (fields.Tumbler ∷ [])) input → NamedReply 13 input
named_13 input h = record { reply = versioned h.values.0; valid = h.valid; texts = (tt, tt); head = refl; parts = h.spelled }

named_14 : (input : List ℕ) → SpellsBehind (these (fields.Span ∷ [])) input → NamedReply 14 input
named_14 input h = record { reply = gave_whole_span h.values.0; valid = h.valid; texts = (tt, tt); head = refl; parts = h.spelled }

named_16 : (input : List ℕ) → SpellsBehind (these []) input → NamedReply 16 input
named_16 input h = record { reply = has_quit; valid = h.valid; texts = tt; head = refl; parts = h.spelled }

named_18 : (input : List ℕ) → SpellsBehind (these (fields.Specs ∷ [])) input → NamedReply 18 input
named_18 input h = record { reply = followed h.values.0; valid = h.valid; texts = (tt, tt); head = refl; parts = h.spelled }

named_22 : (input : List ℕ) → SpellsBehind (these (fields.Tumblers ∷ [])) input → NamedReply 22 input
named_22 input h = record { reply = found_documents h.values.0; valid = h.valid; texts = (tt, tt); head = refl; parts = h.spelled }

named_27 : (input : List ℕ) → SpellsBehind (these (fields.Tumbler ∷ [])) input → NamedReply 27 input
named_27 input h = record { reply = linked h.values.0; valid = h.valid; texts = (tt, tt); head = refl; parts = h.spelled }

named_28 : (input : List ℕ) → SpellsBehind (these (fields.Specs ∷ fields.Specs ∷ fields.Specs ∷ [])) input → NamedReply 28 input
named_28 input h = record { reply = gave_end_sets h.values.0 h.values.1.0 h.values.1.1.0; valid = h.valid; texts = (tt, (tt, (tt, tt))); head = refl; parts = h.spelled }

named_29 : (input : List ℕ) → SpellsBehind (these (fields.Number ∷ [])) input → NamedReply 29 input
named_29 input h = record { reply = counted_links h.values.0; valid = h.valid; texts = (tt, tt); head = refl; parts = h.spelled }

named_30 : (input : List ℕ) → SpellsBehind (these (fields.Tumblers ∷ [])) input → NamedReply 30 input
named_30 input h = record { reply = found_links h.values.0; valid = h.valid; texts = (tt, tt); head = refl; parts = h.spelled }

named_31 : (input : List ℕ) → SpellsBehind (these (fields.Tumblers ∷ [])) input → NamedReply 31 input
named_31 input h = record { reply = gave_next_links h.values.0; valid = h.valid; texts = (tt, tt); head = refl; parts = h.spelled }

named_34 : (input : List ℕ) → SpellsBehind (these []) input → NamedReply 34 input
named_34 input h = record { reply = account_set; valid = h.valid; texts = tt; head = refl; parts = h.spelled }

named_35 : (input : List ℕ) → SpellsBehind (these (fields.Tumbler ∷ [])) input → NamedReply 35 input
named_35 input h = record { reply = opened h.values.0; valid = h.valid; texts = (tt, tt); head = refl; parts = h.spelled }

named_36 : (input : List ℕ) → SpellsBehind (these []) input → NamedReply 36 input
named_36 input h = record { reply = closed; valid = h.valid; texts = tt; head = refl; parts = h.spelled }

named_40 : (input : List ℕ) → SpellsBehind (these []) input → NamedReply 40 input
named_40 input h = record { reply = published; valid = h.valid; texts = tt; head = refl; parts = h.spelled }

at_number_of : (n k : ℕ) (made given : Behind) (input : List ℕ) → n == k ≡ true → Some made ≡ Some given → (SpellsBehind made input → NamedReply k input) → SpellsBehind given input → NamedReply n input
at_number_of n k made given input is e by h = subst (λ (m : ℕ). NamedReply m input) (sym (eqb-true _ _ is)) (by (subst (λ (b : Behind). SpellsBehind b input) (sym (same_Some made given e)) h))

-- which reply has this number
reply_named : (n : ℕ) (b : Behind) (input : List ℕ) → payload_of n ≡ Some b → SpellsBehind b input → NamedReply n input
reply_named n b input e h =
    elim (chosen (n == 0) (Some (these [])) _ (Some b) e) [
      | inl is ↦ at_number_of n 0 (these []) b input is.0 is.1 (named_0 input) h
      | inr not0 ↦
          elim (chosen (n == 1) (Some (these (fields.Spans ∷ []))) _ (Some b) not0.1) [
            | inl is ↦ at_number_of n 1 (these (fields.Spans ∷ [])) b input is.0 is.1 (named_1 input) h
            | inr not1 ↦
                elim (chosen (n == 2) (Some (these [])) _ (Some b) not1.1) [
                  | inl is ↦ at_number_of n 2 (these []) b input is.0 is.1 (named_2 input) h
                  | inr not2 ↦
                      elim (chosen (n == 3) (Some (these [])) _ (Some b) not2.1) [
                        | inl is ↦ at_number_of n 3 (these []) b input is.0 is.1 (named_3 input) h
                        | inr not3 ↦
                            elim (chosen (n == 5) (Some some_items) _ (Some b) not3.1) [
                              | inl is ↦ at_number_of n 5 some_items b input is.0 is.1 (named_5 input) h
                              | inr not5 ↦
                                  elim (chosen (n == 10) (Some some_diagonals) _ (Some b) not5.1) [
                                    | inl is ↦ at_number_of n 10 some_diagonals b input is.0 is.1 (named_10 input) h
                                    | inr not10 ↦
                                        elim (chosen (n == 11) (Some (these (fields.Tumbler ∷ []))) _ (Some b) not10.1) [
                                          | inl is ↦ at_number_of n 11 (these (fields.Tumbler ∷ [])) b input is.0 is.1 (named_11 input) h
                                          | inr not11 ↦
                                              elim (chosen (n == 12) (Some (these [])) _ (Some b) not11.1) [
                                                | inl is ↦ at_number_of n 12 (these []) b input is.0 is.1 (named_12 input) h
                                                | inr not12 ↦
                                                    elim (chosen (n == 13) (Some (these (fields.Tumbler ∷ []))) _ (Some b) not12.1) [
                                                      | inl is ↦ at_number_of n 13 (these (fields.Tumbler ∷ [])) b input is.0 is.1 (named_13 input) h
                                                      | inr not13 ↦
                                                          elim (chosen (n == 14) (Some (these (fields.Span ∷ []))) _ (Some b) not13.1) [
                                                            | inl is ↦ at_number_of n 14 (these (fields.Span ∷ [])) b input is.0 is.1 (named_14 input) h
                                                            | inr not14 ↦
                                                                elim (chosen (n == 16) (Some (these [])) _ (Some b) not14.1) [
                                                                  | inl is ↦ at_number_of n 16 (these []) b input is.0 is.1 (named_16 input) h
                                                                  | inr not16 ↦
                                                                      elim (chosen (n == 18) (Some (these (fields.Specs ∷ []))) _ (Some b) not16.1) [
                                                                        | inl is ↦ at_number_of n 18 (these (fields.Specs ∷ [])) b input is.0 is.1 (named_18 input) h
                                                                        | inr not18 ↦
                                                                            elim (chosen (n == 22) (Some (these (fields.Tumblers ∷ []))) _ (Some b) not18.1) [
                                                                              | inl is ↦ at_number_of n 22 (these (fields.Tumblers ∷ [])) b input is.0 is.1 (named_22 input) h
                                                                              | inr not22 ↦
                                                                                  elim (chosen (n == 27) (Some (these (fields.Tumbler ∷ []))) _ (Some b) not22.1) [
                                                                                    | inl is ↦ at_number_of n 27 (these (fields.Tumbler ∷ [])) b input is.0 is.1 (named_27 input) h
                                                                                    | inr not27 ↦
                                                                                        elim (chosen (n == 28) (Some (these (fields.Specs ∷ fields.Specs ∷ fields.Specs ∷ []))) _ (Some b) not27.1) [
                                                                                          | inl is ↦ at_number_of n 28 (these (fields.Specs ∷ fields.Specs ∷ fields.Specs ∷ [])) b input is.0 is.1 (named_28 input) h
                                                                                          | inr not28 ↦
                                                                                              elim (chosen (n == 29) (Some (these (fields.Number ∷ []))) _ (Some b) not28.1) [
                                                                                                | inl is ↦ at_number_of n 29 (these (fields.Number ∷ [])) b input is.0 is.1 (named_29 input) h
                                                                                                | inr not29 ↦
                                                                                                    elim (chosen (n == 30) (Some (these (fields.Tumblers ∷ []))) _ (Some b) not29.1) [
                                                                                                      | inl is ↦ at_number_of n 30 (these (fields.Tumblers ∷ [])) b input is.0 is.1 (named_30 input) h
                                                                                                      | inr not30 ↦
                                                                                                          elim (chosen (n == 31) (Some (these (fields.Tumblers ∷ []))) _ (Some b) not30.1) [
                                                                                                            | inl is ↦ at_number_of n 31 (these (fields.Tumblers ∷ [])) b input is.0 is.1 (named_31 input) h
                                                                                                            | inr not31 ↦
                                                                                                                elim (chosen (n == 34) (Some (these [])) _ (Some b) not31.1) [
                                                                                                                  | inl is ↦ at_number_of n 34 (these []) b input is.0 is.1 (named_34 input) h
                                                                                                                  | inr not34 ↦
                                                                                                                      elim (chosen (n == 35) (Some (these (fields.Tumbler ∷ []))) _ (Some b) not34.1) [
                                                                                                                        | inl is ↦ at_number_of n 35 (these (fields.Tumbler ∷ [])) b input is.0 is.1 (named_35 input) h
                                                                                                                        | inr not35 ↦
                                                                                                                            elim (chosen (n == 36) (Some (these [])) _ (Some b) not35.1) [
                                                                                                                              | inl is ↦ at_number_of n 36 (these []) b input is.0 is.1 (named_36 input) h
                                                                                                                              | inr not36 ↦
                                                                                                                                  elim (chosen (n == 40) (Some (these [])) _ (Some b) not36.1) [
                                                                                                                                    | inl is ↦ at_number_of n 40 (these []) b input is.0 is.1 (named_40 input) h
                                                                                                                                    | inr not40 ↦
                                                                                                                                        absurd (cc not40.1)
                                                                                                                                  ]
                                                                                                                            ]
                                                                                                                      ]
                                                                                                                ]
                                                                                                          ]
                                                                                                    ]
                                                                                              ]
                                                                                        ]
                                                                                  ]
                                                                            ]
                                                                      ]
                                                                ]
                                                          ]
                                                    ]
                                              ]
                                        ]
                                  ]
                            ]
                      ]
                ]
          ]
    ]

-- ---- each spelling is taken

name_0 : (parts : List ℕ) → follows reply_step (behind_next (these [])) parts → takes reply_step at_start (spell_number 0 ++ parts)
unfolding digits
name_0 parts h = one_taken reply_step at_start 48 (126 ∷ parts) (one_taken reply_step (one_digit 0 (these [])) 126 parts h)

name_1 : (parts : List ℕ) → follows reply_step (behind_next (these (fields.Spans ∷ []))) parts → takes reply_step at_start (spell_number 1 ++ parts)
unfolding digits
name_1 parts h = one_taken reply_step at_start 49 (126 ∷ parts) (one_taken reply_step (one_digit 1 (these (fields.Spans ∷ []))) 126 parts h)

name_2 : (parts : List ℕ) → follows reply_step (behind_next (these [])) parts → takes reply_step at_start (spell_number 2 ++ parts)
unfolding digits
name_2 parts h = one_taken reply_step at_start 50 (126 ∷ parts) (one_taken reply_step (one_digit 2 (these [])) 126 parts h)

name_3 : (parts : List ℕ) → follows reply_step (behind_next (these [])) parts → takes reply_step at_start (spell_number 3 ++ parts)
unfolding digits
name_3 parts h = one_taken reply_step at_start 51 (126 ∷ parts) (one_taken reply_step (one_digit 3 (these [])) 126 parts h)

name_5 : (parts : List ℕ) → follows reply_step (behind_next some_items) parts → takes reply_step at_start (spell_number 5 ++ parts)
unfolding digits
name_5 parts h = one_taken reply_step at_start 53 (126 ∷ parts) (one_taken reply_step (one_digit 5 some_items) 126 parts h)

name_10 : (parts : List ℕ) → follows reply_step (behind_next some_diagonals) parts → takes reply_step at_start (spell_number 10 ++ parts)
unfolding digits
name_10 parts h = one_taken reply_step at_start 49 (48 ∷ 126 ∷ parts) (one_taken reply_step (one_digit 1 (these (fields.Spans ∷ []))) 48 (126 ∷ parts) (one_taken reply_step (two_digits some_diagonals) 126 parts h))

name_11 : (parts : List ℕ) → follows reply_step (behind_next (these (fields.Tumbler ∷ []))) parts → takes reply_step at_start (spell_number 11 ++ parts)
unfolding digits
name_11 parts h = one_taken reply_step at_start 49 (49 ∷ 126 ∷ parts) (one_taken reply_step (one_digit 1 (these (fields.Spans ∷ []))) 49 (126 ∷ parts) (one_taken reply_step (two_digits (these (fields.Tumbler ∷ []))) 126 parts h))

name_12 : (parts : List ℕ) → follows reply_step (behind_next (these [])) parts → takes reply_step at_start (spell_number 12 ++ parts)
unfolding digits
name_12 parts h = one_taken reply_step at_start 49 (50 ∷ 126 ∷ parts) (one_taken reply_step (one_digit 1 (these (fields.Spans ∷ []))) 50 (126 ∷ parts) (one_taken reply_step (two_digits (these [])) 126 parts h))

name_13 : (parts : List ℕ) → follows reply_step (behind_next (these (fields.Tumbler ∷ []))) parts → takes reply_step at_start (spell_number 13 ++ parts)
unfolding digits
name_13 parts h = one_taken reply_step at_start 49 (51 ∷ 126 ∷ parts) (one_taken reply_step (one_digit 1 (these (fields.Spans ∷ []))) 51 (126 ∷ parts) (one_taken reply_step (two_digits (these (fields.Tumbler ∷ []))) 126 parts h))

name_14 : (parts : List ℕ) → follows reply_step (behind_next (these (fields.Span ∷ []))) parts → takes reply_step at_start (spell_number 14 ++ parts)
unfolding digits
name_14 parts h = one_taken reply_step at_start 49 (52 ∷ 126 ∷ parts) (one_taken reply_step (one_digit 1 (these (fields.Spans ∷ []))) 52 (126 ∷ parts) (one_taken reply_step (two_digits (these (fields.Span ∷ []))) 126 parts h))

name_16 : (parts : List ℕ) → follows reply_step (behind_next (these [])) parts → takes reply_step at_start (spell_number 16 ++ parts)
unfolding digits
name_16 parts h = one_taken reply_step at_start 49 (54 ∷ 126 ∷ parts) (one_taken reply_step (one_digit 1 (these (fields.Spans ∷ []))) 54 (126 ∷ parts) (one_taken reply_step (two_digits (these [])) 126 parts h))

name_18 : (parts : List ℕ) → follows reply_step (behind_next (these (fields.Specs ∷ []))) parts → takes reply_step at_start (spell_number 18 ++ parts)
unfolding digits
name_18 parts h = one_taken reply_step at_start 49 (56 ∷ 126 ∷ parts) (one_taken reply_step (one_digit 1 (these (fields.Spans ∷ []))) 56 (126 ∷ parts) (one_taken reply_step (two_digits (these (fields.Specs ∷ []))) 126 parts h))

name_22 : (parts : List ℕ) → follows reply_step (behind_next (these (fields.Tumblers ∷ []))) parts → takes reply_step at_start (spell_number 22 ++ parts)
unfolding digits
name_22 parts h = one_taken reply_step at_start 50 (50 ∷ 126 ∷ parts) (one_taken reply_step (one_digit 2 (these [])) 50 (126 ∷ parts) (one_taken reply_step (two_digits (these (fields.Tumblers ∷ []))) 126 parts h))

name_27 : (parts : List ℕ) → follows reply_step (behind_next (these (fields.Tumbler ∷ []))) parts → takes reply_step at_start (spell_number 27 ++ parts)
unfolding digits
name_27 parts h = one_taken reply_step at_start 50 (55 ∷ 126 ∷ parts) (one_taken reply_step (one_digit 2 (these [])) 55 (126 ∷ parts) (one_taken reply_step (two_digits (these (fields.Tumbler ∷ []))) 126 parts h))

name_28 : (parts : List ℕ) → follows reply_step (behind_next (these (fields.Specs ∷ fields.Specs ∷ fields.Specs ∷ []))) parts → takes reply_step at_start (spell_number 28 ++ parts)
unfolding digits
name_28 parts h = one_taken reply_step at_start 50 (56 ∷ 126 ∷ parts) (one_taken reply_step (one_digit 2 (these [])) 56 (126 ∷ parts) (one_taken reply_step (two_digits (these (fields.Specs ∷ fields.Specs ∷ fields.Specs ∷ []))) 126 parts h))

name_29 : (parts : List ℕ) → follows reply_step (behind_next (these (fields.Number ∷ []))) parts → takes reply_step at_start (spell_number 29 ++ parts)
unfolding digits
name_29 parts h = one_taken reply_step at_start 50 (57 ∷ 126 ∷ parts) (one_taken reply_step (one_digit 2 (these [])) 57 (126 ∷ parts) (one_taken reply_step (two_digits (these (fields.Number ∷ []))) 126 parts h))

name_30 : (parts : List ℕ) → follows reply_step (behind_next (these (fields.Tumblers ∷ []))) parts → takes reply_step at_start (spell_number 30 ++ parts)
unfolding digits
name_30 parts h = one_taken reply_step at_start 51 (48 ∷ 126 ∷ parts) (one_taken reply_step (one_digit 3 (these [])) 48 (126 ∷ parts) (one_taken reply_step (two_digits (these (fields.Tumblers ∷ []))) 126 parts h))

name_31 : (parts : List ℕ) → follows reply_step (behind_next (these (fields.Tumblers ∷ []))) parts → takes reply_step at_start (spell_number 31 ++ parts)
unfolding digits
name_31 parts h = one_taken reply_step at_start 51 (49 ∷ 126 ∷ parts) (one_taken reply_step (one_digit 3 (these [])) 49 (126 ∷ parts) (one_taken reply_step (two_digits (these (fields.Tumblers ∷ []))) 126 parts h))

name_34 : (parts : List ℕ) → follows reply_step (behind_next (these [])) parts → takes reply_step at_start (spell_number 34 ++ parts)
unfolding digits
name_34 parts h = one_taken reply_step at_start 51 (52 ∷ 126 ∷ parts) (one_taken reply_step (one_digit 3 (these [])) 52 (126 ∷ parts) (one_taken reply_step (two_digits (these [])) 126 parts h))

name_35 : (parts : List ℕ) → follows reply_step (behind_next (these (fields.Tumbler ∷ []))) parts → takes reply_step at_start (spell_number 35 ++ parts)
unfolding digits
name_35 parts h = one_taken reply_step at_start 51 (53 ∷ 126 ∷ parts) (one_taken reply_step (one_digit 3 (these [])) 53 (126 ∷ parts) (one_taken reply_step (two_digits (these (fields.Tumbler ∷ []))) 126 parts h))

name_36 : (parts : List ℕ) → follows reply_step (behind_next (these [])) parts → takes reply_step at_start (spell_number 36 ++ parts)
unfolding digits
name_36 parts h = one_taken reply_step at_start 51 (54 ∷ 126 ∷ parts) (one_taken reply_step (one_digit 3 (these [])) 54 (126 ∷ parts) (one_taken reply_step (two_digits (these [])) 126 parts h))

name_40 : (parts : List ℕ) → follows reply_step (behind_next (these [])) parts → takes reply_step at_start (spell_number 40 ++ parts)
unfolding digits
name_40 parts h = one_taken reply_step at_start 52 (48 ∷ 126 ∷ parts) (one_taken reply_step at_four 48 (126 ∷ parts) (one_taken reply_step (two_digits (these [])) 126 parts h))

-- a refusal is taken
refused_taken : (r : Refusal) → takes reply_step at_start (spell_reply (refused r))
refused_taken r =
    let bounds = refusal_bounds r in
    let number = count_again soughts.Refusal (refusal_number r) [] bounds.1 (λ e. bounds.0) refl in
    one_taken reply_step at_start 63 (spell_number (refusal_number r) ++ []) (subst (takes reply_step (at_number soughts.Refusal)) (sym (append-nil (spell_number (refusal_number r)))) number)

-- a valid reply is taken
spelled_taken : (r : PlainReply) → IsReply r → AllByRecursion HasBytes (reply_values r) → takes reply_step at_start (spell_reply r)
spelled_taken inserted h texts = name_0 (flat_map spell_value (reply_values inserted)) (begun_in (fields_next []) (flat_map spell_value (reply_values inserted)) (fields_again [] tt h))
spelled_taken (gave_span_set spans) h texts = name_1 (flat_map spell_value (reply_values (gave_span_set spans))) (begun_in (fields_next (fields.Spans ∷ [])) (flat_map spell_value (reply_values (gave_span_set spans))) (fields_again (fields.Spans ∷ []) (spans, tt) h))
spelled_taken copied h texts = name_2 (flat_map spell_value (reply_values copied)) (begun_in (fields_next []) (flat_map spell_value (reply_values copied)) (fields_again [] tt h))
spelled_taken rearranged h texts = name_3 (flat_map spell_value (reply_values rearranged)) (begun_in (fields_next []) (flat_map spell_value (reply_values rearranged)) (fields_again [] tt h))
spelled_taken (retrieved items) h texts = name_5 (spell_list spell_item items ++ []) (subst (takes reply_step (at_number soughts.Items)) (sym (append-nil (spell_list spell_item items))) (item_scans.list_again items h.0 texts.0))
spelled_taken (related diagonals) h texts = name_10 (spell_list spell_diagonal diagonals ++ []) (subst (takes reply_step (at_number soughts.Diagonals)) (sym (append-nil (spell_list spell_diagonal diagonals))) (diagonal_scans.list_again diagonals h.0))
spelled_taken (created document) h texts = name_11 (flat_map spell_value (reply_values (created document))) (begun_in (fields_next (fields.Tumbler ∷ [])) (flat_map spell_value (reply_values (created document))) (fields_again (fields.Tumbler ∷ []) (document, tt) h))
spelled_taken deleted h texts = name_12 (flat_map spell_value (reply_values deleted)) (begun_in (fields_next []) (flat_map spell_value (reply_values deleted)) (fields_again [] tt h))
spelled_taken (versioned document) h texts = name_13 (flat_map spell_value (reply_values (versioned document))) (begun_in (fields_next (fields.Tumbler ∷ [])) (flat_map spell_value (reply_values (versioned document))) (fields_again (fields.Tumbler ∷ []) (document, tt) h))
spelled_taken (gave_whole_span span) h texts = name_14 (flat_map spell_value (reply_values (gave_whole_span span))) (begun_in (fields_next (fields.Span ∷ [])) (flat_map spell_value (reply_values (gave_whole_span span))) (fields_again (fields.Span ∷ []) (span, tt) h))
spelled_taken has_quit h texts = name_16 (flat_map spell_value (reply_values has_quit)) (begun_in (fields_next []) (flat_map spell_value (reply_values has_quit)) (fields_again [] tt h))
spelled_taken (followed specs) h texts = name_18 (flat_map spell_value (reply_values (followed specs))) (begun_in (fields_next (fields.Specs ∷ [])) (flat_map spell_value (reply_values (followed specs))) (fields_again (fields.Specs ∷ []) (specs, tt) h))
spelled_taken (found_documents documents) h texts = name_22 (flat_map spell_value (reply_values (found_documents documents))) (begun_in (fields_next (fields.Tumblers ∷ [])) (flat_map spell_value (reply_values (found_documents documents))) (fields_again (fields.Tumblers ∷ []) (documents, tt) h))
spelled_taken (linked id) h texts = name_27 (flat_map spell_value (reply_values (linked id))) (begun_in (fields_next (fields.Tumbler ∷ [])) (flat_map spell_value (reply_values (linked id))) (fields_again (fields.Tumbler ∷ []) (id, tt) h))
spelled_taken (gave_end_sets from to three) h texts = name_28 (flat_map spell_value (reply_values (gave_end_sets from to three))) (begun_in (fields_next (fields.Specs ∷ fields.Specs ∷ fields.Specs ∷ [])) (flat_map spell_value (reply_values (gave_end_sets from to three))) (fields_again (fields.Specs ∷ fields.Specs ∷ fields.Specs ∷ []) (from, (to, (three, tt))) h))
spelled_taken (counted_links count) h texts = name_29 (flat_map spell_value (reply_values (counted_links count))) (begun_in (fields_next (fields.Number ∷ [])) (flat_map spell_value (reply_values (counted_links count))) (fields_again (fields.Number ∷ []) (count, tt) h))
spelled_taken (found_links ids) h texts = name_30 (flat_map spell_value (reply_values (found_links ids))) (begun_in (fields_next (fields.Tumblers ∷ [])) (flat_map spell_value (reply_values (found_links ids))) (fields_again (fields.Tumblers ∷ []) (ids, tt) h))
spelled_taken (gave_next_links ids) h texts = name_31 (flat_map spell_value (reply_values (gave_next_links ids))) (begun_in (fields_next (fields.Tumblers ∷ [])) (flat_map spell_value (reply_values (gave_next_links ids))) (fields_again (fields.Tumblers ∷ []) (ids, tt) h))
spelled_taken account_set h texts = name_34 (flat_map spell_value (reply_values account_set)) (begun_in (fields_next []) (flat_map spell_value (reply_values account_set)) (fields_again [] tt h))
spelled_taken (opened document) h texts = name_35 (flat_map spell_value (reply_values (opened document))) (begun_in (fields_next (fields.Tumbler ∷ [])) (flat_map spell_value (reply_values (opened document))) (fields_again (fields.Tumbler ∷ []) (document, tt) h))
spelled_taken closed h texts = name_36 (flat_map spell_value (reply_values closed)) (begun_in (fields_next []) (flat_map spell_value (reply_values closed)) (fields_again [] tt h))
spelled_taken (refused r) h texts = refused_taken r
spelled_taken published h texts = name_40 (flat_map spell_value (reply_values published)) (begun_in (fields_next []) (flat_map spell_value (reply_values published)) (fields_again [] tt h))

reply_taken : (input : List ℕ) → IsSpelledReply input → takes reply_step at_start input
reply_taken input h = subst (takes reply_step at_start) (sym h.spells.spelled) (spelled_taken h.reply h.spells.valid h.spells.texts)

-- ---- what is taken spells a reply

spells_named : (n : ℕ) (input : List ℕ) → NamedReply n input → IsSpelledReply (spell_number n ++ input)
spells_named n input h = record {
  reply = h.reply;
  spells = record {
    valid = h.valid;
    texts = h.texts;
    spelled = ap (λ (ds : List ℕ). ds ++ input) (sym h.head) ∙ ap (λ (ds : List ℕ). reply_head h.reply ++ ds) h.parts;
  };
}

one_name : (b : ℕ) (input : List ℕ) → 48 ≤ b → b ≤ 57 → spell_number (b - 48) ++ input ≡ b ∷ 126 ∷ input
one_name b input low high = ap (λ (ds : List ℕ). (ds ++ 126 ∷ []) ++ input) (one_digit_is b low high)

two_names : (b c : ℕ) (input : List ℕ) → 48 < b → b ≤ 57 → 48 ≤ c → c ≤ 57 → is_ascii_digit c ≡ true → spell_number ((b - 48) * 10 + (c - 48)) ++ input ≡ b ∷ c ∷ 126 ∷ input
two_names b c input low high low' high' digit =
    let two : decimal ((b - 48) * 10 + (c - 48)) ≡ b ∷ c ∷ [] = sym (next_digit (b - 48) c (omega arith) digit (omega arith)) ∙ ap (λ (ds : List ℕ). ds ++ c ∷ []) (one_digit_is b (omega arith) high) in
    ap (λ (ds : List ℕ). (ds ++ 126 ∷ []) ++ input) two

-- what a named outcome goes on with
named_goes : (next : Behind → ReplyState) (found : Option Behind) (input : List ℕ) → follows reply_step (named next found) input → (b : Behind) × (found ≡ Some b) × takes reply_step (next b) input
named_goes next (Some b) input h = (b, refl, h)
named_goes next None input h = absurd h

two_digits_take : (b c : ℕ) (with_it : Behind) (input : List ℕ) → 48 < b → b ≤ 57 → is_ascii_digit c ≡ true → payload_of ((b - 48) * 10 + (c - 48)) ≡ Some with_it → takes reply_step (two_digits with_it) input → IsSpelledReply (b ∷ c ∷ input)
two_digits_take b c with_it [] low high digit e h = absurd (takes_some reply_step (two_digits with_it) h)
two_digits_take b c with_it (d ∷ input) low high digit e h =
    let f = takes_one reply_step (two_digits with_it) d input h in
    elim (cases_Bool (d == 126)) [
      | inl tilde ↦
          let range = is_digit c digit in
          let spells = behind_takes with_it input (rw tilde at f) in
          let found = reply_named ((b - 48) * 10 + (c - 48)) with_it input e spells in
          subst (λ (x : ℕ). IsSpelledReply (b ∷ c ∷ x ∷ input)) (sym (eqb-true _ _ tilde)) (subst IsSpelledReply (two_names b c input low high range.0 range.1 digit) (spells_named ((b - 48) * 10 + (c - 48)) input found))
      | inr other ↦ absurd (rw other at f)
    ]

one_digit_takes : (b : ℕ) (with_it : Behind) (input : List ℕ) → 48 ≤ b → b ≤ 57 → payload_of (b - 48) ≡ Some with_it → takes reply_step (one_digit (b - 48) with_it) input → IsSpelledReply (b ∷ input)
one_digit_takes b with_it [] low high e h = absurd (takes_some reply_step (one_digit (b - 48) with_it) h)
one_digit_takes b with_it (c ∷ input) low high e h =
    let f = takes_one reply_step (one_digit (b - 48) with_it) c input h in
    elim (cases_Bool (c == 126)) [
      | inl tilde ↦
          let spells = behind_takes with_it input (rw tilde at f) in
          let found = reply_named (b - 48) with_it input e spells in
          subst (λ (x : ℕ). IsSpelledReply (b ∷ x ∷ input)) (sym (eqb-true _ _ tilde)) (subst IsSpelledReply (one_name b input low high) (spells_named (b - 48) input found))
      | inr other ↦ elim (cases_Bool (b - 48 == 0)) [
        | inl none ↦ absurd (rw (other, none) at f)
        | inr some ↦
            let not_zero = eqb-false _ _ some in
            let small : nat_lt 9 (b - 48) ≡ false = le-ltb 9 (b - 48) (omega arith) in
            elim (cases_Bool (is_ascii_digit c)) [
              | inl digit ↦
                  let g = named_goes (λ with_it. two_digits with_it) (payload_of ((b - 48) * 10 + (c - 48))) input (rw (other, some, small, digit) at f) in
                  two_digits_take b c g.0 input (omega arith) high digit g.1 g.2
              | inr none ↦ absurd (rw (other, some, small, none) at f)
            ]
      ]
    ]

four_takes : (input : List ℕ) → takes reply_step at_four input → IsSpelledReply (52 ∷ input)
four_takes [] h = absurd (takes_some reply_step at_four h)
four_takes (c ∷ input) h =
    let f = takes_one reply_step at_four c input h in
    elim (cases_Bool (is_ascii_digit c)) [
      | inl digit ↦
          let g = named_goes (λ with_it. two_digits with_it) (payload_of (4 * 10 + (c - 48))) input (rw digit at f) in
          two_digits_take 52 c g.0 input (omega arith) (omega arith) digit g.1 g.2
      | inr none ↦ absurd (rw none at f)
    ]

number_takes : (b : ℕ) (input : List ℕ) → b == 63 ≡ false → takes reply_step at_start (b ∷ input) → IsSpelledReply (b ∷ input)
number_takes b input mark h =
    let f = takes_one reply_step at_start b input h in
    elim (cases_Bool (b == 52)) [
      | inl four ↦ subst (λ (x : ℕ). IsSpelledReply (x ∷ input)) (sym (eqb-true _ _ four)) (four_takes input (rw (mark, four) at f))
      | inr other ↦ elim (cases_Bool (is_ascii_digit b)) [
        | inl digit ↦
            let range = is_digit b digit in
            let g = named_goes (λ with_it. one_digit (b - 48) with_it) (payload_of (b - 48)) input (rw (mark, other, digit) at f) in
            one_digit_takes b g.0 input range.0 range.1 g.1 g.2
        | inr none ↦ absurd (rw (mark, other, none) at f)
      ]
    ]

-- the refusal of a number
refusal_numbered : (n : ℕ) → 1 ≤ n → n ≤ 15 → (r : Refusal) × (refusal_number r ≡ n)
refusal_numbered zero low high = absurd (omega arith)
refusal_numbered (suc zero) low high = (refusals.NoAccount, refl)
refusal_numbered (suc (suc zero)) low high = (refusals.NoSuchDocument, refl)
refusal_numbered (suc (suc (suc zero))) low high = (refusals.NotOpen, refl)
refusal_numbered (suc (suc (suc (suc zero)))) low high = (refusals.NotOpenForWriting, refl)
refusal_numbered (suc (suc (suc (suc (suc zero))))) low high = (refusals.NotOwner, refl)
refusal_numbered (suc (suc (suc (suc (suc (suc zero)))))) low high = (refusals.Conflict, refl)
refusal_numbered (suc (suc (suc (suc (suc (suc (suc zero))))))) low high = (refusals.BadAddress, refl)
refusal_numbered (suc (suc (suc (suc (suc (suc (suc (suc zero)))))))) low high = (refusals.BadCuts, refl)
refusal_numbered (suc (suc (suc (suc (suc (suc (suc (suc (suc zero))))))))) low high = (refusals.NoSuchLink, refl)
refusal_numbered (suc (suc (suc (suc (suc (suc (suc (suc (suc (suc zero)))))))))) low high = (refusals.NoSuchEnd, refl)
refusal_numbered (suc (suc (suc (suc (suc (suc (suc (suc (suc (suc (suc zero))))))))))) low high = (refusals.TooLong, refl)
refusal_numbered (suc (suc (suc (suc (suc (suc (suc (suc (suc (suc (suc (suc zero)))))))))))) low high = (refusals.Full, refl)
refusal_numbered (suc (suc (suc (suc (suc (suc (suc (suc (suc (suc (suc (suc (suc zero))))))))))))) low high = (refusals.Disk, refl)
refusal_numbered (suc (suc (suc (suc (suc (suc (suc (suc (suc (suc (suc (suc (suc (suc zero)))))))))))))) low high = (refusals.Memory, refl)
refusal_numbered (suc (suc (suc (suc (suc (suc (suc (suc (suc (suc (suc (suc (suc (suc (suc zero))))))))))))))) low high = (refusals.Private, refl)
refusal_numbered (suc (suc (suc (suc (suc (suc (suc (suc (suc (suc (suc (suc (suc (suc (suc (suc n)))))))))))))))) low high = absurd (omega arith)

refused_takes : (input : List ℕ) → takes reply_step (at_number soughts.Refusal) input → IsSpelledReply (63 ∷ input)
refused_takes input h =
    let t = count_takes soughts.Refusal input h in
    let r = refusal_numbered t.number (t.some refl) t.bound in
    let number : input ≡ spell_number (refusal_number r.0) = t.spelled ∙ rw (t.ended, r.1) refl in
    record {
      reply = refused r.0;
      spells = record { valid = tt; texts = tt; spelled = ap (λ (ds : List ℕ). 63 ∷ ds) (number ∙ sym (append-nil (spell_number (refusal_number r.0)))) };
    }

reply_takes : (input : List ℕ) → takes reply_step at_start input → IsSpelledReply input
reply_takes [] h = absurd (takes_some reply_step at_start h)
reply_takes (b ∷ input) h =
    let f = takes_one reply_step at_start b input h in
    elim (cases_Bool (b == 63)) [
      | inl mark ↦ subst (λ (c : ℕ). IsSpelledReply (c ∷ input)) (sym (eqb-true _ _ mark)) (refused_takes input (rw mark at f))
      | inr other ↦ number_takes b input other h
    ]

-- ---- each state goes on

ended_goes_on : (role : NumberRole) (n : ℕ) → (input : List ℕ) × follows reply_step (number_ended role n) input
ended_goes_on soughts.Refusal n = ([], refl)
ended_goes_on soughts.Items n = items_go_on n
ended_goes_on soughts.Diagonals n = diagonals_go_on n
ended_goes_on (soughts.Length more) n = diagonals_go_on more
ended_goes_on (soughts.Right more) n =
    let on = diagonals_go_on more in
    (decimal 1 ++ 126 ∷ on.0, count_again (soughts.Length more) 1 on.0 (omega arith) (λ e. omega arith) on.1)
ended_goes_on (soughts.Left more) n =
    let on = diagonals_go_on more in
    let len = decimal 1 ++ 126 ∷ on.0 in
    let right = count_again (soughts.Right more) 1 len (omega arith) (λ e. omega arith) (count_again (soughts.Length more) 1 on.0 (omega arith) (λ e. omega arith) on.1) in
    (48 ∷ 46 ∷ 49 ∷ 46 ∷ (decimal 1 ++ 126 ∷ len), address_again (soughts.Right more) (decimal 1 ++ 126 ∷ len) right)

number_goes_on : (role : NumberRole) → (input : List ℕ) × takes reply_step (at_number role) input
number_goes_on role =
    let on = ended_goes_on role 1 in
    (decimal 1 ++ 126 ∷ on.0, count_again role 1 on.0 (most_some role) (λ e. omega arith) on.1)

behind_goes_on : (b : Behind) → (input : List ℕ) × follows reply_step (behind_next b) input
behind_goes_on (these fields) =
    let on = fields_go_on fields in
    (on.0, begun_in (fields_next fields) on.0 on.1)
behind_goes_on some_items = number_goes_on soughts.Items
behind_goes_on some_diagonals = number_goes_on soughts.Diagonals

address_goes_on : (read : ℕ) (role : NumberRole) → (input : List ℕ) × takes reply_step (at_address read role) input
address_goes_on zero role =
    let on = number_goes_on role in
    (48 ∷ 46 ∷ 49 ∷ 46 ∷ on.0, address_again role on.0 on.1)
address_goes_on (suc zero) role =
    let on = number_goes_on role in
    (46 ∷ 49 ∷ 46 ∷ on.0, point_again role on.0 on.1)
address_goes_on (suc (suc zero)) role =
    let on = number_goes_on role in
    (49 ∷ 46 ∷ on.0, one_again role on.0 on.1)
address_goes_on (suc (suc (suc n))) role =
    let on = number_goes_on role in
    let not0 : (suc (suc (suc n)) == 0) ≡ false = ne_eqb _ _ (λ e. omega arith) in
    let not1 : (suc (suc (suc n)) == 1) ≡ false = ne_eqb _ _ (λ e. omega arith) in
    let not2 : (suc (suc (suc n)) == 2) ≡ false = ne_eqb _ _ (λ e. omega arith) in
    (46 ∷ on.0, one_taken reply_step (at_address (suc (suc (suc n))) role) 46 on.0 (rw (not0, not1, not2) on.1))

reply_goes_on : (s : ReplyState) → (input : List ℕ) × takes reply_step s input
reply_goes_on at_start =
    let on = number_goes_on soughts.Refusal in
    (63 ∷ on.0, one_taken reply_step at_start 63 on.0 on.1)
reply_goes_on (one_digit number b) =
    let on = behind_goes_on b in
    (126 ∷ on.0, one_taken reply_step (one_digit number b) 126 on.0 on.1)
reply_goes_on at_four =
    let on = behind_goes_on (these []) in
    (48 ∷ 126 ∷ on.0, one_taken reply_step at_four 48 (126 ∷ on.0) (one_taken reply_step (two_digits (these [])) 126 on.0 on.1))
reply_goes_on (two_digits b) =
    let on = behind_goes_on b in
    (126 ∷ on.0, one_taken reply_step (two_digits b) 126 on.0 on.1)
reply_goes_on (in_fields s) =
    let on = never_stuck s in
    (on.0, fields_in s on.0 on.1)
reply_goes_on (at_number role) = number_goes_on role
reply_goes_on (at_zero role) =
    let on = ended_goes_on role 0 in
    (126 ∷ on.0, one_taken reply_step (at_zero role) 126 on.0 on.1)
reply_goes_on (in_number n role) =
    let on = ended_goes_on role n in
    (126 ∷ on.0, one_taken reply_step (in_number n role) 126 on.0 on.1)
reply_goes_on (at_item more) = one_item_goes_on more
reply_goes_on (in_item s more) =
    let prefix = never_stuck s in
    let on = items_go_on more in
    (prefix.0 ++ on.0, prefix_again s more prefix.0 on.0 prefix.1 on.1)
reply_goes_on (at_address read role) = address_goes_on read role

-- ---- what a scan of replies says

pub reply_scanned : (input : List ℕ) (r : Scanned) → r ≡ scan reply_step at_start input → IsScanned IsSpelledReply input r
reply_scanned input r e = subst (IsScanned IsSpelledReply input) (sym e) (scanned_too (takes reply_step at_start) IsSpelledReply reply_takes reply_taken input (scan reply_step at_start input) (scan_says reply_step reply_goes_on at_start input))

-- one byte more, as a loop meets it
pub one_on : (s t : ReplyState) (total : Scanned) (rest : List ℕ) (n : ℕ) → 1 ≤ length rest → length rest ≤ n → reply_step s (get_or rest 0 0) ≡ goes t → total ≡ behind (n - length rest) (scan reply_step s rest)
    → total ≡ behind (n - length (drop 1 rest)) (scan reply_step t (drop 1 rest))
one_on s t total rest n some within e so_far =
    let left = scan reply_step t (drop 1 rest) in
    let count : n - length rest + 1 ≡ n - length (drop 1 rest) = omega (arith, length-drop 1 rest, some, within) in
    so_far ∙ ap (behind (n - length rest)) (rest_goes reply_step s t rest some e) ∙ behind_more (n - length rest) 1 left ∙ ap (λ (k : ℕ). behind k left) count

-- ---- reading what was scanned

-- a reply that was scanned is the one that is read
read_again : (input : List ℕ) (used : ℕ) (h : HasSpelledPrefix IsSpelledReply input used) → reply_at input ≡ Some (h.prefix.reply, drop used input)
read_again input used h =
    let whole : input ≡ spell_reply h.prefix.reply ++ drop used input = sym (take-append-drop used input) ∙ ap (λ (ds : List ℕ). ds ++ drop used input) h.prefix.spells.spelled in
    ap reply_at whole ∙ reply_again h.prefix.reply (drop used input) h.prefix.spells.valid

pub is_read : (input : List ℕ) (used : ℕ) (reply : PlainReply) (rest : List ℕ) → HasSpelledPrefix IsSpelledReply input used → reply_at input ≡ Some (reply, rest) → IsReadReply input reply used
is_read input used reply rest h e =
    let p = some_pair_parts h.prefix.reply reply (drop used input) rest (sym (read_again input used h) ∙ e) in
    record { within = h.within; spells = subst (SpellsReply (take used input)) p.0 h.prefix.spells }

pub not_none : (input : List ℕ) (used : ℕ) → HasSpelledPrefix IsSpelledReply input used → reply_at input ≡ None → ⊥
not_none input used h e = cc (sym (read_again input used h) ∙ e)
