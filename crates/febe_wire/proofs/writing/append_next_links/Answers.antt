use Rattle.std.proofs.Common.{◌≡◌, ℕ, List, [], ◌++◌, Result, Ok, Err, append_assoc}
use Rattle.std.specs.Prelude.{OnOk}
use Rattle.std.proofs.lemmas.List.{append-nil}
use Rattle.febe_data.specs.Plain.{PlainWant, plain_want, count_links, next_links}
use Rattle.febe_data.specs.Spelling.{spell_number, spell_tumbler, spell_span, spell_list, spell_spec}
use Rattle.febe_wire.specs.Grammar.{spell_values}
use Rattle.febe_wire.proofs.writing.append_next_links.Goals as goal

two_more : (out a b c d e f : List ℕ) → ((out ++ (a ++ (b ++ (c ++ (d ++ []))))) ++ e) ++ f ≡ out ++ (a ++ (b ++ (c ++ (d ++ (e ++ (f ++ []))))))
two_more out a b c d e f = simp (append_assoc, append-nil)

-- what is looked for, and two parts behind it
written : {T E : Type 0} (r : Result T E) (out one two three : List ℕ) (want : PlainWant) (after : List ℕ) (limit : ℕ) → OnOk r (three ≡ two ++ spell_number limit) → two ≡ one ++ spell_tumbler after → one ≡ out ++ spell_values (count_links want)
    → OnOk r (three ≡ out ++ spell_values (next_links want after limit))
written (Ok x) out one two three want after limit h g k =
    rw (h, g, k) (two_more out (spell_list spell_span want.homes) (spell_list spell_spec want.from) (spell_list spell_spec want.to) (spell_list spell_spec want.three) (spell_tumbler after) (spell_number limit))
written (Err x) out one two three want after limit h g k = h

pub returns : goal.returns
returns c =
    written c.append_number.result c.args.out.now.items c.append_want.new.out.items c.append_tumbler.new.out.items c.append_number.new.out.items (plain_want c.args.want.now) c.args.after.now c.args.limit c.append_number.ensures.ok c.in_ok-append_tumbler.ensures.ok c.in_ok-append_want.ensures
