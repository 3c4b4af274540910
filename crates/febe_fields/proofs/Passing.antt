-- Scanning on, from any byte.
use Rattle.std.proofs.Common.{◌≡◌, ℕ, zero, suc, ◌+◌, ◌-◌, ◌<◌, ◌≤◌, false, List, [], ◌∷◌, ◌++◌, length, drop, get_or, refl, sym, ap, ◌∙◌, arith}
use Rattle.std.specs.Prelude.{◌==◌}
use Rattle.std.proofs.lemmas.Bool.{ne_eqb, lt-ltb}
use Rattle.std.proofs.lemmas.List.{length-drop, length-append, get_or_append_left}
use Rattle.febe_fields.specs.declared.leaf.Leaf.{Leaf}
use Rattle.febe_fields.specs.declared.leaf.Leaf.TheVariants.{Text}
use Rattle.febe_fields.specs.declared.scanned.Scanned.{Scanned}
use Rattle.febe_fields.specs.declared.scanned.Scanned.TheVariants.{Incomplete, Complete, Bad}
use Rattle.febe_fields.specs.declared.scanner.Field.{Field}
use Rattle.febe_fields.specs.declared.scanner.Role.{Role}
use Rattle.febe_fields.specs.Machine.{State, field_step}
use Rattle.febe_fields.specs.Scanning.{Outcome, goes, done, fails, behind, behind_one, scan_on, scan}
use Rattle.febe_fields.proofs.NumberScans.{at_leaf}

pub behind_none : (r : Scanned) → behind 0 r ≡ r
behind_none Incomplete = refl
behind_none (Complete used) = ap Complete (omega arith)
behind_none (Bad at) = ap Bad (omega arith)

pub behind_more : (n m : ℕ) (r : Scanned) → behind n (behind m r) ≡ behind (n + m) r
behind_more n m Incomplete = refl
behind_more n m (Complete used) = ap Complete (omega arith)
behind_more n m (Bad at) = ap Bad (omega arith)

pub one_behind : (r : Scanned) → behind_one r ≡ behind 1 r
one_behind Incomplete = refl
one_behind (Complete used) = ap Complete (omega arith)
one_behind (Bad at) = ap Bad (omega arith)

module _ {State : Type 0} (step : State → ℕ → Outcome State) where
  pub scan_goes : (s t : State) (b : ℕ) (bytes : List ℕ) → step s b ≡ goes t → scan step s (b ∷ bytes) ≡ behind 1 (scan step t bytes)
  unfolding scan
  scan_goes s t b bytes e = ap (λ (o : Outcome State). scan_on o (λ next. scan step next bytes)) e ∙ one_behind (scan step t bytes)

  pub scan_done : (s : State) (b : ℕ) (bytes : List ℕ) → step s b ≡ done → scan step s (b ∷ bytes) ≡ Complete 1
  unfolding scan
  scan_done s b bytes e = ap (λ (o : Outcome State). scan_on o (λ next. scan step next bytes)) e

  pub scan_fails : (s : State) (b : ℕ) (bytes : List ℕ) → step s b ≡ fails → scan step s (b ∷ bytes) ≡ Bad 0
  unfolding scan
  scan_fails s b bytes e = ap (λ (o : Outcome State). scan_on o (λ next. scan step next bytes)) e

  pub scan_ends : (s : State) → scan step s [] ≡ Incomplete
  unfolding scan
  scan_ends s = refl

  -- the same, as a loop over the rest of the bytes meets it
  pub rest_goes : (s t : State) (rest : List ℕ) → 1 ≤ length rest → step s (get_or rest 0 0) ≡ goes t → scan step s rest ≡ behind 1 (scan step t (drop 1 rest))
  rest_goes s t [] long e = absurd (omega arith)
  rest_goes s t (b ∷ rest) long e = scan_goes s t b rest e

  pub rest_goes_on : (s t : State) (rest more : List ℕ) → 1 ≤ length rest → step s (get_or rest 0 0) ≡ goes t → scan step s (rest ++ more) ≡ behind 1 (scan step t (drop 1 rest ++ more))
  rest_goes_on s t [] more long e = absurd (omega arith)
  rest_goes_on s t (b ∷ rest) more long e = scan_goes s t b (rest ++ more) e

  pub rest_done : (s : State) (rest : List ℕ) → 1 ≤ length rest → step s (get_or rest 0 0) ≡ done → scan step s rest ≡ Complete 1
  rest_done s [] long e = absurd (omega arith)
  rest_done s (b ∷ rest) long e = scan_done s b rest e

  pub rest_fails : (s : State) (rest : List ℕ) → 1 ≤ length rest → step s (get_or rest 0 0) ≡ fails → scan step s rest ≡ Bad 0
  rest_fails s [] long e = absurd (omega arith)
  rest_fails s (b ∷ rest) long e = scan_fails s b rest e

  pub rest_ends : (s : State) (rest : List ℕ) → length rest < 1 → scan step s rest ≡ Incomplete
  rest_ends s [] short = scan_ends s
  rest_ends s (b ∷ rest) short = absurd (omega arith)

  -- where nothing is left, what is behind it goes on
  pub rest_over : (s : State) (total : Scanned) (rest more : List ℕ) (n : ℕ) → length rest < 1 → total ≡ behind (n - length rest) (scan step s (rest ++ more)) → total ≡ behind n (scan step s more)
  rest_over s total [] more n short e = e ∙ ap (λ (k : ℕ). behind k (scan step s more)) (omega arith)
  rest_over s total (b ∷ rest) more n short e = absurd (omega arith)

-- what the whole scan says, where it ends in the rest
pub whole_fails : (total r : Scanned) (k : ℕ) → total ≡ behind k r → r ≡ Bad 0 → Bad k ≡ total
whole_fails total r k e f = sym (e ∙ ap (behind k) f ∙ ap Bad (omega arith))

pub whole_done : (total r : Scanned) (k used : ℕ) → total ≡ behind k r → r ≡ Complete 1 → used ≡ k + 1 → Complete used ≡ total
whole_done total r k used e f g = ap Complete g ∙ sym (e ∙ ap (behind k) f)

pub whole_ends : (total r : Scanned) (k : ℕ) → total ≡ behind k r → r ≡ Incomplete → Incomplete ≡ total
whole_ends total r k e f = sym (e ∙ ap (behind k) f)

pub whole_goes : (total r one left : Scanned) (k m n : ℕ) → total ≡ behind k r → r ≡ behind 1 one → one ≡ behind m left → n ≡ k + 1 + m → total ≡ behind n left
whole_goes total r one left k m n e f g h = e ∙ ap (behind k) (f ∙ ap (behind 1) g ∙ behind_more 1 m left) ∙ behind_more k (1 + m) left ∙ ap (λ (j : ℕ). behind j left) (omega (arith, h))

pub drop_prefix : (n : ℕ) (bytes more : List ℕ) → n ≤ length bytes → drop n (bytes ++ more) ≡ drop n bytes ++ more
drop_prefix zero bytes more long = refl
drop_prefix (suc n) [] more long = absurd (omega arith)
drop_prefix (suc n) (b ∷ bytes) more long = drop_prefix n bytes more (omega arith)

-- a text is passed over
pub text_passed : (role : Role) (tumblers specs room : ℕ) (fields : List Field) (n more : ℕ) (bytes : List ℕ) → n ≤ more → n ≤ length bytes → ((i : ℕ) → i < n → get_or bytes i 0 < 256)
    → scan field_step (at_leaf role tumblers specs room fields (Text more)) bytes ≡ behind n (scan field_step (at_leaf role tumblers specs room fields (Text (more - n))) (drop n bytes))
text_passed role tumblers specs room fields zero more bytes le long are =
    let same : more - 0 ≡ more = omega arith in
    rw same (sym (behind_none (scan field_step (at_leaf role tumblers specs room fields (Text more)) bytes)))
text_passed role tumblers specs room fields (suc n) more [] le long are = absurd (omega arith)
text_passed role tumblers specs room fields (suc n) more (b ∷ bytes) le long are =
    let left : (more == 0) ≡ false = ne_eqb _ _ (λ e. omega arith) in
    let goes_on : field_step (at_leaf role tumblers specs room fields (Text more)) b ≡ goes (at_leaf role tumblers specs room fields (Text (more - 1))) = rw (lt-ltb b 256 (are 0 (omega arith)), left) refl in
    let one = scan_goes field_step (at_leaf role tumblers specs room fields (Text more)) (at_leaf role tumblers specs room fields (Text (more - 1))) b bytes goes_on in
    let on = text_passed role tumblers specs room fields n (more - 1) bytes (omega arith) (omega arith) (λ i lt. are (suc i) (omega (arith, lt))) in
    let same : more - 1 - n ≡ more - suc n = omega arith in
    let counted : 1 + n ≡ suc n = omega arith in
    one ∙ ap (behind 1) on ∙ behind_more 1 n (scan field_step (at_leaf role tumblers specs room fields (Text (more - 1 - n))) (drop n bytes))
    ∙ ap (λ (k : ℕ). behind k (scan field_step (at_leaf role tumblers specs room fields (Text (more - 1 - n))) (drop n bytes))) counted
    ∙ ap (λ (k : ℕ). behind (suc n) (scan field_step (at_leaf role tumblers specs room fields (Text k)) (drop n bytes))) same

-- the same, as the code meets it, with more behind
pub leaf_passed : (s : State) (more n : ℕ) (bytes left behind_them : List ℕ) → s.leaf ≡ Text more → n ≤ more → n ≤ length bytes → ((i : ℕ) → get_or bytes i 0 < 256) → left ≡ drop n bytes
    → scan field_step s (bytes ++ behind_them) ≡ behind (length bytes - length left) (scan field_step (at_leaf s.role s.tumblers s.specs s.room s.fields (Text (more - n))) (left ++ behind_them))
leaf_passed s more n bytes left behind_them is le long are rest =
    let all = bytes ++ behind_them in
    let e : scan field_step s all ≡ scan field_step (at_leaf s.role s.tumblers s.specs s.room s.fields (Text more)) all = ap (λ (leaf : Leaf). scan field_step (at_leaf s.role s.tumblers s.specs s.room s.fields leaf) all) is in
    let len : length bytes - length left ≡ n = rw rest (omega (arith, length-drop n bytes, long)) in
    let dropped : drop n all ≡ left ++ behind_them = drop_prefix n bytes behind_them long ∙ ap (λ (ds : List ℕ). ds ++ behind_them) (sym rest) in
    let are_too : (i : ℕ) → i < n → get_or all i 0 < 256 = λ i lt. rw (get_or_append_left bytes behind_them 0 i (omega (arith, lt, long))) (are i) in
    let passed = text_passed s.role s.tumblers s.specs s.room s.fields n more all le (omega (arith, length-append bytes behind_them, long)) are_too in
    rw (len, ← dropped) (e ∙ passed)

pub none_passed : (r : Scanned) (bytes : List ℕ) → r ≡ behind (length bytes - length bytes) r
none_passed r bytes =
    let none : length bytes - length bytes ≡ 0 = omega arith in
    rw none (sym (behind_none r))
