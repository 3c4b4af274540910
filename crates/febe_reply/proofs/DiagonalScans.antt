-- Diagonals, byte by byte: what is taken is the spelling of right diagonals, and each such spelling is taken.
use Rattle.std.proofs.Common.{◌≡◌, ℕ, zero, suc, ◌-◌, false, List, [], ◌∷◌, ◌++◌, length, All, refl, sym, ap, subst, ◌∙◌, append_assoc, arith, inl, inr}
use Rattle.std.specs.Prelude.{◌==◌}
use Rattle.std.specs.List.{flat_map}
use Rattle.std.specs.Fmt.{decimal, digits}
use Rattle.std.proofs.lemmas.Bool.{cases_Bool, eqb-true, ne_eqb}
use Rattle.std.proofs.lemmas.List.{append-nil}
use Rattle.std.proofs.lemmas.List.Elements.{All-nil, All-cons, All-head, All-tail}
use Rattle.febe_data.specs.declared.run.Diagonal.{Diagonal}
use Rattle.febe_data.specs.Spelling.{spell_number, spell_text_address, spell_diagonal, spell_list}
use Rattle.febe_data.specs.Validity.{IsList, IsDiagonal}
use Rattle.febe_fields.specs.Fields.{takes, follows}
use Rattle.febe_fields.proofs.Scans.{takes_some, takes_one, one_taken}
use Rattle.febe_reply.specs.declared.scan.NumberRole.{NumberRole}
use Rattle.febe_reply.specs.declared.scan.NumberRole.TheVariants.{Diagonals, Left, Right, Length}
use Rattle.febe_reply.specs.inside.ReplyMachine.{ReplyState, at_number, at_address, diagonals_next, expects, reply_step}
use Rattle.febe_reply.proofs.CountScans.{count_takes, count_again}

-- ---- the bytes before a text position

expected : (wanted : ℕ) (next : ReplyState) (b : ℕ) (input : List ℕ) → follows reply_step (expects wanted next b) input → (b ≡ wanted) × takes reply_step next input
expected wanted next b input h =
    elim (cases_Bool (b == wanted)) [
      | inl is ↦ (eqb-true _ _ is, rw is at h)
      | inr other ↦ absurd (rw other at h)
    ]

-- these bytes, and the number behind them
record TakesAddress (read : List ℕ) (role : NumberRole) (input : List ℕ) : Type 0 where
  behind : List ℕ
  spelled : input ≡ read ++ behind
  ended : takes reply_step (at_number role) behind

one_more : (role : NumberRole) (prefix : List ℕ) (b wanted : ℕ) (input : List ℕ) → b ≡ wanted → TakesAddress prefix role input → TakesAddress (wanted ∷ prefix) role (b ∷ input)
one_more role prefix b wanted input e t = record { behind = t.behind; spelled = rw e (ap (λ (ds : List ℕ). wanted ∷ ds) t.spelled); ended = t.ended }

last_dot : (role : NumberRole) (input : List ℕ) → takes reply_step (at_address 3 role) input → TakesAddress (46 ∷ []) role input
last_dot role [] h = absurd (takes_some reply_step (at_address 3 role) h)
last_dot role (b ∷ input) h =
    let e = expected 46 (at_number role) b input (takes_one reply_step (at_address 3 role) b input h) in
    one_more role [] b 46 input e.0 (record { behind = input; spelled = refl; ended = e.1 })

one_dot : (role : NumberRole) (input : List ℕ) → takes reply_step (at_address 2 role) input → TakesAddress (49 ∷ 46 ∷ []) role input
one_dot role [] h = absurd (takes_some reply_step (at_address 2 role) h)
one_dot role (b ∷ input) h =
    let e = expected 49 (at_address 3 role) b input (takes_one reply_step (at_address 2 role) b input h) in
    one_more role (46 ∷ []) b 49 input e.0 (last_dot role input e.1)

first_dot : (role : NumberRole) (input : List ℕ) → takes reply_step (at_address 1 role) input → TakesAddress (46 ∷ 49 ∷ 46 ∷ []) role input
first_dot role [] h = absurd (takes_some reply_step (at_address 1 role) h)
first_dot role (b ∷ input) h =
    let e = expected 46 (at_address 2 role) b input (takes_one reply_step (at_address 1 role) b input h) in
    one_more role (49 ∷ 46 ∷ []) b 46 input e.0 (one_dot role input e.1)

address_takes : (role : NumberRole) (input : List ℕ) → takes reply_step (at_address 0 role) input → TakesAddress (48 ∷ 46 ∷ 49 ∷ 46 ∷ []) role input
address_takes role [] h = absurd (takes_some reply_step (at_address 0 role) h)
address_takes role (b ∷ input) h =
    let e = expected 48 (at_address 1 role) b input (takes_one reply_step (at_address 0 role) b input h) in
    one_more role (46 ∷ 49 ∷ 46 ∷ []) b 48 input e.0 (first_dot role input e.1)

pub dot_again : (role : NumberRole) (input : List ℕ) → takes reply_step (at_number role) input → takes reply_step (at_address 3 role) (46 ∷ input)
dot_again role input h = one_taken reply_step (at_address 3 role) 46 input h

pub one_again : (role : NumberRole) (input : List ℕ) → takes reply_step (at_number role) input → takes reply_step (at_address 2 role) (49 ∷ 46 ∷ input)
one_again role input h = one_taken reply_step (at_address 2 role) 49 (46 ∷ input) (dot_again role input h)

pub point_again : (role : NumberRole) (input : List ℕ) → takes reply_step (at_number role) input → takes reply_step (at_address 1 role) (46 ∷ 49 ∷ 46 ∷ input)
point_again role input h = one_taken reply_step (at_address 1 role) 46 (49 ∷ 46 ∷ input) (one_again role input h)

pub address_again : (role : NumberRole) (input : List ℕ) → takes reply_step (at_number role) input → takes reply_step (at_address 0 role) (48 ∷ 46 ∷ 49 ∷ 46 ∷ input)
address_again role input h = one_taken reply_step (at_address 0 role) 48 (46 ∷ 49 ∷ 46 ∷ input) (point_again role input h)

-- the spelling of a text position, byte by byte
address_spelled : (position : ℕ) (behind : List ℕ) → spell_text_address position ++ behind ≡ 48 ∷ 46 ∷ 49 ∷ 46 ∷ (decimal position ++ 126 ∷ behind)
unfolding digits
address_spelled position behind =
    ap (λ (ds : List ℕ). 48 ∷ 46 ∷ 49 ∷ 46 ∷ ds) (append_assoc (decimal position ++ []) (126 ∷ []) behind ∙ ap (λ (ds : List ℕ). ds ++ 126 ∷ behind) (append-nil (decimal position)))

-- ---- one diagonal

-- a right diagonal, in front of what comes behind
pub record TakesDiagonal (more : ℕ) (input : List ℕ) : Type 0 where
  pub diagonal : Diagonal
  pub behind : List ℕ
  pub is : IsDiagonal diagonal
  pub spelled : input ≡ spell_diagonal diagonal ++ behind
  pub ended : follows reply_step (diagonals_next more) behind

address_joined : (input mid behind : List ℕ) (n : ℕ) → input ≡ 48 ∷ 46 ∷ 49 ∷ 46 ∷ mid → mid ≡ decimal n ++ 126 ∷ behind → input ≡ spell_text_address n ++ behind
address_joined input mid behind n e f = e ∙ ap (λ (ds : List ℕ). 48 ∷ 46 ∷ 49 ∷ 46 ∷ ds) f ∙ sym (address_spelled n behind)

three_parts : (a b c behind : List ℕ) → ((a ++ b) ++ c) ++ behind ≡ a ++ (b ++ (c ++ behind))
three_parts a b c behind = append_assoc (a ++ b) c behind ∙ append_assoc a b (c ++ behind)

diagonal_joined : (input one two behind : List ℕ) (left right len : ℕ) → input ≡ spell_text_address left ++ one → one ≡ spell_text_address right ++ two → two ≡ decimal len ++ 126 ∷ behind
    → input ≡ spell_diagonal (record { left = left; right = right; length = len }) ++ behind
diagonal_joined input one two behind left right len e f g =
    e ∙ ap (λ (ds : List ℕ). spell_text_address left ++ ds) (f ∙ ap (λ (ds : List ℕ). spell_text_address right ++ ds) (g ∙ sym (append_assoc (decimal len) (126 ∷ []) behind)))
    ∙ sym (three_parts (spell_text_address left) (spell_text_address right) (spell_number len) behind)

diagonal_takes : (more : ℕ) (input : List ℕ) → takes reply_step (at_address 0 (Left more)) input → TakesDiagonal more input
diagonal_takes more input h =
    let a = address_takes (Left more) input h in
    let l = count_takes (Left more) a.behind a.ended in
    let b = address_takes (Right more) l.behind l.ended in
    let r = count_takes (Right more) b.behind b.ended in
    let n = count_takes (Length more) r.behind r.ended in
    record {
      diagonal = record { left = l.number; right = r.number; length = n.number };
      behind = n.behind;
      is = record {
        left = l.some refl;
        left_bound = omega (arith, l.bound);
        right = r.some refl;
        right_bound = omega (arith, r.bound);
        length_bound = omega (arith, n.bound);
      };
      spelled = diagonal_joined input l.behind r.behind n.behind l.number r.number n.number (address_joined input a.behind l.behind l.number a.spelled l.spelled) (address_joined l.behind b.behind r.behind r.number b.spelled r.spelled) n.spelled;
      ended = n.ended;
    }

pub diagonal_again : (d : Diagonal) (more : ℕ) (behind : List ℕ) → IsDiagonal d → follows reply_step (diagonals_next more) behind → takes reply_step (at_address 0 (Left more)) (spell_diagonal d ++ behind)
diagonal_again d more behind is ended =
    let n = count_again (Length more) d.length behind (omega (arith, is.length_bound)) (λ e. absurd cc) ended in
    let r = count_again (Right more) d.right (decimal d.length ++ 126 ∷ behind) (omega (arith, is.right_bound)) (λ e. is.right) n in
    let b = address_again (Right more) (decimal d.right ++ 126 ∷ (decimal d.length ++ 126 ∷ behind)) r in
    let l = count_again (Left more) d.left (48 ∷ 46 ∷ 49 ∷ 46 ∷ (decimal d.right ++ 126 ∷ (decimal d.length ++ 126 ∷ behind))) (omega (arith, is.left_bound)) (λ e. is.left) b in
    let a = address_again (Left more) (decimal d.left ++ 126 ∷ (48 ∷ 46 ∷ 49 ∷ 46 ∷ (decimal d.right ++ 126 ∷ (decimal d.length ++ 126 ∷ behind)))) l in
    subst (takes reply_step (at_address 0 (Left more)))
    (diagonal_joined (48 ∷ 46 ∷ 49 ∷ 46 ∷ (decimal d.left ++ 126 ∷ (48 ∷ 46 ∷ 49 ∷ 46 ∷ (decimal d.right ++ 126 ∷ (decimal d.length ++ 126 ∷ behind))))) (48 ∷ 46 ∷ 49 ∷ 46 ∷ (decimal d.right ++ 126 ∷ (decimal d.length ++ 126 ∷ behind))) (decimal d.length ++ 126 ∷ behind) behind d.left d.right d.length (sym (address_spelled d.left (48 ∷ 46 ∷ 49 ∷ 46 ∷ (decimal d.right ++ 126 ∷ (decimal d.length ++ 126 ∷ behind))))) (sym (address_spelled d.right (decimal d.length ++ 126 ∷ behind))) refl)
    a

-- ---- so many diagonals

record TakesDiagonals (count : ℕ) (input : List ℕ) : Type 0 where
  diagonals : List Diagonal
  count_is : length diagonals ≡ count
  are : All IsDiagonal diagonals
  spelled : input ≡ flat_map spell_diagonal diagonals

diagonals_take : (count : ℕ) (input : List ℕ) → follows reply_step (diagonals_next count) input → TakesDiagonals count input
diagonals_take zero input h = record { diagonals = []; count_is = refl; are = All-nil IsDiagonal; spelled = h }
diagonals_take (suc n) input h =
    let left : (suc n == 0) ≡ false = ne_eqb _ _ (λ e. omega arith) in
    let one : suc n - 1 ≡ n = omega arith in
    let t = diagonal_takes n input (rw (left, one) at h) in
    let on = diagonals_take n t.behind t.ended in
    record {
      diagonals = t.diagonal ∷ on.diagonals;
      count_is = ap suc on.count_is;
      are = All-cons IsDiagonal t.diagonal on.diagonals t.is on.are;
      spelled = t.spelled ∙ ap (λ (ds : List ℕ). spell_diagonal t.diagonal ++ ds) on.spelled;
    }

diagonals_again : (diagonals : List Diagonal) → All IsDiagonal diagonals → follows reply_step (diagonals_next (length diagonals)) (flat_map spell_diagonal diagonals)
diagonals_again [] are = refl
diagonals_again (d ∷ diagonals) are =
    let on = diagonals_again diagonals (All-tail IsDiagonal d diagonals are) in
    let left : (suc (length diagonals) == 0) ≡ false = ne_eqb _ _ (λ e. omega arith) in
    let one : suc (length diagonals) - 1 ≡ length diagonals = omega arith in
    rw (left, one) (diagonal_again d (length diagonals) (flat_map spell_diagonal diagonals) (All-head IsDiagonal d diagonals are) on)

pub diagonals_go_on : (n : ℕ) → (input : List ℕ) × follows reply_step (diagonals_next n) input
diagonals_go_on zero = ([], refl)
diagonals_go_on (suc n) =
    let d : Diagonal = record { left = 1; right = 1; length = 0 } in
    let is : IsDiagonal d = record { left = omega arith; left_bound = omega arith; right = omega arith; right_bound = omega arith; length_bound = omega arith } in
    let left : (suc n == 0) ≡ false = ne_eqb _ _ (λ e. omega arith) in
    let one : suc n - 1 ≡ n = omega arith in
    let on = diagonals_go_on n in
    (spell_diagonal d ++ on.0, rw (left, one) (diagonal_again d n on.0 is on.1))

-- ---- a list of diagonals

pub record SpellsDiagonals (input : List ℕ) : Type 0 where
  pub diagonals : List Diagonal
  pub valid : IsList IsDiagonal diagonals
  pub spelled : input ≡ spell_list spell_diagonal diagonals

list_joined : (input mid : List ℕ) (n : ℕ) (diagonals : List Diagonal) → input ≡ decimal n ++ 126 ∷ mid → mid ≡ flat_map spell_diagonal diagonals → length diagonals ≡ n → input ≡ spell_list spell_diagonal diagonals
list_joined input mid n diagonals e f len = e ∙ rw (f, len) (sym (append_assoc (decimal n) (126 ∷ []) (flat_map spell_diagonal diagonals)))

pub list_takes : (input : List ℕ) → takes reply_step (at_number Diagonals) input → SpellsDiagonals input
list_takes input h =
    let n = count_takes Diagonals input h in
    let t = diagonals_take n.number n.behind n.ended in
    record {
      diagonals = t.diagonals;
      valid = record { few = omega (arith, t.count_is, n.bound); each = t.are };
      spelled = list_joined input n.behind n.number t.diagonals n.spelled t.spelled t.count_is;
    }

pub list_again : (diagonals : List Diagonal) → IsList IsDiagonal diagonals → takes reply_step (at_number Diagonals) (spell_list spell_diagonal diagonals)
list_again diagonals valid =
    subst (takes reply_step (at_number Diagonals)) (sym (append_assoc (decimal (length diagonals)) (126 ∷ []) (flat_map spell_diagonal diagonals)))
    (count_again Diagonals (length diagonals) (flat_map spell_diagonal diagonals) valid.few (λ e. absurd cc) (diagonals_again diagonals valid.each))
