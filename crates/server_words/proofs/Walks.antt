-- What clap's walk makes of words that begin with no hyphen.
use Rattle.std.proofs.Common.{◌≡◌, ℕ, Bool, true, false, List, [], ◌∷◌, Option, Some, None, refl, sym, ap, ◌∙◌, codes}
use Rattle.std.specs.Prelude.{◌==◌, ◌&&◌, not, if◌then◌else◌, option_and_then, bytes_eq}
use Rattle.clap.specs.Lexer.{long_of, long_of_rest, short_of, short_of_rest, strip_byte}
use Rattle.clap.specs.Walk.{Held, Rule, Step, Text, Walk, after_step, arg_by_index, finished, first_of, idle, long_or_other, nothing_held, short_or_plain, to_positional, trailing, value, walk_from, walked, word_met}
use Rattle.clap.specs.Simple.{built, matches_of}
use Rattle.clap.proofs.OnLiterals.{clap_on_literals}
use Rattle.server_words.specs.Words.{is_folder}
use Rattle.server_words.specs.Command.{server_app}

denied : (b : Bool) → not b ≡ true → b ≡ false
denied true e = sym e
denied false e = refl

-- where the walk stands at a positional
abbrev between : Held → ℕ → Walk
between held position = record { held = held; waiting = idle; position = position; is_trailing = false; stopped = None }

module _ (first : ℕ) (rest : Text) (other : (first == 45) ≡ false) where
  unstripped : strip_byte 45 (first ∷ rest) ≡ None
  unstripped = ap (λ (b : Bool). if b then Some rest else None) other

  not_long : long_of (first ∷ rest) ≡ None
  not_long = ap (λ (o : Option Text). option_and_then long_of_rest (option_and_then (strip_byte 45) o)) unstripped

  not_short : short_of (first ∷ rest) ≡ None
  not_short = ap (λ (o : Option Text). option_and_then short_of_rest o) unstripped

  not_dashes : bytes_eq (first ∷ rest) (45 ∷ 45 ∷ []) ≡ false
  not_dashes = ap (λ (b : Bool). b && bytes_eq rest (45 ∷ [])) other

  goes_to_positional : (rules : List Rule) (held : Held) (position : ℕ) → word_met rules [] false idle position (first ∷ rest) held ≡ (held, value)
  goes_to_positional rules held position =
      ap (λ (b : Bool). if b then (held, trailing position) else long_or_other rules idle (first ∷ rest) (long_of (first ∷ rest)) held) not_dashes
      ∙ ap (λ o. long_or_other rules idle (first ∷ rest) o held) not_long
      ∙ ap (λ o. short_or_plain rules idle (first ∷ rest) o held) not_short

-- a word that begins with no hyphen goes to the positional
plain_walked : (rules : List Rule) (held : Held) (position : ℕ) (word : Text) → is_folder word ≡ true → walked rules [] (between held position) word ≡ to_positional rules (arg_by_index rules position) word (between held position) held
unfolding clap_on_literals
plain_walked rules held position [] right = absurd (let e = right in cc)
plain_walked rules held position (first ∷ rest) right =
    ap (λ (met : Held × Step). after_step rules (first ∷ rest) (between held position) met.0 met.1) (goes_to_positional first rest (denied (first == 45) right) rules held position)

abbrev rules : List Rule
rules = (built server_app).top.rules

-- the walk after each word
abbrev after_one : Text → Walk
after_one folder = to_positional rules (arg_by_index rules 1) folder (between nothing_held 1) nothing_held

abbrev after_two : Text → Text → Walk
after_two folder address = to_positional rules (arg_by_index rules 2) address (after_one folder) (after_one folder).held

abbrev after_three : Text → Text → Text → Walk
after_three folder address workers = to_positional rules (arg_by_index rules 3) workers (after_two folder address) (after_two folder address).held

walk_three : (folder address workers : Text) → is_folder folder ≡ true → is_folder address ≡ true → is_folder workers ≡ true
    → walked rules [] (walked rules [] (walked rules [] (walk_from nothing_held) folder) address) workers ≡ after_three folder address workers
walk_three folder address workers f a w =
    ap (λ (from : Walk). walked rules [] (walked rules [] from address) workers) (plain_walked rules nothing_held 1 folder f)
    ∙ ap (λ (from : Walk). walked rules [] from workers) (plain_walked rules (after_one folder).held 2 address a)
    ∙ plain_walked rules (after_two folder address).held 3 workers w

pub folder_of_three : (name folder address workers : Text) → is_folder folder ≡ true → is_folder address ≡ true → is_folder workers ≡ true → first_of (codes "FOLDER") (matches_of server_app (name ∷ folder ∷ address ∷ workers ∷ [])) ≡ Some folder
folder_of_three name folder address workers f a w = ap (λ (end : Walk). first_of (codes "FOLDER") (finished rules end.held)) (walk_three folder address workers f a w)

pub address_of_three : (name folder address workers : Text) → is_folder folder ≡ true → is_folder address ≡ true → is_folder workers ≡ true → first_of (codes "ADDRESS") (matches_of server_app (name ∷ folder ∷ address ∷ workers ∷ [])) ≡ Some address
address_of_three name folder address workers f a w = ap (λ (end : Walk). first_of (codes "ADDRESS") (finished rules end.held)) (walk_three folder address workers f a w)

abbrev after_four : Text → Text → Text → Text → Walk
after_four folder address workers sessions = to_positional rules (arg_by_index rules 4) sessions (after_three folder address workers) (after_three folder address workers).held

walk_four : (folder address workers sessions : Text) → is_folder folder ≡ true → is_folder address ≡ true → is_folder workers ≡ true → is_folder sessions ≡ true
    → walked rules [] (walked rules [] (walked rules [] (walked rules [] (walk_from nothing_held) folder) address) workers) sessions ≡ after_four folder address workers sessions
walk_four folder address workers sessions f a w s =
    ap (λ (from : Walk). walked rules [] from sessions) (walk_three folder address workers f a w)
    ∙ plain_walked rules (after_three folder address workers).held 4 sessions s

pub folder_of_four : (name folder address workers sessions : Text) → is_folder folder ≡ true → is_folder address ≡ true → is_folder workers ≡ true → is_folder sessions ≡ true → first_of (codes "FOLDER") (matches_of server_app (name ∷ folder ∷ address ∷ workers ∷ sessions ∷ [])) ≡ Some folder
folder_of_four name folder address workers sessions f a w s = ap (λ (end : Walk). first_of (codes "FOLDER") (finished rules end.held)) (walk_four folder address workers sessions f a w s)

pub address_of_four : (name folder address workers sessions : Text) → is_folder folder ≡ true → is_folder address ≡ true → is_folder workers ≡ true → is_folder sessions ≡ true → first_of (codes "ADDRESS") (matches_of server_app (name ∷ folder ∷ address ∷ workers ∷ sessions ∷ [])) ≡ Some address
address_of_four name folder address workers sessions f a w s = ap (λ (end : Walk). first_of (codes "ADDRESS") (finished rules end.held)) (walk_four folder address workers sessions f a w s)
