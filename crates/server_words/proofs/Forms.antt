-- Words by their number.
use Rattle.std.proofs.Common.{Global, String, map, string_bytes, ◌≡◌, ℕ, ◌<◌, ◌≤◌, List, [], ◌∷◌, length, get_or, Option, Some, None, IfNone, true, codes, refl, sym, ap, subst, ◌∙◌, arith}
use Rattle.std.proofs.lemmas.List.{get_or-map}
use Rattle.server_words.specs.Words.{is_folder, Meaning, NameServer, SpellsNoNumber, SaysSessions, AreWords, AreNoWords}
use Rattle.server_words.specs.Read.{IsForm}
use Rattle.server_words.specs.Command.{server_app}
use Rattle.server_words.specs.declared.words.Form.{Form}
use Rattle.clap.specs.Walk.{first_of}
use Rattle.clap.specs.Simple.{matches_of}
use Rattle.server_words.proofs.Joins.{number_begins, address_begins}
use Rattle.server_words.proofs.Walks.{folder_of_three, address_of_three, folder_of_four, address_of_four}

-- a word's bytes, among the bytes of all
pub at_word : (words : List (String Global)) (k : ℕ) (word : String Global) (bytes : List ℕ) → k < length words → word ≡ get_or words k word → bytes ≡ string_bytes word → bytes ≡ get_or (map string_bytes words) k bytes
at_word words k word bytes lt is e = e ∙ ap string_bytes is ∙ sym (get_or-map string_bytes words k word bytes lt)

no_sessions : (word : List ℕ) (sessions : Option ℕ) → SpellsNoNumber 1 4294967295 word → ¬ SaysSessions (word ∷ []) sessions
no_sessions word None none says = says
no_sessions word (Some number) none says = none number says

-- a last word that is no number of sessions
pub wrong_sessions : (ws : List (List ℕ)) (word : List ℕ) → length ws ≡ 5 → word ≡ get_or ws 4 word → SpellsNoNumber 1 4294967295 word → AreNoWords ws
wrong_sessions (a ∷ b ∷ c ∷ d ∷ e ∷ []) word five is none meaning words = no_sessions e meaning.sessions (subst (SpellsNoNumber 1 4294967295) is none) words.1
wrong_sessions other word five is none meaning words = absurd (omega (arith, five))

-- what holds in any case
pub for_none : {T : Type 0} (P : Type 0) (o : Option T) → P → IfNone o P
for_none P None holds = holds
for_none P (Some x) holds = tt

-- ---- what words of a form say

abbrev said : List ℕ → List ℕ → Form → Meaning
said folder address form = record { folder = folder; address = address; workers = form.workers; sessions = form.sessions }

said_by : (name f a w : List ℕ) (more : List (List ℕ)) (form : Form) (folder address : List ℕ) → NameServer f a w form.workers → SaysSessions more form.sessions → folder ≡ f → address ≡ a → AreWords (name ∷ f ∷ a ∷ w ∷ more) (said folder address form)
said_by name f a w more form folder address names sessions is-f is-a = (record { folder_is = is-f; address_is = is-a; names = names }, sessions)

some_same : (x y : List ℕ) → Some x ≡ Some y → x ≡ y
some_same x y e = cc

-- clap finds the folder and the address where they stand
pub form_says : (ws : List (List ℕ)) (form : Form) (folder address : List ℕ) → IsForm ws form → Some folder ≡ first_of (codes "FOLDER") (matches_of server_app ws) → Some address ≡ first_of (codes "ADDRESS") (matches_of server_app ws) → AreWords ws (said folder address form)
form_says [] form folder address is e-f e-a = absurd is
form_says (name ∷ []) form folder address is e-f e-a = absurd is
form_says (name ∷ f ∷ []) form folder address is e-f e-a = absurd is
form_says (name ∷ f ∷ a ∷ []) form folder address is e-f e-a = absurd is
form_says (name ∷ f ∷ a ∷ w ∷ []) form folder address is e-f e-a =
    let names : NameServer f a w form.workers = is.0 in
    let right-a = address_begins a names.address_right in
    let right-w = number_begins 1 64 w form.workers (omega arith) names.workers_are in
    said_by name f a w [] form folder address names is.1
    (some_same folder f (e-f ∙ folder_of_three name f a w names.folder_right right-a right-w))
    (some_same address a (e-a ∙ address_of_three name f a w names.folder_right right-a right-w))
form_says (name ∷ f ∷ a ∷ w ∷ s ∷ []) form folder address is e-f e-a =
    let names : NameServer f a w form.workers = is.0 in
    let right-a = address_begins a names.address_right in
    let right-w = number_begins 1 64 w form.workers (omega arith) names.workers_are in
    let right-s = sessions_begin s form.sessions is.1 in
    said_by name f a w (s ∷ []) form folder address names is.1
    (some_same folder f (e-f ∙ folder_of_four name f a w s names.folder_right right-a right-w right-s))
    (some_same address a (e-a ∙ address_of_four name f a w s names.folder_right right-a right-w right-s))
  where
    sessions_begin : (word : List ℕ) (sessions : Option ℕ) → SaysSessions (word ∷ []) sessions → is_folder word ≡ true
    sessions_begin word None says = absurd says
    sessions_begin word (Some n) says = number_begins 1 4294967295 word n (omega arith) says
form_says (name ∷ f ∷ a ∷ w ∷ s ∷ t ∷ more) form folder address is e-f e-a = absurd is.1

-- words of a form are the form of the program
pub form_is : (ws : List (List ℕ)) (form : Form) → IsForm ws form → ¬ AreNoWords ws
form_is [] form is none = is
form_is (name ∷ []) form is none = is
form_is (name ∷ f ∷ []) form is none = is
form_is (name ∷ f ∷ a ∷ []) form is none = is
form_is (name ∷ f ∷ a ∷ w ∷ more) form is none = none (said f a form) (said_by name f a w more form f a is.0 is.1 refl refl)
