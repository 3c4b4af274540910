-- The one account whose next document an address can be.
use Rattle.std.proofs.Common.{◌≡◌, ◌∙◌, ℕ, ◌+◌, ◌<◌, Bool, true, List, [], ◌∷◌, ◌++◌, length, sym, ap, subst, arith, append_assoc, length-append}
use Rattle.std.specs.Prelude.{count_by, not}
use Rattle.std.specs.Cmp.Lexicographic.{nat_list_eq_equiv}
use Rattle.std.proofs.lemmas.Bool.{true≢false}
use Rattle.std.proofs.lemmas.List.Elements.{All-nil, All-cons}
use Rattle.tumbler.specs.Address.{IsAccount, IsDocument, IsDocumentOf}
use Rattle.tumbler.proofs.Addresses.{one_cut}
use Rattle.world_rules.specs.World.{World, is_same, next_document, is_child_of}
use Rattle.entry_fits.specs.Fits.{IsNextOf, IsNextOfAccount}

-- the next document of an account is one of its documents
pub next_is_of : (world : World) (account document : List ℕ) → IsNextOf world account document → IsDocumentOf document account
next_is_of world account document next =
    let count : ℕ = count_by (is_child_of (account ++ 0 ∷ [])) world.documents in
    record {
      field = (count + 1) ∷ [];
      parts = next.is_next ∙ append_assoc account (0 ∷ []) ((count + 1) ∷ []);
      account_address = next.is_account;
      document_field = record { filled = omega arith; full = All-cons (λ p. 0 < p) (count + 1) [] (omega arith) (All-nil (λ p. 0 < p)) };
      short = omega (arith, ap length next.is_next, next.is_account.short, length-append (account ++ 0 ∷ []) ((count + 1) ∷ []), length-append account (0 ∷ []));
    }

-- a document is of one account
pub one_account : (document a b : List ℕ) → IsDocumentOf document a → IsDocumentOf document b → a ≡ b
one_account document a b of other =
    let x : IsAccount a = of.account_address in
    let y : IsAccount b = other.account_address in
    let nested : x.node ++ 0 ∷ (x.user ++ 0 ∷ of.field) ≡ y.node ++ 0 ∷ (y.user ++ 0 ∷ other.field) =
    sym (append_assoc x.node (0 ∷ x.user) (0 ∷ of.field)) ∙ ap (λ (l : List ℕ). l ++ 0 ∷ of.field) (sym x.parts) ∙ sym of.parts ∙ other.parts ∙ ap (λ (l : List ℕ). l ++ 0 ∷ other.field) y.parts ∙ append_assoc y.node (0 ∷ y.user) (0 ∷ other.field) in
    let nodes = one_cut x.node y.node (x.user ++ 0 ∷ of.field) (y.user ++ 0 ∷ other.field) x.node_field.full y.node_field.full nested in
    let users = one_cut x.user y.user of.field other.field x.user_field.full y.user_field.full nodes.1 in
    x.parts ∙ (λ i. nodes.0 i ++ 0 ∷ users.0 i) ∙ sym y.parts

pub next_is_document : (world : World) (document : List ℕ) → IsNextOfAccount world document → IsDocument document
next_is_document world document next = (next.account, next_is_of world next.account document next.next_of)

-- where a document is not the next one of its account, it is no account's
pub no_next : (world : World) (document account next : List ℕ) (other : Bool) → IsDocumentOf document account → next ≡ next_document world account → other ≡ not (is_same next document) → other ≡ true → IsNextOfAccount world document → ⊥
no_next world document account next other of is tells differs fits =
    let same : account ≡ fits.account = one_account document account fits.account of (next_is_of world fits.account document fits.next_of) in
    let alike : is_same next document ≡ true = subst (λ (d : List ℕ). is_same next d ≡ true) (is ∙ ap (next_document world) same ∙ sym fits.next_of.is_next) (nat_list_eq_equiv.refl next) in
    true≢false (sym differs ∙ tells ∙ ap not alike)

-- an account whose next document it is, is the one
pub same_next : (world : World) (document a b : List ℕ) → IsNextOf world a document → IsNextOf world b document → a ≡ b
same_next world document a b x y = one_account document a b (next_is_of world a document x) (next_is_of world b document y)
