-- The fields of a document's address.
use Rattle.std.proofs.Common.{◌≡◌, ℕ, ◌<◌, List, ◌∷◌, ◌++◌, ap, ◌∙◌, append_assoc}
use Rattle.std.specs.List.{All}
use Rattle.tumbler.specs.Address.{IsDocument}

pub record Fields (document : List ℕ) : Type 0 where
  pub node : List ℕ
  pub user : List ℕ
  pub field : List ℕ
  pub whole : document ≡ node ++ (0 ∷ (user ++ (0 ∷ field)))
  pub with_tail : (tail : List ℕ) → document ++ tail ≡ node ++ (0 ∷ (user ++ (0 ∷ (field ++ tail))))
  pub node_full : All (λ p. 0 < p) node
  pub user_full : All (λ p. 0 < p) user
  pub field_full : All (λ p. 0 < p) field

pub fields : (document : List ℕ) → IsDocument document → Fields document
fields document h =
    let d = h.1 in
    let a = d.account_address in
    let whole : document ≡ a.node ++ (0 ∷ (a.user ++ (0 ∷ d.field))) = d.parts ∙ ap (λ acc. acc ++ 0 ∷ d.field) a.parts ∙ append_assoc a.node (0 ∷ a.user) (0 ∷ d.field) in
    record {
      node = a.node;
      user = a.user;
      field = d.field;
      whole = whole;
      with_tail = λ tail. ap (λ p. p ++ tail) whole ∙ append_assoc a.node (0 ∷ (a.user ++ (0 ∷ d.field))) tail ∙ ap (λ p. a.node ++ (0 ∷ p)) (append_assoc a.user (0 ∷ d.field) tail);
      node_full = a.node_field.full;
      user_full = a.user_field.full;
      field_full = d.document_field.full;
    }
