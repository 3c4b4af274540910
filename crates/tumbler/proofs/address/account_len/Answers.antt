use Rattle.std.proofs.Common.{subst, ◌∙◌, sym, ◌++◌, ◌∷◌}
use Rattle.tumbler.specs.Address.{IsAccount, IsDocumentOf}
use Rattle.tumbler.proofs.Addresses.{document-cut, document-one_cut, document-no_cut, front-take, account-of}
use Rattle.tumbler.proofs.address.account_len.Goals as goal

pub returns-in_default-clause-none : goal.returns-in_default-clause-none
returns-in_default-clause-none c = document-no_cut c.args.places.now c.in_default.ensures.none

pub returns-in_default-split_at_zero-clause-none : goal.returns-in_default-split_at_zero-clause-none
returns-in_default-split_at_zero-clause-none c =
    document-one_cut c.args.places.now c.in-Some.node.now c.in-Some.rest.now c.in-Some.ensures.parts c.in-Some.ensures.full c.in_default-split_at_zero.ensures.none

pub returns-then-not-is_account-clause-none : goal.returns-then-not-is_account-clause-none
returns-then-not-is_account-clause-none c d =
    let cut = document-cut c.args.places.now c.in-Some.node.now c.in-Some.rest.now c.in-Some-split_at_zero.user.now c.in-Some-split_at_zero.field.now c.in-Some.ensures.parts c.in-Some.ensures.full c.in-Some-split_at_zero.ensures.parts c.in-Some-split_at_zero.ensures.full d in
    let front = c.split_at.ensures.front ∙ front-take c.args.places.now c.in-Some.node.now c.in-Some.rest.now c.in-Some-split_at_zero.user.now c.in-Some-split_at_zero.field.now c.in-Some.ensures.parts c.in-Some-split_at_zero.ensures.parts in
    let yes = c.is_account.ensures.1 (subst IsAccount (sym front) cut.account) in
    cc

pub returns-then-not-is_field-clause-none : goal.returns-then-not-is_field-clause-none
returns-then-not-is_field-clause-none c d =
    let cut = document-cut c.args.places.now c.in-Some.node.now c.in-Some.rest.now c.in-Some-split_at_zero.user.now c.in-Some-split_at_zero.field.now c.in-Some.ensures.parts c.in-Some.ensures.full c.in-Some-split_at_zero.ensures.parts c.in-Some-split_at_zero.ensures.full d in
    let yes = c.is_field.ensures.1 cut.document_field in
    cc

pub returns-clause-found : goal.returns-clause-found
returns-clause-found c =
    let front = front-take c.args.places.now c.in-Some.node.now c.in-Some.rest.now c.in-Some-split_at_zero.user.now c.in-Some-split_at_zero.field.now c.in-Some.ensures.parts c.in-Some-split_at_zero.ensures.parts in
    let account : IsAccount (c.in-Some.node.now ++ 0 ∷ c.in-Some-split_at_zero.user.now) =
    subst IsAccount (c.split_at.ensures.front ∙ front) (c.is_account.ensures.0 c.if-not-is_account.false) in
    subst (IsDocumentOf c.args.places.now) (sym front)
    (account-of c.args.places.now c.in-Some.node.now c.in-Some.rest.now c.in-Some-split_at_zero.user.now c.in-Some-split_at_zero.field.now c.in-Some.ensures.parts c.in-Some-split_at_zero.ensures.parts account (c.is_field.ensures.0 c.if-not-is_field.false) c.if-places-gt-MOST_DOCUMENT_PLACES.false)
