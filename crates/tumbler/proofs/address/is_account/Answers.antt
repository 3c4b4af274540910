use Rattle.tumbler.proofs.Addresses.{account-cut, account-filled, no_cut}
use Rattle.tumbler.proofs.address.is_account.Goals as goal

pub returns-in_default : goal.returns-in_default
returns-in_default c =
    (λ e. absurd (cc e), λ a. absurd (no_cut c.args.places.now a.node a.user c.in_default.ensures.none a.parts))

pub returns : goal.returns
returns c = (
  λ e. record {
    node = c.in-Some.node.now;
    user = c.in-Some.user.now;
    parts = c.in-Some.ensures.parts;
    node_field = record { filled = account-filled c.in-Some.node.now c.is_empty.result c.is_empty.ensures c.if-is_empty.false; full = c.in-Some.ensures.full };
    user_field = c.is_field.ensures.0 e;
    short = c.if-places-gt-MOST_ACCOUNT_PLACES.false;
  },
  λ a. c.is_field.ensures.1 (account-cut c.args.places.now c.in-Some.node.now c.in-Some.user.now c.in-Some.ensures.parts c.in-Some.ensures.full a).user_field,
)
