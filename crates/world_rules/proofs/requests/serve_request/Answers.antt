use Rattle.world_rules.proofs.requests.serve_request.Goals as goal

pub returns-in-Account-clause-served : goal.returns-in-Account-clause-served
returns-in-Account-clause-served g c view stands = rw c.in-Account.is (c.serve_account.ensures.served view c.args.limits.now c.args.session)

pub returns-in-Close-clause-served : goal.returns-in-Close-clause-served
returns-in-Close-clause-served g c view stands = rw c.in-Close.is (c.serve_close.ensures.served view c.args.limits.now stands)

pub returns-in_default-clause-served : goal.returns-in_default-clause-served
returns-in_default-clause-served g c view stands = c.serve_query.ensures.served view c.args.limits.now stands
