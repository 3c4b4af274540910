use Rattle.std.proofs.Common.{subst, arith, ◌-◌, length, take}
use Rattle.tumbler.specs.Address.{IsDocument}
use Rattle.tumbler.proofs.Addresses.{made_from}
use Rattle.tumbler.proofs.address.document_len.Goals as goal

pub returns-in-Some-clause-found : goal.returns-in-Some-clause-found
returns-in-Some-clause-found c =
    let n = length c.args.places.now - 3 in
    let document : IsDocument (take n c.args.places.now) = subst IsDocument c.split_at.ensures.front (take c.in-Some.field-0 c.split_at.result.0.now, c.in-Some.ensures.found) in
    made_from c.args.places.now n (omega arith) c.requires c.if-places-n-ne0.false (c.is_part.ensures.0 c.if-not-is_part.false) document
