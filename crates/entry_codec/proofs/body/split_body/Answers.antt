use Rattle.std.proofs.Common.{ℕ, ◌+◌, ap}
use Rattle.entry_codec.proofs.BodyLaws.{none_in_front, too_short, within, only_front}
use Rattle.entry_codec.proofs.body.split_body.Goals as goal

pub returns-in_err-len : goal.returns-in_err-len
returns-in_err-len c = rw c.from_residual.ensures (none_in_front c.args.format c.args.bytes.now c.in_err-len.ensures)

pub returns-then-rest-len : goal.returns-then-rest-len
returns-then-rest-len c = too_short c.args.format c.args.bytes.now c.in_ok-len.rest.now c.in_ok-len.len c.in_ok-len.ensures c.if-rest-len.true

pub split_at-requires : goal.split_at-requires
split_at-requires c = rw c.length_size.ensures (within c.args.format c.args.bytes.now c.in_ok-len.rest.now c.in_ok-len.len c.in_ok-len.ensures c.if-rest-len.false)

pub returns : goal.returns
returns c =
    only_front c.args.format c.args.bytes.now c.in_ok-len.rest.now _ _ c.in_ok-len.len _ c.in_ok-len.ensures (ap (λ (k : ℕ). k + c.in_ok-len.len) c.length_size.ensures) c.split_at.ensures.front c.split_at.ensures.back
