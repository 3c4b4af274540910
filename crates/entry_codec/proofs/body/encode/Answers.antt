use Rattle.febe_data.specs.Plain.{plain_entry}
use Rattle.entry_codec.specs.Logged.{made_at_moment}
use Rattle.entry_codec.proofs.Written.{whole_body}
use Rattle.entry_codec.proofs.body.encode.Goals as goal

pub returns : goal.returns
returns c =
    whole_body (made_at_moment (plain_entry c.args.entry.now) c.args.moment) c.rest_size-rest.result c.in_ok-body.body.items c.append_u64.new.out.items c.append_logged.new.out.items
    (c.rest_size-rest.ensures.is c.args.moment) c.in_ok-body.ensures c.in_ok-append_u64.ensures c.in_ok-append_logged.ensures
