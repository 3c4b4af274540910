use Rattle.febe_data.specs.Plain.{plain_reply}
use Rattle.febe_fields.specs.declared.scanned.Scanned.TheVariants.{Incomplete, Complete, Bad}
use Rattle.febe_reply.proofs.ReplyScans.{reply_scanned, is_read, not_none}
use Rattle.febe_reply.proofs.got.read_reply.Goals as goal

pub unreachable-requires : goal.unreachable-requires
unreachable-requires c =
    not_none c.args.bytes.now c.in-Complete.used (reply_scanned c.args.bytes.now (Complete c.in-Complete.used) c.in-Complete.ensures) (rw c.in_default.is at c.in_ok-reply-in-Complete.ensures)

pub returns-in-Incomplete : goal.returns-in-Incomplete
returns-in-Incomplete c = record { got = reply_scanned c.args.bytes.now Incomplete c.in-Incomplete.ensures }

pub returns-in-Bad : goal.returns-in-Bad
returns-in-Bad c = record { got = reply_scanned c.args.bytes.now (Bad c.in-Bad.at) c.in-Bad.ensures }

pub returns-in-Some : goal.returns-in-Some
returns-in-Some c = record {
  got = is_read c.args.bytes.now c.in-Complete.used (plain_reply c.in-Some.reply) c.in-Some.field-0-1.now (reply_scanned c.args.bytes.now (Complete c.in-Complete.used) c.in-Complete.ensures) (rw c.in-Some.is at c.in_ok-reply-in-Complete.ensures);
}
