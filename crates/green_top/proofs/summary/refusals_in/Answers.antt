use Rattle.std.proofs.Common.{arith, sym, subst, ◌<◌, ◌+◌, ◌≤◌, List, length, All, ℕ, ap}
use Rattle.std.proofs.lemmas.List.Elements.{All-drop}
use Rattle.febe_data.specs.Plain.{plain_reply}
use Rattle.green_top.proofs.Replying.{Counted, none_counted, all_bytes, counted_more, all_counted, is_reply, still_replies, fewer, not_empty, is_none}
use Rattle.green_top.proofs.summary.refusals_in.Goals as goal

pub unreachable-requires : goal.unreachable-requires
unreachable-requires c =
    is_reply c.reading.rest.now c.in_ok-reply.field-0 c.reading.invariant.are_bytes (search (not_empty))
    (still_replies c.args.bytes.now c.reading.rest.now c.reading.count c.requires c.reading.invariant.counted) c.in_ok-reply.ensures.got c.in_default.not-Reply

pub reading-preserved : goal.reading-preserved
reading-preserved c =
    let back = c.split_at.ensures.back in
    record {
      counted = λ replies spell.
          let more = counted_more c.one_reply.ensures c.args.bytes.now c.reading.rest.now c.reading.count c.in-Reply.used (plain_reply c.in-Reply.reply) (c.reading.count + c.refusal_count-count.result) c.reading.invariant.are_bytes (search (not_empty)) (rw c.in-Reply.is at c.in_ok-reply.ensures.got) (ap (λ (n : ℕ). c.reading.count + n) c.refusal_count-count.ensures.value) c.reading.invariant.counted in
          subst (λ (bytes : List ℕ). Counted c.args.bytes.now bytes (c.reading.count + c.refusal_count-count.result)) (sym back) more replies spell;
      are_bytes = subst (All (λ b. b < 256)) (sym back) (All-drop (λ b. b < 256) c.in-Reply.used c.reading.rest.now c.reading.invariant.are_bytes);
      few = subst (λ (bytes : List ℕ). (c.reading.count + c.refusal_count-count.result) + length bytes ≤ length c.args.bytes.now) (sym back)
          (fewer c.one_reply.ensures c.reading.rest.now c.reading.count c.in-Reply.used c.refusal_count-count.result (length c.args.bytes.now) (plain_reply c.in-Reply.reply) c.reading.invariant.are_bytes (search (not_empty)) (rw c.in-Reply.is at c.in_ok-reply.ensures.got)
          (still_replies c.args.bytes.now c.reading.rest.now c.reading.count c.requires c.reading.invariant.counted) c.refusal_count-count.ensures.few c.reading.invariant.few);
    }

pub returns : goal.returns
returns c = all_counted c.args.bytes.now c.reading.rest.now c.reading.count (search (is_none)) c.reading.invariant.counted

pub reading-init : goal.reading-init
reading-init c = record { counted = none_counted c.args.bytes.now; are_bytes = all_bytes c.args.bytes.now c.type_inv.bytes; few = omega arith }
