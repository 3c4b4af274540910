use Rattle.std.proofs.Common.{[]}
use Rattle.std.specs.List.{filter, flat_map}
use Rattle.std.specs.BTreeMap.{is_at}
use Rattle.tumbler.proofs.InOrder as in_order
use Rattle.links.specs.LinkLists.{spans_at}
use Rattle.links.specs.Finding.{span_cmp, spans_meet}
use Rattle.links.proofs.OrderedSpans.{spans_total, same_span}
use Rattle.links.proofs.laws.spans_met_exactly.Goals as goal

pub returns : goal.returns
returns c end span links =
    record {
      ascending = in_order.more_ascend span_cmp spans_total (filter (spans_meet span) (flat_map (spans_at end) links)) [] (in_order.none_ascend span_cmp);
      exactly = λ other. in_order.any_more span_cmp same_span (is_at (span_cmp other)) (filter (spans_meet span) (flat_map (spans_at end) links)) [];
    }
