use Rattle.std.proofs.Common.{[]}
use Rattle.std.specs.List.{filter}
use Rattle.spanfilade.specs.Keys.{is_met_by, keys_of}
use Rattle.spanfilade.proofs.Ascending.{with_keys-among, with_keys-ascends, none_ascends}
use Rattle.spanfilade.proofs.laws.keys_met_exactly.Goals as goal

pub returns : goal.returns
returns c spans rows =
    record {
      ascending = with_keys-ascends (keys_of (filter (is_met_by spans) rows)) [] none_ascends;
      exactly = λ key. with_keys-among (keys_of (filter (is_met_by spans) rows)) [] key;
    }
