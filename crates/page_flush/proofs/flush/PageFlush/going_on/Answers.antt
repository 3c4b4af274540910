-- The pages of the chains are spared, and their streams are kept.
use Rattle.std.proofs.Common.{ℕ, false, List, Some, refl, subst}
use Rattle.page_chains.specs.Reading.{plain_chains}
use Rattle.page_flush.specs.declared.kept_stream.KeptStream.{KeptStream}
use Rattle.page_flush.specs.FlushView.{FlushView, plain_streams, kept_pages}
use Rattle.page_flush.specs.inside.Fresh.{HasAlso}
use Rattle.page_flush.proofs.PreparedWrites.{chains_known}
use Rattle.page_flush.proofs.flush.PageFlush.going_on.Goals as goal

pub returns-clause-knows : goal.returns-clause-knows
returns-clause-knows c = λ position.
    let flush : FlushView = record { journal = c.args.journal; needs_blank = false; spared = c.spare_streams.new.self; kept = Some (plain_streams c.in_ok-streams.streams.items) } in
    let also = subst (λ (s : List KeptStream). HasAlso (kept_pages (plain_streams s)) c.new-spared.result c.spare_streams.new.self) c.as_slice.ensures c.in_ok-spare_streams.ensures.ok in
    chains_known flush (plain_streams c.in_ok-streams.streams.items) (plain_chains c.args.chains.now) c.in_ok-streams.ensures (subst (λ (l : List ℕ). HasAlso (kept_pages (plain_streams c.in_ok-streams.streams.items)) l c.spare_streams.new.self) c.new-spared.ensures also) refl refl
