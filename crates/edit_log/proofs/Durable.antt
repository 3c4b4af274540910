-- What was made stable stays so while nothing is written.
use Rattle.std.proofs.Common.{◌≡◌, Option, None, Some, sym, subst}
use Rattle.green_io.specs.declared.disk.Area.{Area}
use Rattle.green_io.specs.Areas.{Areas}
use Rattle.green_io.specs.Disk.{IsStable}

pub durable_where : (area : Area) (old new : Option Areas) (before after : Areas → Type 0) → new ≡ old → ((i : Areas) → after i → before i) → IsStable area old before → IsStable area new after
durable_where area None new before after same was durable = subst (λ r. IsStable area r after) (sym same) tt
durable_where area (Some areas) new before after same was durable = subst (λ r. IsStable area r after) (sym same) (λ i is. durable i (was i is))
