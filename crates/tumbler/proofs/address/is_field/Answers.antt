use Rattle.tumbler.proofs.Addresses.{no_cut}
use Rattle.tumbler.proofs.address.is_field.Goals as goal

pub returns-in-Some : goal.returns-in-Some
returns-in-Some c =
    (λ e. absurd (cc e), λ f. absurd (no_cut c.args.places.now c.in-Some.field-0.0.now c.in-Some.field-0.1.now f.full c.in-Some.ensures.parts))
