-- A request that is no quit leaves its session live.
use Rattle.std.proofs.Common.{◌≡◌, ◌≢◌, ℕ, Bool, true, List, [], ◌∷◌, ◌++◌, Option, Some, None, refl, ap, ◌∙◌, inl, inr, ◌⊎◌}
use Rattle.std.specs.Prelude.{MatchOption}
use Rattle.std.proofs.lemmas.List.{append-nil}
use Rattle.febe_data.specs.declared.refusal.Refusal.{Refusal}
use Rattle.febe_data.specs.LimitsView.{LimitsView}
use Rattle.febe_data.specs.Plain.{PlainRequest, quit, PlainReply, PlainEntry}
use Rattle.world_rules.specs.Apply.{world_of}
use Rattle.world_rules.specs.History.{is_live}
use Rattle.world_rules.specs.Effects.{Effect, effect}
use Rattle.world_rules.specs.Legal.{IsLegal, IsServed, IsRefused, IsQueryAnswered, IsDone, IsDiskFault, wanted_after, entry_after}
use Rattle.green_store.proofs.Histories.{is_live-push}
use Rattle.green_store.proofs.Legals.{leaves_live}

abbrev GoesOn : List PlainEntry → ℕ → List PlainEntry → Type 0
GoesOn h session added = is_live (h ++ added) session ≡ true

module _ (limits : LimitsView) (session : ℕ) (h : List PlainEntry) (request : PlainRequest) (reply : PlainReply) (added : List PlainEntry) (rose : Bool) (live : is_live h session ≡ true) (asks : request ≢ quit) where
  by_none : added ≡ [] → GoesOn h session added
  by_none e = ap (λ (x : List PlainEntry). is_live (h ++ x) session) e ∙ ap (λ (x : List PlainEntry). is_live x session) (append-nil h) ∙ live

  by_done : (made : Effect) → effect (world_of h) session request ≡ Some made → added ≡ entry_after h session made ∷ [] → GoesOn h session added
  by_done made e is =
      let entry = entry_after h session made in
      ap (λ (x : List PlainEntry). is_live (h ++ x) session) is ∙ is_live-push h entry session ∙ leaves_live (world_of h) session request made asks e session (is_live h session) session entry.serial ∙ live

  by_served : (made : Option Effect) → effect (world_of h) session request ≡ made
      → MatchOption made (IsQueryAnswered h session request reply added) (λ m. IsDone h session m reply added ⊎ IsDiskFault m reply added rose) → GoesOn h session added
  by_served None e a = by_none a.nothing
  by_served (Some m) e (inl a) = by_done m e a.entry
  by_served (Some m) e (inr a) = by_none a.nothing

  by_given : (wanted : Option Refusal) → MatchOption wanted (IsServed h session request reply added rose) (λ refusal. IsRefused refusal reply added) → GoesOn h session added
  by_given None a = by_served (effect (world_of h) session request) refl a
  by_given (Some refusal) a = by_none a.nothing

  pub goes_on : IsLegal limits session h request reply added rose → GoesOn h session added
  goes_on legal = elim legal.given [ inl m ↦ by_none m.nothing | inr g ↦ by_given (wanted_after limits h session request) g ]

pub remains_live : (limits : LimitsView) (session : ℕ) (h : List PlainEntry) (request : PlainRequest) (reply : PlainReply) (added after : List PlainEntry) (rose : Bool) → IsLegal limits session h request reply added rose → request ≢ quit
    → after ≡ h ++ added → is_live after session ≡ true
remains_live limits session h request reply added after rose legal asks grows = ap (λ (x : List PlainEntry). is_live x session) grows ∙ goes_on limits session h request reply added rose legal.live asks legal
