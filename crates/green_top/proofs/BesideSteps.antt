-- What a store's steps are for the loop, where nobody else adds to the history.
use Rattle.std.proofs.Common.{◌≡◌, ℕ, ◌+◌, Bool, true, List, [], ◌∷◌, ◌++◌, length, ap, ◌∙◌, sym, subst, inl, inr, arith}
use Rattle.std.proofs.lemmas.List.{append-nil}
use Rattle.febe_data.specs.LimitsView.{LimitsView}
use Rattle.febe_data.specs.Plain.{PlainRequest, PlainReply, PlainEntry}
use Rattle.febe_data.specs.Validity.{IsRequest}
use Rattle.world_rules.specs.History.{is_live}
use Rattle.world_rules.specs.Legal.{IsLegal, Exchange}
use Rattle.green_store.specs.IsStep.{IsStep, IsBegun, HasNoNumber, IsGiven}
use Rattle.green_store.specs.Sessions.{greatest_session, begin_entry, end_entry}
use Rattle.green_store.specs.Steps.{Steps}
use Rattle.green_store.specs.StoreView.{StoreView}
use Rattle.green_store.specs.declared.step.Step.TheVariants as steps
use Rattle.green_store.specs.declared.step.StepAnswer.{StepAnswer}
use Rattle.green_store.specs.declared.step.StepAnswer.TheVariants as answers
use Rattle.green_top.specs.Ends.{AllNumbersTaken}
use Rattle.green_top.specs.Times.{Coming}
use Rattle.green_top.specs.inside.Play.{BeginsAt, EndsAt, HasReplied}
use Rattle.green_top.proofs.Liveness.{no_others}

pub begins_here : (before after : StoreView) (session : ℕ) → IsBegun before session after → BeginsAt session before.history after.history
begins_here before after session b = record {
  past = [];
  number_is = b.number_is ∙ ap (λ (h : List PlainEntry). greatest_session h + 1) (sym (append-nil before.history));
  has_number = omega (arith, b.number_is, b.has_number);
  grows = ap (λ (v : StoreView). v.history) b.grows ∙ ap (λ (h : List PlainEntry). h ++ begin_entry session ∷ []) (sym (append-nil before.history));
}

pub none_left : (before after : StoreView) → HasNoNumber before after → AllNumbersTaken after.history
none_left before after n = ap (λ (v : StoreView). greatest_session v.history + 1) n.stays ∙ n.last_taken

pub ends_here : (before after : StoreView) (session : ℕ) (answer : StepAnswer) (rose : Bool) → is_live before.history session ≡ true → IsStep before (steps.End session) after answer rose → EndsAt session before.history after.history
ends_here before after session answers.Ended rose live step = record {
  past = [];
  others = no_others session;
  grows = ap (λ (v : StoreView). v.history) step.grows ∙ ap (λ (h : List PlainEntry). h ++ end_entry h session ∷ []) (sym (append-nil before.history));
}
ends_here before after session answers.NoSession rose live step = absurd (let a = live in let b = step.not_live in cc)
ends_here before after session other rose live step = absurd step

-- a valid request's reply is legal
pub legal_of : (before : StoreView) (session : ℕ) (request : PlainRequest) (reply : PlainReply) (after : StoreView) (rose : Bool) → IsGiven before session request reply after rose → IsRequest request → Steps before.limits session before.history request reply after.history rose
legal_of before session request reply after rose (inl g) valid = g.1
legal_of before session request reply after rose (inr g) valid = absurd (g.0 valid)

module _ {F S : Type 0} (Tells : F → S → Coming → Exchange → F → S → Coming → Type 0) (limits : LimitsView) (session : ℕ) (h h' : List PlainEntry) (first first' : F) (second second' : S) (coming coming' : Coming) (request : PlainRequest) (reply : PlainReply) (point : ℕ) (rose : Bool) where
  pub replied_here : (s : Steps limits session h request reply h' rose) → point ≡ length h' → Tells first second coming (record { request = request; reply = reply; point = point; added = s.added; rose = rose }) first' second' coming'
      → HasReplied Tells limits session h first second coming request reply point h' first' second' coming'
  replied_here s is told = record {
    past = [];
    added = s.added;
    rose = rose;
    others = no_others session;
    legal = subst (λ (x : List PlainEntry). IsLegal limits session x request reply s.added rose) (sym (append-nil h)) s.legal;
    grows = s.grows ∙ ap (λ (x : List PlainEntry). x ++ s.added) (sym (append-nil h));
    point_is = is;
    told = told;
  }
