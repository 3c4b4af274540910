-- Chains of exchanges, one behind the other.
use Rattle.std.proofs.Common.{◌≡◌, ◌≢◌, Bool, true, false, List, [], ◌∷◌, ◌++◌, refl, ap, ◌∙◌, sym, subst, inl, inr, append_assoc}
use Rattle.std.proofs.lemmas.List.{append-nil}
use Rattle.world_rules.specs.Legal.{Exchange}
use Rattle.green_top.specs.declared.session_end.SessionEnd.{SessionEnd}
use Rattle.green_top.specs.Times.{Coming, CutsShort}
use Rattle.green_top.specs.inside.Play.{Chain, nothing, asked, tended, AsksOnce, Leads}

module _ {F S : Type 0} (Tells : F → S → Coming → Exchange → F → S → Coming → Type 0) (Tended : F → S → Coming → F → S → Coming → Type 0) where
  pub chain_nothing : (first : F) (second : S) (coming : Coming) → Chain Tells Tended first second coming [] true first second coming
  chain_nothing first second coming = nothing [] true first second coming refl refl refl refl refl

  -- nothing was done behind it
  stays : (first : F) (second : S) (coming : Coming) (xs ys : List Exchange) (done : Bool) (f f' : F) (s s' : S) (c c' : Coming) → ys ≡ [] → done ≡ true → f' ≡ f → s' ≡ s → c' ≡ c → Chain Tells Tended first second coming xs true f s c
      → Chain Tells Tended first second coming (xs ++ ys) done f' s' c'
  stays first second coming xs ys done f f' s s' c c' none all same same' same_coming chain =
      subst (λ (es : List Exchange). Chain Tells Tended first second coming es done f' s' c') (sym (ap (λ (es : List Exchange). xs ++ es) none ∙ append-nil xs))
      (subst (λ (x : Bool). Chain Tells Tended first second coming xs x f' s' c') (sym all)
      (subst (λ (x : F). Chain Tells Tended first second coming xs true x s' c') (sym same)
      (subst (λ (x : S). Chain Tells Tended first second coming xs true f x c') (sym same') (subst (λ (x : Coming). Chain Tells Tended first second coming xs true f s x) (sym same_coming) chain))))

  pub chain_both : (first : F) (second : S) (coming : Coming) (xs : List Exchange) (f : F) (s : S) (c : Coming) → Chain Tells Tended first second coming xs true f s c
      → (ys : List Exchange) (done : Bool) (f' : F) (s' : S) (c' : Coming) → Chain Tells Tended f s c ys done f' s' c' → Chain Tells Tended first second coming (xs ++ ys) done f' s' c'
  chain_both first second coming xs f s c chain ys done f' s' c' (nothing _ _ _ _ _ none all same same' same_coming) = stays first second coming xs ys done f f' s s' c c' none all same same' same_coming chain
  chain_both first second coming xs f s c chain ys done f' s' c' (asked _ before e _ b b' between _ _ _ parts left more told) =
      asked (xs ++ ys) (xs ++ before) e done b b' between f' s' c' (ap (λ (es : List Exchange). xs ++ es) parts ∙ sym (append_assoc xs before (e ∷ []))) left (chain_both first second coming xs f s c chain before true b b' between more) told
  chain_both first second coming xs f s c chain ys done f' s' c' (tended _ _ b b' between _ _ _ all more told) =
      tended (xs ++ ys) done b b' between f' s' c' all (chain_both first second coming xs f s c chain ys false b b' between more) told

  -- what leads there behind a chain
  pub leads_both : (end : SessionEnd) (first : F) (second : S) (coming : Coming) (xs : List Exchange) (f : F) (s : S) (c : Coming) → Chain Tells Tended first second coming xs true f s c
      → (ys : List Exchange) (f' : F) (s' : S) (c' : Coming) → Leads Tells Tended end f s c ys f' s' c' → Leads Tells Tended end first second coming (xs ++ ys) f' s' c'
  leads_both end first second coming xs f s c chain ys f' s' c' leads = (leads.0, leads.1, chain_both first second coming xs f s c chain ys leads.0 f' s' c' leads.2)

  pub leads_nothing : (end : SessionEnd) (first : F) (second : S) (coming : Coming) → Leads Tells Tended end first second coming [] first second coming
  leads_nothing end first second coming = (true, tt, chain_nothing first second coming)

  -- a request that was asked, if one was, and nothing behind it, since its reply could not be written
  pub leads_asked : (end : SessionEnd) → CutsShort end → (first : F) (second : S) (coming : Coming) (es : List Exchange) (f : F) (s : S) (c : Coming) → AsksOnce Tells first second coming es f s c → Leads Tells Tended end first second coming es f s c
  leads_asked end cut first second coming es f s c (inl none) = (true, tt, nothing es true f s c none.0 refl none.1 none.2 none.3)
  leads_asked end cut first second coming es f s c (inr (e, one, told)) = (false, cut, asked es [] e false first second coming f s c one refl (chain_nothing first second coming) told)

  -- a request that was asked, and what is then done
  pub chain_turn : (first : F) (second : S) (coming : Coming) (es : List Exchange) (f : F) (s : S) (c : Coming) (f' : F) (s' : S) (c' : Coming) → es ≢ [] → AsksOnce Tells first second coming es f s c → Tended f s c f' s' c'
      → Chain Tells Tended first second coming es true f' s' c'
  chain_turn first second coming es f s c f' s' c' some (inl none) told = absurd (some none.0)
  chain_turn first second coming es f s c f' s' c' some (inr (e, one, asks)) told = tended es true f s c f' s' c' refl (asked es [] e false first second coming f s c one refl (chain_nothing first second coming) asks) told

  pub leads_turn : (end : SessionEnd) (first : F) (second : S) (coming : Coming) (es : List Exchange) (f : F) (s : S) (c : Coming) (f' : F) (s' : S) (c' : Coming) → es ≢ [] → AsksOnce Tells first second coming es f s c → Tended f s c f' s' c'
      → Leads Tells Tended end first second coming es f' s' c'
  leads_turn end first second coming es f s c f' s' c' some asks told = (true, tt, chain_turn first second coming es f s c f' s' c' some asks told)
