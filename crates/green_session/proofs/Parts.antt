-- Bytes that are written in two parts.
use Rattle.std.proofs.Common.{◌≡◌, ◌≢◌, ℕ, List, [], ◌∷◌, ◌++◌, Option, Some, None, length, ap, ◌∙◌, sym, subst, refl, append_assoc, append-nil, arith}
use Rattle.std.proofs.lemmas.List.{length-append, append_cancel_left}
use Rattle.std.specs.Io.KnownBytes.{Appends}
use Rattle.green_session.specs.declared.put.Put.{Put}
use Rattle.green_session.specs.declared.put.Put.TheVariants.{Done, WriteFault, Memory}
use Rattle.green_session.specs.Putting.{PutIs, IsPut}

appends_both : (a b c : Option (List ℕ)) (xs ys : List ℕ) → Appends a b xs → Appends b c ys → Appends a c (xs ++ ys)
appends_both None b c xs ys p q = tt
appends_both (Some as') None c xs ys p q = absurd p
appends_both (Some as') (Some bs) None xs ys p q = absurd q
appends_both (Some as') (Some bs) (Some cs) xs ys p q = q ∙ ap (λ (r : List ℕ). r ++ ys) p ∙ append_assoc as' xs ys

no_more : (xs : List ℕ) → length xs ≡ 0 → xs ≡ []
no_more [] none = refl
no_more (x ∷ xs) none = absurd (omega (arith, none))

-- the first part was written, and then what the second one's writing came to
pub put_both : (a b c : Option (List ℕ)) (k m n : ℕ) (head text whole : List ℕ) (first result : Put) → first ≡ Done → head ++ text ≡ whole → IsPut a b k m head first → IsPut b c m n text result → result ≢ Memory → IsPut a c k n whole result
put_both a b c k m n head text whole first result done is one more some = subst (λ (bytes : List ℕ). IsPut a c k n bytes result) is (by result more some)
  where
    all : IsPut a b k m head Done
    all = subst (λ (put : Put). IsPut a b k m head put) done one

    so_far : Appends a b head
    so_far = subst (Appends a b) all.put all.appended

    told : (put : Put) → (m_to_n : IsPut b c m n text put) → put ≢ Memory → PutIs put (head ++ m_to_n.written) (head ++ text) k n
    told Done it some = ap (λ (xs : List ℕ). head ++ xs) it.put
    told WriteFault it some = (omega (arith, all.never_falls, it.put.0), λ same. it.put.1 (append_cancel_left head it.written text same))
    told Memory it some = absurd (some refl)

    by : (put : Put) → IsPut b c m n text put → put ≢ Memory → IsPut a c k n (head ++ text) put
    by put it some = record {
      written = head ++ it.written;
      rest = it.rest;
      prefix = ap (λ (xs : List ℕ). head ++ xs) it.prefix ∙ sym (append_assoc head it.written it.rest);
      appended = appends_both a b c head it.written so_far it.appended;
      never_falls = omega (arith, all.never_falls, it.never_falls);
      put = told put it some;
    }

-- the writing of the first part failed
pub put_head : (a b : Option (List ℕ)) (k m : ℕ) (head text whole : List ℕ) (result : Put) → head ++ text ≡ whole → IsPut a b k m head result → result ≢ Done → result ≢ Memory → IsPut a b k m whole result
put_head a b k m head text whole result is one short some = subst (λ (bytes : List ℕ). IsPut a b k m bytes result) is (by result one short some)
  where
    told : (put : Put) → (it : IsPut a b k m head put) → put ≢ Done → put ≢ Memory → PutIs put it.written (head ++ text) k m
    told Done it short some = absurd (short refl)
    told WriteFault it short some = (
      it.put.0,
      λ same.
          let long = ap length same ∙ length-append head text in
          let parts = ap length it.prefix ∙ length-append it.written it.rest in
          let none = no_more it.rest (omega (arith, long, parts)) in
          it.put.1 (sym (it.prefix ∙ ap (λ (xs : List ℕ). it.written ++ xs) none ∙ append-nil it.written)),
    )
    told Memory it short some = absurd (some refl)

    by : (put : Put) → IsPut a b k m head put → put ≢ Done → put ≢ Memory → IsPut a b k m (head ++ text) put
    by put it short some = record {
      written = it.written;
      rest = it.rest ++ text;
      prefix = ap (λ (xs : List ℕ). xs ++ text) it.prefix ∙ append_assoc it.written it.rest text;
      appended = it.appended;
      never_falls = it.never_falls;
      put = told put it short some;
    }
