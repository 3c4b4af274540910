-- Entries that are told again, and trees that the world goes on from behind some of them.
use Rattle.std.proofs.Common.{◌≡◌, ◌∙◌, inl, inr, ℕ, ◌+◌, ◌<◌, ◌≤◌, Bool, true, false, List, [], ◌∷◌, ◌++◌, length, take, take_all, not, Option, None, Some, Result, Ok, Err, refl, sym, ap, subst, arith}
use Rattle.std.specs.Prelude.{◌↔◌, IsTrue, IfOk}
use Rattle.std.proofs.lemmas.List.{take-map, length-map}
use Rattle.febe_data.specs.declared.entry.Entry.{Entry}
use Rattle.febe_data.specs.Plain.{PlainEntry, plain_entry, plain_history}
use Rattle.enfilade_core.specs.Exchange.{Grows}
use Rattle.enfilade_core.specs.Rows.{Shape}
use Rattle.world_rules.specs.Apply.{world_of}
use Rattle.world_rules.specs.FlatView.{FlatView, view_of, after_entry}
use Rattle.world_rules.proofs.Folded.{folds_to_world}
use Rattle.entry_fits.specs.Fits.{Fits, AllFit}
use Rattle.entry_fits.specs.Greatest.{AreSerialsOf}
use Rattle.entry_fits.specs.Laws.{OneMoreFits, FittingAreKept, FittingBegin, IsRegular}
use Rattle.world_rules.specs.History.{durable_entries, restart_entry}
use Rattle.tree_world.specs.Condition.{Condition}
use Rattle.tree_world.specs.Nodes.{WorldNodes, AllGrown}
use Rattle.page_trees.specs.Trees.{PlainTrees}
use Rattle.green_flush.specs.declared.trees.Trees.{Trees}
use Rattle.green_flush.specs.Loads.{TreesAt, AreLoaded, HasLoaded}
use Rattle.green_flush.specs.Standing.{FlushView, IsRenewed}
use Rattle.paged_world.specs.Standing.{StandFor, AreIn, HaveNodes, HaveGrownFrom, MayGoOn}
use Rattle.green_store.specs.declared.opening.Retold.{Retold}
use Rattle.green_store.specs.declared.opening.Retold.TheVariants as retold
use Rattle.green_store.specs.declared.opening.Rebuilt.{Rebuilt}
use Rattle.green_store.specs.declared.opening.Rebuilt.TheVariants as rebuilt
use Rattle.green_store.specs.Opening.{IsUnfitFrom, IsFlushedAt}
use Rattle.green_store.specs.Replayed.{AreTold, IsRetold, IsRebuilt, AreTreesAt, MayHaveGoneOn, came_to, IsSameOrRenewed}
use Rattle.green_store.specs.StoreView.{StoreView}
use Rattle.green_store.specs.IsStore.{IsStore}
use Rattle.green_store.specs.Sessions.{greatest_session}
use Rattle.green_store.proofs.Histories.{view_of-push, is_live-push, greatest-push, plain_history-push}
use Rattle.green_store.proofs.Moments.{AreTimed}
use Rattle.green_store.proofs.Regulars.{kept_other}

pub if_ok : {A E : Type 0} (r : Result A E) (P Q : A → Type 0) → ((a : A) → P a → Q a) → IfOk r P → IfOk r Q
if_ok (Ok a) P Q follows has = follows a has
if_ok (Err e) P Q follows has = tt

-- ---- entries that are told

pub none_told : (stands : FlatView → Type 0) (serials : List (ℕ × ℕ)) → stands (view_of []) → AreSerialsOf [] serials → AreTold [] stands serials
none_told stands serials stood noted = record { fit = tt; stood = stood; noted = noted }

pub one_told : OneMoreFits → (past now : List PlainEntry) (e : PlainEntry) (stands after : FlatView → Type 0) (serials more : List (ℕ × ℕ)) → now ≡ past ++ e ∷ [] → AreTold past stands serials → Fits past e
    → ((view : FlatView) → stands view → after (after_entry view e)) → ((es : List PlainEntry) → AreSerialsOf es serials → AreSerialsOf (es ++ e ∷ []) more) → AreTold now after more
one_told law past now e stands after serials more is told fits stood noted =
    subst (λ (es : List PlainEntry). AreTold es after more) (sym is) record {
      fit = law past e told.fit fits;
      stood = subst after (sym (view_of-push past e)) (stood (view_of past) told.stood);
      noted = noted past told.noted;
    }

-- the world by another name
pub still_told : (past : List PlainEntry) (stands after : FlatView → Type 0) (serials : List (ℕ × ℕ)) → ((view : FlatView) → stands view → after view) → AreTold past stands serials → AreTold past after serials
still_told past stands after serials stays told = record { fit = told.fit; stood = stays (view_of past) told.stood; noted = told.noted }

pub all_told : (entries : List Entry) (to : ℕ) (stands : FlatView → Type 0) (serials : List (ℕ × ℕ)) → to ≡ length entries → AreTold (plain_history (take to entries)) stands serials
    → AllFit [] (plain_history entries) × stands (view_of (plain_history entries))
all_told entries to stands serials is told =
    let all : take to entries ≡ entries = take_all to entries (omega (arith, is)) in
    let same : AreTold (plain_history entries) stands serials = subst (λ (es : List Entry). AreTold (plain_history es) stands serials) all told in
    (same.fit, same.stood)

-- ---- what telling a part came to

pub unfit_is : (entries past : List PlainEntry) (stands : FlatView → Type 0) (serials : List (ℕ × ℕ)) (old new : WorldNodes) (r : Retold) (at : ℕ) → r ≡ retold.Unfit at → IsRetold entries past stands serials old new r → IsUnfitFrom at entries
unfit_is entries past stands serials old new r at is told = subst (IsRetold entries past stands serials old new) is told

pub whole_is : (entries past : List PlainEntry) (stands : FlatView → Type 0) (serials : List (ℕ × ℕ)) (old new : WorldNodes) (r : Retold) (swept : Bool) → r ≡ retold.Whole swept → IsRetold entries past stands serials old new r
    → AreTold past stands serials × (swept ≡ false → AllGrown old new)
whole_is entries past stands serials old new r swept is told = subst (IsRetold entries past stands serials old new) is told

-- ---- what it all came to

pub rebuilt_is : (adopted swept : Bool) (position : ℕ) (r : Rebuilt) (entries : List Entry) (stands : FlatView → Type 0) → r ≡ came_to adopted swept position → position ≤ length entries
    → AllFit [] (plain_history entries) × stands (view_of (plain_history entries)) → IsRebuilt (plain_history entries) stands r
rebuilt_is adopted swept position r entries stands is within all = subst (IsRebuilt (plain_history entries) stands) (sym is) (by adopted)
  where
    by : (b : Bool) → IsRebuilt (plain_history entries) stands (came_to b swept position)
    by false = (all.0, all.1, omega arith)
    by true = (all.0, all.1, omega (arith, within, length-map entries plain_entry))

pub rebuilt_afresh : (entries : List Entry) (stands : FlatView → Type 0) → AllFit [] (plain_history entries) × stands (view_of (plain_history entries)) → IsRebuilt (plain_history entries) stands (rebuilt.Whole 0 false)
rebuilt_afresh entries stands all = (all.0, all.1, omega arith)

grows_from : {L : Type 0} (a b c : List (Shape L)) → a ≡ b → Grows b c → Grows a c
grows_from {L} a b c is grows = record { more = grows.more; is = grows.is ∙ ap (λ (x : List (Shape L)). x ++ grows.more) (sym is) }

grown_from : (plain : PlainTrees) (old new : WorldNodes) → HaveNodes plain old → AllGrown old new → HaveGrownFrom plain new
grown_from plain old new have grown = record {
  contents = grows_from plain.granfilade old.contents new.contents have.contents grown.contents;
  documents = grows_from plain.poom old.documents new.documents have.documents grown.documents;
  index = grows_from plain.spanfilade old.index new.index have.index grown.index;
  from = grows_from plain.from old.from new.from have.from grown.from;
  to = grows_from plain.to old.to new.to have.to grown.to;
  three = grows_from plain.three old.three new.three have.three grown.three;
}

not_false : (swept : Bool) → not swept ≡ true → swept ≡ false
not_false false is = refl
not_false true is = absurd (cc is)

-- behind so many entries trees were adopted, or they do not stand for these
pub gone_on_is : (adopted swept : Bool) (at : TreesAt) (r : Rebuilt) (entries : List Entry) (trees : Condition) (between nodes : WorldNodes) → r ≡ came_to adopted swept at.position → at.position ≤ length entries
    → (IsTrue adopted ↔ StandFor at.trees (view_of (plain_history (take at.position entries))).world) → (IsTrue adopted → HaveNodes at.trees between) → (at.position ≡ length entries → IsTrue adopted → AreIn at.trees trees)
    → (swept ≡ false → AllGrown between nodes) → MayHaveGoneOn (Some at) (plain_history entries) trees nodes r
gone_on_is adopted swept at r entries trees between nodes is within told have same grown = subst (MayHaveGoneOn (Some at) (plain_history entries) trees nodes) (sym is) (by adopted told have same)
  where
    front : world_of (take at.position (plain_history entries)) ≡ (view_of (plain_history (take at.position entries))).world
    front = ap world_of (take-map plain_entry at.position entries) ∙ sym (folds_to_world (plain_history (take at.position entries)))

    long : length (plain_history entries) ≡ length entries
    long = length-map entries plain_entry

    by : (b : Bool) → (IsTrue b ↔ StandFor at.trees (view_of (plain_history (take at.position entries))).world) → (IsTrue b → HaveNodes at.trees between) → (at.position ≡ length entries → IsTrue b → AreIn at.trees trees)
        → MayHaveGoneOn (Some at) (plain_history entries) trees nodes (came_to b swept at.position)
    by false stood has shape = inr (λ stand. no (stood.1 (subst (StandFor at.trees) front stand.stand)), (refl, refl))
      where
        no : false ≡ true → ⊥
        no is_true = cc is_true
    by true stood has shape = inl record {
      stand = record { within = omega (arith, within, long); stand = subst (StandFor at.trees) (sym front) (stood.0 refl) };
      flushed_is = refl;
      condition = λ all. shape (all ∙ long) refl;
      grown = λ goes_on. grown_from at.trees between nodes (has refl) (grown (not_false swept goes_on));
    }

-- ---- which trees were loaded

pub none_gone_on : (loaded : Option (Trees × ℕ)) (now : Option TreesAt) (entries : List PlainEntry) (trees : Condition) (nodes : WorldNodes) (r : Rebuilt) → loaded ≡ None → AreTreesAt loaded now → MayHaveGoneOn None entries trees nodes r → MayHaveGoneOn now entries trees nodes r
none_gone_on None None entries trees nodes r is are afresh = afresh
none_gone_on None (Some at) entries trees nodes r is are afresh = absurd are
none_gone_on (Some loaded) now entries trees nodes r is are afresh = absurd (cc is)

pub position_is : (loaded : Option (Trees × ℕ)) (trees : Trees) (position : ℕ) (at : TreesAt) → loaded ≡ Some (trees, position) → AreTreesAt loaded (Some at) → AreLoaded trees at.trees × (position ≡ at.position)
position_is loaded trees position at is are = subst (λ (x : Option (Trees × ℕ)). AreTreesAt x (Some at)) is are

none_there : (loaded : Option (Trees × ℕ)) (trees : Trees) (position : ℕ) → loaded ≡ Some (trees, position) → AreTreesAt loaded None → ⊥
none_there loaded trees position is are = subst (λ (x : Option (Trees × ℕ)). AreTreesAt x None) is are

-- the position is beyond the entries
pub beyond_gone_on : (loaded : Option (Trees × ℕ)) (l : Trees) (position : ℕ) (now : Option TreesAt) (entries : List Entry) (trees : Condition) (nodes : WorldNodes) (r : Rebuilt) → loaded ≡ Some (l, position) → length entries < position
    → AreTreesAt loaded now → MayHaveGoneOn None (plain_history entries) trees nodes r → MayHaveGoneOn now (plain_history entries) trees nodes r
beyond_gone_on loaded l position None entries trees nodes r is beyond are afresh = afresh
beyond_gone_on loaded l position (Some at) entries trees nodes (rebuilt.Unfit place) is beyond are afresh = tt
beyond_gone_on loaded l position (Some at) entries trees nodes (rebuilt.Whole flushed goes_on) is beyond are afresh =
    inr (λ stand. let same = (position_is loaded l position at is are).1 in let within = stand.within in absurd (omega (arith, beyond, same, within, length-map entries plain_entry)), afresh)

-- the position is among them
pub among_gone_on : (loaded : Option (Trees × ℕ)) (l : Trees) (position : ℕ) (now : Option TreesAt) (entries : List PlainEntry) (trees : Condition) (nodes : WorldNodes) (r : Rebuilt) → loaded ≡ Some (l, position)
    → ((plain : PlainTrees) → AreLoaded l plain → MayHaveGoneOn (Some (record { trees = plain; position = position })) entries trees nodes r) → AreTreesAt loaded now → MayHaveGoneOn now entries trees nodes r
among_gone_on loaded l position None entries trees nodes r is gone are = absurd (none_there loaded l position is are)
among_gone_on loaded l position (Some at) entries trees nodes r is gone are =
    let has = position_is loaded l position at is are in
    subst (λ (p : ℕ). MayHaveGoneOn (Some (record { trees = at.trees; position = p })) entries trees nodes r) has.1 (gone at.trees has.0)

pub among_ok : {E : Type 0} (res : Result Rebuilt E) (loaded : Option (Trees × ℕ)) (l : Trees) (position : ℕ) (now : Option TreesAt) (entries : List PlainEntry) (trees : Condition) (nodes : WorldNodes) → loaded ≡ Some (l, position)
    → ((plain : PlainTrees) → AreLoaded l plain → IfOk res (MayHaveGoneOn (Some (record { trees = plain; position = position })) entries trees nodes)) → AreTreesAt loaded now → IfOk res (MayHaveGoneOn now entries trees nodes)
among_ok (Ok r) loaded l position now entries trees nodes is gone are = among_gone_on loaded l position now entries trees nodes r is gone are
among_ok (Err e) loaded l position now entries trees nodes is gone are = tt

pub sound_is : (loaded : Option (Trees × ℕ)) (trees : Trees) (position : ℕ) → loaded ≡ Some (trees, position) → HasLoaded loaded → (plain : PlainTrees) × AreLoaded trees plain
sound_is loaded trees position is sound = subst HasLoaded is sound

-- ---- the store that begins with it

pub gone_on_whole : (now : Option TreesAt) (slice items : List Entry) (trees : Condition) (nodes : WorldNodes) (r : Rebuilt) (flushed : ℕ) (goes_on : Bool) → slice ≡ items → r ≡ rebuilt.Whole flushed goes_on
    → MayHaveGoneOn now (plain_history slice) trees nodes r → MayHaveGoneOn now (plain_history items) trees nodes (rebuilt.Whole flushed goes_on)
gone_on_whole now slice items trees nodes r flushed goes_on same is gone =
    subst (λ (es : List Entry). MayHaveGoneOn now (plain_history es) trees nodes (rebuilt.Whole flushed goes_on)) same (subst (MayHaveGoneOn now (plain_history slice) trees nodes) is gone)

pub rebuilt_whole : (slice items : List Entry) (stands : FlatView → Type 0) (r : Rebuilt) (flushed : ℕ) (goes_on : Bool) → slice ≡ items → r ≡ rebuilt.Whole flushed goes_on → IsRebuilt (plain_history slice) stands r
    → IsRebuilt (plain_history items) stands (rebuilt.Whole flushed goes_on)
rebuilt_whole slice items stands r flushed goes_on same is built =
    subst (λ (es : List Entry). IsRebuilt (plain_history es) stands (rebuilt.Whole flushed goes_on)) same (subst (IsRebuilt (plain_history slice) stands) is built)

pub rebuilt_unfit : (slice items : List Entry) (stands : FlatView → Type 0) (r : Rebuilt) (at : ℕ) → slice ≡ items → r ≡ rebuilt.Unfit at → IsRebuilt (plain_history slice) stands r → IsUnfitFrom at (plain_history items)
rebuilt_unfit slice items stands r at same is built =
    subst (λ (es : List Entry). IsUnfitFrom at (plain_history es)) same (subst (IsRebuilt (plain_history slice) stands) is built)

pub flushed_at : (now : Option TreesAt) (entries : List PlainEntry) (trees : Condition) (nodes : WorldNodes) (flushed : ℕ) (goes_on : Bool) (store : StoreView) → MayHaveGoneOn now entries trees nodes (rebuilt.Whole flushed goes_on)
    → store.flushed ≡ flushed → store.trees ≡ trees → IsFlushedAt now entries store
flushed_at None entries trees nodes flushed goes_on store afresh same shape = same ∙ afresh.0
flushed_at (Some at) entries trees nodes flushed goes_on store (inl on) same shape = inl record {
  stand = on.stand;
  flushed_is = same ∙ on.flushed_is;
  condition = λ some all. subst (AreIn at.trees) (sym shape) (on.condition all);
}
flushed_at (Some at) entries trees nodes flushed goes_on store (inr aside) same shape = inr (aside.0, same ∙ aside.1.0)

renewed_goes_on : (now : Option TreesAt) (flush after : FlushView) (nodes : WorldNodes) → IsRenewed flush after → MayGoOn after now nodes
renewed_goes_on now flush after nodes renewed = λ at is. inl renewed.anew

some_is : (a b : TreesAt) → (let x : Option TreesAt = Some a in x) ≡ Some b → a ≡ b
some_is a b e = cc

gone_goes_on : (now : Option TreesAt) (entries : List PlainEntry) (trees : Condition) (nodes : WorldNodes) (flushed : ℕ) (after : FlushView) → MayHaveGoneOn now entries trees nodes (rebuilt.Whole flushed true) → MayGoOn after now nodes
gone_goes_on None entries trees nodes flushed after gone = absurd (cc gone.1)
gone_goes_on (Some one) entries trees nodes flushed after (inl on) = λ at is. inr (subst (λ (x : TreesAt). HaveGrownFrom x.trees nodes) (some_is one at is) (on.grown refl))
gone_goes_on (Some one) entries trees nodes flushed after (inr aside) = absurd (cc aside.1.1)

pub may_go_on : (now : Option TreesAt) (entries : List PlainEntry) (trees : Condition) (nodes : WorldNodes) (flushed : ℕ) (goes_on : Bool) (flush after : FlushView) (store : StoreView) → MayHaveGoneOn now entries trees nodes (rebuilt.Whole flushed goes_on)
    → (goes_on ≡ false → IsRenewed flush after) → store.flush ≡ after → store.nodes ≡ nodes → MayGoOn store.flush now store.nodes
may_go_on now entries trees nodes flushed goes_on flush after store gone renewed flush_is nodes_are =
    subst (λ (f : FlushView). MayGoOn f now store.nodes) (sym flush_is) (subst (MayGoOn after now) (sym nodes_are) (by goes_on gone renewed))
  where
    by : (b : Bool) → MayHaveGoneOn now entries trees nodes (rebuilt.Whole flushed b) → (b ≡ false → IsRenewed flush after) → MayGoOn after now nodes
    by false went anew = renewed_goes_on now flush after nodes (anew refl)
    by true went anew = gone_goes_on now entries trees nodes flushed after went

pub same_or_renewed : (goes_on : Bool) (flush after last : FlushView) → (goes_on ≡ true → after ≡ flush) → (goes_on ≡ false → IsRenewed flush after) → last ≡ after → IsSameOrRenewed flush last
same_or_renewed goes_on flush after last same renewed is = subst (IsSameOrRenewed flush) (sym is) (by goes_on same renewed)
  where
    by : (b : Bool) → (b ≡ true → after ≡ flush) → (b ≡ false → IsRenewed flush after) → IsSameOrRenewed flush after
    by false stays anew = inr (anew refl)
    by true stays anew = inl (stays refl)

-- no session is live in it
pub first_is_store : FittingAreKept → FittingBegin → (items more : List Entry) (moments : List ℕ) (restart : Entry) (room : ℕ) (stands : FlatView → Type 0) (live : List ℕ) (greatest flushed : ℕ) → more ≡ items ++ restart ∷ [] → plain_entry restart ≡ restart_entry
    → stands (after_entry (view_of (plain_history items)) (plain_entry restart)) → AllFit [] (plain_history items) → AreTimed (plain_history items) moments → live ≡ [] → greatest ≡ greatest_session (plain_history items) → flushed ≤ length (plain_history items)
    → IsStore (plain_history more) moments room stands live greatest flushed
first_is_store kept begin items more moments restart room stands live greatest flushed grows is stood fit are none counted within =
    subst (λ (es : List PlainEntry). IsStore es moments room stands live greatest flushed) (sym history) (subst (λ (l : List ℕ). IsStore (plain_history items ++ restart_entry ∷ []) moments room stands l greatest flushed) (sym none) record {
      world_stands = subst stands (sym (view_of-push (plain_history items) restart_entry)) (subst (λ (e : PlainEntry). stands (after_entry (view_of (plain_history items)) e)) is stood);
      live_are = λ session. sym (is_live-push (plain_history items) restart_entry session);
      greatest_is = omega (arith, counted, greatest-push (plain_history items) restart_entry);
      room_kept = omega arith;
      regular = subst (λ (es : List PlainEntry). IsRegular (es ++ restart_entry ∷ [])) (kept (plain_history items) fit) (begin (plain_history items) fit);
      timed_all = timed.0;
      entries = timed.1;
      saved = subst (λ (es : List PlainEntry). flushed ≤ length es) (sym durable) within;
    })
  where
    history : plain_history more ≡ plain_history items ++ restart_entry ∷ []
    history = ap plain_history grows ∙ plain_history-push items restart ∙ ap (λ (e : PlainEntry). plain_history items ++ e ∷ []) is

    durable : durable_entries (plain_history items ++ restart_entry ∷ []) ≡ plain_history items
    durable = kept_other (plain_history items) restart_entry refl ∙ kept (plain_history items) fit

    timed : AreTimed (durable_entries (plain_history items ++ restart_entry ∷ [])) moments
    timed = subst (λ (es : List PlainEntry). AreTimed es moments) (sym durable) are
