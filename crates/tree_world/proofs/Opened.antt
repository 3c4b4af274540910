-- Trees stand for a view after a change of who has what open.
use Rattle.std.proofs.Common.{◌≡◌, ◌∙◌, inl, inr, ℕ, List, [], sym, subst}
use Rattle.febe_data.specs.declared.access.Mode.{Mode}
use Rattle.febe_data.specs.declared.access.Mode.TheVariants.{Write}
use Rattle.febe_data.specs.Plain.{restarted, ended as ended_change, account_changed, document_opened, document_closed}
use Rattle.world_rules.specs.declared.rows.OpenRow.{OpenRow}
use Rattle.world_rules.specs.declared.rows.AccountRow.{AccountRow}
use Rattle.world_rules.specs.FlatView.{FlatView}
use Rattle.access_table.specs.AccessRows.{AccessRows, no_rows, opened, closed, account_set, ended}
use Rattle.tree_world.specs.Trees.{Trees}
use Rattle.tree_world.specs.Standing.{Stands, SessionsStand}
use Rattle.tree_world.specs.Changed.{after_change, MayWrite}
use Rattle.tree_world.proofs.AccessChanged.{restarted_stand, ended_stand, account_stand, closed_stand, opened_stand, OthersDoNotWrite}

-- only the table of access is another, and what it stands for
pub with_access : (trees : Trees) (view : FlatView) (access : AccessRows) (open_rows : List OpenRow) (accounts : List AccountRow) → Stands trees view
    → SessionsStand (record trees { access = access }) (record view.world { open_rows = open_rows; accounts = accounts })
    → Stands (record trees { access = access }) (record view { world = record view.world { open_rows = open_rows; accounts = accounts } })
with_access trees view access open_rows accounts stand made = record {
  documents = stand.documents;
  documents_once = stand.documents_once;
  roots = stand.roots;
  texts = stand.texts;
  links = stand.links;
  covered = stand.covered;
  bytes = stand.bytes;
  bytes_once = stand.bytes_once;
  total = stand.total;
  counts = stand.counts;
  marks = stand.marks;
  link_table = stand.link_table;
  ids = stand.ids;
  ends = stand.ends;
  access = made;
  counted = stand.counted;
  entries = stand.entries;
  known = stand.known;
}

module _ (trees : Trees) (access : AccessRows) (session : ℕ) (view : FlatView) (stand : Stands trees view) where
  pub restarted_in : access ≡ no_rows → Stands (record trees { access = access }) (after_change view session restarted)
  restarted_in is = subst (λ a. Stands (record trees { access = a }) (after_change view session restarted)) (sym is) (with_access trees view no_rows [] [] stand (restarted_stand trees view.world))

  pub ended_in : access ≡ ended trees.access session → Stands (record trees { access = access }) (after_change view session ended_change)
  ended_in is = subst (λ a. Stands (record trees { access = a }) (after_change view session ended_change)) (sym is) (with_access trees view _ _ _ stand (ended_stand trees view.world session stand.access))

  pub account_in_place : (account : List ℕ) → access ≡ account_set trees.access session account → Stands (record trees { access = access }) (after_change view session (account_changed account))
  account_in_place account is =
      subst (λ a. Stands (record trees { access = a }) (after_change view session (account_changed account))) (sym is) (with_access trees view _ _ _ stand (account_stand trees view.world session stand.access account))

  pub closed_in : (document : List ℕ) → access ≡ closed trees.access session document → Stands (record trees { access = access }) (after_change view session (document_closed document))
  closed_in document is =
      subst (λ a. Stands (record trees { access = a }) (after_change view session (document_closed document))) (sym is) (with_access trees view _ _ _ stand (closed_stand trees view.world session stand.access document))

  pub others_do_not : (document : List ℕ) → MayWrite trees.access.open_rows document session → OthersDoNotWrite trees view.world session stand.access document
  others_do_not document (inl first) other writes =
      stand.access.one_writer document other session (sym (stand.access.modes other document) ∙ writes) (sym (stand.access.modes session document) ∙ first.writes)
  others_do_not document (inr none) other writes = absurd (none other writes)

  pub opened_in : (document : List ℕ) (mode : Mode) → (mode ≡ Write → MayWrite trees.access.open_rows document session) → access ≡ opened trees.access session document mode
      → Stands (record trees { access = access }) (after_change view session (document_opened document mode))
  opened_in document mode may is =
      subst (λ a. Stands (record trees { access = a }) (after_change view session (document_opened document mode))) (sym is)
      (with_access trees view _ _ _ stand (opened_stand trees view.world session stand.access document mode (λ e. others_do_not document (may e))))
