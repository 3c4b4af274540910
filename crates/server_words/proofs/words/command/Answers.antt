use Rattle.std.proofs.Common.{rules, ◌≡◌, ◌∙◌, ap₂, codes}
use Rattle.std.proofs.lemmas.Result.{IfOk-weaker}
use Rattle.clap.specs.Walk.{Rule, Text, rule_of}
use Rattle.clap.specs.Simple.{App, app_of, new_app, new_rule, with_rule}
use Rattle.server_words.specs.Command.{needed}
use Rattle.server_words.proofs.words.command.Goals as goal

abbrev with_folder : App
with_folder = with_rule (new_app (codes "green_server")) (needed (codes "FOLDER"))

abbrev with_address : App
with_address = with_rule with_folder (needed (codes "ADDRESS"))

abbrev with_workers : App
with_workers = with_rule with_address (needed (codes "WORKERS"))

pub returns : goal.returns
returns c =
    let folder_is : rule_of c.required-folder.result ≡ needed (codes "FOLDER") = search rules in
    let address_is : rule_of c.required-address.result ≡ needed (codes "ADDRESS") = search rules in
    let workers_is : rule_of c.required-workers.result ≡ needed (codes "WORKERS") = search rules in
    let sessions_is : rule_of c.new-sessions.result ≡ new_rule (codes "SESSIONS") = search rules in
    let one : app_of c.in_ok-arg.field-0 ≡ with_folder = c.in_ok-arg.ensures.shape (search rules) ∙ ap₂ with_rule c.new-4.ensures.app folder_is in
    let two : app_of c.in_ok-arg-2.field-0 ≡ with_address = c.in_ok-arg-2.ensures.shape (search rules) ∙ ap₂ with_rule one address_is in
    let three : app_of c.in_ok-arg-3.field-0 ≡ with_workers = c.in_ok-arg-3.ensures.shape (search rules) ∙ ap₂ with_rule two workers_is in
    IfOk-weaker c.arg-4.result _ _ (λ r h. h.shape (search rules) ∙ ap₂ with_rule three sessions_is) c.arg-4.ensures
