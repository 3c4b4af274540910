use Rattle.std.proofs.Common.{◌≡◌, ◌∙◌, ap, codes, map, string_bytes, Some}
use Rattle.clap.specs.Matches.{found_of}
use Rattle.clap.specs.Walk.{first_of}
use Rattle.clap.specs.Simple.{matches_of}
use Rattle.clap.proofs.WalkLemmas.{first_value-rows}
use Rattle.server_words.specs.Command.{server_app}
use Rattle.server_words.proofs.Forms.{form_says}
use Rattle.server_words.proofs.words.read_form.Goals as goal

pub returns : goal.returns
returns c =
    let ws = map string_bytes c.args.words.now in
    let found = found_of c.in-Ok.found in
    let folder_is : Some c.in_ok-folder.folder.items ≡ first_of (codes "FOLDER") (matches_of server_app ws) =
    ap Some (c.in_ok-folder.ensures.items ∙ c.as_bytes.ensures.value) ∙ c.in-Some.ensures ∙ first_value-rows found (codes "FOLDER") ∙ ap (first_of (codes "FOLDER")) c.in-Ok.ensures in
    let address_is : Some c.in_ok-address.address.items ≡ first_of (codes "ADDRESS") (matches_of server_app ws) =
    ap Some (c.in_ok-address.ensures.items ∙ c.as_bytes-2.ensures.value) ∙ c.in-Some-get_str.ensures ∙ first_value-rows found (codes "ADDRESS") ∙ ap (first_of (codes "ADDRESS")) c.in-Ok.ensures in
    form_says ws c.args.form c.in_ok-folder.folder.items c.in_ok-address.address.items c.requires folder_is address_is
