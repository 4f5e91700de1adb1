use Rattle.std.proofs.Common.{◌≡◌, ◌∙◌, ap, ap₂, true}
use Rattle.std.proofs.lemmas.Result.{IfOk-weaker}
use Rattle.clap.specs.Simple.{App, Shape, app_of, app_of_fields, on_top, with_subcommand}
use Rattle.bfs_words.specs.Line.{empty_line}
use Rattle.bfs_words.proofs.line.command_line.Goals as goal

pub returns : goal.returns
returns c =
    let unnamed = ap app_of_fields c.no_binary_name.ensures ∙ ap (on_top (λ (s : Shape). record s { no_binary_name = true })) c.new.ensures.app in
    let empty : app_of c.subcommand_required.result ≡ empty_line =
    ap app_of_fields c.subcommand_required.ensures ∙ ap (on_top (λ (s : Shape). record s { subcommand_required = true })) unnamed in
    let one = c.in_ok-subcommand.ensures.shape c.in_ok-label.ensures.local ∙ ap₂ with_subcommand empty (ap (λ (a : App). a.top) c.in_ok-label.ensures.app) in
    let two = c.in_ok-subcommand-2.ensures.shape c.in_ok-mk.ensures.local ∙ ap₂ with_subcommand one (ap (λ (a : App). a.top) c.in_ok-mk.ensures.app) in
    let three = c.in_ok-subcommand-3.ensures.shape c.new-check.ensures.local ∙ ap₂ with_subcommand two (ap (λ (a : App). a.top) c.new-check.ensures.app) in
    let four = c.in_ok-subcommand-4.ensures.shape c.in_ok-sh.ensures.local ∙ ap₂ with_subcommand three (ap (λ (a : App). a.top) c.in_ok-sh.ensures.app) in
    IfOk-weaker c.subcommand-5.result _ _ (λ r h. h.shape c.in_ok-soak.ensures.local ∙ ap₂ with_subcommand four (ap (λ (a : App). a.top) c.in_ok-soak.ensures.app)) c.subcommand-5.ensures
