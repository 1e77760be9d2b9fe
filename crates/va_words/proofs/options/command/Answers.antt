use Rattle.std.proofs.Common.{◌≡◌, ◌∙◌, ap, ap₂, true, codes}
use Rattle.std.proofs.lemmas.Result.{IfOk-weaker}
use Rattle.clap.specs.Words.{app_of, new_app, with_rule}
use Rattle.clap.specs.Simple.{app_of_fields, on_top}
use Rattle.va_words.specs.Options.{bare_app}
use Rattle.va_words.proofs.options.command.Goals as goal

pub returns : goal.returns
returns c =
    let new_is : app_of c.new.result ≡ new_app (codes "va_cli") = c.new.ensures.app in
    let bare : app_of c.disable_help_flag.result ≡ bare_app =
    ap app_of_fields c.disable_help_flag.ensures
    ∙ ap (on_top (λ s. record s { disable_help_flag = true }))
    (ap app_of_fields c.no_binary_name.ensures ∙ ap (on_top (λ s. record s { no_binary_name = true })) new_is) in
    let one = c.in_ok-arg.ensures.shape c.flag.ensures.local ∙ ap₂ with_rule bare c.flag.ensures.rule in
    let two = c.in_ok-arg-2.ensures.shape c.flag-2.ensures.local ∙ ap₂ with_rule one c.flag-2.ensures.rule in
    IfOk-weaker c.arg-3.result _ _ (λ made adds. adds.shape c.valued.ensures.local ∙ ap₂ with_rule two c.valued.ensures.rule) c.arg-3.ensures
