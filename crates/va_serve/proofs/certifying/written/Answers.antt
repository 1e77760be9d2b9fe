use Rattle.std.proofs.Common.{inl, ap, sym, subst, ◌∙◌}
use Rattle.va_cert.proofs.OneLine.{text_is_one_line}
use Rattle.va_lang.specs.Reply as replies
use Rattle.va_serve.proofs.certifying.written.Goals as goal
use Rattle.va_core.specs.Texts.{IsOneLine}

pub new-requires : goal.new-requires
new-requires c = subst IsOneLine (sym c.in-Ok.ensures) (text_is_one_line c.args.made.now)

pub returns-in-Ok : goal.returns-in-Ok
returns-in-Ok c = inl (λ lent. ap replies.cert (c.new.ensures ∙ c.in-Ok.ensures))
