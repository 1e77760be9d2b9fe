use Rattle.va_script.proofs.Drawing.{eight_drawn, eight_on}
use Rattle.va_script.proofs.generator.Generator.vector.Goals as goal

pub returns-clause-state : goal.returns-clause-state
returns-clause-state c =
    eight_on
    c.args.self.now c.byte-first.new.self c.byte-second.new.self c.byte-third.new.self c.byte-fourth.new.self
    c.byte-fifth.new.self c.byte-sixth.new.self c.byte-seventh.new.self c.byte-eighth.new.self
    c.byte-first.ensures.state c.byte-second.ensures.state c.byte-third.ensures.state c.byte-fourth.ensures.state
    c.byte-fifth.ensures.state c.byte-sixth.ensures.state c.byte-seventh.ensures.state c.byte-eighth.ensures.state

pub returns-clause-bytes : goal.returns-clause-bytes
returns-clause-bytes c =
    rw (
      c.byte-first.ensures.byte,
      c.byte-second.ensures.byte,
      c.byte-third.ensures.byte,
      c.byte-fourth.ensures.byte,
      c.byte-fifth.ensures.byte,
      c.byte-sixth.ensures.byte,
      c.byte-seventh.ensures.byte,
      c.byte-eighth.ensures.byte,
    )
    (eight_drawn
    c.args.self.now c.byte-first.new.self c.byte-second.new.self c.byte-third.new.self c.byte-fourth.new.self
    c.byte-fifth.new.self c.byte-sixth.new.self c.byte-seventh.new.self c.byte-eighth.new.self
    c.byte-first.ensures.state c.byte-second.ensures.state c.byte-third.ensures.state c.byte-fourth.ensures.state
    c.byte-fifth.ensures.state c.byte-sixth.ensures.state c.byte-seventh.ensures.state c.byte-eighth.ensures.state)
