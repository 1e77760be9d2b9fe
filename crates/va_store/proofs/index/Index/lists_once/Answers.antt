use Rattle.std.proofs.Common.{sym}
use Rattle.va_store.proofs.Shelving.{once_of}
use Rattle.va_store.proofs.index.Index.lists_once.Goals as goal

pub returns : goal.returns
returns c = rw (sym c.self.view_is) (λ id p q. once_of c.self.inside.ids.items c.self.inside.entries.items c.self.invariant.0 id p q)
