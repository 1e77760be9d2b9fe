use Rattle.std.proofs.Common.{◌∙◌}
use Rattle.va_store.proofs.Shelving.{count_from}
use Rattle.va_store.proofs.shelf.StoreShelfShelf.live.Goals as goal

pub returns : goal.returns
returns g c = c.live.ensures ∙ count_from 0 c.args.self.now.store.now.ids
