use Rattle.std.proofs.Common.{sym}
use Rattle.va_cursor.proofs.Searching.{found}
use Rattle.va_cursor.proofs.cursor.Cursor.holds.Goals as goal

pub returns : goal.returns
returns c = rw (c.is_ok.ensures.value, sym c.self.view_is) (found c.self.inside.places.items c.args.place c.binary_search.result c.self.invariant.ascends (rw (sym c.deref.ensures.value) c.binary_search.ensures.position))
