use Rattle.std.proofs.Common.{refl}
use Rattle.va_keep.proofs.Offering.{near_with_room}
use Rattle.va_keep.proofs.keep.Keep.is_near.Goals as goal

pub returns-in-None : goal.returns-in-None
returns-in-None c = near_with_room c.args.self.now.most c.args.self.now.pairs c.args.pair (c.in-None.ensures.none.0 refl)
