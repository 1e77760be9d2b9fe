use Rattle.std.proofs.Common.{rules}
use Rattle.va_search.proofs.Ranked.{advanced}
use Rattle.va_search.proofs.ranking.next_pair.Goals as goal

pub returns : goal.returns
returns g c =
    let says = c.next-next.ensures in
    advanced c.next-next.result
    (record {
      gave = says.gave;
      failed = says.failed;
      took = says.took;
      stopped = says.stopped;
      end_is = says.end;
      given = says.given;
      given_err = says.given_err;
      same = record { shape = says.shape; query = says.query; places = says.places };
      goes_on = says.goes_on;
      cause = says.cause;
    })
    c.requires.shape (search rules) c.told_of.ensures
