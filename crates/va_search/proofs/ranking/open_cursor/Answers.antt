use Rattle.std.proofs.Common.{rules}
use Rattle.va_search.proofs.Ranked.{opened}
use Rattle.va_search.proofs.ranking.open_cursor.Goals as goal

pub returns : goal.returns
returns g c =
    let says = c.open-opened.ensures in
    opened {shelf = c.shelf.result} {end = c.open-opened.new.shelf} c.open-opened.result
    (record {
      stands = says.stands;
      places = says.places;
      shape = says.shape;
      query_is = says.query;
      given = says.given;
      no_mismatch = says.no_mismatch;
      passes = says.fetches_nothing;
      cause = says.cause;
    })
    (search rules) c.told_of.ensures
