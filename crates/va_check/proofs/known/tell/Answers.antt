use Rattle.std.proofs.Common.{◌≡◌, ℕ, List, length, true, false, Option, refl, ap, sym, ◌∙◌, rules}
use Rattle.std.specs.Prelude.{is_some}
use Rattle.va_cert.specs.declared.certificate.Taken.{Taken}
use Rattle.va_cert.specs.Known.{dist_of, is_fetched, vector_at}
use Rattle.va_check.specs.Lookups.{found}
use Rattle.va_check.proofs.Looking.{found_has, is_fetched_found, vector_at_found, vector_in}
use Rattle.va_check.proofs.Levels.{rises_each}
use Rattle.va_check.proofs.known.tell.Goals as goal

pub bounds-reach-requires-clause-rises : goal.bounds-reach-requires-clause-rises
bounds-reach-requires-clause-rises c = rises_each c.args.row.now.low c.args.row.now.high c.as_slice-2.result.now c.as_slice-3.result.now c.as_slice-2.ensures c.as_slice-3.ensures (c.requires.low ∙ sym c.requires.high) c.requires.rises

pub distance-requires-clause-len : goal.distance-requires-clause-len
distance-requires-clause-len c =
    let is = c.in-Some.ensures ∙ ap (λ (fetched : List Taken). found (λ (t : Taken). t.id) c.args.row.now.id fetched) c.as_slice.ensures in
    ap (λ (l : List ℕ). length l) c.as_slice-in-Some.ensures ∙ (found_has _ (λ (t : Taken). t.id) c.args.row.now.id c.args.cert.now.fetched c.in-Some.taken.now c.requires.formed.entries is).0

pub returns-in-Some-clause-known : goal.returns-in-Some-clause-known
returns-in-Some-clause-known c =
    let is = c.in-Some.ensures ∙ ap (λ (fetched : List Taken). found (λ (t : Taken). t.id) c.args.row.now.id fetched) c.as_slice.ensures in
    let fetched : is_fetched c.args.cert.now.fetched c.args.row.now.id ≡ true = is_fetched_found c.args.cert.now.fetched c.args.row.now.id ∙ ap (λ (t : Option Taken). is_some t) (sym is) in
    rw fetched refl

pub returns-in-Some-clause-dist : goal.returns-in-Some-clause-dist
returns-in-Some-clause-dist c =
    let is = c.in-Some.ensures ∙ ap (λ (fetched : List Taken). found (λ (t : Taken). t.id) c.args.row.now.id fetched) c.as_slice.ensures in
    let fetched : is_fetched c.args.cert.now.fetched c.args.row.now.id ≡ true = is_fetched_found c.args.cert.now.fetched c.args.row.now.id ∙ ap (λ (t : Option Taken). is_some t) (sym is) in
    let vector : vector_at c.args.cert.now.fetched c.args.row.now.id ≡ c.in-Some.taken.now.vector = vector_at_found c.args.cert.now.fetched c.args.row.now.id ∙ ap (λ (t : Option Taken). vector_in t) (sym is) in
    rw (fetched, vector) (c.distance.ensures ∙ ap (λ (l : List ℕ). dist_of c.args.cert.now l) c.as_slice-in-Some.ensures)

pub returns-clause-known : goal.returns-clause-known
returns-clause-known c =
    let is = c.in_default.ensures ∙ ap (λ (fetched : List Taken). found (λ (t : Taken). t.id) c.args.row.now.id fetched) c.as_slice.ensures in
    let fetched : is_fetched c.args.cert.now.fetched c.args.row.now.id ≡ false = is_fetched_found c.args.cert.now.fetched c.args.row.now.id ∙ ap (λ (t : Option Taken). is_some t) (sym is) in
    rw fetched (search rules)

pub returns-clause-dist : goal.returns-clause-dist
returns-clause-dist c =
    let is = c.in_default.ensures ∙ ap (λ (fetched : List Taken). found (λ (t : Taken). t.id) c.args.row.now.id fetched) c.as_slice.ensures in
    let fetched : is_fetched c.args.cert.now.fetched c.args.row.now.id ≡ false = is_fetched_found c.args.cert.now.fetched c.args.row.now.id ∙ ap (λ (t : Option Taken). is_some t) (sym is) in
    rw fetched (search rules)
