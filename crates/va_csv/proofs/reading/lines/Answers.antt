use Rattle.std.proofs.Common.{Bor, List, ℕ, ◌≡◌, ◌∙◌, sym, refl, ap, ap₂, rules, inl, inr, true, map, Some, ◌∷◌, ◌++◌, []}
use Rattle.std.specs.Result.{is_ok}
use Rattle.std.proofs.lemmas.List.{map-append}
use Rattle.csv.specs.Reading.{Reached, default_config, strip_bom}
use Rattle.csv.specs.Records.{fields_of}
use Rattle.csv.specs.declared.parser.State.TheVariants as st
use Rattle.csv.proofs.ReadFacts.{rows-end, rows-more}
use Rattle.va_csv.specs.Lines.{line_of}
use Rattle.va_csv.proofs.Records.{records_are}
use Rattle.va_csv.proofs.reading.lines.Goals as goal

pub loop-read-init : goal.loop-read-init
unfolding Reached
loop-read-init c =
    let fr = c.from_reader-reader.ensures in
    let f = c.flexible.ensures in
    let e = c.has_headers.ensures in
    let start = c.into_iter-read-iterator.ensures.into_iter_gives ∙ refl in
    let rdr = c.into_byte_records-read-items.ensures.rdr in
    let left = c.into_byte_records-read-items.ensures.left in
    rw (start, rdr, c.new-lines.ensures.items) (
      rw (f, e) at fr.trim ∙ c.new.ensures.trim,
      inr (inr (rw (f, e) at fr.has_headers, fr.headers)),
      left,
      rw (f, e) at fr.config ∙ c.new.ensures.config,
      rw f at fr.flexible,
      strip_bom c.args.bytes.now,
      fr.source,
      [],
      (sym fr.state, refl),
      refl,
    )

pub loop-read-preserved : goal.loop-read-preserved
loop-read-preserved c =
    let (plain, ready, left, config, flexible, y, source, rows, reached, lines) = c.loop-read.invariant in
    let step = rw (c.in-Some.is, c.in-Ok.is) at (c.next.ensures.steps left plain) in
    let took = step.0 ready in
    let fields = fields_of c.in-Ok.fields in
    let good : is_ok c.push.result ≡ true = search rules in
    let items = rw good at c.push.ensures.items in
    let m = rows-more (λ (s : Bor (List ℕ)). Some s.now) c.loop-read.read-iterator.rdr c.next.new.self.rdr fields default_config st.StartRecord (strip_bom c.args.bytes.now) y rows config source reached took.0 in (
      took.0.3 ∙ plain,
      inl took.1,
      took.2,
      took.0.2 ∙ config,
      step.3 ∙ flexible,
      m.0,
      m.1,
      rows ++ (fields ∷ []),
      m.2,
      map-append line_of rows (fields ∷ []) ∙ ap₂ (λ a b. a ++ b ∷ []) lines (sym c.in-Ok-line.ensures) ∙ sym items,
    )

pub returns : goal.returns
returns c =
    let (plain, ready, left, config, flexible, y, source, rows, reached, lines) = c.loop-read.invariant in
    let last = rw c.in-None.is at ((c.next.ensures.steps left plain).0 ready) in
    let end = rows-end (λ (s : Bor (List ℕ)). Some s.now) c.loop-read.read-iterator.rdr c.next.new.self.rdr [] default_config y config source last in
    sym lines ∙ ap (map line_of) (sym (records_are default_config (strip_bom c.args.bytes.now) rows (c.loop-read.read-iterator.rdr.state, y, reached, end)))
