use Rattle.std.proofs.Common.{◌≡◌, ◌+◌, ◌-◌, ◌<◌, ◌++◌, [], ◌∷◌, ℕ, Option, Some, length, get_or, map, take, drop, ◌∙◌, ap, subst, arith}
use Rattle.std.proofs.lemmas.Result.{err_from_is_err_and}
use Rattle.va_requant.specs.Refitting.{waiting}
use Rattle.va_requant.proofs.Advancing.{Tries, broken_of, converts_next, converts_none, failed, next_there, next_waits, reads_failed, reads_stopped, stays_tried}
use Rattle.va_store.specs.Ids.{IsNextLive}
use Rattle.va_store.specs.Known.{Known}
use Rattle.va_core.specs.Above.{live_above}
use Rattle.va_store.specs.Refits.{ReadsFirst, converted}
use Rattle.va_requant.proofs.converting.convert_next.Goals as goal
use Rattle.va_store.specs.ShelfReads.{read_of_id}

pub unwrap-id-requires : goal.unwrap-id-requires
unwrap-id-requires g c =
    let so_far = c.loop.invariant in
    let less : c.loop.counter < length (waiting c.args.store.now) = omega (arith, c.requires.waiting) in
    next_there c.loop.after c.loop.store.ids c.next_live.result c.loop.counter (waiting c.args.store.now) c.next_live.ensures
    (ap (λ (last : Option ℕ). live_above last c.loop.store.ids) so_far.at ∙ so_far.left) less

pub convert_one-requires-clause-next : goal.convert_one-requires-clause-next
convert_one-requires-clause-next g c = subst (λ (last : Option ℕ). IsNextLive last c.loop.store.ids (Some c.unwrap-id.result)) c.loop.invariant.at
    (subst (λ (r : Option ℕ). IsNextLive c.loop.after c.loop.store.ids r) c.unwrap-id.ensures c.next_live.ensures)

pub loop-init : goal.loop-init
loop-init g c = converts_none c.args.store.now c.args.disk.now c.requires.fits c.requires.runs c.requires.last

pub loop-preserved : goal.loop-preserved
loop-preserved g c =
    let tried : Tries g.D.Storage c.loop.store c.loop.disk c.unwrap-id.result c.convert_one.new.disk = record {
      next = subst (λ (last : Option ℕ). IsNextLive last c.loop.store.ids (Some c.unwrap-id.result)) c.loop.invariant.at
          (subst (λ (r : Option ℕ). IsNextLive c.loop.after c.loop.store.ids r) c.unwrap-id.ensures c.next_live.ensures);
      stands = c.convert_one.ensures.stands;
      outcomes = c.convert_one.ensures.outcomes;
      frame = c.convert_one.ensures.frame;
      rest = c.convert_one.ensures.rest;
      inside = c.convert_one.ensures.inside;
      size = c.convert_one.ensures.size;
    } in
    converts_next c.requires.law c.loop.invariant tried
    (record { ok = c.in_ok-convert_one.ensures.ok; fits = c.convert_one.ensures.fits; reads = c.in_ok-convert_one.ensures.reads.ok; quiet = c.in_ok-convert_one.ensures.cause.stayed })

pub returns-in_err-convert_one-clause-err : goal.returns-in_err-convert_one-clause-err
returns-in_err-convert_one-clause-err g c = failed c.from_residual.result (broken_of c.args.store.now c.loop.invariant.same c.in_err-convert_one.ensures.err)

pub returns-in_err-convert_one-clause-reads : goal.returns-in_err-convert_one-clause-reads
returns-in_err-convert_one-clause-reads g c =
    let tried : Tries g.D.Storage c.loop.store c.loop.disk c.unwrap-id.result c.convert_one.new.disk = record {
      next = subst (λ (last : Option ℕ). IsNextLive last c.loop.store.ids (Some c.unwrap-id.result)) c.loop.invariant.at
          (subst (λ (r : Option ℕ). IsNextLive c.loop.after c.loop.store.ids r) c.unwrap-id.ensures c.next_live.ensures);
      stands = c.convert_one.ensures.stands;
      outcomes = c.convert_one.ensures.outcomes;
      frame = c.convert_one.ensures.frame;
      rest = c.convert_one.ensures.rest;
      inside = c.convert_one.ensures.inside;
      size = c.convert_one.ensures.size;
    } in
    reads_failed (map (read_of_id c.args.store.now) (take c.args.count (waiting c.args.store.now)))
    (err_from_is_err_and c.from_residual.result c.from_residual.ensures.1).1
    (reads_stopped c.args.store.now (waiting c.args.store.now) c.loop.counter c.args.count c.loop.invariant.reads (next_waits c.requires.law c.loop.invariant tried) (omega arith)
    (subst (λ (k : Known). ReadsFirst g.D.Storage (read_of_id k c.unwrap-id.result ∷ []) c.loop.disk c.convert_one.new.disk) c.loop.invariant.same c.in_err-convert_one.ensures.reads.err))

pub returns-clause-none : goal.returns-clause-none
returns-clause-none g c = λ zeroth. let all : c.loop.counter ≡ c.args.count = omega arith in c.loop.invariant.none (all ∙ zeroth)

pub returns-clause-ok : goal.returns-clause-ok
returns-clause-ok g c = λ some.
    let all : c.loop.counter ≡ c.args.count = omega arith in
    c.loop.invariant.some (omega (arith, all, some)) ∙ ap (λ (n : ℕ). converted (get_or (waiting c.args.store.now) (n - 1) 0) c.args.store.now) all

pub returns-clause-left : goal.returns-clause-left
returns-clause-left g c =
    let all : c.loop.counter ≡ c.args.count = omega arith in
    c.loop.invariant.left ∙ ap (λ (n : ℕ). drop n (waiting c.args.store.now)) all

pub returns-clause-reads : goal.returns-clause-reads
returns-clause-reads g c =
    let all : c.loop.counter ≡ c.args.count = omega arith in
    record {
      ok = λ told. c.loop.invariant.reads told ∙ ap (λ (n : ℕ). g.D.Storage.reads c.args.disk.now ++ map (read_of_id c.args.store.now) (take n (waiting c.args.store.now))) all;
      err = tt;
    }

pub returns-in_err-convert_one-clause-stands : goal.returns-in_err-convert_one-clause-stands
returns-in_err-convert_one-clause-stands g c = (stays_tried c.requires.law c.loop.invariant (record {
  next = subst (λ (last : Option ℕ). IsNextLive last c.loop.store.ids (Some c.unwrap-id.result)) c.loop.invariant.at
      (subst (λ (r : Option ℕ). IsNextLive c.loop.after c.loop.store.ids r) c.unwrap-id.ensures c.next_live.ensures);
  stands = c.convert_one.ensures.stands;
  outcomes = c.convert_one.ensures.outcomes;
  frame = c.convert_one.ensures.frame;
  rest = c.convert_one.ensures.rest;
  inside = c.convert_one.ensures.inside;
  size = c.convert_one.ensures.size;
})).stands

pub returns-in_err-convert_one-clause-outcomes : goal.returns-in_err-convert_one-clause-outcomes
returns-in_err-convert_one-clause-outcomes g c = (stays_tried c.requires.law c.loop.invariant (record {
  next = subst (λ (last : Option ℕ). IsNextLive last c.loop.store.ids (Some c.unwrap-id.result)) c.loop.invariant.at
      (subst (λ (r : Option ℕ). IsNextLive c.loop.after c.loop.store.ids r) c.unwrap-id.ensures c.next_live.ensures);
  stands = c.convert_one.ensures.stands;
  outcomes = c.convert_one.ensures.outcomes;
  frame = c.convert_one.ensures.frame;
  rest = c.convert_one.ensures.rest;
  inside = c.convert_one.ensures.inside;
  size = c.convert_one.ensures.size;
})).outcomes

pub returns-in_err-convert_one-clause-frame : goal.returns-in_err-convert_one-clause-frame
returns-in_err-convert_one-clause-frame g c = (stays_tried c.requires.law c.loop.invariant (record {
  next = subst (λ (last : Option ℕ). IsNextLive last c.loop.store.ids (Some c.unwrap-id.result)) c.loop.invariant.at
      (subst (λ (r : Option ℕ). IsNextLive c.loop.after c.loop.store.ids r) c.unwrap-id.ensures c.next_live.ensures);
  stands = c.convert_one.ensures.stands;
  outcomes = c.convert_one.ensures.outcomes;
  frame = c.convert_one.ensures.frame;
  rest = c.convert_one.ensures.rest;
  inside = c.convert_one.ensures.inside;
  size = c.convert_one.ensures.size;
})).frame

pub returns-in_err-convert_one-clause-rest : goal.returns-in_err-convert_one-clause-rest
returns-in_err-convert_one-clause-rest g c = (stays_tried c.requires.law c.loop.invariant (record {
  next = subst (λ (last : Option ℕ). IsNextLive last c.loop.store.ids (Some c.unwrap-id.result)) c.loop.invariant.at
      (subst (λ (r : Option ℕ). IsNextLive c.loop.after c.loop.store.ids r) c.unwrap-id.ensures c.next_live.ensures);
  stands = c.convert_one.ensures.stands;
  outcomes = c.convert_one.ensures.outcomes;
  frame = c.convert_one.ensures.frame;
  rest = c.convert_one.ensures.rest;
  inside = c.convert_one.ensures.inside;
  size = c.convert_one.ensures.size;
})).rest

pub returns-in_err-convert_one-clause-size : goal.returns-in_err-convert_one-clause-size
returns-in_err-convert_one-clause-size g c = (stays_tried c.requires.law c.loop.invariant (record {
  next = subst (λ (last : Option ℕ). IsNextLive last c.loop.store.ids (Some c.unwrap-id.result)) c.loop.invariant.at
      (subst (λ (r : Option ℕ). IsNextLive c.loop.after c.loop.store.ids r) c.unwrap-id.ensures c.next_live.ensures);
  stands = c.convert_one.ensures.stands;
  outcomes = c.convert_one.ensures.outcomes;
  frame = c.convert_one.ensures.frame;
  rest = c.convert_one.ensures.rest;
  inside = c.convert_one.ensures.inside;
  size = c.convert_one.ensures.size;
})).size
