use Rattle.std.proofs.Common.{◌≡◌, ◌<◌, ◌++◌, [], ◌∷◌, List, ℕ, Option, Some, length, map, refl, sym, ◌∙◌, subst, arith}
use Rattle.std.proofs.lemmas.List.{append-nil, take_all}
use Rattle.va_requant.specs.Refitting.{all_live}
use Rattle.va_requant.proofs.Advancing.{next_there, reads_stopped}
use Rattle.va_requant.proofs.Tallying.{tallied_next, vector_waits}
use Rattle.va_store.specs.Ids.{IsNextLive}
use Rattle.va_store.specs.Known.{Keeps, Known, place_of_id}
use Rattle.va_store.specs.Refits.{ReadsFirst}
use Rattle.va_store.proofs.Finding.{live_if}
use Rattle.va_requant.proofs.beginning.tally_live.Goals as goal
use Rattle.va_store.specs.ShelfReads.{read_of_id}

pub unwrap-id-requires : goal.unwrap-id-requires
unwrap-id-requires g c =
    let so_far = c.loop.invariant in
    let less : c.loop.counter < length (all_live c.args.store.now) = omega (arith, c.requires.live) in
    next_there c.loop.after c.args.store.now.ids c.next_live.result c.loop.counter (all_live c.args.store.now)
    (subst (λ (k : Known). IsNextLive c.loop.after k.ids c.next_live.result) so_far.same c.next_live.ensures) so_far.left less

pub read_live-requires-clause-live : goal.read_live-requires-clause-live
read_live-requires-clause-live g c =
    let next : IsNextLive c.loop.after c.loop.store.ids (Some c.unwrap-id.result) =
    subst (λ (r : Option ℕ). IsNextLive c.loop.after c.loop.store.ids r) c.unwrap-id.ensures c.next_live.ensures in
    live_if c.unwrap-id.result next.0.0 c.loop.store.ids next.0.1

pub returns-in_default-read_live-clause-reads : goal.returns-in_default-read_live-clause-reads
returns-in_default-read_live-clause-reads g c =
    let so_far = c.loop.invariant in
    let id = c.unwrap-id.result in
    let next : IsNextLive c.loop.after c.args.store.now.ids (Some id) =
    subst (λ (k : Known). IsNextLive c.loop.after k.ids (Some id)) so_far.same (subst (λ (r : Option ℕ). IsNextLive c.loop.after c.loop.store.ids r) c.unwrap-id.ensures c.next_live.ensures) in
    let none : ReadsFirst g.D.Storage (read_of_id c.args.store.now id ∷ []) c.loop.disk c.read_live.new.disk =
    record { made = []; left = read_of_id c.args.store.now id ∷ []; split = refl; is = λ told. c.in_default-read_live.ensures.reads.err ∙ sym (append-nil (g.D.Storage.reads c.loop.disk)) } in
    record {
      ok = tt;
      err = subst (λ (l : List ℕ). ReadsFirst g.D.Storage (map (read_of_id c.args.store.now) l) c.args.disk.now c.read_live.new.disk) (take_all c.args.live (all_live c.args.store.now) (omega (arith, c.requires.live)))
          (reads_stopped c.args.store.now (all_live c.args.store.now) c.loop.counter c.args.live so_far.reads (vector_waits c.requires.law so_far next) (omega arith) none);
    }

pub loop-preserved : goal.loop-preserved
loop-preserved g c =
    let so_far = c.loop.invariant in
    let id = c.unwrap-id.result in
    let next : IsNextLive c.loop.after c.args.store.now.ids (Some id) =
    subst (λ (k : Known). IsNextLive c.loop.after k.ids (Some id)) so_far.same (subst (λ (r : Option ℕ). IsNextLive c.loop.after c.loop.store.ids r) c.unwrap-id.ensures c.next_live.ensures) in
    let keeps : Keeps g.D.Storage c.args.store.now c.loop.disk (place_of_id id c.args.store.now.ids) (record { id = id; vector = c.read_live.new.vector }) =
    subst (λ (k : Known). Keeps g.D.Storage k c.loop.disk (place_of_id id k.ids) (record { id = id; vector = c.read_live.new.vector })) so_far.same c.in-Ok-read_live.ensures.vector in
    tallied_next c.requires.law so_far next c.read_live.ensures.fits c.read_live.ensures.store keeps (c.read_live.ensures.length ∙ so_far.long)
    (subst (λ (k : Known). g.D.Storage.told → g.D.Storage.reads c.read_live.new.disk ≡ g.D.Storage.reads c.loop.disk ++ read_of_id k id ∷ []) so_far.same c.in-Ok-read_live.ensures.reads.ok)
    c.read_live.ensures.frame c.in-Ok-read_live.ensures.cause.stayed c.add.ensures.shape c.add.ensures.added c.add.ensures.tallied
