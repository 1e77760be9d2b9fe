use Rattle.std.proofs.Common.{◌≡◌, ◌≤◌, ◌<◌, ◌++◌, List, ℕ, length, map, sym, ◌∙◌, ap, subst}
use Rattle.std.proofs.lemmas.List.{take_all}
use Rattle.va_layout.specs.Stands.{Kept, Stands}
use Rattle.va_requant.specs.Refitting.{kept_after, waiting}
use Rattle.va_requant.proofs.Ending.{frame_changed, frame_same, kept_all, kept_more, waiting_count}
use Rattle.va_store.specs.Refits.{refitted}
use Rattle.va_requant.proofs.converting.convert.Goals as goal
use Rattle.va_store.specs.ShelfReads.{read_of_id}

pub returns-then-n-waiting-clause-stands : goal.returns-then-n-waiting-clause-stands
returns-then-n-waiting-clause-stands g c =
    let store = c.args.store.now in
    let count : c.live_above-waiting.result ≡ length (waiting store) =
    waiting_count store c.building.ensures.last c.unwrap-last.ensures c.live_above-waiting.ensures.count in
    let less : c.args.n < length (waiting store) = subst (λ (m : ℕ). c.args.n < m) count c.if-n-waiting.true in
    λ told kept is stood. subst (λ (k : Kept). Stands k (g.D.Storage.image c.convert_next.new.disk)) (sym (kept_more c.args.n store less kept)) (c.convert_next.ensures.stands told kept is stood)

pub returns-clause-stands : goal.returns-clause-stands
returns-clause-stands g c =
    let store = c.args.store.now in
    let count : c.live_above-waiting.result ≡ length (waiting store) =
    waiting_count store c.building.ensures.last c.unwrap-last.ensures c.live_above-waiting.ensures.count in
    let all : length (waiting store) ≤ c.args.n = subst (λ (m : ℕ). m ≤ c.args.n) count c.if-n-waiting.false in
    λ told kept is stood. subst (λ (k : Kept). Stands k (g.D.Storage.image c.convert_rest.new.disk)) (sym (kept_all c.args.n store all kept)) (c.in_ok-convert_rest.ensures.stands told kept is stood)

pub returns-clause-reads : goal.returns-clause-reads
returns-clause-reads g c =
    let store = c.args.store.now in
    let count : c.live_above-waiting.result ≡ length (waiting store) =
    waiting_count store c.building.ensures.last c.unwrap-last.ensures c.live_above-waiting.ensures.count in
    let all : length (waiting store) ≤ c.args.n = subst (λ (m : ℕ). m ≤ c.args.n) count c.if-n-waiting.false in
    record {
      ok = λ told. c.in_ok-convert_rest.ensures.reads.ok told ∙ ap (λ (l : List ℕ). g.D.Storage.reads c.args.disk.now ++ map (read_of_id store) l) (sym (take_all c.args.n (waiting store) all));
      err = tt;
    }

pub returns-then-n-waiting-clause-frame : goal.returns-then-n-waiting-clause-frame
returns-then-n-waiting-clause-frame g c = frame_same (kept_after c.args.n c.args.store.now) c.convert_next.ensures.frame

pub returns-in_err-convert_next-clause-frame : goal.returns-in_err-convert_next-clause-frame
returns-in_err-convert_next-clause-frame g c = frame_same (kept_after c.args.n c.args.store.now) c.convert_next.ensures.frame

pub returns-clause-frame : goal.returns-clause-frame
returns-clause-frame g c =
    let store = c.args.store.now in
    let count : c.live_above-waiting.result ≡ length (waiting store) =
    waiting_count store c.building.ensures.last c.unwrap-last.ensures c.live_above-waiting.ensures.count in
    let all : length (waiting store) ≤ c.args.n = subst (λ (m : ℕ). m ≤ c.args.n) count c.if-n-waiting.false in
    frame_changed (refitted store) (kept_after c.args.n store) (kept_all c.args.n store all) c.convert_rest.ensures.frame

pub returns-in_err-convert_rest-clause-frame : goal.returns-in_err-convert_rest-clause-frame
returns-in_err-convert_rest-clause-frame g c =
    let store = c.args.store.now in
    let count : c.live_above-waiting.result ≡ length (waiting store) =
    waiting_count store c.building.ensures.last c.unwrap-last.ensures c.live_above-waiting.ensures.count in
    let all : length (waiting store) ≤ c.args.n = subst (λ (m : ℕ). m ≤ c.args.n) count c.if-n-waiting.false in
    frame_changed (refitted store) (kept_after c.args.n store) (kept_all c.args.n store all) c.convert_rest.ensures.frame
