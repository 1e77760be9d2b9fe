use Rattle.std.proofs.Common.{◌≡◌, ◌∙◌, ℕ, List, inr, map, min, refl, string_bytes, subst, sym}
use Rattle.va_csv.specs.Lines.{lines_of}
use Rattle.va_disk.proofs.Frames.{reads_nothing}
use Rattle.va_model.specs.Ends.{at_newlines, once_taken}
use Rattle.va_serve.specs.Whole.{RanInput}
use Rattle.va_serve.specs.WorkRun.{RanWork}
use Rattle.va_words.specs.declared.form.Mode.{Mode}
use Rattle.va_words.specs.declared.form.Mode.TheVariants as modes
use Rattle.va_serve.proofs.ExportRuns.{unexported}
use Rattle.va_serve.proofs.Modes.{one_mode, some_mode}
use Rattle.va_serve.proofs.StoreRuns.{unstarted}
use Rattle.va_serve.proofs.Whole.{ran_input}
use Rattle.va_serve.proofs.WorkRuns.{export_no_usage, unworked, work_no_usage}
use Rattle.va_serve.proofs.running.run_within.Goals as goal

pub returns-in-Ok-Plain : goal.returns-in-Ok-Plain
returns-in-Ok-Plain g c =
    let words : List (List ℕ) = map string_bytes c.args.words.now in
    let is = c.in-Ok-Plain.ensures in
    record {
      plain = λ asked. record {
        input = ran_input g.D.Storage g.S.Source c.run_store.ensures.ran (λ state image given keeps left. g.met.D.Disk.only_now state image given keeps left);
        sparing = c.run_store.ensures.sparing;
      };
      csv = λ asked. (let both : ◌≡◌ {A = Mode} modes.Plain modes.Csv = sym c.in-Ok-Plain.field-0-is ∙ one_mode words is modes.Csv asked in absurd (cc));
      export = λ asked. (let both : ◌≡◌ {A = Mode} modes.Plain modes.Export = sym c.in-Ok-Plain.field-0-is ∙ one_mode words is modes.Export asked in absurd (cc));
      work = λ n asked. (let both : ◌≡◌ {A = Mode} modes.Plain (modes.Work n) = sym c.in-Ok-Plain.field-0-is ∙ one_mode words is (modes.Work n) asked in absurd (cc));
      usage = λ told. absurd (c.run_store.ensures.ran.worded told);
      misused = λ none. absurd (some_mode words is none);
    }

pub returns-in-Ok-Csv : goal.returns-in-Ok-Csv
returns-in-Ok-Csv g c =
    let words : List (List ℕ) = map string_bytes c.args.words.now in
    let is = c.in-Ok-Csv.ensures in
    record {
      plain = λ asked. (let both : ◌≡◌ {A = Mode} modes.Csv modes.Plain = sym c.in-Ok-Csv.field-0-is ∙ one_mode words is modes.Plain asked in absurd (cc));
      csv = λ asked. record {
        input = subst (λ limit. RanInput g.D.Storage g.S.Source (once_taken lines_of) limit c.args.source.now c.run_csv.new.source c.args.desk.now c.run_csv.new.desk c.run_csv.result) c.min.ensures
            (ran_input g.D.Storage g.S.Source c.run_csv.ensures.ran (λ state image given keeps left. g.met.D.Disk.only_now state image given keeps left));
        unrun = c.run_csv.ensures.unrun;
      };
      export = λ asked. (let both : ◌≡◌ {A = Mode} modes.Csv modes.Export = sym c.in-Ok-Csv.field-0-is ∙ one_mode words is modes.Export asked in absurd (cc));
      work = λ n asked. (let both : ◌≡◌ {A = Mode} modes.Csv (modes.Work n) = sym c.in-Ok-Csv.field-0-is ∙ one_mode words is (modes.Work n) asked in absurd (cc));
      usage = λ told. absurd (c.run_csv.ensures.ran.worded told);
      misused = λ none. absurd (some_mode words is none);
    }

pub returns-in-Ok-Export : goal.returns-in-Ok-Export
returns-in-Ok-Export g c =
    let words : List (List ℕ) = map string_bytes c.args.words.now in
    let is = c.in-Ok-Export.ensures in
    record {
      plain = λ asked. (let both : ◌≡◌ {A = Mode} modes.Export modes.Plain = sym c.in-Ok-Export.field-0-is ∙ one_mode words is modes.Plain asked in absurd (cc));
      csv = λ asked. (let both : ◌≡◌ {A = Mode} modes.Export modes.Csv = sym c.in-Ok-Export.field-0-is ∙ one_mode words is modes.Csv asked in absurd (cc));
      export = λ asked. (refl, c.run_export.ensures);
      work = λ n asked. (let both : ◌≡◌ {A = Mode} modes.Export (modes.Work n) = sym c.in-Ok-Export.field-0-is ∙ one_mode words is (modes.Work n) asked in absurd (cc));
      usage = λ told. absurd (export_no_usage g.D.Storage c.args.desk.now c.run_export.new.desk c.run_export.result c.run_export.ensures.cause told);
      misused = λ none. absurd (some_mode words is none);
    }

pub returns-in-Ok-Work : goal.returns-in-Ok-Work
returns-in-Ok-Work g c =
    let words : List (List ℕ) = map string_bytes c.args.words.now in
    let is = c.in-Ok-Work.ensures in
    record {
      plain = λ asked. (let both : ◌≡◌ {A = Mode} (modes.Work c.in-Ok-Work.n) modes.Plain = sym c.in-Ok-Work.field-0-is ∙ one_mode words is modes.Plain asked in absurd (cc));
      csv = λ asked. (let both : ◌≡◌ {A = Mode} (modes.Work c.in-Ok-Work.n) modes.Csv = sym c.in-Ok-Work.field-0-is ∙ one_mode words is modes.Csv asked in absurd (cc));
      export = λ asked. (let both : ◌≡◌ {A = Mode} (modes.Work c.in-Ok-Work.n) modes.Export = sym c.in-Ok-Work.field-0-is ∙ one_mode words is modes.Export asked in absurd (cc));
      work = λ n asked.
          (let both : ◌≡◌ {A = Mode} (modes.Work c.in-Ok-Work.n) (modes.Work n) = sym c.in-Ok-Work.field-0-is ∙ one_mode words is (modes.Work n) asked in
          let same : c.in-Ok-Work.n ≡ n = cc in
          (refl, subst (λ m. RanWork g.D.Storage m c.args.desk.now c.run_work.new.desk c.run_work.result) same c.run_work.ensures));
      usage = λ told. absurd (work_no_usage g.D.Storage c.args.desk.now c.run_work.new.desk c.run_work.result c.run_work.ensures.cause told);
      misused = λ none. absurd (some_mode words is none);
    }

pub returns-in-Err-Memory : goal.returns-in-Err-Memory
returns-in-Err-Memory g c = record {
  plain = λ asked. record {
    input = ran_input g.D.Storage g.S.Source (unstarted g.D.Storage g.S.Source at_newlines c.args.limit c.args.source.now c.args.desk.now refl) (λ state image given keeps left. g.met.D.Disk.only_now state image given keeps left);
    sparing = λ is. refl;
  };
  csv = λ asked. record {
    input = ran_input g.D.Storage g.S.Source (unstarted g.D.Storage g.S.Source (once_taken lines_of) (min c.args.limit 67108864) c.args.source.now c.args.desk.now refl) (λ state image given keeps left. g.met.D.Disk.only_now state image given keeps left);
    unrun = λ short. reads_nothing;
  };
  export = λ asked. (refl, unexported g.D.Storage c.args.desk.now (λ state image given keeps left. g.met.D.Disk.only_now state image given keeps left));
  work = λ n asked. (refl, unworked g.D.Storage n c.args.desk.now (λ state image given keeps left. g.met.D.Disk.only_now state image given keeps left));
  usage = λ told. absurd (cc);
  misused = λ none. record { usage = inr refl; idle_source = refl; idle_desk = refl };
}
