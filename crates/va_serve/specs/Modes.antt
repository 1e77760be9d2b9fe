-- What a run owes behind words, by the mode that they ask for.
use Rattle.std.specs.Prelude.{◌≡◌, ◌⊎◌, ℕ, List, None, Some}
use Rattle.va_disk.specs.declared.storage.Storage.{Ghosts}
use Rattle.va_disk.specs.declared.source.Source.{Ghosts as Source}
use Rattle.va_serve.specs.ExportRun.{RanExport}
use Rattle.va_serve.specs.Whole.{RanCsv, RanPlain}
use Rattle.va_serve.specs.WorkRun.{RanWork}
use Rattle.va_serve.specs.declared.status.Status.{Status}
use Rattle.va_serve.specs.declared.status.Status.TheVariants as statuses
use Rattle.va_words.specs.Words.{mode_of}
use Rattle.va_words.specs.declared.form.Mode.TheVariants as modes

module _ {D S : Type 0} (g : Ghosts D) (s : Source S) where
  -- nothing was done: the usage is told, or memory was wanting to read the words
  pub record Misused (source source' : S) (desk desk' : D) (status : Status) : Type 0 where
    pub usage : (status ≡ statuses.Usage) ⊎ (status ≡ statuses.Memory)
    pub idle_source : source' ≡ source
    pub idle_desk : desk' ≡ desk

  -- What a run with a limit owes, on a source and a desk, behind these words.
  pub record Ran (limit : ℕ) (words : List (List ℕ)) (source source' : S) (desk desk' : D) (status : Status) : Type 0 where
    pub plain : mode_of words ≡ Some modes.Plain → RanPlain g s limit source source' desk desk' status
    pub csv : mode_of words ≡ Some modes.Csv → RanCsv g s limit source source' desk desk' status
    pub export : mode_of words ≡ Some modes.Export → (source' ≡ source) × RanExport g desk desk' status
    pub work : (n : ℕ) → mode_of words ≡ Some (modes.Work n) → (source' ≡ source) × RanWork g n desk desk' status
    -- words that ask for no mode are wrong usage, and no others
    pub usage : status ≡ statuses.Usage → mode_of words ≡ None
    pub misused : mode_of words ≡ None → Misused source source' desk desk' status
