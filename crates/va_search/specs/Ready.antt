-- What each call needs of a store and its disk.
use Rattle.std.specs.Prelude.{◌≡◌, None, false}
use Rattle.va_disk.specs.declared.storage.Storage.{Ghosts}
use Rattle.va_store.specs.Known.{Fits, Known}

-- The disk fits the store, no writing call has failed, and no scan has met a code that names no cell.
pub record IsReady {D : Type 0} (g : Ghosts D) (known : Known) (disk : D) : Type 0 where
  pub fits : Fits g known disk
  pub whole : known.broken ≡ false
  pub unchanged : known.changed ≡ None
