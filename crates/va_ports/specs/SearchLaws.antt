-- What holds of the distances of a shelf's cells.
use Rattle.va_core.specs.Distance.{Query}
use Rattle.va_ports.specs.Shelves.{AreOwnCells, Contents, IsSound}
use Rattle.va_ports.specs.Searches.{LieBetween}

-- where each vector lies in its cell, each distance lies between its bounds
abbrev pub OwnCellsLieBetween : Type 0
OwnCellsLieBetween = (contents : Contents) (query : Query) → IsSound contents → AreOwnCells contents → LieBetween contents query contents.cells
