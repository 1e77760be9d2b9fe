use Rattle.std.proofs.Common.{◌≡◌, ◌++◌, [], ◌∷◌, List, length, is_ok, ap, ◌∙◌, arith}
use Rattle.va_core.specs.Approximations.{NamesDiffer}
use Rattle.va_ports.specs.TrayCells.{HaveDims, cells_of}
use Rattle.va_ports.specs.Shelves.{PlacesAscend, id_of}
use Rattle.va_ports.specs.declared.tray_cell.TrayCell.{TrayCell}
use Rattle.va_ports.proofs.Places.{places_more, ids_more}
use Rattle.va_ports.proofs.TrayCells.{pushed, dims_more, cells_more, vector_new, vector_others}
use Rattle.va_ports.proofs.tray.Tray.put.Goals as goal

pub invariant_of-self : goal.invariant_of-self
invariant_of-self c =
    let t = c.args.self.now in
    let cell : TrayCell = record { place = c.args.place; id = c.args.id; vector = c.in_ok-vector.vector } in
    let more : List TrayCell = t.cells.items ++ cell ∷ [] in
    let long : length c.in_ok-vector.vector ≡ t.shape.dims = ap length c.in_ok-vector.ensures ∙ c.requires.dims in
    record {
      is_shape = t.is_shape;
      has_shape = t.has_shape;
      valid = t.valid;
      places = pushed (λ (l : List TrayCell). PlacesAscend 0 t.shape.capacity (cells_of l)) (is_ok c.push.result) t.cells.items more c.push.new.self.items c.push.ensures.items t.places
          (rw (cells_more t.cells.items cell) (places_more 0 t.shape.capacity c.args.place c.args.id (cells_of t.cells.items) (omega arith) t.places c.requires.above c.requires.place));
      ids = pushed (λ (l : List TrayCell). NamesDiffer id_of (cells_of l)) (is_ok c.push.result) t.cells.items more c.push.new.self.items c.push.ensures.items t.ids
          (rw (cells_more t.cells.items cell) (ids_more c.args.place c.args.id (cells_of t.cells.items) t.ids c.requires.new));
      dims = pushed (λ (l : List TrayCell). HaveDims t.shape.dims l) (is_ok c.push.result) t.cells.items more c.push.new.self.items c.push.ensures.items t.dims
          (dims_more t.shape.dims t.cells.items cell t.dims long);
    }

pub returns-clause-vector : goal.returns-clause-vector
returns-clause-vector c =
    let t = c.args.self.now in
    let cell : TrayCell = record { place = c.args.place; id = c.args.id; vector = c.in_ok-vector.vector } in
    rw c.in-Ok.ensures.items (vector_new t.shape.dims t.cells.items cell c.requires.above ∙ c.in_ok-vector.ensures)

pub returns-clause-others : goal.returns-clause-others
returns-clause-others c other ne =
    let t = c.args.self.now in
    let cell : TrayCell = record { place = c.args.place; id = c.args.id; vector = c.in_ok-vector.vector } in
    rw c.in-Ok.ensures.items (vector_others t.shape.dims t.cells.items cell other ne)
