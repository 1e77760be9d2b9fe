use Rattle.std.proofs.Common.{◌≡◌, map, drop}
use Rattle.serde_json.specs.View.{view}
use Rattle.va_cert.specs.Reads.{all_of}
use Rattle.va_cert.proofs.Listed.{behind}
use Rattle.va_cert.proofs.reading.read_list.Given as goal

abbrev pub invariant-loop-member : goal.invariant-loop-member
invariant-loop-member g l = behind l.list.items (all_of g.T.Part.part_in (map view (drop l.member-index l.members))) ≡ all_of g.T.Part.part_in (map view l.members)
