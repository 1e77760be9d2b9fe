use Rattle.std.proofs.Common.{◌≡◌, map, take}
use Rattle.serde_json.specs.View.{view}
use Rattle.va_cert.proofs.writing.write_list.Given as goal

abbrev pub invariant-loop-member : goal.invariant-loop-member
invariant-loop-member g l = map view l.values.items ≡ map g.T.Written.json_of (take l.member-index l.members)
