use Rattle.std.proofs.Common.{◌≤◌, ◌-◌, vec_len, vec_capacity}
use Rattle.va_lang.proofs.lists.new_vectors.Given as goal

abbrev pub invariant-loop-alloc : goal.invariant-loop-alloc
invariant-loop-alloc l = record { most : vec_len l.vectors ≤ 16; room : 16 ≤ vec_capacity l.vectors }

abbrev pub decreases-loop-alloc : goal.decreases-loop-alloc
decreases-loop-alloc l = 16 - vec_len l.vectors
