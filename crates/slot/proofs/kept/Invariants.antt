use Rattle.std.proofs.Common.{◌≡◌, ◌≤◌, length}
use Rattle.arrayvec.specs.ArrayVec.{array_vec_len}
use Rattle.slot.proofs.Laws.{seats_so_far}
use Rattle.slot.proofs.kept.Given as goal

-- what is left of the jobs so far
abbrev pub invariant-loop-share : goal.invariant-loop-share
invariant-loop-share l = record {
  within : array_vec_len l.kept ≤ length l.yielded;
  so_far : l.kept.items ≡ seats_so_far (length l.yielded) l.shares.items l.seats;
}
