-- The run length as a quotient rounded up, without the model's sum, which could wrap.
use Rattle.std.proofs.Common.{◌≡◌, ◌+◌, ◌-◌, ◌/◌, ◌%◌, ◌<◌, ℕ, min, sym, arith}
use Rattle.std.proofs.Math.Nat.{div-zero, div-eq_of_lt-le}
use Rattle.std.proofs.lemmas.Grind.{div_ceil_times}
use Rattle.model.specs.Jobs.{run_length}

module _ (work bound : ℕ) where
  pub run_unbound : bound ≡ 0 → 0 ≡ run_length work bound
  unfolding run_length
  run_unbound e = rw e (sym (div-zero (work + (0 - 1))))

  pub run_some : 0 < bound → work / bound + min 1 (work % bound) ≡ run_length work bound
  unfolding run_length
  run_some h =
      let e = div_ceil_times work bound h in
      sym (div-eq_of_lt-le bound (omega arith) (omega arith))
