use Rattle.std.proofs.Common.{drop, ◌≡◌, ◌<◌, ◌^◌}
use Rattle.promise.specs.Texts.{value_from}
use Rattle.jobfile.proofs.value_of.Given as goal

-- the value of the digits so far, and the rest still to be read after it
abbrev pub invariant-loop-digit : goal.invariant-loop-digit
invariant-loop-digit l = record {
  small : l.value < 10 ^ l.digit-index;
  so_far : value_from 0 l.text ≡ value_from l.value (drop l.digit-index l.text);
}
