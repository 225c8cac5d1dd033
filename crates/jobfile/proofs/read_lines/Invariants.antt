use Rattle.std.proofs.Common.{length, ◌+◌, ◌≡◌, ◌≤◌}
use Rattle.promise.specs.JobFile.{file_says, reading_said}
use Rattle.jobfile.proofs.Reading.{reads_on}
use Rattle.jobfile.proofs.read_lines.Given as goal

-- each line takes a byte at least, so neither the line nor the count of numbers passes the number of bytes by more than the first line
abbrev pub invariant-loop-text : goal.invariant-loop-text
invariant-loop-text l = record {
  line_fits : l.line + length l.rest ≤ 4097;
  count_fits : l.kept.count + length l.rest ≤ 4096;
  so_far : reading_said (file_says l.bytes) ≡ reads_on l.kept l.kind l.line l.rest;
}

abbrev pub decreases-loop-text : goal.decreases-loop-text
decreases-loop-text l = length l.rest
