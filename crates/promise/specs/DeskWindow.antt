-- The desk at the host window: its record as bytes, and the whole outcome of each call, for every run of bytes.
-- A 12 and a 6 for a length are our extension of 01's table.
use Rattle.std.specs.Prelude.{ℕ, zero, suc, ◌+◌, ◌*◌, ◌≡◌, not, cond, ltb, eqb, length, drop}
use mathlib.Core.List.{List, [], ◌∷◌, ◌++◌, map, flatten}
use Rattle.model.specs.Jobs.{Job}
use Rattle.promise.specs.declared.Answer.{Answer}
use Rattle.promise.specs.declared.Held.{Held}
use Rattle.promise.specs.declared.Desk.{Desk}
use Rattle.promise.specs.Records.{Looked}
use Rattle.promise.specs.declared.Given.{Given}
use Rattle.promise.specs.Answers.{refusal, fault, first}
use Rattle.promise.specs.DeskCalls.{sound_fault, open_of, admit_of, withdraw_of, look_of, run_of}
use Rattle.promise.specs.History.{Call, admit, withdraw, look, run}
use Rattle.promise.specs.Window.{word_at, sent, pack}

-- a record as numbers: machines, clock, then for each seat "its number, admitted work, remaining work, deadline .., bound,
-- and the slots it had at admission"
abbrev pub seat_numbers : Held → List ℕ
seat_numbers h = h.number ∷ h.work ∷ h.left ∷ h.deadline ∷ h.bound ∷ h.slots ∷ []

unfoldable pub desk_numbers : Desk → List ℕ
desk_numbers desk = desk.machines ∷ desk.clock ∷ flatten (map seat_numbers desk.seats)

-- as bytes: four a number, lowest first
unfoldable pub desk_bytes : Desk → List ℕ
desk_bytes desk = sent (desk_numbers desk)

-- any bytes are read as a record, sound or not: seat i is the six numbers from 6 × i + 2 on
unfoldable pub seat_at : List ℕ → ℕ → Held
seat_at bytes i = record {
  number = word_at bytes (6 * i + 2);
  work = word_at bytes (6 * i + 3);
  left = word_at bytes (6 * i + 4);
  deadline = word_at bytes (6 * i + 5);
  bound = word_at bytes (6 * i + 6);
  slots = word_at bytes (6 * i + 7);
}

abbrev pub seats_from : List ℕ → ℕ → ℕ → List Held
seats_from bytes i zero = []
seats_from bytes i (suc n) = seat_at bytes i ∷ seats_from bytes (suc i) n

unfoldable pub desk_read : List ℕ → Desk
desk_read bytes = record { machines = word_at bytes 0; clock = word_at bytes 1; seats = seats_from bytes 0 32 }

-- a record of any other length is a 12
unfoldable pub record_fault : List ℕ → Answer
record_fault bytes = fault (not (eqb (length bytes) 776)) (refusal 12 0 0)

-- what Look and Run test before their own rows: 12, then 6 for an output buffer of so many bytes, fewer than are written
unfoldable pub output_fault : List ℕ → ℕ → ℕ → Answer
output_fault bytes lent written = first (first (record_fault bytes) (sound_fault (desk_read bytes))) (fault (ltb lent written) (refusal 6 0 0))

-- on a yes the record is the desk that the call returns, in a refusal the bytes as lent
abbrev pub record_left : Answer → Desk → List ℕ → List ℕ
record_left a desk bytes = cond (eqb a.number 0) (desk_bytes desk) bytes

-- numbers in place of the first bytes of a buffer, the others as lent
abbrev pub sent_over : List ℕ → List ℕ → List ℕ
sent_over numbers lent = sent numbers ++ drop (4 * length numbers) lent

-- an output buffer after a call: these numbers over it on a yes, as lent in a refusal
abbrev pub output_left : Answer → List ℕ → List ℕ → List ℕ
output_left a numbers lent = cond (eqb a.number 0) (sent_over numbers lent) lent

-- Open: 1, then 6 for a buffer that is not one record long
unfoldable pub open_bytes_answer : ℕ → List ℕ → Answer
open_bytes_answer machines bytes = first (open_of machines).answer (fault (not (eqb (length bytes) 776)) (refusal 6 0 0))

unfoldable pub record_opened : ℕ → List ℕ → List ℕ
record_opened machines bytes = record_left (open_bytes_answer machines bytes) (open_of machines).desk bytes

pub record OpenBytesPromise (machines : ℕ) (bytes : List ℕ) (word : ℕ) (after : List ℕ) : Type 0 where
  pub answered : word ≡ pack (open_bytes_answer machines bytes)
  pub left : after ≡ record_opened machines bytes

-- Admit
unfoldable pub admit_bytes_answer : List ℕ → Job → Answer
admit_bytes_answer bytes j = first (record_fault bytes) (admit_of (desk_read bytes) j).answer

unfoldable pub record_admitted : List ℕ → Job → List ℕ
record_admitted bytes j = record_left (admit_bytes_answer bytes j) (admit_of (desk_read bytes) j).desk bytes

pub record AdmitBytesPromise (bytes : List ℕ) (j : Job) (word : ℕ) (after : List ℕ) : Type 0 where
  pub answered : word ≡ pack (admit_bytes_answer bytes j)
  pub left : after ≡ record_admitted bytes j

-- Withdraw: a refusal packed, or the remaining work in the upper half
unfoldable pub withdraw_bytes_answer : List ℕ → ℕ → Answer
withdraw_bytes_answer bytes n = first (record_fault bytes) (withdraw_of (desk_read bytes) n).answer

unfoldable pub withdraw_packed : List ℕ → ℕ → ℕ
withdraw_packed bytes n =
    cond (eqb (withdraw_bytes_answer bytes n).number 0)
    (4294967296 * (withdraw_of (desk_read bytes) n).left)
    (pack (withdraw_bytes_answer bytes n))

unfoldable pub record_withdrawn : List ℕ → ℕ → List ℕ
record_withdrawn bytes n = record_left (withdraw_bytes_answer bytes n) (withdraw_of (desk_read bytes) n).desk bytes

pub record WithdrawBytesPromise (bytes : List ℕ) (n word : ℕ) (after : List ℕ) : Type 0 where
  pub answered : word ≡ withdraw_packed bytes n
  pub left : after ≡ record_withdrawn bytes n

-- Look: 12, 6, 10; "remaining work, deadline, bound and leeway", 16 bytes
abbrev pub look_numbers : Looked → List ℕ
look_numbers told = told.left ∷ told.deadline ∷ told.bound ∷ told.leeway ∷ []

unfoldable pub look_bytes_answer : List ℕ → ℕ → List ℕ → Answer
look_bytes_answer bytes n figures = first (output_fault bytes (length figures) 16) (look_of (desk_read bytes) n).answer

unfoldable pub figures_told : List ℕ → ℕ → List ℕ → List ℕ
figures_told bytes n figures = output_left (look_bytes_answer bytes n figures) (look_numbers (look_of (desk_read bytes) n)) figures

pub record LookBytesPromise (bytes : List ℕ) (n : ℕ) (figures : List ℕ) (word : ℕ) (bytesAfter after : List ℕ) : Type 0 where
  pub answered : word ≡ pack (look_bytes_answer bytes n figures)
  pub left : bytesAfter ≡ bytes
  pub told : after ≡ figures_told bytes n figures

-- Run: 12, 6, 11; "32 pairs of job number and machines", 256 bytes
abbrev pub pair_numbers : Given → List ℕ
pair_numbers g = g.number ∷ g.machines ∷ []

unfoldable pub run_bytes_answer : List ℕ → List ℕ → Answer
run_bytes_answer bytes given = first (output_fault bytes (length given) 256) (run_of (desk_read bytes)).answer

unfoldable pub record_run : List ℕ → List ℕ → List ℕ
record_run bytes given = record_left (run_bytes_answer bytes given) (run_of (desk_read bytes)).desk bytes

unfoldable pub pairs_told : List ℕ → List ℕ → List ℕ
pairs_told bytes given = output_left (run_bytes_answer bytes given) (flatten (map pair_numbers (run_of (desk_read bytes)).given)) given

pub record RunBytesPromise (bytes given : List ℕ) (word : ℕ) (bytesAfter after : List ℕ) : Type 0 where
  pub answered : word ≡ pack (run_bytes_answer bytes given)
  pub left : bytesAfter ≡ record_run bytes given
  pub told : after ≡ pairs_told bytes given

-- a history at the window: each call gets the record that the last one left; `lent k` is the buffer for the pairs of call k,
-- counted from 0, if that is a Run
abbrev pub record_after : (ℕ → List ℕ) → List ℕ → List Call → List ℕ
record_after lent bytes [] = bytes
record_after lent bytes (admit j ∷ calls) = record_after (λ k. lent (suc k)) (record_admitted bytes j) calls
record_after lent bytes (withdraw n ∷ calls) = record_after (λ k. lent (suc k)) (record_withdrawn bytes n) calls
record_after lent bytes (look n ∷ calls) = record_after (λ k. lent (suc k)) bytes calls
record_after lent bytes (run ∷ calls) = record_after (λ k. lent (suc k)) (record_run bytes (lent 0)) calls
