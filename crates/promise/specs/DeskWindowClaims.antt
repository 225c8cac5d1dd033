-- The headline statements about the desk at the host window, each a proposition with a name.
use Rattle.std.specs.Prelude.{ℕ, ◌+◌, ◌*◌, ◌/◌, ◌%◌, ◌≤◌, ◌<◌, ◌≡◌, ◌≢◌, ◌⊎◌, List, length, get_or}
use Rattle.model.specs.Lists.{All}
use Rattle.model.specs.Jobs.{Job}
use Rattle.promise.specs.declared.Desk.{Desk}
use Rattle.promise.specs.declared.Given.{Given}
use Rattle.promise.specs.declared.Held.{Held}
use Rattle.promise.specs.Answers.{yes, refusal}
use Rattle.promise.specs.Desk.{Sound}
use Rattle.promise.specs.DeskCalls.{open_of, admit_of, withdraw_of, look_of, run_of, admit_answer, HeldAs}
use Rattle.promise.specs.History.{Call, desk_after}
use Rattle.promise.specs.DeskClaims.{Has32Seats}
use Rattle.promise.specs.Claims.{four_from}
use Rattle.promise.specs.Window.{pack, Packs}
use Rattle.promise.specs.DeskWindow.{desk_numbers, desk_bytes, desk_read, open_bytes_answer, record_opened, OpenBytesPromise, admit_bytes_answer, record_admitted, AdmitBytesPromise, withdraw_bytes_answer, withdraw_packed, record_withdrawn, WithdrawBytesPromise, look_bytes_answer, figures_told, LookBytesPromise, run_bytes_answer, record_run, pairs_told, RunBytesPromise, record_after}

-- a record of 32-bit numbers is 776 bytes, and is read as it was written
abbrev pub RecordsAreReadBack : Type 0
RecordsAreReadBack =
    (desk : Desk) → Has32Seats desk
    → (desk_read (desk_bytes desk) ≡ desk) × (length (desk_bytes desk) ≡ 776)
    × (All (λ n. n < 4294967296) (desk_numbers desk) → All (λ b. b < 256) (desk_bytes desk))

-- where each number of a record stands: machines, clock, then six for each seat
pub record SeatLaidOut (bytes : List ℕ) (i : ℕ) (h : Held) : Type 0 where
  pub number : four_from bytes (24 * i + 8) ≡ h.number
  pub work : four_from bytes (24 * i + 12) ≡ h.work
  pub left : four_from bytes (24 * i + 16) ≡ h.left
  pub deadline : four_from bytes (24 * i + 20) ≡ h.deadline
  pub bound : four_from bytes (24 * i + 24) ≡ h.bound
  pub slots : four_from bytes (24 * i + 28) ≡ h.slots

abbrev pub RecordsAreLaidOut : Type 0
RecordsAreLaidOut =
    (desk : Desk) → Has32Seats desk
    → (four_from (desk_bytes desk) 0 ≡ desk.machines) × (four_from (desk_bytes desk) 4 ≡ desk.clock)
    × ((i : ℕ) (none : Held) → i < 32 → SeatLaidOut (desk_bytes desk) i (get_or desk.seats i none))

-- any 776 bytes are a record of 32 seats, and are written as they were read
abbrev pub RecordsAreWrittenBack : Type 0
RecordsAreWrittenBack =
    (bytes : List ℕ) → length bytes ≡ 776 → All (λ b. b < 256) bytes → (desk_bytes (desk_read bytes) ≡ bytes) × Has32Seats (desk_read bytes)

-- Open: 1, then 6 for any other length, else yes
pub record OpenedInOrder (machines : ℕ) (bytes : List ℕ) : Type 0 where
  pub one : (machines < 1) ⊎ (64 < machines) → open_bytes_answer machines bytes ≡ refusal 1 0 0
  pub six : 1 ≤ machines → machines ≤ 64 → length bytes ≢ 776 → open_bytes_answer machines bytes ≡ refusal 6 0 0
  pub opens : 1 ≤ machines → machines ≤ 64 → length bytes ≡ 776 → open_bytes_answer machines bytes ≡ yes

-- the four calls on a record: 12 for any other length and for a record that is not sound, before anything else
pub record TwelveFirst (bytes : List ℕ) (j : Job) (n : ℕ) (lent : List ℕ) : Type 0 where
  pub admit : admit_bytes_answer bytes j ≡ refusal 12 0 0
  pub withdraw : withdraw_bytes_answer bytes n ≡ refusal 12 0 0
  pub look : look_bytes_answer bytes n lent ≡ refusal 12 0 0
  pub run : run_bytes_answer bytes lent ≡ refusal 12 0 0

-- then, on a sound record: 6 for a short output buffer, and after it the rows of the call
pub record AnsweredInOrder (bytes : List ℕ) (j : Job) (n : ℕ) (lent : List ℕ) : Type 0 where
  pub admit : admit_bytes_answer bytes j ≡ admit_answer (desk_read bytes) j
  pub withdraw_ten : ¬ HeldAs (desk_read bytes) n → withdraw_bytes_answer bytes n ≡ refusal 10 0 0
  pub withdraw : HeldAs (desk_read bytes) n → withdraw_bytes_answer bytes n ≡ yes
  pub look_six : length lent < 16 → look_bytes_answer bytes n lent ≡ refusal 6 0 0
  pub look_ten : 16 ≤ length lent → ¬ HeldAs (desk_read bytes) n → look_bytes_answer bytes n lent ≡ refusal 10 0 0
  pub look : 16 ≤ length lent → HeldAs (desk_read bytes) n → look_bytes_answer bytes n lent ≡ yes
  pub run_six : length lent < 256 → run_bytes_answer bytes lent ≡ refusal 6 0 0
  pub run_eleven : 256 ≤ length lent → (desk_read bytes).clock ≡ 100000 → run_bytes_answer bytes lent ≡ refusal 11 0 0
  pub run : 256 ≤ length lent → (desk_read bytes).clock ≢ 100000 → run_bytes_answer bytes lent ≡ yes

-- the order at the window, for every input; Admit's own rows are those of desk_answers_by_the_table
abbrev pub DeskWindowAnswersByTheTable : Type 0
DeskWindowAnswersByTheTable =
    (machines : ℕ) (bytes : List ℕ) (j : Job) (n : ℕ) (lent : List ℕ)
    → OpenedInOrder machines bytes
    × ((length bytes ≢ 776) ⊎ (¬ Sound (desk_read bytes)) → TwelveFirst bytes j n lent)
    × (length bytes ≡ 776 → Sound (desk_read bytes) → AnsweredInOrder bytes j n lent)

-- a refusal leaves every lent byte, and no call changes a length
pub record LeftAsLent (machines : ℕ) (bytes : List ℕ) (j : Job) (n : ℕ) (lent : List ℕ) : Type 0 where
  pub open' : (open_bytes_answer machines bytes).number ≢ 0 → record_opened machines bytes ≡ bytes
  pub admit : (admit_bytes_answer bytes j).number ≢ 0 → record_admitted bytes j ≡ bytes
  pub withdraw : (withdraw_bytes_answer bytes n).number ≢ 0 → record_withdrawn bytes n ≡ bytes
  pub look : (look_bytes_answer bytes n lent).number ≢ 0 → figures_told bytes n lent ≡ lent
  pub run : (run_bytes_answer bytes lent).number ≢ 0 → (record_run bytes lent ≡ bytes) × (pairs_told bytes lent ≡ lent)

pub record LengthsStay (machines : ℕ) (bytes : List ℕ) (j : Job) (n : ℕ) (lent : List ℕ) : Type 0 where
  pub open' : length (record_opened machines bytes) ≡ length bytes
  pub admit : length (record_admitted bytes j) ≡ length bytes
  pub withdraw : length (record_withdrawn bytes n) ≡ length bytes
  pub look : length (figures_told bytes n lent) ≡ length lent
  pub run : (length (record_run bytes lent) ≡ length bytes) × (length (pairs_told bytes lent) ≡ length lent)

abbrev pub DeskWindowRefusalLeavesTheBytes : Type 0
DeskWindowRefusalLeavesTheBytes =
    (machines : ℕ) (bytes : List ℕ) (j : Job) (n : ℕ) (lent : List ℕ) → LeftAsLent machines bytes j n lent × LengthsStay machines bytes j n lent

-- the record that a call leaves is read as the desk that it returns, whatever it answers: so the next call has that desk
pub record DeskHandedOn (bytes : List ℕ) : Type 0 where
  pub admit : (j : Job) → desk_read (record_admitted bytes j) ≡ (admit_of (desk_read bytes) j).desk
  pub withdraw : (n : ℕ) → desk_read (record_withdrawn bytes n) ≡ (withdraw_of (desk_read bytes) n).desk
  pub run : (lent : List ℕ) → 256 ≤ length lent → desk_read (record_run bytes lent) ≡ (run_of (desk_read bytes)).desk

abbrev pub DeskWindowHandsTheDeskOn : Type 0
DeskWindowHandsTheDeskOn =
    (bytes : List ℕ) → length bytes ≡ 776
    → ((machines : ℕ) → 1 ≤ machines → machines ≤ 64 → desk_read (record_opened machines bytes) ≡ (open_of machines).desk) × DeskHandedOn bytes

-- so a history through the window is one of the desk: the record after it is the desk of demand 3, and the next call is answered as there
pub record GoesOn (bytes : List ℕ) (desk : Desk) : Type 0 where
  pub held : desk_read bytes ≡ desk
  pub admit : (j : Job) → admit_bytes_answer bytes j ≡ (admit_of desk j).answer
  pub withdraw : (n : ℕ) → withdraw_bytes_answer bytes n ≡ (withdraw_of desk n).answer
  pub look : (n : ℕ) (lent : List ℕ) → 16 ≤ length lent → look_bytes_answer bytes n lent ≡ (look_of desk n).answer
  pub run : (lent : List ℕ) → 256 ≤ length lent → run_bytes_answer bytes lent ≡ (run_of desk).answer

abbrev pub HistoryGoesThroughTheWindow : Type 0
HistoryGoesThroughTheWindow =
    (machines : ℕ) (bytes : List ℕ) (lent : ℕ → List ℕ) (calls : List Call) → 1 ≤ machines → machines ≤ 64 → length bytes ≡ 776
    → ((k : ℕ) → 256 ≤ length (lent k))
    → GoesOn (record_after lent (record_opened machines bytes) calls) (desk_after machines calls)

-- on a yes the figures and the pairs stand in their places, lowest byte first, and what was lent after them
pub record FiguresInPlace (bytes : List ℕ) (n : ℕ) (lent : List ℕ) : Type 0 where
  pub left : four_from (figures_told bytes n lent) 0 ≡ (look_of (desk_read bytes) n).left
  pub deadline : four_from (figures_told bytes n lent) 4 ≡ (look_of (desk_read bytes) n).deadline
  pub bound : four_from (figures_told bytes n lent) 8 ≡ (look_of (desk_read bytes) n).bound
  pub leeway : four_from (figures_told bytes n lent) 12 ≡ (look_of (desk_read bytes) n).leeway
  pub beyond : (k : ℕ) → 16 ≤ k → get_or (figures_told bytes n lent) k 0 ≡ get_or lent k 0

pub record PairsInPlace (bytes lent : List ℕ) : Type 0 where
  pub number : (i : ℕ) (none : Given) → i < 32 → four_from (pairs_told bytes lent) (8 * i) ≡ (get_or (run_of (desk_read bytes)).given i none).number
  pub machines : (i : ℕ) (none : Given) → i < 32 → four_from (pairs_told bytes lent) (8 * i + 4) ≡ (get_or (run_of (desk_read bytes)).given i none).machines
  pub beyond : (k : ℕ) → 256 ≤ k → get_or (pairs_told bytes lent) k 0 ≡ get_or lent k 0

abbrev pub DeskWindowTellsInPlace : Type 0
DeskWindowTellsInPlace =
    (bytes : List ℕ) (n : ℕ) (lent : List ℕ)
    → ((look_bytes_answer bytes n lent).number ≡ 0 → FiguresInPlace bytes n lent) × ((run_bytes_answer bytes lent).number ≡ 0 → PairsInPlace bytes lent)

-- every answer packs without loss, and a yes of Withdraw has 0 in its lower half and the remaining work in its upper one
pub record DeskAnswersPack (machines : ℕ) (bytes : List ℕ) (j : Job) (n : ℕ) (lent : List ℕ) : Type 0 where
  pub open' : Packs (open_bytes_answer machines bytes)
  pub admit : Packs (admit_bytes_answer bytes j)
  pub withdraw : Packs (withdraw_bytes_answer bytes n)
  pub look : Packs (look_bytes_answer bytes n lent)
  pub run : Packs (run_bytes_answer bytes lent)
  pub withdrawn : (withdraw_bytes_answer bytes n).number ≡ 0
      → (withdraw_packed bytes n < 18446744073709551616) × (withdraw_packed bytes n % 4294967296 ≡ 0)
      × (withdraw_packed bytes n / 4294967296 ≡ (withdraw_of (desk_read bytes) n).left)
  pub refused : (withdraw_bytes_answer bytes n).number ≢ 0 → withdraw_packed bytes n ≡ pack (withdraw_bytes_answer bytes n)

abbrev pub DeskWindowPacks : Type 0
DeskWindowPacks = (machines : ℕ) (bytes : List ℕ) (j : Job) (n : ℕ) (lent : List ℕ) → DeskAnswersPack machines bytes j n lent

-- uniqueness: one word and one content of every lent buffer meet a promise
pub record OneAtTheWindow (bytes lent : List ℕ) (word word' : ℕ) (b b' a a' : List ℕ) : Type 0 where
  pub open' : (machines : ℕ) → OpenBytesPromise machines bytes word b → OpenBytesPromise machines bytes word' b' → (word ≡ word') × (b ≡ b')
  pub admit : (j : Job) → AdmitBytesPromise bytes j word b → AdmitBytesPromise bytes j word' b' → (word ≡ word') × (b ≡ b')
  pub withdraw : (n : ℕ) → WithdrawBytesPromise bytes n word b → WithdrawBytesPromise bytes n word' b' → (word ≡ word') × (b ≡ b')
  pub look : (n : ℕ) → LookBytesPromise bytes n lent word b a → LookBytesPromise bytes n lent word' b' a' → (word ≡ word') × (b ≡ b') × (a ≡ a')
  pub run : RunBytesPromise bytes lent word b a → RunBytesPromise bytes lent word' b' a' → (word ≡ word') × (b ≡ b') × (a ≡ a')

abbrev pub DeskWindowPromisesLeaveOne : Type 0
DeskWindowPromisesLeaveOne =
    (bytes lent : List ℕ) (word word' : ℕ) (b b' a a' : List ℕ) → OneAtTheWindow bytes lent word word' b b' a a'
