-- The desk at the window, from the outcomes of its parts.
use Prim.Native.Nat.{ℕ, ◌*◌, ◌≤◌, ◌<◌}
use mathlib.Core.Path.{◌≡◌, refl, sym, ◌∙◌, ap}
use mathlib.Core.Logic.{◌≢◌}
use mathlib.Core.List.{List, [], map, flatten}
use lib.ListN.{length}
use borrow.Author.Tests.{eq-eqb, ne_eqb, lt-ltb, le-ltb}
use Rattle.std.specs.declared.result.Result.{Result}
use Rattle.std.specs.declared.result.Result.TheVariants.{Ok, Err}
use Rattle.model.specs.Jobs.{Job}
use Rattle.promise.specs.declared.Refusal.{Refusal}
use Rattle.promise.specs.declared.Refusal.TheVariants.{ShortBuffer, NotSound}
use Rattle.promise.specs.declared.Outcome.{Outcome}
use Rattle.promise.specs.declared.Desk.{Desk}
use Rattle.promise.specs.declared.Figures.{Figures}
use Rattle.promise.specs.declared.Given.{Given}
use Rattle.promise.specs.Records.{Desked, Withdrawn, Looked, Ran}
use Rattle.promise.specs.Answers.{yes, refusal}
use Rattle.promise.specs.DeskCalls.{sound_fault, open_of, admit_of, withdraw_of, look_of, run_of}
use Rattle.promise.specs.Window.{pack, Packs}
use Rattle.promise.specs.DeskWindow.{desk_bytes, desk_read, sent_over, record_fault, output_fault, open_bytes_answer, record_opened, OpenBytesPromise, admit_bytes_answer, record_admitted, AdmitBytesPromise, withdraw_bytes_answer, withdraw_packed, record_withdrawn, WithdrawBytesPromise, look_numbers, look_bytes_answer, figures_told, LookBytesPromise, pair_numbers, run_bytes_answer, record_run, pairs_told, RunBytesPromise}
use Rattle.promise.specs.DeskWindowClaims.{LeftAsLent, DeskAnswersPack}
use Rattle.promise.specs.Refusals.{numbered, as_answer, as_desked, as_withdrawn, no_figures, as_looked, no_pairs, as_ran}
use Rattle.std.specs.Result.{result_unwrap_or}
use Rattle.promise.proofs.DeskWindowing.{no_job}
use Rattle.promise.proofs.Theorems.{desk_window_refusal_leaves_the_bytes, desk_window_packs}
use Rattle.record.specs.Figures.{figure_numbers}
use Rattle.promise.proofs.Exits.{refused}
use Rattle.window.proofs.Refused.{refuses}

-- what a refusal leaves, and that every answer packs
module _ (machines : ℕ) (bytes : List ℕ) (j : Job) (n : ℕ) (lent : List ℕ) where
  stays : LeftAsLent machines bytes j n lent
  stays = (desk_window_refusal_leaves_the_bytes machines bytes j n lent).0

  packs : DeskAnswersPack machines bytes j n lent
  packs = desk_window_packs machines bytes j n lent

-- bytes that are a record
record_there : (bytes : List ℕ) → length bytes ≡ 776 → yes ≡ record_fault bytes
unfolding record_fault
record_there bytes l = rw (eq-eqb (length bytes) 776 l) refl

-- the refusal of bytes that are none
record_missing : (bytes : List ℕ) → length bytes ≢ 776 → (e : Refusal) → e ≡ NotSound → numbered e ≡ record_fault bytes
unfolding record_fault
record_missing bytes h e s = rw (ne_eqb (length bytes) 776 h) (ap numbered s)

-- Admit
module _ (bytes : List ℕ) (j : Job) where
  admit_refused : (e : Refusal) → numbered e ≡ admit_bytes_answer bytes j → Packs (numbered e) × AdmitBytesPromise bytes j (pack (numbered e)) bytes
  admit_refused e h =
      (rw h (packs 1 bytes j 0 []).admit, record { answered = ap pack h; left = sym ((stays 1 bytes j 0 []).admit (refuses e _ h)) })

  pub admit_no_record : length bytes ≢ 776 → (e : Refusal) → e ≡ NotSound → Packs (numbered e) × AdmitBytesPromise bytes j (pack (numbered e)) bytes
  unfolding admit_bytes_answer
  admit_no_record h e s = admit_refused e (refused e _ _ (record_missing bytes h e s))

  -- on a desk that was read
  module _ (long : length bytes ≡ 776) (desk : Desk) (d : desk ≡ desk_read bytes) (told : Outcome Unit) (p : as_desked told ≡ admit_of desk j) where
    admit_told : as_answer told.answer ≡ admit_bytes_answer bytes j
    unfolding admit_bytes_answer
    admit_told = rw (sym (record_there bytes long)) (ap (λ (r : Desked). r.answer) (p ∙ ap (λ (x : Desk). admit_of x j) d))

    pub admit_no : (e : Refusal) → told.answer ≡ Err e → Packs (numbered e) × AdmitBytesPromise bytes j (pack (numbered e)) bytes
    admit_no e w = admit_refused e (ap (as_answer {A = Unit}) (sym w) ∙ admit_told)

    pub admit_yes : told.answer ≡ Ok tt → (after : List ℕ) → after ≡ desk_bytes told.desk → AdmitBytesPromise bytes j 0 after
    unfolding record_admitted pack
    admit_yes w after a =
        let clear : yes ≡ admit_bytes_answer bytes j = ap (as_answer {A = Unit}) (sym w) ∙ admit_told in
        record {
          answered = ap pack clear;
          left = rw (sym clear) (a ∙ ap (λ (r : Desked). desk_bytes r.desk) (p ∙ ap (λ (x : Desk). admit_of x j) d));
        }

-- Withdraw
module _ (bytes : List ℕ) (n : ℕ) where
  withdraw_refused : (e : Refusal) → numbered e ≡ withdraw_bytes_answer bytes n → Packs (numbered e) × WithdrawBytesPromise bytes n (pack (numbered e)) bytes
  withdraw_refused e h =
      let all = packs 1 bytes no_job n [] in
      let not-zero = refuses e _ h in
      (rw h all.withdraw, record { answered = ap pack h ∙ sym (all.refused not-zero); left = sym ((stays 1 bytes no_job n []).withdraw not-zero) })

  pub withdraw_no_record : length bytes ≢ 776 → (e : Refusal) → e ≡ NotSound → Packs (numbered e) × WithdrawBytesPromise bytes n (pack (numbered e)) bytes
  unfolding withdraw_bytes_answer
  withdraw_no_record h e s = withdraw_refused e (refused e _ _ (record_missing bytes h e s))

  -- on a desk that was read
  module _ (long : length bytes ≡ 776) (desk : Desk) (d : desk ≡ desk_read bytes) (told : Outcome ℕ) (p : as_withdrawn told ≡ withdraw_of desk n) where
    withdrawn : as_withdrawn told ≡ withdraw_of (desk_read bytes) n
    withdrawn = p ∙ ap (λ (x : Desk). withdraw_of x n) d

    withdraw_told : as_answer told.answer ≡ withdraw_bytes_answer bytes n
    unfolding withdraw_bytes_answer
    withdraw_told = rw (sym (record_there bytes long)) (ap (λ (r : Withdrawn). r.answer) withdrawn)

    pub withdraw_no : (e : Refusal) → told.answer ≡ Err e → Packs (numbered e) × WithdrawBytesPromise bytes n (pack (numbered e)) bytes
    withdraw_no e w = withdraw_refused e (ap (as_answer {A = ℕ}) (sym w) ∙ withdraw_told)

    pub withdraw_yes : (left : ℕ) → told.answer ≡ Ok left → (after : List ℕ) → after ≡ desk_bytes told.desk
        → WithdrawBytesPromise bytes n (4294967296 * left) after
    unfolding record_withdrawn withdraw_packed
    withdraw_yes left w after a =
        let clear : yes ≡ withdraw_bytes_answer bytes n = ap (as_answer {A = ℕ}) (sym w) ∙ withdraw_told in
        record {
          answered = rw (sym clear) (ap (λ (r : Result ℕ Refusal). 4294967296 * result_unwrap_or r 0) (sym w) ∙ ap (λ (r : Withdrawn). 4294967296 * r.left) withdrawn);
          left = rw (sym clear) (a ∙ ap (λ (r : Withdrawn). desk_bytes r.desk) withdrawn);
        }

-- Open
module _ (machines : ℕ) (bytes : List ℕ) where
  open_refused : (e : Refusal) → numbered e ≡ open_bytes_answer machines bytes → Packs (numbered e) × OpenBytesPromise machines bytes (pack (numbered e)) bytes
  open_refused e h =
      (rw h (packs machines bytes no_job 0 []).open', record { answered = ap pack h; left = sym ((stays machines bytes no_job 0 []).open' (refuses e _ h)) })

  module _ (told : Outcome Unit) (p : as_desked told ≡ open_of machines) where
    opened : as_answer told.answer ≡ (open_of machines).answer
    opened = ap (λ (r : Desked). r.answer) p

    pub open_no : (e : Refusal) → told.answer ≡ Err e → Packs (numbered e) × OpenBytesPromise machines bytes (pack (numbered e)) bytes
    unfolding open_bytes_answer
    open_no e w = open_refused e (refused e _ _ (ap (as_answer {A = Unit}) (sym w) ∙ opened))

    module _ (w : told.answer ≡ Ok tt) where
      counted : yes ≡ (open_of machines).answer
      counted = ap (as_answer {A = Unit}) (sym w) ∙ opened

      pub open_no_record : length bytes ≢ 776 → (e : Refusal) → e ≡ ShortBuffer → Packs (numbered e) × OpenBytesPromise machines bytes (pack (numbered e)) bytes
      unfolding open_bytes_answer
      open_no_record h e s = open_refused e (rw (sym counted, ne_eqb (length bytes) 776 h) (ap numbered s))

      pub open_yes : length bytes ≡ 776 → (after : List ℕ) → after ≡ desk_bytes told.desk → OpenBytesPromise machines bytes 0 after
      unfolding open_bytes_answer record_opened pack
      open_yes l after a =
          let clear : yes ≡ open_bytes_answer machines bytes = rw (sym counted, eq-eqb (length bytes) 776 l) refl in
          record { answered = ap pack clear; left = rw (sym clear) (a ∙ ap (λ (r : Desked). desk_bytes r.desk) p) }

-- the tests of Look and Run before their own rows
module _ (bytes : List ℕ) (lent written : ℕ) where
  output_no_record : length bytes ≢ 776 → (e : Refusal) → e ≡ NotSound → numbered e ≡ output_fault bytes lent written
  unfolding output_fault
  output_no_record h e s = refused e _ _ (refused e _ _ (record_missing bytes h e s))

  module _ (long : length bytes ≡ 776) where
    pub output_unsound : (e : Refusal) → numbered e ≡ sound_fault (desk_read bytes) → numbered e ≡ output_fault bytes lent written
    unfolding output_fault
    output_unsound e h = rw (sym (record_there bytes long)) (refused e _ _ h)

    module _ (sound : yes ≡ sound_fault (desk_read bytes)) where
      pub output_short : lent < written → refusal 6 0 0 ≡ output_fault bytes lent written
      unfolding output_fault
      output_short k = rw (sym (record_there bytes long), sym sound, lt-ltb lent written k) refl

      pub output_clear : written ≤ lent → yes ≡ output_fault bytes lent written
      unfolding output_fault
      output_clear k = rw (sym (record_there bytes long), sym sound, le-ltb lent written k) refl

-- Look
module _ (bytes : List ℕ) (n : ℕ) (lent : List ℕ) where
  look_refused : (e : Refusal) → numbered e ≡ look_bytes_answer bytes n lent → Packs (numbered e) × LookBytesPromise bytes n lent (pack (numbered e)) bytes lent
  look_refused e h =
      (rw h (packs 1 bytes no_job n lent).look, record { answered = ap pack h; left = refl; told = sym ((stays 1 bytes no_job n lent).look (refuses e _ h)) })

  pub look_early : (e : Refusal) → numbered e ≡ output_fault bytes (length lent) 16
      → Packs (numbered e) × LookBytesPromise bytes n lent (pack (numbered e)) bytes lent
  unfolding look_bytes_answer
  look_early e h = look_refused e (refused e _ _ h)

  pub look_no_record : length bytes ≢ 776 → (e : Refusal) → e ≡ NotSound → Packs (numbered e) × LookBytesPromise bytes n lent (pack (numbered e)) bytes lent
  look_no_record h e s = look_early e (output_no_record bytes (length lent) 16 h e s)

  -- on a desk that was read
  module _ (read : yes ≡ output_fault bytes (length lent) 16) (desk : Desk) (d : desk ≡ desk_read bytes) (told : Outcome Figures) (p : as_looked told ≡ look_of desk n) where
    looked : as_looked told ≡ look_of (desk_read bytes) n
    looked = p ∙ ap (λ (x : Desk). look_of x n) d

    look_told : as_answer told.answer ≡ look_bytes_answer bytes n lent
    unfolding look_bytes_answer
    look_told = rw (sym read) (ap (λ (r : Looked). r.answer) looked)

    pub look_no : (e : Refusal) → told.answer ≡ Err e → Packs (numbered e) × LookBytesPromise bytes n lent (pack (numbered e)) bytes lent
    look_no e w = look_refused e (ap (as_answer {A = Figures}) (sym w) ∙ look_told)

    pub look_yes : (figures : Figures) → told.answer ≡ Ok figures → (after : List ℕ) → after ≡ sent_over (figure_numbers figures) lent
        → LookBytesPromise bytes n lent 0 bytes after
    unfolding figures_told pack
    look_yes figures w after a =
        let clear : yes ≡ look_bytes_answer bytes n lent = ap (as_answer {A = Figures}) (sym w) ∙ look_told in
        let same : figure_numbers figures ≡ look_numbers (look_of (desk_read bytes) n) =
        ap (λ (r : Result Figures Refusal). figure_numbers (result_unwrap_or r no_figures)) (sym w) ∙ ap look_numbers looked in
        record { answered = ap pack clear; left = refl; told = rw (sym clear) (a ∙ ap (λ (ns : List ℕ). sent_over ns lent) same) }

-- Run
module _ (bytes lent : List ℕ) where
  run_refused : (e : Refusal) → numbered e ≡ run_bytes_answer bytes lent → Packs (numbered e) × RunBytesPromise bytes lent (pack (numbered e)) bytes lent
  run_refused e h =
      let left = (stays 1 bytes no_job 0 lent).run (refuses e _ h) in
      (rw h (packs 1 bytes no_job 0 lent).run, record { answered = ap pack h; left = sym left.0; told = sym left.1 })

  pub run_early : (e : Refusal) → numbered e ≡ output_fault bytes (length lent) 256
      → Packs (numbered e) × RunBytesPromise bytes lent (pack (numbered e)) bytes lent
  unfolding run_bytes_answer
  run_early e h = run_refused e (refused e _ _ h)

  pub run_no_record : length bytes ≢ 776 → (e : Refusal) → e ≡ NotSound → Packs (numbered e) × RunBytesPromise bytes lent (pack (numbered e)) bytes lent
  run_no_record h e s = run_early e (output_no_record bytes (length lent) 256 h e s)

  -- on a desk that was read
  module _ (read : yes ≡ output_fault bytes (length lent) 256) (desk : Desk) (d : desk ≡ desk_read bytes) (told : Outcome (List Given)) (p : as_ran told ≡ run_of desk) where
    ran : as_ran told ≡ run_of (desk_read bytes)
    ran = p ∙ ap run_of d

    run_told : as_answer told.answer ≡ run_bytes_answer bytes lent
    unfolding run_bytes_answer
    run_told = rw (sym read) (ap (λ (r : Ran). r.answer) ran)

    pub run_no : (e : Refusal) → told.answer ≡ Err e → Packs (numbered e) × RunBytesPromise bytes lent (pack (numbered e)) bytes lent
    run_no e w = run_refused e (ap (as_answer {A = List Given}) (sym w) ∙ run_told)

    pub run_yes : (pairs : List Given) → told.answer ≡ Ok pairs → (after given : List ℕ) → after ≡ desk_bytes told.desk
        → given ≡ sent_over (flatten (map pair_numbers pairs)) lent → RunBytesPromise bytes lent 0 after given
    unfolding record_run pairs_told pack
    run_yes pairs w after given a g =
        let clear : yes ≡ run_bytes_answer bytes lent = ap (as_answer {A = List Given}) (sym w) ∙ run_told in
        let same : pairs ≡ (run_of (desk_read bytes)).given = ap (λ (r : Result (List Given) Refusal). result_unwrap_or r no_pairs) (sym w) ∙ ap (λ (r : Ran). r.given) ran in
        record {
          answered = ap pack clear;
          left = rw (sym clear) (a ∙ ap (λ (r : Ran). desk_bytes r.desk) ran);
          told = rw (sym clear) (g ∙ ap (λ (gs : List Given). sent_over (flatten (map pair_numbers gs)) lent) same);
        }
