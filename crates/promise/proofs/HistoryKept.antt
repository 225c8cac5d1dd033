-- H, demand 3: the promise is kept over any history.
use Prim.Native.Nat.{ℕ}
use mathlib.Core.Path.{refl}
use mathlib.Core.Logic.{◌≢◌}
use mathlib.Core.List.{List, [], ◌∷◌}
use Rattle.model.specs.Lists.{All, done}
use Rattle.promise.specs.declared.Desk.{Desk}
use Rattle.promise.specs.Desk.{desk_of, Sound}
use Rattle.promise.specs.DeskCalls.{open_of}
use Rattle.promise.specs.History.{Call, admit, withdraw, look, run, event_answer, happens, returned, events_from, desk_from, desk_after, history_of, room_opened, Ledger, entered, ledger_from, ledger_of, ledger_after}
use Rattle.promise.specs.DeskClaims.{DemandThree}
use Rattle.promise.proofs.DeskKept.{soundness_is_kept}
use Rattle.promise.proofs.Standing.{standing_of}
use Rattle.promise.proofs.Owed.{owed}
use Rattle.promise.proofs.Effects.{InStep, effect_in_step}
use Rattle.promise.proofs.CallAnswers.{call_not_twelve}
use Rattle.promise.proofs.ReadOff.{kept_in_time, kept_before_again, kept_bounds, kept_late, kept_room, kept_exact, kept_found, kept_withdrawn, kept_nobody_else, kept_left, kept_told, kept_runs}
use Rattle.promise.proofs.CallEffects.{call_effect}

-- a call on a sound desk returns a sound one
call_sound : (desk : Desk) → Sound desk → (call : Call) → Sound (returned desk call)
call_sound desk s (admit j) = (soundness_is_kept.1 desk s).admit j
call_sound desk s (withdraw n) = (soundness_is_kept.1 desk s).withdraw n
call_sound desk s (look n) = (soundness_is_kept.1 desk s).look n
call_sound desk s run = (soundness_is_kept.1 desk s).run

-- Open, and then any calls, leave the desk and the ledger in step
open_in_step : (machines : ℕ) → InStep (room_opened machines) (open_of machines).desk (record { clock = 0; in_force = [] })
unfolding room_opened open_of desk_of owed
open_in_step machines = record {
  sound = soundness_is_kept.0 machines;
  machines = refl;
  clock = refl;
  distinct = tt;
  within = tt;
  same = rw (standing_of (room_opened machines) 0 [] tt) done;
}

calls_in_step : {room : ℕ} (calls : List Call) (desk : Desk) (l : Ledger) → InStep room desk l
    → InStep room (desk_from desk calls) (ledger_from l (events_from desk calls))
calls_in_step [] desk l s = s
calls_in_step (call ∷ calls) desk l s =
    calls_in_step calls (returned desk call) (entered l (happens desk call))
    (effect_in_step s (call_sound desk s.sound call) (entered l (happens desk call)) (call_effect desk s.sound l call))

history_in_step : (machines : ℕ) (calls : List Call) → InStep (room_opened machines) (desk_after machines calls) (ledger_after machines calls)
unfolding desk_after ledger_after ledger_of history_of
history_in_step machines calls = calls_in_step calls (open_of machines).desk (record { clock = 0; in_force = [] }) (open_in_step machines)

-- (d)
calls_never_twelve : (calls : List Call) (desk : Desk) → Sound desk → All (λ e. (event_answer e).number ≢ 12) (events_from desk calls)
calls_never_twelve [] desk s = tt
calls_never_twelve (call ∷ calls) desk s = (call_not_twelve desk s call, calls_never_twelve calls (returned desk call) (call_sound desk s call))

history_never_twelve : (machines : ℕ) (calls : List Call) → All (λ e. (event_answer e).number ≢ 12) (history_of machines calls)
unfolding history_of
history_never_twelve machines calls = calls_never_twelve calls (open_of machines).desk (soundness_is_kept.0 machines)

pub demand_three : DemandThree
demand_three machines calls =
    let s = history_in_step machines calls in
    record {
      within = s.within;
      in_time = kept_in_time s;
      before_again = kept_before_again s;
      bounds = kept_bounds s;
      late = kept_late s;
      room = kept_room s;
      nobody_else = kept_nobody_else s;
      sound = history_never_twelve machines calls;
      exact = kept_exact s;
      found = kept_found s;
      withdrawn = kept_withdrawn s;
      left = kept_left s;
      told = kept_told s;
      runs = kept_runs s;
      clock = s.clock;
    }
