-- What a call can do to a desk and to the ledger, and that each of these keeps the two in step.
use Prim.Native.Nat.{ℕ, zero, suc, ◌+◌, ◌-◌, ◌≤◌, ◌<◌}
use native.Mathlib.Decide.{dec_lt}
use native.Mathlib.Omega.{arith}
use mathlib.Core.Path.{◌≡◌, ◌∙◌, ap, subst}
use mathlib.Core.Logic.{◌≢◌}
use mathlib.Core.List.{List, ◌∷◌, map}
use borrow.Author.Tests.{lt-ltb}
use Rattle.model.specs.Lists.{All, Distinct, Perm, keep, then, upto}
use Rattle.model.specs.Jobs.{Job}
use Rattle.model.specs.Schedules.{Serves, Valid, after_first}
use Rattle.model.proofs.Lists.{All-map, All-both, All-under, perm_all, perm_back}
use Rattle.promise.specs.declared.Desk.{Desk}
use Rattle.promise.specs.declared.Given.{Given}
use Rattle.promise.specs.Desk.{Sound}
use Rattle.promise.specs.History.{Promised, Ledger, answered_for, credited, off, remaining}
use Rattle.promise.proofs.AnyOrder.{others, others_perm, all_others, first_perm, first_same}
use Rattle.promise.proofs.Standing.{standing}
use Rattle.promise.proofs.Owed.{owed, numbers_of, unfinished_all, all_unfinished, off_all, off_gone, off_distinct, off_others, credited_numbers, credited_first, by_number}

-- a desk and a ledger in step: the desk holds just the jobs that are owed
pub record InStep (room : ℕ) (desk : Desk) (l : Ledger) : Type 0 where
  pub sound : Sound desk
  pub machines : desk.machines ≡ room
  pub clock : desk.clock ≡ l.clock
  pub distinct : Distinct (numbers_of l.in_force)
  pub within : All (λ p. p.had ≤ p.job.work) l.in_force
  pub same : Perm (standing desk) (owed l)

-- no job on the desk has number n
abbrev pub Apart : Desk → ℕ → Type 0
Apart desk n = All (λ j. j.number ≢ n) (standing desk)

-- a job from this slot on, nothing of it done
abbrev pub newly : ℕ → Job → Job
newly clock j = remaining clock (record { job = j; had = 0 })

-- one job added, of a number that is not on the desk
pub record OneAdded (j : Job) (desk desk' : Desk) : Type 0 where
  pub machines : desk'.machines ≡ desk.machines
  pub clock : desk'.clock ≡ desk.clock
  pub work : 1 ≤ j.work
  pub apart : Apart desk j.number
  pub jobs : Perm (standing desk') (newly desk.clock j ∷ standing desk)

-- one number removed
pub record OneRemoved (n : ℕ) (desk desk' : Desk) : Type 0 where
  pub machines : desk'.machines ≡ desk.machines
  pub clock : desk'.clock ≡ desk.clock
  pub jobs : standing desk' ≡ others n (standing desk)

-- slot 1 of some valid schedule done, and just that answered
pub record SlotDone (given : List Given) (desk desk' : Desk) : Type 0 where
  pub machines : desk'.machines ≡ desk.machines
  pub clock : desk'.clock ≡ desk.clock + 1
  pub schedule : ℕ → ℕ → ℕ
  pub valid : Valid desk.machines (standing desk) schedule
  pub answered : All (λ j. answered_for j.number given ≡ schedule j.number 1) (standing desk)
  pub nothing_else : (n : ℕ) → Apart desk n → answered_for n given ≡ 0
  pub jobs : standing desk' ≡ after_first (λ n. schedule n 1) (standing desk)

-- the ledger with an admission, without a number, and with a slot's pairs
abbrev pub admitting : Job → Ledger → Ledger
admitting j l = record { clock = l.clock; in_force = record { job = j; had = 0 } ∷ off j.number l.in_force }

abbrev pub dropping : ℕ → Ledger → Ledger
dropping n l = record { clock = l.clock; in_force = off n l.in_force }

abbrev pub crediting : List Given → Ledger → Ledger
crediting given l = record { clock = l.clock + 1; in_force = map (credited given) l.in_force }

pub data Effect (desk desk' : Desk) (l l' : Ledger) : Type 0 where
  nothing : desk' ≡ desk → l' ≡ l → Effect desk desk' l l'
  one_added : (j : Job) → OneAdded j desk desk' → l' ≡ admitting j l → Effect desk desk' l l'
  one_removed : (n : ℕ) → OneRemoved n desk desk' → l' ≡ dropping n l → Effect desk desk' l l'
  slot_done : (given : List Given) → SlotDone given desk desk' → l' ≡ crediting given l → Effect desk desk' l l'

-- in slot 1 a job has no more than its work
first_within : (y : ℕ → ℕ) (j : Job) → Serves y j → y 1 ≤ j.work
first_within y j s = go j.deadline (s.late 1) s.whole
  where
    first_le : (d : ℕ) → y 1 ≤ upto y (suc d)
    first_le zero = omega arith
    first_le (suc d) = omega (arith, first_le d)

    go : (d : ℕ) → (d < 1 → y 1 ≡ 0) → upto y d ≡ j.work → y 1 ≤ j.work
    go zero n w = omega (arith, n (omega arith))
    go (suc d) n w = omega (arith, first_le d)

module _ {room : ℕ} {desk : Desk} {l : Ledger} (s : InStep room desk l) where
  -- what holds of each job on the desk holds of each admission with work left
  pub carried : (P : Job → Type 0) → All P (standing desk) → All (λ p. p.had < p.job.work → P (remaining l.clock p)) l.in_force
  unfolding owed
  carried P h = unfinished_all P l.clock l.in_force (perm_all P s.same h)

  -- one that has had its work is not on the desk
  pub finished_apart : All (λ p. p.had ≡ p.job.work → Apart desk p.job.number) l.in_force
  unfolding owed remaining
  finished_apart = All-map one l.in_force (by_number (λ (p : Promised). p.job.number) l.in_force s.distinct)
    where
      one : (p : Promised) → All (λ q. q.job.number ≡ p.job.number → q ≡ p) l.in_force → p.had ≡ p.job.work → Apart desk p.job.number
      one p h f =
          let Other : Job → Type 0 = λ j. j.number ≢ p.job.number in
          perm_all Other (perm_back s.same) (all_unfinished Other l.clock l.in_force (All-map other l.in_force h))
        where
          other : (q : Promised) → (q.job.number ≡ p.job.number → q ≡ p) → q.had < q.job.work → q.job.number ≢ p.job.number
          other q h u e = absurd (omega (arith, rw (h e) at u))

  -- a fact of each admission: of those with work left, and of those that have had it
  pub either_way : (P : Promised → Type 0)
      → All (λ p. p.had < p.job.work → P p) l.in_force → All (λ p. p.had ≡ p.job.work → P p) l.in_force → All P l.in_force
  either_way P h k = All-both (λ p (w : p.had ≤ p.job.work) c. c w) l.in_force s.within (All-both one l.in_force h k)
    where
      one : (p : Promised) → (p.had < p.job.work → P p) → (p.had ≡ p.job.work → P p) → p.had ≤ p.job.work → P p
      one p h k w = go (dec_lt p.had p.job.work)
        where
          go : Dec (p.had < p.job.work) → P p
          go (yes u) = h u
          go (no u) = k (omega arith)

  -- a new job before those on the desk and before those owed
  pub new_in_front : (j : Job) → Perm (newly desk.clock j ∷ standing desk) (newly l.clock j ∷ owed l)
  new_in_front j =
      subst (λ (t : ℕ). Perm (newly desk.clock j ∷ standing desk) (newly t j ∷ owed l)) s.clock (keep (newly desk.clock j) s.same)

  module _ {desk' : Desk} (sound' : Sound desk') where
    added_in_step : (j : Job) → OneAdded j desk desk' → InStep room desk' (admitting j l)
    unfolding owed
    added_in_step j a = record {
      sound = sound';
      machines = a.machines ∙ s.machines;
      clock = a.clock ∙ s.clock;
      distinct = (off_gone j.number l.in_force, off_distinct j.number l.in_force s.distinct);
      within = (omega arith, off_all (λ p. p.had ≤ p.job.work) j.number l.in_force s.within);
      same =
          rw (lt-ltb 0 j.work (omega (arith, a.work)), off_others l.clock j.number l.in_force, others_stay)
          (then a.jobs (new_in_front j));
    }
      where
        -- nothing is owed under that number, since it is not on the desk
        others_stay : others j.number (owed l) ≡ owed l
        others_stay = all_others j.number (owed l) (perm_all (λ i. i.number ≢ j.number) s.same a.apart)

    removed_in_step : (n : ℕ) → OneRemoved n desk desk' → InStep room desk' (dropping n l)
    unfolding owed
    removed_in_step n r = record {
      sound = sound';
      machines = r.machines ∙ s.machines;
      clock = r.clock ∙ s.clock;
      distinct = off_distinct n l.in_force s.distinct;
      within = off_all (λ p. p.had ≤ p.job.work) n l.in_force s.within;
      same = rw (r.jobs, off_others l.clock n l.in_force) (others_perm n s.same);
    }

    slot_in_step : (given : List Given) → SlotDone given desk desk' → InStep room desk' (crediting given l)
    unfolding owed credited remaining
    slot_in_step given d = record {
      sound = sound';
      machines = d.machines ∙ s.machines;
      clock = d.clock ∙ ap (λ (t : ℕ). t + 1) s.clock;
      distinct = rw (credited_numbers given l.in_force) s.distinct;
      within = All-under (credited given) (λ p. p.had ≤ p.job.work) l.in_force (either_way Within unfinished finished);
      same =
          rw (d.jobs, credited_first l.clock given l.in_force, ← first_same column first_column (standing desk) d.answered)
          (first_perm column s.same);
    }
      where
        column : ℕ → ℕ
        column n = answered_for n given

        first_column : ℕ → ℕ
        first_column n = d.schedule n 1

        Within : Promised → Type 0
        Within p = p.had + column p.job.number ≤ p.job.work

        -- a valid schedule gives no job more than its work
        enough : All (λ j. column j.number ≤ j.work) (standing desk)
        enough = All-both one (standing desk) d.answered d.valid.serves
          where
            one : (j : Job) → column j.number ≡ first_column j.number → Serves (d.schedule j.number) j → column j.number ≤ j.work
            one j e v = omega (arith, first_within (d.schedule j.number) j v)

        unfinished : All (λ p. p.had < p.job.work → Within p) l.in_force
        unfinished = All-map one l.in_force (carried (λ j. column j.number ≤ j.work) enough)
          where
            one : (p : Promised) → (p.had < p.job.work → column p.job.number ≤ p.job.work - p.had) → p.had < p.job.work → Within p
            one p h u = omega (arith, h u)

        finished : All (λ p. p.had ≡ p.job.work → Within p) l.in_force
        finished = All-map one l.in_force finished_apart
          where
            one : (p : Promised) → (p.had ≡ p.job.work → Apart desk p.job.number) → p.had ≡ p.job.work → Within p
            one p h e = omega (arith, d.nothing_else p.job.number (h e))

    pub effect_in_step : (l' : Ledger) → Effect desk desk' l l' → InStep room desk' l'
    effect_in_step l' (nothing e f) = rw (e, f) s
    effect_in_step l' (one_added j a f) = rw f (added_in_step j a)
    effect_in_step l' (one_removed n r f) = rw f (removed_in_step n r)
    effect_in_step l' (slot_done given d f) = rw f (slot_in_step given d)
