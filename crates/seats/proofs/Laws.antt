-- Laws of the desk's table: the search for a number, a job put in, a job taken out.
use Rattle.std.proofs.Common.{◌≡◌, Bool, true, false, not, ◌||◌, Some, None, unwrap_or, replicate, eqb, ltb, cond, add-one, ℕ, suc, ◌+◌, ◌-◌, ◌<◌, ◌≤◌, List, [], ◌∷◌, ◌++◌, length, get_or, take, drop, set, refl, sym, ◌∙◌, ap, ap₂, arith}
use Rattle.std.specs.List.{insert, remove, position, position_from, position_or_len}
use Rattle.std.proofs.lemmas.List.Recursion.{is_position_or_len}
use Rattle.std.proofs.lemmas.List.Sums.{prefix_len-le-length}
use Rattle.std.proofs.lemmas.List.Edits.{insert_end, insert-append_left, remove-append_left, length-remove}
use Rattle.std.proofs.lemmas.Bool.Decides.{nat_tests}
use Rattle.std.proofs.lemmas.List.{take_more_set, drop-set-lt, set_split, drop_more, drop_all, take-replicate, replicate_more, append-nil, append_assoc}
use Rattle.std.proofs.Math.Seq.{take-append-add}
use Rattle.promise.specs.Desk.{unused, table, held_of, desk_of}
use Rattle.promise.specs.DeskCalls.{is_held, seat_of, seated, without}
use Rattle.promise.proofs.DeskSeats.{length_seated, held_first, held_few}
use Rattle.promise.specs.declared.Desk.{Desk}
use Rattle.promise.specs.declared.Held.{Held}
use Rattle.seats.specs.Seats.{find_in, rank_in}

-- ---- the loops: a job put in, a job taken out

-- the job carried is put down at its seat, and the job of that seat is carried on
pub passed_on : {X : Type 0} (l : List X) (i : ℕ) (h d : X) → i < length l → insert (set l i h) (i + 1) (get_or l i d) ≡ insert l i h
passed_on {X} l i h d k =
    ap₂ (λ (s t : List X). s ++ get_or l i d ∷ t) (take_more_set l i h k) (drop-set-lt (i + 1) l i h (omega arith))
    ∙ append_assoc (take i l) (h ∷ []) (get_or l i d ∷ drop (i + 1) l)
    ∙ ap (λ (t : List X). take i l ++ h ∷ t) (sym (drop_more l i d k))

-- past the last seat the job carried falls off
pub fallen_off : {X : Type 0} (l : List X) (i : ℕ) (h : X) → i ≡ length l → take i (insert l i h) ≡ l
fallen_off {X} l i h e =
    ap (λ j. take j (insert l j h)) e
    ∙ ap₂ (λ (j : ℕ) (t : List X). take j t) (omega arith) (insert_end l h)
    ∙ take-append-add l (h ∷ []) 0
    ∙ append-nil l

-- the seat to be taken out is given the job of the next, and that is to be taken out
pub moved_up : {X : Type 0} (l : List X) (i : ℕ) (d : X) → i + 1 < length l → remove (set l i (get_or l (i + 1) d)) (i + 1) ≡ remove l i
moved_up {X} l i d k =
    let next = get_or l (i + 1) d in
    ap₂ (λ (s t : List X). s ++ t) (take_more_set l i next (omega arith)) (drop-set-lt (suc (i + 1)) l i next (omega arith))
    ∙ append_assoc (take i l) (next ∷ []) (drop (suc (i + 1)) l)
    ∙ ap (λ (t : List X). take i l ++ t) (ap (λ j. next ∷ drop j l) (sym (add-one (i + 1))) ∙ sym (drop_more l (i + 1) d k) ∙ ap (λ j. drop j l) (add-one i))

-- a last seat that is to be taken out is freed
pub last_freed : {X : Type 0} (l : List X) (i : ℕ) (free : X) → i + 1 ≡ length l → set l i free ≡ remove l i ++ free ∷ []
last_freed {X} l i free e =
    let none : drop (suc i) l ≡ [] = drop_all (suc i) l (omega arith) in
    set_split l i free (omega arith)
    ∙ ap (λ (t : List X). take i l ++ free ∷ t) none
    ∙ ap (λ (t : List X). t ++ free ∷ []) (sym (append-nil (take i l)) ∙ ap (λ (t : List X). take i l ++ t) (sym none))

-- ---- the searches, in std's words

pub find_from : (n i : ℕ) (held : List Held) → position_from (λ h. eqb h.number n) i held ≡ find_in n i held
find_from n i [] = refl
find_from n i (h ∷ hs) = rw (add-one i, find_from n (suc i) hs) refl

pub rank_found : (n r : ℕ) (held : List Held) → r ≡ unwrap_or (position (λ h. ltb n h.number) held) (length held) → r ≡ rank_in n held
rank_found n r held e =
    let passes = λ (h : Held). ltb n h.number in
    let same = is_position_or_len (rank_in n) (λ h. ltb n h.number) refl (λ h hs. ap (cond (ltb n h.number) 0) (omega arith)) held in
    e ∙ or_all (position_or_len passes held) (length held) (prefix_len-le-length (λ h. not (passes h)) held) ∙ sym same
  where
    or_all : (p n : ℕ) → p ≤ n → unwrap_or (cond (ltb p n) (Some p) None) n ≡ p
    or_all p n h = grind (arith, nat_tests)

-- ---- the table of held jobs

rank_within : (n : ℕ) (held : List Held) → rank_in n held ≤ length held
rank_within n [] = omega arith
rank_within n (g ∷ gs) = go (ltb n g.number) (rank_within n gs)
  where
    go : (t : Bool) → rank_in n gs ≤ length gs → cond t 0 (suc (rank_in n gs)) ≤ suc (length gs)
    go true l = omega arith
    go false l = omega arith

-- a new job at its rank stands by rising number
put_seated : (h : Held) (held : List Held) → insert held (rank_in h.number held) h ≡ seated h held
put_seated h [] = refl
put_seated h (g ∷ gs) = go (ltb h.number g.number) (put_seated h gs)
  where
    go : (t : Bool) → insert gs (rank_in h.number gs) h ≡ seated h gs
        → insert (g ∷ gs) (cond t 0 (suc (rank_in h.number gs))) h ≡ cond t (h ∷ g ∷ gs) (g ∷ seated h gs)
    go true e = refl
    go false e = ap (λ (x : List Held). g ∷ x) e

put_table : (h : Held) (held : List Held) → length held < 32
    → take 32 (insert (table held) (rank_in h.number held) h) ≡ table (seated h held)
unfolding table
put_table h held l =
    let k = 31 - length held in
    let f : 32 ≡ length (seated h held) + (31 - length held) = omega (arith, length_seated h held) in
    let g : 31 - length held ≡ 32 - length (seated h held) = omega (arith, length_seated h held) in
    ap (take 32) (insert-append_left held (replicate (32 - length held) unused) (rank_in h.number held) h (rank_within h.number held))
    ∙ ap₂ (λ (m : ℕ) (x : List Held). take m (x ++ replicate (32 - length held) unused)) f (put_seated h held)
    ∙ take-append-add (seated h held) (replicate (32 - length held) unused) k
    ∙ ap (λ (x : List Held). seated h held ++ x) (take-replicate k (32 - length held) unused (omega arith) ∙ ap (λ (m : ℕ). replicate m unused) g)

-- what the search says of the held jobs; the first of them stands at index j
abbrev Where : ℕ → ℕ → ℕ → List Held → Type 0
Where n j at held =
    (k : ℕ) × (at ≡ k + j) × (k < length held) × (is_held n held ≡ true) × ((d : Held) → get_or held k d ≡ seat_of n held) × (remove held k ≡ without n held)

found_where : (n j at : ℕ) (held : List Held) → find_in n j held ≡ Some at → Where n j at held
found_where n j at [] e = cc
found_where n j at (h ∷ hs) e = go (eqb h.number n) (λ q. found_where n (suc j) at hs q) e
  where
    go : (t : Bool) → (find_in n (suc j) hs ≡ Some at → Where n (suc j) at hs) → cond t (Some j) (find_in n (suc j) hs) ≡ Some at
        → (k : ℕ) × (at ≡ k + j) × (k < suc (length hs)) × ((t || is_held n hs) ≡ true) × ((d : Held) → get_or (h ∷ hs) k d ≡ cond t h (seat_of n hs))
        × (remove (h ∷ hs) k ≡ cond t hs (h ∷ without n hs))
    go true i e = let q : j ≡ at = cc in (0, omega arith, omega arith, refl, (λ d. refl), refl)
    go false i e = let w = i e in (suc w.0, omega (arith, w.1), omega (arith, w.2), w.3, w.4, ap (λ (x : List Held). h ∷ x) w.5)

not_found : (n j : ℕ) (held : List Held) → find_in n j held ≡ None → is_held n held ≡ false
not_found n j [] e = refl
not_found n j (h ∷ hs) e = go (eqb h.number n) (λ q. not_found n (suc j) hs q) e
  where
    go : (t : Bool) → (find_in n (suc j) hs ≡ None → is_held n hs ≡ false) → cond t (Some j) (find_in n (suc j) hs) ≡ None → (t || is_held n hs) ≡ false
    go true i e = cc
    go false i e = i e

pub find_held : (n : ℕ) (held : List Held)
    → (find_in n 0 held ≡ None → is_held n held ≡ false)
    × ((at : ℕ) → find_in n 0 held ≡ Some at → (is_held n held ≡ true) × (at < length held) × ((d : Held) → get_or held at d ≡ seat_of n held))
find_held n held = (
  not_found n 0 held,
  λ at e.
      let w = found_where n 0 at held e in
      let q : at ≡ w.0 = omega (arith, w.1) in
      (w.3, omega (arith, w.2), λ d. ap (λ (k : ℕ). get_or held k d) q ∙ w.4 d),
)

out_table : (n at : ℕ) (held : List Held) → length held ≤ 32 → find_in n 0 held ≡ Some at → remove (table held) at ++ unused ∷ [] ≡ table (without n held)
unfolding table
out_table n at held l e =
    let w = found_where n 0 at held e in
    let q : at ≡ w.0 = omega (arith, w.1) in
    let k : at < length held = omega (arith, w.2) in
    let zs = replicate (32 - length held) unused in
    let r = ap (remove held) q ∙ w.5 in
    let g : 32 - length held + 1 ≡ 32 - length (without n held) = omega (arith, length-remove held at k, ap length r) in
    ap (λ (x : List Held). x ++ unused ∷ []) (remove-append_left held zs at k ∙ ap (λ (x : List Held). x ++ zs) r)
    ∙ append_assoc (without n held) zs (unused ∷ [])
    ∙ ap (λ (x : List Held). without n held ++ x) (replicate_more (32 - length held) unused ∙ ap (λ (m : ℕ). replicate m unused) g)

-- a desk with other seats
other_seats : (desk : Desk) (seats held : List Held) → seats ≡ table held → record desk { seats = seats } ≡ desk_of desk.machines desk.clock held
unfolding desk_of
other_seats desk seats held e = ap (λ (l : List Held). record desk { seats = l }) e

module _ (desk : Desk) (len : length desk.seats ≡ 32) (zeros : desk.seats ≡ table (held_of desk)) where
  -- a new job put in at its rank
  module _ (n at : ℕ) (h : Held) (count : n ≡ length (held_of desk)) (free : n < 32) (ranked : at ≡ rank_in h.number (take n desk.seats)) where
    among : at ≡ rank_in h.number (held_of desk)
    among = ranked ∙ ap (rank_in h.number) (held_first desk n count)

    pub ranked_within : at < length desk.seats
    ranked_within = omega (arith, among, rank_within h.number (held_of desk))

    pub seated_in : (seats : List Held) → seats ≡ take (length desk.seats) (insert desk.seats at h)
        → record desk { seats = seats } ≡ desk_of desk.machines desk.clock (seated h (held_of desk))
    seated_in seats e =
        other_seats desk seats (seated h (held_of desk))
        (e ∙ ap (λ (m : ℕ). take m (insert desk.seats at h)) len ∙ ap₂ (λ (l : List Held) (i : ℕ). take 32 (insert l i h)) zeros among ∙ put_table h (held_of desk) (omega arith))

  -- the job of a number taken out
  module _ (n at : ℕ) (e : find_in n 0 (held_of desk) ≡ Some at) where
    pub found_within : at < length desk.seats
    found_within = omega (arith, ((find_held n (held_of desk)).1 at e).1, held_few desk len)

    pub taken_out : (seats : List Held) → seats ≡ remove desk.seats at ++ unused ∷ []
        → record desk { seats = seats } ≡ desk_of desk.machines desk.clock (without n (held_of desk))
    taken_out seats f =
        other_seats desk seats (without n (held_of desk))
        (f ∙ ap (λ (l : List Held). remove l at ++ unused ∷ []) zeros ∙ out_table n at (held_of desk) (held_few desk len) e)
