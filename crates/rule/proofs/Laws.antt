-- The choice among shares and a machine for the chosen one, against the model's rule.
use Rattle.std.proofs.Common.{◌≡◌, ◌≢◌, ◌+◌, ◌-◌, ◌<◌, ◌&&◌, ◌||◌, ℕ, zero, suc, Bool, true, false, cond, List, [], ◌∷◌, ◌++◌, map, length, get_or, take, drop, set, refl, sym, ap, ◌∙◌, ltb, eqb, eq-eqb, arith}
use Rattle.std.specs.declared.option.Option.{Option}
use Rattle.std.specs.declared.option.Option.TheVariants.{None, Some}
use Rattle.std.specs.List.{HoldsAt}
use Rattle.std.proofs.Math.Option.{some, none}
use Rattle.std.proofs.Math.Option as Math
use Rattle.std.proofs.lemmas.Bool.Decides.{nat_tests}
use Rattle.std.proofs.lemmas.List.Edits.{map_over_more}
use borrow.Author.Tests.{ne_eqb}
use Rattle.std.proofs.lemmas.List.{map_more, get_or_default, length-take-le, get_or-take}
use Rattle.model.specs.Lists.{All}
use Rattle.model.specs.Rule as Model
use Rattle.model.specs.Rule.{run_left, qualifies, before, choose, next, bump, give, give_to, hand_out, clear, fill}
use Rattle.model.proofs.Choice.{choice}
use Rattle.model.proofs.Shares.{numbers_of, numbers_give, numbers_clear}
use Rattle.rule.specs.declared.Share.{Share}
use Rattle.rule.specs.Shares.{as_share, as_shares, Apart, bumped, cleared, Ready, IsNext, Picked}

-- "goes before" on run lengths and numbers
abbrev first : ℕ → ℕ → ℕ → ℕ → Bool
first a m b n = ltb b a || (eqb b a && ltb m n)

first_trans : (a m b n c o : ℕ) → first a m b n ≡ true → first b n c o ≡ true → first a m c o ≡ true
first_trans a m b n c o e f = grind (arith, nat_tests)

first_none : (a m b n c o : ℕ) → first a m b n ≡ false → first b n c o ≡ false → first a m c o ≡ false
first_none a m b n c o e f = grind (arith, nat_tests)

first_back : (a m b n : ℕ) → first a m b n ≡ true → first b n a m ≡ false
first_back a m b n e = grind (arith, nat_tests)

first_other : (a m b n : ℕ) → m ≢ n → first a m b n ≡ false → first b n a m ≡ true
first_other a m b n h e = grind (arith, nat_tests)

before_back : (p q : Model.Share) → before p q ≡ true → before q p ≡ false
unfolding before run_left
before_back p q e = first_back (run_left p) p.job.number (run_left q) q.job.number e

before_other : (p q : Model.Share) → p.job.number ≢ q.job.number → before p q ≡ false → before q p ≡ true
unfolding before run_left
before_other p q h e = first_other (run_left p) p.job.number (run_left q) q.job.number h e

-- the model adds a share at the front of those it has chosen from, the code at their end: the one at the end, or the choice so far if that goes before it
abbrev later : Model.Share → Math.Option Model.Share → Model.Share
later q none = q
later q (some b) = cond (before b q) b q

choose_later : (p q b : Model.Share) → choose p (some (later q (some b))) ≡ some (later q (choose p (some b)))
unfolding before run_left
choose_later p q b = go (before p b) refl (before b q) refl
  where
    go : (x : Bool) → before p b ≡ x → (y : Bool) → before b q ≡ y
        → some (cond (before p (cond y b q)) p (cond y b q)) ≡ some (cond (before (cond x p b) q) (cond x p b) q)
    go true e true f = rw (e, first_trans (run_left p) p.job.number (run_left b) b.job.number (run_left q) q.job.number e f)
    go true e false f = refl
    go false e true f = rw (e, f)
    go false e false f = rw (f, first_none (run_left p) p.job.number (run_left b) b.job.number (run_left q) q.job.number e f)

next_end : (t : ℕ) (ps : List Model.Share) (q : Model.Share) → next t (ps ++ (q ∷ [])) ≡ cond (qualifies t q) (some (later q (next t ps))) (next t ps)
next_end t [] q = refl
next_end t (p ∷ ps) q = rw (next_end t ps q) (go (qualifies t p) (qualifies t q) (next t ps))
  where
    go : (x y : Bool) (o : Math.Option Model.Share)
        → cond x (choose p (cond y (some (later q o)) o)) (cond y (some (later q o)) o) ≡ cond y (some (later q (cond x (choose p o) o))) (cond x (choose p o) o)
    go false y o = refl
    go true false o = refl
    go true true none = refl
    go true true (some b) = choose_later p q b

-- shares that stand at different places are of jobs with different numbers
unlike : (n : ℕ) (ps : List Share) (i : ℕ) (d : Share) → All (λ m. n ≢ m) (numbers_of (as_shares ps)) → i < length ps → n ≢ (get_or ps i d).job.number
unlike n [] i d h l = absurd (omega arith)
unlike n (p ∷ ps) zero d h l = h.0
unlike n (p ∷ ps) (suc i) d h l = unlike n ps i d h.1 (omega arith)

apart : (ps : List Share) (k i : ℕ) (d : Share) → Apart ps → k < i → i < length ps → (get_or ps k d).job.number ≢ (get_or ps i d).job.number
apart [] k i d h l m = absurd (omega arith)
apart (p ∷ ps) k zero d h l m = absurd (omega arith)
apart (p ∷ ps) zero (suc i) d h l m = unlike p.job.number ps i d h.0 (omega arith)
apart (p ∷ ps) (suc k) (suc i) d h l m = apart ps k i d h.1 (omega arith) (omega arith)

-- the choice among the first i shares, and among one more: share i does not qualify, or it is the first that does, or it goes before the choice so far, or it does not
module _ (t : ℕ) (shares : List Share) (i : ℕ) (d : Share) (h : i < length shares) where
  grown : next t (as_shares (take (i + 1) shares))
      ≡ cond (qualifies t (as_share (get_or shares i d))) (some (later (as_share (get_or shares i d)) (next t (as_shares (take i shares))))) (next t (as_shares (take i shares)))
  grown = ap (next t) (map_more as_share shares i d h) ∙ next_end t (as_shares (take i shares)) (as_share (get_or shares i d))

  short : length (take i shares) ≡ i
  short = length-take-le i shares (omega arith)

  long : length (take (i + 1) shares) ≡ i + 1
  long = length-take-le (i + 1) shares (omega arith)

  pub picked_still : false ≡ qualifies t (as_share (get_or shares i d)) → (best : Option ℕ) → Picked t (take i shares) best → Picked t (take (i + 1) shares) best
  picked_still e None p = grown ∙ rw (← e) p
  picked_still e (Some k) p =
      let l : k < i = omega (arith, short, p.within) in record {
        within = omega (arith, long);
        chosen = λ c. grown ∙ rw (← e) (rw (get_or-take (i + 1) shares k c (omega arith), ← get_or-take i shares k c l) (p.chosen c));
      }

  module _ (e : true ≡ qualifies t (as_share (get_or shares i d))) where
    here : HoldsAt (λ p. as_share p ≡ as_share (get_or shares i d)) (take (i + 1) shares) i
    here c = rw (get_or-take (i + 1) shares i c (omega arith)) (ap as_share (get_or_default shares i c d h))

    pub picked_first : Picked t (take i shares) None → IsNext t (take (i + 1) shares) i
    picked_first p = record { within = omega (arith, long); chosen = λ c. grown ∙ rw (← e, p, here c) refl }

    module _ (k : ℕ) (p : IsNext t (take i shares) k) (c : Share) where
      two : next t (as_shares (take (i + 1) shares)) ≡ some (later (as_share (get_or shares i d)) (some (as_share (get_or shares k c))))
      two = grown ∙ rw (← e, p.chosen c, get_or-take i shares k c (omega (arith, short, p.within))) refl

      pub picked_new : true ≡ before (as_share (get_or shares i d)) (as_share (get_or shares k c)) → IsNext t (take (i + 1) shares) i
      picked_new b = record { within = omega (arith, long); chosen = λ f. two ∙ rw (before_back _ _ (sym b), here f) refl }

      pub picked_old : Apart shares → false ≡ before (as_share (get_or shares i d)) (as_share (get_or shares k c)) → IsNext t (take (i + 1) shares) k
      picked_old a b =
          let l : k < i = omega (arith, short, p.within) in
          let m : k < length shares = omega arith in
          record {
            within = omega (arith, long);
            chosen = λ f.
                two
                ∙ rw (before_other (as_share (get_or shares i d)) (as_share (get_or shares k c)) (λ n. apart shares k i d a l h (ap (λ (q : Share). q.job.number) (get_or_default shares k d c m) ∙ sym n)) (sym b))
                (ap (λ (q : Share). some (as_share q)) (get_or_default shares k c f m ∙ sym (get_or-take (i + 1) shares k f (omega arith))));
          }

-- a machine for the share at an index is a machine for its job number, as the numbers differ
give_other : (n : ℕ) (ps : List Share) → All (λ m. n ≢ m) (numbers_of (as_shares ps)) → give n (as_shares ps) ≡ as_shares ps
give_other n [] h = refl
give_other n (p ∷ ps) h = rw (ne_eqb p.job.number n (λ e. h.0 (sym e))) (ap (λ (qs : List Model.Share). as_share p ∷ qs) (give_other n ps h.1))

give_at : (ps : List Share) (k : ℕ) (d : Share) → Apart ps → k < length ps
    → give (get_or ps k d).job.number (as_shares ps) ≡ as_shares (set ps k (bumped (get_or ps k d)))
unfolding bump
give_at [] k d a l = absurd (omega arith)
give_at (p ∷ ps) zero d a l = rw (eq-eqb p.job.number p.job.number refl) (ap (λ (qs : List Model.Share). as_share (bumped p) ∷ qs) (give_other p.job.number ps a.0))
give_at (p ∷ ps) (suc k) d a l =
    rw (ne_eqb p.job.number (get_or ps k d).job.number (unlike p.job.number ps k d a.0 (omega arith)))
    (ap (λ (qs : List Model.Share). as_share p ∷ qs) (give_at ps k d a.1 (omega arith)))

-- what is handed out when the choice is made
module _ (t : ℕ) (ps : List Share) where
  pub hand_none : Picked t ps None → (c : ℕ) → hand_out c t (as_shares ps) ≡ as_shares ps
  hand_none p zero = refl
  hand_none p (suc c) = rw p (hand_none p c)

  module _ (k : ℕ) (p : IsNext t ps k) (d : Share) where
    pub hand_ready : Ready (get_or ps k d)
    hand_ready =
        let o = (rw (p.chosen d) at (choice t (as_shares ps))).open' in
        record { more = o.more; below = o.below }

    module _ (q : Share) (e : q ≡ bumped (get_or ps k d)) (a : Apart ps) where
      given : as_shares (set ps k q) ≡ give (get_or ps k d).job.number (as_shares ps)
      given = ap (λ (r : Share). as_shares (set ps k r)) e ∙ sym (give_at ps k d a p.within)

      pub hand_one : (m n : ℕ) → n < m → hand_out (m - n) t (as_shares ps) ≡ hand_out (m - (n + 1)) t (as_shares (set ps k q))
      hand_one m n l =
          let z : m - n ≡ suc (m - (n + 1)) = omega arith in
          rw z (ap (λ o. hand_out (m - (n + 1)) t (give_to o (as_shares ps))) (p.chosen d) ∙ ap (hand_out (m - (n + 1)) t) (sym given))

      pub hand_apart : Apart (set ps k q)
      hand_apart = rw (given, numbers_give (get_or ps k d).job.number (as_shares ps)) a

-- a new slot
pub clear_more : (xs ys : List Share) (i : ℕ) (d : Share) → ys ≡ map cleared (take i xs) ++ drop i xs → i < length ys → i < length xs
    → set ys i (cleared (get_or ys i d)) ≡ map cleared (take (i + 1) xs) ++ drop (i + 1) xs
clear_more xs ys i d e h k = map_over_more cleared xs ys i (get_or ys i d) k e (get_or_default ys i d (get_or ys i d) h)

clear_same : (ps : List Share) → as_shares (map cleared ps) ≡ map clear (as_shares ps)
unfolding clear
clear_same [] = refl
clear_same (p ∷ ps) = ap (λ (qs : List Model.Share). as_share (cleared p) ∷ qs) (clear_same ps)

module _ (ps qs : List Share) (e : qs ≡ map cleared ps) where
  pub clear_fill : (c t : ℕ) → fill c t (as_shares ps) ≡ hand_out c t (as_shares qs)
  unfolding fill
  clear_fill c t = rw (e, clear_same ps) refl

  pub clear_apart : Apart ps → Apart qs
  clear_apart a = rw (e, clear_same ps, numbers_clear (as_shares ps)) a
