-- How a row follows loops over timers, locations and processes.
use Rattle.std.proofs.Common.{◌≡◌, ℕ, zero, suc, ◌+◌, Bool, true, false, cond, List, [], ◌++◌, get_or, sym, refl, ap, ◌∙◌, zero-add, add-one, arith}
use Rattle.std.proofs.lemmas.List.{append-nil, append_assoc}
use Rattle.std.specs.List.{range_with_len, flat_map}
use Rattle.loops.specs.Rows.{timer_edges, chaos_edges, spot_timers, at_spot, Shape, shape, of_process, added_by}
use Rattle.marks.specs.Rules.{Marking}
use Rattle.marks.specs.Words.{bit}
use Rattle.survey.specs.Surveys.{spot_at, chaotic_at}
use Rattle.survey.specs.declared.spots.Spot.{Spot}
use Rattle.table.specs.Edges.{blank}
use Rattle.table.specs.Lists.{Proc}

-- one turn more of a loop that adds f k for each k
joined-counting : {A : Type 0} (f : ℕ → List A) (a n : ℕ) → flat_map f (range_with_len a (suc n)) ≡ flat_map f (range_with_len a n) ++ f (a + n)
joined-counting f a zero = append-nil (f a) ∙ ap f (omega arith)
joined-counting f a (suc n) =
    ap (λ xs. f a ++ xs) (joined-counting f (a + 1) n ∙ ap (λ k. flat_map f (range_with_len (a + 1) n) ++ f k) (omega arith)) ∙ sym (append_assoc (f a) (flat_map f (range_with_len (a + 1) n)) (f (a + suc n)))

pub joined-more : {A : Type 0} (f : ℕ → List A) (n : ℕ) → flat_map f (range_with_len 0 (n + 1)) ≡ flat_map f (range_with_len 0 n) ++ f n
joined-more f n =
    ap (λ k. flat_map f (range_with_len 0 k)) (add-one n) ∙ joined-counting f 0 n ∙ ap (λ k. flat_map f (range_with_len 0 n) ++ f k) (zero-add n)

module _ (M : Marking) where
  pub no_timers : (s : Spot) (p l : ℕ) → spot_timers M s p l 0 ≡ []
  unfolding spot_timers
  no_timers s p l = refl

  pub timers_more : (s : Spot) (p l n : ℕ) → spot_timers M s p l (n + 1) ≡ spot_timers M s p l n ++ timer_edges (M.timer p l n) (bit s.handled n) p l n
  unfolding spot_timers
  timers_more s p l n = joined-more (λ j. timer_edges (M.timer p l j) (bit s.handled j) p l j) n

  pub spot_acting : (s : Spot) (c : Bool) (p l n : ℕ) → s.acting ≡ true → at_spot M s c p l n ≡ []
  unfolding at_spot
  spot_acting s c p l n a = ap (λ b. cond b [] (chaos_edges c p l n ++ spot_timers M s p l n)) a

  pub spot_waiting : (s : Spot) (c : Bool) (p l n : ℕ) → s.acting ≡ false → at_spot M s c p l n ≡ chaos_edges c p l n ++ spot_timers M s p l n
  unfolding at_spot
  spot_waiting s c p l n a = ap (λ b. cond b [] (chaos_edges c p l n ++ spot_timers M s p l n)) a

  module _ (ss : List Spot) (cs : List Bool) where
    pub no_spots : (h : Shape) (p : ℕ) → of_process M ss cs h p 0 ≡ []
    unfolding of_process
    no_spots h p = refl

    pub spots_more : (h : Shape) (p n : ℕ) → of_process M ss cs h p (n + 1) ≡ of_process M ss cs h p n ++ at_spot M (spot_at ss p n) (chaotic_at cs p) p n h.timers
    unfolding of_process
    spots_more h p n = joined-more (λ l. at_spot M (spot_at ss p l) (chaotic_at cs p) p l h.timers) n

    pub no_processes : (ps : List Proc) → added_by M ss cs ps 0 ≡ []
    unfolding added_by
    no_processes ps = refl

    pub processes_more : (ps : List Proc) (n : ℕ) → added_by M ss cs ps (n + 1) ≡ added_by M ss cs ps n ++ of_process M ss cs (shape (get_or ps n blank)) n (shape (get_or ps n blank)).locations
    unfolding added_by
    processes_more ps n =
        joined-more (λ p. of_process M ss cs (shape (get_or ps p blank)) p (shape (get_or ps p blank)).locations) n

-- how a row grows
pub ruleset growth = (append-nil, append_assoc, no_timers, timers_more, spot_acting, spot_waiting, no_spots, spots_more, no_processes, processes_more)
