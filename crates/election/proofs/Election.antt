-- Demand 3 holds of every table and every run.
use Prim.Native.Nat.{ℕ, ◌+◌, ◌*◌, ◌≤◌, ◌<◌}
use mathlib.Core.Bool.{Bool, true, false, not, cond, ◌&&◌, and-eq-true_iff}
use mathlib.Core.Path.{◌≡◌, refl, ap, sym, ◌∙◌}
use mathlib.Core.Logic.{◌⊎◌, inl, inr, ◌↔◌}
use mathlib.Core.List.{List}
use native.Mathlib.Omega.{arith}
use native.Mathlib.Decide.{ℕ_discrete}
use lib.Dec.{ltb}
use lib.ListN.{length}
use borrow.Author.Tests.{lt-ltb, le-leb}
use Rattle.counting.specs.Count.{bit}
use Rattle.counting.proofs.Sums.{sum_add, sum_eq, sum_ones, sum_twice, count_none, count_not, count_zero}
use Rattle.counting.proofs.Directions.{both_eq, both_none}
use Rattle.paper.specs.Table.{Table, source, target, EndsBelow, NoSelfLink, OnePiece}
use Rattle.paper.specs.State.{State, fresh}
use Rattle.paper.specs.Steps.{Step, carries, Run, resolved}
use Rattle.paper.specs.Stuck.{Closed, Stuck, size, border}
use Rattle.paper.specs.Report.{moving, roots, waiting_count, outcome_at_rest}
use Rattle.paper.proofs.Moving.{moving_still}
use Rattle.election.specs.Demand.{reached_by, Ended, WithoutLoop, WithLoop, StuckSet, OneStuckSet, FewSteps, NeverOdd, Demand}
use Rattle.election.proofs.Updates.{either, same_test}
use Rattle.election.proofs.Directions.{directions_le}
use Rattle.election.proofs.Ends.{stopped, is_done, done, potential, every_run_ends}
use Rattle.election.proofs.Balance.{inside}
use Rattle.election.proofs.Left.{full, Left}
use Rattle.election.proofs.Closed.{AllWait, closed_waits}
use Rattle.election.proofs.Course.{along, length_potential, Reached, reached_fresh, reached_kept, reached_left, resolved_few}
use Rattle.election.proofs.Rest.{roots_full, outside, Settled, still_closed, settled, all_done, one_root, all_outside}
use Rattle.election.proofs.Furthest.{Furthest, furthest}

-- both directions of every link: those that start outside K, those that leave K, those inside
split_directions : (t : Table) (K : ℕ → Bool) → outside t K + border t K + 2 * inside t K ≡ 2 * t.links
split_directions t K =
    let a = sum_add t.links out leave in
    let b = sum_add t.links (λ i. out i + leave i) (λ i. 2 * within i) in
    let c = sum_twice t.links within in
    let d = sum_eq t.links (λ i. (out i + leave i) + 2 * within i) (λ i. 2 * 1) (λ i l. link (K (t.end i false)) (K (t.end i true))) in
    let e = sum_twice t.links (λ i. 1) in
    let f = sum_ones t.links in omega arith
  where
    out : ℕ → ℕ
    out i = bit (not (K (t.end i false))) + bit (not (K (t.end i true)))

    leave : ℕ → ℕ
    leave i = bit (K (t.end i false) && not (K (t.end i true))) + bit (K (t.end i true) && not (K (t.end i false)))

    within : ℕ → ℕ
    within i = bit (K (t.end i false) && K (t.end i true))

    link : (u v : Bool) → ((bit (not u) + bit (not v)) + (bit (u && not v) + bit (v && not u))) + 2 * bit (u && v) ≡ 2 * 1
    link true true = refl
    link true false = refl
    link false true = refl
    link false false = refl

done_outside : (t : Table) (s : State) → done t s ≤ outside t s.waiting
done_outside t s =
    directions_le t (is_done t s) (λ i b. not (s.waiting (source t i b))) (λ i b l e. ((and-eq-true_iff (not (s.waiting (source t i b))) (not (carries (s.message i b)))).0 e).0)

fresh_potential : (t : Table) → EndsBelow t → potential t (fresh t) ≡ 0
fresh_potential t below =
    let a = count_none t.nodes (λ x. not (ltb x t.nodes)) (λ x l. ap not (lt-ltb x t.nodes l)) in
    let b = both_none t.links (λ i b. bit (is_done t (fresh t) i b)) (λ i b l. rw (lt-ltb (source t i b) t.nodes (below i b l)) refl) in
    let c = count_none t.nodes (λ x. false) (λ x l. refl) in omega arith

pub only_one_stuck_set : (t : Table) → OneStuckSet t
only_one_stuck_set t K L p q x l = same_test (K x) (L x) (q.largest K p.closed x l) (p.largest L q.closed x l)

module _ (t : Table) (one : 1 ≤ t.nodes) (below : EndsBelow t) (apart : NoSelfLink t) (joined : OnePiece t) where
  begun : Reached t (fresh t)
  begun = reached_fresh t below apart one joined

  pub every_reached : (xs : List Step) → Run t xs → Reached t (reached_by t xs)
  every_reached = along t (Reached t) (reached_kept t below apart) (fresh t) begun

  -- the members of a closed set wait in every state that a run reaches
  closed_run : (S : ℕ → Bool) → Closed t S → (xs : List Step) → Run t xs → AllWait t S (reached_by t xs)
  closed_run S closed xs r =
      (along t (λ s. Reached t s × AllWait t S s) (λ s p x e. (reached_kept t below apart s p.0 x e, closed_waits t below S closed s p.0.local p.1 x e)) (fresh t) (begun, λ x l m. lt-ltb x t.nodes l) xs r).1

  -- a run is as long as the potential that it reaches, and one more for each contention resolved
  run_length : (xs : List Step) → Run t xs → length xs ≡ potential t (reached_by t xs) + resolved xs
  run_length xs r =
      let a = length_potential t (fresh t) begun.local.silent xs r in
      let b = fresh_potential t below in omega arith

  pub few_roots : (xs : List Step) → Run t xs → roots t (reached_by t xs) ≤ 1
  few_roots xs r = go (reached_left t below apart (reached_by t xs) (every_reached xs r)) (roots_full t (reached_by t xs) (every_reached xs r).local)
    where
      go : Left t (reached_by t xs) → roots t (reached_by t xs) ≤ full t (reached_by t xs) → roots t (reached_by t xs) ≤ 1
      go (inl z) a = omega arith
      go (inr o) a = omega arith

  few_resolved : (xs : List Step) → Run t xs → resolved xs ≤ 1
  few_resolved xs r = let a = (resolved_few t below apart (fresh t) begun xs r).0 in omega arith

  -- At most 3n steps can be taken from fresh.
  pub few_steps : FewSteps t
  few_steps xs r =
      let s = reached_by t xs in
      let a = run_length xs r in
      let b = few_roots xs r in
      let c = few_resolved xs r in
      let d = done_outside t s in
      let e = split_directions t s.waiting in
      let f = count_not t.nodes s.waiting in
      let p = (every_reached xs r).peeled in
      let g : stopped t s + 2 * t.links + 2 ≤ 3 * t.nodes + 2 * inside t s.waiting = either (ℕ_discrete (waiting_count t s) 0) (λ z. let h = p.none z in omega arith) (λ n. let h = p.some (omega arith) in omega arith) in
      omega arith

  -- On a table with a loop there is no root and no contention is resolved.
  module _ (loop : t.nodes ≤ t.links) where
    never_root : (xs : List Step) → Run t xs → roots t (reached_by t xs) ≡ 0
    never_root xs r = go (reached_left t below apart (reached_by t xs) (every_reached xs r)) (roots_full t (reached_by t xs) (every_reached xs r).local)
      where
        go : Left t (reached_by t xs) → roots t (reached_by t xs) ≤ full t (reached_by t xs) → roots t (reached_by t xs) ≡ 0
        go (inl z) a = omega arith
        go (inr o) a = absurd (omega arith)

    never_resolved : (xs : List Step) → Run t xs → resolved xs ≡ 0
    never_resolved xs r = go (resolved_few t below apart (fresh t) begun xs r).1
      where
        go : (resolved xs ≡ 0) ⊎ (t.links + 1 ≡ t.nodes) → resolved xs ≡ 0
        go (inl z) = z
        go (inr h) = absurd (omega arith)

  -- A run that can go no further.
  module _ (xs : List Step) (ended : Ended t xs) where
    facts : Reached t (reached_by t xs)
    facts = every_reached xs ended.0

    end_settled : Settled t (reached_by t xs)
    end_settled = settled t (reached_by t xs) below apart facts ended.1

    -- the nodes that wait are the stuck set
    pub end_stuck : Stuck t (reached_by t xs).waiting
    end_stuck =
        record { closed = still_closed t (reached_by t xs) below apart facts ended.1; largest = λ S closed. closed_run S closed xs ended.0 }

    waits_size : (K : ℕ → Bool) → Stuck t K → waiting_count t (reached_by t xs) ≡ size t K
    waits_size K stuck =
        sum_eq t.nodes (λ x. bit ((reached_by t xs).waiting x)) (λ x. bit (K x)) (λ x l. ap bit (only_one_stuck_set t (reached_by t xs).waiting K end_stuck stuck x l))

    waits_border : (K : ℕ → Bool) → Stuck t K → border t (reached_by t xs).waiting ≡ border t K
    waits_border K stuck =
        both_eq t.links (λ i b. bit ((reached_by t xs).waiting (source t i b) && not ((reached_by t xs).waiting (target t i b)))) (λ i b. bit (K (source t i b) && not (K (target t i b)))) (λ i b l. rw (same (source t i b) (below i b l), same (target t i b) (below i (not b) l)) refl)
      where
        same : (x : ℕ) → x < t.nodes → (reached_by t xs).waiting x ≡ K x
        same = only_one_stuck_set t (reached_by t xs).waiting K end_stuck stuck

    end_root : waiting_count t (reached_by t xs) ≡ 0 → roots t (reached_by t xs) ≡ 1
    end_root = one_root t (reached_by t xs) below apart facts ended.1

    end_done : done t (reached_by t xs) ≡ outside t (reached_by t xs).waiting
    end_done = all_done t (reached_by t xs) below apart facts ended.1

    end_steps : waiting_count t (reached_by t xs) ≡ 0 → t.links + 1 ≡ t.nodes → length xs + 1 ≡ 3 * t.nodes + resolved xs
    end_steps z h =
        let a = run_length xs ended.0 in
        let b = end_root z in
        let c = end_done in
        let d = all_outside t (reached_by t xs) below apart facts ended.1 z in
        let e = count_not t.nodes (reached_by t xs).waiting in omega arith

  no_loop : t.links + 1 ≡ t.nodes → WithoutLoop t
  no_loop h =
      record {
        runs = λ xs r. record { few_roots = few_roots xs r; few_resolved = few_resolved xs r };
        ends =
            λ xs e.
            let a = end_steps xs e (none xs e) h in
            record {
              one_root = end_root xs e (none xs e);
              none_waits = count_zero t.nodes (reached_by t xs).waiting (none xs e);
              steps = λ z. omega arith;
              steps_resolved = λ z. omega arith;
            };
      }
    where
      none : (xs : List Step) → Ended t xs → waiting_count t (reached_by t xs) ≡ 0
      none xs e = go (end_settled xs e)
        where
          go : Settled t (reached_by t xs) → waiting_count t (reached_by t xs) ≡ 0
          go (inl p) = p.0
          go (inr p) = absurd (omega arith)

  pub with_loop : t.nodes ≤ t.links → (K : ℕ → Bool) → Stuck t K → WithLoop t K
  with_loop loop K stuck =
      record {
        runs = λ xs r. record { no_root = never_root loop xs r; none_resolved = never_resolved loop xs r };
        ends =
            λ xs e.
            let a = run_length xs e.0 in
            let b = never_root loop xs e.0 in
            let c = never_resolved loop xs e.0 in
            let d = end_done xs e in
            let f = split_directions t (reached_by t xs).waiting in
            let g = waits_border xs e K stuck in
            let h = waits_size xs e K stuck in
            let i = count_not t.nodes (reached_by t xs).waiting in
            let j = (facts xs e).peeled.some (positive xs e) in
            record {
              steps = omega arith;
              still_wait = only_one_stuck_set t (reached_by t xs).waiting K (end_stuck xs e) stuck;
              size_waits = h;
            };
      }
    where
      positive : (xs : List Step) → Ended t xs → 0 < waiting_count t (reached_by t xs)
      positive xs e = go (end_settled xs e)
        where
          go : Settled t (reached_by t xs) → 0 < waiting_count t (reached_by t xs)
          go (inl p) = absurd (omega arith)
          go (inr p) = p.0

  -- Outcome 4 never follows from fresh.
  pub never_odd : NeverOdd t
  never_odd xs r = moved (moving t (reached_by t xs)) refl
    where
      at_rest : ℕ
      at_rest = outcome_at_rest t.nodes t.links (roots t (reached_by t xs)) (waiting_count t (reached_by t xs))

      rested : Settled t (reached_by t xs) → Ended t xs → at_rest ≡ 4 → ⊥
      rested (inl p) e = rw (end_root xs e p.0) (λ h. omega arith)
      rested (inr p) e =
          rw (never_root p.1 xs r, lt-ltb 0 (waiting_count t (reached_by t xs)) p.0, le-leb t.nodes t.links p.1) (λ h. omega arith)

      moved : (m : Bool) → moving t (reached_by t xs) ≡ m → cond m 1 at_rest ≡ 4 → ⊥
      moved true e h = omega arith
      moved false e h = let ended : Ended t xs = (r, (moving_still t (reached_by t xs)).0 e) in rested (end_settled xs ended) ended h

  pub stuck_set : StuckSet t
  stuck_set =
      record {
        enough_links = enough (end_settled xs e);
        exists = ((reached_by t xs).waiting, end_stuck xs e);
        empty = λ K stuck. exactly K (waits_size xs e K stuck) (end_settled xs e);
      }
    where
      far : Furthest t (fresh t)
      far = furthest t below apart (fresh t) begun.local.silent

      xs : List Step
      xs = far.0

      e : Ended t xs
      e = (far.1, far.2)

      enough : Settled t (reached_by t xs) → t.nodes ≤ t.links + 1
      enough (inl p) = omega arith
      enough (inr p) = omega arith

      exactly : (K : ℕ → Bool) → waiting_count t (reached_by t xs) ≡ size t K → Settled t (reached_by t xs) → (size t K ≡ 0) ↔ (t.links + 1 ≡ t.nodes)
      exactly K w (inl p) = (λ z. p.1, λ h. sym w ∙ p.0)
      exactly K w (inr p) = (λ z. absurd (omega arith), λ h. absurd (omega arith))

pub without_a_loop : (t : Table) → EndsBelow t → NoSelfLink t → OnePiece t → t.links + 1 ≡ t.nodes → WithoutLoop t
without_a_loop t below apart joined h = no_loop t (omega arith) below apart joined h

-- All of demand 3, of a table with at least one node, whose links join two different nodes each, in one piece.
pub demand : (t : Table) → 1 ≤ t.nodes → EndsBelow t → NoSelfLink t → OnePiece t → Demand t
demand t one below apart joined =
    record {
      without_loop = without_a_loop t below apart joined;
      with_loop = with_loop t one below apart joined;
      stuck_set = stuck_set t one below apart joined;
      one_stuck_set = only_one_stuck_set t;
      few_steps = few_steps t one below apart joined;
      runs_end = every_run_ends t below apart;
      never_odd = never_odd t one below apart joined;
    }
