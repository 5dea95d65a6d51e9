-- The runner takes the steps of a run, and stops because no step is possible.
use Prim.Native.Nat.{ℕ, zero, suc, ◌+◌, ◌≤◌}
use mathlib.Core.Bool.{true}
use mathlib.Core.Path.{◌≡◌, refl, sym, ap, subst, ◌∙◌}
use mathlib.Core.Logic.{◌⊎◌, inl, inr}
use mathlib.Core.List.{List, [], ◌∷◌}
use native.Mathlib.Omega.{arith}
use lib.ListN.{length}
use Rattle.paper.specs.Upload.{byte_at}
use Rattle.paper.specs.Table.{Table, EndsBelow, NoSelfLink}
use Rattle.paper.specs.State.{State}
use Rattle.paper.specs.Steps.{Step, possible, effect, after, taken, Still}
use Rattle.paper.specs.Actions.{reading, refused_by, state_after, listed}
use Rattle.paper.specs.Runner.{Ran, longest, run_from}
use Rattle.paper.specs.Meanings.{NoRepeat, Stands, Ascending, ListsSteps}
use Rattle.std.proofs.lemmas.Bool.{and_from}
use Rattle.paper.proofs.Moving.{moving_still}
use Rattle.paper.proofs.Listed.{lists_steps}
use Rattle.election.specs.Demand.{RunnerStops, RunnerAlwaysStops}
use Rattle.election.proofs.Ends.{each_run_ends}
use Rattle.election.proofs.Furthest.{some_step}
use Rattle.election.proofs.Replays.{Tried, tried}

-- the first three bytes of a list of threes stand in it
first_stands : (low high kind : ℕ) (rest : List ℕ) → Ascending low high (kind ∷ rest) → Stands kind (byte_at rest 0) (byte_at rest 1) (kind ∷ rest)
first_stands low high kind [] h = absurd h
first_stands low high kind (x ∷ []) h = absurd h
first_stands low high kind (x ∷ y ∷ rest) h = inl (refl, refl, refl)

module _ (t : Table) (bytes : t.nodes ≤ 255) (below : EndsBelow t) (apart : NoSelfLink t) (new : NoRepeat t) where
  lists : (s : State) → ListsSteps t s
  lists s = lists_steps t s bytes below apart new

  -- no step is possible, and the list is empty
  abbrev pub AtRest : State → Type 0
  AtRest s = Still t s × (listed t s ≡ [])

  -- where the list is empty no step is possible
  at_rest : (s : State) → listed t s ≡ [] → AtRest s
  at_rest s e = ((moving_still t s).0 ((lists s).empty.0 e), e)

  still_rest : (s : State) → Still t s → AtRest s
  still_rest s still = (still, (lists s).empty.1 ((moving_still t s).1 still))

  -- what the runner does with k steps left: it takes steps, and stops at rest or could take more than k
  pub record Runs (k : ℕ) (s : State) (begun : ℕ) (xs : List Step) : Type 0 where
    pub taking : taken t s xs ≡ true
    pub steps : (run_from t k s begun).steps ≡ begun + length xs
    pub state : (run_from t k s begun).state ≡ after t s xs
    pub stops : AtRest (run_from t k s begun).state ⊎ ((ys : List Step) × (taken t s ys ≡ true) × (length ys ≡ suc k))

  pub runs : (k : ℕ) (s : State) (begun : ℕ) → (xs : List Step) × Runs k s begun xs
  unfolding run_from taken after
  runs zero s begun = ([], record { taking = refl; steps = omega arith; state = refl; stops = go (some_step t s) })
    where
      go : ((x : Step) × (possible t s x ≡ true)) ⊎ Still t s → AtRest s ⊎ ((ys : List Step) × (taken t s ys ≡ true) × (length ys ≡ 1))
      go (inl (x, e)) = inr (x ∷ [], and_from _ _ e refl, refl)
      go (inr still) = inl (still_rest s still)
  runs (suc k) s begun = go (listed t s) refl (λ z. runs k (effect t s z) (suc begun))
    where
      end : List ℕ → Ran
      end l =
          elim l [
            | [] ↦ record { state = s; steps = begun }
            | kind ∷ rest ↦ run_from t k (state_after t s (reading t kind (byte_at rest 0) (byte_at rest 1))) (suc begun)
          ]

      go : (l : List ℕ) → listed t s ≡ l → ((z : Step) → (xs : List Step) × Runs k (effect t s z) (suc begun) xs) → (xs : List Step) × Runs (suc k) s begun xs
      go [] e rest =
          let same : run_from t (suc k) s begun ≡ end [] = ap end e in
          ([], record { taking = refl; steps = ap (λ (r : Ran). r.steps) same ∙ omega arith; state = ap (λ (r : Ran). r.state) same; stops = inl (subst AtRest (sym (ap (λ (r : Ran). r.state) same)) (at_rest s e)) })
      go (kind ∷ others) e rest = taking (tried t s kind (byte_at others 0) (byte_at others 1))
        where
          can : refused_by t s (reading t kind (byte_at others 0) (byte_at others 1)) ≡ 0
          can = ((lists s).exactly kind (byte_at others 0) (byte_at others 1)).0 (subst (Stands kind (byte_at others 0) (byte_at others 1)) (sym e) (first_stands _ _ kind others (subst (Ascending _ _) e (lists s).ascending)))

          taking : Tried t s (reading t kind (byte_at others 0) (byte_at others 1)) → (xs : List Step) × Runs (suc k) s begun xs
          taking (inr refused) = absurd (refused can)
          taking (inl (z, named, p)) =
              let (xs, f) = rest z in
              let same : run_from t (suc k) s begun ≡ run_from t k (effect t s z) (suc begun) = ap end e ∙ ap (λ r. run_from t k (state_after t s r) (suc begun)) named in
              let n = f.steps in
              (z ∷ xs, record { taking = and_from _ _ p f.taking; steps = ap (λ (r : Ran). r.steps) same ∙ omega arith; state = ap (λ (r : Ran). r.state) same ∙ f.state; stops = more z p (subst (λ (r : Ran). AtRest r.state ⊎ ((ys : List Step) × (taken t (effect t s z) ys ≡ true) × (length ys ≡ suc k))) (sym same) f.stops) })
            where
              more : (z : Step) → possible t s z ≡ true → AtRest (run_from t (suc k) s begun).state ⊎ ((ys : List Step) × (taken t (effect t s z) ys ≡ true) × (length ys ≡ suc k)) → AtRest (run_from t (suc k) s begun).state ⊎ ((ys : List Step) × (taken t s ys ≡ true) × (length ys ≡ suc (suc k)))
              more z p (inl rest) = inl rest
              more z p (inr (ys, q, l)) = inr (z ∷ ys, and_from _ _ p q, ap suc l)

  -- from every state with sound marks
  pub runner_still : RunnerAlwaysStops t
  runner_still s sound = go (runs (longest t) s 0).1.stops
    where
      go : AtRest (run_from t (longest t) s 0).state ⊎ ((ys : List Step) × (taken t s ys ≡ true) × (length ys ≡ suc (longest t))) → RunnerStops t s
      go (inl rest) = record { still = rest.0; lists_none = rest.1 }
      go (inr (ys, q, l)) = let most = each_run_ends t s below apart sound ys q in absurd (omega arith)
