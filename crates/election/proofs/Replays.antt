-- A replay takes the steps of a run, whether it ends or an action stops it.
use Prim.Native.Nat.{ℕ, zero, suc, ◌+◌}
use mathlib.Core.Bool.{true, cond}
use mathlib.Core.Path.{◌≡◌, refl, ap, ◌∙◌}
use mathlib.Core.Logic.{◌⊎◌, inl, inr, ⊎_elim}
use mathlib.Core.List.{List, [], ◌∷◌}
use native.Mathlib.Omega.{arith}
use lib.Dec.{eqb}
use lib.ListN.{length}
use borrow.Author.Tests.{ne_eqb}
use Rattle.paper.specs.Upload.{byte_at, actions_of, action_at}
use Rattle.paper.specs.Table.{Table, table_of}
use Rattle.paper.specs.State.{State, fresh}
use Rattle.paper.specs.Steps.{Step, possible, effect, after, taken}
use Rattle.paper.specs.Actions.{Reading, names, node_step, link_step, direction_from, reading, refused_by, state_after}
use Rattle.paper.specs.Refusals.{accepted}
use Rattle.paper.specs.Calls.{Replayed, action_of, replay_from, replayed}
use Rattle.std.proofs.lemmas.Bool.{cases_Bool, and_from}
use Rattle.counting.proofs.Booleans.{clash, and_left, and_right}
use Rattle.paper.proofs.Kept.{possible_taken}
use Rattle.paper.proofs.Readings.{Read, at_node, for_link, not_read, read}
use Rattle.election.specs.Demand.{NamesFrom, ReplayIsRun}

-- an action names a possible step, or is refused
abbrev pub Tried : Table → State → Reading → Type 0
Tried t s r = ((z : Step) × (r ≡ names z) × (possible t s z ≡ true)) ⊎ (refused_by t s r ≡ 0 → ⊥)

pub tried : (t : Table) (s : State) (kind x y : ℕ) → Tried t s (reading t kind x y)
tried t s kind x y = go (read t kind x y)
  where
    step : (z : Step) → Tried t s (names z)
    step z = ⊎_elim (λ e. inl (z, refl, e)) (λ e. inr (λ q. clash (possible_taken t s z q) e)) (cases_Bool (possible t s z))

    go : {r : Reading} → Read t kind x y r → Tried t s r
    go (at_node node h f) = step (node_step kind x)
    go (for_link low high h g i inside f) = step (link_step kind i (direction_from t i x))
    go (not_read number) = inr (λ e. omega arith)

module _ (upload : List ℕ) where
  -- what the k actions from action i on lead to from a state
  pub record From (s : State) (i k : ℕ) (xs : List Step) : Type 0 where
    pub named : NamesFrom upload i xs
    pub taking : taken (table_of upload) s xs ≡ true
    pub steps : (replay_from upload s i k).steps ≡ i + length xs
    pub state : (replay_from upload s i k).state ≡ after (table_of upload) s xs
    pub all : (replay_from upload s i k).refusal.number ≡ 0 → length xs ≡ k

  -- an action that is taken
  pub next : (s : State) (i k : ℕ) (z : Step) → action_of upload i ≡ names z → possible (table_of upload) s z ≡ true → replay_from upload s i (suc k) ≡ replay_from upload (effect (table_of upload) s z) (suc i) k
  unfolding replay_from
  next s i k z e p =
      ap go e
      ∙ ap (λ c. cond (eqb (cond c 0 11) 0) (replay_from upload (effect (table_of upload) s z) (suc i) k) (record { refusal = record { number = cond c 0 11; place = i }; steps = i; state = s })) p
    where
      go : Reading → Replayed
      go r =
          cond (eqb (refused_by (table_of upload) s r) 0)
          (replay_from upload (state_after (table_of upload) s r) (suc i) k)
          (record { refusal = record { number = refused_by (table_of upload) s r; place = i }; steps = i; state = s })

  -- an action that is refused
  stop : (s : State) (i k : ℕ) → (refused_by (table_of upload) s (action_of upload i) ≡ 0 → ⊥) → replay_from upload s i (suc k) ≡ record { refusal = record { number = refused_by (table_of upload) s (action_of upload i); place = i }; steps = i; state = s }
  unfolding replay_from
  stop s i k h =
      ap (λ c. cond c (replay_from upload (state_after (table_of upload) s (action_of upload i)) (suc i) k) (record { refusal = record { number = refused_by (table_of upload) s (action_of upload i); place = i }; steps = i; state = s })) (ne_eqb _ _ h)

  pub replays_from : (s : State) (i k : ℕ) → (xs : List Step) × From s i k xs
  unfolding replay_from taken after
  replays_from s i zero = ([], record { named = tt; taking = refl; steps = omega arith; state = refl; all = λ e. refl })
  replays_from s i (suc k) = go (tried (table_of upload) s (byte_at upload (action_at upload i)) (byte_at upload (action_at upload i + 1)) (byte_at upload (action_at upload i + 2))) (λ z. replays_from (effect (table_of upload) s z) (suc i) k)
    where
      go : Tried (table_of upload) s (action_of upload i) → ((z : Step) → (xs : List Step) × From (effect (table_of upload) s z) (suc i) k xs) → (xs : List Step) × From s i (suc k) xs
      go (inr h) rest =
          let e = stop s i k h in
          ([], record { named = tt; taking = refl; steps = ap (λ (r : Replayed). r.steps) e ∙ omega arith; state = ap (λ (r : Replayed). r.state) e; all = λ q. absurd (h (rw (← ap (λ (r : Replayed). r.refusal.number) e) q)) })
      go (inl (z, e, p)) rest = let (xs, f) = rest z in let same = next s i k z e p in let n = f.steps in (z ∷ xs, record { named = (e, f.named); taking = and_from _ _ p f.taking; steps = ap (λ (r : Replayed). r.steps) same ∙ omega arith; state = ap (λ (r : Replayed). r.state) same ∙ f.state; all = λ q. ap suc (f.all (rw (← ap (λ (r : Replayed). r.refusal.number) same) q)) })

  pub replay_run : (xs : List Step) × ReplayIsRun upload xs × ((replayed upload).refusal.number ≡ 0 → length xs ≡ actions_of upload)
  unfolding replayed
  replay_run =
      let (xs, f) = replays_from (fresh (table_of upload)) 0 (actions_of upload) in
      let n = f.steps in
      (xs, record { named = f.named; run = f.taking; steps = omega arith; state = f.state }, f.all)

  -- actions that name possible steps, each in its turn, are all taken
  pub takes_all : (s : State) (i : ℕ) (ys : List Step) → NamesFrom upload i ys → taken (table_of upload) s ys ≡ true → replay_from upload s i (length ys) ≡ record { refusal = accepted; steps = i + length ys; state = after (table_of upload) s ys }
  unfolding replay_from taken after
  takes_all s i [] named h = ap (λ k. record { refusal = accepted; steps = k; state = s }) (omega arith)
  takes_all s i (y ∷ ys) named h =
      next s i (length ys) y named.0 (and_left (possible (table_of upload) s y) _ h)
      ∙ takes_all (effect (table_of upload) s y) (suc i) ys named.1 (and_right (possible (table_of upload) s y) _ h)
      ∙ ap (λ k. record { refusal = accepted; steps = k; state = after (table_of upload) (effect (table_of upload) s y) ys }) (omega arith)
