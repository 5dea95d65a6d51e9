-- A run that goes as far as it can: from every state with sound marks there is one.
use Prim.Native.Nat.{ℕ, zero, suc, ◌+◌, ◌*◌}
use mathlib.Core.Bool.{Bool, true, false}
use mathlib.Core.Path.{◌≡◌, refl, ap}
use mathlib.Core.Logic.{◌⊎◌, inl, inr}
use mathlib.Core.List.{List, [], ◌∷◌}
use native.Mathlib.Omega.{arith}
use lib.ListN.{length}
use Rattle.paper.specs.Table.{Table, EndsBelow, NoSelfLink}
use Rattle.paper.specs.State.{State}
use Rattle.paper.specs.Steps.{Step, possible, effect, after, taken, Still}
use Rattle.paper.specs.Report.{moving}
use Rattle.paper.specs.Meanings.{SoundMarks}
use Rattle.paper.proofs.Moving.{moving_step, moving_still}
use Rattle.election.proofs.Ends.{each_run_ends}

-- Some step is possible, or none is.
pub some_step : (t : Table) (s : State) → ((x : Step) × (possible t s x ≡ true)) ⊎ Still t s
some_step t s = go (moving t s) refl
  where
    go : (m : Bool) → moving t s ≡ m → ((x : Step) × (possible t s x ≡ true)) ⊎ Still t s
    go true e = inl (moving_step t s e)
    go false e = inr ((moving_still t s).0 e)

-- steps after which no step is possible
abbrev pub Furthest : Table → State → Type 0
Furthest t s = (xs : List Step) × (taken t s xs ≡ true) × Still t (after t s xs)

-- steps to the end, or k of them
walk : (t : Table) (k : ℕ) (s : State) → Furthest t s ⊎ ((xs : List Step) × (taken t s xs ≡ true) × (length xs ≡ k))
unfolding taken after
walk t zero s = inr ([], refl, refl)
walk t (suc k) s = go (some_step t s) (λ x. walk t k (effect t s x))
  where
    go : ((x : Step) × (possible t s x ≡ true)) ⊎ Still t s → ((x : Step) → Furthest t (effect t s x) ⊎ ((xs : List Step) × (taken t (effect t s x) xs ≡ true) × (length xs ≡ k))) → Furthest t s ⊎ ((xs : List Step) × (taken t s xs ≡ true) × (length xs ≡ suc k))
    go (inr still) on = inl ([], refl, still)
    go (inl w) on = next (on w.0)
      where
        next : Furthest t (effect t s w.0) ⊎ ((xs : List Step) × (taken t (effect t s w.0) xs ≡ true) × (length xs ≡ k)) → Furthest t s ⊎ ((xs : List Step) × (taken t s xs ≡ true) × (length xs ≡ suc k))
        next (inl f) = inl (w.0 ∷ f.0, rw w.1 f.1, f.2)
        next (inr f) = inr (w.0 ∷ f.0, rw w.1 f.1, ap suc f.2)

pub furthest : (t : Table) → EndsBelow t → NoSelfLink t → (s : State) → SoundMarks t s → Furthest t s
furthest t below apart s sound = go (walk t (5 * t.nodes + 4 * t.links + 1) s)
  where
    go : Furthest t s ⊎ ((xs : List Step) × (taken t s xs ≡ true) × (length xs ≡ 5 * t.nodes + 4 * t.links + 1)) → Furthest t s
    go (inl f) = f
    go (inr f) =
        let a = each_run_ends t s below apart sound f.0 f.1 in
        let b = f.2 in absurd (omega arith)
