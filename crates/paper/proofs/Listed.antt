-- The list holds exactly the possible steps, each once, ascending.
use Prim.Native.Nat.{ℕ, zero, suc, ◌<◌, ◌≤◌}
use mathlib.Core.Bool.{Bool, true, false, cond}
use mathlib.Core.Path.{◌≡◌, refl, sym, ap, subst, ◌∙◌}
use mathlib.Core.Logic.Iff
use mathlib.Core.Logic.{◌⊎◌, inl, inr, ⊎_elim, ◌↔◌}
use mathlib.Core.List.{List, [], ◌∷◌, ◌++◌}
use lib.Dec.{eqb}
use borrow.Author.Tests.{eqb-true, eq-eqb}
use native.Mathlib.Omega.{arith}
use native.Mathlib.Decide.{ℕ_discrete}
use Rattle.counting.specs.Count.{joined}
use Rattle.std.proofs.lemmas.Bool.{cases_Bool}
use Rattle.counting.proofs.Booleans.{clash}
use Rattle.paper.specs.Table.{Table, EndsBelow, NoSelfLink}
use Rattle.paper.specs.State.{State}
use Rattle.paper.specs.Steps.{Step, possible}
use Rattle.paper.specs.Report.{moving}
use Rattle.paper.specs.Actions.{Reading, names, direction_from, node_step, link_step, reading, refused_by, entry, entries_at, entries_of, listed}
use Rattle.paper.specs.Meanings.{NoRepeat, kind_of, first_of, second_of, Stands, three, Ascending, ListsSteps}
use Rattle.paper.proofs.Changes.{possible_in_table}
use Rattle.paper.proofs.Kept.{possible_taken}
use Rattle.paper.proofs.Moving.{moves, moving_step}
use Rattle.paper.proofs.Readings.{Read, at_node, for_link, not_read, read, read_once, read_step}

-- a list of threes
abbrev Threes : List ℕ → Type 0
Threes [] = Unit {0}
Threes (a ∷ []) = ⊥
Threes (a ∷ b ∷ []) = ⊥
Threes (a ∷ b ∷ c ∷ rest) = Threes rest

ascending_threes : (low high : ℕ) (l : List ℕ) → Ascending low high l → Threes l
ascending_threes low high [] h = tt
ascending_threes low high (a ∷ []) h = h
ascending_threes low high (a ∷ b ∷ []) h = h
ascending_threes low high (a ∷ b ∷ c ∷ rest) h = ascending_threes (suc (three a b c)) high rest h.1

ascending_from : (low low' high : ℕ) (l : List ℕ) → low' ≤ low → Ascending low high l → Ascending low' high l
ascending_from low low' high [] g h = omega arith
ascending_from low low' high (a ∷ []) g h = h
ascending_from low low' high (a ∷ b ∷ []) g h = h
ascending_from low low' high (a ∷ b ∷ c ∷ rest) g h = let f = h.0 in (omega arith, h.1)

ascending_append : (low middle high : ℕ) (l r : List ℕ) → Ascending low middle l → Ascending middle high r → Ascending low high (l ++ r)
ascending_append low middle high [] r h g = ascending_from middle low high r h g
ascending_append low middle high (a ∷ []) r h g = absurd h
ascending_append low middle high (a ∷ b ∷ []) r h g = absurd h
ascending_append low middle high (a ∷ b ∷ c ∷ rest) r h g = (h.0, ascending_append (suc (three a b c)) middle high rest r h.1 g)

-- where each part ascends from where the one before ends
ascending_joined : (n : ℕ) (bound : ℕ → ℕ) (f : ℕ → List ℕ) → ((i : ℕ) → i < n → Ascending (bound i) (bound (suc i)) (f i)) → Ascending (bound 0) (bound n) (joined n f)
unfolding joined
ascending_joined zero bound f h = omega arith
ascending_joined (suc n) bound f h = ascending_append (bound 0) (bound n) (bound (suc n)) (joined n f) (f n) (ascending_joined n bound f (λ i g. h i (omega arith))) (h n (omega arith))

ascending_to : (low high high' : ℕ) (l : List ℕ) → high ≤ high' → Ascending low high l → Ascending low high' l
ascending_to low high high' [] g h = omega arith
ascending_to low high high' (a ∷ []) g h = h
ascending_to low high high' (a ∷ b ∷ []) g h = h
ascending_to low high high' (a ∷ b ∷ c ∷ rest) g h = (h.0, ascending_to (suc (three a b c)) high high' rest g h.1)

entry_ascending : (t : Table) (s : State) (kind x y : ℕ) → Ascending (three kind x y) (suc (three kind x y)) (entry t s kind x y)
entry_ascending t s kind x y = go (eqb (refused_by t s (reading t kind x y)) 0)
  where
    go : (b : Bool) → Ascending (three kind x y) (suc (three kind x y)) (cond b (kind ∷ x ∷ y ∷ []) [])
    go true = (omega arith, omega arith)
    go false = omega arith

module _ (t : Table) (s : State) (bytes : t.nodes ≤ 255) where
  at_ascending : (kind x : ℕ) → Ascending (three kind x 0) (three kind (suc x) 0) (entries_at t s kind x)
  at_ascending kind x =
      ascending_append (three kind x 0) (three kind x 255) (three kind (suc x) 0) (joined t.nodes (entry t s kind x)) (entry t s kind x 255)
      (ascending_to (three kind x 0) (three kind x t.nodes) (three kind x 255) (joined t.nodes (entry t s kind x)) (omega arith)
      (ascending_joined t.nodes (three kind x) (entry t s kind x) (λ y h. ascending_to _ _ _ (entry t s kind x y) (omega arith) (entry_ascending t s kind x y))))
      (ascending_to _ _ _ (entry t s kind x 255) (omega arith) (entry_ascending t s kind x 255))

  of_ascending : (kind : ℕ) → Ascending (three kind 0 0) (three (suc kind) 0 0) (entries_of t s kind)
  of_ascending kind =
      ascending_to (three kind 0 0) (three kind t.nodes 0) (three (suc kind) 0 0) (entries_of t s kind) (omega arith)
      (ascending_joined t.nodes (λ x. three kind x 0) (entries_at t s kind) (λ x h. at_ascending kind x))

  pub listed_ascending : Ascending (three 1 0 0) (three 6 0 0) (listed t s)
  unfolding listed
  listed_ascending = ascending_joined 5 (λ k. three (suc k) 0 0) (λ k. entries_of t s (suc k)) (λ k h. of_ascending (suc k))

-- one more case in front
in_front : {A B C D : Type 0} → D ↔ (B ⊎ C) → (A ⊎ D) ↔ ((A ⊎ B) ⊎ C)
in_front e = (
  ⊎_elim (λ a. inl (inl a)) (λ d. ⊎_elim (λ b. inl (inr b)) inr (e.0 d)),
  ⊎_elim (⊎_elim inl (λ b. inr (e.1 (inl b)))) (λ c. inr (e.1 (inr c))),
)

stands_append : (kind x y : ℕ) (l r : List ℕ) → Threes l → Stands kind x y (l ++ r) ↔ (Stands kind x y l ⊎ Stands kind x y r)
stands_append kind x y [] r h = (inr, ⊎_elim absurd (λ p. p))
stands_append kind x y (a ∷ []) r h = absurd h
stands_append kind x y (a ∷ b ∷ []) r h = absurd h
stands_append kind x y (a ∷ b ∷ c ∷ rest) r h = in_front (stands_append kind x y rest r h)

threes_append : (l r : List ℕ) → Threes l → Threes r → Threes (l ++ r)
threes_append [] r h g = g
threes_append (a ∷ []) r h g = absurd h
threes_append (a ∷ b ∷ []) r h g = absurd h
threes_append (a ∷ b ∷ c ∷ rest) r h g = threes_append rest r h g

threes_joined : (n : ℕ) (f : ℕ → List ℕ) → ((i : ℕ) → Threes (f i)) → Threes (joined n f)
unfolding joined
threes_joined zero f h = tt
threes_joined (suc n) f h = threes_append (joined n f) (f n) (threes_joined n f h) (h n)

stands_joined : (kind x y n : ℕ) (f : ℕ → List ℕ) → ((i : ℕ) → Threes (f i)) → Stands kind x y (joined n f) ↔ ((i : ℕ) × (i < n) × Stands kind x y (f i))
unfolding joined
stands_joined kind x y zero f h = (absurd, λ p. let below = p.1 in absurd (omega arith))
stands_joined kind x y (suc n) f h = Iff.trans (stands_append kind x y (joined n f) (f n) (threes_joined n f h)) (one_more (stands_joined kind x y n f h))
  where
    one_more : Stands kind x y (joined n f) ↔ ((i : ℕ) × (i < n) × Stands kind x y (f i)) → (Stands kind x y (joined n f) ⊎ Stands kind x y (f n)) ↔ ((i : ℕ) × (i < suc n) × Stands kind x y (f i))
    one_more below = (⊎_elim (λ p. let (i, g, q) = below.0 p in (i, omega arith, q)) (λ p. (n, omega arith, p)), back)
      where
        back : (i : ℕ) × (i < suc n) × Stands kind x y (f i) → Stands kind x y (joined n f) ⊎ Stands kind x y (f n)
        back (i, g, p) = go (ℕ_discrete i n)
          where
            go : Dec (i ≡ n) → Stands kind x y (joined n f) ⊎ Stands kind x y (f n)
            go (yes q) = inr (subst (λ i. Stands kind x y (f i)) q p)
            go (no q) = inl (below.1 (i, omega arith, p))

-- an entry holds its own three bytes, where the action can be taken, and no others
entry_stands : (t : Table) (s : State) (kind x y k a b : ℕ) → Stands kind x y (entry t s k a b) → refused_by t s (reading t kind x y) ≡ 0
entry_stands t s kind x y k a b = go (eqb (refused_by t s (reading t k a b)) 0) refl
  where
    go : (c : Bool) → eqb (refused_by t s (reading t k a b)) 0 ≡ c → Stands kind x y (cond c (k ∷ a ∷ b ∷ []) []) → refused_by t s (reading t kind x y) ≡ 0
    go true e (inl (p, q, r)) = sym (λ i. refused_by t s (reading t (p i) (q i) (r i))) ∙ eqb-true _ _ e
    go true e (inr p) = absurd p
    go false e p = absurd p

stands_entry : (t : Table) (s : State) (kind x y : ℕ) → refused_by t s (reading t kind x y) ≡ 0 → Stands kind x y (entry t s kind x y)
stands_entry t s kind x y e = rw (eq-eqb (refused_by t s (reading t kind x y)) 0 e) (inl (refl, refl, refl))

threes_entry : (t : Table) (s : State) (kind x y : ℕ) → Threes (entry t s kind x y)
threes_entry t s kind x y = ascending_threes _ _ (entry t s kind x y) (entry_ascending t s kind x y)

threes_at : (t : Table) (s : State) (kind x : ℕ) → Threes (entries_at t s kind x)
threes_at t s kind x =
    threes_append (joined t.nodes (entry t s kind x)) (entry t s kind x 255) (threes_joined t.nodes (entry t s kind x) (threes_entry t s kind x)) (threes_entry t s kind x 255)

threes_of : (t : Table) (s : State) (kind : ℕ) → Threes (entries_of t s kind)
threes_of t s kind = threes_joined t.nodes (entries_at t s kind) (threes_at t s kind)

threes_listed : (t : Table) (s : State) → Threes (listed t s)
unfolding listed
threes_listed t s = threes_joined 5 (λ k. entries_of t s (suc k)) (λ k. threes_of t s (suc k))

-- the bytes of an action that can be taken
refused_not : (t : Table) (s : State) (kind x y : ℕ) → refused_by t s (reading t kind x y) ≡ 0 → (1 ≤ kind) × (kind ≤ 5) × (x < t.nodes) × ((y < t.nodes) ⊎ (y ≡ 255))
refused_not t s kind x y = go (read t kind x y)
  where
    go : {r : Reading} → Read t kind x y r → refused_by t s r ≡ 0 → (1 ≤ kind) × (kind ≤ 5) × (x < t.nodes) × ((y < t.nodes) ⊎ (y ≡ 255))
    go (at_node (inl e) h f) q = (omega arith, omega arith, h, inr f)
    go (at_node (inr e) h f) q = (omega arith, omega arith, h, inr f)
    go (for_link low high h g i inside e) q = (omega arith, omega arith, h, inl g)
    go (not_read number) q = absurd (omega arith)

stands_at : (t : Table) (s : State) (kind x y k a : ℕ) → Stands kind x y (entries_at t s k a) ↔ (((b : ℕ) × (b < t.nodes) × Stands kind x y (entry t s k a b)) ⊎ Stands kind x y (entry t s k a 255))
stands_at t s kind x y k a =
    Iff.trans (stands_append kind x y (joined t.nodes (entry t s k a)) (entry t s k a 255) (threes_joined t.nodes (entry t s k a) (threes_entry t s k a)))
    (⊎_elim (λ p. inl (inner.0 p)) inr, ⊎_elim (λ p. inl (inner.1 p)) inr)
  where
    inner : Stands kind x y (joined t.nodes (entry t s k a)) ↔ ((b : ℕ) × (b < t.nodes) × Stands kind x y (entry t s k a b))
    inner = stands_joined kind x y t.nodes (entry t s k a) (threes_entry t s k a)

stands_of : (t : Table) (s : State) (kind x y k : ℕ) → Stands kind x y (entries_of t s k) ↔ ((a : ℕ) × (a < t.nodes) × Stands kind x y (entries_at t s k a))
stands_of t s kind x y k = stands_joined kind x y t.nodes (entries_at t s k) (threes_at t s k)

stands_listed : (t : Table) (s : State) (kind x y : ℕ) → Stands kind x y (listed t s) ↔ ((k : ℕ) × (k < 5) × Stands kind x y (entries_of t s (suc k)))
unfolding listed
stands_listed t s kind x y = stands_joined kind x y 5 (λ k. entries_of t s (suc k)) (λ k. threes_of t s (suc k))

pub listed_exactly : (t : Table) (s : State) (kind x y : ℕ) → Stands kind x y (listed t s) ↔ (refused_by t s (reading t kind x y) ≡ 0)
listed_exactly t s kind x y = (onto, back kind)
  where
    onto : Stands kind x y (listed t s) → refused_by t s (reading t kind x y) ≡ 0
    onto p =
        let (k, g, q) = (stands_listed t s kind x y).0 p in
        let (a, h, r) = (stands_of t s kind x y (suc k)).0 q in
        ⊎_elim (λ u. entry_stands t s kind x y (suc k) a u.0 u.2) (entry_stands t s kind x y (suc k) a 255) ((stands_at t s kind x y (suc k) a).0 r)

    back : (kind : ℕ) → refused_by t s (reading t kind x y) ≡ 0 → Stands kind x y (listed t s)
    back zero e = let low = (refused_not t s zero x y e).0 in absurd (omega arith)
    back (suc k) e =
        let (low, high, h, second) = refused_not t s (suc k) x y e in
        let own = stands_entry t s (suc k) x y e in
        let at = (stands_at t s (suc k) x y (suc k) x).1 (⊎_elim (λ g. inl (y, g, own)) (λ g. inr (subst (λ b. Stands (suc k) x y (entry t s (suc k) x b)) g own)) second) in
        (stands_listed t s (suc k) x y).1 (k, omega arith, (stands_of t s (suc k) x y (suc k)).1 (x, h, at))

-- a list of threes in which nothing stands is empty
nothing_stands : (l : List ℕ) → Threes l → ((kind x y : ℕ) → Stands kind x y l → ⊥) → l ≡ []
nothing_stands [] h f = refl
nothing_stands (a ∷ []) h f = absurd h
nothing_stands (a ∷ b ∷ []) h f = absurd h
nothing_stands (a ∷ b ∷ c ∷ rest) h f = absurd (f a b c (inl (refl, refl, refl)))

-- an action that can be taken names a possible step
taken_step : (t : Table) (s : State) (kind x y : ℕ) → refused_by t s (reading t kind x y) ≡ 0 → (z : Step) × (possible t s z ≡ true)
taken_step t s kind x y = go (read t kind x y)
  where
    go : {r : Reading} → Read t kind x y r → refused_by t s r ≡ 0 → (z : Step) × (possible t s z ≡ true)
    go (at_node node h f) e = (_, possible_taken t s (node_step kind x) e)
    go (for_link low high h g i inside f) e = (_, possible_taken t s (link_step kind i (direction_from t i x)) e)
    go (not_read number) e = absurd (omega arith)

pub lists_steps : (t : Table) (s : State) → t.nodes ≤ 255 → EndsBelow t → NoSelfLink t → NoRepeat t → ListsSteps t s
lists_steps t s bytes ends loops repeats =
    record {
      exactly = listed_exactly t s;
      ascending = listed_ascending t s bytes;
      every = every;
      once = read_once t loops;
      empty = (at_rest, nothing);
    }
  where
    every : (x : Step) → possible t s x ≡ true → Stands (kind_of x) (first_of t x) (second_of t x) (listed t s) × (reading t (kind_of x) (first_of t x) (second_of t x) ≡ names x)
    every x e =
        let same = read_step t ends loops repeats x (possible_in_table t s x e) in
        ((listed_exactly t s (kind_of x) (first_of t x) (second_of t x)).1 (ap (refused_by t s) same ∙ ap (λ b. cond b 0 11) e), same)

    at_rest : listed t s ≡ [] → moving t s ≡ false
    at_rest e =
        ⊎_elim (λ f. let (x, g) = moving_step t s f in absurd (subst (Stands (kind_of x) (first_of t x) (second_of t x)) e (every x g).0)) (λ f. f)
        (cases_Bool (moving t s))

    nothing : moving t s ≡ false → listed t s ≡ []
    nothing e =
        nothing_stands (listed t s) (threes_listed t s)
        (λ kind x y p. let (z, g) = taken_step t s kind x y ((listed_exactly t s kind x y).0 p) in clash (moves t s z g) e)
